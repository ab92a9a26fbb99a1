-- "Five useless programs must not meet it": each breaks the rules that document 01 names for it, on the image I and the writes of P9 and P10.
-- Assumes nothing.
use Prim.Native.Nat.{ℕ, ◌<◌, ◌^◌}
use mathlib.Core.List.{List, [], ◌∷◌}
use mathlib.Core.Logic.{◌≢◌}
use mathlib.Core.Path.{◌≡◌, ap, ◌∙◌, sym, refl, subst}
use native.Mathlib.Omega.{arith}
use lib.Dec.{ltb, ltb→lt}
use lib.ListN.{get_or, replicate}
use Rattle.std.specs.Prelude.{Result, Ok}
use Rattle.laws.proofs.Choose.{below_at}
use Rattle.laws.specs.Bit.{weight, bit, pack}
use Rattle.laws.specs.Choose.{below}
use Rattle.laws.specs.Left.{Left}
use Rattle.laws.specs.Part.{put, tab}
use Rattle.laws.specs.Patch.{patch}
use Rattle.laws.specs.Sum.{total, sum, pick}
use Rattle.laws.specs.Xor.{◌⊕◌}
use Rattle.algebra.specs.Column.{lane, coefficient}
use Rattle.algebra.specs.Divide.{quot, turn, gap, inv, evens}
use Rattle.algebra.specs.Lane.{D, act}
use Rattle.algebra.specs.Prime.{odd_prime}
use Rattle.algebra.specs.Word.{over_of, times_of, lane_of}
use Rattle.stripe.specs.Examples.{example_image, example_params}
use Rattle.stripe.specs.Layout.{data_count_at, revision_of, parity_byte}
use Rattle.stripe.specs.Params.{checked_of, admitted_prime, admitted_shape, admitted_strip}
use Rattle.stripe.specs.Reading.{read_of, with_params, sections_of}
use Rattle.stripe.specs.declared.Params.{Params}
use Rattle.block.specs.Parity.{due, Right}
use Rattle.block.specs.Touches.{touch_word, count}
use Rattle.parity.proofs.Rightness.{check_none}
use Rattle.parity.specs.Answer.{wrong_parities, parity_right}
use Rattle.pattern.specs.Pattern.{pattern_fits, few_lost, consulted, lost_exponents, present_exponents}
use Rattle.rebuild.proofs.Independent.{rebuilt_keeps}
use Rattle.rebuild.specs.Agrees.{AgreesOutside}
use Rattle.rebuild.specs.Lost.{rebuilt, whole_data, whole_parity, recovered, consulted_lanes, present_lanes}
use Rattle.revision.specs.Revision.{renewed, Behind}
use Rattle.store.specs.Image.{image_log, image_last}
use Rattle.store.specs.Store.{Write, Entry, later, last_accepted, byte_of}
use Rattle.promises.proofs.Accepted.{reads_image}
use Rattle.promises.proofs.Away.{agrees_sym}
use Rattle.promises.specs.Demand2.{Pattern, Rebuilds}
use Rattle.promises.specs.Demand3.{Answer, RevisionBytes, Sound, Current}
use Rattle.promises.specs.Useful.{RefusesExactly, PutsNewBytes, SetsRevision, HoldsLastWrites, HoldsLastParity, CountsPairs, TellsDistance}
use Rattle.refusal.specs.declared.Refusal.{Refusal}

-- ---- I and the writes

abbrev I : List ℕ
I = example_image

abbrev Q : Params
Q = example_params

I_reads : read_of I ≡ Ok Q
unfolding read_of with_params sections_of checked_of admitted_prime admitted_shape admitted_strip odd_prime below
I_reads = refl

I_bytes : RevisionBytes I Q
unfolding below
I_bytes o l h = ltb→lt (get_or I o 0) 256 (below_at (λ o. ltb (get_or I o 0) 256) (data_count_at Q) tt o h)

I_right : Right I Q
unfolding wrong_parities parity_right due lane coefficient D act quot turn gap inv evens bit weight pack sum pick ◌⊕◌ below
I_right = (check_none I Q (reads_image I Q I_reads)).0 refl

-- a write of 00 to column 1, row 1, against a base: P9 with 7, P10 with 6
abbrev writing : ℕ → Write
writing base = record { column = 1; row = 1; base = base; strip = 0 ∷ [] }

writing_sound : (base : ℕ) → base < 2 ^ 32 → Sound Q (writing base)
writing_sound base h = record { column_in = omega arith; row_in = omega arith; width_due = refl; base_in = h }

ninth_current : Current I Q (writing 7)
ninth_current = record { reads = I_reads; bytes = I_bytes; sound = writing_sound 7 (omega arith); base = refl }

-- ---- the programs, by what they answer and what they leave

module _ (told : List ℕ → Write → Answer) (left : List ℕ → Write → List ℕ) where
  -- "One that refuses all writes, and one that always answers alike, break demand 3's exact refusal rule."
  pub refuses_all : ((s : List ℕ) (w : Write) → (told s w).refusal ≢ 0) → RefusesExactly told left → ⊥
  refuses_all never rule = never I (writing 7) ((rule I Q (writing 7) I_reads I_bytes (writing_sound 7 (omega arith))).1 refl)

  pub answers_alike : (a : Answer) → ((s : List ℕ) (w : Write) → told s w ≡ a) → RefusesExactly told left → ⊥
  answers_alike a always rule =
      let nine : (told I (writing 7)).refusal ≡ 0 = (rule I Q (writing 7) I_reads I_bytes (writing_sound 7 (omega arith))).1 refl in
      let ten : (told I (writing 6)).refusal ≡ 0 = ap (λ (x : Answer). x.refusal) (always I (writing 6) ∙ sym (always I (writing 7))) ∙ nine in
      let z : ◌≡◌ {A = ℕ} 7 6 = (rule I Q (writing 6) I_reads I_bytes (writing_sound 6 (omega arith))).0 ten in omega arith

  -- "One that does nothing breaks the new bytes and revision above": each of them
  module _ (nothing : (s : List ℕ) (w : Write) → left s w ≡ s) where
    pub does_nothing_to_bytes : PutsNewBytes told left → ⊥
    does_nothing_to_bytes rule =
        let z : ◌≡◌ {A = ℕ} 2 0 = ap (λ (l : List ℕ). get_or l 27 0) (sym (nothing I (writing 7))) ∙ rule I Q (writing 7) ninth_current 0 (omega arith) in omega arith

    pub does_nothing_to_revision : SetsRevision told left → ⊥
    unfolding renewed
    does_nothing_to_revision rule =
        let z : ◌≡◌ {A = ℕ} 7 8 = ap (λ (l : List ℕ). revision_of l 1) (sym (nothing I (writing 7))) ∙ rule I Q (writing 7) ninth_current in omega arith

  -- "One that obeys only its first write breaks demand 3's last state": it accepts P9's write, then one of 05 to row 0 of that column, and leaves what the
  -- first left
  abbrev first : Entry
  first = record { number = 0; write = writing 7 }

  abbrev second : Entry
  second = record { number = 1; write = record { column = 1; row = 0; base = 8; strip = 5 ∷ [] } }

  module _ (accepts_first : (told I first.write).refusal ≡ 0) (accepts_second : (told (left I first.write) second.write).refusal ≡ 0)
      (obeys_first : left (left I first.write) second.write ≡ left I first.write) where
    -- "the bytes of the last accepted write in each data strip"
    pub obeys_first_only : HoldsLastWrites told left → ⊥
    unfolding image_last image_log last_accepted later byte_of
    obeys_first_only rule =
        let one = rule I Q (first ∷ []) I_reads I_bytes 1 0 0 (omega arith) (omega arith) (omega arith) in
        let two = rule I Q (first ∷ second ∷ []) I_reads I_bytes 1 0 0 (omega arith) (omega arith) (omega arith) in
        let z : ◌≡◌ {A = ℕ} 0 5 = sym (rw accepts_first at one) ∙ ap (λ (l : List ℕ). get_or l 26 0) (sym obeys_first) ∙ (rw (accepts_first, accepts_second) at two) in omega arith

    -- "and parity by demand 2's definition"
    pub obeys_first_only_in_parity : HoldsLastParity told left → ⊥
    unfolding image_last image_log last_accepted later byte_of due lane coefficient D act quot turn gap inv evens bit sum pick ◌⊕◌
    obeys_first_only_in_parity rule =
        let one = rule I Q (first ∷ []) I_reads I_bytes I_right 0 2 0 (omega arith) (omega arith) (omega arith) in
        let two = rule I Q (first ∷ second ∷ []) I_reads I_bytes I_right 0 2 0 (omega arith) (omega arith) (omega arith) in
        let z : ◌≡◌ {A = ℕ} 1 4 = sym (rw accepts_first at one) ∙ ap (λ (l : List ℕ). parity_byte l Q 0 2 0) (sym obeys_first) ∙ (rw (accepts_first, accepts_second) at two) in omega arith

  -- "One that invents the count breaks the pairs (j, q)": P9's strip touches 6
  pub invents_count : (told I (writing 7)).count ≢ 6 → CountsPairs told left → ⊥
  unfolding count total weight touch_word over_of times_of lane_of pack quot turn gap inv evens D act bit sum pick ◌⊕◌
  invents_count other rule = other (rule I Q (writing 7) ninth_current)

  -- request 2: one that invents the distance; P10 is behind by 1
  pub invents_distance : (told I (writing 6)).refusal ≡ 10 → (told I (writing 6)).distance ≢ 1 → TellsDistance told left → ⊥
  invents_distance stale other rule =
      let b : Behind 7 6 (told I (writing 6)).distance = (rule I Q (writing 6) I_reads I_bytes (omega arith)).stale stale in
      other (omega (arith, b.some, b.most, b.renewals))

-- ---- "and demand 2 for rebuild"

-- I with its data columns cleared
abbrev cleared : List ℕ
cleared = put I 22 (replicate 8 0)

cleared_reads : read_of cleared ≡ Ok Q
unfolding put read_of with_params sections_of checked_of admitted_prime admitted_shape admitted_strip odd_prime below
cleared_reads = refl

cleared_rebuilt : rebuilt cleared Q 3 ≡ I
unfolding put rebuilt patch tab whole_data whole_parity recovered consulted lost_exponents present_exponents consulted_lanes present_lanes due lane coefficient D act quot turn gap inv evens bit weight sum pick ◌⊕◌
cleared_rebuilt = refl

cleared_agrees : AgreesOutside I cleared Q 3
cleared_agrees =
    agrees_sym cleared I Q 3 (subst (λ (l : List ℕ). AgreesOutside cleared l Q 3) cleared_rebuilt (rebuilt_keeps cleared Q 3 (reads_image cleared Q cleared_reads)))

both_lost : Pattern Q 3
unfolding pattern_fits few_lost weight bit
both_lost = record { fits = tt; few = tt }

-- a rebuild that does nothing: byte 22 stays 0, and is 1 in I
pub rebuilds_nothing : (f : List ℕ → ℕ → Left (Result (Unit {0}) Refusal)) → ((s : List ℕ) (m : ℕ) → (f s m).image ≡ s) → Rebuilds f → ⊥
unfolding put
rebuilds_nothing f nothing rule =
    let z : ◌≡◌ {A = ℕ} 0 1 = ap (λ (l : List ℕ). get_or l 22 0) (sym (nothing cleared 3) ∙ (rule I cleared Q 3 I_reads I_right both_lost cleared_agrees).left) in omega arith
