-- Demand 1: each call gives the first refusal of its list that is due, nothing beside it, and leaves what it was lent.
-- Assumes nothing.
use Prim.Native.Nat.{ℕ, zero, suc, ◌+◌, ◌-◌, ◌*◌, ◌^◌, ◌<◌}
use mathlib.Core.Bool.{Bool, true, false, not, ◌&&◌}
use mathlib.Core.List.{List, [], ◌∷◌}
use mathlib.Core.Logic.{◌≢◌, inl, inr}
use mathlib.Core.Path.{◌≡◌, refl}
use native.Mathlib.Decide.{ℕ_discrete, dec_lt}
use native.Mathlib.Omega.{arith}
use borrow.Author.Tests.{lt-ltb, le-ltb, le-leb, ne_eqb}
use lib.Dec.{eqb, ltb, leb}
use lib.ListN.{length}
use Rattle.std.specs.Prelude.{Ok, Err, Result}
use Rattle.laws.specs.Bit.{bit}
use Rattle.laws.specs.Choose.{choose}
use Rattle.laws.specs.Left.{Left}
use Rattle.laws.specs.Number.{u16}
use Rattle.laws.specs.Xor.{◌⊕◌}
use Rattle.algebra.specs.Word.{element}
use Rattle.refusal.specs.declared.Refusal.{Refusal}
use Rattle.refusal.specs.declared.Refusal.TheVariants.{Cut, Tail, Count, Prime, Shape, Strip, Width, Column, Row, Stale, Ahead, Many, Room, Exponent, Foreign, Twice, Element as NotElement}
use Rattle.refusal.specs.Number.{number_of, answer_number}
use Rattle.stripe.specs.declared.Params.{Params}
use Rattle.stripe.specs.Layout.{rows, column_length, data_count_at, parity_count_at, image_length, revision_of}
use Rattle.stripe.specs.Params.{admitted_prime, admitted_shape, admitted_strip, checked_of}
use Rattle.stripe.specs.Reading.{read_of, with_params, sections_of}
use Rattle.stripe.specs.Sections.{numbers_at}
use Rattle.ring.specs.Answer.{different, product_answer, divide_answer}
use Rattle.parity.specs.Answer.{make_of, make_checked, make_sound, refill_of, refill_read, check_of, check_read}
use Rattle.pattern.specs.Pattern.{pattern_fits, few_lost, asked, asked_read}
use Rattle.rebuild.specs.Answer.{rebuild_of, rebuild_read, restore_of, restore_asked, shown, shown_asked, shown_at, shown_asked_at, show_number}
use Rattle.revision.specs.declared.Age.{Age}
use Rattle.revision.specs.declared.Age.TheVariants.{Current, Older, Newer, Unclear}
use Rattle.revision.specs.Revision.{judged, distance, is_current, age_number, age_distance}
use Rattle.write.specs.Written.{write_of, write_read, write_sound, write_judged, by_age, written_number, written_distance}
use Rattle.away.specs.Away.{away_of, away_read, away_sound, away_judged}
use Rattle.column_file.specs.File.{flag, number_at, flag_at, file_length}
use Rattle.file_by_file.specs.Files.{first_params, alike, counted, body_step, column_step, checked_step, step_of, onward, walk}
use Rattle.columns.specs.Export.{export_sound, export_read, export_of, file_length_sound, file_length_read, file_length_of}
use Rattle.columns.specs.Import.{import_sound, import_met, import_of, files_length_met, files_length_of}
use Rattle.promises.specs.Demand1.{Test, ◌when◌, params_then, section_numbers, reading_then, product_order, divide_order, make_order, age_order, write_order, away_order, rebuild_order, strip_order, file_length_order, export_order, file_then, files_then, all_files_then, import_order, Outcome, only_answered, of_word, of_params, of_outcome, of_written, of_imported, Zeros, none, one_more, RefusesInOrder, distance_due, Demand1}
use Rattle.write.specs.declared.Accepted.{Accepted}
use Rattle.write.specs.declared.Refused.{Refused}
use Rattle.file_by_file.specs.declared.File.{File}
use Rattle.write.specs.declared.Refused.TheVariants.{Aged, Other}

-- whichever way a choice goes, where its test is known then; and where it is not asked for
pub by_test : {A : Type 0} (P : A → Type 0) (b : Bool) (x y : A) → (b ≡ true → P x) → P y → P (choose b x y)
by_test P true x y h k = h refl
by_test P false x y h k = k

either : {A : Type 0} (P : A → Type 0) (b : Bool) (x y : A) → P x → P y → P (choose b x y)
either P b x y h k = by_test P b x y (λ _. h) k

-- ---- one test of an order

-- what a refusal comes to
record RefusedBy (e : Refusal) (c : Outcome) : Type 0 where
  number : c.refusal ≡ number_of e
  zeros : Zeros c.beside
  same : c.left ≡ c.lent

refuses : (e : Refusal) (c : Outcome) (more : List Test) → RefusedBy e c → RefusesInOrder ((e when true) ∷ more) c
refuses e c more h = record { first = h.number; in_table = inr (e, h.number); beside_zero = λ _. h.zeros; unchanged = λ _. h.same }

accepts : (c : Outcome) → c.refusal ≡ 0 → RefusesInOrder [] c
accepts c e = record { first = e; in_table = inl e; beside_zero = λ n. absurd (n e); unchanged = λ n. absurd (n e) }

passed : (e : Refusal) (c : Outcome) (more : List Test) → RefusesInOrder more c → RefusesInOrder ((e when false) ∷ more) c
passed e c more h = record { first = h.first; in_table = h.in_table; beside_zero = h.beside_zero; unchanged = h.unchanged }

-- a choice that goes on where its test holds, and one that goes on where it doesn't
module _ {A : Type 0} (f : A → Outcome) (e : Refusal) (x y : A) {more : List Test} (bad : RefusedBy e (f y)) (on : RefusesInOrder more (f x)) where
  needs_test : (b : Bool) → RefusesInOrder ((e when not b) ∷ more) (f (choose b x y))
  needs_test true = passed e (f x) more on
  needs_test false = refuses e (f y) more bad

  fails_test : (b : Bool) → RefusesInOrder ((e when b) ∷ more) (f (choose b y x))
  fails_test true = refuses e (f y) more bad
  fails_test false = passed e (f x) more on

-- ---- parameters and reading, whatever follows them

params_first : (p k r b : ℕ) (f : Result Params Refusal → Outcome) (more : List Test) → ((e : Refusal) → RefusedBy e (f (Err e)))
    → RefusesInOrder more (f (Ok (record { p = p; k = k; r = r; b = b }))) → RefusesInOrder (params_then p k r b more) (f (checked_of p k r b))
unfolding checked_of
params_first p k r b f more bad on =
    needs_test f Prime _ _ (bad Prime)
    (needs_test f Shape _ _ (bad Shape)
    (needs_test f Strip _ _ (bad Strip) on (admitted_strip b))
    (admitted_shape p k r))
    (admitted_prime p)

sections_first : (s : List ℕ) (q : Params) (f : Result Params Refusal → Outcome) (more : List Test) → ((e : Refusal) → RefusedBy e (f (Err e))) → RefusesInOrder more (f (Ok q))
    → RefusesInOrder
    ((Cut when ltb (length s) (image_length q)) ∷ (Tail when ltb (image_length q) (length s)) ∷ (Count when not (eqb (u16 s 10) q.k))
    ∷ (Count when not (eqb (u16 s (data_count_at q)) q.k)) ∷ (Count when not (eqb (u16 s (parity_count_at q)) q.r)) ∷ more) (f (sections_of s q))
unfolding sections_of
sections_first s q f more bad on =
    fails_test f Cut _ _ (bad Cut)
    (fails_test f Tail _ _ (bad Tail)
    (needs_test f Count _ _ (bad Count)
    (needs_test f Count _ _ (bad Count)
    (needs_test f Count _ _ (bad Count) on (eqb (u16 s (parity_count_at q)) q.r))
    (eqb (u16 s (data_count_at q)) q.k))
    (eqb (u16 s 10) q.k))
    (ltb (image_length q) (length s)))
    (ltb (length s) (image_length q))

reading_first : (s : List ℕ) (f : Result Params Refusal → Outcome) (more : List Test) → ((e : Refusal) → RefusedBy e (f (Err e))) → RefusesInOrder more (f (Ok (section_numbers s)))
    → RefusesInOrder (reading_then s more) (f (read_of s))
unfolding read_of with_params
reading_first s f more bad on =
    let q : Params = section_numbers s in
    fails_test f Cut _ _ (bad Cut)
    (needs_test f Count _ _ (bad Count)
    (fails_test f Cut _ _ (bad Cut)
    (params_first q.p q.k q.r q.b (λ c. f (with_params s c)) _ bad (sections_first s q f more bad on))
    (ltb (length s) 10))
    (eqb (u16 s 0) 4))
    (ltb (length s) 2)

-- ---- a base's age

-- the age at a distance
age_at : ℕ → Age
age_at d = choose (eqb d 0) Current (choose (eqb d (2 ^ 31)) Unclear (choose (ltb d (2 ^ 31)) (Older d) (Newer (2 ^ 32 - d))))

-- where a write that is current leaves l
module _ (s : List ℕ) (l : Left (Result Accepted Refused)) (now : written_number l.answer ≡ 0) where
  aged : Age → Outcome
  aged g = of_written s (by_age s l g)

  refused_by_age : (g : Age) (e : Refusal) → is_current g ≡ false → age_number g ≡ number_of e → RefusedBy e (aged g)
  unfolding aged
  refused_by_age g e h k = rw h (record { number = k; zeros = one_more (one_more none); same = refl })

  age_first : (d : ℕ) → RefusesInOrder (age_order d) (aged (age_at d))
  unfolding age_at aged
  age_first d = go (ℕ_discrete d 0) (ℕ_discrete d (2 ^ 31)) (dec_lt d (2 ^ 31))
    where
      go : Dec (d ≡ 0) → Dec (d ≡ 2 ^ 31) → Dec (d < 2 ^ 31) → RefusesInOrder (age_order d) (aged (age_at d))
      go (yes a) b c = rw a (passed Stale _ _ (passed Refusal.Unclear _ _ (passed Ahead _ _ (accepts _ now))))
      go (no a) (yes b) c = rw b (passed Stale _ _ (refuses Refusal.Unclear _ _ (refused_by_age Unclear Refusal.Unclear refl refl)))
      go (no a) (no b) (yes c) =
          rw (ne_eqb d 0 a, ne_eqb d (2 ^ 31) b, lt-ltb d (2 ^ 31) c, le-leb 1 d (omega arith))
          (refuses Stale _ _ (refused_by_age (Older d) Stale refl refl))
      go (no a) (no b) (no c) =
          rw (ne_eqb d 0 a, ne_eqb d (2 ^ 31) b, le-ltb d (2 ^ 31) (omega arith), le-leb 1 d (omega arith), lt-ltb (2 ^ 31) d (omega arith))
          (passed Stale _ _ (passed Refusal.Unclear _ _ (refuses Ahead _ _ (refused_by_age (Newer (2 ^ 32 - d)) Ahead refl refl))))

  judged_first : (n b : ℕ) → RefusesInOrder (age_order (distance n b)) (aged (judged n b))
  unfolding judged age_at
  judged_first n b = age_first (distance n b)

-- ---- the calls

a_zero : Zeros (0 ∷ [])
a_zero = one_more none

four_zeros : Zeros (0 ∷ 0 ∷ 0 ∷ 0 ∷ [])
four_zeros = one_more (one_more (one_more (one_more none)))

no_element : (e : Refusal) → RefusedBy e (of_word (Err e))
no_element e = record { number = refl; zeros = a_zero; same = refl }

product_ordered : (p u v : ℕ) → RefusesInOrder (product_order p u v) (of_word (product_answer p u v))
unfolding product_answer
product_ordered p u v =
    needs_test of_word Prime _ _ (no_element Prime)
    (needs_test of_word NotElement _ _ (no_element NotElement)
    (needs_test of_word NotElement _ _ (no_element NotElement) (accepts _ refl) (element p v))
    (element p u))
    (admitted_prime p)

divide_ordered : (p s a b : ℕ) → RefusesInOrder (divide_order p s a b) (of_word (divide_answer p s a b))
unfolding divide_answer
divide_ordered p s a b =
    needs_test of_word Prime _ _ (no_element Prime)
    (needs_test of_word NotElement _ _ (no_element NotElement)
    (needs_test of_word Exponent _ _ (no_element Exponent) (accepts _ refl) (different p a b))
    (element p s))
    (admitted_prime p)

params_ordered : (p k r b : ℕ) → RefusesInOrder (params_then p k r b []) (of_params (checked_of p k r b))
params_ordered p k r b = params_first p k r b of_params [] (λ e. record { number = refl; zeros = four_zeros; same = refl }) (accepts _ refl)

read_ordered : (s : List ℕ) → RefusesInOrder (reading_then s []) (of_params (read_of s))
read_ordered s = reading_first s of_params [] (λ e. record { number = refl; zeros = four_zeros; same = refl }) (accepts _ refl)

-- a refusal that leaves the slice s
kept_slice : (s : List ℕ) (e : Refusal) → RefusedBy e (of_outcome s (record { answer = Err e; image = s }))
kept_slice s e = record { number = refl; zeros = none; same = refl }

make_ordered : (p k r b : ℕ) (d s : List ℕ) → RefusesInOrder (make_order p k r b d s) (of_outcome s (make_of p k r b d s))
unfolding make_of make_checked make_sound
make_ordered p k r b d s =
    let q : Params = record { p = p; k = k; r = r; b = b } in
    params_first p k r b (λ c. of_outcome s (make_checked d s c)) _ (kept_slice s)
    (needs_test (of_outcome s) Width _ _ (kept_slice s Width)
    (needs_test (of_outcome s) Room _ _ (kept_slice s Room) (accepts _ refl) (eqb (length s) (image_length q)))
    (eqb (length d) (k * column_length q)))

refill_ordered : (s : List ℕ) → RefusesInOrder (reading_then s []) (of_outcome s (refill_of s))
unfolding refill_of refill_read
refill_ordered s = reading_first s (λ w. of_outcome s (refill_read s w)) [] (kept_slice s) (accepts _ refl)

check_ordered : (s : List ℕ) → RefusesInOrder (reading_then s []) (of_word (check_of s))
unfolding check_of check_read
check_ordered s = reading_first s (λ w. of_word (check_read s w)) [] (λ e. record { number = refl; zeros = a_zero; same = refl }) (accepts _ refl)

-- a refused write
kept_image : (s : List ℕ) (e : Refusal) → RefusedBy e (of_written s (record { answer = Err (Other e); image = s }))
kept_image s e = record { number = refl; zeros = one_more a_zero; same = refl }

write_ordered : (s : List ℕ) (i t b : ℕ) (v : List ℕ) → RefusesInOrder (write_order s i t b v) (of_written s (write_of s i t b v))
unfolding write_of write_read write_sound write_judged aged
write_ordered s i t b v =
    let q : Params = section_numbers s in
    reading_first s (λ w. of_written s (write_read s i t b v w)) _ (kept_image s)
    (needs_test (of_written s) Column _ _ (kept_image s Column)
    (needs_test (of_written s) Row _ _ (kept_image s Row)
    (needs_test (of_written s) Width _ _ (kept_image s Width) (judged_first s _ refl (revision_of s i) b) (eqb (length v) q.b))
    (ltb t (rows q)))
    (ltb i q.k))

away_ordered : (s : List ℕ) (m i t b : ℕ) (v : List ℕ) → RefusesInOrder (away_order s m i t b v) (of_written s (away_of s m i t b v))
unfolding away_of away_read away_sound away_judged aged
away_ordered s m i t b v =
    let q : Params = section_numbers s in
    reading_first s (λ w. of_written s (away_read s m i t b v w)) _ (kept_image s)
    (needs_test (of_written s) Column _ _ (kept_image s Column)
    (needs_test (of_written s) Row _ _ (kept_image s Row)
    (needs_test (of_written s) Width _ _ (kept_image s Width)
    (needs_test (of_written s) Many _ _ (kept_image s Many) (judged_first s _ refl (revision_of s i) b) (few_lost q m))
    (eqb (length v) q.b))
    (ltb t (rows q)))
    (pattern_fits q m && ltb i q.k))

rebuild_ordered : (s : List ℕ) (m : ℕ) → RefusesInOrder (rebuild_order s m) (of_outcome s (rebuild_of s m))
unfolding rebuild_of rebuild_read
rebuild_ordered s m =
    let q : Params = section_numbers s in
    reading_first s (λ w. of_outcome s (rebuild_read s m w)) _ (kept_slice s)
    (needs_test (of_outcome s) Column _ _ (kept_slice s Column)
    (needs_test (of_outcome s) Many _ _ (kept_slice s Many) (accepts _ refl) (few_lost q m))
    (pattern_fits q m))

-- a question about one strip, whatever follows where it is sound
asked_first : (s : List ℕ) (m n t room : ℕ) (f : Result Params Refusal → Outcome) → ((e : Refusal) → RefusedBy e (f (Err e))) → ((q : Params) → (f (Ok q)).refusal ≡ 0)
    → RefusesInOrder (strip_order s m n t room) (f (asked s m n t room))
unfolding asked asked_read
asked_first s m n t room f bad on =
    let q : Params = section_numbers s in
    reading_first s (λ w. f (asked_read m n t room w)) _ bad
    (needs_test f Column _ _ (bad Column)
    (needs_test f Row _ _ (bad Row)
    (needs_test f Many _ _ (bad Many)
    (needs_test f Room _ _ (bad Room) (accepts _ (on q)) (leb q.b room))
    (few_lost q m))
    (ltb t (rows q)))
    (pattern_fits q m && ltb n (q.k + q.r)))

restore_ordered : (s : List ℕ) (m n t : ℕ) (c : List ℕ) → RefusesInOrder (strip_order s m n t (length c)) (of_outcome c (restore_of s m n t c))
unfolding restore_of restore_asked
restore_ordered s m n t c = asked_first s m n t (length c) (λ w. of_outcome c (restore_asked s m n t c w)) (kept_slice c) (λ q. refl)

show_ordered : (s : List ℕ) (m n t room : ℕ) → RefusesInOrder (strip_order s m n t room) (only_answered (show_number s m n t room) [])
unfolding show_number
show_ordered s m n t room =
    asked_first s m n t room (λ w. only_answered (answer_number w) []) (λ e. record { number = refl; zeros = none; same = refl }) (λ q. refl)

-- ---- column files

unmeasured : (e : Refusal) → RefusedBy e (of_word (Err e))
unmeasured e = record { number = refl; zeros = a_zero; same = refl }

measure_ordered : (s : List ℕ) (n : ℕ) → RefusesInOrder (file_length_order s n []) (of_word (file_length_of s n))
unfolding file_length_of file_length_read file_length_sound
measure_ordered s n =
    let q : Params = section_numbers s in
    reading_first s (λ w. of_word (file_length_read n w)) _ unmeasured
    (needs_test of_word Column _ _ (unmeasured Column) (accepts _ refl) (ltb n (q.k + q.r)))

export_ordered : (s : List ℕ) (n : ℕ) (t : List ℕ) → RefusesInOrder (export_order s n (length t)) (of_outcome t (export_of s n t))
unfolding export_of export_read export_sound
export_ordered s n t =
    let q : Params = section_numbers s in
    reading_first s (λ w. of_outcome t (export_read s n t w)) _ (kept_slice t)
    (needs_test (of_outcome t) Column _ _ (kept_slice t Column)
    (needs_test (of_outcome t) Room _ _ (kept_slice t Room) (accepts _ refl) (eqb (length t) (file_length q n)))
    (ltb n (q.k + q.r)))

-- one file, whatever follows it
file_first : (s : List ℕ) (at met : ℕ) (f : Result File Refusal → Outcome) (more : List Test) → ((e : Refusal) → RefusedBy e (f (Err e)))
    → (let n : ℕ = u16 s (at + number_at) in RefusesInOrder more (f (Ok (record { column = n; end = (at + file_length (numbers_at s at) n) }))))
    → RefusesInOrder (file_then s at met more) (f (step_of s at met))
unfolding step_of checked_step column_step body_step
file_first s at met f more bad on =
    let q : Params = numbers_at s at in
    let n : ℕ = u16 s (at + number_at) in
    fails_test f Cut _ _ (bad Cut)
    (needs_test f Count _ _ (bad Count)
    (fails_test f Cut _ _ (bad Cut)
    (params_first q.p q.k q.r q.b (λ c. f (checked_step s at met c)) _ bad
    (needs_test f Column _ _ (bad Column)
    (needs_test f Foreign _ _ (bad Foreign)
    (needs_test f Twice _ _ (bad Twice)
    (fails_test f Cut _ _ (bad Cut)
    (needs_test f Count _ _ (bad Count) on (counted s at q n))
    (ltb (length s - at) (file_length q n)))
    (eqb (bit met n) 0))
    (alike s at && eqb (u16 s (at + flag_at)) (flag q n)))
    (ltb n (q.k + q.r))))
    (ltb (length s - at) 14))
    (eqb (u16 s at) 6))
    (ltb (length s - at) 2)

-- all files, whatever follows them
files_first : (most : ℕ) (s : List ℕ) (at met : ℕ) (f : Result ℕ Refusal → Outcome) (more : List Test) → ((e : Refusal) → RefusedBy e (f (Err e)))
    → ((m : ℕ) → RefusesInOrder more (f (Ok m))) → RefusesInOrder (files_then most s at met more) (f (walk most s at met))
unfolding files_then walk onward
files_first zero s at met f more bad on = refuses Cut _ _ (bad Cut)
files_first (suc most) s at met f more bad on =
    let n : ℕ = u16 s (at + number_at) in
    let to : ℕ = at + file_length (numbers_at s at) n in
    file_first s at met (λ w. f (onward s met (λ to m. walk most s to m) w)) _ bad
    (goes (ltb to (length s)) (files_first most s to (met ⊕ 2 ^ n) f more bad on) (on (met ⊕ 2 ^ n)))
  where
    goes : (b : Bool) {x y : Result ℕ Refusal} {l r : List Test} → RefusesInOrder l (f x) → RefusesInOrder r (f y) → RefusesInOrder (choose b l r) (f (choose b x y))
    goes true h k = h
    goes false h k = k

import_ordered : (s t : List ℕ) → RefusesInOrder (import_order s (length t)) (of_imported t (import_of s t))
unfolding import_of import_met import_sound
import_ordered s t =
    files_first (length s - 0) s 0 0 (λ w. of_imported t (import_met s t w)) _ unfilled
    (λ m. needs_test (of_imported t) Room _ _ (unfilled Room) (accepts _ refl) (eqb (length t) (image_length (first_params s))))
  where
    unfilled : (e : Refusal) → RefusedBy e (of_imported t (record { answer = Err e; image = t }))
    unfilled e = record { number = refl; zeros = a_zero; same = refl }

measure_all_ordered : (s : List ℕ) → RefusesInOrder (all_files_then s []) (of_word (files_length_of s))
unfolding files_length_of files_length_met
measure_all_ordered s = files_first (length s - 0) s 0 0 (λ w. of_word (files_length_met s w)) [] unmeasured (λ m. accepts _ refl)

-- ---- beside the refusals of a write

-- a statement on what reading gives holds if it does of each refusal that reading can give, and of the accepted image
reading_cases : (s : List ℕ) (P : Result Params Refusal → Type 0) → P (Err Cut) → P (Err Tail) → P (Err Count) → P (Err Prime) → P (Err Shape) → P (Err Strip)
    → P (Ok (section_numbers s)) → P (read_of s)
unfolding read_of with_params sections_of checked_of
reading_cases s P cut tail count prime shape strip on =
    let q : Params = section_numbers s in
    either P (ltb (length s) 2) _ _ cut
    (either P (eqb (u16 s 0) 4) _ _
    (either P (ltb (length s) 10) _ _ cut
    (either (λ c. P (with_params s c)) (admitted_prime q.p) _ _
    (either (λ c. P (with_params s c)) (admitted_shape q.p q.k q.r) _ _
    (either (λ c. P (with_params s c)) (admitted_strip q.b) _ _
    (either P (ltb (length s) (image_length q)) _ _ cut
    (either P (ltb (image_length q) (length s)) _ _ tail
    (either P (eqb (u16 s 10) q.k) _ _
    (either P (eqb (u16 s (data_count_at q)) q.k) _ _
    (either P (eqb (u16 s (parity_count_at q)) q.r) _ _ on count)
    count)
    count)))
    strip)
    shape)
    prime))
    count)

-- the distance of an answer is the due one
abbrev BesideDue : List ℕ → ℕ → ℕ → Result Accepted Refused → Type 0
BesideDue s i b a = written_distance a ≡ distance_due (written_number a) (revision_of s i) b

aged_distance : (d : ℕ) → let g = age_at d in age_distance g ≡ choose (eqb (age_number g) (number_of Stale)) d (choose (eqb (age_number g) (number_of Ahead)) (2 ^ 32 - d) 0)
unfolding age_at
aged_distance d =
    either (λ g. Told g) (eqb d 0) _ _ refl
    (either (λ g. Told g) (eqb d (2 ^ 31)) _ _ refl (either (λ g. Told g) (ltb d (2 ^ 31)) _ _ refl refl))
  where
    Told : Age → Type 0
    Told g = age_distance g ≡ choose (eqb (age_number g) (number_of Stale)) d (choose (eqb (age_number g) (number_of Ahead)) (2 ^ 32 - d) 0)

aged_due : (s : List ℕ) (i b : ℕ) (a : Result Accepted Refused) → BesideDue s i b a → let g = judged (revision_of s i) b in BesideDue s i b (choose (is_current g) a (Err (Aged g)))
unfolding judged age_at
aged_due s i b a h = either (BesideDue s i b) (is_current (judged (revision_of s i) b)) a _ h (aged_distance (distance (revision_of s i) b))

write_beside : (s : List ℕ) (i t b : ℕ) (v : List ℕ) → BesideDue s i b (write_of s i t b v).answer
unfolding write_of write_read write_sound write_judged
write_beside s i t b v =
    let q : Params = section_numbers s in
    let P : Left (Result Accepted Refused) → Type 0 = λ l. BesideDue s i b l.answer in
    reading_cases s (λ w. P (write_read s i t b v w)) refl refl refl refl refl refl
    (either P (ltb i q.k) _ _ (either P (ltb t (rows q)) _ _ (either P (eqb (length v) q.b) _ _ (aged_due s i b _ refl) refl) refl) refl)

away_beside : (s : List ℕ) (m i t b : ℕ) (v : List ℕ) → BesideDue s i b (away_of s m i t b v).answer
unfolding away_of away_read away_sound away_judged
away_beside s m i t b v =
    let q : Params = section_numbers s in
    let P : Left (Result Accepted Refused) → Type 0 = λ l. BesideDue s i b l.answer in
    reading_cases s (λ w. P (away_read s m i t b v w)) refl refl refl refl refl refl
    (either P (pattern_fits q m && ltb i q.k) _ _
    (either P (ltb t (rows q)) _ _ (either P (eqb (length v) q.b) _ _ (either P (few_lost q m) _ _ (aged_due s i b _ refl) refl) refl) refl) refl)

-- "A refused show returns an empty part of the scratch"
show_nothing : (s : List ℕ) (m n t : ℕ) (c : List ℕ) (x y : ℕ × ℕ) → show_number s m n t (length c) ≢ 0 → (shown s m n t c ≡ []) × (shown_at s m n t (length c) x y ≡ y)
unfolding shown shown_asked shown_at shown_asked_at show_number
show_nothing s m n t c x y h = go (asked s m n t (length c)) h
  where
    go : (w : Result Params Refusal) → answer_number w ≢ 0 → (shown_asked s m n t c w ≡ []) × (shown_asked_at m n t x y w ≡ y)
    go (Ok q) n = absurd (n refl)
    go (Err e) n = (refl, refl)

-- ---- the theorem

pub demand_1 : Demand1
demand_1 = record {
  product = product_ordered;
  divide = divide_ordered;
  parameters = params_ordered;
  read = read_ordered;
  make = make_ordered;
  refill = refill_ordered;
  check = check_ordered;
  write = write_ordered;
  away = away_ordered;
  rebuild = rebuild_ordered;
  restore = restore_ordered;
  show = show_ordered;
  export = export_ordered;
  import = import_ordered;
  file_length = measure_ordered;
  files_length = measure_all_ordered;
  write_distance = write_beside;
  away_distance = away_beside;
  show_empty = show_nothing;
}
