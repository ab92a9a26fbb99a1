-- One accepted write: its count is the number of parity strips that change, right parity stays right, wrong parity stays wrong by the same amount.
-- Assumes nothing.
use Prim.Native.Nat.{ℕ, zero, suc, ◌+◌, ◌<◌}
use mathlib.Core.Bool.{Bool, true, false}
use mathlib.Core.List.{List, [], ◌∷◌}
use mathlib.Core.Logic.{◌≢◌}
use mathlib.Core.Path.{◌≡◌, refl, sym, ap, ap₂, ◌∙◌}
use native.Mathlib.Omega.{arith}
use lib.Dec.{T, eqb, eqb→eq}
use lib.ListN.{length}
use borrow.Author.Tests.{eq-eqb}
use Rattle.std.specs.Prelude.{Ok}
use Rattle.laws.proofs.Bit.{bit_digit}
use Rattle.laws.proofs.Choose.{at_below, below_at, true_T, T_true}
use Rattle.laws.proofs.Sum.{cancel}
use Rattle.laws.proofs.Xor.{⊕_self, ⊕_zero}
use Rattle.laws.specs.Bit.{weight, bit}
use Rattle.laws.specs.Choose.{choose, below}
use Rattle.laws.specs.Sum.{total, pick}
use Rattle.laws.specs.Xor.{◌⊕◌}
use Rattle.stripe.specs.Layout.{rows, parity_byte, data_byte}
use Rattle.stripe.specs.Reading.{Image, read_of}
use Rattle.stripe.specs.declared.Params.{Params}
use Rattle.block.specs.Parity.{Right, due}
use Rattle.block.specs.Touches.{touches, touch_word, count}
use Rattle.away.specs.Away.{away_difference, away_written}
use Rattle.write.proofs.After.{present_parity, written_parity}
use Rattle.present.specs.Present.{present_word, present_count}
use Rattle.write.specs.Written.{written, difference}
use Rattle.store.specs.Image.{image_last}
use Rattle.store.specs.Store.{Write, Entry}
use Rattle.promises.proofs.Demand3.{demand_3_of}
use Rattle.promises.specs.Changed.{strip_changed, strips_changed}
use Rattle.promises.specs.Demand3.{RevisionBytes, Demand3, left}

total_ext : (n : ℕ) (f g : ℕ → ℕ) → ((i : ℕ) → i < n → f i ≡ g i) → total n f ≡ total n g
unfolding total
total_ext zero f g h = refl
total_ext (suc n) f g h = ap₂ (λ (x y : ℕ). x + y) (total_ext n f g (λ i l. h i (omega arith))) (h n (omega arith))

weight_total : (u n : ℕ) → weight u n ≡ total n (bit u)
unfolding weight total
weight_total u zero = refl
weight_total u (suc n) = ap (λ (x : ℕ). x + bit u n) (weight_total u n)

none : (a d : ℕ) → a ⊕ pick 0 d ≡ a
unfolding pick
none a d = ⊕_zero a

whole : (a d : ℕ) → a ⊕ pick 1 d ≡ a ⊕ d
unfolding pick
whole a d = refl

same_when_none : (a d : ℕ) → a ⊕ d ≡ a → d ≡ 0
same_when_none a d e = sym (cancel a d) ∙ ap (λ (x : ℕ). a ⊕ x) e ∙ ⊕_self a

-- s is now `after`: d was added to the parity strips that w names, and d isn't all zero
module _ (s after : List ℕ) (q : Params) (w d : ℕ → ℕ)
    (moves : (j u y : ℕ) → j < q.r → u < rows q → y < q.b → parity_byte after q j u y ≡ parity_byte s q j u y ⊕ pick (bit (w j) u) (d y))
    (x : ℕ) (hx : x < q.b) (some : d x ≢ 0) where
  changed_is : (j u : ℕ) → j < q.r → u < rows q → strip_changed s after q j u ≡ bit (w j) u
  unfolding strip_changed
  changed_is j u hj hu = go (bit (w j) u) refl (bit_digit (w j) u)
    where
      same : ℕ → Bool
      same y = eqb (parity_byte s q j u y) (parity_byte after q j u y)

      go : (c : ℕ) → bit (w j) u ≡ c → c < 2 → choose (below q.b same) 0 1 ≡ bit (w j) u
      go zero e l =
          let all : T (below q.b same) =
          at_below same q.b (λ y h. true_T (same y) (eq-eqb (parity_byte s q j u y) (parity_byte after q j u y)
          (sym (moves j u y hj hu h ∙ ap (λ (c : ℕ). parity_byte s q j u y ⊕ pick c (d y)) e ∙ none (parity_byte s q j u y) (d y))))) in
          rw (T_true (below q.b same) all) (sym e)
      go (suc zero) e l = rw (not_all (below q.b same) refl) (sym e)
        where
          not_all : (c : Bool) → below q.b same ≡ c → below q.b same ≡ false
          not_all false f = f
          not_all true f =
              let at : T (same x) = below_at same q.b (true_T (below q.b same) f) x hx in
              let z : parity_byte s q j u x ≡ parity_byte after q j u x = eqb→eq (parity_byte s q j u x) (parity_byte after q j u x) at in
              absurd (some (same_when_none (parity_byte s q j u x) (d x)
              (sym (z ∙ moves j u x hj hu hx ∙ ap (λ (c : ℕ). parity_byte s q j u x ⊕ pick c (d x)) e ∙ whole (parity_byte s q j u x) (d x)))))
      go (suc (suc c)) e l = absurd (omega arith)

  pub changed_by : strips_changed s after q ≡ total q.r (λ j. weight (w j) (rows q))
  unfolding strips_changed
  changed_by =
      total_ext q.r (λ j. total (rows q) (λ u. strip_changed s after q j u)) (λ j. weight (w j) (rows q))
      (λ j hj. total_ext (rows q) (λ u. strip_changed s after q j u) (bit (w j)) (λ u hu. changed_is j u hj hu) ∙ sym (weight_total (w j) (rows q)))

-- an accepted write
pub count_changed : (s : List ℕ) (q : Params) (i t b : ℕ) (v : List ℕ) → Image s q → i < q.k → t < rows q → length v ≡ q.b
    → (x : ℕ) → x < q.b → difference s q i t v x ≢ 0 → strips_changed s (written s q i t b v) q ≡ count q i t
unfolding count touches
count_changed s q i t b v I hi ht hv = changed_by s (written s q i t b v) q (touch_word q i t) (difference s q i t v) (written_parity s q i t b v I hi ht hv)

-- the same while columns are lost
pub away_changed : (s : List ℕ) (q : Params) (m i t b : ℕ) (v : List ℕ) → Image s q → i < q.k → t < rows q → length v ≡ q.b
    → (x : ℕ) → x < q.b → away_difference s q m i t v x ≢ 0 → strips_changed s (away_written s q m i t b v) q ≡ present_count q m i t
unfolding present_count away_written
away_changed s q m i t b v I hi ht hv =
    let d : ℕ → ℕ = away_difference s q m i t v in
    changed_by s (away_written s q m i t b v) q (present_word q m i t) d (present_parity s q m i t b v d I hi ht hv)

-- ---- one write, as a list of one

abbrev alone : Write → List Entry
alone w = record { number = 0; write = w } ∷ []

one_write : (s : List ℕ) (q : Params) → read_of s ≡ Ok q → RevisionBytes s q → (w : Write) → Demand3 s q (alone w) (alone w)
one_write s q i b w = demand_3_of s q i b (alone w)

module _ (s : List ℕ) (q : Params) (i : read_of s ≡ Ok q) (b : RevisionBytes s q) (w : Write) where
  -- an accepted write on a right image leaves a right image
  pub write_keeps_right : Right s q → Right (left s w) q
  unfolding image_last
  write_keeps_right = (one_write s q i b w).right_stays

  -- "A wrong parity stays wrong by the same amount."
  pub write_keeps_wrong : (j t x : ℕ) → j < q.r → t < rows q → x < q.b
      → parity_byte (left s w) q j t x ⊕ due q (data_byte (left s w) q) j t x ≡ parity_byte s q j t x ⊕ due q (data_byte s q) j t x
  unfolding image_last
  write_keeps_wrong = (one_write s q i b w).wrong_stays
