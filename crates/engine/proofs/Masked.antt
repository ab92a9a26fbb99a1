-- Row q of word · column is the XOR of the rows of the word's mask; one strip of a column reaches the rows of (x^t + x^(p-1)) · word.
-- Assumes nothing.
use Prim.Native.Nat.{ℕ, suc, ◌+◌, ◌-◌, ◌*◌, ◌%◌, ◌<◌}
use mathlib.Core.List.{List, [], ◌∷◌, map}
use mathlib.Core.Path.{◌≡◌, refl, sym, ap, ap₂, ◌∙◌}
use native.Mathlib.Nat.{mod-eq_of_lt}
use native.Mathlib.Omega.{arith}
use lib.ListN.{get_or}
use Rattle.laws.proofs.Bit.{bit_pack, bit_digit}
use Rattle.laws.proofs.Sum.{sum_ext, sum_back, sum_pick, sum_add}
use Rattle.laws.specs.Bit.{bit}
use Rattle.laws.specs.Sum.{pick, sum}
use Rattle.laws.specs.Xor.{◌⊕◌}
use Rattle.algebra.proofs.Action.{pick_xor}
use Rattle.algebra.proofs.Column.{lane_at, lane_last, lane_periodic, D_lt}
use Rattle.algebra.proofs.Lane.{by_place, D_code}
use Rattle.algebra.proofs.Word.{lane_of_digit, lane_of_periodic}
use Rattle.algebra.specs.Column.{lane}
use Rattle.algebra.specs.Lane.{act, D}
use Rattle.algebra.specs.Recovery.{acting}
use Rattle.algebra.specs.Word.{times_of, lane_of}
use Rattle.engine.proofs.Laws.{takes_lt}
use Rattle.engine.specs.Mask.{takes_of, mask_of}
use Rattle.engine.specs.Strips.{gathered, taken}

mask_bit : (n w q t : ℕ) → t < n → bit (mask_of (suc n) w q) t ≡ takes_of (suc n) w q t
unfolding mask_of
mask_bit n w q t l = bit_pack n (takes_of (suc n) w q) t l ∙ mod-eq_of_lt (takes_lt (suc n) w q t)

-- coefficient q of w · column is the sum of the rows of its mask
pub masked : (n w q : ℕ) (s : ℕ → ℕ) → act n (bit w) (lane n s) q ≡ sum n (λ t. pick (bit (mask_of (suc n) w q) t) (s t))
unfolding takes_of
masked n w q s =
    let own : ℕ = bit w ((q + 1) % suc n) in
    let k : ℕ → ℕ = λ t. bit w ((q + (suc n - t)) % suc n) in
    let one : suc n - n ≡ 1 = omega arith in
    by_place n (bit w) (lane n s) (lane_periodic n s) q
    ∙ sum_back n (λ t. pick (k t) (lane n s t))
    ∙ ap₂ ◌⊕◌ (sum_ext n (λ t l. ap (pick (k t)) (lane_at n s t l)))
    (ap₂ pick (ap (λ (x : ℕ). bit w ((q + x) % suc n)) one) (lane_last n s) ∙ sym (sum_pick own n s))
    ∙ sym (sum_add n (λ t. pick (k t) (s t)) (λ t. pick own (s t)))
    ∙ sum_ext n (λ t l. sym (pick_xor (k t) own (s t) (bit_digit w _) (bit_digit w _)) ∙ ap (λ (b : ℕ). pick b (s t)) (sym (mask_bit n w q t l)))

-- what `take` adds is the sum of word · column
pub taken_acting : (n : ℕ) (src : List ℕ) (b q : ℕ) (ats ws : List ℕ) (i : ℕ)
    → taken (suc n) src b q ats ws i ≡ acting n ws (map (λ (at : ℕ). lane n (λ t. get_or src (at + t * b + i) 0)) ats) q
unfolding taken gathered
taken_acting n src b q [] [] i = refl
taken_acting n src b q [] (w ∷ ws) i = refl
taken_acting n src b q (at ∷ ats) [] i = refl
taken_acting n src b q (at ∷ ats) (w ∷ ws) i =
    ap₂ ◌⊕◌ (sym (masked n w q (λ t. get_or src (at + t * b + i) 0))) (taken_acting n src b q ats ws i)

-- the rows that strip t reaches by w are those of (x^t + x^(p-1)) · w
pub mask_times : (n t w q : ℕ) → t < n → q < suc n → bit (mask_of (suc n) w q) t ≡ bit (times_of (suc n) t n w) q
unfolding takes_of times_of lane_of
mask_times n t w q h k =
    let f : ℕ → ℕ = lane_of (suc n) w in
    let one : suc n - n ≡ 1 = omega arith in
    mask_bit n w q t h
    ∙ sym (bit_pack (suc n) (D n t n f) q k ∙ mod-eq_of_lt (D_lt n 1 t n f (lane_of_digit (suc n) w) q)
    ∙ D_code n f (lane_of_periodic (suc n) w) t n q (omega arith) (omega arith)
    ∙ ap (λ (x : ℕ). bit w ((q + (suc n - t)) % suc n) ⊕ bit w ((q + x) % suc n)) one)
