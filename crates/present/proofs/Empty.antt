-- "With the empty pattern nothing differs from before.": which parity strips are touched.
-- Assumes nothing.
use Prim.Native.Nat.{ℕ, ◌+◌}
use mathlib.Core.Path.{◌≡◌, ap, fun_ext}
use Rattle.laws.specs.Bit.{weight}
use Rattle.laws.specs.Sum.{total}
use Rattle.stripe.specs.Layout.{rows}
use Rattle.stripe.specs.declared.Params.{Params}
use Rattle.block.specs.Touches.{touch_word, count}
use Rattle.pattern.proofs.Single.{none_lost}
use Rattle.present.specs.Present.{present_word, present_count}

pub word_none : (q : Params) (i t j : ℕ) → present_word q 0 i t j ≡ touch_word q i t j
unfolding present_word
word_none q i t j = rw (none_lost (q.k + j))

pub count_none : (q : Params) (i t : ℕ) → present_count q 0 i t ≡ count q i t
unfolding present_count count
count_none q i t = ap (λ (f : ℕ → ℕ). total q.r (λ j. weight (f j) (rows q))) (fun_ext (word_none q i t))
