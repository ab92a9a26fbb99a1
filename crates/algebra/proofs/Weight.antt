-- A word of even weight makes any lane even.
-- Assumes nothing.
use Prim.Native.Nat.{ℕ, zero, suc, ◌+◌, ◌/◌, ◌%◌, ◌^◌, ◌<◌}
use mathlib.Core.Path.{◌≡◌, refl, sym, ap, ◌∙◌}
use native.Mathlib.Nat.{mod-lt, zero-lt-suc}
use native.Mathlib.Omega.{arith}
use Rattle.laws.proofs.Xor.{⊕_self, ⊕_zero, zero_⊕}
use Rattle.laws.specs.Bit.{bit, weight}
use Rattle.laws.specs.Sum.{pick, sum}
use Rattle.laws.specs.Xor.{◌⊕◌}

pick_mod : (x b c r : ℕ) → b < 2 → x % 2 ≡ r → pick r c ⊕ pick b c ≡ pick ((x + b) % 2) c
unfolding pick
pick_mod x zero c zero h e = let z : (x + 0) % 2 ≡ 0 = omega arith in ⊕_zero 0 ∙ ap (λ (k : ℕ). pick k c) (sym z)
pick_mod x zero c (suc r) h e = let z : (x + 0) % 2 ≡ suc r = omega arith in ⊕_zero c ∙ ap (λ (k : ℕ). pick k c) (sym z)
pick_mod x (suc zero) c zero h e = let z : (x + 1) % 2 ≡ 1 = omega arith in zero_⊕ c ∙ ap (λ (k : ℕ). pick k c) (sym z)
pick_mod x (suc zero) c (suc r) h e = let z : (x + 1) % 2 ≡ 0 = omega arith in ⊕_self c ∙ ap (λ (k : ℕ). pick k c) (sym z)
pick_mod x (suc (suc b)) c r h e = absurd (omega arith)

pub weigh : (u c m : ℕ) → sum m (λ i. pick (bit u i) c) ≡ pick (weight u m % 2) c
unfolding sum weight pick bit
weigh u c zero = refl
weigh u c (suc m) =
    ap (λ (x : ℕ). x ⊕ pick (bit u m) c) (weigh u c m) ∙ pick_mod (weight u m) (bit u m) c (weight u m % 2) (mod-lt (u / 2 ^ m) (zero-lt-suc 1)) refl
