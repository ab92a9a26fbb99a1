-- (ℕ, ⊕, 0) is a group in which each element is its own inverse.
-- Assumes nothing.
use Prim.Native.Nat.{ℕ, zero, suc, ◌+◌, ◌*◌, ◌/◌, ◌%◌, ◌<◌, ◌^◌}
use mathlib.Core.Path.{◌≡◌, refl, sym, ap, ap₂, ◌∙◌}
use native.Mathlib.Nat.{zero-lt-suc, mod-lt}
use native.Mathlib.Omega.{arith}
use lib.Arith.{bin_ind, digits_div, digits_mod}
use lib.Bits.{bit_xor, differ, xor_step, xor_comm, xor_self, xor_zero_r, xor_zero_l, xor_lt, xor_mod}
use Rattle.laws.specs.Xor.{◌⊕◌}

two_pos : zero < 2
two_pos = zero-lt-suc 1

differ_lt : (x y : ℕ) → x < 2 → y < 2 → differ x y < 2
differ_lt zero y hx hy = hy
differ_lt (suc x) zero hx hy = hx
differ_lt (suc zero) (suc zero) hx hy = two_pos
differ_lt (suc zero) (suc (suc y)) hx hy = absurd (omega arith)
differ_lt (suc (suc x)) (suc y) hx hy = absurd (omega arith)

differ_assoc : (x y z : ℕ) → x < 2 → y < 2 → z < 2 → differ (differ x y) z ≡ differ x (differ y z)
differ_assoc zero y z hx hy hz = refl
differ_assoc (suc zero) zero z hx hy hz = refl
differ_assoc (suc zero) (suc zero) zero hx hy hz = refl
differ_assoc (suc zero) (suc zero) (suc zero) hx hy hz = refl
differ_assoc (suc zero) (suc zero) (suc (suc z)) hx hy hz = absurd (omega arith)
differ_assoc (suc zero) (suc (suc y)) z hx hy hz = absurd (omega arith)
differ_assoc (suc (suc x)) y z hx hy hz = absurd (omega arith)

half : (a b : ℕ) → bit_xor a b / 2 ≡ bit_xor (a / 2) (b / 2)
half a b = ap (λ (x : ℕ). x / 2) (xor_step a b) ∙ digits_div _ (differ_lt (a % 2) (b % 2) (mod-lt a two_pos) (mod-lt b two_pos))

odd : (a b : ℕ) → bit_xor a b % 2 ≡ differ (a % 2) (b % 2)
odd a b = ap (λ (x : ℕ). x % 2) (xor_step a b) ∙ digits_mod _ (differ_lt (a % 2) (b % 2) (mod-lt a two_pos) (mod-lt b two_pos))

xor_assoc : (a b c : ℕ) → bit_xor (bit_xor a b) c ≡ bit_xor a (bit_xor b c)
xor_assoc a =
    bin_ind (λ (n : ℕ). (b c : ℕ) → bit_xor (bit_xor n b) c ≡ bit_xor n (bit_xor b c)) (λ b c. refl)
    (λ n ih b c.
    xor_step (bit_xor n b) c
    ∙ ap₂ (λ (x y : ℕ). bit_xor x (c / 2) * 2 + differ y (c % 2)) (half n b) (odd n b)
    ∙ ap₂ (λ (x y : ℕ). x * 2 + y) (ih (b / 2) (c / 2)) (differ_assoc (n % 2) (b % 2) (c % 2) (mod-lt n two_pos) (mod-lt b two_pos) (mod-lt c two_pos))
    ∙ sym (ap₂ (λ (x y : ℕ). bit_xor (n / 2) x * 2 + differ (n % 2) y) (half b c) (odd b c))
    ∙ sym (xor_step n (bit_xor b c))) a

pub ⊕_assoc : (a b c : ℕ) → (a ⊕ b) ⊕ c ≡ a ⊕ (b ⊕ c)
unfolding ◌⊕◌
⊕_assoc = xor_assoc

pub ⊕_comm : (a b : ℕ) → a ⊕ b ≡ b ⊕ a
unfolding ◌⊕◌
⊕_comm = xor_comm

pub ⊕_self : (a : ℕ) → a ⊕ a ≡ 0
unfolding ◌⊕◌
⊕_self = xor_self

pub ⊕_zero : (a : ℕ) → a ⊕ 0 ≡ a
unfolding ◌⊕◌
⊕_zero = xor_zero_r

pub zero_⊕ : (a : ℕ) → 0 ⊕ a ≡ a
unfolding ◌⊕◌
zero_⊕ = xor_zero_l

pub ⊕_left_comm : (a b c : ℕ) → a ⊕ (b ⊕ c) ≡ b ⊕ (a ⊕ c)
⊕_left_comm a b c = sym (⊕_assoc a b c) ∙ ap (λ (x : ℕ). x ⊕ c) (⊕_comm a b) ∙ ⊕_assoc b a c

pub ⊕_lt : (k a b : ℕ) → a < 2 ^ k → b < 2 ^ k → a ⊕ b < 2 ^ k
unfolding ◌⊕◌
⊕_lt = xor_lt

pub odd_⊕ : (a b : ℕ) → (a ⊕ b) % 2 ≡ a % 2 ⊕ b % 2
unfolding ◌⊕◌
odd_⊕ a b = xor_mod a b 1
