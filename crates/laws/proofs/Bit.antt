-- The bits of a number, of two numbers side by side, of a sum, and of a packed number.
-- Assumes nothing.
use Prim.Native.Nat.{ℕ, zero, suc, ◌+◌, ◌-◌, ◌*◌, ◌/◌, ◌%◌, ◌^◌, ◌<◌}
use mathlib.Core.Path.{◌≡◌, refl, sym, ap, ap₂, subst, ◌∙◌}
use native.Mathlib.Decide.{ℕ_discrete}
use native.Mathlib.Nat.{mod-eq_of_lt, mod-lt, zero-lt-suc, mod-mod}
use native.Mathlib.Omega.{arith}
use lib.Arith.{digits_lt}
use lib.Bits.{xor_mod, xor_shr}
use lib.Pow.{pow_pos, pow-add, mod-pow-add, shr_le, shr-shr, field, mod-mod-pow, low, high}
use Rattle.laws.proofs.Xor.{⊕_lt, odd_⊕}
use Rattle.laws.specs.Bit.{bit, pack}
use Rattle.laws.specs.Sum.{pick}
use Rattle.laws.specs.Xor.{◌⊕◌}

pub bit_digit : (u i : ℕ) → bit u i < 2
unfolding bit
bit_digit u i = mod-lt (u / 2 ^ i) (zero-lt-suc 1)

pub bit_shr : (w k q : ℕ) → bit (w / 2 ^ k) q ≡ bit w (k + q)
unfolding bit
bit_shr w k q = ap (λ (x : ℕ). x % 2) (shr-shr w k q)

pub bit_mod : (w k q : ℕ) → q < k → bit (w % 2 ^ k) q ≡ bit w q
unfolding bit
bit_mod w k q h =
    let j : ℕ = k - q - 1 in
    let e : k ≡ j + 1 + q = omega arith in
    subst (λ (x : ℕ). bit (w % 2 ^ x) q ≡ bit w q) (sym e)
    (ap (λ (x : ℕ). x % 2) (field w (j + 1) q) ∙ mod-mod-pow (w / 2 ^ q) j 1)

-- of two numbers side by side
pub bit_low : (hi k q : ℕ) {lo : ℕ} → lo < 2 ^ k → q < k → bit (hi * 2 ^ k + lo) q ≡ bit lo q
bit_low hi k q {lo} h l = sym (bit_mod (hi * 2 ^ k + lo) k q l) ∙ ap (λ (x : ℕ). bit x q) (low hi k h)

pub bit_high : (hi k q : ℕ) {lo : ℕ} → lo < 2 ^ k → bit (hi * 2 ^ k + lo) (k + q) ≡ bit hi q
bit_high hi k q {lo} h = sym (bit_shr (hi * 2 ^ k + lo) k q) ∙ ap (λ (x : ℕ). bit x q) (high hi k h)

pub bit_of_xor : (a b q : ℕ) → bit (a ⊕ b) q ≡ bit a q ⊕ bit b q
unfolding bit ◌⊕◌
bit_of_xor a b q = ap (λ (x : ℕ). x % 2) (xor_shr a b q) ∙ xor_mod (a / 2 ^ q) (b / 2 ^ q) 1

pub bit_zero : (i : ℕ) → bit 0 i ≡ 0
unfolding bit
bit_zero i = omega (arith, shr_le 0 i)

-- ---- packed numbers

digit_lt : (x : ℕ) → x % 2 < 2
digit_lt x = mod-lt x (zero-lt-suc 1)

pub pack_lt : (k : ℕ) (f : ℕ → ℕ) → pack k f < 2 ^ k
unfolding pack
pack_lt zero f = pow_pos 0
pack_lt (suc k) f =
    let e : 1 + k ≡ suc k = omega arith in
    subst (λ (x : ℕ). f k % 2 * 2 ^ k + pack k f < x) (sym (pow-add 2 1 k) ∙ ap (λ (x : ℕ). 2 ^ x) e) (digits_lt (digit_lt (f k)) (pack_lt k f))

pub bit_pack : (k : ℕ) (f : ℕ → ℕ) (q : ℕ) → q < k → bit (pack k f) q ≡ f q % 2
unfolding pack bit
bit_pack zero f q h = absurd (omega arith)
bit_pack (suc k) f q h =
    elim (ℕ_discrete q k) [
      | yes e ↦
          let z : q ≡ k + 0 = omega arith in
          ap (bit (pack (suc k) f)) z ∙ bit_high (f k % 2) k 0 (pack_lt k f) ∙ omega arith ∙ ap (λ (x : ℕ). f x % 2) (sym e)
      | no e ↦ bit_low (f k % 2) k q (pack_lt k f) (omega arith) ∙ bit_pack k f q (omega arith)
    ]

-- a number is the word of its bits
mod_pack : (k u : ℕ) → pack k (bit u) ≡ u % 2 ^ k
unfolding pack bit
mod_pack zero u = omega arith
mod_pack (suc k) u =
    let e : 1 + k ≡ suc k = omega arith in
    ap₂ (λ (x y : ℕ). x * 2 ^ k + y) (mod-mod (u / 2 ^ k) 2) (mod_pack k u) ∙ sym (mod-pow-add u 1 k) ∙ ap (λ (x : ℕ). u % 2 ^ x) e

pub pack_bits : (k u : ℕ) → u < 2 ^ k → pack k (bit u) ≡ u
pack_bits k u h = mod_pack k u ∙ mod-eq_of_lt h

pub pack_ext : (k : ℕ) (f g : ℕ → ℕ) → ((q : ℕ) → q < k → f q % 2 ≡ g q % 2) → pack k f ≡ pack k g
unfolding pack
pack_ext zero f g h = refl
pack_ext (suc k) f g h = ap₂ (λ (x y : ℕ). x * 2 ^ k + y) (h k (omega arith)) (pack_ext k f g (λ q l. h q (omega arith)))

-- a number is packed from f, by its bits
pub is_pack : (k u : ℕ) (f : ℕ → ℕ) → u < 2 ^ k → ((q : ℕ) → q < k → bit u q ≡ f q % 2) → u ≡ pack k f
unfolding bit
is_pack k u f h e = sym (pack_bits k u h) ∙ pack_ext k (bit u) f (λ q l. mod-mod (u / 2 ^ q) 2 ∙ e q l)

pub pack_xor : (k : ℕ) (f g : ℕ → ℕ) → pack k f ⊕ pack k g ≡ pack k (λ q. f q ⊕ g q)
pack_xor k f g = is_pack k (pack k f ⊕ pack k g) (λ q. f q ⊕ g q) (⊕_lt k (pack k f) (pack k g) (pack_lt k f) (pack_lt k g)) at
  where
    at : (q : ℕ) → q < k → bit (pack k f ⊕ pack k g) q ≡ (f q ⊕ g q) % 2
    at q l = bit_of_xor (pack k f) (pack k g) q ∙ ap₂ ◌⊕◌ (bit_pack k f q l) (bit_pack k g q l) ∙ sym (odd_⊕ (f q) (g q))

pub pack_zero : (k : ℕ) → pack k (λ q. 0) ≡ 0
unfolding pack
pack_zero zero = refl
pack_zero (suc k) = ap (λ (x : ℕ). 0 % 2 * 2 ^ k + x) (pack_zero k) ∙ omega arith

pub pack_pick : (k b : ℕ) (f : ℕ → ℕ) → pack k (λ q. pick b (f q)) ≡ pick b (pack k f)
unfolding pick
pack_pick k zero f = pack_zero k
pack_pick k (suc b) f = refl
