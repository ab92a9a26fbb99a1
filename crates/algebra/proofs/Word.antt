-- The lane of a word, and the word of a lane.
-- Assumes nothing.
use Prim.Native.Nat.{ℕ, suc, ◌%◌, ◌^◌, ◌<◌}
use mathlib.Core.Path.{◌≡◌, ap, ◌∙◌}
use native.Mathlib.Nat.{mod-eq_of_lt, mod-lt, zero-lt-suc, add-mod_right}
use Rattle.laws.proofs.Bit.{bit_of_xor, bit_pack, pack_bits, pack_ext, bit_zero, bit_digit}
use Rattle.laws.specs.Bit.{bit, pack}
use Rattle.laws.specs.Xor.{◌⊕◌}
use Rattle.algebra.proofs.Period.{at_mod}
use Rattle.algebra.specs.Lane.{Periodic}
use Rattle.algebra.specs.Word.{lane_of}

pub lane_of_periodic : (p w : ℕ) → Periodic p (lane_of p w)
unfolding lane_of
lane_of_periodic p w q = ap (bit w) (add-mod_right q p)

pub lane_of_digit : (p w q : ℕ) → lane_of p w q < 2
unfolding lane_of
lane_of_digit p w q = bit_digit w (q % p)

pub lane_of_at : (p w q : ℕ) → q < p → lane_of p w q ≡ bit w q
unfolding lane_of
lane_of_at p w q h = ap (bit w) (mod-eq_of_lt h)

-- the lane of the word of a lane
pub lane_of_pack : (n : ℕ) (f : ℕ → ℕ) → Periodic (suc n) f → ((q : ℕ) → f q < 2) → (q : ℕ) → lane_of (suc n) (pack (suc n) f) q ≡ f q
unfolding lane_of
lane_of_pack n f h d q =
    bit_pack (suc n) f (q % suc n) (mod-lt q (zero-lt-suc n)) ∙ mod-eq_of_lt (d (q % suc n)) ∙ at_mod n f h q

-- the word of the lane of a word
pub pack_lane_of : (p w : ℕ) → w < 2 ^ p → pack p (lane_of p w) ≡ w
pack_lane_of p w h = pack_ext p (lane_of p w) (bit w) (λ q l. ap (λ (x : ℕ). x % 2) (lane_of_at p w q l)) ∙ pack_bits p w h

pub lane_of_xor : (p u v q : ℕ) → lane_of p (u ⊕ v) q ≡ lane_of p u q ⊕ lane_of p v q
unfolding lane_of
lane_of_xor p u v q = bit_of_xor u v (q % p)

pub lane_of_zero : (p q : ℕ) → lane_of p 0 q ≡ 0
unfolding lane_of
lane_of_zero p q = bit_zero (q % p)
