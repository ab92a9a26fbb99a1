-- "The comparison follows RFC 1982 serial numbers of 32 bits", and request 3: "RFC 1982 leaves undefined which of two numbers is newer when they lie
-- exactly 2^31 apart." The comparison of the RFC's section 3.2, and what it is to follow it. The RFC was not at hand: its sentences stand here from memory,
-- and the inequalities were held against another implementation (docs/DECISIONS.md).
-- Assumes nothing.
use Rattle.std.specs.Prelude.{◌≡◌, ℕ, ◌-◌, ◌^◌, ◌<◌, ◌≢◌, ◌⊎◌, ◌↔◌}
use Rattle.refusal.specs.declared.Refusal.TheVariants.{Stale, Ahead}
use Rattle.refusal.specs.declared.Refusal.TheVariants as Refusal
use Rattle.refusal.specs.Number.{number_of}
use Rattle.revision.specs.Revision.{judged}
use Rattle.revision.specs.declared.Age.{Age}
use Rattle.revision.specs.declared.Age.TheVariants.{Current, Older, Newer, Unclear}

-- "SERIAL_BITS"
abbrev pub serial_bits : ℕ
serial_bits = 32

-- "s1 is said to be less than s2 if, and only if, s1 is not equal to s2, and (i1 < i2 and i2 - i1 < 2^(SERIAL_BITS - 1)) or
-- (i1 > i2 and i1 - i2 > 2^(SERIAL_BITS - 1))"
abbrev pub LessThan : ℕ → ℕ → Type 0
LessThan i1 i2 =
    (i1 ≢ i2)
    × (((i1 < i2) × (i2 - i1 < 2 ^ (serial_bits - 1)))
    ⊎ ((i2 < i1) × (2 ^ (serial_bits - 1) < i1 - i2)))

-- "s1 is said to be greater than s2 if, and only if, s1 is not equal to s2, and (i1 < i2 and i2 - i1 > 2^(SERIAL_BITS - 1)) or
-- (i1 > i2 and i1 - i2 < 2^(SERIAL_BITS - 1))"
abbrev pub GreaterThan : ℕ → ℕ → Type 0
GreaterThan i1 i2 =
    (i1 ≢ i2)
    × (((i1 < i2) × (2 ^ (serial_bits - 1) < i2 - i1))
    ⊎ ((i2 < i1) × (i1 - i2 < 2 ^ (serial_bits - 1))))

-- "there are some pairs of values s1 and s2 for which s1 is not equal to s2, but for which s1 is neither greater than, nor less than, s2 .. an undefined
-- result"
pub record Undefined (i1 i2 : ℕ) : Type 0 where
  pub not_equal : i1 ≢ i2
  pub not_greater : ¬ GreaterThan i1 i2
  pub not_less : ¬ LessThan i1 i2

-- the age g of a base b against a revision n is what the RFC says of b and n
pub record FollowsRFC1982 (n b : ℕ) (g : Age) : Type 0 where
  pub current : (g ≡ Current) ↔ (b ≡ n)
  pub older : ((d : ℕ) × (g ≡ Older d)) ↔ LessThan b n
  pub newer : ((d : ℕ) × (g ≡ Newer d)) ↔ GreaterThan b n
  pub unclear : (g ≡ Unclear) ↔ Undefined b n

-- the number k of an answer is what the RFC says of a base b and a revision n
pub record SerialTold (n b k : ℕ) : Type 0 where
  pub accepted : (k ≡ 0) ↔ (b ≡ n)
  pub stale : (k ≡ number_of Stale) ↔ LessThan b n
  pub ahead : (k ≡ number_of Ahead) ↔ GreaterThan b n
  pub unclear : (k ≡ number_of Refusal.Unclear) ↔ Undefined b n

-- seen from the other side the same distance lies the other way, and half the circle stays half
pub record Antisymmetric (n b : ℕ) : Type 0 where
  pub older : (d : ℕ) → (judged n b ≡ Older d) ↔ (judged b n ≡ Newer d)
  pub unclear : (judged n b ≡ Unclear) ↔ (judged b n ≡ Unclear)
