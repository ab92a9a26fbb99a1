-- "With n the column's revision and b the base, d = (n - b) mod 2^32. d = 0 is accepted", and of the rest, by request 3: "STALE now covers d from 1 to
-- 2^31 - 1. The exact half gets a refusal of its own with distance 0." Above is AHEAD.
-- Request 2: "The revision comparison now answers with the distance as well: behind by d, or ahead by 2^32 - d."
-- Assumes nothing.
use Rattle.std.specs.Prelude.{◌≡◌, ℕ, ◌+◌, ◌-◌, ◌%◌, ◌^◌, ◌≤◌, Bool, ◌≢◌, ◌==◌, nat_lt}
use Rattle.laws.specs.Choose.{choose}
use Rattle.refusal.specs.declared.Refusal.TheVariants.{Stale, Ahead}
use Rattle.refusal.specs.declared.Refusal.TheVariants as Refusal
use Rattle.refusal.specs.Number.{number_of}
use Rattle.revision.specs.declared.Age.{Age}
use Rattle.revision.specs.declared.Age.TheVariants.{Current, Older, Newer, Unclear}

-- (n - b) mod 2^32
unfoldable pub distance : ℕ → ℕ → ℕ
distance n b = (n + (2 ^ 32 - b)) % 2 ^ 32

-- how old a base b is against a revision n: "behind by d, or ahead by 2^32 - d", or at "the exact half"
unfoldable pub judged : ℕ → ℕ → Age
judged n b =
    choose (distance n b == 0) Current
    (choose (distance n b == 2 ^ 31) Unclear
    (choose (nat_lt (distance n b) (2 ^ 31)) (Older (distance n b)) (Newer (2 ^ 32 - distance n b))))

-- "sets the revision to (b + 1) mod 2^32"
unfoldable pub renewed : ℕ → ℕ
renewed b = (b + 1) % 2 ^ 32

-- the number of each case: 0 where the base is current, else that of the refusal
abbrev pub age_number : Age → ℕ
age_number Current = 0
age_number (Older d) = number_of Stale
age_number (Newer d) = number_of Ahead
age_number Unclear = number_of Refusal.Unclear

-- how far the base is behind or ahead
abbrev pub age_distance : Age → ℕ
age_distance Current = 0
age_distance (Older d) = d
age_distance (Newer d) = d
age_distance Unclear = 0

-- "d = 0 is accepted"
abbrev pub is_current : Age → Bool
is_current a = age_number a == 0

-- b is d renewals behind n, "d from 1 to 2^31 - 1"; n is then ahead of b by d
pub record Behind (n b d : ℕ) : Type 0 where
  pub some : 1 ≤ d
  pub most : d ≤ 2 ^ 31 - 1
  pub renewals : n ≡ (b + d) % 2 ^ 32

-- "when they lie exactly 2^31 apart"
abbrev pub HalfApart : ℕ → ℕ → Type 0
HalfApart n b = n ≡ (b + 2 ^ 31) % 2 ^ 32

-- what the number k of an answer, and the distance d beside it, say of a revision n and a base b
pub record DistanceTold (n b k d : ℕ) : Type 0 where
  pub stale : k ≡ number_of Stale → Behind n b d
  pub ahead : k ≡ number_of Ahead → Behind b n d
  pub unclear : k ≡ number_of Refusal.Unclear → HalfApart n b
  pub else_none : k ≢ number_of Stale → k ≢ number_of Ahead → d ≡ 0
