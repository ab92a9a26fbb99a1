-- "Reading tests in this order: at least 2 bytes, else CUT; first count, else COUNT; at least 10 bytes, else CUT; PRIME; SHAPE; STRIP;
-- shorter than L is CUT; longer is TAIL; then the counts of sections 2, 3, 4, else COUNT."
-- Assumes nothing.
use Rattle.std.specs.Prelude.{ℕ, ◌≡◌, List, length, ltb, eqb, Result, Ok, Err}
use Rattle.laws.specs.Choose.{choose}
use Rattle.laws.specs.Number.{u16}
use Rattle.refusal.specs.declared.Refusal.{Refusal}
use Rattle.refusal.specs.declared.Refusal.TheVariants.{Cut, Tail, Count}
use Rattle.stripe.specs.declared.Params.{Params}
use Rattle.stripe.specs.Params.{checked_of, Admitted}
use Rattle.stripe.specs.Layout.{data_count_at, parity_count_at, image_length}

-- "shorter than L is CUT; longer is TAIL; then the counts of sections 2, 3, 4, else COUNT"
unfoldable pub sections_of : List ℕ → Params → Result Params Refusal
sections_of s q =
    choose (ltb (length s) (image_length q)) (Err Cut)
    (choose (ltb (image_length q) (length s)) (Err Tail)
    (choose (eqb (u16 s 10) q.k)
    (choose (eqb (u16 s (data_count_at q)) q.k)
    (choose (eqb (u16 s (parity_count_at q)) q.r) (Ok q) (Err Count))
    (Err Count))
    (Err Count)))

-- "PRIME; SHAPE; STRIP", and what follows sound parameters
unfoldable pub with_params : List ℕ → Result Params Refusal → Result Params Refusal
with_params s (Ok q) = sections_of s q
with_params s (Err e) = Err e

-- "at least 2 bytes, else CUT; first count, else COUNT; at least 10 bytes, else CUT"
unfoldable pub read_of : List ℕ → Result Params Refusal
read_of s =
    choose (ltb (length s) 2) (Err Cut)
    (choose (eqb (u16 s 0) 4)
    (choose (ltb (length s) 10) (Err Cut) (with_params s (checked_of (u16 s 2) (u16 s 4) (u16 s 6) (u16 s 8))))
    (Err Count))

-- what an accepted image is
pub record Image (s : List ℕ) (q : Params) : Type 0 where
  pub admitted : Admitted q
  pub four : u16 s 0 ≡ 4
  pub p_at : u16 s 2 ≡ q.p
  pub k_at : u16 s 4 ≡ q.k
  pub r_at : u16 s 6 ≡ q.r
  pub b_at : u16 s 8 ≡ q.b
  pub len : length s ≡ image_length q
  pub k_first : u16 s 10 ≡ q.k
  pub k_again : u16 s (data_count_at q) ≡ q.k
  pub r_there : u16 s (parity_count_at q) ≡ q.r
