-- The lanes of words that are solved or encoded are the lanes solved or encoded.
-- Assumes nothing.
use Prim.Native.Nat.{ℕ, suc}
use mathlib.Core.List.{List, map}
use mathlib.Core.Path.{◌≡◌, fun_ext}
use Rattle.laws.specs.Xor.{◌⊕◌}
use Rattle.algebra.proofs.Carry.{row_map, solve_map}
use Rattle.algebra.proofs.Word.{lane_of_xor, lane_of_zero}
use Rattle.algebra.proofs.Words.{lane_times, lane_over}
use Rattle.algebra.specs.Cauchy.{row}
use Rattle.algebra.specs.Code.{plus, none, decode}
use Rattle.algebra.specs.Divide.{over}
use Rattle.algebra.specs.Lane.{D}
use Rattle.algebra.specs.Recovery.{row_of, solve_of}
use Rattle.algebra.specs.Word.{times_of, over_of, lane_of}

module _ (n : ℕ) where
  pub lanes_row : (x : ℕ) (ys ws : List ℕ) → lane_of (suc n) (row_of (suc n) x ys ws) ≡ row plus none (D n) (over n) x ys (map (lane_of (suc n)) ws)
  unfolding row_of
  lanes_row =
      row_map ◌⊕◌ 0 (times_of (suc n)) (over_of (suc n)) plus none (D n) (over n) (lane_of (suc n))
      (λ u w. fun_ext (lane_of_xor (suc n) u w)) (fun_ext (lane_of_zero (suc n))) (lane_times n) (lane_over n)

  pub lanes_solve : (xs ys ws : List ℕ) → map (lane_of (suc n)) (solve_of (suc n) xs ys ws) ≡ decode n xs ys (map (lane_of (suc n)) ws)
  unfolding solve_of
  lanes_solve =
      solve_map ◌⊕◌ 0 (times_of (suc n)) (over_of (suc n)) plus none (D n) (over n) (lane_of (suc n))
      (λ u w. fun_ext (lane_of_xor (suc n) u w)) (fun_ext (lane_of_zero (suc n))) (lane_times n) (lane_over n)
