-- Rows of n places: row j ends within k rows, and the next one starts there.
-- Assumes nothing.
use Prim.Native.Nat.{ℕ, ◌+◌, ◌*◌, ◌^◌, ◌<◌, ◌≤◌}
use mathlib.Core.Path.{◌≡◌, subst}
use native.Mathlib.Nat.{suc-mul, mul-le-mul_right}
use native.Mathlib.Numerals.{add-one}
use native.Mathlib.Omega.{arith}

pub row_in : (j k n : ℕ) → j < k → j * n + n ≤ k * n
row_in j k n h = subst (λ (x : ℕ). x ≤ k * n) (suc-mul j n) (mul-le-mul_right n h)

pub next_row : (j n : ℕ) → (j + 1) * n ≡ j * n + n
next_row j n = rw (add-one, suc-mul)

pub row_fits : (j k n from pos len : ℕ) → j < k → pos ≡ from + j * n → from + k * n ≤ len → len < 2 ^ 64 → pos + n < 2 ^ 64
row_fits j k n from pos len h e f l = omega (arith, row_in j k n h)
