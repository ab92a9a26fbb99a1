-- Numbers of two and of four bytes: what a patch leaves, and what is read back.
-- Assumes nothing.
use Prim.Native.Nat.{ℕ, ◌+◌, ◌*◌, ◌/◌, ◌%◌, ◌^◌, ◌<◌, ◌≤◌}
use mathlib.Core.List.{List}
use mathlib.Core.Path.{◌≡◌, refl}
use native.Mathlib.Nat.{add-zero, add_assoc}
use native.Mathlib.Omega.{arith}
use lib.ListN.{length, get_or}
use lib.Pow.{shr-shr}
use Rattle.laws.proofs.Patch.{patched}
use Rattle.laws.specs.Number.{u16, u32, put32, put16, byte}
use Rattle.laws.specs.Patch.{Patched}

pub put16_patched : (s : List ℕ) (at v : ℕ) → at + 2 ≤ length s → Patched s (put16 s at v) at 2 (byte v)
unfolding put16
put16_patched s at v h = patched s (put16 s at v) at 2 (byte v) h refl

pub put32_patched : (s : List ℕ) (at v : ℕ) → at + 4 ≤ length s → Patched s (put32 s at v) at 4 (byte v)
unfolding put32
put32_patched s at v h = patched s (put32 s at v) at 4 (byte v) h refl

-- four digits make the number: each step is linear, and the four together are not found
join : (v x y z a b c d : ℕ) → 256 * x + a ≡ v → 256 * y + b ≡ x → 256 * z + c ≡ y → d ≡ z → a + 256 * b + 65536 * (c + 256 * d) ≡ v
join v x y z a b c d e f g h = omega arith

digits : (v : ℕ) → v < 2 ^ 32 → v / 1 % 256 + 256 * (v / 256 % 256) + 65536 * (v / 65536 % 256 + 256 * (v / 16777216 % 256)) ≡ v
digits v l =
    join v (v / 256) (v / 65536) (v / 16777216) (v / 1 % 256) (v / 256 % 256) (v / 65536 % 256) (v / 16777216 % 256) (omega arith)
    (rw (← shr-shr v 8 8) (omega arith)) (rw (← shr-shr v 16 8) (omega arith)) (omega arith)

-- a number that was put is read back
pub u32_put32 : (s : List ℕ) (at v : ℕ) → at + 4 ≤ length s → v < 2 ^ 32 → u32 (put32 s at v) at ≡ v
u32_put32 s at v h l =
    let d = put32_patched s at v h in
    let a : get_or (put32 s at v) at 0 ≡ v / 1 % 256 = rw add-zero at (d.inner 0 (omega arith)) in
    let b = d.inner 1 (omega arith) in
    let c = d.inner 2 (omega arith) in
    let e : get_or (put32 s at v) (at + 2 + 1) 0 ≡ v / 16777216 % 256 = rw add_assoc (d.inner 3 (omega arith)) in
    rw (a, b, c, e) (digits v l)

pub u16_put16 : (s : List ℕ) (at v : ℕ) → at + 2 ≤ length s → v < 2 ^ 16 → u16 (put16 s at v) at ≡ v
u16_put16 s at v h l =
    let d = put16_patched s at v h in
    let a : get_or (put16 s at v) at 0 ≡ v / 1 % 256 = rw add-zero at (d.inner 0 (omega arith)) in
    let b = d.inner 1 (omega arith) in
    rw (a, b) (omega arith)
