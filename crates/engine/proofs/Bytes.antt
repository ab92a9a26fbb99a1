-- Bytes added, and bytes put in their place.
-- Assumes nothing.
use Prim.Native.Nat.{ℕ, ◌+◌, ◌<◌, ◌≤◌}
use mathlib.Core.List.{List}
use mathlib.Core.Path.{◌∙◌, ◌≡◌, refl, sym, ap, subst}
use native.Mathlib.Omega.{arith}
use lib.Bits.{bit_xor}
use lib.ListN.{length, get_or, set}
use borrow.Rule.Slice.PartMut.{mid_of, put_mid}
use Rattle.laws.proofs.Mid.{get_or_mid, length_mid, mid_filled, mid_patched}
use Rattle.laws.proofs.Part.{is_put}
use Rattle.laws.proofs.Patch.{patch_front, patch_end, patch_join, is_patch}
use Rattle.laws.specs.Part.{put, tab}
use Rattle.laws.specs.Patch.{Patched, patch}
use Rattle.laws.specs.Xor.{◌⊕◌}

pub add_more : (s t src : List ℕ) (i : ℕ) → i < length s → Patched s t 0 i (λ o. get_or s o 0 ⊕ get_or src o 0)
    → Patched s (set t i (bit_xor (get_or t i 0) (get_or src i 0))) 0 (i + 1) (λ o. get_or s o 0 ⊕ get_or src o 0)
unfolding ◌⊕◌
add_more s t src i h d = patch_front s t i (λ o. get_or s o 0 ⊕ get_or src o 0) _ d h (ap (λ (x : ℕ). bit_xor x (get_or src i 0)) (d.above i (omega arith)))

pub clear_is : (s v : List ℕ) (at k n i : ℕ) → at + n ≤ length s → k ≡ n → Patched (mid_of at k s) v 0 i (λ o. 0) → i ≤ length (mid_of at k s) → length (mid_of at k s) ≤ i
    → put_mid at k s v ≡ put s at (tab n (λ o. 0))
unfolding patch
clear_is s v at k n i h e d f g =
    let l : length (mid_of at k s) ≡ k = length_mid s at k (omega arith) in
    is_patch s (put_mid at k s v) at n (λ o. 0) h
    (subst (λ (m : ℕ). Patched s (put_mid at k s v) at m (λ o. 0)) e (mid_patched s at k v (λ o. 0) (λ o. 0) (omega arith) (patch_end (mid_of at k s) v 0 i k (λ o. 0) d (omega arith) (omega arith)) (λ i m. refl)))

-- what came before, and the bytes after it
pub copy_more : (s t v src : List ℕ) (at i k n j : ℕ) → j ≡ i + n → at + length src ≤ length s → i + n ≤ length src → k ≡ n → v ≡ mid_of i n src → Patched s t at i (λ o. get_or src o 0)
    → Patched s (put_mid (at + i) k t v) at j (λ o. get_or src o 0)
copy_more s t v src at i k n j z h g e c d =
    let l : length (mid_of i n src) ≡ n = length_mid src i n g in
    let P : Patched t (put_mid (at + i) k t v) (at + i) k (λ o. get_or src (i + o) 0) =
    mid_filled t (at + i) k v (λ o. get_or src (i + o) 0) (omega (arith, d.len)) (rw c (l ∙ sym e)) (λ o m. rw c (get_or_mid src i n o (omega arith))) in
    subst (λ (m : ℕ). Patched s (put_mid (at + i) k t v) at m (λ o. get_or src o 0)) (sym z)
    (patch_join s t (put_mid (at + i) k t v) at i n (λ o. get_or src o 0) (λ o. get_or src (i + o) 0) d
    (subst (λ (m : ℕ). Patched t (put_mid (at + i) k t v) (at + i) m (λ o. get_or src (i + o) 0)) e P) (λ o m. refl))

pub copy_end : (s u src : List ℕ) (at i : ℕ) → at + length src ≤ length s → i ≡ length src → Patched s u at i (λ o. get_or src o 0) → u ≡ put s at src
copy_end s u src at i h e d = is_put u s at src h d.len d.below (λ o k. d.inner o (omega arith)) (λ o k. d.above o (omega arith))
