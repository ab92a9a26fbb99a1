-- Laws of a part of a list that was lent, changed and given back: `put_mid` is what `&mut s[a..b]` leaves, `mid_of` what it holds at first.
-- Assumes nothing.
use Prim.Native.Nat.{ℕ, ◌+◌, ◌<◌, ◌≤◌}
use mathlib.Core.List.{List, ◌++◌}
use mathlib.Core.Path.{◌≡◌, sym, ap, ◌∙◌}
use native.Mathlib.Nat.{zero-add}
use native.Mathlib.Omega.{arith}
use lib.ListN.{length, get_or, take, drop, length-take, length-drop}
use lib.Seq.{drop-drop, get_or-take, get_or-drop}
use borrow.Rule.Slice.PartMut.{mid_of, put_mid}
use Rattle.laws.proofs.Part.{length_put, get_or_put_before, get_or_put_in, get_or_put_after}
use Rattle.laws.specs.Part.{put}
use Rattle.laws.specs.Patch.{Patched}

module _ (s : List ℕ) (at k : ℕ) where
  pub get_or_mid : (i : ℕ) → i < k → get_or (mid_of at k s) i 0 ≡ get_or s (at + i) 0
  get_or_mid i h = rw (get_or-take, get_or-drop)

  pub length_mid : at + k ≤ length s → length (mid_of at k s) ≡ k
  length_mid h = simp (length-take, length-drop) (omega arith)

  pub mid_put : (v : List ℕ) → length v ≡ k → put_mid at k s v ≡ put s at v
  unfolding put
  mid_put v e = ap (λ (l : List ℕ). take at s ++ (v ++ l)) (drop-drop k at s ∙ ap (λ (n : ℕ). drop (at + n) s) (sym e))

  -- the list, by the bytes that came back
  pub mid_filled : (v : List ℕ) (f : ℕ → ℕ) → at + k ≤ length s → length v ≡ k → ((i : ℕ) → i < k → get_or v i 0 ≡ f i) → Patched s (put_mid at k s v) at k f
  mid_filled v f h n g =
      let l : at + length v ≤ length s = omega arith in
      rw (mid_put v n) (record {
        len = length_put s at v l;
        below = get_or_put_before s at v l;
        inner = λ i m. get_or_put_in s at v l i (omega arith) ∙ g i m;
        above = λ o m. get_or_put_after s at v l o (omega arith);
      })

  -- the part was changed, so the list is
  pub mid_patched : (v : List ℕ) (f g : ℕ → ℕ) → at + k ≤ length s → Patched (mid_of at k s) v 0 k g → ((i : ℕ) → i < k → g i ≡ f i) → Patched s (put_mid at k s v) at k f
  mid_patched v f g h d e =
      mid_filled v f h (d.len ∙ length_mid h) (λ i m. ap (λ (o : ℕ). get_or v o 0) (sym (zero-add i)) ∙ d.inner i m ∙ e i m)
