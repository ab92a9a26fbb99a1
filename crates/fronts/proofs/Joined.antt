-- What was read so far, at the start of a buffer, and more behind it.
-- Assumes nothing.
use Rattle.std.proofs.Common.{◌≡◌, ℕ, ◌+◌, ◌≤◌, List, ◌++◌, length, take, sym, ap, ◌∙◌, subst, length-take-le}
use Rattle.std.proofs.KnownBytes.{Consumes-trans}
use Rattle.std.proofs.Math.Seq.{take-append-add, take-append-le}
use Rattle.std.specs.Io.KnownBytes.{Consumes}
use Rattle.std.specs.Prelude.{Option}
use borrow.Rule.Slice.PartMut.{put_mid, post_of}

-- d bytes of the buffer, and n bytes read behind them
pub front_more : (d k n : ℕ) (s w : List ℕ) (a b c : Option (List ℕ)) → d ≤ length s → n ≤ length w → Consumes a b (take d s) → Consumes b c (take n w)
    → Consumes a c (take (d + n) (put_mid d k s w))
front_more d k n s w a b c h l p q = subst (Consumes a c) (sym joined) (Consumes-trans a b c (take d s) (take n w) p q)
  where
    joined : take (d + n) (put_mid d k s w) ≡ take d s ++ take n w
    joined =
        ap (λ m. take (m + n) (take d s ++ (w ++ post_of d k s))) (sym (length-take-le d s h)) ∙ take-append-add (take d s) (w ++ post_of d k s) n
        ∙ ap (λ x. take d s ++ x) (take-append-le n w (post_of d k s) l)
