-- "With the empty pattern nothing differs from before.": what an accepted write leaves.
-- Assumes nothing.
use Prim.Native.Nat.{ℕ, ◌+◌, ◌*◌, ◌/◌, ◌%◌}
use mathlib.Core.List.{List}
use mathlib.Core.Path.{◌≡◌, ap, ap₂, ◌∙◌, fun_ext}
use lib.ListN.{get_or}
use Rattle.std.specs.Prelude.{Ok}
use Rattle.laws.specs.Bit.{bit}
use Rattle.laws.specs.Number.{put32}
use Rattle.laws.specs.Part.{put}
use Rattle.laws.specs.Patch.{patch}
use Rattle.laws.specs.Sum.{pick}
use Rattle.laws.specs.Xor.{◌⊕◌}
use Rattle.stripe.specs.Layout.{column_length, parity_from, revision_at, strip_at}
use Rattle.stripe.specs.declared.Params.{Params}
use Rattle.block.specs.Touches.{touches}
use Rattle.revision.specs.Revision.{renewed}
use Rattle.revision.specs.declared.Age.TheVariants.{Current}
use Rattle.present.specs.Present.{present_moved, present_placed, present_written}
use Rattle.pattern.proofs.Single.{none_lost}
use Rattle.present.proofs.Empty.{word_none, count_none}
use Rattle.write.specs.Steps.{Placed, settled}
use Rattle.write.specs.Written.{difference, moved, written, write_judged}

moved_none : (s : List ℕ) (q : Params) (i t : ℕ) (v : List ℕ) (o : ℕ) → present_moved s q 0 i t (difference s q i t v) o ≡ moved s q i t v o
unfolding present_moved moved touches
moved_none s q i t v o =
    ap (λ (w : ℕ). get_or s (parity_from q + o) 0 ⊕ pick (bit w (o % column_length q / q.b)) (difference s q i t v (o % column_length q % q.b)))
    (word_none q i t (o / column_length q))

-- the strip placed where no column is lost
strip_none : (s : List ℕ) (q : Params) (i t : ℕ) (v : List ℕ) → present_placed s q 0 i t v ≡ put s (strip_at q i t) v
unfolding present_placed
strip_none s q i t v = rw (none_lost i)

-- all parity moved
parity_none : (s : List ℕ) (q : Params) (i t : ℕ) (v : List ℕ)
    → patch s (parity_from q) (q.r * column_length q) (present_moved s q 0 i t (difference s q i t v)) ≡ patch s (parity_from q) (q.r * column_length q) (moved s q i t v)
parity_none s q i t v = ap (patch s (parity_from q) (q.r * column_length q)) (fun_ext (moved_none s q i t v))

pub written_none : (s : List ℕ) (q : Params) (i t b : ℕ) (v : List ℕ) → present_written s q 0 i t b v (difference s q i t v) ≡ written s q i t b v
unfolding present_written written
written_none s q i t b v =
    let u : List ℕ = patch s (parity_from q) (q.r * column_length q) (present_moved s q 0 i t (difference s q i t v)) in
    ap (λ (l : List ℕ). put32 l (revision_at i) (renewed b)) (strip_none u q i t v ∙ ap (λ (l : List ℕ). put l (strip_at q i t) v) (parity_none s q i t v))

pub none_settled : (s u : List ℕ) (q : Params) (i t b : ℕ) (v : List ℕ) (n : ℕ) → Placed s u (record { q = q; lost = 0; column = i; row = t }) v n → settled u i b n ≡ write_judged s q i t b v Current
unfolding write_judged settled written
none_settled s u q i t b v n P =
    ap₂ (λ (c : ℕ) (l : List ℕ). record { answer = Ok (record { revision = renewed b; count = c }); image = put32 l (revision_at i) (renewed b) }) (P.counted ∙ count_none q i t)
    (P.bytes ∙ ap (λ (l : List ℕ). put l (strip_at q i t) v) (parity_none s q i t v))
