-- Columns of an image put into another: which bytes become those of the image, and which stay.
-- Assumes nothing.
use Prim.Native.Nat.{ℕ, ◌+◌, ◌*◌, ◌<◌}
use mathlib.Core.Bool.{true}
use mathlib.Core.List.{List, [], ◌∷◌}
use mathlib.Core.Path.{◌≡◌, refl, sym, subst, ◌∙◌}
use native.Mathlib.Omega.{arith}
use lib.ListN.{length, get_or}
use Rattle.laws.proofs.Part.{get_or_part}
use Rattle.stripe.specs.Layout.{column_length, revision_at, image_length}
use Rattle.stripe.specs.Reading.{Image}
use Rattle.stripe.specs.declared.Params.{Params}
use Rattle.column_file.specs.File.{column_at, carried, revisions_of, strips_of}
use Rattle.filling.specs.Filled.{put_column}
use Rattle.columns.specs.Only.{among, Listed, more}
use Rattle.column_file.proofs.Columns.{length_revisions, length_strips}
use Rattle.filling.proofs.Bytes.{Of, Byte, inner, outer, byte, put_there, put_stays, length_put_column}
use Rattle.columns.proofs.Marks.{among_cases, among_head, among_tail}
use Rattle.columns.proofs.Walked.{placed}

-- t is now u: bytes of s in the places that In names
pub record Copied (s t u : List ℕ) (In : ℕ → Type 0) : Type 0 where
  pub len : length u ≡ length t
  pub inside : (o : ℕ) → In o → get_or u o 0 ≡ get_or s o 0
  pub outside : (o : ℕ) → (In o → ⊥) → get_or u o 0 ≡ get_or t o 0
  pub stay : (o : ℕ) → get_or t o 0 ≡ get_or s o 0 → get_or u o 0 ≡ get_or s o 0

module _ (s : List ℕ) (q : Params) (i : Image s q) where
  abbrev len_s : length s ≡ image_length q
  len_s = i.len

  -- a column of s put where it stands in s
  pub column_copied : (n : ℕ) (t : List ℕ) → n < q.k + q.r → length t ≡ length s → Copied s t (put_column q n (revisions_of s q n) (strips_of s q n) t) (Of q n)
  column_copied n t h l = record {
    len = length_put_column q n _ _ h (length_revisions s q i n h) (length_strips s q i n h) t lt ∙ sym lt;
    inside = λ o f. put_there q n _ _ o (get_or s o 0) t lt (own o) f;
    outside = λ o f. out_of_it o f (own o);
    stay = λ o e. put_stays q n _ _ o (get_or s o 0) t lt (own o) e;
  }
    where
      lt : length t ≡ image_length q
      lt = l ∙ len_s

      own : (o : ℕ) → Byte q n (revisions_of s q n) (strips_of s q n) (λ x. x ≡ get_or s o 0) o
      own =
          byte q n (revisions_of s q n) (strips_of s q n) h (length_revisions s q i n h) (length_strips s q i n h) (λ o x. x ≡ get_or s o 0)
          (λ j b. get_or_part s (revision_at n) (4 * carried q n) j b) (λ j b. get_or_part s (column_at q n) (column_length q) j b)

      out_of_it : (o : ℕ) → (Of q n o → ⊥) → Byte q n (revisions_of s q n) (strips_of s q n) (λ x. x ≡ get_or s o 0) o → get_or (put_column q n (revisions_of s q n) (strips_of s q n) t) o 0 ≡ get_or t o 0
      out_of_it o f (inner x e w g) = absurd (f w)
      out_of_it o f (outer w g) = g t lt

  pub length_placed : (ns t : List ℕ) → Listed q ns → length t ≡ length s → length (placed s q ns t) ≡ length s
  unfolding placed
  length_placed [] t L l = l
  length_placed (n ∷ ns) t (more h a L) l = length_placed ns _ L ((column_copied n t h l).len ∙ l)

  placed_stay : (ns t : List ℕ) (o : ℕ) → Listed q ns → length t ≡ length s → get_or t o 0 ≡ get_or s o 0 → get_or (placed s q ns t) o 0 ≡ get_or s o 0
  unfolding placed
  placed_stay [] t o L l e = e
  placed_stay (n ∷ ns) t o (more h a L) l e = let c = column_copied n t h l in placed_stay ns _ o L (c.len ∙ l) (c.stay o e)

  -- a byte of a column of the list
  pub placed_inner : (ns t : List ℕ) (o m : ℕ) → Listed q ns → length t ≡ length s → among m ns ≡ true → Of q m o → get_or (placed s q ns t) o 0 ≡ get_or s o 0
  unfolding placed among
  placed_inner [] t o m L l b f = let z : ◌≡◌ {A = ℕ} 0 1 = cc in absurd (omega arith)
  placed_inner (n ∷ ns) t o m (more h a L) l b f =
      let c = column_copied n t h l in
      among_cases m n ns b
      (λ e. placed_stay ns _ o L (c.len ∙ l) (c.inside o (subst (λ (x : ℕ). Of q x o) e f)))
      (λ g. placed_inner ns _ o m L (c.len ∙ l) g f)

  -- a byte of no column of the list
  pub placed_outer : (ns t : List ℕ) (o : ℕ) → Listed q ns → length t ≡ length s → ((m : ℕ) → among m ns ≡ true → Of q m o → ⊥) → get_or (placed s q ns t) o 0 ≡ get_or t o 0
  unfolding placed
  placed_outer [] t o L l f = refl
  placed_outer (n ∷ ns) t o (more h a L) l f =
      let c = column_copied n t h l in
      placed_outer ns _ o L (c.len ∙ l) (λ m g. f m (among_tail m n ns g)) ∙ c.outside o (f n (among_head n ns))
