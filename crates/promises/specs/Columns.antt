-- Request 4, "Column files for the boxes. Each box should get just its column."
-- Assumes nothing.
use Rattle.std.specs.Prelude.{ℕ, ◌+◌, ◌<◌, ◌≤◌, List, ◌∷◌, ◌≡◌, length, get_or, Result, Ok}
use Rattle.laws.specs.Bit.{weight}
use Rattle.laws.specs.Left.{Left}
use Rattle.stripe.specs.Layout.{image_length}
use Rattle.stripe.specs.Reading.{read_of}
use Rattle.stripe.specs.declared.Params.{Params}
use Rattle.block.specs.Parity.{Right}
use Rattle.rebuild.specs.Answer.{rebuild_of}
use Rattle.column_file.specs.File.{file_length, file_of}
use Rattle.columns.specs.Export.{export_of, file_length_of}
use Rattle.columns.specs.Import.{import_of, files_length_of}
use Rattle.columns.specs.Only.{Listed, AllListed, exported, only, all_strips, others}
use Rattle.promises.specs.Demand2.{ComesTo}
use Rattle.refusal.specs.declared.Refusal.{Refusal}
use Rattle.refusal.specs.Number.{answer_number, answer_value}

-- import was accepted, told this pattern of absent columns, and filled the slice so
pub record Fills (l : Left (Result ℕ Refusal)) (pattern : ℕ) (image : List ℕ) : Type 0 where
  pub answered : answer_number l.answer ≡ 0
  pub absent : answer_value l.answer ≡ pattern
  pub left : l.image ≡ image

-- bytes, as a slice has them
abbrev pub AllBytes : List ℕ → Type 0
AllBytes s = (o : ℕ) → get_or s o 0 < 256

-- of every accepted image s with the parameters q; the columns n ∷ ns are not none, none of them twice, in any order; t is the lent slice
pub record ColumnFiles : Type 0 where
  -- "Export writes one file for column n"
  pub exports : (s : List ℕ) (q : Params) (n : ℕ) (t : List ℕ) → read_of s ≡ Ok q → n < q.k + q.r → length t ≡ file_length q n
      → ComesTo (export_of s n t) 0 (file_of s q n)
  -- "Import takes any set of such files, one after another in a lent slice, and fills an image and the pattern of absent columns. Absent columns and
  -- their revisions are filled with zeros."
  pub imports : (s : List ℕ) (q : Params) (n : ℕ) (ns t : List ℕ) → read_of s ≡ Ok q → Listed q (n ∷ ns) → length t ≡ image_length q
      → Fills (import_of (exported s q (n ∷ ns)) t) (others q (n ∷ ns)) (only s q (n ∷ ns))
  -- and reading accepts that image
  pub reads : (s : List ℕ) (q : Params) (ns : List ℕ) → read_of s ≡ Ok q → read_of (only s q ns) ≡ Ok q
  -- "Exporting all columns and importing them in any order gives the image back."
  pub gives_back : (s : List ℕ) (q : Params) (n : ℕ) (ns t : List ℕ) → read_of s ≡ Ok q → AllBytes s → Listed q (n ∷ ns) → AllListed q (n ∷ ns)
      → length t ≡ image_length q → Fills (import_of (exported s q (n ∷ ns)) t) 0 s
  -- with at most r columns absent of a right image, rebuilding what import gave restores every strip; the revisions of absent columns stay zeros
  pub rebuilds : (s : List ℕ) (q : Params) (ns : List ℕ) → read_of s ≡ Ok q → Right s q → weight (others q ns) (q.k + q.r) ≤ q.r
      → ComesTo (rebuild_of (only s q ns) (others q ns)) 0 (all_strips s q ns)
  -- the lengths that are told are those to lend
  pub file_fits : (s : List ℕ) (n m : ℕ) (t : List ℕ) → file_length_of s n ≡ Ok m → length t ≡ m → answer_number (export_of s n t).answer ≡ 0
  pub image_fits : (f : List ℕ) (m : ℕ) (t : List ℕ) → files_length_of f ≡ Ok m → length t ≡ m → answer_number (import_of f t).answer ≡ 0
