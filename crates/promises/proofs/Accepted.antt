-- That reading accepts an image, as the demands say it, and what an accepted image is.
-- Assumes nothing.
use Prim.Native.Nat.{ℕ}
use mathlib.Core.List.{List}
use mathlib.Core.Path.{◌≡◌, refl, sym}
use Rattle.std.specs.Prelude.{Ok}
use Rattle.stripe.proofs.Frame.{image_read, read_image}
use Rattle.stripe.specs.Reading.{Image, read_of}
use Rattle.stripe.specs.declared.Params.{Params}

pub reads_image : (s : List ℕ) (q : Params) → read_of s ≡ Ok q → Image s q
reads_image s q e = read_image s q (read_of s) refl e

pub image_reads : (s : List ℕ) (q : Params) → Image s q → read_of s ≡ Ok q
image_reads s q i = sym (image_read s q i)
