-- "Stripe image": the image that is made of given data.
-- Assumes nothing.
use Rattle.std.specs.Prelude.{ℕ, ◌+◌, ◌*◌, List, get_or}
use Rattle.laws.specs.Part.{tab}
use Rattle.stripe.specs.declared.Params.{Params}
use Rattle.stripe.specs.Layout.{column_length}
use Rattle.stripe.specs.Sections.{image_of}
use Rattle.block.specs.Parity.{due_at}

-- byte x of strip t of data column i, of "k(p-1)B data bytes in section 3's order"
abbrev pub given : List ℕ → Params → ℕ → ℕ → ℕ → ℕ
given d q i t x = get_or d (i * column_length q + t * q.b + x) 0

-- "the right image of that data, revisions 0"
unfoldable pub made : Params → List ℕ → List ℕ
made q d = image_of q (tab (4 * q.k) (λ o. 0)) d (tab (q.r * column_length q) (due_at q (given d q)))
