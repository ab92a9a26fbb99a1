-- The report of document 01's example, whole, and of inputs that are refused, by computation.
-- Assumes nothing.
use Prim.Native.Nat.{ℕ, ◌<◌}
use mathlib.Core.List.{List}
use mathlib.Core.Path.{◌≡◌, refl}
use lib.ListN.{length, take}
use borrow.Author.Tests.{lt-ltb}
use Rattle.laws.specs.Bit.{weight, bit, pack}
use Rattle.laws.specs.Choose.{below}
use Rattle.laws.specs.Sum.{sum, pick, total}
use Rattle.laws.specs.Xor.{◌⊕◌}
use Rattle.algebra.specs.Column.{coefficient, lane}
use Rattle.algebra.specs.Divide.{quot, turn, gap, inv, evens}
use Rattle.algebra.specs.Lane.{act}
use Rattle.algebra.specs.Prime.{odd_prime}
use Rattle.algebra.specs.Word.{lane_of}
use Rattle.stripe.specs.Examples.{example_image}
use Rattle.stripe.specs.Params.{admitted_prime, admitted_shape, admitted_strip, checked_of}
use Rattle.stripe.specs.Reading.{read_of, with_params, sections_of}
use Rattle.parity.specs.Answer.{parity_right}
use Rattle.block.specs.Parity.{due}
use Rattle.texts.specs.Text.{bytes, text, places}
use Rattle.reporting.specs.Report.{lines, data_line, parity_line, read_lines, lines_of, report_of}

-- "Output, whole"
pub example_report : report_of example_image ≡ bytes "stripe 5 2 2 1\ndata 0 0\ndata 1 7\nparity 0 right\nparity 1 right\n"
unfolding report_of lines_of read_lines lines data_line parity_line text places total read_of with_params sections_of checked_of admitted_prime admitted_shape admitted_strip odd_prime below parity_right due coefficient lane lane_of act quot turn gap inv evens sum pick ◌⊕◌ weight bit pack
example_report = refl

-- "I less one byte CUT"
pub cut_report : report_of (take 39 example_image) ≡ bytes "refused 1\n"
unfolding report_of lines_of read_lines lines data_line parity_line text places total read_of with_params sections_of checked_of admitted_prime admitted_shape admitted_strip odd_prime below
cut_report = refl

-- "input above 65,536 bytes", whatever it holds
pub long_report : (s : List ℕ) → 65536 < length s → report_of s ≡ bytes "refused 14\n"
unfolding report_of text places total
long_report s h = rw (lt-ltb 65536 (length s) h)
