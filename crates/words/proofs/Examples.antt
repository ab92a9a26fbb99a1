-- Words and what they are.
-- Assumes nothing.
use Rattle.std.proofs.Common.{◌≡◌, ◌^◌, Some, None, [], ◌∷◌, refl}
use Rattle.laws.specs.Bit.{bit, pack}
use Rattle.words.specs.Command.{command_of, import_name}
use Rattle.words.specs.Columns.{named, columns_of, with_column}
use Rattle.words.specs.Decimal.{spelled, decimal_of, all_digits, is_numeral}
use Rattle.words.specs.Words.{before_first, parts}
use Rattle.words.specs.declared.Command.TheVariants.{Import, Usage}

-- 0, 007, 18446744073709551615 and one more, nothing, 1:
zero_word : decimal_of (48 ∷ []) ≡ Some 0
unfolding decimal_of is_numeral all_digits spelled
zero_word = refl

leading_zeros : decimal_of (48 ∷ 48 ∷ 55 ∷ []) ≡ Some 7
unfolding decimal_of is_numeral all_digits spelled
leading_zeros = refl

largest_number : decimal_of (49 ∷ 56 ∷ 52 ∷ 52 ∷ 54 ∷ 55 ∷ 52 ∷ 52 ∷ 48 ∷ 55 ∷ 51 ∷ 55 ∷ 48 ∷ 57 ∷ 53 ∷ 53 ∷ 49 ∷ 54 ∷ 49 ∷ 53 ∷ []) ≡ Some 18446744073709551615
unfolding decimal_of is_numeral all_digits spelled
largest_number = refl

one_too_large : decimal_of (49 ∷ 56 ∷ 52 ∷ 52 ∷ 54 ∷ 55 ∷ 52 ∷ 52 ∷ 48 ∷ 55 ∷ 51 ∷ 55 ∷ 48 ∷ 57 ∷ 53 ∷ 53 ∷ 49 ∷ 54 ∷ 49 ∷ 54 ∷ []) ≡ None
unfolding decimal_of is_numeral all_digits spelled
one_too_large = refl

empty_word : decimal_of [] ≡ None
unfolding decimal_of is_numeral
empty_word = refl

colon_word : decimal_of (49 ∷ 58 ∷ []) ≡ None
unfolding decimal_of is_numeral all_digits spelled
colon_word = refl

-- 0,3 is the pattern 9; 0, is no list; 64 is column 63; - and nothing are none
two_columns : columns_of (48 ∷ 44 ∷ 51 ∷ []) ≡ Some 9
unfolding named with_column parts before_first decimal_of is_numeral all_digits spelled pack bit
two_columns = refl

comma_left : columns_of (48 ∷ 44 ∷ []) ≡ None
unfolding named with_column parts before_first decimal_of is_numeral all_digits spelled pack bit
comma_left = refl

far_column : columns_of (54 ∷ 52 ∷ []) ≡ Some (2 ^ 63)
unfolding named with_column parts before_first decimal_of is_numeral all_digits spelled pack bit
far_column = refl

dash : columns_of (45 ∷ []) ≡ Some 0
dash = refl

-- an import of no file gets usage; one file is enough, and more are taken
no_file : command_of (import_name ∷ [] ∷ []) ≡ Usage
no_file = refl

one_file : command_of (import_name ∷ [] ∷ [] ∷ []) ≡ Import
one_file = refl

more_files : command_of (import_name ∷ [] ∷ [] ∷ [] ∷ [] ∷ [] ∷ [] ∷ []) ≡ Import
more_files = refl
