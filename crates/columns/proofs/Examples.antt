-- Column files of the image I of document 01: a file written out, an image from two of four files, and each refusal of import.
-- Assumes nothing.
use mathlib.Core.List.{◌++◌, map}
use mathlib.Core.Path.{◌≡◌, refl}
use Rattle.std.specs.Prelude.{Ok, Err}
use Rattle.laws.specs.Bit.{bit, pack}
use Rattle.laws.specs.Choose.{below}
use Rattle.laws.specs.Part.{tab, part, put}
use Rattle.laws.specs.Xor.{◌⊕◌}
use Rattle.algebra.specs.Prime.{odd_prime}
use Rattle.stripe.specs.Examples.{example_image}
use Rattle.stripe.specs.Params.{admitted_prime, admitted_shape, admitted_strip, checked_of}
use Rattle.stripe.specs.Reading.{read_of, with_params, sections_of}
use Rattle.stripe.specs.Sections.{image_of}
use Rattle.column_file.specs.File.{column_at, flag, carried, file_holding, file_of}
use Rattle.file_by_file.specs.Files.{alike, counted, body_step, column_step, checked_step, step_of, onward, walk}
use Rattle.columns.specs.Export.{export_sound, export_read, export_of}
use Rattle.filling.specs.Filled.{blank, put_column, put_file, fill}
use Rattle.columns.specs.Import.{absent, import_sound, import_met, import_of}
use Rattle.columns.specs.Examples.{data_file, parity_file, both_image, refused_examples}

pub first_exported : export_of example_image 1 (tab 26 (λ o. 9)) ≡ record { answer = Ok tt; image = data_file }
unfolding export_of export_read export_sound file_of file_holding flag carried column_at read_of with_params sections_of checked_of admitted_prime admitted_shape admitted_strip odd_prime below part tab
first_exported = refl

pub third_exported : export_of example_image 3 (tab 22 (λ o. 9)) ≡ record { answer = Ok tt; image = parity_file }
unfolding export_of export_read export_sound file_of file_holding flag carried column_at read_of with_params sections_of checked_of admitted_prime admitted_shape admitted_strip odd_prime below part tab
third_exported = refl

-- columns 0 and 2 are absent
pub both_imported : import_of (parity_file ++ data_file) (tab 40 (λ o. 9)) ≡ record { answer = Ok 5; image = both_image }
unfolding import_of import_met import_sound walk onward step_of checked_step column_step body_step alike counted absent fill put_file put_column blank image_of flag carried column_at checked_of admitted_prime admitted_shape admitted_strip odd_prime below part put tab bit pack ◌⊕◌
both_imported = refl

pub refusals_right : map (λ e. import_of e.0 (tab 39 (λ o. 9))) refused_examples ≡ map (λ e. record { answer = Err e.1; image = tab 39 (λ o. 9) }) refused_examples
unfolding import_of import_met import_sound walk onward step_of checked_step column_step body_step alike counted absent fill put_file put_column blank image_of flag carried column_at checked_of admitted_prime admitted_shape admitted_strip odd_prime below part put tab bit pack ◌⊕◌
refusals_right = refl
