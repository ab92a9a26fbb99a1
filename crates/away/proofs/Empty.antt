-- "With the empty pattern nothing differs from before."
-- Assumes nothing.
use Prim.Native.Nat.{ℕ}
use mathlib.Core.Bool.{false}
use mathlib.Core.List.{List}
use mathlib.Core.Path.{◌≡◌, refl, sym, ap, ap₂, ◌∙◌, fun_ext}
use lib.ListN.{get_or}
use Rattle.std.specs.Prelude.{Result, Ok, Err}
use Rattle.laws.specs.Xor.{◌⊕◌}
use Rattle.stripe.specs.Reading.{read_of}
use Rattle.stripe.specs.declared.Params.{Params}
use Rattle.pattern.specs.Pattern.{is_lost}
use Rattle.rebuild.proofs.Whole.{whole_data_present}
use Rattle.revision.specs.Revision.{renewed}
use Rattle.pattern.proofs.Single.{none_lost, none_fits, none_few}
use Rattle.present.proofs.Empty.{count_none}
use Rattle.write.proofs.Empty.{written_none}
use Rattle.present.specs.Present.{present_written}
use Rattle.write.specs.Written.{by_age, difference, written, write_judged, write_sound, write_read, write_of}
use Rattle.away.specs.Away.{away_difference, away_written, away_judged, away_sound, away_read, away_of}
use Rattle.refusal.specs.declared.Refusal.{Refusal}

-- the strip of a present column is the image's
pub difference_there : (s : List ℕ) (q : Params) (m i t : ℕ) (v : List ℕ) → is_lost m i ≡ false → (x : ℕ) → difference s q i t v x ≡ away_difference s q m i t v x
unfolding away_difference difference
difference_there s q m i t v e x = ap (λ (y : ℕ). y ⊕ get_or v x 0) (sym (whole_data_present s q m i t x e))

away_written_none : (s : List ℕ) (q : Params) (i t b : ℕ) (v : List ℕ) → away_written s q 0 i t b v ≡ written s q i t b v
unfolding away_written
away_written_none s q i t b v = ap (present_written s q 0 i t b v) (sym (fun_ext (difference_there s q 0 i t v (none_lost i)))) ∙ written_none s q i t b v

judged_none : (s : List ℕ) (q : Params) (i t b : ℕ) (v : List ℕ) → away_judged s q 0 i t b v ≡ write_judged s q i t b v
unfolding away_judged write_judged
judged_none s q i t b v =
    ap₂ (λ (c : ℕ) (l : List ℕ). by_age s (record { answer = Ok (record { revision = renewed b; count = c }); image = l })) (count_none q i t) (away_written_none s q i t b v)

read_none : (s : List ℕ) (i t b : ℕ) (v : List ℕ) (w : Result Params Refusal) → away_read s 0 i t b v w ≡ write_read s i t b v w
unfolding away_read write_read away_sound write_sound
read_none s i t b v (Ok q) = rw (none_fits q, none_few q, judged_none s q i t b v)
read_none s i t b v (Err e) = refl

-- for every input: the answer and the image
pub away_none : (s : List ℕ) (i t b : ℕ) (v : List ℕ) → away_of s 0 i t b v ≡ write_of s i t b v
unfolding away_of write_of
away_none s i t b v = read_none s i t b v (read_of s)
