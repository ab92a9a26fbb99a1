-- A right image is its own rebuilding, whatever its lost columns hold.
-- Assumes nothing.
use Prim.Native.Nat.{ℕ, ◌+◌, ◌<◌}
use mathlib.Core.Bool.{Bool, true, false}
use mathlib.Core.List.{List}
use mathlib.Core.Path.{◌≡◌, sym, ◌∙◌, refl, ap}
use native.Mathlib.Omega.{arith}
use lib.Dec.{T}
use lib.ListN.{length, get_or}
use Rattle.std.specs.Prelude.{Ok}
use Rattle.laws.specs.Choose.{choose}
use Rattle.stripe.proofs.Frame.{image_same}
use Rattle.stripe.specs.Layout.{rows, data_byte, parity_byte}
use Rattle.stripe.specs.Reading.{Image, read_of}
use Rattle.stripe.specs.declared.Params.{Params}
use Rattle.block.proofs.Touching.{due_agree}
use Rattle.block.specs.Parity.{due, Right}
use Rattle.rebuild.proofs.Cells.{is_rebuilt, rebuilt_length, rebuilt_front, rebuilt_count}
use Rattle.pattern.proofs.Count.{length_consulted, rising_at, consulted_rising}
use Rattle.pattern.proofs.Single.{none_lost}
use Rattle.rebuild.proofs.Independent.{rebuilt_agrees}
use Rattle.promises.proofs.Solved.{whole_only}
use Rattle.rebuild.specs.Agrees.{AgreesOutside}
use Rattle.rebuild.specs.Answer.{rebuild_of, rebuild_read}
use Rattle.pattern.specs.Pattern.{pattern_fits, few_lost, is_lost, consulted}
use Rattle.rebuild.specs.Lost.{whole_data, whole_parity, rebuilt}

-- ---- a right image is its own rebuilding

module _ (s : List ℕ) (q : Params) (m : ℕ) (i : Image s q) (r : Right s q) (f : T (few_lost q m)) where
  pub whole_data_right : (c t x : ℕ) → c < q.k → t < rows q → x < q.b → whole_data s q m c t x ≡ data_byte s q c t x
  whole_data_right c t x h k l =
      whole_only s q m i.admitted f (data_byte s q) x (λ c t h k e. refl)
      (λ v t h k.
      let g : v < length (consulted q m) = omega (arith, length_consulted q m f) in
      sym (r.parity_due (get_or (consulted q m) v 0) t x (rising_at 0 q.r (consulted q m) (consulted_rising q m) v g).1 k l))
      c t h k

  pub whole_parity_right : (j t x : ℕ) → j < q.r → t < rows q → x < q.b → whole_parity s q m j t x ≡ parity_byte s q j t x
  unfolding whole_parity
  whole_parity_right j t x h k l = go (is_lost m (q.k + j))
    where
      go : (b : Bool) → choose b (due q (whole_data s q m) j t x) (parity_byte s q j t x) ≡ parity_byte s q j t x
      go true = due_agree q (whole_data s q m) (data_byte s q) j t x (λ c u g n. whole_data_right c u x g n l) ∙ sym (r.parity_due j t x h k l)
      go false = refl

  pub rebuilt_self : rebuilt s q m ≡ s
  rebuilt_self =
      sym (is_rebuilt s q m i.len s i.admitted refl (λ o h. refl) (λ o h k. refl)
      (λ c t x h k l. sym (whole_data_right c t x h k l)) (λ j t x h k l. sym (whole_parity_right j t x h k l)))

-- "From a right stripe any set of at most r lost columns is rebuilt to the byte": u has anything in the lost columns
pub rebuilt_right : (s u : List ℕ) (q : Params) (m : ℕ) → Image s q → Right s q → T (few_lost q m) → AgreesOutside s u q m → rebuilt u q m ≡ s
rebuilt_right s u q m i r f g = sym (rebuilt_agrees s u q m g i) ∙ rebuilt_self s q m i r f

-- ---- any image

pub rebuilt_image : (s : List ℕ) (q : Params) (m : ℕ) → Image s q → Image (rebuilt s q m) q
rebuilt_image s q m i =
    image_same s (rebuilt s q m) q i (rebuilt_length s q m i.len)
    (λ o h. rebuilt_front s q m i.len o (omega arith)) (λ o h k. rebuilt_front s q m i.len o k) (rebuilt_count s q m i.len)

-- "The empty pattern .. changes nothing."
pub rebuilt_none : (s : List ℕ) (q : Params) → Image s q → rebuilt s q 0 ≡ s
unfolding whole_data whole_parity
rebuilt_none s q i =
    sym (is_rebuilt s q 0 i.len s i.admitted refl (λ o h. refl) (λ o h k. refl)
    (λ c t x h k l. rw (none_lost c)) (λ j t x h k l. rw (none_lost (q.k + j))))

-- what rebuild comes to where nothing is refused
pub rebuild_done : (s : List ℕ) (q : Params) (m : ℕ) → read_of s ≡ Ok q → pattern_fits q m ≡ true → few_lost q m ≡ true
    → rebuild_of s m ≡ record { answer = Ok tt; image = rebuilt s q m }
unfolding rebuild_of rebuild_read
rebuild_done s q m reads fits few = ap (rebuild_read s m) reads ∙ rw (fits, few)
