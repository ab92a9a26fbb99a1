-- The bytes of the parity columns, by column, row and lane; the word of wrong parities.
-- Assumes nothing.
use Prim.Native.Nat.{ℕ, suc, ◌+◌, ◌*◌, ◌/◌, ◌%◌, ◌^◌, ◌<◌, ◌≤◌}
use mathlib.Core.Bool.{Bool, true, false}
use mathlib.Core.List.{List}
use mathlib.Core.Path.{◌≡◌, sym, ap, ap₂, ◌∙◌, refl}
use native.Mathlib.Nat.{mul-le-mul, mod-eq_of_lt, add_comm}
use native.Mathlib.Omega.{arith}
use lib.Arith.{digits_div, digits_mod}
use lib.Dec.{eqb}
use lib.ListN.{get_or}
use lib.Pow.{pow_mono}
use Rattle.laws.proofs.Bit.{pack_lt}
use Rattle.laws.proofs.Rows.{row_in}
use Rattle.laws.specs.Bit.{pack}
use Rattle.laws.specs.Choose.{choose}
use Rattle.stripe.proofs.Places.{strip_in}
use Rattle.stripe.specs.Layout.{strip_at, rows, data_byte, parity_byte, parity_from, parity_at, parity_strip_at, column_length}
use Rattle.stripe.specs.Params.{Admitted}
use Rattle.stripe.specs.Reading.{Image}
use Rattle.stripe.specs.declared.Params.{Params}
use Rattle.parity.proofs.Bytes.{below_all}
use Rattle.block.proofs.Touching.{due_agree}
use Rattle.parity.specs.Answer.{parity_right, wrong_parities}
use Rattle.parity.specs.Inner.{due_column, wrong_bit, wrong_to}
use Rattle.block.specs.Parity.{due, due_at}

-- ---- the data that a change of parity leaves

pub same_data : (s t : List ℕ) (q : Params) (i u x : ℕ) → ((o : ℕ) → o < parity_from q → get_or t o 0 ≡ get_or s o 0) → i < q.k → u < rows q → x < q.b
    → data_byte t q i u x ≡ data_byte s q i u x
same_data s t q i u x h k l g = h (strip_at q i u + x) (omega (arith, strip_in q i u k l))

pub same_due : (s t : List ℕ) (q : Params) (j r x : ℕ) → ((o : ℕ) → o < parity_from q → get_or t o 0 ≡ get_or s o 0) → x < q.b
    → due q (data_byte t q) j r x ≡ due q (data_byte s q) j r x
same_due s t q j r x h g = due_agree q (data_byte t q) (data_byte s q) j r x (λ i u k l. same_data s t q i u x h k l g)

-- ---- one column

-- byte x of row t of a column
pub column_row : (q : Params) (d : ℕ → ℕ → ℕ → ℕ) (j t x : ℕ) → x < q.b → due_column q d j (t * q.b + x) ≡ due q d j t x
unfolding due_column
column_row q d j t x h = ap₂ (λ (a b : ℕ). due q d j a b) (digits_div t h) (digits_mod t h)

-- ---- all columns

pub column_some : (q : Params) → Admitted q → 0 < column_length q
column_some q a = mul-le-mul {n₁ = 1} {m₁ = 1} {n₂ = rows q} {m₂ = q.b} (omega (arith, a.p_low)) a.b_low

-- byte o of column j
pub at_column : (q : Params) (d : ℕ → ℕ → ℕ → ℕ) (j o : ℕ) → o < column_length q → due_at q d (j * column_length q + o) ≡ due_column q d j o
unfolding due_at due_column
at_column q d j o h =
    ap₂ (λ (a b : ℕ). due q d a (b / q.b) (b % q.b)) (digits_div j h) (digits_mod j h)

-- ---- comparing

-- the test of byte o of column j, and that of byte x of its row t
right_row : (s : List ℕ) (q : Params) (j t x : ℕ) → x < q.b
    → eqb (get_or s (parity_at q j + (t * q.b + x)) 0) (due_column q (data_byte s q) j (t * q.b + x)) ≡ eqb (parity_byte s q j t x) (due q (data_byte s q) j t x)
right_row s q j t x h =
    let z : parity_at q j + (t * q.b + x) ≡ parity_strip_at q j t + x = omega arith in
    ap₂ (λ (a b : ℕ). eqb (get_or s a 0) b) z (column_row q (data_byte s q) j t x h)

-- the test of byte x of row t
pub right_byte : (s : List ℕ) (q : Params) (j t x : ℕ) → t < rows q → x < q.b → parity_right s q j ≡ true → eqb (parity_byte s q j t x) (due q (data_byte s q) j t x) ≡ true
unfolding parity_right due_column
right_byte s q j t x h l e =
    sym (right_row s q j t x l)
    ∙ below_all (column_length q) (λ o. eqb (get_or s (parity_at q j + o) 0) (due_column q (data_byte s q) j o)) (t * q.b + x) (sym e) (omega (arith, row_in t (rows q) q.b h))

-- ---- the word of wrong parities

pub wrong_none : (s : List ℕ) (q : Params) → 0 ≡ wrong_to s q 0
unfolding wrong_to pack
wrong_none s q = refl

bit_small : (b : Bool) → choose b 0 1 < 2
bit_small true = omega arith
bit_small false = omega arith

wrong_small : (s : List ℕ) (q : Params) (j : ℕ) → wrong_bit s q j < 2
unfolding wrong_bit
wrong_small s q j = bit_small (parity_right s q j)

module _ (s : List ℕ) (q : Params) (j w x : ℕ) (A : Image s q) (h : j < q.r) (e : w ≡ wrong_to s q j) (f : x ≡ wrong_bit s q j) where
  wrong_shifted : x * 2 ^ j % 2 ^ 64 ≡ wrong_bit s q j * 2 ^ j
  wrong_shifted =
      let k : j ≤ 61 = omega (arith, A.admitted.fits, A.admitted.p_high) in
      let z : wrong_bit s q j * 2 ^ j ≤ 1 * 2 ^ j = mul-le-mul {n₁ = wrong_bit s q j} {m₁ = 2 ^ j} {n₂ = 1} {m₂ = 2 ^ j} (omega (arith, wrong_small s q j)) (omega arith) in
      let g : 2 ^ j ≤ 2 ^ 61 = pow_mono k in
      let l : wrong_bit s q j * 2 ^ j < 2 ^ 64 = omega arith in
      ap (λ (y : ℕ). y * 2 ^ j % 2 ^ 64) f ∙ mod-eq_of_lt l

  pub wrong_more : w + x * 2 ^ j % 2 ^ 64 ≡ wrong_to s q (j + 1)
  unfolding wrong_to pack
  wrong_more =
      let z : j + 1 ≡ suc j = omega arith in
      ap₂ (λ (a b : ℕ). a + b) e wrong_shifted ∙ add_comm (wrong_to s q j) (wrong_bit s q j * 2 ^ j)
      ∙ ap (λ (b : ℕ). b * 2 ^ j + wrong_to s q j) (sym (mod-eq_of_lt (wrong_small s q j)))
      ∙ ap (wrong_to s q) (sym z)

  pub wrong_fits : w + x * 2 ^ j % 2 ^ 64 < 2 ^ 64
  unfolding wrong_to
  wrong_fits =
      let k : j + 1 ≤ 61 = omega (arith, A.admitted.fits, A.admitted.p_high) in
      let g : 2 ^ (j + 1) ≤ 2 ^ 61 = pow_mono k in
      omega (arith, wrong_more, pack_lt (j + 1) (wrong_bit s q))

pub wrong_end : (s : List ℕ) (q : Params) (j w : ℕ) → w ≡ wrong_to s q j → j ≤ q.r → q.r ≤ j → w ≡ wrong_parities s q
unfolding wrong_to wrong_parities wrong_bit
wrong_end s q j w e h l = let z : j ≡ q.r = omega arith in e ∙ ap (wrong_to s q) z
