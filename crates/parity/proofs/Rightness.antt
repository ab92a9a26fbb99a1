-- What refilling, making and checking give: right images, and the word of the parities that are not.
-- Assumes nothing.
use Prim.Native.Nat.{ℕ, ◌+◌, ◌*◌, ◌/◌, ◌%◌, ◌^◌, ◌<◌, ◌≤◌}
use mathlib.Core.Bool.{Bool, true, false}
use mathlib.Core.List.{List}
use mathlib.Core.Logic.{◌↔◌}
use mathlib.Core.Path.{◌≡◌, sym, ap, subst, ◌∙◌, refl}
use native.Mathlib.Decide.{dec_lt}
use native.Mathlib.Nat.{mod-lt, div-add-mod', mul-le-mul, div-eq_of_lt}
use native.Mathlib.Omega.{arith}
use lib.Dec.{eqb}
use lib.ListN.{length, get_or}
use lib.Pow.{pow_mono}
use borrow.Author.Tests.{eq-eqb, eqb-true}
use Rattle.laws.proofs.Bit.{pack_lt, bit_pack, bit_zero, pack_ext, pack_zero}
use Rattle.laws.proofs.Patch.{patched, is_patch, patch_same}
use Rattle.laws.proofs.Rows.{row_in}
use Rattle.laws.proofs.Tab.{get_or_tab, length_tab}
use Rattle.laws.specs.Bit.{bit}
use Rattle.laws.specs.Choose.{choose}
use Rattle.laws.specs.Part.{tab}
use Rattle.laws.specs.Patch.{Patched}
use Rattle.stripe.proofs.Frame.{image_parity}
use Rattle.stripe.proofs.Images.{of_revisions}
use Rattle.stripe.specs.Layout.{rows, data_byte, parity_byte, parity_from, parity_at, parity_strip_at, column_length, revision_of}
use Rattle.stripe.specs.Params.{Admitted}
use Rattle.stripe.specs.Reading.{Image}
use Rattle.stripe.specs.declared.Params.{Params}
use Rattle.parity.proofs.Bytes.{all_below}
use Rattle.parity.proofs.Columns.{at_column, column_row, same_due, column_some, right_byte}
use Rattle.parity.proofs.Heads.{length_zeros, head_image, head_refilled, head_data}
use Rattle.parity.specs.Answer.{parity_right, wrong_parities}
use Rattle.parity.specs.Make.{given, made}
use Rattle.block.specs.Parity.{due, due_at, refilled, Right}

-- ---- refilling

module _ (s : List ℕ) (q : Params) (i : Image s q) where
  refilled_patched : Patched s (refilled s q) (parity_from q) (q.r * column_length q) (due_at q (data_byte s q))
  unfolding refilled
  refilled_patched = patched s (refilled s q) (parity_from q) (q.r * column_length q) (due_at q (data_byte s q)) (omega (arith, i.len)) refl

  pub refilled_image : Image (refilled s q) q
  refilled_image = image_parity s (refilled s q) q (parity_from q) (q.r * column_length q) (due_at q (data_byte s q)) i refilled_patched (omega arith)

  -- "other bytes stay"
  pub refilled_rest : (o : ℕ) → o < parity_from q → get_or (refilled s q) o 0 ≡ get_or s o 0
  refilled_rest = refilled_patched.below

  pub refilled_right : Right (refilled s q) q
  refilled_right = record { parity_due = at }
    where
      at : (j t x : ℕ) → j < q.r → t < rows q → x < q.b → parity_byte (refilled s q) q j t x ≡ due q (data_byte (refilled s q) q) j t x
      at j t x h k l =
          let c : ℕ = column_length q in
          let o : ℕ = t * q.b + x in
          let in_column : o < c = omega (arith, row_in t (rows q) q.b k) in
          let z : parity_strip_at q j t + x ≡ parity_from q + (j * c + o) = omega arith in
          ap (λ (m : ℕ). get_or (refilled s q) m 0) z ∙ refilled_patched.inner (j * c + o) (omega (arith, row_in j q.r c h))
          ∙ at_column q (data_byte s q) j o in_column ∙ column_row q (data_byte s q) j t x l
          ∙ sym (same_due s (refilled s q) q j t x refilled_rest l)

-- byte o of a column is byte o % b of its row o / b
pub row_of : (o b : ℕ) → o / b * b + o % b ≡ o
row_of o b = div-add-mod' o b

pub row_lt : (o n b : ℕ) → o < n * b → o / b < n
row_lt o n b h =
    elim (dec_lt (o / b) n) [
      | yes k ↦ k
      | no k ↦ absurd (omega (arith, row_of o b, mul-le-mul {n₁ = n} {m₁ = b} {n₂ = o / b} {m₂ = b} (omega arith) (omega arith)))
    ]

-- an image that is right stays as it is
pub right_refilled : (s : List ℕ) (q : Params) → Image s q → Right s q → refilled s q ≡ s
unfolding refilled due_at
right_refilled s q i r =
    let c : ℕ = column_length q in
    let n : ℕ = q.r * c in
    let F : ℕ → ℕ = due_at q (data_byte s q) in
    let some : 0 < q.b = omega (arith, i.admitted.b_low) in
    sym (is_patch s s (parity_from q) n F (omega (arith, i.len))
    (patch_same s (parity_from q) n F (λ o h.
    let j : ℕ = o / c in
    let m : ℕ = o % c in
    let t : ℕ = m / q.b in
    let x : ℕ = m % q.b in
    let lm : m < c = mod-lt o (column_some q i.admitted) in
    let z : parity_from q + o ≡ parity_strip_at q j t + x = omega (arith, row_of o c, row_of m q.b) in
    ap (λ (k : ℕ). get_or s k 0) z ∙ r.parity_due j t x (row_lt o q.r c h) (row_lt m (rows q) q.b lm) (mod-lt m some))))

-- ---- making

module _ (q : Params) (d : List ℕ) (A : Admitted q) (w : length d ≡ q.k * column_length q) where
  parities : List ℕ
  parities = tab (q.r * column_length q) (due_at q (given d q))

  length_parities : length parities ≡ q.r * column_length q
  unfolding parities
  length_parities = length_tab (q.r * column_length q) (due_at q (given d q))

  pub made_image : Image (made q d) q
  unfolding made parities
  made_image = head_image d parities q A w length_parities

  pub made_right : Right (made q d) q
  unfolding made parities
  made_right = subst (λ (s : List ℕ). Right s q) (head_refilled d parities q A w length_parities) (refilled_right (made q d) q made_image)

  pub made_data : (i t x : ℕ) → i < q.k → t < rows q → x < q.b → data_byte (made q d) q i t x ≡ given d q i t x
  unfolding made parities
  made_data = head_data d parities q A w length_parities

  -- "revisions 0"
  zero_at : (o : ℕ) → o < 4 * q.k → get_or (made q d) (12 + o) 0 ≡ 0
  unfolding made parities
  zero_at o h = of_revisions q _ d parities (length_zeros q) w length_parities o h ∙ get_or_tab (4 * q.k) (λ o. 0) o h

  pub made_revisions : (i : ℕ) → i < q.k → revision_of (made q d) i ≡ 0
  made_revisions i h =
      let s : List ℕ = made q d in
      let e1 : 12 + 4 * i + 1 ≡ 12 + (4 * i + 1) = omega arith in
      let e2 : 12 + 4 * i + 2 ≡ 12 + (4 * i + 2) = omega arith in
      let e3 : 12 + 4 * i + 2 + 1 ≡ 12 + (4 * i + 3) = omega arith in
      let z0 = zero_at (4 * i) (omega arith) in
      let z1 : get_or s (12 + 4 * i + 1) 0 ≡ 0 = ap (λ (m : ℕ). get_or s m 0) e1 ∙ zero_at (4 * i + 1) (omega arith) in
      let z2 : get_or s (12 + 4 * i + 2) 0 ≡ 0 = ap (λ (m : ℕ). get_or s m 0) e2 ∙ zero_at (4 * i + 2) (omega arith) in
      let z3 : get_or s (12 + 4 * i + 2 + 1) 0 ≡ 0 = ap (λ (m : ℕ). get_or s m 0) e3 ∙ zero_at (4 * i + 3) (omega arith) in
      omega arith

-- ---- checking

module _ (s : List ℕ) (q : Params) (j : ℕ) where
  pub right_bytes : parity_right s q j ≡ true → (t x : ℕ) → t < rows q → x < q.b → parity_byte s q j t x ≡ due q (data_byte s q) j t x
  right_bytes e t x h l = eqb-true (parity_byte s q j t x) (due q (data_byte s q) j t x) (right_byte s q j t x h l e)

  pub bytes_right : Admitted q → ((t x : ℕ) → t < rows q → x < q.b → parity_byte s q j t x ≡ due q (data_byte s q) j t x) → parity_right s q j ≡ true
  unfolding parity_right
  bytes_right A h =
      let some : 0 < q.b = omega (arith, A.b_low) in
      sym (all_below (column_length q) (λ o. eqb (get_or s (parity_at q j + o) 0) (due q (data_byte s q) j (o / q.b) (o % q.b)))
      (λ o l.
      let z : parity_at q j + o ≡ parity_strip_at q j (o / q.b) + o % q.b = omega (arith, row_of o q.b) in
      eq-eqb _ _ (ap (λ (m : ℕ). get_or s m 0) z ∙ h (o / q.b) (o % q.b) (row_lt o (rows q) q.b l) (mod-lt o some))))

  -- bit j of the word
  pub check_at : j < q.r → bit (wrong_parities s q) j ≡ choose (parity_right s q j) 0 1
  unfolding wrong_parities
  check_at h = bit_pack q.r (λ i. choose (parity_right s q i) 0 1) j h ∙ last (parity_right s q j)
    where
      last : (b : Bool) → choose b 0 1 % 2 ≡ choose b 0 1
      last true = omega arith
      last false = omega arith

  -- "a word whose bit j is set exactly when parity j is wrong": where it is not set, the parity is right
  pub clear_right : j < q.r → bit (wrong_parities s q) j ≡ 0 → parity_right s q j ≡ true
  clear_right h e = right (parity_right s q j) (sym (check_at h) ∙ e)
    where
      right : (b : Bool) → ◌≡◌ {A = ℕ} (choose b 0 1) 0 → b ≡ true
      right true z = refl
      right false z = absurd (omega arith)

-- "other bits are 0"
pub check_below : (s : List ℕ) (q : Params) → wrong_parities s q < 2 ^ q.r
unfolding wrong_parities
check_below s q = pack_lt q.r (λ j. choose (parity_right s q j) 0 1)

pub check_other : (s : List ℕ) (q : Params) (j : ℕ) → q.r ≤ j → bit (wrong_parities s q) j ≡ 0
unfolding bit
check_other s q j h =
    let g : 2 ^ q.r ≤ 2 ^ j = pow_mono h in
    let l : wrong_parities s q < 2 ^ j = omega (arith, check_below s q) in
    ap (λ (x : ℕ). x % 2) (div-eq_of_lt l)

-- no bit is set exactly when the image is right
pub check_none : (s : List ℕ) (q : Params) → Image s q → (wrong_parities s q ≡ 0) ↔ Right s q
unfolding wrong_parities
check_none s q i = (
  λ e. record { parity_due = λ j t x h k l. right_bytes s q j (clear_right s q j h (ap (λ (w : ℕ). bit w j) e ∙ bit_zero j)) t x k l },
  λ r.
      pack_ext q.r (λ j. choose (parity_right s q j) 0 1) (λ j. 0)
      (λ j h. ap (λ (b : Bool). choose b 0 1 % 2) (bytes_right s q j i.admitted (λ t x k l. r.parity_due j t x h k l)))
      ∙ pack_zero q.r,
)
