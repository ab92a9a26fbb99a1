-- Laws of a report that is written.
-- Assumes nothing.
use Prim.Native.Nat.{ℕ, zero, suc, ◌+◌, ◌<◌, ◌≤◌}
use mathlib.Core.Bool.{Bool, true, false}
use mathlib.Core.List.{List, ◌++◌, append_assoc}
use mathlib.Core.Path.{◌≡◌, refl, sym, ap, ap₂, ◌∙◌}
use native.Mathlib.Decide.{dec_lt}
use native.Mathlib.Numerals.{add-one}
use native.Mathlib.Omega.{arith}
use lib.Dec.{eqb}
use lib.ListN.{length, take, length-take}
use lib.Seq.{take_all}
use borrow.Author.Tests.{lt-ltb, le-ltb}
use Rattle.std.specs.Prelude.{Result, Ok, Err}
use Rattle.laws.specs.Choose.{choose}
use Rattle.laws.specs.Number.{u32}
use Rattle.refusal.specs.declared.Refusal.{Refusal}
use Rattle.refusal.specs.declared.Refusal.TheVariants.{Long}
use Rattle.stripe.proofs.Frame.{read_image}
use Rattle.stripe.specs.Layout.{revision_at}
use Rattle.stripe.specs.Reading.{read_of}
use Rattle.stripe.specs.declared.Params.{Params}
use Rattle.parity.proofs.Rightness.{check_at}
use Rattle.parity.specs.Answer.{parity_right, wrong_parities, check_of, check_read}
use Rattle.texts.specs.Text.{text, spaced, bytes, line_end}
use Rattle.reporting.specs.Inner.{is_clear}
use Rattle.reporting.specs.Report.{refused_line, verdict, stripe_line, lines, data_line, parity_line, read_lines, lines_of, report_of}

-- ---- lines one behind the other

lines_same : (n : ℕ) (f g : ℕ → List ℕ) → ((i : ℕ) → i < n → f i ≡ g i) → lines n f ≡ lines n g
unfolding lines
lines_same zero f g h = refl
lines_same (suc n) f g h = ap₂ (λ (a b : List ℕ). a ++ b) (lines_same n f g (λ i l. h i (omega arith))) (h n (omega arith))

-- ---- a line of each kind; s is a report so far

-- v is the revision that was read at its place in the image
pub data_more : (m s : List ℕ) (i at v : ℕ) → at ≡ revision_at i → v ≡ u32 m at
    → (((s ++ lines i (data_line m)) ++ bytes "data") ++ spaced (text i)) ++ (spaced (text v) ++ line_end) ≡ s ++ lines (i + 1) (data_line m)
unfolding lines data_line
data_more m s i at v e f = rw (add-one i, f, e) (simp append_assoc)

-- v tells whether parity j is right
pub parity_more : (right : ℕ → Bool) (s v : List ℕ) (j : ℕ) → v ≡ verdict (right j)
    → (((((s ++ lines j (parity_line right)) ++ bytes "parity") ++ spaced (text j)) ++ bytes " ") ++ v) ++ line_end ≡ s ++ lines (j + 1) (parity_line right)
unfolding lines parity_line
parity_more right s v j e = rw (add-one j, e) (simp append_assoc)

-- v is the word of a verdict
pub verdict_short : (right : Bool) (v : List ℕ) → v ≡ verdict right → length v ≤ 5
verdict_short true v e = omega (arith, ap length e)
verdict_short false v e = omega (arith, ap length e)

-- ---- after reading: v is what the reading gave

module _ (s : List ℕ) (v : Result Params Refusal) (a : v ≡ read_of s) where
  pub lines_refused : (e : Refusal) → v ≡ Err e → refused_line e ≡ lines_of s
  unfolding lines_of read_lines
  lines_refused e g = rw (← a, g) refl

  module _ (q : Params) (f : v ≡ Ok q) where
    pub columns_few : q.k + q.r ≤ 61
    columns_few = let i = read_image s q v a f in omega (arith, i.admitted.fits, i.admitted.p_high)

    checked : (c : Result ℕ Refusal) → c ≡ check_of s → c ≡ Ok (wrong_parities s q)
    unfolding check_of check_read
    checked c g = g ∙ ap (check_read s) (sym a ∙ f)

    -- an image that was read is not refused by check
    pub never_unchecked : (e : Refusal) (c : Result ℕ Refusal) → c ≡ check_of s → c ≡ Err e → ⊥
    never_unchecked e c g h = let k = checked c g in let z : ◌≡◌ {A = ℕ} 0 1 = cc in omega arith

    -- the bits of check's word are the parities that are right
    found : (w : ℕ) (c : Result ℕ Refusal) → c ≡ check_of s → c ≡ Ok w → w ≡ wrong_parities s q
    found w c g h = let k = checked c g in cc

    clear_right : (j : ℕ) → j < q.r → is_clear (wrong_parities s q) j ≡ parity_right s q j
    unfolding is_clear
    clear_right j h = ap (λ (b : ℕ). eqb b 0) (check_at s q j h) ∙ told (parity_right s q j)
      where
        told : (b : Bool) → eqb (choose b 0 1) 0 ≡ b
        told true = refl
        told false = refl

    parities_told : (w : ℕ) (c : Result ℕ Refusal) → c ≡ check_of s → c ≡ Ok w → lines q.r (parity_line (is_clear w)) ≡ lines q.r (parity_line (parity_right s q))
    unfolding parity_line
    parities_told w c g h =
        lines_same q.r (parity_line (is_clear w)) (parity_line (parity_right s q))
        (λ j k. ap (λ (b : Bool). bytes "parity" ++ (spaced (text j) ++ (spaced (verdict b) ++ line_end))) (ap (λ (u : ℕ). is_clear u j) (found w c g h) ∙ clear_right j k))

    -- x, y and z are the report with the line of the parameters, then those of data columns, then those of parities
    pub lines_told : (w : ℕ) (c : Result ℕ Refusal) → c ≡ check_of s → c ≡ Ok w → (x y z : List ℕ) → x ≡ stripe_line q → y ≡ x ++ lines q.k (data_line s)
        → z ≡ y ++ lines q.r (parity_line (is_clear w)) → z ≡ lines_of s
    unfolding lines_of read_lines
    lines_told w c g h x y z i j k =
        rw (k, j, i, parities_told w c g h, ← a, f) (append_assoc (stripe_line q) (lines q.k (data_line s)) (lines q.r (parity_line (parity_right s q))))

-- ---- LONG comes first

pub report_long : (s : List ℕ) → 65536 < length s → refused_line Long ≡ report_of s
unfolding report_of
report_long s h = rw (lt-ltb 65536 (length s) h) refl

pub report_lines : (s : List ℕ) → length s ≤ 65536 → lines_of s ≡ report_of s
unfolding report_of
report_lines s h = rw (le-ltb 65536 (length s) h) refl

-- what is read is enough: 65,537 bytes of a longer input have its report
pub report_of_front : (s : List ℕ) → report_of (take 65537 s) ≡ report_of s
unfolding report_of
report_of_front s =
    elim (dec_lt 65536 (length s)) [
      | yes h ↦ rw (lt-ltb 65536 (length s) h, lt-ltb 65536 (length (take 65537 s)) (omega (arith, length-take 65537 s)))
      | no h ↦ rw (take_all 65537 s (omega arith))
    ]
