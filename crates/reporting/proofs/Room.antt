-- A report fits the room that is kept for it.
-- Assumes nothing.
use Prim.Native.Nat.{ℕ, zero, suc, ◌+◌, ◌*◌, ◌≤◌}
use mathlib.Core.Bool.{Bool, true, false}
use mathlib.Core.List.{List, ◌++◌}
use mathlib.Core.Path.{◌≡◌, refl, ap}
use native.Mathlib.Decide.{dec_lt}
use native.Mathlib.Omega.{arith}
use lib.ListN.{length, length-append}
use Rattle.std.specs.Prelude.{Result, Ok, Err}
use Rattle.refusal.specs.Number.{number_of}
use Rattle.refusal.specs.declared.Refusal.{Refusal}
use Rattle.refusal.specs.declared.Refusal.TheVariants.{Long}
use Rattle.stripe.proofs.Frame.{read_image}
use Rattle.stripe.specs.Layout.{revision_of}
use Rattle.stripe.specs.Reading.{read_of}
use Rattle.stripe.specs.declared.Params.{Params}
use Rattle.parity.specs.Answer.{parity_right}
use Rattle.texts.proofs.Digits.{text_short}
use Rattle.texts.specs.Text.{text, spaced, bytes, line_end}
use Rattle.reporting.specs.Inner.{line_room, report_room}
use Rattle.reporting.specs.Report.{refused_line, verdict, stripe_line, lines, data_line, parity_line, read_lines, lines_of, report_of}
use Rattle.reporting.proofs.Laws.{report_long, report_lines}

refused_fits : (e : Refusal) → length (refused_line e) ≤ line_room
refused_fits e = simp length-append (omega (arith, text_short (number_of e)))

pub stripe_fits : (q : Params) → length (stripe_line q) ≤ line_room
stripe_fits q = simp length-append (omega (arith, text_short q.p, text_short q.k, text_short q.r, text_short q.b))

data_fits : (s : List ℕ) (i : ℕ) → length (data_line s i) ≤ line_room
unfolding data_line
data_fits s i = simp length-append (omega (arith, text_short i, text_short (revision_of s i)))

parity_fits : (right : ℕ → Bool) (j : ℕ) → length (parity_line right j) ≤ line_room
unfolding parity_line
parity_fits right j = go (right j)
  where
    go : (b : Bool) → length (bytes "parity" ++ (spaced (text j) ++ (spaced (verdict b) ++ line_end))) ≤ line_room
    go true = simp length-append (omega (arith, text_short j))
    go false = simp length-append (omega (arith, text_short j))

lines_fit : (n : ℕ) (line : ℕ → List ℕ) → ((i : ℕ) → length (line i) ≤ line_room) → length (lines n line) ≤ n * line_room
unfolding lines
lines_fit zero line h = omega arith
lines_fit (suc n) line h = omega (arith, length-append (lines n line) (line n), lines_fit n line h, h n)

-- u is a report t with lines behind it
pub data_fit : (s t u : List ℕ) (i : ℕ) → u ≡ t ++ lines i (data_line s) → length u ≤ length t + i * line_room
data_fit s t u i e = omega (arith, ap length e, length-append t (lines i (data_line s)), lines_fit i (data_line s) (data_fits s))

pub parities_fit : (right : ℕ → Bool) (t u : List ℕ) (j : ℕ) → u ≡ t ++ lines j (parity_line right) → length u ≤ length t + j * line_room
parities_fit right t u j e = omega (arith, ap length e, length-append t (lines j (parity_line right)), lines_fit j (parity_line right) (parity_fits right))

read_fits : (s : List ℕ) (v : Result Params Refusal) → v ≡ read_of s → length (read_lines s v) ≤ report_room
unfolding read_lines
read_fits s (Err e) a = omega (arith, refused_fits e)
read_fits s (Ok q) a =
    let i = read_image s q (Ok q) a refl in
    let d = lines q.k (data_line s) in
    let w = lines q.r (parity_line (parity_right s q)) in
    omega (
      arith,
      i.admitted.fits,
      i.admitted.p_high,
      stripe_fits q,
      lines_fit q.k (data_line s) (data_fits s),
      lines_fit q.r (parity_line (parity_right s q)) (parity_fits (parity_right s q)),
      length-append (stripe_line q) (d ++ w),
      length-append d w,
    )

lines_of_fit : (s : List ℕ) → length (lines_of s) ≤ report_room
unfolding lines_of
lines_of_fit s = read_fits s (read_of s) refl

pub report_fits : (s : List ℕ) → length (report_of s) ≤ report_room
report_fits s =
    elim (dec_lt 65536 (length s)) [
      | yes h ↦ rw (← report_long s h) (omega (arith, refused_fits Long))
      | no h ↦ rw (← report_lines s (omega arith)) (lines_of_fit s)
    ]
