-- `words::with_bit` meets its contract.
-- Assumes nothing.
use Rattle.std.proofs.Common.{◌≡◌, ℕ, ◌*◌, ◌%◌, ◌^◌, ◌<◌, min, arith, bit_or, w64, sym, ◌∙◌}
use Rattle.std.proofs.Math.Dec.{eqb}
use Rattle.std.proofs.lemmas.Nat.{or_lt}
use Rattle.std.proofs.lemmas.Nat.Bits.{bit_at_set_same, bit_at_set_other, bit_at-lt}
use native.Mathlib.Decide.{ℕ_discrete}
use borrow.Author.Tests.{eq-eqb, ne_eqb}
use native.Mathlib.Nat.{mod-eq_of_lt}
use Rattle.laws.proofs.Bit.{is_pack}
use Rattle.laws.specs.Bit.{bit}
use Rattle.laws.specs.Choose.{choose}
use Rattle.words.specs.Columns.{with_column}
use Rattle.words.proofs.with_bit.Goals as goal

-- one bit more
set : (w n c : ℕ) → w < 2 ^ 64 → c ≡ min n 63 → bit_or w (1 * 2 ^ c % 2 ^ 64) ≡ with_column w n
unfolding with_column bit
set w n c small is =
    is_pack 64 (bit_or w (1 * 2 ^ c % 2 ^ 64)) (λ i. choose (eqb i (min n 63)) 1 (bit w i)) (or_lt 64 w (1 * 2 ^ c % 2 ^ 64) small (omega arith)) (λ q l. go q (ℕ_discrete q c))
  where
    go : (q : ℕ) → Dec (q ≡ c) → bit (bit_or w (1 * 2 ^ c % 2 ^ 64)) q ≡ choose (eqb q (min n 63)) 1 (bit w q) % 2
    go q (yes e) = rw (e, eq-eqb c (min n 63) is) (bit_at_set_same w64 w c (omega arith))
    go q (no e) = rw (ne_eqb q (min n 63) (λ f. e (f ∙ sym is))) (bit_at_set_other w64 w c (omega arith) q e ∙ sym (mod-eq_of_lt (bit_at-lt w q)))

pub returns : goal.returns
returns c = set c.args.pattern c.args.n c.min.result (omega arith) c.min.ensures
