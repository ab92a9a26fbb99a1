-- `answers::name` meets its contract.
-- Assumes nothing.
use native.Mathlib.Decide.{dec_lt}
use Rattle.std.proofs.Common.{◌≡◌, [], arith, subst, sym}
use Rattle.answers.proofs.Examples.{none_named}
use Rattle.answers.proofs.Names.{unnamed}
use Rattle.answers.specs.Line.{named}
use Rattle.answers.proofs.name.Goals as goal

pub returns-in_default : goal.returns-in_default
returns-in_default c =
    elim (dec_lt c.args.number 20) [
      | yes h ↦ let e : c.args.number ≡ 0 = omega arith in subst (λ i. [] ≡ named i) (sym e) (sym none_named)
      | no h ↦ sym (unnamed c.args.number (omega arith))
    ]
