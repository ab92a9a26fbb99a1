-- `files::match_all` meets its contract.
-- Assumes nothing.
use Rattle.std.proofs.Common.{◌≡◌, ◌∙◌, true, ap, subst, ◌++◌, append_assoc, sym, arith, Result, Ok, Err}
use Rattle.std.proofs.KnownBytes.{Consumes-trans}
use Rattle.std.proofs.lemmas.Bool.{false≢true}
use Rattle.std.specs.Cmp.Lexicographic.{same_text}
use Rattle.std.specs.Io.KnownBytes.{Consumes}
use Rattle.std.specs.Result.{OnOk, is_ok}
use Rattle.files.proofs.match_all.Goals as goal

at_ok : {T E P : Type 0} (r : Result T E) → is_ok r ≡ true → OnOk r P → P
at_ok (Ok x) e p = p
at_ok (Err x) e p = absurd (false≢true e)

pub loop-piece-preserved : goal.loop-piece-preserved
loop-piece-preserved g c =
    let (s, (met, k, e)) = c.loop-piece.invariant in
    let same : c.read_exact.new.buf ≡ c.in-Some.piece.now = same_text _ _ (grind (arith, c.if-ne.ensures)) in
    let more : Consumes (g.R.Read.remaining c.loop-piece.file) (g.R.Read.remaining c.read_exact.new.self) c.in-Some.piece.now =
    subst (Consumes _ _) same (at_ok _ c.if-is_err.ensures.negation c.read_exact.ensures.bytes) in
    (c.in-Some.ensures.steps.0 ∙ s, (met ++ c.in-Some.piece.now, Consumes-trans _ _ _ met _ k more, e ∙ ap (λ u. met ++ u) c.in-Some.ensures.steps.1.0 ∙ sym (append_assoc met _ _)))
