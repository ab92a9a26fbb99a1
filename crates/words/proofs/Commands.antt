-- Laws of commands: a line whose first word is no command's name.
-- Assumes nothing.
use Rattle.std.proofs.Common.{◌≡◌, ◌<◌, ℕ, rules, false, List, [], ◌∷◌, get_or, refl, subst, sym}
use Rattle.std.proofs.Math.Bool.{and-false}
use Rattle.std.proofs.Math.Dec.{eqb}
use Rattle.std.proofs.lemmas.Str.{IsUtf8-from_ascii}
use Rattle.std.proofs.lemmas.Str.Ascii.{IsAscii-from_all}
use Rattle.std.specs.List.{All}
use Rattle.std.specs.Str.{IsUtf8}
use native.Mathlib.Decide.{ℕ_discrete}
use borrow.Author.Tests.{ne_eqb}
use Rattle.words.specs.Command.{make_name, write_name, rebuild_name, show_name, export_name, import_name, check_name, refill_name, report_name, help_name, command_of}
use Rattle.words.specs.Words.{same_bytes}
use Rattle.words.specs.declared.Command.TheVariants.{Usage}

unlike : (s t : List ℕ) → (s ≡ t → ⊥) → same_bytes s t ≡ false
unlike [] [] n = absurd (n refl)
unlike [] (y ∷ t) n = refl
unlike (x ∷ s) [] n = refl
unlike (x ∷ s) (y ∷ t) n =
    elim (ℕ_discrete x y) [
      | yes e ↦ rw (unlike s t (λ f. n cc)) (and-false (eqb x y))
      | no e ↦ rw (ne_eqb x y e)
    ]

module _ (ws : List (List ℕ)) (w : List ℕ) (first : w ≡ get_or ws 0 []) where
  pub nothing : (w ≡ make_name → ⊥) → (w ≡ write_name → ⊥) → (w ≡ rebuild_name → ⊥) → (w ≡ show_name → ⊥) → (w ≡ export_name → ⊥) → (w ≡ import_name → ⊥)
      → (w ≡ check_name → ⊥) → (w ≡ refill_name → ⊥) → (w ≡ report_name → ⊥) → (w ≡ help_name → ⊥) → Usage ≡ command_of ws
  nothing n₁ n₂ n₃ n₄ n₅ n₆ n₇ n₈ n₉ n₁₀ =
      simp (
        ← first,
        unlike w make_name n₁,
        unlike w write_name n₂,
        unlike w rebuild_name n₃,
        unlike w show_name n₄,
        unlike w export_name n₅,
        unlike w import_name n₆,
        unlike w check_name n₇,
        unlike w refill_name n₈,
        unlike w report_name n₉,
        unlike w help_name n₁₀,
        and-false,
      )

  -- the names are text
  pub no_text : ¬ IsUtf8 w → Usage ≡ command_of ws
  no_text n =
      nothing (other (search rules)) (other (search rules)) (other (search rules)) (other (search rules)) (other (search rules)) (other (search rules))
      (other (search rules)) (other (search rules)) (other (search rules)) (other (search rules))
    where
      other : {name : List ℕ} → All (λ c. c < 128) name → w ≡ name → ⊥
      other {name} a h = n (subst IsUtf8 (sym h) (IsUtf8-from_ascii name (IsAscii-from_all name a)))
