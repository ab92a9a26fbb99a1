-- "d = 0 is accepted", "STALE now covers d from 1 to 2^31 - 1", "the exact half", "behind by d, or ahead by 2^32 - d": what the comparison says of every
-- pair of revisions.
-- Assumes nothing.
use Rattle.std.proofs.Common.{◌≡◌, ℕ, ◌-◌, ◌^◌, ◌<◌, ◌≤◌, Bool, true, false, eqb, ltb, ◌≢◌, ◌↔◌, sym, refl, ap, ◌∙◌, arith, ltb-false, ltb-true, le-ltb, lt-ltb, eq-eqb, ne_eqb, eqb-true}
use mathlib.Core.Bool.{false≢true}
use borrow.Author.Tests.{eqb-false}
use Rattle.refusal.specs.declared.Refusal.TheVariants.{Stale, Ahead}
use Rattle.refusal.specs.Number.{number_of}
use Rattle.revision.specs.Revision.{distance, judged, age_number, age_distance, is_current, Behind, HalfApart, DistanceTold}
use Rattle.revision.specs.declared.Age.{Age}
use Rattle.revision.specs.declared.Age.TheVariants.{Current, Older, Newer, Unclear}

-- ---- the four cases, where d is the distance

module _ (n b d : ℕ) (e : d ≡ distance n b) where
  pub judge_current : d ≡ 0 → Current ≡ judged n b
  unfolding judged
  judge_current h = rw (← e, eq-eqb d 0 h)

  pub judge_unclear : d ≡ 2 ^ 31 → Unclear ≡ judged n b
  unfolding judged
  judge_unclear h = rw (← e, ne_eqb d 0 (λ z. omega arith), eq-eqb d (2 ^ 31) h)

  pub judge_older : 1 ≤ d → d < 2 ^ 31 → Older d ≡ judged n b
  unfolding judged
  judge_older h g = rw (← e, ne_eqb d 0 (λ z. omega arith), ne_eqb d (2 ^ 31) (λ z. omega arith), lt-ltb d (2 ^ 31) g)

  judge_rest : 2 ^ 31 < d → Newer (2 ^ 32 - d) ≡ judged n b
  unfolding judged
  judge_rest g = rw (← e, ne_eqb d 0 (λ z. omega arith), ne_eqb d (2 ^ 31) (λ z. omega arith), le-ltb d (2 ^ 31) (omega arith))

  -- what is left of the circle is the distance the other way round
  other_way : 2 ^ 31 < d → n < 2 ^ 32 → b < 2 ^ 32 → distance b n ≡ 2 ^ 32 - d
  unfolding distance
  other_way g hn hb = omega (arith, e)

  pub judge_newer : (d ≡ 2 ^ 31 → ⊥) → 2 ^ 31 ≤ d → n < 2 ^ 32 → b < 2 ^ 32 → (x : ℕ) → x ≡ distance b n → Newer x ≡ judged n b
  judge_newer h g hn hb x f = let l : 2 ^ 31 < d = omega arith in ap Newer (f ∙ other_way l hn hb) ∙ judge_rest l

pub ruleset judgements = (judge_current, judge_unclear, judge_older, judge_newer)

-- ---- which of them it is

pub data Lies (n b : ℕ) : Type 0 where
  level : distance n b ≡ 0 → judged n b ≡ Current → Lies n b
  behind : 1 ≤ distance n b → distance n b < 2 ^ 31 → judged n b ≡ Older (distance n b) → Lies n b
  half : distance n b ≡ 2 ^ 31 → judged n b ≡ Unclear → Lies n b
  ahead : 2 ^ 31 < distance n b → judged n b ≡ Newer (2 ^ 32 - distance n b) → Lies n b

pub lies : (n b : ℕ) → Lies n b
lies n b = go (eqb d 0) refl (eqb d (2 ^ 31)) refl (ltb d (2 ^ 31)) refl
  where
    d : ℕ
    d = distance n b

    go : (x : Bool) → eqb d 0 ≡ x → (y : Bool) → eqb d (2 ^ 31) ≡ y → (z : Bool) → ltb d (2 ^ 31) ≡ z → Lies n b
    go true e y f z g = let i = eqb-true d 0 e in level i (sym (judge_current n b d refl i))
    go false e true f z g = let i = eqb-true d (2 ^ 31) f in half i (sym (judge_unclear n b d refl i))
    go false e false f true g =
        let o = eqb-false d 0 e in let l = ltb-true d (2 ^ 31) g in let i : 1 ≤ d = omega arith in behind i l (sym (judge_older n b d refl i l))
    go false e false f false g =
        let o = eqb-false d (2 ^ 31) f in let l = ltb-false d (2 ^ 31) g in let i : 2 ^ 31 < d = omega arith in ahead i (sym (judge_rest n b d refl i))

-- two cases of an age are not one
apart : {A : Type 0} → ◌≡◌ {A = ℕ} 0 1 → A
apart z = absurd (omega arith)

-- a distance stands beside STALE and AHEAD alone
pub none_apart : (g : Age) → age_number g ≢ number_of Stale → age_number g ≢ number_of Ahead → age_distance g ≡ 0
none_apart Current f h = refl
none_apart (Older d) f h = absurd (f refl)
none_apart (Newer d) f h = absurd (h refl)
none_apart Unclear f h = refl

module _ (n b : ℕ) (hn : n < 2 ^ 32) (hb : b < 2 ^ 32) where
  -- "d = 0 is accepted": the base is current exactly when it is the column's revision
  pub judged_current : (is_current (judged n b) ≡ true) ↔ (n ≡ b)
  unfolding distance
  judged_current = (there (lies n b), λ e. ap is_current (sym (judge_current n b (distance n b) refl (omega (arith, e)))))
    where
      there : Lies n b → is_current (judged n b) ≡ true → n ≡ b
      there (level z j) e = omega (arith, z)
      there (behind l m j) e = absurd (false≢true (ap is_current (sym j) ∙ e))
      there (half z j) e = absurd (false≢true (ap is_current (sym j) ∙ e))
      there (ahead l j) e = absurd (false≢true (ap is_current (sym j) ∙ e))

  -- "behind by d": from 1 to 2^31 - 1, and so many renewals lead from the base to the revision
  pub older_exactly : (d : ℕ) → (judged n b ≡ Older d) ↔ Behind n b d
  unfolding distance
  older_exactly d = (there (lies n b), λ h. sym (judge_older n b d (omega (arith, h.some, h.most, h.renewals)) h.some (omega (arith, h.most))))
    where
      there : Lies n b → judged n b ≡ Older d → Behind n b d
      there (level z j) e = apart (cc)
      there (behind l m j) e = let z : distance n b ≡ d = cc in record { some = omega (arith, z); most = omega (arith, z); renewals = omega (arith, z) }
      there (half z j) e = apart (cc)
      there (ahead l j) e = apart (cc)

  -- "or ahead by 2^32 - d": from 1 to 2^31 - 1, and so many renewals lead from the revision to the base
  pub newer_exactly : (d : ℕ) → (judged n b ≡ Newer d) ↔ Behind b n d
  unfolding distance
  newer_exactly d = (there (lies n b), here)
    where
      there : Lies n b → judged n b ≡ Newer d → Behind b n d
      there (level z j) e = apart (cc)
      there (behind l m j) e = apart (cc)
      there (half z j) e = apart (cc)
      there (ahead l j) e = let z : 2 ^ 32 - distance n b ≡ d = cc in record { some = omega (arith, z); most = omega (arith, z); renewals = omega (arith, z) }

      here : Behind b n d → judged n b ≡ Newer d
      here h =
          sym (judge_newer n b (distance n b) refl (λ z. omega (arith, h.some, h.most, h.renewals)) (omega (arith, h.some, h.most, h.renewals)) hn hb d (omega (arith, h.some, h.most, h.renewals)))

  -- "the exact half"
  pub unclear_exactly : (judged n b ≡ Unclear) ↔ HalfApart n b
  unfolding distance
  unclear_exactly = (there (lies n b), λ h. sym (judge_unclear n b (distance n b) refl (omega (arith, h))))
    where
      there : Lies n b → judged n b ≡ Unclear → HalfApart n b
      there (level z j) e = apart (cc)
      there (behind l m j) e = apart (cc)
      there (half z j) e = omega (arith, z)
      there (ahead l j) e = apart (cc)

  -- the numbers of an age say how far apart its revisions are
  pub age_told : DistanceTold n b (age_number (judged n b)) (age_distance (judged n b))
  age_told = go (judged n b) refl
    where
      go : (g : Age) → judged n b ≡ g → DistanceTold n b (age_number g) (age_distance g)
      go Current e = record {
        stale = λ f. absurd (omega (arith, f));
        ahead = λ f. absurd (omega (arith, f));
        unclear = λ f. absurd (omega (arith, f));
        else_none = none_apart Current;
      }
      go (Older d) e = record {
        stale = λ f. (older_exactly d).0 e;
        ahead = λ f. absurd (omega (arith, f));
        unclear = λ f. absurd (omega (arith, f));
        else_none = none_apart (Older d);
      }
      go (Newer d) e = record {
        stale = λ f. absurd (omega (arith, f));
        ahead = λ f. (newer_exactly d).0 e;
        unclear = λ f. absurd (omega (arith, f));
        else_none = none_apart (Newer d);
      }
      go Unclear e = record {
        stale = λ f. absurd (omega (arith, f));
        ahead = λ f. absurd (omega (arith, f));
        unclear = λ f. unclear_exactly.0 e;
        else_none = none_apart Unclear;
      }
