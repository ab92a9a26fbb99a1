-- A file that was accepted, and the walk over all files.
-- Assumes nothing.
use Prim.Native.Nat.{ℕ, zero, suc, ◌+◌, ◌-◌, ◌^◌, ◌<◌, ◌≤◌}
use mathlib.Core.Bool.{◌&&◌}
use mathlib.Core.List.{List}
use mathlib.Core.Path.{◌≡◌, refl, sym, ap, ap₂, subst, ◌∙◌}
use native.Mathlib.Omega.{arith}
use lib.Dec.{eqb, ltb, T}
use lib.ListN.{length}
use borrow.Author.Tests.{lt-ltb, le-ltb, eqb-true, ltb-true, ltb-false}
use Rattle.std.specs.Prelude.{Result, Ok, Err}
use Rattle.laws.proofs.Choose.{choose_yes, choose_no, and_left, and_right, true_T, T_true}
use Rattle.laws.specs.Bit.{bit}
use Rattle.laws.specs.Choose.{choose}
use Rattle.laws.specs.Number.{u16}
use Rattle.laws.specs.Xor.{◌⊕◌}
use Rattle.refusal.specs.declared.Refusal.{Refusal}
use Rattle.refusal.specs.declared.Refusal.TheVariants.{Cut, Count, Column, Foreign, Twice}
use Rattle.stripe.proofs.Frame.{checked_admitted, checked_params}
use Rattle.stripe.specs.Params.{checked_of, Admitted}
use Rattle.stripe.specs.declared.Params.{Params}
use Rattle.column_file.specs.File.{flag, number_at, flag_at, file_length}
use Rattle.file_by_file.specs.Files.{alike, counted, body_step, column_step, checked_step, step_of, onward, walk, met_from, first_params}
use Rattle.file_by_file.specs.Inner.{Whole}
use Rattle.file_by_file.proofs.Tests.{no_file}
use Rattle.file_by_file.specs.declared.File.{File}

-- the file of column n, as it was accepted
pub record Accepted (s : List ℕ) (at n to : ℕ) : Type 0 where
  pub column : n ≡ u16 s (at + number_at)
  pub whole : Whole s (first_params s) at n
  pub next : to ≡ at + file_length (first_params s) n

same_params : (a b c d a' b' c' d' : ℕ) → a ≡ a' → b ≡ b' → c ≡ c' → d ≡ d' → ◌≡◌ {A = Params} (record { p = a; k = b; r = c; b = d }) (record { p = a'; k = b'; r = c'; b = d' })
same_params a b c d a' b' c' d' e f g h =
    ap₂ (λ (x y : ℕ). record { p = x; k = y; r = c; b = d }) e f ∙ ap₂ (λ (x y : ℕ). record { p = a'; k = b'; r = x; b = y }) g h

alike_params : (s : List ℕ) (at : ℕ) → T (alike s at) → ◌≡◌ {A = Params} (record { p = u16 s (at + 2); k = u16 s (at + 4); r = u16 s (at + 6); b = u16 s (at + 8) }) (first_params s)
unfolding alike
alike_params s at t =
    let u = and_right (eqb (u16 s (at + 2)) (u16 s 2)) _ t in
    let v = and_right (eqb (u16 s (at + 4)) (u16 s 4)) _ u in
    same_params _ _ _ _ _ _ _ _
    (eqb-true _ _ (T_true _ (and_left (eqb (u16 s (at + 2)) (u16 s 2)) _ t)))
    (eqb-true _ _ (T_true _ (and_left (eqb (u16 s (at + 4)) (u16 s 4)) _ u)))
    (eqb-true _ _ (T_true _ (and_left (eqb (u16 s (at + 6)) (u16 s 6)) _ v)))
    (eqb-true _ _ (T_true _ (and_right (eqb (u16 s (at + 6)) (u16 s 6)) _ v)))

-- the column and the end of a file; 0 where there is none
abbrev column_of : Result File Refusal → ℕ
column_of (Ok x) = x.column
column_of (Err e) = 0

abbrev end_of : Result File Refusal → ℕ
end_of (Ok x) = x.end
end_of (Err e) = 0

module _ (s : List ℕ) (at met n to : ℕ) (w : Result File Refusal) (f : w ≡ Ok (record { column = n; end = to })) where
  not_bad : (e : Refusal) → w ≡ Err e → ⊥
  not_bad e g = let z : ◌≡◌ {A = ℕ} 0 1 = cc in omega arith

  column_accepted : (h : Params) (m : ℕ) → Admitted h → h ≡ record { p = u16 s (at + 2); k = u16 s (at + 4); r = u16 s (at + 6); b = u16 s (at + 8) } → m ≡ u16 s (at + number_at)
      → w ≡ column_step s at met h m → Accepted s at n to
  unfolding column_step body_step
  column_accepted h m A z hm e =
      let a = choose_yes (ltb m (h.k + h.r)) _ _ w (not_bad Column) e in
      let b = choose_yes (alike s at && eqb (u16 s (at + flag_at)) (flag h m)) _ _ w (not_bad Foreign) a.1 in
      let c = choose_yes (eqb (bit met m) 0) _ _ w (not_bad Twice) b.1 in
      let d = choose_no (ltb (length s - at) (file_length h m)) _ _ w (not_bad Cut) c.1 in
      let g = choose_yes (counted s at h m) _ _ w (not_bad Count) d.1 in
      let i : n ≡ m = ap column_of (sym f ∙ g.1) in
      let j : to ≡ at + file_length h m = ap end_of (sym f ∙ g.1) in
      let y : h ≡ first_params s = z ∙ alike_params s at (and_left (alike s at) _ (true_T _ b.0)) in
      let long : file_length h m ≤ length s - at = ltb-false _ _ d.0 in
      let W : Whole s h at m = record { admitted = A; below = ltb-true _ _ a.0; here = omega arith } in
      record {
        column = i ∙ hm;
        whole = subst (λ (x : Params). Whole s x at n) y (rw i W);
        next = subst (λ (x : Params). to ≡ at + file_length x n) y (rw i j);
      }

  checked_accepted : (v : Result Params Refusal) → v ≡ checked_of (u16 s (at + 2)) (u16 s (at + 4)) (u16 s (at + 6)) (u16 s (at + 8)) → w ≡ checked_step s at met v → Accepted s at n to
  unfolding checked_step
  checked_accepted (Ok h) e g = column_accepted h (u16 s (at + number_at)) (checked_admitted _ _ _ _ (Ok h) h e refl) (checked_params _ _ _ _ (Ok h) h e refl) refl g
  checked_accepted (Err x) e g = absurd (not_bad x g)

  pub accepted : w ≡ step_of s at met → Accepted s at n to
  unfolding step_of
  accepted e =
      let a = choose_no (ltb (length s - at) 2) _ _ w (not_bad Cut) e in
      let b = choose_yes (eqb (u16 s at) 6) _ _ w (not_bad Count) a.1 in
      let c = choose_no (ltb (length s - at) 14) _ _ w (not_bad Cut) b.1 in
      checked_accepted _ refl c.1

-- ---- the walk; its fuel is no part of what it gives

walk_none : (s : List ℕ) (at met left : ℕ) → length s - at ≤ 0 → walk left s at met ≡ Err Cut
unfolding walk onward
walk_none s at met zero h = refl
walk_none s at met (suc left) h = ap (onward s met (λ to m. walk left s to m)) (sym (no_file s at met (omega arith)))

walk_fuel : (f g : ℕ) (s : List ℕ) (at met : ℕ) → length s - at ≤ f → length s - at ≤ g → walk f s at met ≡ walk g s at met
unfolding walk onward
walk_fuel zero g s at met h k = sym (walk_none s at met g h)
walk_fuel (suc f) zero s at met h k = walk_none s at met (suc f) k
walk_fuel (suc f) (suc g) s at met h k = go (λ to m i j. walk_fuel f g s to m i j) (step_of s at met) refl
  where
    go : ((to m : ℕ) → length s - to ≤ f → length s - to ≤ g → walk f s to m ≡ walk g s to m) → (w : Result File Refusal) → w ≡ step_of s at met → onward s met (λ to m. walk f s to m) w ≡ onward s met (λ to m. walk g s to m) w
    go ih (Err e) z = refl
    go ih (Ok x) z =
        let A = accepted s at met x.column x.end (Ok x) refl z in
        ap (λ (y : Result ℕ Refusal). choose (ltb x.end (length s)) y (Ok (met ⊕ 2 ^ x.column))) (ih x.end (met ⊕ 2 ^ x.column) (omega (arith, A.next)) (omega (arith, A.next)))

pub met_step : (s : List ℕ) (at met : ℕ) (w : Result File Refusal) → w ≡ step_of s at met → met_from s at met ≡ onward s met (λ to m. met_from s to m) w
unfolding walk onward
met_step s at met w e =
    walk_fuel (length s - at) (suc (length s)) s at met (omega arith) (omega arith) ∙ go w e
  where
    go : (w : Result File Refusal) → w ≡ step_of s at met → walk (suc (length s)) s at met ≡ onward s met (λ to m. met_from s to m) w
    go (Err e) z = ap (onward s met (λ to m. walk (length s) s to m)) (sym z)
    go (Ok x) z =
        ap (onward s met (λ to m. walk (length s) s to m)) (sym z)
        ∙ ap (λ (y : Result ℕ Refusal). choose (ltb x.end (length s)) y (Ok (met ⊕ 2 ^ x.column))) (walk_fuel (length s) (length s - x.end) s x.end (met ⊕ 2 ^ x.column) (omega arith) (omega arith))

-- ---- the ways out of `meet`

module _ (s : List ℕ) (at met : ℕ) (w : Result File Refusal) (e : w ≡ step_of s at met) (so_far : met_from s at met ≡ met_from s 0 0) where
  pub meet_refused : (n : Refusal) (x : Result ℕ Refusal) → w ≡ Err n → x ≡ Err n → x ≡ met_from s 0 0
  unfolding onward
  meet_refused n x f g = g ∙ sym (met_step s at met w e ∙ ap (onward s met (λ to m. met_from s to m)) f) ∙ so_far

  module _ (x : File) (f : w ≡ Ok x) where
    pub file_accepted : Accepted s at x.column x.end
    file_accepted = accepted s at met x.column x.end w f e

    pub few_columns : x.column < 64
    few_columns = let A = file_accepted.whole in omega (arith, A.below, A.admitted.fits, A.admitted.p_high)

    pub nearer : length s - x.end < length s - at
    nearer = omega (arith, file_accepted.next, file_accepted.whole.here)

    pub within : x.end ≤ length s
    within = omega (arith, file_accepted.next, file_accepted.whole.here)

    pub meet_ends : (m : ℕ) → m ≡ met ⊕ 2 ^ x.column → length s ≤ x.end → Ok m ≡ met_from s 0 0
    unfolding onward
    meet_ends m g h =
        ap Ok g ∙ sym (met_step s at met w e ∙ ap (onward s met (λ to m. met_from s to m)) f ∙ simp (le-ltb x.end (length s) h)) ∙ so_far

    pub meet_goes : (m : ℕ) → m ≡ met ⊕ 2 ^ x.column → x.end < length s → met_from s x.end m ≡ met_from s 0 0
    unfolding onward
    meet_goes m g h =
        ap (met_from s x.end) g ∙ sym (met_step s at met w e ∙ ap (onward s met (λ to m. met_from s to m)) f ∙ simp (lt-ltb x.end (length s) h)) ∙ so_far
