-- The second pass: every file put in its place, turn by turn.
-- Assumes nothing.
use Prim.Native.Nat.{ℕ, zero, suc, ◌+◌, ◌-◌, ◌^◌, ◌<◌, ◌≤◌}
use mathlib.Core.Bool.{Bool, true, false}
use mathlib.Core.List.{List}
use mathlib.Core.Path.{◌≡◌, refl, sym, ap, ap₂, subst, ◌∙◌}
use native.Mathlib.Omega.{arith}
use lib.Dec.{ltb}
use lib.ListN.{length}
use borrow.Author.Tests.{lt-ltb, le-ltb, ltb-false}
use Rattle.std.specs.Prelude.{Result, Ok, Err}
use Rattle.laws.specs.Choose.{choose}
use Rattle.laws.specs.Number.{u16}
use Rattle.laws.specs.Xor.{◌⊕◌}
use Rattle.stripe.specs.declared.Params.{Params}
use Rattle.column_file.specs.File.{number_at, file_length}
use Rattle.file_by_file.proofs.Steps.{Accepted, accepted}
use Rattle.file_by_file.specs.Files.{step_of, onward, walk, first_params}
use Rattle.file_by_file.specs.Inner.{Whole, Files, end, more}
use Rattle.filling.specs.Filled.{put_file, fill, filled_from}
use Rattle.refusal.specs.declared.Refusal.{Refusal}
use Rattle.file_by_file.specs.declared.File.{File}

-- ---- the second pass; its fuel is no part of what it gives

pub fill_none : (left : ℕ) (s : List ℕ) (q : Params) (at : ℕ) (t : List ℕ) → length s ≤ at → fill left s q at t ≡ t
unfolding fill
fill_none zero s q at t h = refl
fill_none (suc left) s q at t h = simp (le-ltb at (length s) h)

fill_fuel : (f g : ℕ) (s : List ℕ) (q : Params) (at : ℕ) (t : List ℕ) → length s - at ≤ f → length s - at ≤ g → fill f s q at t ≡ fill g s q at t
unfolding fill
fill_fuel zero g s q at t h k = sym (fill_none g s q at t (omega arith))
fill_fuel (suc f) zero s q at t h k = fill_none (suc f) s q at t (omega arith)
fill_fuel (suc f) (suc g) s q at t h k =
    ap (λ (x : List ℕ). choose (ltb at (length s)) x t)
    (fill_fuel f g s q (at + file_length q (u16 s (at + number_at))) (put_file s at q (u16 s (at + number_at)) t) (omega arith) (omega arith))

pub fill_turn : (s : List ℕ) (q : Params) (at : ℕ) (t : List ℕ) → at < length s
    → filled_from s q at t ≡ filled_from s q (at + file_length q (u16 s (at + number_at))) (put_file s at q (u16 s (at + number_at)) t)
unfolding fill
fill_turn s q at t h =
    let n : ℕ = u16 s (at + number_at) in
    fill_fuel (length s - at) (suc (length s)) s q at t (omega arith) (omega arith)
    ∙ simp (lt-ltb at (length s) h) (fill_fuel (length s) (length s - (at + file_length q n)) s q (at + file_length q n) (put_file s at q n t) (omega arith) (omega arith))

files_next : (s : List ℕ) (q : Params) (at : ℕ) → Files s q at → at < length s → Files s q (at + file_length q (u16 s (at + number_at)))
files_next s q at (end h) l = absurd (omega arith)
files_next s q at (more w f) l = f

-- ---- the turns of `put_files`

module _ (s : List ℕ) (q : Params) (at : ℕ) (F : Files s q at) (l : at < length s) where
  module _ (n : ℕ) (e : n ≡ u16 s (at + number_at)) where
    module _ (size : ℕ) (hs : size ≡ file_length q n) where
      pub files_after : Files s q (at + size)
      files_after = rw (hs, e) (files_next s q at F l)

      pub filled_after : (t₀ t u : List ℕ) → filled_from s q at t ≡ filled_from s q 0 t₀ → u ≡ put_file s at q n t → filled_from s q (at + size) u ≡ filled_from s q 0 t₀
      filled_after t₀ t u f g =
          ap₂ (λ (x : ℕ) (y : List ℕ). filled_from s q (at + x) y) hs g
          ∙ ap (λ (x : ℕ). filled_from s q (at + file_length q x) (put_file s at q x t)) e ∙ sym (fill_turn s q at t l) ∙ f

pub filled_end : (s : List ℕ) (q : Params) (at : ℕ) (t₀ t : List ℕ) → filled_from s q at t ≡ filled_from s q 0 t₀ → length s ≤ at → t ≡ filled_from s q 0 t₀
filled_end s q at t₀ t f h = sym (fill_none (length s - at) s q at t h) ∙ f

-- ---- the files that the first pass accepted

pub walk_whole : (left : ℕ) (s : List ℕ) (at met m : ℕ) → walk left s at met ≡ Ok m → Whole s (first_params s) at (u16 s (at + number_at)) × Files s (first_params s) at
unfolding walk onward
walk_whole zero s at met m e = let z : ◌≡◌ {A = ℕ} 0 1 = cc in absurd (omega arith)
walk_whole (suc left) s at met m e = go (λ to w g. walk_whole left s to w m g) (step_of s at met) refl e
  where
    next : (n to : ℕ) → Accepted s at n to → Files s (first_params s) to → Whole s (first_params s) at (u16 s (at + number_at)) × Files s (first_params s) at
    next n to A F =
        let w : Whole s (first_params s) at (u16 s (at + number_at)) = subst (Whole s (first_params s) at) A.column A.whole in
        (w, more w (subst (Files s (first_params s)) (A.next ∙ ap (λ (x : ℕ). at + file_length (first_params s) x) A.column) F))

    after : ((to w : ℕ) → walk left s to w ≡ Ok m → Whole s (first_params s) to (u16 s (to + number_at)) × Files s (first_params s) to)
        → (n to : ℕ) (b : Bool) → ltb to (length s) ≡ b → choose b (walk left s to (met ⊕ 2 ^ n)) (Ok (met ⊕ 2 ^ n)) ≡ Ok m → Files s (first_params s) to
    after ih n to true h f = (ih to (met ⊕ 2 ^ n) f).1
    after ih n to false h f = end (ltb-false to (length s) h)

    go : ((to w : ℕ) → walk left s to w ≡ Ok m → Whole s (first_params s) to (u16 s (to + number_at)) × Files s (first_params s) to)
        → (w : Result File Refusal) → w ≡ step_of s at met → onward s met (λ to m. walk left s to m) w ≡ Ok m → Whole s (first_params s) at (u16 s (at + number_at)) × Files s (first_params s) at
    go ih (Err x) z f = let y : ◌≡◌ {A = ℕ} 0 1 = cc in absurd (omega arith)
    go ih (Ok x) z f = next x.column x.end (accepted s at met x.column x.end (Ok x) refl z) (after ih x.column x.end (ltb x.end (length s)) refl f)
