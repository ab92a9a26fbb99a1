-- What import, export and the two lengths answer, by the way they come out.
-- Assumes nothing.
use Prim.Native.Nat.{ℕ, ◌+◌, ◌-◌, ◌<◌, ◌≤◌}
use mathlib.Core.List.{List}
use mathlib.Core.Logic.{◌≢◌}
use mathlib.Core.Path.{◌≡◌, refl, sym, ap, subst, ◌∙◌}
use native.Mathlib.Omega.{arith}
use lib.ListN.{length}
use borrow.Author.Tests.{lt-ltb, le-ltb, eq-eqb, ne_eqb}
use Rattle.std.specs.Prelude.{Result, Ok, Err}
use Rattle.laws.specs.Left.{Leaves}
use Rattle.laws.specs.Number.{u16}
use Rattle.refusal.specs.declared.Refusal.{Refusal}
use Rattle.refusal.specs.declared.Refusal.TheVariants.{Room as NoRoom, Column as NoColumn}
use Rattle.stripe.proofs.Frame.{read_image}
use Rattle.stripe.specs.Layout.{image_length}
use Rattle.stripe.specs.Params.{Admitted}
use Rattle.stripe.specs.Reading.{Image, read_of}
use Rattle.stripe.specs.declared.Params.{Params}
use Rattle.column_file.specs.File.{number_at, file_length, file_of}
use Rattle.column_file.specs.Inner.{Asked}
use Rattle.file_by_file.specs.Files.{met_from, first_params}
use Rattle.file_by_file.specs.Inner.{Whole, Files}
use Rattle.columns.specs.Export.{export_sound, export_read, export_of, file_length_sound, file_length_read, file_length_of}
use Rattle.filling.proofs.Turns.{walk_whole}
use Rattle.filling.specs.Filled.{blank, filled_from}
use Rattle.filling.specs.Inner.{MetReady}
use Rattle.columns.specs.Import.{absent, import_sound, import_met, import_of, files_length_met, files_length_of}
use Rattle.columns.specs.Inner.{AcceptedFiles}

-- ---- the ways out of `import_sound` and `import`

module _ (s t : List ℕ) (q : Params) (met n : ℕ) (e : n ≡ image_length q) where
  pub no_room : length t ≢ n → Leaves (import_sound s t q met) (Err NoRoom) t
  unfolding import_sound
  no_room h = let z = ne_eqb (length t) (image_length q) (λ g. h (g ∙ sym e)) in record { answered = simp z; left = simp z }

  pub image_ready : length t ≡ n → AcceptedFiles s q met → MetReady s t q met
  image_ready h F = record { columns = F.columns; params = F.params; room = h ∙ e }

  pub import_done : length t ≡ n → (u : List ℕ) (x : ℕ) → x ≡ absent q met → u ≡ filled_from s q 0 (blank q) → Leaves (import_sound s t q met) (Ok x) u
  unfolding import_sound
  import_done h u x f g = let z = eq-eqb (length t) (image_length q) (h ∙ e) in record { answered = simp z (ap Ok f); left = simp z g }

module _ (s : List ℕ) (v : Result ℕ Refusal) (a : v ≡ met_from s 0 0) where
  pub import_refused : (t : List ℕ) (e : Refusal) (x : Result ℕ Refusal) → v ≡ Err e → x ≡ Err e → Leaves (import_of s t) x t
  unfolding import_of import_met
  import_refused t e x f g = subst (λ (w : Result ℕ Refusal). Leaves (import_met s t w) x t) (sym f ∙ a) (record { answered = g; left = refl })

  module _ (m : ℕ) (f : v ≡ Ok m) where
    both : Whole s (first_params s) 0 (u16 s number_at) × Files s (first_params s) 0
    both = walk_whole (length s - 0) s 0 0 m (sym a ∙ f)

    pub first_there : 10 ≤ length s
    first_there = omega (arith, both.0.here)

    pub first_admitted : (q : Params) → q ≡ first_params s → Admitted q
    first_admitted q e = rw e both.0.admitted

    pub all_accepted : (q : Params) → q ≡ first_params s → AcceptedFiles s q m
    all_accepted q e = record { columns = sym a ∙ f; params = e }

    pub import_is : (t u : List ℕ) (q : Params) (x : Result ℕ Refusal) → q ≡ first_params s → Leaves (import_sound s t q m) x u → Leaves (import_of s t) x u
    unfolding import_of import_met
    import_is t u q x e l = subst (λ (w : Result ℕ Refusal). Leaves (import_met s t w) x u) (sym f ∙ a) (subst (λ (y : Params). Leaves (import_sound s t y m) x u) e l)

-- ---- the ways out of `export_sound` and `export`

module _ (s t : List ℕ) (n : ℕ) (q : Params) where
  pub no_column_there : q.k + q.r ≤ n → Leaves (export_sound s n t q) (Err NoColumn) t
  unfolding export_sound
  no_column_there h = let z = le-ltb n (q.k + q.r) h in record { answered = simp z; left = simp z }

  module _ (h : n < q.k + q.r) (m : ℕ) (e : m ≡ file_length q n) where
    pub no_file_room : length t ≢ m → Leaves (export_sound s n t q) (Err NoRoom) t
    unfolding export_sound
    no_file_room g =
        let y = lt-ltb n (q.k + q.r) h in
        let z = ne_eqb (length t) (file_length q n) (λ k. g (k ∙ sym e)) in
        record { answered = simp (y, z); left = simp (y, z) }

    pub file_asked : Image s q → length t ≡ m → Asked s t q n
    file_asked i g = record { image = i; below = h; room = g ∙ e }

    pub file_done : length t ≡ m → (u : List ℕ) → u ≡ file_of s q n → Leaves (export_sound s n t q) (Ok tt) u
    unfolding export_sound
    file_done g u f =
        let y = lt-ltb n (q.k + q.r) h in
        let z = eq-eqb (length t) (file_length q n) (g ∙ e) in
        record { answered = simp (y, z); left = simp (y, z) f }

module _ (s t : List ℕ) (n : ℕ) (v : Result Params Refusal) (a : v ≡ read_of s) where
  pub export_refused : (e : Refusal) (x : Result (Unit {0}) Refusal) → v ≡ Err e → x ≡ Err e → Leaves (export_of s n t) x t
  unfolding export_of export_read
  export_refused e x f g = subst (λ (w : Result Params Refusal). Leaves (export_read s n t w) x t) (sym f ∙ a) (record { answered = g; left = refl })

  pub export_is : (q : Params) (x : Result (Unit {0}) Refusal) (u : List ℕ) → v ≡ Ok q → Leaves (export_sound s n t q) x u → Leaves (export_of s n t) x u
  unfolding export_of export_read
  export_is q x u f l = subst (λ (w : Result Params Refusal). Leaves (export_read s n t w) x u) (sym f ∙ a) l

-- ---- the lengths

module _ (s : List ℕ) (v : Result ℕ Refusal) (a : v ≡ met_from s 0 0) where
  pub files_unmeasured : (e : Refusal) (x : Result ℕ Refusal) → v ≡ Err e → x ≡ Err e → x ≡ files_length_of s
  unfolding files_length_of files_length_met
  files_unmeasured e x f g = g ∙ ap (files_length_met s) (sym f ∙ a)

  pub files_measured : (m : ℕ) (q : Params) (n : ℕ) → v ≡ Ok m → q ≡ first_params s → n ≡ image_length q → Ok n ≡ files_length_of s
  unfolding files_length_of files_length_met
  files_measured m q n f e g = ap Ok (g ∙ ap image_length e) ∙ ap (files_length_met s) (sym f ∙ a)

module _ (s : List ℕ) (n : ℕ) (v : Result Params Refusal) (a : v ≡ read_of s) where
  pub file_unmeasured : (e : Refusal) (x : Result ℕ Refusal) → v ≡ Err e → x ≡ Err e → x ≡ file_length_of s n
  unfolding file_length_of file_length_read
  file_unmeasured e x f g = g ∙ ap (file_length_read n) (sym f ∙ a)

  pub read_admitted : (q : Params) → v ≡ Ok q → Admitted q
  read_admitted q f = (read_image s q v a f).admitted

  pub file_measured : (q : Params) (x : Result ℕ Refusal) → v ≡ Ok q → x ≡ file_length_sound n q → x ≡ file_length_of s n
  unfolding file_length_of file_length_read
  file_measured q x f e = e ∙ ap (file_length_read n) (sym f ∙ a)

module _ (q : Params) (n : ℕ) where
  pub column_unmeasured : q.k + q.r ≤ n → Err NoColumn ≡ file_length_sound n q
  unfolding file_length_sound
  column_unmeasured h = simp (le-ltb n (q.k + q.r) h)

  pub column_measured : n < q.k + q.r → (m : ℕ) → m ≡ file_length q n → Ok m ≡ file_length_sound n q
  unfolding file_length_sound
  column_measured h m e = ap Ok e ∙ simp (lt-ltb n (q.k + q.r) h)
