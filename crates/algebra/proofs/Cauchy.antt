-- The Cauchy system is solved in both directions: solve of encode, and encode of solve.
-- Assumes nothing.
use Prim.Native.Nat.{ℕ}
use mathlib.Core.List.{List, [], ◌∷◌}
use mathlib.Core.Path.{◌≡◌, refl, sym, ap, ap₂, ◌∙◌}
use Rattle.algebra.specs.Cauchy.{Laws, Same, Off, Distinct, Cross}
use Rattle.algebra.specs.Cauchy as S

module _ (Ap : ℕ → ℕ → Type 0) where
  cross_tail : (xs : List ℕ) (y : ℕ) (ys : List ℕ) → Cross Ap xs (y ∷ ys) → Cross Ap xs ys
  cross_tail [] y ys h = tt
  cross_tail (x ∷ xs) y ys h = (h.0.1, cross_tail xs y ys h.1)

module _ {M : Type 0} (◌⊕◌ : M → M → M) (𝟘 : M) (D Q : ℕ → ℕ → M → M) where
  infixl 65 ◌⊕◌
  abbrev row : ℕ → List ℕ → List M → M
  row = S.row ◌⊕◌ 𝟘 D Q

  abbrev enc : List ℕ → List ℕ → List M → List M
  enc = S.enc ◌⊕◌ 𝟘 D Q

  abbrev less : ℕ → ℕ → M → List ℕ → List M → List M
  less = S.less ◌⊕◌ 𝟘 D Q

  abbrev back : ℕ → ℕ → List ℕ → List M → List M
  back = S.back ◌⊕◌ 𝟘 D Q

  abbrev first : ℕ → ℕ → M → List ℕ → List M → List M
  first = S.first ◌⊕◌ 𝟘 D Q

  abbrev solve : List ℕ → List ℕ → List M → List M
  solve = S.solve ◌⊕◌ 𝟘 D Q

  -- what the system without the first datum has for data
  abbrev fwd : ℕ → ℕ → List ℕ → List M → List M
  fwd x1 y1 [] ss = []
  fwd x1 y1 (y ∷ ys) [] = []
  fwd x1 y1 (y ∷ ys) (s ∷ ss) = Q x1 y (D y1 y s) ∷ fwd x1 y1 ys ss

  module _ (Ap : ℕ → ℕ → Type 0) (L : Laws M ◌⊕◌ 𝟘 D Q Ap) where
    Q_inv : (x y : ℕ) (a : M) → Ap x y → Q x y (D x y a) ≡ a
    Q_inv x y a h = sym (L.D_Q x y x y a) ∙ L.D_inv x y a h

    left_comm : (a b c : M) → a ⊕ (b ⊕ c) ≡ b ⊕ (a ⊕ c)
    left_comm a b c = sym (L.assoc a b c) ∙ ap (λ (m : M). m ⊕ c) (L.comm a b) ∙ L.assoc b a c

    cancel : (a b : M) → (a ⊕ b) ⊕ b ≡ a
    cancel a b = L.assoc a b b ∙ ap (λ (m : M). a ⊕ m) (L.self b) ∙ L.unit a

    cancel₂ : (a b c : M) → (a ⊕ b) ⊕ (a ⊕ c) ≡ b ⊕ c
    cancel₂ a b c =
        ap (λ (m : M). m ⊕ (a ⊕ c)) (L.comm a b) ∙ L.assoc b a (a ⊕ c)
        ∙ ap (λ (m : M). b ⊕ m) (sym (L.assoc a a c) ∙ ap (λ (m : M). m ⊕ c) (L.self a) ∙ L.comm 𝟘 c ∙ L.unit c)

    swap : (a b c d : M) → (a ⊕ b) ⊕ (c ⊕ d) ≡ (a ⊕ c) ⊕ (b ⊕ d)
    swap a b c d = L.assoc a b (c ⊕ d) ∙ ap (λ (m : M). a ⊕ m) (left_comm b c d) ∙ sym (L.assoc a c (b ⊕ d))

    D_zero : (x y : ℕ) → D x y 𝟘 ≡ 𝟘
    D_zero x y = ap (D x y) (sym (L.unit 𝟘)) ∙ L.D_add x y 𝟘 𝟘 ∙ L.self (D x y 𝟘)

    Q_zero : (x y : ℕ) → Q x y 𝟘 ≡ 𝟘
    Q_zero x y = ap (Q x y) (sym (L.unit 𝟘)) ∙ L.Q_add x y 𝟘 𝟘 ∙ L.self (Q x y 𝟘)

    -- ---- one datum

    cross : (x y z : ℕ) (s : M) → Ap x y → D x z (Q x y s) ≡ s ⊕ D y z (Q x y s)
    cross x y z s h = L.D_tri x y z (Q x y s) ∙ ap (λ (m : M). m ⊕ D y z (Q x y s)) (L.D_inv x y s h)

    pair : (x w y : ℕ) (s : M) → Ap w y → Ap x y → Q w y s ⊕ Q x y s ≡ D x w (Q w y (Q x y s))
    pair x w y s h k =
        ap₂ ◌⊕◌ (sym (L.D_Q x y w y (Q x y s) ∙ ap (Q w y) (L.D_inv x y s k)))
        (sym (L.D_sym y w (Q w y (Q x y s)) ∙ L.D_inv w y (Q x y s) h))
        ∙ sym (L.D_tri x y w (Q w y (Q x y s)))

    key : (x w y1 y : ℕ) (s : M) → Ap x w → Ap w y → Ap x y
        → Q x w (D w y1 (Q w y s) ⊕ D x y1 (Q x y s)) ≡ Q w y (Q x y (D y1 y s))
    key x w y1 y s a h k =
        ap (Q x w)
        (ap₂ ◌⊕◌ (cross w y y1 s h) (cross x y y1 s k)
        ∙ cancel₂ s (D y y1 (Q w y s)) (D y y1 (Q x y s))
        ∙ sym (L.D_add y y1 (Q w y s) (Q x y s))
        ∙ ap (D y y1) (pair x w y s h k)
        ∙ L.D_D y y1 x w (Q w y (Q x y s)))
        ∙ Q_inv x w (D y y1 (Q w y (Q x y s))) a
        ∙ L.D_Q y y1 w y (Q x y s)
        ∙ ap (Q w y) (L.D_Q y y1 x y s ∙ ap (Q x y) (L.D_sym y y1 s))

    -- ---- one parity

    one : (x w y : ℕ) (a b c d : M) → Q x w (D w y (a ⊕ b) ⊕ D x y (c ⊕ d)) ≡ Q x w (D w y a ⊕ D x y c) ⊕ Q x w (D w y b ⊕ D x y d)
    one x w y a b c d =
        ap (Q x w) (ap₂ ◌⊕◌ (L.D_add w y a b) (L.D_add x y c d) ∙ swap (D w y a) (D w y b) (D x y c) (D x y d))
        ∙ L.Q_add x w (D w y a ⊕ D x y c) (D w y b ⊕ D x y d)

    none : (x w y : ℕ) → Q x w (D w y 𝟘 ⊕ D x y 𝟘) ≡ 𝟘
    none x w y = ap (Q x w) (ap₂ ◌⊕◌ (D_zero w y) (D_zero x y) ∙ L.unit 𝟘) ∙ Q_zero x w

    rest : (x w y1 : ℕ) (ys : List ℕ) (ss : List M) → Ap x w → Off Ap w ys → Off Ap x ys
        → Q x w (D w y1 (row w ys ss) ⊕ D x y1 (row x ys ss)) ≡ row w ys (fwd x y1 ys ss)
    rest x w y1 [] ss a h k = none x w y1
    rest x w y1 (y ∷ ys) [] a h k = none x w y1
    rest x w y1 (y ∷ ys) (s ∷ ss) a h k =
        one x w y1 (Q w y s) (row w ys ss) (Q x y s) (row x ys ss)
        ∙ ap₂ ◌⊕◌ (key x w y1 y s a h.0 k.0) (rest x w y1 ys ss a h.1 k.1)

    head : (x w y1 : ℕ) (s : M) → Ap w y1 → Ap x y1 → Q x w (D w y1 (Q w y1 s) ⊕ D x y1 (Q x y1 s)) ≡ 𝟘
    head x w y1 s h k = ap (Q x w) (ap₂ ◌⊕◌ (L.D_inv w y1 s h) (L.D_inv x y1 s k) ∙ L.self s) ∙ Q_zero x w

    whole : (x w y1 : ℕ) (s : M) (ys : List ℕ) (ss : List M) → Ap x w → Ap w y1 → Ap x y1 → Off Ap w ys → Off Ap x ys
        → Q x w (D w y1 (row w (y1 ∷ ys) (s ∷ ss)) ⊕ D x y1 (row x (y1 ∷ ys) (s ∷ ss))) ≡ row w ys (fwd x y1 ys ss)
    whole x w y1 s ys ss a b c h k =
        one x w y1 (Q w y1 s) (row w ys ss) (Q x y1 s) (row x ys ss)
        ∙ ap₂ ◌⊕◌ (head x w y1 s b c) (rest x w y1 ys ss a h k)
        ∙ L.comm 𝟘 _ ∙ L.unit _

    -- ---- the lists

    less_enc : (x y : ℕ) (s : M) (ys : List ℕ) (ss : List M) (xs : List ℕ) → Ap x y → Off Ap x ys → Off Ap x xs → Cross Ap xs (y ∷ ys)
        → less x y (row x (y ∷ ys) (s ∷ ss)) xs (enc xs (y ∷ ys) (s ∷ ss)) ≡ enc xs ys (fwd x y ys ss)
    less_enc x y s ys ss [] a h o c = refl
    less_enc x y s ys ss (w ∷ xs) a h o c =
        ap₂ ◌∷◌ (whole x w y s ys ss o.0 c.0.0 a c.0.1 h) (less_enc x y s ys ss xs a h o.1 c.1)

    back_fwd : (x y : ℕ) (ys : List ℕ) (ss : List M) → Off Ap x ys → Off Ap y ys → Same ys ss → back x y ys (fwd x y ys ss) ≡ ss
    back_fwd x y [] [] h k e = refl
    back_fwd x y [] (s ∷ ss) h k e = absurd e
    back_fwd x y (z ∷ ys) [] h k e = absurd e
    back_fwd x y (z ∷ ys) (s ∷ ss) h k e =
        ap₂ ◌∷◌ (ap (Q y z) (L.D_inv x z (D y z s) h.0) ∙ Q_inv y z s k.0) (back_fwd x y ys ss h.1 k.1 e)

    fwd_back : (x y : ℕ) (ys : List ℕ) (ss : List M) → Off Ap x ys → Off Ap y ys → Same ys ss → fwd x y ys (back x y ys ss) ≡ ss
    fwd_back x y [] [] h k e = refl
    fwd_back x y [] (s ∷ ss) h k e = absurd e
    fwd_back x y (z ∷ ys) [] h k e = absurd e
    fwd_back x y (z ∷ ys) (s ∷ ss) h k e =
        ap₂ ◌∷◌ (ap (Q x z) (L.D_inv y z (D x z s) k.0) ∙ Q_inv x z s h.0) (fwd_back x y ys ss h.1 k.1 e)

    same_fwd : (x y : ℕ) (ys : List ℕ) (ss : List M) → Same ys ss → Same ys (fwd x y ys ss)
    same_fwd x y [] [] e = tt
    same_fwd x y [] (s ∷ ss) e = absurd e
    same_fwd x y (z ∷ ys) [] e = absurd e
    same_fwd x y (z ∷ ys) (s ∷ ss) e = same_fwd x y ys ss e

    same_back : (x y : ℕ) (ys : List ℕ) (ss : List M) → Same ys ss → Same ys (back x y ys ss)
    same_back x y [] [] e = tt
    same_back x y [] (s ∷ ss) e = absurd e
    same_back x y (z ∷ ys) [] e = absurd e
    same_back x y (z ∷ ys) (s ∷ ss) e = same_back x y ys ss e

    same_less : (x y : ℕ) (P : M) (xs : List ℕ) (Ps : List M) → Same xs Ps → Same xs (less x y P xs Ps)
    same_less x y P [] [] e = tt
    same_less x y P [] (R ∷ Ps) e = absurd e
    same_less x y P (w ∷ xs) [] e = absurd e
    same_less x y P (w ∷ xs) (R ∷ Ps) e = same_less x y P xs Ps e

    pub same_solve : (xs ys : List ℕ) (Ps : List M) → Same xs ys → Same xs Ps → Same ys (solve xs ys Ps)
    same_solve [] [] Ps d e = tt
    same_solve [] (y ∷ ys) Ps d e = absurd d
    same_solve (x ∷ xs) [] Ps d e = absurd d
    same_solve (x ∷ xs) (y ∷ ys) [] d e = absurd e
    same_solve (x ∷ xs) (y ∷ ys) (P ∷ Ps) d e =
        same_back x y ys (solve xs ys (less x y P xs Ps)) (same_solve xs ys (less x y P xs Ps) d (same_less x y P xs Ps e))

    pub same_enc : (xs ys : List ℕ) (ss : List M) → Same xs (enc xs ys ss)
    same_enc [] ys ss = tt
    same_enc (x ∷ xs) ys ss = same_enc xs ys ss

    -- `less` undone
    more : ℕ → ℕ → M → List ℕ → List M → List M
    more x y P [] Rs = []
    more x y P (w ∷ xs) [] = []
    more x y P (w ∷ xs) (R ∷ Rs) = Q w y (D x w R ⊕ D x y P) ∷ more x y P xs Rs

    more_less : (x y : ℕ) (P : M) (xs : List ℕ) (Ps : List M) (ys : List ℕ) → Off Ap x xs → Cross Ap xs (y ∷ ys) → Same xs Ps
        → more x y P xs (less x y P xs Ps) ≡ Ps
    unfolding more
    more_less x y P [] [] ys h c e = refl
    more_less x y P [] (R ∷ Ps) ys h c e = absurd e
    more_less x y P (w ∷ xs) [] ys h c e = absurd e
    more_less x y P (w ∷ xs) (R ∷ Ps) ys h c e =
        ap₂ ◌∷◌
        (ap (Q w y) (ap (λ (m : M). m ⊕ D x y P) (L.D_inv x w (D w y R ⊕ D x y P) h.0) ∙ cancel (D w y R) (D x y P))
        ∙ Q_inv w y R c.0.0)
        (more_less x y P xs Ps ys h.1 c.1 e)

    pub solve_enc : (xs ys : List ℕ) (ss : List M) → Same xs ys → Same ys ss → Distinct Ap xs → Distinct Ap ys → Cross Ap xs ys
        → solve xs ys (enc xs ys ss) ≡ ss
    solve_enc [] [] [] d e p q c = refl
    solve_enc [] [] (s ∷ ss) d e p q c = absurd e
    solve_enc [] (y ∷ ys) ss d e p q c = absurd d
    solve_enc (x ∷ xs) [] ss d e p q c = absurd d
    solve_enc (x ∷ xs) (y ∷ ys) [] d e p q c = absurd e
    solve_enc (x ∷ xs) (y ∷ ys) (s ∷ ss) d e p q c =
        ap (first x y (row x (y ∷ ys) (s ∷ ss)) ys)
        (ap (back x y ys)
        (ap (solve xs ys) (less_enc x y s ys ss xs c.0.0 c.0.1 p.0 c.1)
        ∙ solve_enc xs ys (fwd x y ys ss) d (same_fwd x y ys ss e) p.1 q.1 (cross_tail Ap xs y ys c.1))
        ∙ back_fwd x y ys ss c.0.1 q.0 e)
        ∙ ap (λ (m : M). m ∷ ss) (ap (D x y) (cancel (Q x y s) (row x ys ss)) ∙ L.D_inv x y s c.0.0)

    -- the step of the other direction, with the smaller system's answer ss
    enc_first : (x y : ℕ) (P : M) (xs ys : List ℕ) (Ps ss : List M) → Same ys ss → Same xs Ps → Distinct Ap (x ∷ xs) → Distinct Ap (y ∷ ys)
        → Cross Ap (x ∷ xs) (y ∷ ys) → enc xs ys ss ≡ less x y P xs Ps
        → enc (x ∷ xs) (y ∷ ys) (first x y P ys (back x y ys ss)) ≡ P ∷ Ps
    enc_first x y P xs ys Ps ss e f p q c ih =
        let t : List M = back x y ys ss in
        let s : M = D x y (P ⊕ row x ys t) in
        let R : List M = enc xs (y ∷ ys) (s ∷ t) in
        let e₁ : row x (y ∷ ys) (s ∷ t) ≡ P = ap (λ (m : M). m ⊕ row x ys t) (Q_inv x y (P ⊕ row x ys t) c.0.0) ∙ cancel P (row x ys t) in
        let e₂ : less x y P xs R ≡ less x y P xs Ps =
        ap (λ (m : M). less x y m xs R) (sym e₁)
        ∙ less_enc x y s ys t xs c.0.0 c.0.1 p.0 c.1
        ∙ ap (enc xs ys) (fwd_back x y ys ss c.0.1 q.0 e) ∙ ih in
        ap₂ ◌∷◌ e₁
        (sym (more_less x y P xs R ys p.0 c.1 (same_enc xs (y ∷ ys) (s ∷ t)))
        ∙ ap (more x y P xs) e₂ ∙ more_less x y P xs Ps ys p.0 c.1 f)

    pub enc_solve : (xs ys : List ℕ) (Ps : List M) → Same xs ys → Same xs Ps → Distinct Ap xs → Distinct Ap ys → Cross Ap xs ys
        → enc xs ys (solve xs ys Ps) ≡ Ps
    enc_solve [] [] [] d e p q c = refl
    enc_solve [] [] (P ∷ Ps) d e p q c = absurd e
    enc_solve [] (y ∷ ys) Ps d e p q c = absurd d
    enc_solve (x ∷ xs) [] Ps d e p q c = absurd d
    enc_solve (x ∷ xs) (y ∷ ys) [] d e p q c = absurd e
    enc_solve (x ∷ xs) (y ∷ ys) (P ∷ Ps) d e p q c =
        enc_first x y P xs ys Ps (solve xs ys (less x y P xs Ps)) (same_solve xs ys (less x y P xs Ps) d (same_less x y P xs Ps e)) e p q c
        (enc_solve xs ys (less x y P xs Ps) d (same_less x y P xs Ps e) p.1 q.1 (cross_tail Ap xs y ys c.1))
