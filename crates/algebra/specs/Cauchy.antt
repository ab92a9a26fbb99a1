-- The Cauchy system: parities are sums of data divided by x + y, and the data come back by elimination, first datum first.
-- Over any group of exponent 2; `Q x y` divides by x + y and `D x y` multiplies by it; `Ap x y` says that x + y divides.
-- Assumes nothing.
use Rattle.std.specs.Prelude.{ℕ, ◌≡◌, List, [], ◌∷◌}

pub record Laws (M : Type 0) (◌⊕◌ : M → M → M) (𝟘 : M) (D Q : ℕ → ℕ → M → M) (Ap : ℕ → ℕ → Type 0) : Type 0 where
  pub assoc : (a b c : M) → ◌⊕◌ (◌⊕◌ a b) c ≡ ◌⊕◌ a (◌⊕◌ b c)
  pub comm : (a b : M) → ◌⊕◌ a b ≡ ◌⊕◌ b a
  pub unit : (a : M) → ◌⊕◌ a 𝟘 ≡ a
  pub self : (a : M) → ◌⊕◌ a a ≡ 𝟘
  pub D_add : (x y : ℕ) (a b : M) → D x y (◌⊕◌ a b) ≡ ◌⊕◌ (D x y a) (D x y b)
  pub Q_add : (x y : ℕ) (a b : M) → Q x y (◌⊕◌ a b) ≡ ◌⊕◌ (Q x y a) (Q x y b)
  pub D_D : (x y z w : ℕ) (a : M) → D x y (D z w a) ≡ D z w (D x y a)
  pub D_Q : (x y z w : ℕ) (a : M) → D x y (Q z w a) ≡ Q z w (D x y a)
  pub Q_Q : (x y z w : ℕ) (a : M) → Q x y (Q z w a) ≡ Q z w (Q x y a)
  pub D_sym : (x y : ℕ) (a : M) → D x y a ≡ D y x a
  pub D_tri : (x y z : ℕ) (a : M) → D x z a ≡ ◌⊕◌ (D x y a) (D y z a)
  pub D_inv : (x y : ℕ) (a : M) → Ap x y → D x y (Q x y a) ≡ a

-- two lists of one length
abbrev pub Same : {A B : Type 0} → List A → List B → Type 0
Same [] [] = Unit {0}
Same [] (b ∷ bs) = ⊥
Same (a ∷ l) [] = ⊥
Same (a ∷ l) (b ∷ bs) = Same l bs

module _ (Ap : ℕ → ℕ → Type 0) where
  -- x is apart from each of ys
  abbrev pub Off : ℕ → List ℕ → Type 0
  Off x [] = Unit {0}
  Off x (y ∷ ys) = Ap x y × Off x ys

  -- all apart from each other
  abbrev pub Distinct : List ℕ → Type 0
  Distinct [] = Unit {0}
  Distinct (x ∷ xs) = Off x xs × Distinct xs

  -- each of xs apart from each of ys
  abbrev pub Cross : List ℕ → List ℕ → Type 0
  Cross [] ys = Unit {0}
  Cross (x ∷ xs) ys = Off x ys × Cross xs ys

module _ {M : Type 0} (◌⊕◌ : M → M → M) (𝟘 : M) (D Q : ℕ → ℕ → M → M) where
  infixl 65 ◌⊕◌
  -- one parity: the sum of Q x y s over the data
  abbrev pub row : ℕ → List ℕ → List M → M
  row x [] ss = 𝟘
  row x (y ∷ ys) [] = 𝟘
  row x (y ∷ ys) (s ∷ ss) = Q x y s ⊕ row x ys ss

  abbrev pub enc : List ℕ → List ℕ → List M → List M
  enc [] ys ss = []
  enc (x ∷ xs) ys ss = row x ys ss ∷ enc xs ys ss

  -- the parities with the first datum taken out, from those after the first
  abbrev pub less : ℕ → ℕ → M → List ℕ → List M → List M
  less x1 y1 P1 [] Ps = []
  less x1 y1 P1 (x ∷ xs) [] = []
  less x1 y1 P1 (x ∷ xs) (P ∷ Ps) = Q x1 x (D x y1 P ⊕ D x1 y1 P1) ∷ less x1 y1 P1 xs Ps

  -- what the data of the system without the first datum are in the whole one
  abbrev pub back : ℕ → ℕ → List ℕ → List M → List M
  back x1 y1 [] ss = []
  back x1 y1 (y ∷ ys) [] = []
  back x1 y1 (y ∷ ys) (s ∷ ss) = Q y1 y (D x1 y s) ∷ back x1 y1 ys ss

  abbrev pub first : ℕ → ℕ → M → List ℕ → List M → List M
  first x1 y1 P1 ys ss = D x1 y1 (P1 ⊕ row x1 ys ss) ∷ ss

  abbrev pub solve : List ℕ → List ℕ → List M → List M
  solve [] ys Ps = []
  solve (x ∷ xs) [] Ps = []
  solve (x ∷ xs) (y ∷ ys) [] = []
  solve (x ∷ xs) (y ∷ ys) (P ∷ Ps) = first x y P ys (back x y ys (solve xs ys (less x y P xs Ps)))

  -- the same in two passes over an array: one down, which leaves each pivot in its place, and one up, from the last place to the first
  abbrev pub down : List ℕ → List ℕ → List M → List M
  down [] ys Ps = []
  down (x ∷ xs) [] Ps = []
  down (x ∷ xs) (y ∷ ys) [] = []
  down (x ∷ xs) (y ∷ ys) (P ∷ Ps) = P ∷ down xs ys (less x y P xs Ps)

  abbrev pub up : List ℕ → List ℕ → List M → List M
  up [] ys Ps = []
  up (x ∷ xs) [] Ps = []
  up (x ∷ xs) (y ∷ ys) [] = []
  up (x ∷ xs) (y ∷ ys) (P ∷ Ps) = first x y P ys (back x y ys (up xs ys Ps))
