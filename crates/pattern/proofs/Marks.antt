-- Lists parted by marks: what is lost and what is kept of a table, with a count c that goes up by one at each mark.
-- Assumes nothing.
use Prim.Native.Nat.{ℕ, zero, suc, ◌<◌, ◌≤◌, ◌+◌}
use mathlib.Core.Bool.{Bool, true, false}
use mathlib.Core.List.{List, map, ◌∷◌, []}
use mathlib.Core.Path.{refl, ap, ap₂, ◌≡◌, ◌∙◌}
use native.Mathlib.Omega.{arith}
use lib.ListN.{take, length, get_or}
use Rattle.laws.proofs.Tab.{table_ext, table_is}
use Rattle.laws.specs.Choose.{choose}
use Rattle.laws.specs.Part.{table}
use Rattle.algebra.specs.Recovery.{kept, lost, Rising}

module _ {A B : Type 0} (F : A → B) where
  pub map_kept : (m : List Bool) (l : List A) → map F (kept m l) ≡ kept m (map F l)
  map_kept [] l = refl
  map_kept (b ∷ m) [] = refl
  map_kept (true ∷ m) (a ∷ l) = map_kept m l
  map_kept (false ∷ m) (a ∷ l) = ap (λ k. F a ∷ k) (map_kept m l)

  pub map_take : (n : ℕ) (l : List A) → map F (take n l) ≡ take n (map F l)
  map_take zero l = refl
  map_take (suc n) [] = refl
  map_take (suc n) (a ∷ l) = ap (λ k. F a ∷ k) (map_take n l)

module _ {A : Type 0} where
  -- ---- what is kept depends on what is not marked, and what is lost on what is

  kept_one : (t : Bool) (a b : A) (m : List Bool) (k l : List A) → (t ≡ false → a ≡ b) → kept m k ≡ kept m l → kept (t ∷ m) (a ∷ k) ≡ kept (t ∷ m) (b ∷ l)
  kept_one true a b m k l h e = e
  kept_one false a b m k l h e = ap₂ ◌∷◌ (h refl) e

  pub kept_ext : (k : ℕ) (b : ℕ → Bool) (f g : ℕ → A) → ((i : ℕ) → i < k → b i ≡ false → f i ≡ g i) → kept (table k b) (table k f) ≡ kept (table k b) (table k g)
  kept_ext zero b f g h = refl
  kept_ext (suc k) b f g h =
      kept_one (b 0) (f 0) (g 0) (table k (λ i. b (suc i))) (table k (λ i. f (suc i))) (table k (λ i. g (suc i))) (h 0 (omega arith))
      (kept_ext k (λ i. b (suc i)) (λ i. f (suc i)) (λ i. g (suc i)) (λ i l. h (suc i) (omega arith)))

  lost_one : (t : Bool) (a b : A) (m : List Bool) (k l : List A) → (t ≡ true → a ≡ b) → lost m k ≡ lost m l → lost (t ∷ m) (a ∷ k) ≡ lost (t ∷ m) (b ∷ l)
  lost_one true a b m k l h e = ap₂ ◌∷◌ (h refl) e
  lost_one false a b m k l h e = e

  pub lost_ext : (k : ℕ) (b : ℕ → Bool) (f g : ℕ → A) → ((i : ℕ) → i < k → b i ≡ true → f i ≡ g i) → lost (table k b) (table k f) ≡ lost (table k b) (table k g)
  lost_ext zero b f g h = refl
  lost_ext (suc k) b f g h =
      lost_one (b 0) (f 0) (g 0) (table k (λ i. b (suc i))) (table k (λ i. f (suc i))) (table k (λ i. g (suc i))) (h 0 (omega arith))
      (lost_ext k (λ i. b (suc i)) (λ i. f (suc i)) (λ i. g (suc i)) (λ i l. h (suc i) (omega arith)))

  -- what is kept has no mark, and what is lost has one: c says it of the thing itself
  unmarked_one : (t : Bool) (c : A → Bool) (a d : A) (m : List Bool) (l : List A) → c a ≡ t → ((v : ℕ) → v < length (kept m l) → c (get_or (kept m l) v d) ≡ false)
      → (v : ℕ) → v < length (kept (t ∷ m) (a ∷ l)) → c (get_or (kept (t ∷ m) (a ∷ l)) v d) ≡ false
  unmarked_one true c a d m l e h v k = h v k
  unmarked_one false c a d m l e h zero k = e
  unmarked_one false c a d m l e h (suc v) k = h v (omega arith)

  pub kept_unmarked : (k : ℕ) (b : ℕ → Bool) (f : ℕ → A) (c : A → Bool) (d : A) → ((i : ℕ) → c (f i) ≡ b i)
      → (v : ℕ) → v < length (kept (table k b) (table k f)) → c (get_or (kept (table k b) (table k f)) v d) ≡ false
  kept_unmarked zero b f c d e v h = absurd (omega arith)
  kept_unmarked (suc k) b f c d e v h =
      unmarked_one (b 0) c (f 0) d (table k (λ i. b (suc i))) (table k (λ i. f (suc i))) (e 0)
      (kept_unmarked k (λ i. b (suc i)) (λ i. f (suc i)) c d (λ i. e (suc i))) v h

  marked_one : (t : Bool) (c : A → Bool) (a d : A) (m : List Bool) (l : List A) → c a ≡ t → ((v : ℕ) → v < length (lost m l) → c (get_or (lost m l) v d) ≡ true)
      → (v : ℕ) → v < length (lost (t ∷ m) (a ∷ l)) → c (get_or (lost (t ∷ m) (a ∷ l)) v d) ≡ true
  marked_one true c a d m l e h zero k = e
  marked_one true c a d m l e h (suc v) k = h v (omega arith)
  marked_one false c a d m l e h v k = h v k

  pub lost_marked : (k : ℕ) (b : ℕ → Bool) (f : ℕ → A) (c : A → Bool) (d : A) → ((i : ℕ) → c (f i) ≡ b i)
      → (v : ℕ) → v < length (lost (table k b) (table k f)) → c (get_or (lost (table k b) (table k f)) v d) ≡ true
  lost_marked zero b f c d e v h = absurd (omega arith)
  lost_marked (suc k) b f c d e v h =
      marked_one (b 0) c (f 0) d (table k (λ i. b (suc i))) (table k (λ i. f (suc i))) (e 0)
      (lost_marked k (λ i. b (suc i)) (λ i. f (suc i)) c d (λ i. e (suc i))) v h

-- ---- a count of the marks

pub count_up : (c : ℕ → ℕ) (b : ℕ → Bool) → ((i : ℕ) → c (suc i) ≡ c i + choose (b i) 1 0) → (i : ℕ) → c 0 ≤ c i
count_up c b h zero = omega arith
count_up c b h (suc i) = omega (arith, h i, count_up c b h i)

module _ {A : Type 0} where
  lost_more : (t : Bool) (a : A) (m : List Bool) (l : List A) (x y z : ℕ) → y ≡ x + choose t 1 0 → y + length (lost m l) ≡ z → x + length (lost (t ∷ m) (a ∷ l)) ≡ z
  lost_more true a m l x y z e h = omega arith
  lost_more false a m l x y z e h = omega arith

  pub count_lost : (k : ℕ) (b : ℕ → Bool) (f : ℕ → A) (c : ℕ → ℕ) → ((i : ℕ) → c (suc i) ≡ c i + choose (b i) 1 0) → c 0 + length (lost (table k b) (table k f)) ≡ c k
  count_lost zero b f c h = omega arith
  count_lost (suc k) b f c h =
      lost_more (b 0) (f 0) (table k (λ i. b (suc i))) (table k (λ i. f (suc i))) (c 0) (c 1) (c (suc k)) (h 0)
      (count_lost k (λ i. b (suc i)) (λ i. f (suc i)) (λ i. c (suc i)) (λ i. h (suc i)))

  kept_more : (t : Bool) (a : A) (m : List Bool) (l : List A) (x y z k : ℕ) → y ≡ x + choose t 1 0 → length (kept m l) + z ≡ y + k → length (kept (t ∷ m) (a ∷ l)) + z ≡ x + suc k
  kept_more true a m l x y z k e h = omega arith
  kept_more false a m l x y z k e h = omega arith

  pub count_kept : (k : ℕ) (b : ℕ → Bool) (f : ℕ → A) (c : ℕ → ℕ) → ((i : ℕ) → c (suc i) ≡ c i + choose (b i) 1 0) → length (kept (table k b) (table k f)) + c k ≡ c 0 + k
  count_kept zero b f c h = omega arith
  count_kept (suc k) b f c h =
      kept_more (b 0) (f 0) (table k (λ i. b (suc i))) (table k (λ i. f (suc i))) (c 0) (c 1) (c (suc k)) k (h 0)
      (count_kept k (λ i. b (suc i)) (λ i. f (suc i)) (λ i. c (suc i)) (λ i. h (suc i)))

  -- the lost ones of a table that goes by the count are a table
  counted_one : (t : Bool) (f : ℕ → A) (m : List Bool) (l : List A) (x y : ℕ) → y ≡ x + choose t 1 0 → lost m l ≡ table (length (lost m l)) (λ u. f (y + u))
      → lost (t ∷ m) (f x ∷ l) ≡ table (length (lost (t ∷ m) (f x ∷ l))) (λ u. f (x + u))
  counted_one true f m l x y e h =
      ap₂ ◌∷◌ (ap f (omega arith)) (h ∙ table_ext (length (lost m l)) (λ u. f (y + u)) (λ u. f (x + suc u)) (λ u g. ap f (omega arith)))
  counted_one false f m l x y e h = h ∙ table_ext (length (lost m l)) (λ u. f (y + u)) (λ u. f (x + u)) (λ u g. ap f (omega arith))

  counted : (k : ℕ) (b : ℕ → Bool) (f : ℕ → A) (c : ℕ → ℕ) → ((i : ℕ) → c (suc i) ≡ c i + choose (b i) 1 0)
      → lost (table k b) (table k (λ i. f (c i))) ≡ table (length (lost (table k b) (table k (λ i. f (c i))))) (λ u. f (c 0 + u))
  counted zero b f c h = refl
  counted (suc k) b f c h =
      counted_one (b 0) f (table k (λ i. b (suc i))) (table k (λ i. f (c (suc i)))) (c 0) (c 1) (h 0)
      (counted k (λ i. b (suc i)) f (λ i. c (suc i)) (λ i. h (suc i)))

  -- a table whose marked places are filled from a list, in order, has that list lost
  pub lost_filled : (k : ℕ) (b : ℕ → Bool) (f : ℕ → A) (l : List A) (d : A) (c : ℕ → ℕ) → ((i : ℕ) → c (suc i) ≡ c i + choose (b i) 1 0) → c 0 ≡ 0 → length l ≡ c k
      → ((i : ℕ) → i < k → b i ≡ true → f i ≡ get_or l (c i) d) → lost (table k b) (table k f) ≡ l
  lost_filled k b f l d c h z e g =
      let n : length (lost (table k b) (table k (λ i. get_or l (c i) d))) ≡ length l = omega (arith, count_lost k b (λ i. get_or l (c i) d) c h) in
      lost_ext k b f (λ i. get_or l (c i) d) g
      ∙ counted k b (λ u. get_or l u d) c h
      ∙ ap (λ (o : ℕ). table o (λ u. get_or l (c 0 + u) d)) n
      ∙ table_ext (length l) (λ u. get_or l (c 0 + u) d) (λ u. get_or l u d) (λ u x. ap (λ (o : ℕ). get_or l o d) (omega arith)) ∙ table_is l d

  at_one : (t : Bool) (a v d : A) (m : List Bool) (l : List A) (x y z u : ℕ) → y ≡ x + choose t 1 0 → y ≤ z → x + u ≡ z → ((u : ℕ) → y + u ≡ z → get_or (lost m l) u d ≡ v)
      → get_or (lost (t ∷ m) (a ∷ l)) u d ≡ v
  at_one true a v d m l x y z zero e g f h = absurd (omega arith)
  at_one true a v d m l x y z (suc u) e g f h = h u (omega arith)
  at_one false a v d m l x y z u e g f h = h u (omega arith)

  at_zero : (t : Bool) (a d : A) (m : List Bool) (l : List A) → t ≡ true → get_or (lost (t ∷ m) (a ∷ l)) 0 d ≡ a
  at_zero true a d m l e = refl
  at_zero false a d m l e = let z : ◌≡◌ {A = ℕ} 0 1 = cc in absurd (omega arith)

  -- a lost one by its number among the lost ones
  pub lost_at : (k : ℕ) (b : ℕ → Bool) (f : ℕ → A) (d : A) (c : ℕ → ℕ) → ((i : ℕ) → c (suc i) ≡ c i + choose (b i) 1 0)
      → (i u : ℕ) → i < k → b i ≡ true → c 0 + u ≡ c i → get_or (lost (table k b) (table k f)) u d ≡ f i
  lost_at zero b f d c h i u l e g = absurd (omega arith)
  lost_at (suc k) b f d c h zero u l e g =
      let z : u ≡ 0 = omega arith in
      rw z (at_zero (b 0) (f 0) d (table k (λ i. b (suc i))) (table k (λ i. f (suc i))) e)
  lost_at (suc k) b f d c h (suc i) u l e g =
      at_one (b 0) (f 0) (f (suc i)) d (table k (λ i. b (suc i))) (table k (λ i. f (suc i))) (c 0) (c 1) (c (suc i)) u (h 0)
      (count_up (λ i. c (suc i)) (λ i. b (suc i)) (λ i. h (suc i)) i) g
      (λ u x. lost_at k (λ i. b (suc i)) (λ i. f (suc i)) d (λ i. c (suc i)) (λ i. h (suc i)) i u (omega arith) e x)

-- ---- rising exponents

pub rising_table : (k lo hi : ℕ) (f : ℕ → ℕ) → ((i : ℕ) → f i ≡ lo + i) → lo + k ≤ hi → Rising lo hi (table k f)
rising_table zero lo hi f e h = tt
rising_table (suc k) lo hi f e h =
    (omega (arith, e 0), omega (arith, e 0), rising_table k (suc (f 0)) hi (λ i. f (suc i)) (λ i. omega (arith, e 0, e (suc i))) (omega (arith, e 0)))

pub rising_take : (n lo hi : ℕ) (l : List ℕ) → Rising lo hi l → Rising lo hi (take n l)
rising_take zero lo hi l r = tt
rising_take (suc n) lo hi [] r = tt
rising_take (suc n) lo hi (x ∷ l) r = (r.0, r.1, rising_take n (suc x) hi l r.2)
