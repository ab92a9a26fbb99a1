-- A list by its length and what stands at each place.
-- Assumes nothing.
use Prim.Native.Nat.{ℕ, zero, suc, ◌<◌}
use mathlib.Core.List.{List, map, [], ◌∷◌}
use mathlib.Core.Path.{◌≡◌, refl, sym, ap, ◌∙◌, ap₂}
use native.Mathlib.Nat.{le_of_suc-le-suc, not-suc-le-zero}
use native.Mathlib.Omega.{arith}
use lib.ListN.{length, get_or}
use lib.Seq.{ext_get_or}
use Rattle.laws.specs.Part.{tab, table}

pub length_tab : (n : ℕ) (f : ℕ → ℕ) → length (tab n f) ≡ n
unfolding tab
length_tab zero f = refl
length_tab (suc n) f = ap suc (length_tab n (λ o. f (suc o)))

pub get_or_tab : (n : ℕ) (f : ℕ → ℕ) (o : ℕ) → o < n → get_or (tab n f) o 0 ≡ f o
unfolding tab
get_or_tab zero f o h = absurd (not-suc-le-zero h)
get_or_tab (suc n) f zero h = refl
get_or_tab (suc n) f (suc o) h = get_or_tab n (λ o. f (suc o)) o (le_of_suc-le-suc h)

pub is_tab : (l : List ℕ) (n : ℕ) (f : ℕ → ℕ) → length l ≡ n → ((o : ℕ) → o < length l → get_or l o 0 ≡ f o) → l ≡ tab n f
is_tab l n f e h =
    ext_get_or 0 l (tab n f) (e ∙ sym (length_tab n f)) (λ o lt. h o lt ∙ sym (get_or_tab n f o (rw e at lt)))

module _ {A : Type 0} where
  pub length_table : (k : ℕ) (f : ℕ → A) → length (table k f) ≡ k
  length_table zero f = refl
  length_table (suc k) f = ap suc (length_table k (λ i. f (suc i)))

  pub get_or_table : (k : ℕ) (f : ℕ → A) (d : A) (i : ℕ) → i < k → get_or (table k f) i d ≡ f i
  get_or_table zero f d i h = absurd (omega arith)
  get_or_table (suc k) f d zero h = refl
  get_or_table (suc k) f d (suc i) h = get_or_table k (λ i. f (suc i)) d i (omega arith)

pub map_at : {A : Type 0} (f : ℕ → A) (l : List ℕ) (d : A) (v : ℕ) → v < length l → get_or (map f l) v d ≡ f (get_or l v 0)
map_at f [] d v h = absurd (omega arith)
map_at f (a ∷ l) d zero h = refl
map_at f (a ∷ l) d (suc v) h = map_at f l d v (omega arith)

pub map_table : {A B : Type 0} (F : A → B) (g : ℕ) (f : ℕ → A) → map F (table g f) ≡ table g (λ k. F (f k))
map_table F zero f = refl
map_table F (suc g) f = ap (λ l. F (f 0) ∷ l) (map_table F g (λ k. f (suc k)))

pub table_ext : {A : Type 0} (g : ℕ) (f h : ℕ → A) → ((k : ℕ) → k < g → f k ≡ h k) → table g f ≡ table g h
table_ext zero f h e = refl
table_ext (suc g) f h e = ap₂ ◌∷◌ (e 0 (omega arith)) (table_ext g (λ k. f (suc k)) (λ k. h (suc k)) (λ k l. e (suc k) (omega arith)))

pub table_is : {A : Type 0} (l : List A) (d : A) → table (length l) (λ k. get_or l k d) ≡ l
table_is [] d = refl
table_is (a ∷ l) d = ap (λ k. a ∷ k) (table_is l d)
