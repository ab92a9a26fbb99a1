-- An image whose lost columns are filled strip by strip stays the same outside them, and is the rebuilt one once each of their strips is in place.
-- Assumes nothing.
use Prim.Native.Nat.{ℕ, ◌+◌, ◌-◌, ◌<◌, ◌≤◌}
use mathlib.Core.Bool.{Bool, true, false}
use mathlib.Core.List.{List}
use mathlib.Core.Logic.{◌≢◌, inl, inr}
use mathlib.Core.Path.{◌≡◌, sym, ap, ◌∙◌, refl}
use native.Mathlib.Decide.{dec_lt}
use native.Mathlib.Omega.{arith}
use lib.ListN.{get_or}
use borrow.Author.Tests.{lt-ltb, le-ltb}
use Rattle.laws.specs.Part.{Clear}
use Rattle.laws.specs.Patch.{Patched}
use Rattle.stripe.proofs.Places.{strip_from, strip_in, strips_apart, parity_strip_from, parity_strips_apart}
use Rattle.stripe.specs.Layout.{rows, data_byte, parity_byte, strip_at, parity_strip_at}
use Rattle.stripe.specs.Reading.{Image}
use Rattle.stripe.specs.declared.Params.{Params}
use Rattle.rebuild.proofs.Cells.{is_rebuilt}
use Rattle.rebuild.proofs.Whole.{whole_data_present, whole_parity_present}
use Rattle.rebuild.specs.Agrees.{AgreesOutside}
use Rattle.rebuild.specs.Answer.{column_strip_at}
use Rattle.rebuild.specs.Lost.{whole_data, whole_parity, whole_byte, rebuilt}
use Rattle.pattern.specs.Pattern.{is_lost}

-- n places that a patch does not reach
unreached : (s t : List ℕ) (at b a n : ℕ) (f : ℕ → ℕ) → Patched s t at b f → Clear a n at b → (x : ℕ) → x < n → get_or t (a + x) 0 ≡ get_or s (a + x) 0
unreached s t at b a n f d (inl h) x l = d.below (a + x) (omega arith)
unreached s t at b a n f d (inr h) x l = d.above (a + x) (omega arith)

other_column : (m i n : ℕ) → is_lost m n ≡ true → is_lost m i ≡ false → i ≢ n
other_column m i n h k e = let z : ◌≡◌ {A = ℕ} 0 1 = no_both (is_lost m n) h (ap (is_lost m) (sym e) ∙ k) in omega arith
  where
    no_both : (b : Bool) → b ≡ true → b ≡ false → ◌≡◌ {A = ℕ} 0 1
    no_both b p q = cc

module _ (s t t' : List ℕ) (q : Params) (m : ℕ) (f : ℕ → ℕ) (g : AgreesOutside s t q m) where
  -- a strip of a lost data column
  data_filled : (n v : ℕ) → n < q.k → v < rows q → is_lost m n ≡ true → Patched t t' (strip_at q n v) q.b f → AgreesOutside s t' q m
  data_filled n v h k e d = record {
    len = d.len ∙ g.len;
    front = λ o l. d.below o (omega (arith, strip_from q n v)) ∙ g.front o l;
    count = λ o l c. d.above o (omega (arith, strip_in q n v h k)) ∙ g.count o l c;
    data_there = λ i u x a b c z.
        unreached t t' (strip_at q n v) q.b (strip_at q i u) q.b f d (strips_apart q i u n v b k (λ y. absurd (other_column m i n e z y))) x c
        ∙ g.data_there i u x a b c z;
    parity_there = λ j u x a b c z.
        d.above (parity_strip_at q j u + x) (omega (arith, strip_in q n v h k, parity_strip_from q j u)) ∙ g.parity_there j u x a b c z;
  }

  -- a strip of a lost parity column
  parity_filled : (n v : ℕ) → n < q.r → v < rows q → is_lost m (q.k + n) ≡ true → Patched t t' (parity_strip_at q n v) q.b f → AgreesOutside s t' q m
  parity_filled n v h k e d = record {
    len = d.len ∙ g.len;
    front = λ o l. d.below o (omega (arith, parity_strip_from q n v)) ∙ g.front o l;
    count = λ o l c. d.below o (omega (arith, parity_strip_from q n v)) ∙ g.count o l c;
    data_there = λ i u x a b c z.
        d.below (strip_at q i u + x) (omega (arith, strip_in q i u a b, parity_strip_from q n v)) ∙ g.data_there i u x a b c z;
    parity_there = λ j u x a b c z.
        unreached t t' (parity_strip_at q n v) q.b (parity_strip_at q j u) q.b f d
        (parity_strips_apart q j u n v b k (λ y. absurd (other_column m (q.k + j) (q.k + n) e z (ap (λ (w : ℕ). q.k + w) y)))) x c
        ∙ g.parity_there j u x a b c z;
  }

  -- a strip of any lost column
  pub agrees_filled : (n v : ℕ) → n < q.k + q.r → v < rows q → is_lost m n ≡ true → Patched t t' (column_strip_at q n v) q.b f → AgreesOutside s t' q m
  agrees_filled n v h k e d = go (dec_lt n q.k)
    where
      go : Dec (n < q.k) → AgreesOutside s t' q m
      go (yes l) = data_filled n v l k e (rw (lt-ltb n q.k l) at d)
      go (no l) =
          let c : q.k ≤ n = omega arith in
          let z : q.k + (n - q.k) ≡ n = omega arith in
          parity_filled (n - q.k) v (omega arith) k (ap (is_lost m) z ∙ e) (rw (le-ltb n q.k c) at d)

-- all lost columns are in place
pub filled_rebuilt : (s t : List ℕ) (q : Params) (m : ℕ) → Image s q → AgreesOutside s t q m
    → ((n v x : ℕ) → n < q.k + q.r → v < rows q → x < q.b → is_lost m n ≡ true → get_or t (column_strip_at q n v + x) 0 ≡ whole_byte s q m n v x)
    → t ≡ rebuilt s q m
unfolding whole_byte
filled_rebuilt s t q m i g h = is_rebuilt s q m i.len t i.admitted g.len g.front g.count (λ c v x a b l. columns c v x a b l (is_lost m c) refl) (λ j v x a b l. parities j v x a b l (is_lost m (q.k + j)) refl)
  where
    columns : (c v x : ℕ) → c < q.k → v < rows q → x < q.b → (b : Bool) → is_lost m c ≡ b → data_byte t q c v x ≡ whole_data s q m c v x
    columns c v x a k l true e = rw (lt-ltb c q.k a) at (h c v x (omega arith) k l e)
    columns c v x a k l false e = g.data_there c v x a k l e ∙ sym (whole_data_present s q m c v x e)

    parities : (j v x : ℕ) → j < q.r → v < rows q → x < q.b → (b : Bool) → is_lost m (q.k + j) ≡ b → parity_byte t q j v x ≡ whole_parity s q m j v x
    parities j v x a k l true e =
        let c : q.k ≤ q.k + j = omega arith in
        let z : q.k + j - q.k ≡ j = omega arith in
        rw (le-ltb (q.k + j) q.k c, z) at (h (q.k + j) v x (omega arith) k l e)
    parities j v x a k l false e = g.parity_there j v x a k l e ∙ sym (whole_parity_present s q m j v x e)
