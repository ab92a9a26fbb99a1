-- The digits of a number: how many there are, and that std writes them.
-- Assumes nothing.
use Prim.Native.Nat.{ℕ, zero, suc, ◌+◌, ◌-◌, ◌/◌, ◌%◌, ◌*◌, ◌^◌, ◌<◌, ◌≤◌, min}
use mathlib.Core.Bool.{Bool, true, false}
use mathlib.Core.List.{List, [], ◌∷◌, ◌++◌}
use mathlib.Core.Path.{◌≡◌, refl, sym, ap, ap₂, subst, ◌∙◌}
use native.Mathlib.Decide.{ℕ_discrete, dec_lt}
use native.Mathlib.Nat.{pow-le-pow_right}
use native.Mathlib.Omega.{arith}
use lib.Dec.{leb, ltb}
use borrow.Author.Tests.{le-leb, lt-leb, lt-ltb, le-ltb}
use Rattle.laws.specs.Choose.{choose}
use Rattle.laws.specs.Sum.{total}
use lib.ListN.{length, length-append}
use Rattle.io.specs.Digits.{hex_digit_ascii, last_digits, IsDigitCount}
use Rattle.std.proofs.Math.Nat.{pow-succ'}
use Rattle.std.proofs.lemmas.Fmt.{decimal_by_steps, length-decimal-le}
use Rattle.std.specs.Fmt.{decimal}
use Rattle.texts.specs.Text.{places, text}

-- how many of the numbers below m are below j
counted_below : (m j : ℕ) → total m (λ i. choose (ltb i j) 1 0) ≡ min m j
unfolding total
counted_below zero j = omega arith
counted_below (suc m) j =
    elim (dec_lt m j) [
      | yes h ↦ rw (lt-ltb m j h) (omega (arith, counted_below m j))
      | no h ↦ rw (le-ltb m j (omega arith)) (omega (arith, counted_below m j))
    ]

counted : (m : ℕ) (f g : ℕ → ℕ) → ((i : ℕ) → i < m → f i ≡ g i) → total m f ≡ total m g
unfolding total
counted zero f g h = refl
counted (suc m) f g h = ap₂ (λ (x y : ℕ). x + y) (counted m f g (λ i l. h i (omega arith))) (h m (omega arith))

-- the powers of ten that a number reaches
module _ (n k : ℕ) (low : 1 ≤ k) (high : n < 10 ^ k) (least : 1 < k → 10 ^ (k - 1) ≤ n) where
  reached : (i : ℕ) → i < k - 1 → 10 ^ (i + 1) ≤ n
  reached i h = let p : 10 ^ (i + 1) ≤ 10 ^ (k - 1) = pow-le-pow_right (omega arith) (omega arith) in omega (arith, least (omega arith))

  missed : (i : ℕ) → k - 1 ≤ i → n < 10 ^ (i + 1)
  missed i h = let p : 10 ^ k ≤ 10 ^ (i + 1) = pow-le-pow_right (omega arith) (omega arith) in omega arith

  tested : (i : ℕ) → leb (10 ^ (i + 1)) n ≡ ltb i (k - 1)
  tested i =
      elim (dec_lt i (k - 1)) [
        | yes h ↦ le-leb (10 ^ (i + 1)) n (reached i h) ∙ sym (lt-ltb i (k - 1) h)
        | no h ↦ let g : k - 1 ≤ i = omega arith in lt-leb (10 ^ (i + 1)) n (missed i g) ∙ sym (le-ltb i (k - 1) g)
      ]

  places_are : k ≤ 20 → k ≡ places n
  unfolding places
  places_are h =
      let e = counted 19 (λ i. choose (leb (10 ^ (i + 1)) n) 1 0) (λ i. choose (ltb i (k - 1)) 1 0) (λ i l. ap (λ (b : Bool). choose b 1 0) (tested i)) in
      omega (arith, e, counted_below 19 (k - 1))

-- ---- what std writes of a number is its text

-- v is all digits of n, the last of them n % 10
abbrev Spelled : ℕ → List ℕ → Type 0
Spelled n v = n < 2 ^ 64 → IsDigitCount 10 1 n (length v) × (v ≡ last_digits 10 (length v) n)

ascii : (d : ℕ) → d < 10 → hex_digit_ascii d ≡ 48 + d
ascii d h = rw (lt-ltb d 10 h)

spelled_one : (n : ℕ) → n < 10 → Spelled n ((48 + n) ∷ [])
spelled_one n h l = ((omega arith, omega arith, λ z. absurd (omega arith)), let e : n % 10 ≡ n = omega arith in rw (e, ascii n h))

reaches : (n k : ℕ) → 10 ≤ n → 1 ≤ k → (1 < k → 10 ^ (k - 1) ≤ n / 10) → 10 ^ k ≤ n
reaches n k h l f =
    elim (ℕ_discrete k 1) [
      | yes e ↦ rw e (omega arith)
      | no e ↦ let j : k ≡ suc (k - 1) = omega arith in let p : 10 ^ k ≡ 10 * 10 ^ (k - 1) = ap (λ (i : ℕ). 10 ^ i) j ∙ pow-succ' 10 (k - 1) in omega (arith, f (omega arith))
    ]

one_more : (n k : ℕ) → 10 ≤ n → IsDigitCount 10 1 (n / 10) k → IsDigitCount 10 1 n (suc k)
one_more n k h f =
    let e : suc k - 1 ≡ k = omega arith in
    let p : 10 ^ suc k ≡ 10 * 10 ^ k = pow-succ' 10 k in
    (omega arith, omega (arith, f.1), λ z. subst (λ (i : ℕ). 10 ^ i ≤ n) (sym e) (reaches n k h f.0 f.2))

spelled_more : (n : ℕ) (v : List ℕ) → 10 ≤ n → Spelled (n / 10) v → Spelled n (v ++ ((48 + n % 10) ∷ []))
spelled_more n v h f l =
    let g : n / 10 < 2 ^ 64 = omega arith in
    let k = f g in
    let e : length (v ++ ((48 + n % 10) ∷ [])) ≡ suc (length v) = omega (arith, length-append v ((48 + n % 10) ∷ [])) in
    rw e (one_more n (length v) h k.0, rw (ascii (n % 10) (omega arith)) (ap (λ (s : List ℕ). s ++ ((48 + n % 10) ∷ [])) k.1))

pub decimal_text : (n : ℕ) → n < 2 ^ 64 → decimal n ≡ text n
unfolding text
decimal_text n h =
    let k = decimal_by_steps Spelled spelled_one spelled_more n h h in
    let l : length (decimal n) ≤ 20 = length-decimal-le 20 n (omega arith) (omega arith) h in
    k.1 ∙ ap (λ (j : ℕ). last_digits 10 j n) (places_are n (length (decimal n)) k.0.0 k.0.1 k.0.2 l)

-- ---- no text of a number is longer than 20 digits

last_length : (b k n : ℕ) → length (last_digits b k n) ≡ k
last_length b zero n = refl
last_length b (suc k) n = omega (arith, length-append (last_digits b k (n / b)) (hex_digit_ascii (n % b) ∷ []), last_length b k (n / b))

chosen_few : (m : ℕ) (t : ℕ → Bool) → total m (λ i. choose (t i) 1 0) ≤ m
unfolding total
chosen_few zero t = omega arith
chosen_few (suc m) t = go (t m) (chosen_few m t)
  where
    go : (b : Bool) → total m (λ i. choose (t i) 1 0) ≤ m → total m (λ i. choose (t i) 1 0) + choose b 1 0 ≤ suc m
    go true h = omega arith
    go false h = omega arith

pub text_short : (n : ℕ) → length (text n) ≤ 20
unfolding text places
text_short n = omega (arith, last_length 10 (places n) n, chosen_few 19 (λ i. leb (10 ^ (i + 1)) n))
