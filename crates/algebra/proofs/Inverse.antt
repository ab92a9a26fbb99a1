-- The inverse of 1 + x^b for each odd prime p up to 61 and each b below it: all 482 words by one computed test.
-- Assumes nothing.
use Prim.Native.Nat.{ℕ, suc, ◌+◌, ◌-◌, ◌%◌, ◌^◌, ◌<◌}
use mathlib.Core.Bool.{Bool, ◌&&◌}
use mathlib.Core.Path.{◌≡◌}
use lib.Dec.{T, ltb, eqb, eqb→eq, ltb→lt}
use Rattle.laws.proofs.Choose.{implied, below_at, and_left, and_right}
use Rattle.laws.specs.Bit.{bit, weight}
use Rattle.laws.specs.Choose.{implies, below}
use Rattle.algebra.specs.Divide.{evens, inv}
use Rattle.algebra.specs.Prime.{odd_prime}

-- the word u and its turn by b differ at suc i
unfoldable pub differs : ℕ → ℕ → ℕ → ℕ → Bool
differs n b u i = eqb (bit u (suc i) + bit u ((suc i + (suc n - b)) % suc n)) 1

-- the word u and its turn by b differ at each place below p = suc n but 0; u is of even weight, and below 2 ^ p
unfoldable pub rule_of : ℕ → ℕ → ℕ → Bool
rule_of n b u =
    (eqb (bit u 0) (bit u ((0 + (suc n - b)) % suc n)) && below n (differs n b u))
    && (eqb (weight u (suc n) % 2) 0 && ltb u (2 ^ suc n))

-- at the prime suc n and each b = suc c below it
unfoldable pub rules_below : ℕ → Bool
rules_below n = below n (λ c. rule_of n (suc c) (inv (suc n) (suc c)))

all_rules : T (below 61 (λ n. implies (odd_prime (suc n)) (rules_below n)))
unfolding bit evens inv implies below odd_prime weight differs rule_of rules_below
all_rules = tt

-- w is the inverse of 1 + x^b on even lanes of the period suc n
pub record Inverts (n b : ℕ) (w : ℕ → ℕ) : Type 0 where
  pub at_zero : w 0 ≡ w ((0 + (suc n - b)) % suc n)
  pub at_suc : (i : ℕ) → i < n → w (suc i) + w ((suc i + (suc n - b)) % suc n) ≡ 1

pub record Word (n b u : ℕ) : Type 0 where
  pub inverts : Inverts n b (bit u)
  pub even_weight : weight u (suc n) % 2 ≡ 0
  pub fits : u < 2 ^ suc n

word_of : (n b u : ℕ) → T (rule_of n b u) → Word n b u
unfolding rule_of differs
word_of n b u t =
    let zero_right : Bool = eqb (bit u 0) (bit u ((0 + (suc n - b)) % suc n)) in
    let rest_right : Bool = below n (differs n b u) in
    let even : Bool = eqb (weight u (suc n) % 2) 0 in
    let low : Bool = ltb u (2 ^ suc n) in
    let l = and_left (zero_right && rest_right) (even && low) t in
    let r = and_right (zero_right && rest_right) (even && low) t in
    record {
      inverts = record {
        at_zero = eqb→eq _ _ (and_left zero_right rest_right l);
        at_suc = λ i h. eqb→eq _ _ (below_at (differs n b u) n (and_right zero_right rest_right l) i h);
      };
      even_weight = eqb→eq _ _ (and_left even low r);
      fits = ltb→lt _ _ (and_right even low r);
    }

pub word : (n c : ℕ) → n < 61 → T (odd_prime (suc n)) → c < n → Word n (suc c) (inv (suc n) (suc c))
unfolding rules_below
word n c h p k =
    word_of n (suc c) (inv (suc n) (suc c))
    (below_at (λ d. rule_of n (suc d) (inv (suc n) (suc d))) n (implied _ _ (below_at (λ m. implies (odd_prime (suc m)) (rules_below m)) 61 all_rules n h) p) c k)
