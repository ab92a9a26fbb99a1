-- The Cauchy code over even lanes: the laws of the abstract system hold there, and so encoding and solving undo each other.
-- Assumes nothing.
use Prim.Native.Nat.{ℕ, suc, ◌+◌, ◌<◌}
use mathlib.Core.HLevel.{Π_prop, ×_prop, Σ_prop_path}
use mathlib.Core.List.{List, [], ◌∷◌, map}
use mathlib.Core.Path.{◌≡◌, refl, sym, ap, ap₂, ◌∙◌, fun_ext}
use native.Mathlib.Nat.{ℕ_set}
use lib.Dec.{T}
use Rattle.laws.proofs.Sum.{sum_none, sum_add}
use Rattle.laws.proofs.Xor.{⊕_assoc, ⊕_comm, ⊕_self, ⊕_zero}
use Rattle.laws.specs.Sum.{sum}
use Rattle.laws.specs.Xor.{◌⊕◌}
use Rattle.algebra.proofs.Carry.{enc_map, solve_map}
use Rattle.algebra.proofs.Cauchy.{solve_enc, enc_solve}
use Rattle.algebra.proofs.Divide.{divides}
use Rattle.algebra.proofs.Lane.{D_add, D_periodic, D_even, D_sym, D_tri, D_D, act_add, act_periodic, act_even, D_act, act_act}
use Rattle.algebra.specs.Cauchy.{Laws, Same, Distinct, Cross, enc, row, solve}
use Rattle.algebra.specs.Code.{plus, none, Good, encode, decode, All}
use Rattle.algebra.specs.Divide.{quot, over}
use Rattle.algebra.specs.Lane.{D, Apart}
use Rattle.algebra.specs.Prime.{odd_prime}

module _ (n : ℕ) where
  -- parity by parity
  pub encode_map : (xs ys : List ℕ) (ss : List (ℕ → ℕ)) → map (λ (x : ℕ). row plus none (D n) (over n) x ys ss) xs ≡ encode n xs ys ss
  encode_map [] ys ss = refl
  encode_map (x ∷ xs) ys ss = ap (λ (l : List (ℕ → ℕ)). row plus none (D n) (over n) x ys ss ∷ l) (encode_map xs ys ss)

  -- the even lanes
  abbrev Lane : Type 0
  Lane = (f : ℕ → ℕ) × Good n f

  lane_path : (u v : Lane) → ((q : ℕ) → u.0 q ≡ v.0 q) → u ≡ v
  lane_path u v h =
      Σ_prop_path {B = Good n} (λ f. ×_prop (Π_prop (λ q. ℕ_set (f (q + suc n)) (f q))) (ℕ_set (sum (suc n) f) 0)) {u = u} {v = v} (fun_ext h)

  plusᴸ : Lane → Lane → Lane
  plusᴸ u v = (
    plus u.0 v.0,
    (λ q. ap₂ ◌⊕◌ (u.1.0 q) (v.1.0 q), sum_add (suc n) u.0 v.0 ∙ ap₂ ◌⊕◌ u.1.1 v.1.1 ∙ ⊕_self 0),
  )

  noneᴸ : Lane
  noneᴸ = (none, (λ q. refl, sum_none (suc n)))

  Dᴸ : ℕ → ℕ → Lane → Lane
  Dᴸ a b u = (D n a b u.0, (D_periodic n a b u.0 u.1.0, D_even n a b u.0 u.1.0))

  Qᴸ : ℕ → ℕ → Lane → Lane
  Qᴸ a b u = (over n a b u.0, (act_periodic n (quot n a b) u.0 u.1.0, act_even n (quot n a b) u.0 u.1.0 u.1.1))

  laws : n < 61 → T (odd_prime (suc n)) → Laws Lane plusᴸ noneᴸ Dᴸ Qᴸ (Apart (suc n))
  unfolding plusᴸ noneᴸ Dᴸ Qᴸ
  laws small prime =
      record {
        assoc = λ a b c. lane_path _ _ (λ q. ⊕_assoc (a.0 q) (b.0 q) (c.0 q));
        comm = λ a b. lane_path _ _ (λ q. ⊕_comm (a.0 q) (b.0 q));
        unit = λ a. lane_path _ _ (λ q. ⊕_zero (a.0 q));
        self = λ a. lane_path _ _ (λ q. ⊕_self (a.0 q));
        D_add = λ x y a b. lane_path _ _ (D_add n x y a.0 b.0);
        Q_add = λ x y a b. lane_path _ _ (act_add n (quot n x y) a.0 b.0);
        D_D = λ x y z w a. lane_path _ _ (D_D n x y z w a.0);
        D_Q = λ x y z w a. lane_path _ _ (D_act n x y (quot n z w) a.0);
        Q_Q = λ x y z w a. lane_path _ _ (act_act n (quot n x y) (quot n z w) a.0);
        D_sym = λ x y a. lane_path _ _ (D_sym n x y a.0);
        D_tri = λ x y z a. lane_path _ _ (D_tri n x y z a.0);
        D_inv = λ x y a h. lane_path _ _ (divides n small prime x y a.0 h.0 h.1 h.2 a.1.0 a.1.1);
      }

  val : Lane → ℕ → ℕ
  val u = u.0

  lift : (fs : List (ℕ → ℕ)) → All n fs → List Lane
  lift [] h = []
  lift (f ∷ fs) h = (f, h.0) ∷ lift fs h.1

  lift_val : (fs : List (ℕ → ℕ)) (h : All n fs) → map val (lift fs h) ≡ fs
  unfolding lift val
  lift_val [] h = refl
  lift_val (f ∷ fs) h = ap (λ (l : List (ℕ → ℕ)). f ∷ l) (lift_val fs h.1)

  lift_same : (ys : List ℕ) (fs : List (ℕ → ℕ)) (h : All n fs) → Same ys fs → Same ys (lift fs h)
  unfolding lift
  lift_same [] [] h e = tt
  lift_same [] (f ∷ fs) h e = absurd e
  lift_same (y ∷ ys) [] h e = absurd e
  lift_same (y ∷ ys) (f ∷ fs) h e = lift_same ys fs h.1 e

  enc_val : (xs ys : List ℕ) (ss : List Lane) → map val (enc plusᴸ noneᴸ Dᴸ Qᴸ xs ys ss) ≡ encode n xs ys (map val ss)
  unfolding val plusᴸ noneᴸ Dᴸ Qᴸ
  enc_val = enc_map plusᴸ noneᴸ Dᴸ Qᴸ plus none (D n) (over n) val (λ a b. refl) refl (λ x y a. refl) (λ x y a. refl)

  solve_val : (xs ys : List ℕ) (ss : List Lane) → map val (solve plusᴸ noneᴸ Dᴸ Qᴸ xs ys ss) ≡ decode n xs ys (map val ss)
  unfolding val plusᴸ noneᴸ Dᴸ Qᴸ
  solve_val = solve_map plusᴸ noneᴸ Dᴸ Qᴸ plus none (D n) (over n) val (λ a b. refl) refl (λ x y a. refl) (λ x y a. refl)

  pub decode_encode : n < 61 → T (odd_prime (suc n)) → (xs ys : List ℕ) (ss : List (ℕ → ℕ)) → All n ss → Same xs ys → Same ys ss
      → Distinct (Apart (suc n)) xs → Distinct (Apart (suc n)) ys → Cross (Apart (suc n)) xs ys → decode n xs ys (encode n xs ys ss) ≡ ss
  decode_encode small prime xs ys ss g d e p q c =
      let m : List Lane = lift ss g in
      ap (λ (l : List (ℕ → ℕ)). decode n xs ys (encode n xs ys l)) (sym (lift_val ss g))
      ∙ ap (decode n xs ys) (sym (enc_val xs ys m))
      ∙ sym (solve_val xs ys (enc plusᴸ noneᴸ Dᴸ Qᴸ xs ys m))
      ∙ ap (map val) (solve_enc plusᴸ noneᴸ Dᴸ Qᴸ (Apart (suc n)) (laws small prime) xs ys m d (lift_same ys ss g e) p q c)
      ∙ lift_val ss g

  pub encode_decode : n < 61 → T (odd_prime (suc n)) → (xs ys : List ℕ) (Ps : List (ℕ → ℕ)) → All n Ps → Same xs ys → Same xs Ps
      → Distinct (Apart (suc n)) xs → Distinct (Apart (suc n)) ys → Cross (Apart (suc n)) xs ys → encode n xs ys (decode n xs ys Ps) ≡ Ps
  encode_decode small prime xs ys Ps g d e p q c =
      let m : List Lane = lift Ps g in
      ap (λ (l : List (ℕ → ℕ)). encode n xs ys (decode n xs ys l)) (sym (lift_val Ps g))
      ∙ ap (encode n xs ys) (sym (solve_val xs ys m))
      ∙ sym (enc_val xs ys (solve plusᴸ noneᴸ Dᴸ Qᴸ xs ys m))
      ∙ ap (map val) (enc_solve plusᴸ noneᴸ Dᴸ Qᴸ (Apart (suc n)) (laws small prime) xs ys m d (lift_same xs Ps g e) p q c)
      ∙ lift_val Ps g
