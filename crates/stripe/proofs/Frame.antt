-- What an accepted image is, and what leaves it accepted.
-- Assumes nothing.
use Prim.Native.Nat.{ℕ, ◌+◌, ◌<◌, ◌≤◌}
use mathlib.Core.List.{List}
use mathlib.Core.Path.{◌≡◌, refl, sym, ap, ◌∙◌}
use native.Mathlib.Omega.{arith}
use lib.Dec.{leb, eqb, ltb, T, leb→le}
use lib.ListN.{length, get_or}
use borrow.Author.Tests.{le-leb, ltb-false, eqb-true}
use Rattle.std.specs.Prelude.{Result, Ok, Err}
use Rattle.laws.proofs.Choose.{and_left, and_right, true_T, T_true, choose_yes, choose_no}
use Rattle.laws.specs.Number.{u16}
use Rattle.laws.specs.Patch.{Patched}
use Rattle.algebra.proofs.Prime.{prime_three}
use Rattle.algebra.specs.Prime.{odd_prime}
use Rattle.refusal.specs.declared.Refusal.{Refusal}
use Rattle.refusal.specs.declared.Refusal.TheVariants.{Cut, Tail, Count, Prime, Shape, Strip}
use Rattle.stripe.proofs.Laws.{shape_is}
use Rattle.stripe.proofs.Readings.{sections_read, whole}
use Rattle.stripe.specs.Layout.{data_count_at, data_from, parity_count_at, parity_from, image_length}
use Rattle.stripe.specs.Params.{admitted_prime, admitted_shape, admitted_strip, checked_of, Admitted}
use Rattle.stripe.specs.Reading.{sections_of, with_params, read_of, Image}
use Rattle.stripe.specs.declared.Params.{Params}

-- ---- sound parameters

shown : (p k r b : ℕ) → T (admitted_prime p) → T (admitted_shape p k r) → T (admitted_strip b) → Admitted (record { p = p; k = k; r = r; b = b })
unfolding admitted_prime admitted_strip
shown p k r b x y z =
    let o = and_left (odd_prime p) _ x in
    let n = shape_is p k r y in
    record {
      prime = o;
      p_low = prime_three p o;
      p_high = leb→le p 61 (and_right (odd_prime p) _ x);
      k_low = n.k_low;
      r_low = n.r_low;
      fits = n.fits;
      b_low = leb→le 1 b (and_left (leb 1 b) _ z);
      b_high = leb→le b 512 (and_right (leb 1 b) _ z);
    }

module _ (p k r b : ℕ) (v : Result Params Refusal) (q : Params) (e : v ≡ checked_of p k r b) (f : v ≡ Ok q) where
  not_refused : (n : Refusal) → v ≡ Err n → ⊥
  not_refused n g = let z : ◌≡◌ {A = ℕ} 0 1 = cc in omega arith

  tested : T (admitted_prime p) × T (admitted_shape p k r) × T (admitted_strip b) × (q ≡ record { p = p; k = k; r = r; b = b })
  unfolding checked_of
  tested =
      let x = choose_yes (admitted_prime p) _ _ v (not_refused Prime) e in
      let y = choose_yes (admitted_shape p k r) _ _ v (not_refused Shape) x.1 in
      let z = choose_yes (admitted_strip b) _ _ v (not_refused Strip) y.1 in
      (true_T _ x.0, true_T _ y.0, true_T _ z.0, cc)

  pub checked_params : q ≡ record { p = p; k = k; r = r; b = b }
  checked_params = tested.3

  pub checked_admitted : Admitted q
  checked_admitted = rw checked_params (shown p k r b tested.0 tested.1 tested.2)

pub admitted_checked : (q : Params) → Admitted q → Ok q ≡ checked_of q.p q.k q.r q.b
unfolding checked_of admitted_prime admitted_shape admitted_strip
admitted_checked q a =
    simp (T_true (odd_prime q.p) a.prime, le-leb q.p 61 a.p_high, le-leb 1 q.k a.k_low, le-leb 1 q.r a.r_low, le-leb (q.k + q.r) q.p a.fits, le-leb 1 q.b a.b_low, le-leb q.b 512 a.b_high)

-- ---- accepted images

not_unread : (q : Params) (w : Result Params Refusal) → w ≡ Ok q → (n : Refusal) → w ≡ Err n → ⊥
not_unread q w e n f = let z : ◌≡◌ {A = ℕ} 0 1 = cc in omega arith

sections_image : (s : List ℕ) (q h : Params) (w : Result Params Refusal) → w ≡ Ok q → Admitted h → u16 s 0 ≡ 4
    → u16 s 2 ≡ h.p → u16 s 4 ≡ h.k → u16 s 6 ≡ h.r → u16 s 8 ≡ h.b → w ≡ sections_of s h → Image s q
unfolding sections_of
sections_image s q h w f o m np nk nr nb e =
    let n = not_unread q w f in
    let a = choose_no (ltb (length s) (image_length h)) _ _ w (n Cut) e in
    let b = choose_no (ltb (image_length h) (length s)) _ _ w (n Tail) a.1 in
    let c = choose_yes (eqb (u16 s 10) h.k) _ _ w (n Count) b.1 in
    let d = choose_yes (eqb (u16 s (data_count_at h)) h.k) _ _ w (n Count) c.1 in
    let g = choose_yes (eqb (u16 s (parity_count_at h)) h.r) _ _ w (n Count) d.1 in
    let i : q ≡ h = cc in
    rw i (record {
      admitted = o;
      four = m;
      p_at = np;
      k_at = nk;
      r_at = nr;
      b_at = nb;
      len = omega (arith, ltb-false (length s) (image_length h) a.0, ltb-false (image_length h) (length s) b.0);
      k_first = eqb-true _ _ c.0;
      k_again = eqb-true _ _ d.0;
      r_there = eqb-true _ _ g.0;
    })

with_image : (s : List ℕ) (q : Params) (v : Result Params Refusal) (w : Result Params Refusal) → w ≡ Ok q → u16 s 0 ≡ 4 → v ≡ checked_of (u16 s 2) (u16 s 4) (u16 s 6) (u16 s 8) → w ≡ with_params s v → Image s q
unfolding with_params
with_image s q (Ok h) w f m e g =
    let i = checked_params (u16 s 2) (u16 s 4) (u16 s 6) (u16 s 8) (Ok h) h e refl in
    sections_image s q h w f (checked_admitted (u16 s 2) (u16 s 4) (u16 s 6) (u16 s 8) (Ok h) h e refl) m
    (sym (ap (λ (x : Params). x.p) i)) (sym (ap (λ (x : Params). x.k) i)) (sym (ap (λ (x : Params). x.r) i)) (sym (ap (λ (x : Params). x.b) i)) g
with_image s q (Err n) w f m e g = absurd (not_unread q w f n g)

pub read_image : (s : List ℕ) (q : Params) (w : Result Params Refusal) → w ≡ read_of s → w ≡ Ok q → Image s q
unfolding read_of
read_image s q w e f =
    let n = not_unread q w f in
    let a = choose_no (ltb (length s) 2) _ _ w (n Cut) e in
    let b = choose_yes (eqb (u16 s 0) 4) _ _ w (n Count) a.1 in
    let c = choose_no (ltb (length s) 10) _ _ w (n Cut) b.1 in
    with_image s q _ w f (eqb-true _ _ b.0) refl c.1

pub image_read : (s : List ℕ) (q : Params) → Image s q → Ok q ≡ read_of s
image_read s q i =
    sections_read s (u16 s 0) refl i.four (omega arith) (Ok q) (rw (i.p_at, i.k_at, i.r_at, i.b_at) (admitted_checked q i.admitted)) q (Ok q) refl
    (whole s q (image_length q) refl (omega arith) (omega arith) (u16 s 10) refl i.k_first
    (u16 s (data_count_at q)) (data_count_at q) refl refl i.k_again (u16 s (parity_count_at q)) (parity_count_at q) refl refl i.r_there)

-- ---- what leaves an image accepted

number_kept : (s t : List ℕ) (at v : ℕ) → ((o : ℕ) → at ≤ o → o < at + 2 → get_or t o 0 ≡ get_or s o 0) → u16 s at ≡ v → u16 t at ≡ v
number_kept s t at v same e = omega (arith, same at (omega arith) (omega arith), same (at + 1) (omega arith) (omega arith))

-- the bytes of every count and parameter are the same
pub image_same : (s t : List ℕ) (q : Params) → Image s q → length t ≡ length s
    → ((o : ℕ) → o < 12 → get_or t o 0 ≡ get_or s o 0)
    → ((o : ℕ) → data_count_at q ≤ o → o < data_from q → get_or t o 0 ≡ get_or s o 0)
    → ((o : ℕ) → parity_count_at q ≤ o → o < parity_from q → get_or t o 0 ≡ get_or s o 0) → Image t q
image_same s t q i l front middle back = record {
  admitted = i.admitted;
  four = number_kept s t 0 _ (λ o a b. front o (omega arith)) i.four;
  p_at = number_kept s t 2 _ (λ o a b. front o (omega arith)) i.p_at;
  k_at = number_kept s t 4 _ (λ o a b. front o (omega arith)) i.k_at;
  r_at = number_kept s t 6 _ (λ o a b. front o (omega arith)) i.r_at;
  b_at = number_kept s t 8 _ (λ o a b. front o (omega arith)) i.b_at;
  len = l ∙ i.len;
  k_first = number_kept s t 10 _ (λ o a b. front o (omega arith)) i.k_first;
  k_again = number_kept s t (data_count_at q) _ (λ o a b. middle o a (omega arith)) i.k_again;
  r_there = number_kept s t (parity_count_at q) _ (λ o a b. back o a (omega arith)) i.r_there;
}

module _ (s t : List ℕ) (q : Params) (at n : ℕ) (f : ℕ → ℕ) (i : Image s q) (d : Patched s t at n f) where
  -- a patch of revisions, of data, of parity
  pub image_revised : 12 ≤ at → at + n ≤ data_count_at q → Image t q
  image_revised l h =
      image_same s t q i d.len (λ o g. d.below o (omega arith)) (λ o g k. d.above o (omega arith)) (λ o g k. d.above o (omega arith))

  pub image_data : data_from q ≤ at → at + n ≤ parity_count_at q → Image t q
  image_data l h =
      image_same s t q i d.len (λ o g. d.below o (omega arith)) (λ o g k. d.below o (omega arith)) (λ o g k. d.above o (omega arith))

  pub image_parity : parity_from q ≤ at → Image t q
  image_parity l =
      image_same s t q i d.len (λ o g. d.below o (omega arith)) (λ o g k. d.below o (omega arith)) (λ o g k. d.below o (omega arith))
