-- "The comparison follows RFC 1982 serial numbers of 32 bits": the age of a base is what the RFC's two inequalities say of it, and unclear where they say
-- nothing.
-- Assumes nothing.
use Rattle.std.proofs.Common.{◌≡◌, ℕ, ◌-◌, ◌^◌, ◌<◌, Bool, true, false, ltb, ◌⊎◌, sym, refl, ap, inl, inr, arith, ltb-false, ltb-true, eq-eqb}
use Rattle.revision.proofs.Circle.{Lies, level, behind, half, ahead, lies, judge_current, judged_current, older_exactly, newer_exactly, unclear_exactly, age_told}
use Rattle.revision.specs.Revision.{distance, judged, age_number, age_distance, is_current, Behind, HalfApart, DistanceTold}
use Rattle.revision.specs.Serial.{LessThan, GreaterThan, Undefined, FollowsRFC1982, SerialTold, Antisymmetric}
use Rattle.revision.specs.declared.Age.TheVariants.{Unclear}

-- ---- the RFC's inequalities, by renewals

-- one inequality is the other, read from the other side
swapped : (i1 i2 : ℕ) → GreaterThan i1 i2 → LessThan i2 i1
swapped i1 i2 (e, inl h) = (λ z. e (sym z), inr h)
swapped i1 i2 (e, inr h) = (λ z. e (sym z), inl h)

swapped_back : (i1 i2 : ℕ) → LessThan i2 i1 → GreaterThan i1 i2
swapped_back i1 i2 (e, inl h) = (λ z. e (sym z), inr h)
swapped_back i1 i2 (e, inr h) = (λ z. e (sym z), inl h)

module _ (n b : ℕ) (hn : n < 2 ^ 32) (hb : b < 2 ^ 32) where
  less_behind : LessThan b n → Behind n b (distance n b)
  unfolding distance
  less_behind (e, inl (l, m)) = record { some = omega arith; most = omega arith; renewals = omega arith }
  less_behind (e, inr (l, m)) = record { some = omega arith; most = omega arith; renewals = omega arith }

  behind_less : (d : ℕ) → Behind n b d → LessThan b n
  behind_less d h = (λ z. omega (arith, h.some, h.most, h.renewals), go (ltb b n) refl)
    where
      go : (x : Bool) → ltb b n ≡ x → ((b < n) × (n - b < 2 ^ 31)) ⊎ ((n < b) × (2 ^ 31 < b - n))
      go true e = inl (ltb-true b n e, omega (arith, h.most, h.renewals))
      go false e = let l = ltb-false b n e in inr (omega (arith, h.some, h.most, h.renewals), omega (arith, h.some, h.most, h.renewals))

-- ---- the comparison

module _ (n b : ℕ) (hn : n < 2 ^ 32) (hb : b < 2 ^ 32) where
  half_undefined : HalfApart n b → Undefined b n
  half_undefined h = record {
    not_equal = λ e. omega (arith, e, h);
    not_greater = λ g. let z = less_behind b n hb hn (swapped b n g) in omega (arith, z.some, z.most, z.renewals, h);
    not_less = λ l. let z = less_behind n b hn hb l in omega (arith, z.some, z.most, z.renewals, h);
  }

  undefined_unclear : Undefined b n → Lies n b → judged n b ≡ Unclear
  undefined_unclear u (level z j) = absurd (u.not_equal (sym ((judged_current n b hn hb).0 (ap is_current j))))
  undefined_unclear u (behind l m j) = absurd (u.not_less (behind_less n b hn hb _ ((older_exactly n b hn hb _).0 j)))
  undefined_unclear u (half z j) = j
  undefined_unclear u (ahead l j) = absurd (u.not_greater (swapped_back b n (behind_less b n hb hn _ ((newer_exactly n b hn hb _).0 j))))

  pub follows_rfc_1982 : FollowsRFC1982 n b (judged n b)
  unfolding distance
  follows_rfc_1982 = record {
    current = (λ e. sym ((judged_current n b hn hb).0 (ap is_current e)), λ e. sym (judge_current n b (distance n b) refl (omega (arith, e))));
    older = (λ (d, e). behind_less n b hn hb d ((older_exactly n b hn hb d).0 e), λ l. (_, (older_exactly n b hn hb _).1 (less_behind n b hn hb l)));
    newer = (
      λ (d, e). swapped_back b n (behind_less b n hb hn d ((newer_exactly n b hn hb d).0 e)),
      λ g. (_, (newer_exactly n b hn hb _).1 (less_behind b n hb hn (swapped b n g))),
    );
    unclear = (λ e. half_undefined ((unclear_exactly n b hn hb).0 e), λ u. undefined_unclear u (lies n b));
  }

  pub serial_told : SerialTold n b (age_number (judged n b))
  serial_told =
      let said : DistanceTold n b (age_number (judged n b)) (age_distance (judged n b)) = age_told n b hn hb in
      record {
        accepted = (λ e. sym ((judged_current n b hn hb).0 (eq-eqb (age_number (judged n b)) 0 e)), λ e. ap age_number (follows_rfc_1982.current.1 e));
        stale = (λ e. behind_less n b hn hb _ (said.stale e), λ l. ap age_number (follows_rfc_1982.older.1 l).1);
        ahead = (λ e. swapped_back b n (behind_less b n hb hn _ (said.ahead e)), λ g. ap age_number (follows_rfc_1982.newer.1 g).1);
        unclear = (λ e. half_undefined (said.unclear e), λ u. ap age_number (follows_rfc_1982.unclear.1 u));
      }

half_turned : (n b : ℕ) → b < 2 ^ 32 → HalfApart n b → HalfApart b n
half_turned n b hb h = omega (arith, h)

-- n against b is older by d exactly when b against n is newer by d
pub antisymmetric : (n b : ℕ) → n < 2 ^ 32 → b < 2 ^ 32 → Antisymmetric n b
antisymmetric n b hn hb = record {
  older = λ d. (
    λ e. (newer_exactly b n hb hn d).1 ((older_exactly n b hn hb d).0 e),
    λ e. (older_exactly n b hn hb d).1 ((newer_exactly b n hb hn d).0 e),
  );
  unclear = (
    λ e. (unclear_exactly b n hb hn).1 (half_turned n b hb ((unclear_exactly n b hn hb).0 e)),
    λ e. (unclear_exactly n b hn hb).1 (half_turned b n hn ((unclear_exactly b n hb hn).0 e)),
  );
}
