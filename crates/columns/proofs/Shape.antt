-- An image by its sections: which of its bytes lie where, and that an accepted image of bytes is written out from its own sections.
-- Assumes nothing.
use Prim.Native.Nat.{ℕ, zero, suc, ◌+◌, ◌*◌, ◌/◌, ◌%◌, ◌<◌, ◌≤◌}
use mathlib.Core.List.{List, [], ◌++◌, append_assoc, append-nil}
use mathlib.Core.Path.{◌≡◌, refl, sym, ap, ◌∙◌}
use native.Mathlib.Omega.{arith}
use lib.ListN.{length, get_or, drop, drop_of_length-le}
use lib.Seq.{ext_get_or}
use Rattle.laws.proofs.Part.{length_part, get_or_part}
use Rattle.laws.proofs.Tab.{get_or_tab}
use Rattle.laws.specs.Number.{byte, u16}
use Rattle.laws.specs.Part.{part}
use Rattle.stripe.proofs.Images.{cut_at, length_sixteen}
use Rattle.stripe.specs.Layout.{column_length, data_count_at, data_from, parity_count_at, parity_from, image_length}
use Rattle.stripe.specs.Reading.{Image}
use Rattle.stripe.specs.Sections.{sixteen, image_of, revisions_in, columns_in, parities_in}
use Rattle.stripe.specs.declared.Params.{Params}

-- ---- an image of bytes, cut where its sections begin

-- two bytes are those of their number
two_bytes : (s : List ℕ) (at v : ℕ) → ((o : ℕ) → get_or s o 0 < 256) → at + 2 ≤ length s → u16 s at ≡ v → part s at 2 ≡ sixteen v
two_bytes s at v small h e =
    ext_get_or 0 (part s at 2) (sixteen v) (l ∙ sym (length_sixteen v)) (λ x g. at_byte x (omega (arith, l)))
  where
    l : length (part s at 2) ≡ 2
    l = length_part s at 2 h

    low : get_or (part s at 2) 0 0 ≡ v / 1 % 256
    low =
        let z : at + 0 ≡ at = omega arith in
        get_or_part s at 2 0 (omega arith) ∙ ap (λ (o : ℕ). get_or s o 0) z ∙ omega (arith, small at, small (at + 1))

    high : get_or (part s at 2) 1 0 ≡ v / 256 % 256
    high = get_or_part s at 2 1 (omega arith) ∙ omega (arith, small at, small (at + 1))

    at_byte : (x : ℕ) → x < 2 → get_or (part s at 2) x 0 ≡ get_or (sixteen v) x 0
    at_byte zero g = low ∙ sym (get_or_tab 2 (byte v) 0 (omega arith))
    at_byte (suc zero) g = high ∙ sym (get_or_tab 2 (byte v) 1 (omega arith))
    at_byte (suc (suc x)) g = absurd (omega arith)

cut_number : (s : List ℕ) (at to v : ℕ) → ((o : ℕ) → get_or s o 0 < 256) → at + 2 ≡ to → to ≤ length s → u16 s at ≡ v → drop at s ≡ sixteen v ++ drop to s
cut_number s at to v small e h f = cut_at s at 2 to e ∙ ap (λ (x : List ℕ). x ++ drop to s) (two_bytes s at v small (omega arith) f)

pub image_is : (s : List ℕ) (q : Params) → Image s q → ((o : ℕ) → get_or s o 0 < 256) → s ≡ image_of q (revisions_in s q) (columns_in s q) (parities_in s q)
unfolding image_of
image_is s q i small =
    let l = i.len in
    let a0 : drop 0 s ≡ sixteen 4 ++ drop 2 s = cut_number s 0 2 4 small refl (omega arith) i.four in
    let a1 = cut_number s 2 4 q.p small refl (omega arith) i.p_at in
    let a2 = cut_number s 4 6 q.k small refl (omega arith) i.k_at in
    let a3 = cut_number s 6 8 q.r small refl (omega arith) i.r_at in
    let a4 = cut_number s 8 10 q.b small refl (omega arith) i.b_at in
    let a5 = cut_number s 10 12 q.k small refl (omega arith) i.k_first in
    let b1 = cut_at s 12 (4 * q.k) (data_count_at q) refl in
    let a6 = cut_number s (data_count_at q) (data_from q) q.k small (omega arith) (omega arith) i.k_again in
    let b2 = cut_at s (data_from q) (q.k * column_length q) (parity_count_at q) refl in
    let a7 = cut_number s (parity_count_at q) (parity_from q) q.r small (omega arith) (omega arith) i.r_there in
    let b3 = cut_at s (parity_from q) (q.r * column_length q) (image_length q) (omega arith) in
    let z : drop (image_length q) s ≡ [] = drop_of_length-le s {i = image_length q} (omega arith) in
    a0 ∙ rw (a1, a2, a3, a4, a5, b1, a6, b2, a7, b3, z) (simp (append_assoc, append-nil))
