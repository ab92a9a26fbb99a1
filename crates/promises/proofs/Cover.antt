-- Every byte of an image lies in its head, a revision, a count, a data strip or a parity strip; images that agree in these are one.
-- Assumes nothing.
use Prim.Native.Nat.{ℕ, zero, suc, ◌+◌, ◌-◌, ◌*◌, ◌/◌, ◌%◌, ◌<◌, ◌≤◌, ◌^◌}
use mathlib.Core.List.{List}
use mathlib.Core.Path.{◌≡◌, refl, sym, subst, ◌∙◌, ap}
use native.Mathlib.Decide.{dec_lt}
use native.Mathlib.Nat.{div-lt_iff_lt-mul, mod-lt, div-add-mod'}
use native.Mathlib.Omega.{arith}
use lib.Arith.{digits_mod, digits_div}
use lib.ListN.{length, get_or}
use lib.Seq.{ext_get_or}
use Rattle.laws.proofs.Rows.{row_in}
use Rattle.stripe.specs.Layout.{rows, revision_at, data_count_at, data_from, strip_at, parity_count_at, parity_from, parity_strip_at, image_length, revision_of, data_byte, parity_byte}
use Rattle.stripe.specs.Params.{Admitted}
use Rattle.stripe.specs.declared.Params.{Params}
use Rattle.promises.specs.Demand3.{RevisionBytes}

-- a place among c columns of n rows of b bytes
pub record Cell (c n b y : ℕ) : Type 0 where
  pub column : ℕ
  pub row : ℕ
  pub offset : ℕ
  pub column_in : column < c
  pub row_in : row < n
  pub offset_in : offset < b
  pub place : y ≡ column * (n * b) + row * b + offset

pub cell_of : (c n b y : ℕ) → 0 < n → 0 < b → y < c * (n * b) → Cell c n b y
cell_of c n b y hn hb h =
    let pos : 0 < n * b = omega (arith, row_in 0 n b hn) in
    record {
      column = y / (n * b);
      row = y % (n * b) / b;
      offset = y % (n * b) % b;
      column_in = (div-lt_iff_lt-mul pos).1 h;
      row_in = (div-lt_iff_lt-mul hb).1 (mod-lt y pos);
      offset_in = mod-lt (y % (n * b)) hb;
      place = omega (arith, div-add-mod' y (n * b), div-add-mod' (y % (n * b)) b);
    }

-- where a byte of the image lies
pub data Lies (q : Params) (o : ℕ) : Type 0 where
  in_head : o < 12 → Lies q o
  at_revision : (i m : ℕ) → i < q.k → m < 4 → o ≡ revision_at i + m → Lies q o
  at_data_count : data_count_at q ≤ o → o < data_from q → Lies q o
  at_strip : (i t x : ℕ) → i < q.k → t < rows q → x < q.b → o ≡ strip_at q i t + x → Lies q o
  at_parity_count : parity_count_at q ≤ o → o < parity_from q → Lies q o
  at_parity : (j t x : ℕ) → j < q.r → t < rows q → x < q.b → o ≡ parity_strip_at q j t + x → Lies q o

pub lies : (q : Params) → Admitted q → (o : ℕ) → o < image_length q → Lies q o
lies q a o h = go (dec_lt o 12) (dec_lt o (data_count_at q)) (dec_lt o (data_from q)) (dec_lt o (parity_count_at q)) (dec_lt o (parity_from q))
  where
    strip : data_from q ≤ o → o < parity_count_at q → Lies q o
    strip l m =
        let c : Cell q.k (rows q) q.b (o - data_from q) = cell_of q.k (rows q) q.b (o - data_from q) (omega arith) (omega arith) (omega arith) in
        at_strip c.column c.row c.offset c.column_in c.row_in c.offset_in (omega (arith, c.place))

    parity : parity_from q ≤ o → Lies q o
    parity l =
        let c : Cell q.r (rows q) q.b (o - parity_from q) = cell_of q.r (rows q) q.b (o - parity_from q) (omega arith) (omega arith) (omega arith) in
        at_parity c.column c.row c.offset c.column_in c.row_in c.offset_in (omega (arith, c.place))

    go : Dec (o < 12) → Dec (o < data_count_at q) → Dec (o < data_from q) → Dec (o < parity_count_at q) → Dec (o < parity_from q) → Lies q o
    go (yes e) d2 d3 d4 d5 = in_head e
    go (no e) (yes f) d3 d4 d5 = at_revision ((o - 12) / 4) ((o - 12) % 4) (omega arith) (omega arith) (omega arith)
    go (no e) (no f) (yes g) d4 d5 = at_data_count (omega arith) g
    go (no e) (no f) (no g) (yes i) d5 = strip (omega arith) i
    go (no e) (no f) (no g) (no i) (yes j) = at_parity_count (omega arith) j
    go (no e) (no f) (no g) (no i) (no j) = parity (omega arith)

-- bytes are decided by their number
two : (m a b w x : ℕ) → a < m → w < m → a + m * b ≡ w + m * x → (a ≡ w) × (b ≡ x)
two m a b w x ha hw e =
    let f : b * m + a ≡ x * m + w = omega arith in
    (sym (digits_mod b ha) ∙ ap (λ (n : ℕ). n % m) f ∙ digits_mod x hw, sym (digits_div b ha) ∙ ap (λ (n : ℕ). n / m) f ∙ digits_div x hw)

four : (a b c d w x y z : ℕ) → a < 256 → b < 256 → c < 256 → w < 256 → x < 256 → y < 256
    → a + 256 * b + 65536 * (c + 256 * d) ≡ w + 256 * x + 65536 * (y + 256 * z) → (a ≡ w) × (b ≡ x) × (c ≡ y) × (d ≡ z)
four a b c d w x y z ha hb hc hw hx hy e =
    let p = two 256 a (b + 256 * (c + 256 * d)) w (x + 256 * (y + 256 * z)) ha hw (omega arith) in
    let q = two 256 b (c + 256 * d) x (y + 256 * z) hb hx p.1 in
    let r = two 256 c d y z hc hy q.1 in
    (p.0, q.0, r.0, r.1)

-- the four bytes of revision i are bytes
abbrev pub Small : List ℕ → ℕ → Type 0
Small s i = (m : ℕ) → m < 4 → get_or s (revision_at i + m) 0 < 256

pub revision_bytes : (s u : List ℕ) (i : ℕ) → Small s i → Small u i → revision_of s i ≡ revision_of u i
    → (m : ℕ) → m < 4 → get_or s (revision_at i + m) 0 ≡ get_or u (revision_at i + m) 0
revision_bytes s u i hs hu e = go
  where
    at : ℕ
    at = revision_at i

    first : (l : List ℕ) → Small l i → get_or l at 0 < 256
    first l h = let z : at + 0 ≡ at = omega arith in subst (λ (k : ℕ). get_or l k 0 < 256) z (h 0 (omega arith))

    all : (get_or s at 0 ≡ get_or u at 0) × (get_or s (at + 1) 0 ≡ get_or u (at + 1) 0) × (get_or s (at + 2) 0 ≡ get_or u (at + 2) 0) × (get_or s (at + 2 + 1) 0 ≡ get_or u (at + 2 + 1) 0)
    all =
        four (get_or s at 0) (get_or s (at + 1) 0) (get_or s (at + 2) 0) (get_or s (at + 2 + 1) 0) (get_or u at 0) (get_or u (at + 1) 0) (get_or u (at + 2) 0) (get_or u (at + 2 + 1) 0)
        (first s hs) (hs 1 (omega arith)) (hs 2 (omega arith)) (first u hu) (hu 1 (omega arith)) (hu 2 (omega arith)) e

    move : (a b : ℕ) → a ≡ b → get_or s a 0 ≡ get_or u a 0 → get_or s b 0 ≡ get_or u b 0
    move a b f g = subst (λ (k : ℕ). get_or s k 0 ≡ get_or u k 0) f g

    go : (m : ℕ) → m < 4 → get_or s (at + m) 0 ≡ get_or u (at + m) 0
    go zero l = move at (at + 0) (omega arith) all.0
    go (suc zero) l = move (at + 1) (at + 1) refl all.1
    go (suc (suc zero)) l = move (at + 2) (at + 2) refl all.2
    go (suc (suc (suc zero))) l = move (at + 2 + 1) (at + 3) (omega arith) all.3
    go (suc (suc (suc (suc m)))) l = absurd (omega arith)

-- two images that agree in head, counts, revisions, data and parity
pub images_same : (s u : List ℕ) (q : Params) → Admitted q → length s ≡ image_length q → length u ≡ image_length q
    → ((i : ℕ) → i < q.k → Small s i) → ((i : ℕ) → i < q.k → Small u i)
    → ((o : ℕ) → o < 12 → get_or s o 0 ≡ get_or u o 0)
    → ((o : ℕ) → data_count_at q ≤ o → o < data_from q → get_or s o 0 ≡ get_or u o 0)
    → ((o : ℕ) → parity_count_at q ≤ o → o < parity_from q → get_or s o 0 ≡ get_or u o 0)
    → ((i : ℕ) → i < q.k → revision_of s i ≡ revision_of u i)
    → ((i t x : ℕ) → i < q.k → t < rows q → x < q.b → data_byte s q i t x ≡ data_byte u q i t x)
    → ((j t x : ℕ) → j < q.r → t < rows q → x < q.b → parity_byte s q j t x ≡ parity_byte u q j t x) → s ≡ u
images_same s u q a ls lu hs hu head first second revised strips parities =
    ext_get_or 0 s u (ls ∙ sym lu) (λ o h. go o (lies q a o (omega (arith, ls))))
  where
    go : (o : ℕ) → Lies q o → get_or s o 0 ≡ get_or u o 0
    go o (in_head h) = head o h
    go o (at_revision i m h l e) = rw e (revision_bytes s u i (hs i h) (hu i h) (revised i h) m l)
    go o (at_data_count h l) = first o h l
    go o (at_strip i t x hi ht hx e) = rw e (strips i t x hi ht hx)
    go o (at_parity_count h l) = second o h l
    go o (at_parity j t x hj ht hx e) = rw e (parities j t x hj ht hx)

revision_lt : (s : List ℕ) (i : ℕ) → Small s i → revision_of s i < 2 ^ 32
revision_lt s i h =
    let z : revision_at i + 0 ≡ revision_at i = omega arith in
    let y : revision_at i + 3 ≡ revision_at i + 2 + 1 = omega arith in
    omega (arith, subst (λ (k : ℕ). get_or s k 0 < 256) z (h 0 (omega arith)), h 1 (omega arith), h 2 (omega arith), subst (λ (k : ℕ). get_or s k 0 < 256) y (h 3 (omega arith)))

pub small_at : (s : List ℕ) (q : Params) → RevisionBytes s q → (i : ℕ) → i < q.k → Small s i
small_at s q b i h m l = b (revision_at i + m) (omega arith) (omega arith)

pub bytes_revision : (s : List ℕ) (q : Params) → RevisionBytes s q → (i : ℕ) → i < q.k → revision_of s i < 2 ^ 32
bytes_revision s q b i h = revision_lt s i (small_at s q b i h)
