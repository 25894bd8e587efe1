-- Laws of the definition. First the form that the code follows, in which the first byte fixes the row; then what holds of every
-- character, and of the bytes behind it.
use Rattle.std.specs.Prelude.{◌≡◌, Bool, true, false, ◌&&◌, ◌||◌, Option, Some, None, ℕ, zero, suc, ◌+◌, ◌-◌, ◌*◌, ◌/◌, ◌%◌, ◌^◌, ◌≤◌, ◌<◌, leb, ltb, eqb, length, get_or, take, if◌then◌else◌}
use Rattle.std.proofs.Math.Path.{refl, ap}
use Rattle.std.proofs.Common.{sym, ◌∙◌, zero-le, suc-le-suc, add-zero, add_assoc, mod-eq_of_lt, div-mul-le_self, le-div_iff_mul-le, le_trans, arith, lit<, length-drop, drop_of_length-le}
use Rattle.std.proofs.Common.{pow_pos, length-take-le, drop-drop, get_or-drop, ltb-true, leb-true, eqb-true, le-leb, le-ltb}
use Rattle.std.proofs.Math.Bool.{and-false, and-eq-true_iff}
use Rattle.std.proofs.lemmas.Bool.{false≢true}
use mathlib.Core.List.{List, [], ◌∷◌, ◌++◌, map, append-nil}
use Rattle.std.proofs.Math.Nat.{div-add-mod}
use Rattle.std.proofs.Math.Numerals.{add-one}
use Rattle.std.proofs.Math.ListN.{drop}
use Rattle.std.proofs.lemmas.List.{length-map}
use Rattle.std.proofs.Math.Seq.{drop-cons}
use Rattle.utf8.specs.declared.Char.{Char}
use Rattle.utf8.specs.Utf8.{Range, ◌to◌, table, holds, fits, lead_bits, continued, scalar, decode_by, decode, decode_at, if_char, well_formed_after, well_formed}

-- ---- ranges

pub inside : (lo hi b : ℕ) → lo ≤ b → b ≤ hi → holds (lo to hi) b ≡ true
unfolding holds
inside lo hi b h l = rw (le-leb lo b h, le-leb b hi l)

pub bounds : (lo hi b : ℕ) → holds (lo to hi) b ≡ true → (lo ≤ b) × (b ≤ hi)
unfolding holds
bounds lo hi b e = let p = (and-eq-true_iff (leb lo b) (leb b hi)).0 e in (leb-true lo b p.0, leb-true b hi p.1)

-- two ranges with no byte in common
unfoldable pub apart : Range → Range → Bool
apart (a to e) (lo to hi) = ltb hi a || ltb e lo

apart_none : (r q : Range) (b : ℕ) → apart r q ≡ true → holds r b ≡ true → holds q b ≡ false
unfolding apart
apart_none (a to e) (lo to hi) b p h = go (holds (lo to hi) b) refl
  where
    go : (t : Bool) → holds (lo to hi) b ≡ t → t ≡ false
    go false k = refl
    go true k =
        let x = bounds a e b h in
        let y = bounds lo hi b k in
        let l : lo ≤ e = omega arith in
        let m : a ≤ hi = omega arith in
        sym (rw (le-ltb hi a m, le-ltb e lo l) at p)

-- ---- the first byte fixes the row

-- the character by the ranges that follow the first byte in its row
unfoldable pub after_lead : List Range → ℕ → List ℕ → Option Char
after_lead rs b s =
    if fits rs s then Some (record { value = scalar (b ∷ take (length rs) s); size = suc (length rs) }) else None

-- no row of these begins with a byte of r
unfoldable pub free : Range → List (List Range) → Bool
free r [] = true
free r ([] ∷ rows) = false
free r ((q ∷ rs) ∷ rows) = apart r q && free r rows

module _ (r : Range) (b : ℕ) (s : List ℕ) (h : holds r b ≡ true) where
  passed : (before rows : List (List Range)) → free r before ≡ true → decode_by (before ++ rows) (b ∷ s) ≡ decode_by rows (b ∷ s)
  unfolding free decode_by fits
  passed [] rows e = refl
  passed ([] ∷ before) rows e = absurd (false≢true e)
  passed ((q ∷ rs) ∷ before) rows e =
      let p = (and-eq-true_iff (apart r q) (free r before)).0 e in
      rw (apart_none r q b p.0 h) (passed before rows p.1)

  -- the k-th row of the table is the only one that begins with a byte of r
  pub by_row :
      (k : ℕ) (rs : List Range)
      → table ≡ take k table ++ ((r ∷ rs) ∷ drop (suc k) table)
      → free r (take k table) ≡ true
      → free r (drop (suc k) table) ≡ true
      → decode (b ∷ s) ≡ after_lead rs b s
  unfolding decode decode_by fits after_lead
  by_row k rs e before after =
      ap (λ (rows : List (List Range)). decode_by rows (b ∷ s)) e
      ∙ passed (take k table) ((r ∷ rs) ∷ drop (suc k) table) before
      ∙ rw (h, ← append-nil (drop (suc k) table), passed (drop (suc k) table) [] after)

  -- no row of the table begins with a byte of r
  pub by_none : free r table ≡ true → decode (b ∷ s) ≡ None
  unfolding decode decode_by
  by_none e = rw (← append-nil table) (passed table [] e)

pub ascii : (b : ℕ) (s : List ℕ) → b < 0x80 → decode (b ∷ s) ≡ Some (record { value = b; size = 1 })
unfolding table free apart after_lead fits scalar continued lead_bits
ascii b s h =
    by_row (0x00 to 0x7F) b s (inside 0x00 0x7F b (omega arith) (omega arith)) 0 [] refl refl refl
    ∙ ap (λ (v : ℕ). let c : Char = record { value = v; size = 1 } in Some c) (mod-eq_of_lt h)

-- bytes that are missing may be taken for 0, which stands only at the first place of a row
padded : (b : ℕ) (s : List ℕ) → decode (b ∷ s) ≡ decode (b ∷ get_or s 0 0 ∷ get_or s 1 0 ∷ get_or s 2 0 ∷ [])
unfolding decode decode_by table fits holds
padded b [] = simp and-false
padded b (x ∷ []) = simp and-false
padded b (x ∷ y ∷ []) = simp and-false
padded b (x ∷ y ∷ z ∷ s) = refl

module _ (s : List ℕ) (at : ℕ) where
  pub decode_end : length s ≤ at → decode_at s at ≡ None
  unfolding decode_at decode decode_by table fits
  decode_end h = rw (drop_of_length-le s h)

  pub decode_cons : at < length s → decode_at s at ≡ decode (get_or s at 0 ∷ drop (at + 1) s)
  unfolding decode_at
  decode_cons h = rw (add-one, drop-cons s at 0 h)

  pub decode_ascii : (b : ℕ) → at < length s → b ≡ get_or s at 0 → b < 0x80 → Some (record { value = b; size = 1 }) ≡ decode_at s at
  decode_ascii b h e l = rw (decode_cons h, ← e) (sym (ascii b (drop (at + 1) s) l))

  pub decode_bytes : at < length s → decode_at s at ≡ decode (get_or s at 0 ∷ get_or s (at + 1) 0 ∷ get_or s (at + 2) 0 ∷ get_or s (at + 3) 0 ∷ [])
  decode_bytes h = decode_cons h ∙ padded (get_or s at 0) (drop (at + 1) s) ∙ simp (get_or-drop, add_assoc, add-zero)

-- ---- every character

unfoldable pub surrogates : Range
surrogates = 0xD800 to 0xDFFF

every : {A : Type 0} → (A → Bool) → List A → Bool
every p [] = true
every p (x ∷ xs) = p x && every p xs

low : Range → ℕ
low (lo to hi) = lo

high : Range → ℕ
high (lo to hi) = hi

-- the bits above m are the same in the whole range
level : ℕ → Range → Bool
level m (lo to hi) = eqb (lo / m) (hi / m)

row_level : List Range → Bool
row_level [] = true
row_level (r ∷ rs) = level (2 ^ get_or lead_bits (length rs) 0) r && every (level 64) rs

-- one to four bytes, and values below 0x110000 that are no surrogates
row_good : List Range → Bool
row_good row =
    leb 1 (length row)
    && (leb (length row) 4
    && (row_level row
    && (ltb (scalar (map high row)) 0x110000 && apart (scalar (map low row) to scalar (map high row)) surrogates)))

table_good_lem : every row_good table ≡ true
unfolding table every row_good row_level level scalar continued lead_bits low high apart surrogates
table_good_lem = refl

-- the row that gave a character
record Row (s : List ℕ) (c : Char) : Type 0 where
  row : List Range
  good : row_good row ≡ true
  fit : fits row s ≡ true
  value≡ : c.value ≡ scalar (take (length row) s)
  size≡ : c.size ≡ length row

row_of : (rows : List (List Range)) (s : List ℕ) (c : Char) → every row_good rows ≡ true → decode_by rows s ≡ Some c → Row s c
unfolding every decode_by
row_of [] s c g e = absurd (let z : ◌≡◌ {A = ℕ} 0 1 = cc in omega arith)
row_of (row ∷ rows) s c g e =
    let p = (and-eq-true_iff (row_good row) (every row_good rows)).0 g in
    go (fits row s) refl e p.0 (row_of rows s c p.1)
  where
    go :
        (t : Bool)
        → fits row s ≡ t
        → (if t then Some (record { value = scalar (take (length row) s); size = length row }) else decode_by rows s) ≡ Some c
        → row_good row ≡ true
        → (decode_by rows s ≡ Some c → Row s c)
        → Row s c
    go true f e good later =
        let here : Char = record { value = scalar (take (length row) s); size = length row } in
        let same : c ≡ here = cc in
        record { row = row; good = good; fit = f; value≡ = ap (λ (x : Char). x.value) same; size≡ = ap (λ (x : Char). x.size) same }
    go false f e good later = later e

-- a range in which the higher bits are the same keeps its order in the lower ones
low_bits : (m lo hi b : ℕ) → 0 < m → lo / m ≡ hi / m → lo ≤ b → b ≤ hi → (lo % m ≤ b % m) × (b % m ≤ hi % m)
low_bits m lo hi b p e l h =
    let x : lo / m ≤ b / m = (le-div_iff_mul-le p).1 (le_trans (div-mul-le_self lo m) l) in
    let y : b / m ≤ hi / m = (le-div_iff_mul-le p).1 (le_trans (div-mul-le_self b m) h) in
    let q : b / m ≡ lo / m = omega arith in
    omega (arith, div-add-mod lo m, rw q at (div-add-mod b m), rw (← e) at (div-add-mod hi m))

between :
    (rs : List Range) (s : List ℕ) (u v w : ℕ)
    → fits rs s ≡ true
    → every (level 64) rs ≡ true
    → u ≤ v
    → v ≤ w
    → (continued u (map low rs) ≤ continued v (take (length rs) s)) × (continued v (take (length rs) s) ≤ continued w (map high rs))
unfolding fits every level continued low high
between [] s u v w f l h k = (h, k)
between (r ∷ rs) [] u v w f l h k = absurd (false≢true f)
between ((lo to hi) ∷ rs) (b ∷ s) u v w f l h k =
    let p = (and-eq-true_iff (holds (lo to hi) b) (fits rs s)).0 f in
    let q = (and-eq-true_iff (level 64 (lo to hi)) (every (level 64) rs)).0 l in
    let x = bounds lo hi b p.0 in
    let m = low_bits 64 lo hi b (lit< tt) (eqb-true (lo / 64) (hi / 64) q.0) x.0 x.1 in
    between rs s (u * 64 + lo % 64) (v * 64 + b % 64) (w * 64 + hi % 64) p.1 q.1 (omega arith) (omega arith)

fits_length : (rs : List Range) (s : List ℕ) → fits rs s ≡ true → length rs ≤ length s
unfolding fits
fits_length [] s f = zero-le
fits_length (r ∷ rs) [] f = absurd (false≢true f)
fits_length (r ∷ rs) (b ∷ s) f = suc-le-suc (fits_length rs s ((and-eq-true_iff (holds r b) (fits rs s)).0 f).1)

-- the value is between those of the lower and of the upper ends
scalar_between :
    (row : List Range) (s : List ℕ)
    → fits row s ≡ true
    → row_level row ≡ true
    → (scalar (map low row) ≤ scalar (take (length row) s)) × (scalar (take (length row) s) ≤ scalar (map high row))
unfolding fits row_level level scalar low high
scalar_between [] s f g = (zero-le, zero-le)
scalar_between (r ∷ rs) [] f g = absurd (false≢true f)
scalar_between ((lo to hi) ∷ rs) (b ∷ s) f g =
    let m = 2 ^ get_or lead_bits (length rs) 0 in
    let p = (and-eq-true_iff (holds (lo to hi) b) (fits rs s)).0 f in
    let x = bounds lo hi b p.0 in
    let q = (and-eq-true_iff (level m (lo to hi)) (every (level 64) rs)).0 g in
    let y = low_bits m lo hi b (pow_pos (get_or lead_bits (length rs) 0)) (eqb-true (lo / m) (hi / m) q.0) x.0 x.1 in
    rw (length-map rs low, length-map rs high, length-take-le (length rs) s (fits_length rs s p.1))
    (between rs s (lo % m) (b % m) (hi % m) p.1 q.1 y.0 y.1)

-- a character has one to four bytes, all of them there, and its value is a scalar value: below 0x110000 and no surrogate
pub record Character (s : List ℕ) (at : ℕ) (c : Char) : Type 0 where
  pub some : 1 ≤ c.size
  pub few : c.size ≤ 4
  pub within : at + c.size ≤ length s
  pub bound : c.value < 0x110000
  pub unsurrogate : holds surrogates c.value ≡ false

pub character : (s : List ℕ) (at : ℕ) (c : Char) → decode_at s at ≡ Some c → Character s at c
unfolding decode_at decode row_good
character s at c e =
    let w = row_of table (drop at s) c table_good_lem e in
    let row = w.row in
    let p = (and-eq-true_iff (leb 1 (length row)) _).0 w.good in
    let q = (and-eq-true_iff (leb (length row) 4) _).0 p.1 in
    let x = (and-eq-true_iff (row_level row) _).0 q.1 in
    let y = (and-eq-true_iff (ltb (scalar (map high row)) 0x110000) _).0 x.1 in
    let few = leb-true 1 (length row) p.0 in
    let z = scalar_between row (drop at s) w.fit x.0 in
    let value = w.value≡ in
    let size = w.size≡ in
    record {
      some = omega arith;
      few = omega (arith, leb-true (length row) 4 q.0);
      within = omega (arith, fits_length row (drop at s) w.fit, length-drop at s);
      bound = omega (arith, ltb-true (scalar (map high row)) 0x110000 y.0);
      unsurrogate = apart_none (scalar (map low row) to scalar (map high row)) surrogates c.value y.1 (inside _ _ c.value (omega arith) (omega arith));
    }

-- ---- the bytes behind a character

skipped : (k : ℕ) (s : List ℕ) → well_formed_after k s ≡ well_formed (drop k s)
unfolding well_formed well_formed_after
skipped zero s = refl
skipped (suc k) [] = refl
skipped (suc k) (b ∷ s) = skipped k s

pub well_formed_end : (s : List ℕ) (at : ℕ) → length s ≤ at → well_formed (drop at s) ≡ true
unfolding well_formed well_formed_after
well_formed_end s at h = rw (drop_of_length-le s h)

module _ (s : List ℕ) (at : ℕ) where
  step : at < length s → well_formed (drop at s) ≡ if_char (decode_at s at) (λ size. well_formed_after (size - 1) (drop (at + 1) s))
  unfolding well_formed well_formed_after
  step h = rw (decode_cons s at h, add-one, drop-cons s at 0 h)

  pub well_formed_bad : at < length s → decode_at s at ≡ None → well_formed (drop at s) ≡ false
  well_formed_bad h e = step h ∙ rw e

  -- past a character it is as well-formed as it was
  pub well_formed_char : (c : Char) → decode_at s at ≡ Some c → well_formed (drop at s) ≡ well_formed (drop (at + c.size) s)
  well_formed_char c e =
      let w = character s at c e in
      let some = w.some in
      let within = w.within in
      let past : at + 1 + (c.size - 1) ≡ at + c.size = omega arith in
      step (omega arith) ∙ rw (e, skipped (c.size - 1) (drop (at + 1) s), drop-drop (c.size - 1) (at + 1) s, past)

-- ---- ASCII alone

pub well_formed_ascii : (s : List ℕ) → ((i : ℕ) → i < length s → get_or s i 0 < 0x80) → well_formed s ≡ true
unfolding well_formed well_formed_after
well_formed_ascii [] h = refl
well_formed_ascii (b ∷ s) h = rw (ascii b s (h 0 (suc-le-suc zero-le))) (well_formed_ascii s (λ i l. h (suc i) (suc-le-suc l)))
