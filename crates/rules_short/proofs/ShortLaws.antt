-- Arguments over an alphabet, as their lengths and the places of their bytes.
use mathlib.Core.Bool.{Bool, true, false}
use mathlib.Core.List.{List, [], ◌∷◌, ◌++◌, map, flatten}
use mathlib.Core.Path.{◌≡◌, refl, sym, ap, ap₂, ◌∙◌}
use Prim.Native.Nat.{ℕ, zero, suc, ◌+◌, ◌-◌, ◌≤◌, ◌<◌}
use native.Mathlib.Omega.{arith}
use lib.Dec.{eqb}
use lib.ListN.{length, take, drop, get_or, replicate, length-append, length-take, length-drop, length-replicate}
use lib.ListN.{take-append-drop, replicate-append-replicate}
use lib.Seq.{take-append_seam, drop-append_seam, take-append-le, drop-append-le, take_at, drop_at}
use borrow.Author.Tests.{eqb-true, eqb-false}
use Rattle.std.specs.Prelude.{if◌then◌else◌}
use Rattle.rules.specs.Accept.{index_of}
use Rattle.rules.specs.Demands.{All}
use Rattle.rules.proofs.Acceptance.{All-append, All-split}
use Rattle.rules_short.specs.Short.{lengths, places, parted, letter_at}
use Rattle.rules_short.specs.ShortAnswered.{AlphabetMade, Letter, ArgumentShort, ArgumentsShort}
use Rattle.rules_short.proofs.CountLaws.{Below}

-- ---- a byte and its place
letter_behind : (x : ℕ) (al : List ℕ) (b k : ℕ) → (b ≡ x → ⊥) → k < suc (length al) → get_or (x ∷ al) k 0 ≡ b → Letter al b
letter_behind x al b zero n h e = absurd (n (sym e))
letter_behind x al b (suc k) n h e = record { place = k; below = omega arith; here = e }

pub place_of : (al : List ℕ) (b : ℕ) → Letter al b → (index_of b al < length al) × (letter_at al (index_of b al) ≡ b)
unfolding index_of letter_at
place_of [] b l = absurd (omega (arith, l.below))
place_of (x ∷ al) b l = go (eqb b x) refl (place_of al b)
  where
    go :
        (t : Bool)
        → eqb b x ≡ t
        → (Letter al b → (index_of b al < length al) × (letter_at al (index_of b al) ≡ b))
        → ((if t then 0 else suc (index_of b al)) < suc (length al)) × (get_or (x ∷ al) (if t then 0 else suc (index_of b al)) 0 ≡ b)
    go true e more = (omega arith, sym (eqb-true b x e))
    go false e more = let (h, back) = more (letter_behind x al b l.place (eqb-false b x e) l.below l.here) in (omega arith, back)

module _ (al : List ℕ) (made : AlphabetMade al) where
  pub letter_at_lem : (k : ℕ) → k < length al → Letter al (letter_at al k)
  unfolding letter_at
  letter_at_lem k h = record { place = k; below = h; here = refl }

  pub place_letter : (k : ℕ) → k < length al → index_of (letter_at al k) al ≡ k
  unfolding letter_at
  place_letter k h =
      let (below, back) = place_of al (letter_at al k) (letter_at_lem k h) in
      made.distinct (index_of (letter_at al k) al) k below h back

  -- letters of places, and places of letters
  pub letters_of_lem : (ds : List ℕ) → Below (length al) ds → All (Letter al) (map (letter_at al) ds)
  letters_of_lem [] h = tt
  letters_of_lem (d ∷ ds) h = (letter_at_lem d h.0, letters_of_lem ds h.1)

  pub places_letters : (ds : List ℕ) → Below (length al) ds → map (λ b. index_of b al) (map (letter_at al) ds) ≡ ds
  places_letters [] h = refl
  places_letters (d ∷ ds) h = ap₂ (λ (x : ℕ) (xs : List ℕ). x ∷ xs) (place_letter d h.0) (places_letters ds h.1)

pub letters_places : (al os : List ℕ) → All (Letter al) os → map (letter_at al) (map (λ b. index_of b al) os) ≡ os
letters_places al [] h = refl
letters_places al (b ∷ os) h = ap₂ (λ (x : ℕ) (xs : List ℕ). x ∷ xs) (place_of al b h.0).1 (letters_places al os h.1)

pub places_of_lem : (al os : List ℕ) → All (Letter al) os → Below (length al) (map (λ b. index_of b al) os)
places_of_lem al [] h = tt
places_of_lem al (b ∷ os) h = ((place_of al b h.0).0, places_of_lem al os h.1)

-- ---- arguments and their lengths
pub parted_back : (args : List (List ℕ)) → parted (lengths args) (flatten args) ≡ args
unfolding parted lengths flatten
parted_back [] = refl
parted_back (os ∷ args) =
    rw (take-append_seam os (flatten args), drop-append_seam os (flatten args)) (ap (λ (l : List (List ℕ)). os ∷ l) (parted_back args))

pub parted_same :
    (args : List (List ℕ)) (b : List ℕ)
    → length b ≡ length (flatten args)
    → (flatten (parted (lengths args) b) ≡ b) × (lengths (parted (lengths args) b) ≡ lengths args)
unfolding parted lengths flatten
parted_same [] [] e = (refl, refl)
parted_same [] (x ∷ b) e = absurd (omega arith)
parted_same (os ∷ args) b e =
    let n = length os in
    let long : length b ≡ n + length (flatten args) = e ∙ length-append os (flatten args) in
    let (bytes, sizes) = parted_same args (drop n b) (omega (arith, length-drop n b)) in (
      rw bytes (take-append-drop n b),
      ap₂ (λ (x : ℕ) (xs : List ℕ). x ∷ xs) (length-take n b ∙ omega arith) sizes,
    )

-- bytes behind the last argument do not matter
pub parted_more :
    (args : List (List ℕ)) (b c : List ℕ)
    → length b ≡ length (flatten args)
    → parted (lengths args) (b ++ c) ≡ parted (lengths args) b
unfolding parted lengths flatten
parted_more [] b c e = refl
parted_more (os ∷ args) b c e =
    let n = length os in
    let long : length b ≡ n + length (flatten args) = e ∙ length-append os (flatten args) in
    rw (take-append-le n b c (omega arith), drop-append-le n b c (omega arith))
    (ap (λ (l : List (List ℕ)). take n b ∷ l) (parted_more args (drop n b) c (omega (arith, length-drop n b))))

-- arguments of one byte alone
module _ (x : ℕ) where
  unfoldable pub alike : List ℕ → List (List ℕ)
  alike ns = map (λ n. replicate n x) ns

  pub alike_lengths : (ns : List ℕ) → lengths (alike ns) ≡ ns
  unfolding alike lengths
  alike_lengths [] = refl
  alike_lengths (n ∷ ns) = ap₂ (λ (y : ℕ) (ys : List ℕ). y ∷ ys) (length-replicate n x) (alike_lengths ns)

  pub alike_bytes : (ns : List ℕ) → flatten (alike ns) ≡ replicate (length (flatten (alike ns))) x
  unfolding alike flatten
  alike_bytes [] = refl
  alike_bytes (n ∷ ns) =
      let rest = flatten (alike ns) in
      let long : length (replicate n x ++ rest) ≡ n + length rest = length-append (replicate n x) rest ∙ rw (length-replicate n x) in
      ap (λ (l : List ℕ). replicate n x ++ l) (alike_bytes ns)
      ∙ replicate-append-replicate n (length rest) x
      ∙ ap (λ (k : ℕ). replicate k x) (sym long)

  pub alike_parted : (ns : List ℕ) (m : ℕ) → length (flatten (alike ns)) ≤ m → parted ns (replicate m x) ≡ alike ns
  unfolding alike flatten parted
  alike_parted [] m h = refl
  alike_parted (n ∷ ns) m h =
      let rest = flatten (alike ns) in
      let long : length (replicate n x ++ rest) ≡ n + length rest = length-append (replicate n x) rest ∙ rw (length-replicate n x) in
      let all : m ≡ n + (m - n) = omega arith in
      let more : replicate m x ≡ replicate n x ++ replicate (m - n) x =
      ap (λ (k : ℕ). replicate k x) all ∙ sym (replicate-append-replicate n (m - n) x) in
      rw (
        more,
        take_at (replicate n x) (replicate (m - n) x) n (length-replicate n x),
        drop_at (replicate n x) (replicate (m - n) x) n (length-replicate n x),
      )
      (ap (λ (l : List (List ℕ)). replicate n x ∷ l) (alike_parted ns (m - n) (omega arith)))

  pub alike_empty : (n : ℕ) → alike (replicate n 0) ≡ replicate n []
  unfolding alike
  alike_empty zero = refl
  alike_empty (suc n) = ap (λ (l : List (List ℕ)). [] ∷ l) (alike_empty n)

-- ---- short arguments, as digits
pub record InDigits (al : List ℕ) (args : List (List ℕ)) : Type 0 where
  pub count : length args < 4
  pub sizes : Below 5 (lengths args)
  pub letters : All (Letter al) (flatten args)

module _ (al : List ℕ) where
  each_digits : (args : List (List ℕ)) → All (ArgumentShort al) args → Below 5 (lengths args) × All (Letter al) (flatten args)
  unfolding lengths flatten
  each_digits [] h = (tt, tt)
  each_digits (os ∷ args) h =
      let (sizes, letters) = each_digits args h.1 in
      ((omega (arith, h.0.size), sizes), All-append (Letter al) os (flatten args) h.0.letters letters)

  digits_each : (args : List (List ℕ)) → Below 5 (lengths args) → All (Letter al) (flatten args) → All (ArgumentShort al) args
  unfolding lengths flatten
  digits_each [] p q = tt
  digits_each (os ∷ args) p q =
      let (here, later) = All-split (Letter al) os (flatten args) q in
      (record { size = omega (arith, p.0); letters = here }, digits_each args p.1 later)

  pub short_digits : (args : List (List ℕ)) → ArgumentsShort al args → InDigits al args
  short_digits args h =
      let (sizes, letters) = each_digits args h.each in
      record { count = omega (arith, h.count); sizes = sizes; letters = letters }

  pub digits_short : (args : List (List ℕ)) → InDigits al args → ArgumentsShort al args
  digits_short args h = record { count = omega (arith, h.count); each = digits_each args h.sizes h.letters }

  -- lengths and places tell the arguments
  pub told_by_digits :
      (xs ys : List (List ℕ))
      → All (Letter al) (flatten xs)
      → All (Letter al) (flatten ys)
      → lengths xs ≡ lengths ys
      → places al xs ≡ places al ys
      → xs ≡ ys
  unfolding places
  told_by_digits xs ys p q e f =
      let bytes : flatten xs ≡ flatten ys =
      sym (letters_places al (flatten xs) p) ∙ ap (map (letter_at al)) f ∙ letters_places al (flatten ys) q in
      sym (parted_back xs) ∙ ap₂ parted e bytes ∙ parted_back ys
