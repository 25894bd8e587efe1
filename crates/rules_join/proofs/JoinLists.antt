-- Laws of lists of which one stands behind another, and is mapped.
use mathlib.Core.Bool.{Bool, true, false, ◌&&◌}
use mathlib.Core.List.{List, [], ◌∷◌, ◌++◌, map}
use mathlib.Core.Option
use mathlib.Core.Option.{Option, some, none}
use mathlib.Core.Path.{◌≡◌, refl, ap, ◌∙◌}
use Prim.Native.Nat.{ℕ, zero, suc, ◌+◌, ◌-◌, ◌≤◌, ◌<◌}
use native.Mathlib.Omega.{arith}
use lib.Dec.{leb, eqb}
use lib.ListN.{length, take, drop, get_elem?, length-append, length-drop, length-map}
use lib.Seq.{take-append-le, drop-append-le, drop-append-add}
use borrow.Author.Tests.{le-leb, lt-leb, leb-true, leb-false, eq-eqb, ne_eqb, eqb-true, eqb-false}
use Rattle.std.specs.Prelude.{if◌then◌else◌}
use Rattle.rules.specs.Base.{null, all, occurrences, concat_map, ◌>>?◌, slice}
use Rattle.rules.specs.Demands.{All}
use Rattle.rules.proofs.Acceptance.{if_true, both, slice_some}

-- ---- maps
module _ {A B : Type 0} (f : A → B) where
  pub map-append : (l m : List A) → map f (l ++ m) ≡ map f l ++ map f m
  map-append [] m = refl
  map-append (a ∷ l) m = ap (λ (r : List B). f a ∷ r) (map-append l m)

  pub lookup_map : (l : List A) (i : ℕ) → get_elem? (map f l) i ≡ Option.map f (get_elem? l i)
  lookup_map [] i = refl
  lookup_map (a ∷ l) zero = refl
  lookup_map (a ∷ l) (suc i) = lookup_map l i

  take_map : (n : ℕ) (l : List A) → take n (map f l) ≡ map f (take n l)
  take_map zero l = refl
  take_map (suc n) [] = refl
  take_map (suc n) (a ∷ l) = ap (λ (r : List B). f a ∷ r) (take_map n l)

  drop_map : (n : ℕ) (l : List A) → drop n (map f l) ≡ map f (drop n l)
  drop_map zero l = refl
  drop_map (suc n) [] = refl
  drop_map (suc n) (a ∷ l) = drop_map n l

  pub null_map : (l : List A) → null (map f l) ≡ null l
  unfolding null
  null_map [] = refl
  null_map (a ∷ l) = refl

  pub all_map : (p : B → Bool) (q : A → Bool) → ((a : A) → p (f a) ≡ q a) → (l : List A) → all p (map f l) ≡ all q l
  unfolding all
  all_map p q h [] = refl
  all_map p q h (a ∷ l) = rw (h a, all_map p q h l)

  pub concat_mapped : {C : Type 0} (p : B → List C) (q : A → List C) → ((a : A) → p (f a) ≡ q a) → (l : List A) → concat_map p (map f l) ≡ concat_map q l
  unfolding concat_map
  concat_mapped p q h [] = refl
  concat_mapped p q h (a ∷ l) = rw (h a, concat_mapped p q h l)

  -- what is tested or made of something that is mapped
  pub if_map :
      (t : Bool) (u v : Option A) {w y : Option B}
      → (t ≡ true → w ≡ Option.map f u)
      → (t ≡ false → y ≡ Option.map f v)
      → (if t then w else y) ≡ Option.map f (if t then u else v)
  if_map true u v g h = g refl
  if_map false u v g h = h refl

pub bind_map :
    {A B C D : Type 0} (f : A → B) (e : C → D) (g : B → Option D) (h : A → Option C) (o : Option A)
    → ((a : A) → o ≡ some a → g (f a) ≡ Option.map e (h a))
    → (Option.map f o >>? g) ≡ Option.map e (o >>? h)
unfolding ◌>>?◌
bind_map f e g h none same = refl
bind_map f e g h (some a) same = same a refl

pub bind_alike :
    {A C D : Type 0} (e : C → D) (g : A → Option D) (h : A → Option C) (o : Option A)
    → ((a : A) → g a ≡ Option.map e (h a))
    → (o >>? g) ≡ Option.map e (o >>? h)
unfolding ◌>>?◌
bind_alike e g h none same = refl
bind_alike e g h (some a) same = same a

-- ---- parts
pub part_first : {A : Type 0} (i n : ℕ) (l m : List A) → i + n ≤ length l → take n (drop i (l ++ m)) ≡ take n (drop i l)
part_first i n l m h = rw (drop-append-le i l m (omega arith)) (take-append-le n (drop i l) m (omega (arith, length-drop i l)))

pub leb_behind : (k i j : ℕ) → leb (k + i) (k + j) ≡ leb i j
leb_behind k i j = go (leb i j) refl
  where
    go : (t : Bool) → leb i j ≡ t → leb (k + i) (k + j) ≡ t
    go true e = le-leb (k + i) (k + j) (omega (arith, leb-true i j e))
    go false e = lt-leb (k + i) (k + j) (omega (arith, leb-false i j e))

eqb_behind : (k i j : ℕ) → eqb (k + i) (k + j) ≡ eqb i j
eqb_behind k i j = go (eqb i j) refl
  where
    go : (t : Bool) → eqb i j ≡ t → eqb (k + i) (k + j) ≡ t
    go true e = eq-eqb (k + i) (k + j) (omega (arith, eqb-true i j e))
    go false e = ne_eqb (k + i) (k + j) (λ s. eqb-false i j e (omega arith))

pub slice_behind :
    {A : Type 0} (l m : List A) (i n : ℕ)
    → slice (length l + i) (length l + i + n) (l ++ m) ≡ slice i (i + n) m
unfolding slice
slice_behind l m i n =
    let k = length l in
    let size : k + i + n - (k + i) ≡ i + n - i = omega arith in
    let end : k + i + n ≡ k + (i + n) = omega arith in
    rw (size, drop-append-add l m i, length-append l m, end, leb_behind k i (i + n), leb_behind k (i + n) (length m))

pub slice_first : {A : Type 0} (i n : ℕ) (l m s : List A) → slice i (i + n) l ≡ some s → slice i (i + n) (l ++ m) ≡ some s
unfolding slice
slice_first {A} i n l m s e =
    let (low, inside, part) = slice_some i (i + n) l e in
    let size : i + n - i ≡ n = omega arith in
    let more = length-append l m in
    let same : take (i + n - i) (drop i (l ++ m)) ≡ take (i + n - i) (drop i l) = rw size (part_first i n l m inside) in
    if_true _ _ none (both (le-leb i (i + n) low) (le-leb (i + n) (length (l ++ m)) (omega arith)))
    ∙ ap {B = Option (List A)} some (same ∙ part)

pub slice_map : {A B : Type 0} (f : A → B) (i j : ℕ) (l : List A) → slice i j (map f l) ≡ Option.map (map f) (slice i j l)
unfolding slice
slice_map f i j l =
    rw (length-map l f, drop_map f i l, take_map f (j - i) (drop i l))
    (if_map (map f) (leb i j && leb j (length l)) (some (take (j - i) (drop i l))) none (λ e. refl) (λ e. refl))

-- ---- how often a number occurs
pub occurs_append : (k : ℕ) (l m : List ℕ) → occurrences k (l ++ m) ≡ occurrences k l + occurrences k m
unfolding occurrences
occurs_append k [] m = omega arith
occurs_append k (i ∷ l) m = let h = occurs_append k l m in go (eqb k i) h
  where
    go :
        (t : Bool)
        → occurrences k (l ++ m) ≡ occurrences k l + occurrences k m
        → (if t then suc (occurrences k (l ++ m)) else occurrences k (l ++ m)) ≡ (if t then suc (occurrences k l) else occurrences k l) + occurrences k m
    go true h = omega arith
    go false h = h

-- numbers that moved up by n
module _ (n : ℕ) where
  pub occurs_behind : (k : ℕ) (l : List ℕ) → occurrences (n + k) (map (λ i. n + i) l) ≡ occurrences k l
  unfolding occurrences
  occurs_behind k [] = refl
  occurs_behind k (i ∷ l) = rw (eqb_behind n k i, occurs_behind k l)

  pub occurs_not_behind : (k : ℕ) (l : List ℕ) → k < n → occurrences k (map (λ i. n + i) l) ≡ 0
  unfolding occurrences
  occurs_not_behind k [] h = refl
  occurs_not_behind k (i ∷ l) h = rw (ne_eqb k (n + i) (λ e. omega arith)) (occurs_not_behind k l h)

  pub occurs_not_before : (k : ℕ) (l : List ℕ) → All (λ (i : ℕ). i < n) l → n ≤ k → occurrences k l ≡ 0
  unfolding occurrences
  occurs_not_before k [] a h = refl
  occurs_not_before k (i ∷ l) a h = rw (ne_eqb k i (λ e. omega (arith, a.0))) (occurs_not_before k l a.1 h)
