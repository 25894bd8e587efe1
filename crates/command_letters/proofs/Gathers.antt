-- Letters put in one after the other: of a list, of a form, of all forms of a table.
use mathlib.Core.Path.{◌≡◌, refl, sym, ap, ◌∙◌}
use mathlib.Core.Bool.{Bool, true, false, ◌||◌}
use mathlib.Core.List.{List, [], ◌∷◌}
use Prim.Native.Nat.{ℕ, suc, ◌+◌, ◌-◌, ◌≤◌, ◌<◌}
use native.Mathlib.Numerals.{add-one}
use native.Mathlib.Omega.{arith}
use lib.Dec.{eqb, ltb}
use lib.ListN.{length, get_or, take, drop, length-append, length-drop, take-append-drop, drop_of_length-le}
use lib.Seq.{take_at, drop_at, drop-drop, drop-cons, length-take-le}
use borrow.Author.Tests.{eqb-true}
use Rattle.std.specs.Prelude.{if◌then◌else◌}
use Rattle.rules.specs.Base.{contains}
use Rattle.command_letters.specs.Gather.{put_in, put_all, HasRoom, Holds, Inserted}

-- ---- what stands at the start of a slice
module _ (o : List ℕ) (n more : ℕ) (g : HasRoom o n more) where
  pub holds_first : Holds o (take n o) o n
  holds_first = record {
    words = sym (take-append-drop n o);
    count = sym (length-take-le n o (omega (arith, g.room)));
    fits = omega (arith, g.room);
    rising = g.rising;
  }

module _ (o w o' : List ℕ) (n : ℕ) (z : Holds o w o' n) where
  pub holds_front : take n o' ≡ w
  holds_front = ap (λ (l : List ℕ). take n l) z.words ∙ take_at w (drop n o) n (sym z.count)

  pub holds_long : length o' ≡ length o
  holds_long = ap length z.words ∙ omega (arith, length-append w (drop n o), length-drop n o, z.count, z.fits)

  pub holds_room : (more : ℕ) → n + more ≤ length o → HasRoom o' n more
  holds_room more h = record { rising = rw holds_front z.rising; room = omega (arith, holds_long) }

  -- the rest stays as it was
  rest_same : (m : ℕ) → n ≤ m → drop m o' ≡ drop m o
  rest_same m h =
      let e : m ≡ n + (m - n) = omega arith in
      rw e (sym (drop-drop (m - n) n o') ∙ ap (λ (l : List ℕ). drop (m - n) l) behind ∙ drop-drop (m - n) n o)
    where
      behind : drop n o' ≡ drop n o
      behind = ap (λ (l : List ℕ). drop n l) z.words ∙ drop_at w (drop n o) n (sym z.count)

  -- and so it is after more was put in
  pub holds_next : (w' o'' : List ℕ) (m : ℕ) → Holds o' w' o'' m → n ≤ m → Holds o w' o'' m
  holds_next w' o'' m y h = record {
    words = y.words ∙ rw (rest_same m h);
    count = y.count;
    fits = omega (arith, y.fits, holds_long);
    rising = y.rising;
  }

-- ---- how many, and which
put_least : (x : ℕ) (s : List ℕ) → length s ≤ length (put_in x s)
unfolding put_in
put_least x [] = omega arith
put_least x (y ∷ s) = go (put_least x s) (ltb y x) (eqb y x)
  where
    go : length s ≤ length (put_in x s) → (b d : Bool)
        → suc (length s) ≤ length (if b then y ∷ put_in x s else (if d then y ∷ s else x ∷ y ∷ s))
    go h true d = omega arith
    go h false true = omega arith
    go h false false = omega arith

put_most : (x : ℕ) (s : List ℕ) → length (put_in x s) ≤ suc (length s)
unfolding put_in
put_most x [] = omega arith
put_most x (y ∷ s) = go (put_most x s) (ltb y x) (eqb y x)
  where
    go : length (put_in x s) ≤ suc (length s) → (b d : Bool)
        → length (if b then y ∷ put_in x s else (if d then y ∷ s else x ∷ y ∷ s)) ≤ suc (suc (length s))
    go h true d = omega arith
    go h false true = omega arith
    go h false false = omega arith

pub put_contains : (x : ℕ) (s : List ℕ) (c : ℕ) → contains (put_in x s) c ≡ (eqb x c || contains s c)
unfolding put_in contains
put_contains x [] c = refl
put_contains x (y ∷ s) c = go (put_contains x s c) (ltb y x) (eqb y x) refl
  where
    swap : (p q r : Bool) → (p || (q || r)) ≡ (q || (p || r))
    swap true true r = refl
    swap true false r = refl
    swap false q r = refl

    twice : (p r : Bool) → (p || r) ≡ (p || (p || r))
    twice true r = refl
    twice false r = refl

    go : contains (put_in x s) c ≡ (eqb x c || contains s c) → (b d : Bool) → eqb y x ≡ d
        → contains (if b then y ∷ put_in x s else (if d then y ∷ s else x ∷ y ∷ s)) c ≡ (eqb x c || (eqb y c || contains s c))
    go h true d e = rw h (swap (eqb y c) (eqb x c) (contains s c))
    go h false true e = rw (eqb-true y x e) (twice (eqb x c) (contains s c))
    go h false false e = refl

pub either_first : (p q r : Bool) → (p || (q || r)) ≡ (q || p || r)
either_first true true r = refl
either_first true false r = refl
either_first false true r = refl
either_first false false r = refl

pub all_contains : (xs s : List ℕ) (c : ℕ) → contains (put_all xs s) c ≡ (contains xs c || contains s c)
unfolding put_all contains
all_contains [] s c = refl
all_contains (x ∷ xs) s c =
    all_contains xs (put_in x s) c ∙ rw (put_contains x s c) (either_first (contains xs c) (eqb x c) (contains s c))

-- ---- `insert_all`
-- the letters below k are in
pub record Inserting (o₀ : List ℕ) (n : ℕ) (xs o : List ℕ) (m k : ℕ) : Type 0 where
  pub letters : List ℕ
  pub holds : Holds o₀ letters o m
  pub same : put_all (drop k xs) letters ≡ put_all xs (take n o₀)
  pub most : m ≤ n + k
  pub least : n ≤ m
  pub passed : k ≤ length xs
  pub long : length o ≡ length o₀

pub inserting_first : (o : List ℕ) (n : ℕ) (xs : List ℕ) → HasRoom o n (length xs) → Inserting o n xs o n 0
inserting_first o n xs g = record {
  letters = take n o;
  holds = holds_first o n (length xs) g;
  same = refl;
  most = omega arith;
  least = omega arith;
  passed = omega arith;
  long = refl;
}

module _ (o₀ : List ℕ) (n : ℕ) (xs : List ℕ) (g : HasRoom o₀ n (length xs)) (o : List ℕ) (m k : ℕ) (z : Inserting o₀ n xs o m k) where
  pub inserting_room : k < length xs → HasRoom o m 1
  inserting_room h = holds_room o₀ z.letters o m z.holds 1 (omega (arith, g.room, z.most))

  pub inserting_next :
      k < length xs → (x : ℕ) → x ≡ get_or xs k 0 → (o' : List ℕ) (r : ℕ) → Holds o (put_in x (take m o)) o' r → Inserting o₀ n xs o' r (k + 1)
  unfolding put_all
  inserting_next h x e o' r y =
      let front : take m o ≡ z.letters = holds_front o₀ z.letters o m z.holds in
      let next : Holds o (put_in x z.letters) o' r = rw front at y in
      let least : m ≤ r = omega (arith, put_least x z.letters, next.count, z.holds.count) in
      let step : drop k xs ≡ x ∷ drop (suc k) xs = rw e (drop-cons xs k 0 h) in
      record {
        letters = put_in x z.letters;
        holds = holds_next o₀ z.letters o m z.holds (put_in x z.letters) o' r next least;
        same = rw (add-one k) (rw step at z.same);
        most = omega (arith, put_most x z.letters, next.count, z.holds.count, z.most);
        least = omega (arith, z.least);
        passed = omega arith;
        long = holds_long o (put_in x z.letters) o' r next ∙ z.long;
      }

  pub inserting_last : length xs ≤ k → Inserted o₀ n xs o m
  unfolding put_all
  inserting_last h =
      let all : z.letters ≡ put_all xs (take n o₀) = rw (drop_of_length-le xs {i = k} h) at z.same in
      record { holds = rw all at z.holds; least = z.least; most = omega (arith, z.most, z.passed) }
