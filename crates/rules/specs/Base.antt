-- Lists, and lookups and differences that can fail, as the other files use them.
use Rattle.std.specs.Prelude.{Bool, true, false, ◌&&◌, ◌||◌, List, [], ◌∷◌, ◌++◌, ℕ, zero, suc, ◌+◌, ◌-◌, leb, eqb, length, take, drop}
use Rattle.std.proofs.Math.Option.{Option, some, none}
use Rattle.std.specs.Prelude.{if◌then◌else◌}

unfoldable pub null : {A : Type 0} → List A → Bool
null [] = true
null (x ∷ xs) = false

unfoldable pub all : {A : Type 0} → (A → Bool) → List A → Bool
all p [] = true
all p (x ∷ xs) = p x && all p xs

unfoldable pub contains : List ℕ → ℕ → Bool
contains [] x = false
contains (y ∷ ys) x = eqb y x || contains ys x

unfoldable pub same : List ℕ → List ℕ → Bool
same [] [] = true
same [] (y ∷ ys) = false
same (x ∷ xs) [] = false
same (x ∷ xs) (y ∷ ys) = eqb x y && same xs ys

unfoldable pub occurrences : ℕ → List ℕ → ℕ
occurrences x [] = 0
occurrences x (y ∷ ys) = if eqb x y then suc (occurrences x ys) else occurrences x ys

-- n numbers from k on
unfoldable pub numbers : ℕ → ℕ → List ℕ
numbers zero k = []
numbers (suc n) k = k ∷ numbers n (suc k)

unfoldable pub concat_map : {A B : Type 0} → (A → List B) → List A → List B
concat_map f [] = []
concat_map f (x ∷ xs) = f x ++ concat_map f xs

-- the first element that is not as it must be, by its number
unfoldable pub first_fault : {A : Type 0} → (A → Bool) → ℕ → List A → Option ℕ
first_fault good k [] = none
first_fault good k (x ∷ xs) = if good x then first_fault good (suc k) xs else some k

unfoldable pub is_some : {A : Type 0} → Option A → Bool
is_some none = false
is_some (some a) = true

infixl 20 ◌>>?◌
unfoldable pub ◌>>?◌ : {A B : Type 0} → Option A → (A → Option B) → Option B
none >>? f = none
some a >>? f = f a

-- The Rust's `a - b`, `l[i] = x`, `l[a..]` and `l[a..b]`: none where the Rust would panic
unfoldable pub minus : ℕ → ℕ → Option ℕ
minus a b = if leb b a then some (a - b) else none

unfoldable pub write : List ℕ → ℕ → ℕ → Option (List ℕ)
write [] i x = none
write (y ∷ ys) zero x = some (x ∷ ys)
write (y ∷ ys) (suc i) x = elim (write ys i x) [ none ↦ none | some l ↦ some (y ∷ l) ]

unfoldable pub slice_from : {A : Type 0} → ℕ → List A → Option (List A)
slice_from a l = if leb a (length l) then some (drop a l) else none

unfoldable pub slice : {A : Type 0} → ℕ → ℕ → List A → Option (List A)
slice a b l = if leb a b && leb b (length l) then some (take (b - a) (drop a l)) else none
