-- What acceptance of a form says of its trees.
use mathlib.Core.Bool.{Bool, true, false, not, ◌&&◌, and-eq-true_iff, and-false, false≢true, true≢false}
use mathlib.Core.List.{List, [], ◌∷◌, ◌++◌, map, append_assoc, append-nil}
use mathlib.Core.Logic.{◌⊎◌, inl, inr, ⊎_elim}
use mathlib.Core.Option.{Option, some, none, some-injective, none-ne-some}
use mathlib.Core.Path.{◌≡◌, refl, sym, ◌∙◌, ap, subst}
use Prim.Native.Nat.{ℕ, zero, suc, ◌+◌, ◌-◌, ◌%◌, ◌≤◌, ◌<◌}
use native.Mathlib.Nat.{zero-add, le_refl, eq-or-lt_of_le}
use native.Mathlib.Numerals.{add-one}
use native.Mathlib.Omega.{arith}
use lib.Dec.{leb, eqb}
use lib.ListN.{length, take, drop, get_elem?, length-append}
use borrow.Author.Tests.{eq-eqb, eqb-true, eqb-false, leb-true, not-true}
use Rattle.std.specs.Prelude.{if◌then◌else◌}
use Rattle.rules.specs.Base.{null, all, contains, concat_map, is_some, ◌>>?◌, slice, first_fault, numbers}
use Rattle.rules.specs.Value.{text, number, Kind, BaseValue}
use Rattle.rules.specs.Form.{Node, Name, Form, read_form, name_bytes, one_character, type_good, name_good}
use Rattle.rules.specs.Tree.{Named, Tree, Flag, Argument, Positional, Optional, Many, Some, Count, Last, Choice, Fallback, Guard, kind_of, has_repeat, zeros, names_of, short_of, long_of}
use Rattle.rules.specs.Tree.{named_by, named_of, flag_of, argument_of, position_of, positional_of, fitting, repeat_of, fallback_value, fallback_of, guard_of, child_of, caught_of, choice_of}
use Rattle.rules.specs.Tree.{tree_of}
use Rattle.rules.specs.Accept.{Checked, accepted, refused_at, Accepted, length_good, trees_from, used_once, trees_at, check_use, check_records, check_form}
use Rattle.rules.specs.Demands.{All}
use Rattle.rules.specs.Sound.{Sound, is_named, is_read, well_built}
use Rattle.rules.specs.WellMade.{Unused}

-- ---- accepted and refused
unfoldable pub is_accepted : {A : Type 0} → Checked A → Bool
is_accepted (accepted a) = true
is_accepted (refused_at n k) = false

pub refused_not : {A : Type 0} (n : ℕ) (k : Option ℕ) (a : A) → refused_at n k ≡ accepted a → ⊥
unfolding is_accepted
refused_not n k a e = false≢true (ap is_accepted e)

take_accepted : {A : Type 0} → A → Checked A → A
take_accepted d (accepted a) = a
take_accepted d (refused_at n k) = d

pub accepted_same : {A : Type 0} (a b : A) → accepted a ≡ accepted b → a ≡ b
unfolding take_accepted
accepted_same a b e = ap (take_accepted a) e

-- ---- tests and lookups that gave something
pub if_some : {A : Type 0} (b : Bool) (o : Option A) {t : A} → (if b then o else none) ≡ some t → (b ≡ true) × (o ≡ some t)
if_some true o e = (refl, e)
if_some false o {t} e = absurd (none-ne-some t e)

pub if_not_some : {A : Type 0} (b : Bool) (o : Option A) {t : A} → (if b then none else o) ≡ some t → (b ≡ false) × (o ≡ some t)
if_not_some true o {t} e = absurd (none-ne-some t e)
if_not_some false o e = (refl, e)

-- the branch that was taken
pub branch : {A P : Type 0} (b : Bool) (o u : A) {t : A} → (b ≡ true → o ≡ t → P) → (u ≡ t → P) → (if b then o else u) ≡ t → P
branch true o u f g e = f refl e
branch false o u f g e = g e

pub bind_some : {A B : Type 0} (o : Option A) (g : A → Option B) {t : B} → (o >>? g) ≡ some t → (a : A) × (o ≡ some a) × (g a ≡ some t)
unfolding ◌>>?◌
bind_some none g {t} e = absurd (none-ne-some t e)
bind_some (some a) g e = (a, refl, e)

pub and-true : (a b : Bool) → (a && b) ≡ true → (a ≡ true) × (b ≡ true)
and-true a b e = (and-eq-true_iff a b).0 e

pub zeros_unused : (l : List ℕ) → zeros l ≡ true → Unused l
unfolding zeros all
zeros_unused [] e = tt
zeros_unused (n ∷ l) e =
    let p = and-true (eqb 0 n) (zeros l) e in
    (sym (eqb-true 0 n p.0), zeros_unused l p.1)

-- ---- tests and lookups that give something
pub if_true : {A : Type 0} (b : Bool) (o u : A) → b ≡ true → (if b then o else u) ≡ o
if_true b o u e = rw e

pub if_false : {A : Type 0} (b : Bool) (o u : A) → b ≡ false → (if b then o else u) ≡ u
if_false b o u e = rw e

pub bind_is : {A B : Type 0} (o : Option A) (g : A → Option B) {a : A} → o ≡ some a → (o >>? g) ≡ g a
unfolding ◌>>?◌
bind_is o g e = rw e

pub both : {a b : Bool} → a ≡ true → b ≡ true → (a && b) ≡ true
both {a} {b} e h = rw (e, h)

pub unused_zeros : (l : List ℕ) → Unused l → zeros l ≡ true
unfolding zeros all
unused_zeros [] u = refl
unused_zeros (n ∷ l) u = both (eq-eqb 0 n (sym u.0)) (unused_zeros l u.1)

-- ---- elements by number
pub lookup_inside : {A : Type 0} (l : List A) (i : ℕ) (a : A) → get_elem? l i ≡ some a → i < length l
lookup_inside [] i a e = absurd (none-ne-some a e)
lookup_inside (b ∷ l) zero a e = omega arith
lookup_inside (b ∷ l) (suc i) a e = let h = lookup_inside l i a e in omega arith

pub lookup_more : {A : Type 0} (l m : List A) (i : ℕ) (a : A) → get_elem? l i ≡ some a → get_elem? (l ++ m) i ≡ some a
lookup_more [] m i a e = absurd (none-ne-some a e)
lookup_more (b ∷ l) m zero a e = e
lookup_more (b ∷ l) m (suc i) a e = lookup_more l m i a e

pub lookup_end : {A : Type 0} (l : List A) (a : A) (m : List A) → get_elem? (l ++ (a ∷ m)) (length l) ≡ some a
lookup_end [] a m = refl
lookup_end (b ∷ l) a m = lookup_end l a m

pub lookup_some : {A : Type 0} (l : List A) (i : ℕ) → i < length l → (a : A) × (get_elem? l i ≡ some a)
lookup_some [] i h = absurd (omega arith)
lookup_some (a ∷ l) zero h = (a, refl)
lookup_some (a ∷ l) (suc i) h = lookup_some l i (omega arith)

pub lookup_snoc :
    {A : Type 0} (l : List A) (a : A) (i : ℕ) (b : A)
    → get_elem? (l ++ (a ∷ [])) i ≡ some b
    → (get_elem? l i ≡ some b) ⊎ ((i ≡ length l) × (a ≡ b))
lookup_snoc [] a zero b e = inr (refl, some-injective a b e)
lookup_snoc [] a (suc i) b e = absurd (none-ne-some b e)
lookup_snoc (c ∷ l) a zero b e = inl e
lookup_snoc (c ∷ l) a (suc i) b e = ⊎_elim inl (λ h. inr (ap suc h.0, h.1)) (lookup_snoc l a i b e)

-- ---- lists of which something holds
pub all_true : {A : Type 0} (p : A → Bool) (l : List A) → all p l ≡ true → All (λ (a : A). p a ≡ true) l
unfolding all
all_true p [] e = tt
all_true p (a ∷ l) e = let h = and-true (p a) (all p l) e in (h.0, all_true p l h.1)

pub All-take : {A : Type 0} (P : A → Type 0) (n : ℕ) (l : List A) → All P l → All P (take n l)
All-take P zero l h = tt
All-take P (suc n) [] h = tt
All-take P (suc n) (a ∷ l) h = (h.0, All-take P n l h.1)

pub All-drop : {A : Type 0} (P : A → Type 0) (n : ℕ) (l : List A) → All P l → All P (drop n l)
All-drop P zero l h = h
All-drop P (suc n) [] h = tt
All-drop P (suc n) (a ∷ l) h = All-drop P n l h.1

pub All-append : {A : Type 0} (P : A → Type 0) (l m : List A) → All P l → All P m → All P (l ++ m)
All-append P [] m h g = g
All-append P (a ∷ l) m h g = (h.0, All-append P l m h.1 g)

pub All-split : {A : Type 0} (P : A → Type 0) (l m : List A) → All P (l ++ m) → All P l × All P m
All-split P [] m p = (tt, p)
All-split P (a ∷ l) m p = let (x, y) = All-split P l m p.1 in ((p.0, x), y)

pub All-at : {A : Type 0} (P : A → Type 0) (l : List A) (i : ℕ) (a : A) → All P l → get_elem? l i ≡ some a → P a
All-at P [] i a h e = absurd (none-ne-some a e)
All-at P (b ∷ l) zero a h e = subst P (some-injective b a e) h.0
All-at P (b ∷ l) (suc i) a h e = All-at P l i a h.1 e

if_none : {A : Type 0} (b : Bool) (o : Option A) (a : A) → (if b then o else some a) ≡ none → (b ≡ true) × (o ≡ none)
if_none true o a e = (refl, e)
if_none false o a e = absurd (none-ne-some a (sym e))

pub no_fault : {A : Type 0} (p : A → Bool) (k : ℕ) (l : List A) → first_fault p k l ≡ none → All (λ (a : A). p a ≡ true) l
unfolding first_fault
no_fault p k [] e = tt
no_fault p k (a ∷ l) e = let h = if_none (p a) (first_fault p (suc k) l) k e in (h.0, no_fault p (suc k) l h.1)

pub All-map : {A : Type 0} (P Q : A → Type 0) → ((a : A) → P a → Q a) → (l : List A) → All P l → All Q l
All-map P Q f [] h = tt
All-map P Q f (a ∷ l) h = (f a h.0, All-map P Q f l h.1)

pub good_no_fault : {A : Type 0} (p : A → Bool) (k : ℕ) (l : List A) → All (λ (a : A). p a ≡ true) l → first_fault p k l ≡ none
unfolding first_fault
good_no_fault p k [] h = refl
good_no_fault p k (a ∷ l) h = if_true (p a) (first_fault p (suc k) l) (some k) h.0 ∙ good_no_fault p (suc k) l h.1

-- ---- numbers
pub numbers_length : (n k : ℕ) → length (numbers n k) ≡ n
unfolding numbers
numbers_length zero k = refl
numbers_length (suc n) k = ap suc (numbers_length n (suc k))

-- what stands at a number
numbers_at : {A : Type 0} (R : ℕ → A) (n j k : ℕ) → k < n → get_elem? (map R (numbers n j)) k ≡ some (R (j + k))
unfolding numbers
numbers_at R zero j k h = absurd (omega arith)
numbers_at R (suc n) j zero h = let e : j + 0 ≡ j = omega arith in rw e
numbers_at R (suc n) j (suc k) h = let e : j + suc k ≡ suc j + k = omega arith in rw e (numbers_at R n (suc j) k (omega arith))

pub mapped_at : {A : Type 0} (R : ℕ → A) (n k : ℕ) → k < n → get_elem? (map R (numbers n 0)) k ≡ some (R k)
mapped_at R n k h = let e : 0 + k ≡ k = omega arith in rw e at (numbers_at R n 0 k h)

pub numbers_all : (P : ℕ → Type 0) (n j : ℕ) → All P (numbers n j) → (k : ℕ) → j ≤ k → k < j + n → P k
unfolding numbers
numbers_all P zero j h k l m = absurd (omega arith)
numbers_all P (suc n) j h k l m =
    ⊎_elim (λ (e : j ≡ k). subst P e h.0) (λ (e : j < k). numbers_all P n (suc j) h.1 k e (omega arith)) (eq-or-lt_of_le l)

pub numbers_each : (P : ℕ → Type 0) (n j : ℕ) → ((k : ℕ) → j ≤ k → k < j + n → P k) → All P (numbers n j)
unfolding numbers
numbers_each P zero j h = tt
numbers_each P (suc n) j h = (h j (le_refl j) (omega arith), numbers_each P n (suc j) (λ k l m. h k (omega arith) (omega arith)))

-- ---- how the tree of node k is made, over the trees of all nodes
abbrev pub Child : List Tree → ℕ → ℕ → Tree → Type 0
Child ts k i c = (i < k) × (get_elem? ts i ≡ some c)

pub data Made (f : Form) (ts : List Tree) (k : ℕ) (x : Node) : Tree → Type 0 where
  flag_made :
      (l : List Name) → x.kind ≡ 1 → x.r ≤ 1 → Unused (x.lo ∷ x.hi ∷ []) → names_of f x ≡ some l
      → Made f ts k x (Flag k (named_by f.area l) (eqb x.r 1))
  argument_made :
      (l : List Name) → x.kind ≡ 2 → x.r ≤ 3 → Unused (x.lo ∷ x.hi ∷ []) → names_of f x ≡ some l
      → Made f ts k x (Argument k (named_by f.area l) (if leb 2 x.r then number else text) (eqb (x.r % 2) 1))
  positional_made :
      x.kind ≡ 3 → x.p ≤ 2 → contains (0 ∷ 2 ∷ []) x.r ≡ true → Unused (x.q ∷ x.lo ∷ x.hi ∷ [])
      → Made f ts k x (Positional k (position_of x.p) (if eqb x.r 2 then number else text))
  optional_made :
      (b : Bool) (c : Tree) → x.kind ≡ 4 → x.r ≤ 1 → Unused (x.q ∷ x.lo ∷ x.hi ∷ []) → Child ts k x.p c
      → is_some (kind_of (Optional b c)) ≡ true
      → Made f ts k x (Optional b c)
  many_made :
      (b : Bool) (c : Tree) → x.kind ≡ 5 → x.r ≤ 1 → Unused (x.q ∷ x.lo ∷ x.hi ∷ []) → Child ts k x.p c
      → has_repeat c ≡ false → is_some (kind_of (Many b c)) ≡ true
      → Made f ts k x (Many b c)
  some_made :
      (b : Bool) (c : Tree) → x.kind ≡ 6 → x.r ≤ 1 → Unused (x.q ∷ x.lo ∷ x.hi ∷ []) → Child ts k x.p c
      → has_repeat c ≡ false → is_some (kind_of (Some b c)) ≡ true
      → Made f ts k x (Some b c)
  count_made :
      (c : Tree) → x.kind ≡ 7 → Unused (x.q ∷ x.r ∷ x.lo ∷ x.hi ∷ []) → Child ts k x.p c
      → has_repeat c ≡ false → is_some (kind_of (Count c)) ≡ true
      → Made f ts k x (Count c)
  last_made :
      (c : Tree) → x.kind ≡ 8 → Unused (x.q ∷ x.r ∷ x.lo ∷ x.hi ∷ []) → Child ts k x.p c
      → has_repeat c ≡ false → is_some (kind_of (Last c)) ≡ true
      → Made f ts k x (Last c)
  choice_made :
      (c d : Tree) → x.kind ≡ 9 → Unused (x.r ∷ x.lo ∷ x.hi ∷ []) → Child ts k x.p c → Child ts k x.q d
      → is_some (kind_of (Choice c d)) ≡ true
      → Made f ts k x (Choice c d)
  fallback_made :
      (c : Tree) (κ : Kind) (v : BaseValue) → x.kind ≡ 10 → Unused (x.q ∷ []) → Child ts k x.p c
      → kind_of c ≡ some κ → fallback_value f x κ ≡ some v → is_some (kind_of (Fallback v c)) ≡ true
      → Made f ts k x (Fallback v c)
  guard_made :
      (c : Tree) → x.kind ≡ 11 → Unused (x.q ∷ x.r ∷ []) → Child ts k x.p c
      → x.lo ≤ x.hi → is_some (kind_of (Guard x.lo x.hi c)) ≡ true
      → Made f ts k x (Guard x.lo x.hi c)

fitting_some : (t : Tree) {u : Tree} → fitting t ≡ some u → (is_some (kind_of t) ≡ true) × (t ≡ u)
unfolding fitting
fitting_some t {u} e = let p = if_some (is_some (kind_of t)) (some t) e in (p.0, some-injective t u p.1)

-- the trees below a node are children that it may have
abbrev pub Inside : List Tree → List Tree → Type 0
Inside below ts = (i : ℕ) (c : Tree) → get_elem? below i ≡ some c → Child ts (length below) i c

module _ (f : Form) (below ts : List Tree) (inside : Inside below ts) (x : Node) (t : Tree) where
  abbrev IsMade : Type 0
  IsMade = Made f ts (length below) x t

  named_some : (m : Named) → named_of f x ≡ some m → (l : List Name) × (names_of f x ≡ some l) × (named_by f.area l ≡ m)
  unfolding named_of
  named_some m e =
      let p = bind_some (names_of f x) (λ l. some (named_by f.area l)) e in
      (p.0, p.1, some-injective _ m p.2)

  flag_made_lem : x.kind ≡ 1 → flag_of f (length below) x ≡ some t → IsMade
  unfolding flag_of
  flag_made_lem k e =
      let made : Named → Tree = λ m. Flag (length below) m (eqb x.r 1) in
      let a = if_some (leb x.r 1 && zeros (x.lo ∷ x.hi ∷ [])) (named_of f x >>? λ m. some (made m)) e in
      let p = and-true (leb x.r 1) (zeros (x.lo ∷ x.hi ∷ [])) a.0 in
      let m = bind_some (named_of f x) (λ m. some (made m)) a.1 in
      let l = named_some m.0 m.1 in
      subst (Made f ts (length below) x) (ap made l.2 ∙ some-injective _ t m.2)
      (flag_made l.0 k (leb-true x.r 1 p.0) (zeros_unused _ p.1) l.1)

  argument_made_lem : x.kind ≡ 2 → argument_of f (length below) x ≡ some t → IsMade
  unfolding argument_of
  argument_made_lem k e =
      let made : Named → Tree = λ m. Argument (length below) m (if leb 2 x.r then number else text) (eqb (x.r % 2) 1) in
      let a = if_some (leb x.r 3 && zeros (x.lo ∷ x.hi ∷ [])) (named_of f x >>? λ m. some (made m)) e in
      let p = and-true (leb x.r 3) (zeros (x.lo ∷ x.hi ∷ [])) a.0 in
      let m = bind_some (named_of f x) (λ m. some (made m)) a.1 in
      let l = named_some m.0 m.1 in
      subst (Made f ts (length below) x) (ap made l.2 ∙ some-injective _ t m.2)
      (argument_made l.0 k (leb-true x.r 3 p.0) (zeros_unused _ p.1) l.1)

  positional_made_lem : x.kind ≡ 3 → positional_of (length below) x ≡ some t → IsMade
  unfolding positional_of
  positional_made_lem k e =
      let a = if_some (leb x.p 2 && contains (0 ∷ 2 ∷ []) x.r && zeros (x.q ∷ x.lo ∷ x.hi ∷ [])) _ e in
      let p = and-true (leb x.p 2 && contains (0 ∷ 2 ∷ []) x.r) (zeros (x.q ∷ x.lo ∷ x.hi ∷ [])) a.0 in
      let q = and-true (leb x.p 2) (contains (0 ∷ 2 ∷ []) x.r) p.0 in
      subst (Made f ts (length below) x) (some-injective _ t a.1)
      (positional_made k (leb-true x.p 2 q.0) q.1 (zeros_unused _ p.1))

  child_some :
      (unused : List ℕ) (make : Tree → Option Tree)
      → child_of unused below x make ≡ some t
      → (c : Tree) × Unused (x.q ∷ unused) × Child ts (length below) x.p c × (make c ≡ some t)
  unfolding child_of
  child_some unused make e =
      let a = if_some (zeros (x.q ∷ unused)) (get_elem? below x.p >>? make) e in
      let c = bind_some (get_elem? below x.p) make a.1 in
      (c.0, zeros_unused _ a.0, inside x.p c.0 c.1, c.2)

  caught_some :
      (make : Bool → Tree → Option Tree)
      → caught_of below x make ≡ some t
      → (c : Tree) × (x.r ≤ 1) × Unused (x.q ∷ x.lo ∷ x.hi ∷ []) × Child ts (length below) x.p c × (make (eqb x.r 1) c ≡ some t)
  unfolding caught_of
  caught_some make e =
      let a = if_some (leb x.r 1) (child_of (x.lo ∷ x.hi ∷ []) below x (make (eqb x.r 1))) e in
      let c = child_some (x.lo ∷ x.hi ∷ []) (make (eqb x.r 1)) a.1 in
      (c.0, leb-true x.r 1 a.0, c.1, c.2, c.3)

  repeat_some :
      (make : Tree → Tree) (c : Tree)
      → repeat_of make c ≡ some t
      → (has_repeat c ≡ false) × (is_some (kind_of (make c)) ≡ true) × (make c ≡ t)
  unfolding repeat_of
  repeat_some make c e =
      let a = if_not_some (has_repeat c) (fitting (make c)) e in
      let b = fitting_some (make c) a.1 in
      (a.0, b.0, b.1)

  optional_made_lem : x.kind ≡ 4 → caught_of below x (λ b c. fitting (Optional b c)) ≡ some t → IsMade
  optional_made_lem k e =
      let (c, r, u, h, m) = caught_some (λ b c. fitting (Optional b c)) e in
      let a = fitting_some (Optional (eqb x.r 1) c) m in
      subst (Made f ts (length below) x) a.1 (optional_made (eqb x.r 1) c k r u h a.0)

  many_made_lem : x.kind ≡ 5 → caught_of below x (λ b. repeat_of (Many b)) ≡ some t → IsMade
  many_made_lem k e =
      let (c, r, u, h, m) = caught_some (λ b. repeat_of (Many b)) e in
      let a = repeat_some (Many (eqb x.r 1)) c m in
      subst (Made f ts (length below) x) a.2 (many_made (eqb x.r 1) c k r u h a.0 a.1)

  some_made_lem : x.kind ≡ 6 → caught_of below x (λ b. repeat_of (Some b)) ≡ some t → IsMade
  some_made_lem k e =
      let (c, r, u, h, m) = caught_some (λ b. repeat_of (Some b)) e in
      let a = repeat_some (Some (eqb x.r 1)) c m in
      subst (Made f ts (length below) x) a.2 (some_made (eqb x.r 1) c k r u h a.0 a.1)

  count_made_lem : x.kind ≡ 7 → child_of (x.r ∷ x.lo ∷ x.hi ∷ []) below x (repeat_of Count) ≡ some t → IsMade
  count_made_lem k e =
      let (c, u, h, m) = child_some (x.r ∷ x.lo ∷ x.hi ∷ []) (repeat_of Count) e in
      let a = repeat_some Count c m in
      subst (Made f ts (length below) x) a.2 (count_made c k u h a.0 a.1)

  last_made_lem : x.kind ≡ 8 → child_of (x.r ∷ x.lo ∷ x.hi ∷ []) below x (repeat_of Last) ≡ some t → IsMade
  last_made_lem k e =
      let (c, u, h, m) = child_some (x.r ∷ x.lo ∷ x.hi ∷ []) (repeat_of Last) e in
      let a = repeat_some Last c m in
      subst (Made f ts (length below) x) a.2 (last_made c k u h a.0 a.1)

  choice_made_lem : x.kind ≡ 9 → choice_of below x ≡ some t → IsMade
  unfolding choice_of
  choice_made_lem k e =
      let second : Tree → Option Tree = λ c. get_elem? below x.q >>? λ d. fitting (Choice c d) in
      let a = if_some (zeros (x.r ∷ x.lo ∷ x.hi ∷ [])) (get_elem? below x.p >>? second) e in
      let (c, h, m) = bind_some (get_elem? below x.p) second a.1 in
      let (d, g, n) = bind_some (get_elem? below x.q) (λ d. fitting (Choice c d)) m in
      let b = fitting_some (Choice c d) n in
      subst (Made f ts (length below) x) b.1 (choice_made c d k (zeros_unused _ a.0) (inside x.p c h) (inside x.q d g) b.0)

  fallback_made_lem : x.kind ≡ 10 → child_of [] below x (fallback_of f x) ≡ some t → IsMade
  unfolding fallback_of
  fallback_made_lem k e =
      let (c, u, h, m) = child_some [] (fallback_of f x) e in
      let (κ, g, n) = bind_some (kind_of c) (λ κ. fallback_value f x κ >>? λ v. fitting (Fallback v c)) m in
      let (v, w, o) = bind_some (fallback_value f x κ) (λ v. fitting (Fallback v c)) n in
      let a = fitting_some (Fallback v c) o in
      subst (Made f ts (length below) x) a.1 (fallback_made c κ v k u h g w a.0)

  guard_made_lem : x.kind ≡ 11 → child_of (x.r ∷ []) below x (guard_of x) ≡ some t → IsMade
  unfolding guard_of
  guard_made_lem k e =
      let (c, u, h, m) = child_some (x.r ∷ []) (guard_of x) e in
      let l = if_some (leb x.lo x.hi) (fitting (Guard x.lo x.hi c)) m in
      let a = fitting_some (Guard x.lo x.hi c) l.1 in
      subst (Made f ts (length below) x) a.1 (guard_made c k u h (leb-true x.lo x.hi l.0) a.0)

  abbrev kind_is : (n : ℕ) → eqb x.kind n ≡ true → x.kind ≡ n
  kind_is n = eqb-true x.kind n

  pub tree_made : tree_of f below x ≡ some t → IsMade
  unfolding tree_of
  tree_made =
      branch (eqb x.kind 1) _ _ (λ k. flag_made_lem (kind_is 1 k))
      (branch (eqb x.kind 2) _ _ (λ k. argument_made_lem (kind_is 2 k))
      (branch (eqb x.kind 3) _ _ (λ k. positional_made_lem (kind_is 3 k))
      (branch (eqb x.kind 4) _ _ (λ k. optional_made_lem (kind_is 4 k))
      (branch (eqb x.kind 5) _ _ (λ k. many_made_lem (kind_is 5 k))
      (branch (eqb x.kind 6) _ _ (λ k. some_made_lem (kind_is 6 k))
      (branch (eqb x.kind 7) _ _ (λ k. count_made_lem (kind_is 7 k))
      (branch (eqb x.kind 8) _ _ (λ k. last_made_lem (kind_is 8 k))
      (branch (eqb x.kind 9) _ _ (λ k. choice_made_lem (kind_is 9 k))
      (branch (eqb x.kind 10) _ _ (λ k. fallback_made_lem (kind_is 10 k))
      (branch (eqb x.kind 11) _ _ (λ k. guard_made_lem (kind_is 11 k))
      (λ e. absurd (none-ne-some t e))))))))))))

-- ---- names
pub is_some_lem : {A : Type 0} (o : Option A) → is_some o ≡ true → (a : A) × (o ≡ some a)
unfolding is_some
is_some_lem none e = absurd (false≢true e)
is_some_lem (some a) e = (a, refl)

pub slice_some :
    {A : Type 0} (a b : ℕ) (l : List A) {s : List A}
    → slice a b l ≡ some s
    → (a ≤ b) × (b ≤ length l) × (take (b - a) (drop a l) ≡ s)
unfolding slice
slice_some a b l {s} e =
    let p = if_some (leb a b && leb b (length l)) (some (take (b - a) (drop a l))) e in
    let q = and-true (leb a b) (leb b (length l)) p.0 in
    (leb-true a b q.0, leb-true b (length l) q.1, some-injective _ s p.1)

-- names p.., q of them: one or more, all short or long
pub record NamesOf (f : Form) (x : Node) (l : List Name) : Type 0 where
  pub inside : x.p + x.q ≤ length f.names
  pub part : take x.q (drop x.p f.names) ≡ l
  pub more : null l ≡ false
  pub types : All (λ (m : Name). leb m.type 1 ≡ true) l

pub names_some : (f : Form) (x : Node) (l : List Name) → names_of f x ≡ some l → NamesOf f x l
unfolding names_of
names_some f x l e =
    let good : List Name → Bool = λ l. not (null l) && all (λ (k : Name). leb k.type 1) l in
    let (s, h, g) = bind_some (slice x.p (x.p + x.q) f.names) (λ l. if good l then some l else none) e in
    let p = slice_some x.p (x.p + x.q) f.names h in
    let a = if_some (good s) (some s) g in
    let b = and-true (not (null s)) (all (λ (k : Name). leb k.type 1) s) a.0 in
    let same : s ≡ l = some-injective s l a.1 in
    let wide : (x.p + x.q) - x.p ≡ x.q = omega arith in
    record {
      inside = p.1;
      part = rw wide at p.2 ∙ same;
      more = rw same at (not-true (null s) b.0);
      types = rw same at (all_true (λ (k : Name). leb k.type 1) s b.1);
    }

abbrev pub NameGood : List ℕ → Name → Type 0
NameGood area m = name_good area m ≡ true

pub short_one : (area : List ℕ) (m : Name) → NameGood area m → eqb m.type 0 ≡ true → (c : ℕ) × (one_character (name_bytes area m) ≡ some c)
unfolding name_good type_good
short_one area m g e =
    let p = and-true (leb (m.offset + m.size) (length area)) (type_good m.type (name_bytes area m)) g in
    is_some_lem (one_character (name_bytes area m)) (rw e at p.1)

-- a good name of type 0 or 1 is a short or a long name
is_named_lem :
    (area : List ℕ) (l : List Name)
    → null l ≡ false
    → All (NameGood area) l
    → All (λ (m : Name). leb m.type 1 ≡ true) l
    → is_named (named_by area l) ≡ true
unfolding null is_named named_by concat_map short_of long_of
is_named_lem area [] e g h = absurd (true≢false e)
is_named_lem area (m ∷ l) e g h = go (eqb m.type 0) refl
  where
    go : (b : Bool) → eqb m.type 0 ≡ b → is_named (named_by area (m ∷ l)) ≡ true
    go true z = let (c, s) = short_one area m g.0 z in rw (z, s)
    go false z =
        let least = leb-true m.type 1 h.0 in
        let other = eqb-false m.type 0 z in
        let one : m.type ≡ 1 = omega arith in
        rw (z, eq-eqb m.type 1 one) (ap not (and-false (null (concat_map (short_of area) l))))

-- ---- every tree is sound
names_good : (f : Form) (x : Node) (l : List Name) → All (NameGood f.area) f.names → NamesOf f x l → All (NameGood f.area) l
names_good f x l g n =
    let good = NameGood f.area in
    subst (All good) n.part (All-take good x.q (drop x.p f.names) (All-drop good x.p f.names g))

names_named :
    (f : Form) (x : Node) (l : List Name)
    → All (NameGood f.area) f.names
    → names_of f x ≡ some l
    → is_named (named_by f.area l) ≡ true
names_named f x l g e =
    let n = names_some f x l e in
    is_named_lem f.area l n.more (names_good f x l g n) n.types

read_if : (b : Bool) → is_read (if b then number else text) ≡ true
unfolding is_read
read_if true = refl
read_if false = refl

module _ (f : Form) (ts : List Tree) (k : ℕ) (x : Node) (good : All (NameGood f.area) f.names) where
  made_sound : (t : Tree) → ((i : ℕ) (c : Tree) → get_elem? ts i ≡ some c → Sound c) → Made f ts k x t → Sound t
  unfolding kind_of is_some well_built
  made_sound t s (flag_made l k r u n) = record { kind = refl; built = names_named f x l good n }
  made_sound t s (argument_made l k r u n) = record { kind = refl; built = both (names_named f x l good n) (read_if (leb 2 x.r)) }
  made_sound t s (positional_made k p r u) = record { kind = refl; built = read_if (eqb x.r 2) }
  made_sound t s (optional_made b c k r u h e) = record { kind = e; built = (s x.p c h.1).built }
  made_sound t s (many_made b c k r u h a e) = record { kind = e; built = rw a (s x.p c h.1).built }
  made_sound t s (some_made b c k r u h a e) = record { kind = e; built = rw a (s x.p c h.1).built }
  made_sound t s (count_made c k u h a e) = record { kind = e; built = rw a (s x.p c h.1).built }
  made_sound t s (last_made c k u h a e) = record { kind = e; built = rw a (s x.p c h.1).built }
  made_sound t s (choice_made c d k u h g e) = record { kind = e; built = rw (s x.p c h.1).built (s x.q d g.1).built }
  made_sound t s (fallback_made c κ v k u h g w e) = record { kind = e; built = (s x.p c h.1).built }
  made_sound t s (guard_made c k u h l e) = record { kind = e; built = (s x.p c h.1).built }

-- ---- the trees of the nodes, one after the other
pub inside_more : (below more : List Tree) → Inside below (below ++ more)
inside_more below more i c e = (lookup_inside below i c e, lookup_more below more i c e)

pub inside_same : (below : List Tree) → Inside below below
inside_same below i c e = (lookup_inside below i c e, e)

-- what trees_from accepts, a node at a time
pub trees_step :
    (f : Form) (below : List Tree) (x : Node) (xs : List Node) (ts : List Tree)
    → trees_from f below (x ∷ xs) ≡ accepted ts
    → (t : Tree) × (tree_of f below x ≡ some t) × (trees_from f (below ++ (t ∷ [])) xs ≡ accepted ts)
unfolding trees_from
trees_step f below x xs ts e = go (tree_of f below x) refl
  where
    go :
        (o : Option Tree)
        → tree_of f below x ≡ o
        → (t : Tree) × (tree_of f below x ≡ some t) × (trees_from f (below ++ (t ∷ [])) xs ≡ accepted ts)
    go none h = absurd (refused_not 3 (some (length below)) ts (rw (h, trees_from) at e))
    go (some t) h = (t, h, rw (h, trees_from) at e)

pub trees_grow :
    (f : Form) (below : List Tree) (xs : List Node) (ts : List Tree)
    → trees_from f below xs ≡ accepted ts
    → (more : List Tree) × (below ++ more ≡ ts)
unfolding trees_from
trees_grow f below [] ts e = ([], append-nil below ∙ accepted_same below ts e)
trees_grow f below (x ∷ xs) ts e =
    let (t, h, g) = trees_step f below x xs ts e in
    let (more, r) = trees_grow f (below ++ (t ∷ [])) xs ts g in
    (t ∷ more, sym (append_assoc below (t ∷ []) more) ∙ r)

pub trees_length :
    (f : Form) (below : List Tree) (xs : List Node) (ts : List Tree)
    → trees_from f below xs ≡ accepted ts
    → length ts ≡ length below + length xs
unfolding trees_from
trees_length f below [] ts e = let h = ap length (accepted_same below ts e) in omega arith
trees_length f below (x ∷ xs) ts e =
    let (t, h, g) = trees_step f below x xs ts e in
    let r = trees_length f (below ++ (t ∷ [])) xs ts g in
    let l = length-append below (t ∷ []) in
    omega arith

-- each node's tree stands at its number, made from those with lower numbers
pub record TreeAt (f : Form) (ts : List Tree) (k : ℕ) (x : Node) : Type 0 where
  pub tree : Tree
  pub stands : get_elem? ts k ≡ some tree
  pub made : Made f ts k x tree

abbrev pub TreesAt : Form → List Tree → ℕ → List Node → Type 0
TreesAt f ts k [] = Unit {0}
TreesAt f ts k (x ∷ xs) = TreeAt f ts k x × TreesAt f ts (suc k) xs

pub trees_made :
    (f : Form) (below : List Tree) (xs : List Node) (ts : List Tree)
    → trees_from f below xs ≡ accepted ts
    → TreesAt f ts (length below) xs
trees_made f below [] ts e = tt
trees_made f below (x ∷ xs) ts e =
    let (t, h, g) = trees_step f below x xs ts e in
    let (more, r) = trees_grow f (below ++ (t ∷ [])) xs ts g in
    let same : below ++ (t ∷ more) ≡ ts = sym (append_assoc below (t ∷ []) more) ∙ r in
    let inside : Inside below ts = subst (Inside below) same (inside_more below (t ∷ more)) in
    let long : length (below ++ (t ∷ [])) ≡ suc (length below) = length-append below (t ∷ []) ∙ add-one (length below) in (
      record {
        tree = t;
        stands = subst (λ (l : List Tree). get_elem? l (length below) ≡ some t) same (lookup_end below t more);
        made = tree_made f below ts inside x t h;
      },
      subst (λ (k : ℕ). TreesAt f ts k xs) long (trees_made f (below ++ (t ∷ [])) xs ts g),
    )

-- what holds of each node's tree, if it holds of those below it
pub trees_all :
    (f : Form) (N : Node → Type 0) (P : Tree → Type 0)
    → ((below : List Tree) (x : Node) (t : Tree) → N x → All P below → Made f below (length below) x t → P t)
    → (below : List Tree) (xs : List Node) (ts : List Tree)
    → All N xs
    → All P below
    → trees_from f below xs ≡ accepted ts
    → All P ts
unfolding trees_from
trees_all f N P step below [] ts n s e = subst (All P) (accepted_same below ts e) s
trees_all f N P step below (x ∷ xs) ts n s e =
    let (t, h, g) = trees_step f below x xs ts e in
    let m = tree_made f below below (inside_same below) x t h in
    trees_all f N P step (below ++ (t ∷ [])) xs ts n.1 (All-append P below (t ∷ []) s (step below x t n.0 s m, tt)) g

all_unit : {A : Type 0} (l : List A) → All (λ (a : A). Unit {0}) l
all_unit [] = tt
all_unit (a ∷ l) = (tt, all_unit l)

pub trees_sound : (f : Form) (ts : List Tree) → All (NameGood f.area) f.names → trees_from f [] f.nodes ≡ accepted ts → All Sound ts
trees_sound f ts good e =
    trees_all f (λ x. Unit {0}) Sound
    (λ below x t n s m. made_sound f below (length below) x good t (λ i c. All-at Sound below i c s) m)
    [] f.nodes ts (all_unit f.nodes) tt e

-- ---- the trees of the fields
pub fields_step :
    (ts : List Tree) (k : ℕ) (ks : List ℕ) (us : List Tree)
    → trees_at ts (k ∷ ks) ≡ some us
    → (t : Tree) × (vs : List Tree) × (get_elem? ts k ≡ some t) × (trees_at ts ks ≡ some vs) × (t ∷ vs ≡ us)
unfolding trees_at
fields_step ts k ks us e =
    let (t, h, g) = bind_some (get_elem? ts k) (λ t. trees_at ts ks >>? λ vs. some (t ∷ vs)) e in
    let (vs, r, s) = bind_some (trees_at ts ks) (λ vs. some (t ∷ vs)) g in
    (t, vs, h, r, some-injective (t ∷ vs) us s)

pub fields_all : (P : Tree → Type 0) (ts : List Tree) (ks : List ℕ) (us : List Tree) → All P ts → trees_at ts ks ≡ some us → All P us
unfolding trees_at
fields_all P ts [] us s e = subst (All P) (some-injective [] us e) tt
fields_all P ts (k ∷ ks) us s e =
    let (t, vs, h, r, same) = fields_step ts k ks us e in
    subst (All P) same (All-at P ts k t s h, fields_all P ts ks vs s r)

pub fields_length : (ts : List Tree) (ks : List ℕ) (us : List Tree) → trees_at ts ks ≡ some us → length us ≡ length ks
unfolding trees_at
fields_length ts [] us e = sym (ap length (some-injective [] us e))
fields_length ts (k ∷ ks) us e =
    let (t, vs, h, r, same) = fields_step ts k ks us e in
    sym (ap length same) ∙ ap suc (fields_length ts ks vs r)

-- ---- what an accepted form has passed
pub record Passed (f : Form) (a : Accepted) : Type 0 where
  pub form : a.form ≡ f
  pub names : All (NameGood f.area) f.names
  pub trees : trees_from f [] f.nodes ≡ accepted a.trees
  pub fields : trees_at a.trees f.fields ≡ some a.fields
  pub once : first_fault (used_once f) 0 (numbers (length f.nodes) 0) ≡ none

module _ (f : Form) (a : Accepted) where
  use_passed :
      (ts : List Tree)
      → All (NameGood f.area) f.names
      → trees_from f [] f.nodes ≡ accepted ts
      → check_use f ts ≡ accepted a
      → Passed f a
  unfolding check_use
  use_passed ts names trees e = first (trees_at ts f.fields) refl
    where
      second :
          (us : List Tree)
          → trees_at ts f.fields ≡ some us
          → (o : Option ℕ)
          → first_fault (used_once f) 0 (numbers (length f.nodes) 0) ≡ o
          → Passed f a
      second us h (some k) g = absurd (refused_not 4 (some k) a (rw (h, g, check_use) at e))
      second us h none g =
          let made : Accepted = record { form = f; trees = ts; fields = us } in
          let same : made ≡ a = accepted_same made a (rw (h, g, check_use) at e) in
          subst (Passed f) same (record { form = refl; names = names; trees = trees; fields = h; once = g })

      first : (o : Option (List Tree)) → trees_at ts f.fields ≡ o → Passed f a
      first none h = absurd (refused_not 4 none a (rw (h, check_use) at e))
      first (some us) h = second us h (first_fault (used_once f) 0 (numbers (length f.nodes) 0)) refl

  records_passed : check_records f ≡ accepted a → Passed f a
  unfolding check_records
  records_passed e = first (first_fault (name_good f.area) 0 f.names) refl
    where
      second : first_fault (name_good f.area) 0 f.names ≡ none → (o : Checked (List Tree)) → trees_from f [] f.nodes ≡ o → Passed f a
      second h (refused_at n k) g = absurd (refused_not n k a (rw (h, g, check_records) at e))
      second h (accepted ts) g = use_passed ts (no_fault (name_good f.area) 0 f.names h) g (rw (h, g, check_records) at e)

      first : (o : Option ℕ) → first_fault (name_good f.area) 0 f.names ≡ o → Passed f a
      first (some k) h = absurd (refused_not 2 (some k) a (rw (h, check_records) at e))
      first none h = second h (trees_from f [] f.nodes) refl

module _ (b : List ℕ) (a : Accepted) (e : check_form b ≡ accepted a) where
  pub accepted_length : length_good b ≡ true
  unfolding check_form
  accepted_length =
      branch (length_good b) (check_records (read_form b)) (refused_at 1 none) (λ h g. h) (λ g. absurd (refused_not 1 none a g)) e

  pub accepted_passed : Passed (read_form b) a
  unfolding check_form
  accepted_passed =
      branch (length_good b) (check_records (read_form b)) (refused_at 1 none)
      (λ h g. records_passed (read_form b) a g)
      (λ g. absurd (refused_not 1 none a g))
      e

  pub accepted_form : a.form ≡ read_form b
  accepted_form = accepted_passed.form

  pub accepted_trees_sound : All Sound a.trees
  accepted_trees_sound = let p = accepted_passed in trees_sound (read_form b) a.trees p.names p.trees

  -- every field's tree is sound
  pub accepted_sound : All Sound a.fields
  accepted_sound = fields_all Sound a.trees (read_form b).fields a.fields accepted_trees_sound accepted_passed.fields

  pub accepted_fields : length a.fields ≡ length a.form.fields
  accepted_fields =
      fields_length a.trees (read_form b).fields a.fields accepted_passed.fields
      ∙ ap (λ (f : Form). length f.fields) (sym accepted_form)

  pub accepted_trees : length a.trees ≡ length a.form.nodes
  accepted_trees =
      trees_length (read_form b) [] (read_form b).nodes a.trees accepted_passed.trees
      ∙ zero-add (length (read_form b).nodes)
      ∙ ap (λ (f : Form). length f.nodes) (sym accepted_form)
