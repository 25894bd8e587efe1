-- Laws of marks and places: tests, lookups and writes, the present places and their number.
use mathlib.Core.Path.{◌≡◌, refl, sym, ap, ◌∙◌}
use mathlib.Core.Bool.{Bool, true, false, not, xor, ◌&&◌, and-eq-true_iff, false≢true}
use mathlib.Core.List.{List, [], ◌∷◌}
use mathlib.Core.Option.{some, none}
use mathlib.Core.Logic.{◌⊎◌, inl, inr, ⊎_elim}
use Prim.Native.Nat.{ℕ, zero, suc, ◌+◌, ◌-◌, ◌≤◌, ◌<◌, suc-le-suc}
use native.Mathlib.Nat.{le_refl, not-suc-le-zero, le_of_suc-le-suc, eq-or-lt_of_le}
use native.Mathlib.Omega.{arith}
use lib.Dec.{eqb}
use lib.ListN.{length, take, drop, set, replicate, get_elem?}
use borrow.Author.Tests.{ne_eqb, lt-ltb, le-leb, lt-leb}
use Rattle.std.specs.Prelude.{if◌then◌else◌}
use Rattle.rules.specs.Base.{all, minus, write, slice}
use Rattle.rules.specs.State.{Picked, marker_mark, parsed, present, present_at, present_from, count_present, pick_from, conflicts, mark_good}
use Rattle.rules.specs.Demands.{All}

-- ---- tests

-- what holds of both sides holds of the one that is picked
pub if_elim : {A : Type 0} (P : A → Type 0) (b : Bool) (x y : A)
    → (b ≡ true → P x)
    → (b ≡ false → P y)
    → P (if b then x else y)
if_elim P true x y f g = f refl
if_elim P false x y f g = g refl

pub if_length : (b : Bool) (i : ℕ) (l : List ℕ) → length (if b then i ∷ l else l) ≡ (if b then suc (length l) else length l)
if_length true i l = refl
if_length false i l = refl

pub if_suc : (b : Bool) (x y : ℕ) → suc (if b then x else y) ≡ (if b then suc x else suc y)
if_suc true x y = refl
if_suc false x y = refl

-- both of two tests
pub both : (a b : Bool) → a ≡ true → b ≡ true → a && b ≡ true
both a b p q = (and-eq-true_iff a b).1 (p, q)

pub left : (a b : Bool) → a && b ≡ true → a ≡ true
left a b e = ((and-eq-true_iff a b).0 e).0

pub right : (a b : Bool) → a && b ≡ true → b ≡ true
right a b e = ((and-eq-true_iff a b).0 e).1

-- ---- lookups

pub at_below : {A : Type 0} (l : List A) (i : ℕ) → i < length l → (x : A) × (get_elem? l i ≡ some x)
at_below [] i h = absurd (not-suc-le-zero h)
at_below (x ∷ l) zero h = (x, refl)
at_below (x ∷ l) (suc i) h = at_below l i (le_of_suc-le-suc h)

pub present_below : (m : List ℕ) (i : ℕ) → present_at m i ≡ true → i < length m
unfolding present_at
present_below [] i e = absurd (false≢true e)
present_below (x ∷ m) zero e = omega arith
present_below (x ∷ m) (suc i) e = suc-le-suc (present_below m i e)

pub mark_present : (m : List ℕ) (i x : ℕ) → get_elem? m i ≡ some x → present_at m i ≡ present x
unfolding present_at
mark_present m i x e = rw (e, present_at)

pub minus_below : (a b : ℕ) → b ≤ a → minus a b ≡ some (a - b)
unfolding minus
minus_below a b h = rw (le-leb b a h)

pub slice_below : {A : Type 0} (a b : ℕ) (l : List A) → a ≤ b → b ≤ length l → slice a b l ≡ some (take (b - a) (drop a l))
unfolding slice
slice_below a b l h k = rw (le-leb a b h, le-leb b (length l) k)

-- ---- writes

pub write_below : (m : List ℕ) (i x : ℕ) → i < length m → write m i x ≡ some (set m i x)
unfolding write
write_below [] i x h = absurd (not-suc-le-zero h)
write_below (y ∷ m) zero x h = refl
write_below (y ∷ m) (suc i) x h = rw (write_below m i x (le_of_suc-le-suc h))

pub set_same : (m : List ℕ) (i x : ℕ) → i < length m → present_at (set m i x) i ≡ present x
unfolding present_at
set_same [] i x h = absurd (not-suc-le-zero h)
set_same (y ∷ m) zero x h = refl
set_same (y ∷ m) (suc i) x h = set_same m i x (le_of_suc-le-suc h)

pub set_other : (m : List ℕ) (i x j : ℕ) → (j ≡ i → ⊥) → present_at (set m i x) j ≡ present_at m j
unfolding present_at
set_other [] i x j h = refl
set_other (y ∷ m) zero x zero h = absurd (h refl)
set_other (y ∷ m) zero x (suc j) h = refl
set_other (y ∷ m) (suc i) x zero h = refl
set_other (y ∷ m) (suc i) x (suc j) h = set_other m i x j (λ e. h (ap suc e))

-- a parsed mark makes no place present
pub set_kept : (m : List ℕ) (i x j : ℕ) → present x ≡ false → present_at (set m i x) j ≡ true → present_at m j ≡ true
unfolding present_at
set_kept [] i x j h e = e
set_kept (y ∷ m) zero x zero h e = absurd (false≢true (sym h ∙ e))
set_kept (y ∷ m) zero x (suc j) h e = e
set_kept (y ∷ m) (suc i) x zero h e = e
set_kept (y ∷ m) (suc i) x (suc j) h e = set_kept m i x j h e

pub replicate_present : (n x i : ℕ) → present x ≡ true → i < n → present_at (replicate n x) i ≡ true
unfolding present_at
replicate_present zero x i e h = absurd (not-suc-le-zero h)
replicate_present (suc n) x zero e h = e
replicate_present (suc n) x (suc i) e h = replicate_present n x i e (le_of_suc-le-suc h)

pub all_set : (p : ℕ → Bool) (m : List ℕ) (i x : ℕ) → all p m ≡ true → p x ≡ true → all p (set m i x) ≡ true
unfolding all
all_set p [] i x h e = h
all_set p (y ∷ m) zero x h e = both (p x) (all p m) e (right (p y) (all p m) h)
all_set p (y ∷ m) (suc i) x h e =
    both (p y) (all p (set m i x)) (left (p y) (all p m) h) (all_set p m i x (right (p y) (all p m) h) e)

pub all_replicate : (p : ℕ → Bool) (n x : ℕ) → p x ≡ true → all p (replicate n x) ≡ true
unfolding all
all_replicate p zero x e = refl
all_replicate p (suc n) x e = both (p x) (all p (replicate n x)) e (all_replicate p n x e)

-- ---- marks

pub parsed_not : (m : ℕ) → parsed m ≡ true → present m ≡ false
unfolding present
parsed_not m e = rw e

-- a winner's place lies below 256, so that a conflict is no parsed mark
pub conflict_present : (w : ℕ) → w < 256 → present (2 + w) ≡ true
unfolding present parsed marker_mark
conflict_present w h = rw (lt-leb 510 (2 + w) (omega arith))

pub used_good : (used : ℕ → Bool) (n m : ℕ) → used m ≡ true → mark_good used n m ≡ true
unfolding mark_good
used_good used n m e =
    if_elim (λ (b : Bool). b ≡ true) (eqb m 0) _ _ (λ _. refl)
    (λ _. if_elim (λ (b : Bool). b ≡ true) (used m) _ _ (λ _. refl) (λ f. absurd (false≢true (sym f ∙ e))))

pub conflict_good : (used : ℕ → Bool) (n w : ℕ) → w < n → mark_good used n (2 + w) ≡ true
unfolding mark_good
conflict_good used n w h =
    let back : 2 + w - 2 ≡ w = omega arith in
    rw (ne_eqb (2 + w) 0 (λ e. omega arith), le-leb 2 (2 + w) (omega arith), back, lt-ltb w n h)
    (if_elim (λ (b : Bool). b ≡ true) (used (2 + w)) true true (λ _. refl) (λ _. refl))

-- ---- the present ones of k places from a on

pub from_same : (m l : List ℕ) (k a : ℕ) → ((j : ℕ) → a ≤ j → present_at m j ≡ present_at l j) → present_from m k a ≡ present_from l k a
unfolding present_from
from_same m l zero a f = refl
from_same m l (suc k) a f = rw (f a (le_refl a), from_same m l k (suc a) (λ j h. f j (omega arith)))

-- each of them lies there and is present
pub from_each : (P : ℕ → Type 0) (m : List ℕ) (k a : ℕ)
    → ((i : ℕ) → a ≤ i → i < a + k → present_at m i ≡ true → P i)
    → All P (present_from m k a)
unfolding present_from
from_each P m zero a f = tt
from_each P m (suc k) a f =
    let rest : All P (present_from m k (suc a)) = from_each P m k (suc a) (λ i h l e. f i (omega arith) (omega arith) e) in
    if_elim (All P) (present_at m a) _ _ (λ e. (f a (le_refl a) (omega arith) e, rest)) (λ _. rest)

-- all of them are present
pub from_all : (m : List ℕ) (k a : ℕ) → ((i : ℕ) → a ≤ i → i < a + k → present_at m i ≡ true) → length (present_from m k a) ≡ k
unfolding present_from
from_all m zero a f = refl
from_all m (suc k) a f =
    rw (f a (le_refl a) (omega arith)) (ap suc (from_all m k (suc a) (λ i h l. f i (omega arith) (omega arith))))

-- one of them is used, and no other
pub from_used : (m l : List ℕ) (i k a : ℕ)
    → present_at m i ≡ true
    → present_at l i ≡ false
    → ((j : ℕ) → (j ≡ i → ⊥) → present_at l j ≡ present_at m j)
    → a ≤ i
    → i < a + k
    → suc (length (present_from l k a)) ≡ length (present_from m k a)
unfolding present_from
from_used m l i zero a p q f h b = absurd (omega arith)
from_used m l i (suc k) a p q f h b =
    ⊎_elim
    (λ (z : a ≡ i).
    let here : present_at m a ≡ true = rw z p in
    let gone : present_at l a ≡ false = rw z q in
    let rest = from_same l m k (suc a) (λ j g. f j (λ e. omega arith)) in
    rw (here, gone, rest) refl)
    (λ (z : a < i).
    let ih : suc (length (present_from l k (suc a))) ≡ length (present_from m k (suc a)) =
    from_used m l i k (suc a) p q f z (omega arith) in
    let count = if_length (present_at m a) a in
    rw (f a (λ e. omega arith), count (present_from l k (suc a)), count (present_from m k (suc a)), ← ih)
    (if_suc (present_at m a) _ _))
    (eq-or-lt_of_le h)

-- ---- counting

pub drop_below : {A : Type 0} (l : List A) (a : ℕ) (x : A) → get_elem? l a ≡ some x → drop a l ≡ x ∷ drop (suc a) l
drop_below [] a x e = cc
drop_below (y ∷ l) zero x e = cc
drop_below (y ∷ l) (suc a) x e = drop_below l a x e

pub count_from : (m : List ℕ) (k a : ℕ) → a + k ≤ length m → count_present (take k (drop a m)) ≡ length (present_from m k a)
unfolding count_present present_from
count_from m zero a h = refl
count_from m (suc k) a h =
    let f = at_below m a (omega arith) in
    let x : ℕ = f.0 in
    let ih : count_present (take k (drop (suc a) m)) ≡ length (present_from m k (suc a)) = count_from m k (suc a) (omega arith) in
    rw (mark_present m a x f.1, drop_below m a x f.1, if_length (present x) a (present_from m k (suc a)), ih)

-- ---- conflicts

pub conflicts_length : (w : ℕ) (m l : List ℕ) → length (conflicts w m l) ≡ length m
unfolding conflicts
conflicts_length w [] l = refl
conflicts_length w (x ∷ m) [] = refl
conflicts_length w (x ∷ m) (y ∷ l) = ap suc (conflicts_length w m l)

-- a place is in conflict only where it is present, and stays so
pub conflicts_present : (w : ℕ) → w < 256 → (m l : List ℕ) (i : ℕ) → present_at (conflicts w m l) i ≡ present_at m i
unfolding conflicts present_at
conflicts_present w h [] l i = refl
conflicts_present w h (x ∷ m) [] i = refl
conflicts_present w h (x ∷ m) (y ∷ l) zero =
    if_elim (λ (z : ℕ). present z ≡ present x) (present x && parsed y) _ _
    (λ e. conflict_present w h ∙ sym (left (present x) (parsed y) e))
    (λ _. refl)
conflicts_present w h (x ∷ m) (y ∷ l) (suc i) = conflicts_present w h m l i

pub conflicts_good : (n w : ℕ) (m l : List ℕ) → w < n → all (mark_good parsed n) m ≡ true → all (mark_good parsed n) (conflicts w m l) ≡ true
unfolding conflicts all
conflicts_good n w [] l h e = refl
conflicts_good n w (x ∷ m) [] h e = e
conflicts_good n w (x ∷ m) (y ∷ l) h e =
    both _ _
    (if_elim (λ (z : ℕ). mark_good parsed n z ≡ true) (present x && parsed y) _ _
    (λ _. conflict_good parsed n w h)
    (λ _. left _ (all (mark_good parsed n) m) e))
    (conflicts_good n w m l h (right (mark_good parsed n x) _ e))

-- ---- the winner

-- the first place at which one list is parsed and the other is not; `first` says that it is the first that is parsed
pub record Differs (i : ℕ) (m l : List ℕ) (p : Picked) : Type 0 where
  pub place : ℕ
  pub first : Bool
  pub at : p.place ≡ some (i + place)
  pub wins : p.first ≡ first
  pub ours : present_at m place ≡ not first
  pub theirs : present_at l place ≡ first

xor_not : (a b : Bool) → xor a b ≡ true → not b ≡ a
unfolding xor
xor_not true true e = e
xor_not true false e = refl
xor_not false true e = refl
xor_not false false e = sym e

pub pick_case : (i : ℕ) (m l : List ℕ) → (pick_from i m l ≡ record { first = true; place = none }) ⊎ Differs i m l (pick_from i m l)
unfolding pick_from present_at present
pick_case i [] l = inl refl
pick_case i (x ∷ m) [] = inl refl
pick_case i (x ∷ m) (y ∷ l) =
    if_elim (λ (p : Picked). (p ≡ record { first = true; place = none }) ⊎ Differs i (x ∷ m) (y ∷ l) p) (xor (parsed x) (parsed y)) _ _
    (λ e. let z : i ≡ i + 0 = omega arith in
    inr (record { place = 0; first = parsed x; at = ap some z; wins = refl; ours = refl; theirs = xor_not (parsed x) (parsed y) e }))
    (λ _. ⊎_elim inl
    (λ (d : Differs (suc i) m l (pick_from (suc i) m l)).
    let z : suc i + d.place ≡ i + suc d.place = omega arith in
    inr (record { place = suc d.place; first = d.first; at = d.at ∙ ap some z; wins = d.wins; ours = d.ours; theirs = d.theirs }))
    (pick_case (suc i) m l))
