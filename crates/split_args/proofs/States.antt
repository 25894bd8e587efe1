-- The state after splitting, and the slices cleared and filled.
use mathlib.Core.Path.{◌≡◌, refl, sym, subst, ◌∙◌, ap}
use mathlib.Core.List.{List, [], ◌∷◌, ◌++◌, append-nil}
use mathlib.Core.Option.{Option, some, none}
use Prim.Native.Nat.{ℕ, zero, suc, ◌+◌, ◌-◌, ◌*◌, ◌≤◌, ◌<◌}
use native.Mathlib.Nat.{zero-add, sub-zero, zero-sub, suc-sub-suc}
use native.Mathlib.Omega.{arith}
use lib.ListN.{length, set, take, drop, replicate, length-set, length-replicate, replicate-append-replicate, drop_of_length-le}
use lib.Seq.{sets, sets-eq, length-sets, length-take-le, set-append_left, drop-length}
use borrow.Author.Tests.{le-leb}
use Rattle.rules.specs.Base.{minus, write}
use Rattle.rules.specs.Outcome.{ok, ◌>>=◌, at}
use Rattle.rules.specs.Accept.{Letters}
use Rattle.rules.specs.State.{State, marker_mark, construct, empty_state}
use Rattle.rules.specs.Run.{padded}
use Rattle.rules.specs.Calls.{to_raw}
use Rattle.rules.specs.declared.State.{State as Raw}
use Rattle.state_marks.specs.Written.{marker_number}
use Rattle.state_marks.proofs.Mark.{marker_told}
use Rattle.split_args.specs.declared.Ended.{Ended}
use Rattle.split_args.specs.Construct.{starting_state, Unmarked, SheetAndRoom, SplitWrites, SplitEnds}

write_set : (l : List ℕ) (i x : ℕ) → i < length l → write l i x ≡ some (set l i x)
unfolding write
write_set [] i x h = absurd (omega arith)
write_set (y ∷ l) zero x h = refl
write_set (y ∷ l) (suc i) x h = rw (write_set l i x (omega arith), write)

zeros_padded : (n : ℕ) → n ≤ 256 → padded 256 (replicate n 0) ≡ replicate 256 0
unfolding padded
zeros_padded n h =
    let all : n + (256 - n) ≡ 256 = omega arith in
    rw (length-replicate {A = ℕ} n 0) (replicate-append-replicate n (256 - n) 0 ∙ ap (λ (k : ℕ). replicate {A = ℕ} k 0) all)

-- the marker's place, as the definition has it
abbrev pub marker_of : ℕ → Option ℕ
marker_of zero = none
marker_of (suc i) = some i

marked_by : (mark n j : ℕ) → j < n
    → construct mark n (some j) ≡ ok (record { marks = set (replicate n 0) j mark; remaining = n - 1; current = none; start = 0; end = n })
unfolding construct minus at ◌>>=◌
marked_by mark n j h =
    rw (
      write_set (replicate n 0) j mark (omega (arith, length-replicate {A = ℕ} n 0)),
      le-leb 1 n (omega arith),
    )

abbrev started : ℕ → ℕ → State
started n j = record { marks = set (replicate n 0) j marker_number; remaining = n - 1; current = none; start = 0; end = n }

marked : (n j : ℕ) → j < n → construct marker_mark n (some j) ≡ ok (started n j)
marked n j h = subst (λ (k : ℕ). construct k n (some j) ≡ ok (started n j)) marker_told (marked_by marker_number n j h)

one_padded : (n j : ℕ) → n ≤ 256 → j < n → padded 256 (set (replicate n 0) j marker_number) ≡ set (replicate 256 0) j marker_number
unfolding padded
one_padded n j h l =
    rw (length-set {A = ℕ} (replicate n 0) j marker_number)
    (sym (set-append_left (replicate n 0) _ j marker_number (omega (arith, length-replicate {A = ℕ} n 0)))
    ∙ ap (λ (z : List ℕ). set z j marker_number) (zeros_padded n h))

pub record StartState (n m : ℕ) : Type 0 where
  pub state : State
  pub same : construct marker_mark n (marker_of m) ≡ ok state
  pub raw : starting_state n m ≡ to_raw state

pub starts : (n m : ℕ) → n ≤ 256 → m ≤ n → StartState n m
unfolding construct starting_state to_raw
starts n zero h l = record {
  state = record { marks = replicate n 0; remaining = n; current = none; start = 0; end = n };
  same = refl;
  raw = λ i. record {
    marks = sym (zeros_padded n h) i;
    count = sym (length-replicate {A = ℕ} n 0) i;
    remaining = n;
    current = 0;
    start = 0;
    end = n;
  };
}
starts n (suc j) h l = record {
  state = started n j;
  same = marked n j l;
  raw = λ i. record {
    marks = sym (one_padded n j h l) i;
    count = sym (length-set {A = ℕ} (replicate n 0) j marker_number ∙ length-replicate {A = ℕ} n 0) i;
    remaining = n - 1;
    current = 0;
    start = 0;
    end = n;
  };
}

pub empty_raw : starting_state 0 0 ≡ to_raw empty_state
unfolding starting_state to_raw empty_state padded
empty_raw = refl

-- ---- words over zeros
drop_zeros : (n k : ℕ) → drop k (replicate {A = ℕ} n 0) ≡ replicate (n - k) 0
drop_zeros n zero = rw (sub-zero n)
drop_zeros zero (suc k) = rw (zero-sub (suc k))
drop_zeros (suc n) (suc k) = drop_zeros n k ∙ rw (suc-sub-suc n k)

pub padded_words : (w : List ℕ) (n : ℕ) → length w ≤ n → sets (replicate n 0) 0 w ≡ padded n w
unfolding padded
padded_words w n h =
    sets-eq w (replicate n 0) 0 (omega (arith, length-replicate {A = ℕ} n 0))
    ∙ rw (zero-add (length w), drop_zeros n (length w))

pub all_zero : (o : List ℕ) (n : ℕ) → n ≡ length o → sets o 0 (replicate n 0) ≡ replicate n 0
all_zero o n e =
    sets-eq (replicate n 0) o 0 (omega (arith, length-replicate {A = ℕ} n 0))
    ∙ rw (zero-add (length (replicate {A = ℕ} n 0)), length-replicate {A = ℕ} n 0, e, drop-length o, append-nil (replicate {A = ℕ} (length o) 0))

pub fill_long : (q p : List ℕ) (i k : ℕ) → q ≡ sets p i (replicate k 0) → length q ≡ length p
fill_long q p i k e = ap length e ∙ length-sets p i (replicate k 0)

-- ---- `begin`
module _ (n m : ℕ) (marks : List ℕ) (u : Unmarked marks) where
  pub no_marker : m ≡ 0 → ◌≡◌ {A = Raw} (record { marks = marks; count = n; remaining = n; current = 0; start = 0; end = n }) (starting_state n m)
  unfolding starting_state
  no_marker h = rw (h, u.zeros)

  pub one_marker :
      (m ≡ 0 → ⊥)
      → ◌≡◌ {A = Raw} (record { marks = set marks (m - 1) marker_number; count = n; remaining = n - 1; current = 0; start = 0; end = n }) (starting_state n m)
  unfolding starting_state
  one_marker h = go m h
    where
      go : (m : ℕ) → (m ≡ 0 → ⊥) → ◌≡◌ {A = Raw} (record { marks = set marks (m - 1) marker_number; count = n; remaining = n - 1; current = 0; start = 0; end = n }) (starting_state n m)
      go zero h = absurd (h refl)
      go (suc i) h = let back : suc i - 1 ≡ i = omega arith in rw (u.zeros, back)

-- ---- `construct`
-- the first words of a slice, and zeros behind them
zeros_behind : (p : List ℕ) (n m : ℕ) → n ≤ length p → length p ≡ m → sets p n (replicate (length p - n) 0) ≡ padded m (take n p)
unfolding padded
zeros_behind p n m h e =
    let zeros : length (replicate {A = ℕ} (length p - n) 0) ≡ length p - n = length-replicate {A = ℕ} (length p - n) 0 in
    let left : length p - n ≡ m - length (take n p) = omega (arith, e, length-take-le n p h) in
    sets-eq (replicate (length p - n) 0) p n (omega (arith, zeros))
    ∙ ap (λ (w : List ℕ). take n p ++ replicate (length p - n) 0 ++ w)
    (drop_of_length-le p {i = n + length (replicate {A = ℕ} (length p - n) 0)} (omega (arith, zeros)))
    ∙ append-nil (take n p ++ replicate {A = ℕ} (length p - n) 0)
    ∙ ap (λ (k : ℕ). take n p ++ replicate k 0) left

pub constructs :
    (l : Letters) (s o p q : List ℕ) (r : Ended)
    → SheetAndRoom s o
    → length p ≡ length o
    → SplitWrites l s p r
    → (c : ℕ)
    → c ≡ r.count
    → q ≡ sets p (7 * c) (replicate (length p - 7 * c) 0)
    → SplitEnds l s (length o) q r
constructs l s o p q r g e z c h f = record {
  line = z.line;
  same = z.same;
  number = z.number;
  place = z.place;
  words =
      let within : 7 * c ≤ length p = omega (arith, g.room, z.marked.few) in
      let here : take (7 * c) p ≡ z.line.records = ap (λ (k : ℕ). take (7 * k) p) h ∙ z.words in
      f ∙ zeros_behind p (7 * c) (length o) within e ∙ ap (padded (length o)) here;
  marked = z.marked;
  state = z.state;
}
