-- Laws of states with lent marks: what a good one is, its unused places, `remove`, conflicts, and the test of a state.
use mathlib.Core.Path.{◌≡◌, refl, sym, ap, subst, ◌∙◌}
use mathlib.Core.Bool.{Bool, true, false, not, ◌&&◌, false≢true}
use mathlib.Core.List.{List, [], ◌∷◌, ◌++◌}
use mathlib.Core.Option.{some, none}
use Prim.Native.Nat.{ℕ, zero, suc, ◌+◌, ◌-◌, ◌≤◌, ◌<◌}
use native.Mathlib.Nat.{not-suc-le-zero, le_of_suc-le-suc}
use native.Mathlib.Omega.{arith}
use lib.Dec.{eqb}
use lib.ListN.{length, get_or, take, drop, set, get_elem?, replicate, length-append, length-take, length-drop, length-set, take-append-drop}
use lib.Seq.{length-take-le, take-set-lt, drop-set-lt, take_at, drop_at}
use borrow.Author.Tests.{eq-eqb, lt-ltb, le-ltb, le-leb, lt-leb, eqb-true, eqb-false, ltb-true, not-true}
use Rattle.std.specs.Prelude.{if◌then◌else◌}
use Rattle.std.proofs.lemmas.List.{take_all}
use Rattle.rules.specs.Base.{all}
use Rattle.rules.specs.Outcome.{ok, refused, refuse, ◌>>=◌, at}
use Rattle.rules.specs.Tree.{zeros}
use Rattle.rules.specs.State.{State, parsed, present_at, present_from, unused, in_scope, remove, with_current, conflicts, save_conflicts, count_present, used_below, mark_good, current_good}
use Rattle.rules.specs.State.{state_good}
use Rattle.rules.specs.Calls.{from_raw, to_raw, state_in}
use Rattle.rules.specs.Run.{padded}
use Rattle.rules.specs.Codes.{place_of}
use Rattle.rules.specs.Sound.{Good}
use Rattle.rules.specs.declared.State.{State as Raw}
use Rattle.rules.proofs.Places.{left, right, from_same, count_from, conflicts_length, conflicts_present, conflicts_good}
use Rattle.rules.proofs.CodeLaws.{code_place, place_next}
use Rattle.rules.proofs.StepLaws.{Free, removed, removed_good, removed_left, remove_free, all_used, test_good, good_test}
use Rattle.state_marks.specs.Lent.{raw_of, numbers_of, state_of, Fine, Removed}
use Rattle.state_marks.specs.declared.Numbers.{Numbers}
use Rattle.state_marks.proofs.Mark.{present_of, used_of}
use Rattle.state_marks.proofs.Marks.{from_take}

-- ---- a good state

pub mark_at : (m : List ℕ) (n i : ℕ) → i < n → n ≤ length m → get_elem? (take n m) i ≡ some (get_or m i 0)
mark_at m zero i h l = absurd (not-suc-le-zero h)
mark_at [] (suc n) i h l = absurd (not-suc-le-zero l)
mark_at (x ∷ m) (suc n) zero h l = refl
mark_at (x ∷ m) (suc n) (suc i) h l = mark_at m n i (le_of_suc-le-suc h) (le_of_suc-le-suc l)

pub unused_part : (m : List ℕ) (n a b : ℕ) → b ≤ n → a ≤ b → present_from (take n m) (b - a) a ≡ present_from m (b - a) a
unused_part m n a b h l = from_take m n (b - a) a (omega arith)

module _ (m : List ℕ) (p : Numbers) (f : Fine m p) where
  pub fine_long : p.count ≤ length m
  unfolding state_of from_raw
  fine_long = omega (arith, length-take p.count m, f.good.long)

  -- the unused places, by the lent marks
  pub fine_unused : unused (state_of m p) ≡ present_from m (p.end - p.start) p.start
  unfolding state_of from_raw unused
  fine_unused = unused_part m p.count p.start p.end f.inside f.order

-- ---- `remove`

module _ (mark : ℕ) (m : List ℕ) (p : Numbers) (i : ℕ) (f : Fine m p) (told : parsed mark ≡ true) where
  kept : remove mark (state_of m p) i ≡ ok (state_of m p) → Removed mark m p i m p
  kept e = record { same = e; count = refl; long = refl; fine = f }

  -- a and b are the scope's ends, as the code holds them
  pub below_scope : (a : ℕ) → a ≡ p.start → i < a → Removed mark m p i m p
  unfolding remove in_scope state_of from_raw
  below_scope a start h = kept (rw (lt-leb p.start i (omega arith)))

  module _ (a b : ℕ) (start : a ≡ p.start) (end : b ≡ p.end) where
    pub above_scope : a ≤ i → b ≤ i → Removed mark m p i m p
    unfolding remove in_scope state_of from_raw
    above_scope h l = kept (rw (le-leb p.start i (omega arith), le-ltb i p.end (omega arith)))

    pub used_before_lem : a ≤ i → i < b → (x : Bool) → x ≡ parsed (get_or m i 0) → x ≡ true → Removed mark m p i m p
    unfolding remove in_scope state_of from_raw ◌>>=◌ at
    used_before_lem h l x e g =
        let here = mark_at m p.count i (omega (arith, f.inside)) (fine_long m p f) in
        kept (rw (le-leb p.start i (omega arith), lt-ltb i p.end (omega arith), here, used_of (get_or m i 0) x e g))

  free : p.start ≤ i → i < p.end → (x : Bool) → x ≡ parsed (get_or m i 0) → x ≡ false → Free (state_of m p) i
  unfolding state_of from_raw present_at
  free h l x e g =
      let here = mark_at m p.count i (omega (arith, f.inside)) (fine_long m p f) in
      record { from = h; to = l; here = rw (present_at, here) (present_of (get_or m i 0) x e g) }

  pub some_left : (a b : ℕ) → a ≡ p.start → b ≡ p.end → a ≤ i → i < b → (t : Bool) → t ≡ parsed (get_or m i 0) → t ≡ false → 1 ≤ p.remaining
  unfolding state_of from_raw
  some_left a b x y h l t e g =
      omega (arith, removed_left mark told p.count (state_of m p) i f.good (free (omega arith) (omega arith) t e g))

  removed_is : i < p.count → removed mark (state_of m p) i
      ≡ state_of (set m i mark) (record { count = p.count; remaining = p.remaining - 1; current = i + 1; start = p.start; end = p.end })
  unfolding state_of from_raw
  removed_is h = rw (take-set-lt p.count m i mark h, place_next i)

  pub used_now : (a b : ℕ) → a ≡ p.start → b ≡ p.end → a ≤ i → i < b → (t : Bool) → t ≡ parsed (get_or m i 0) → t ≡ false
      → Removed mark m p i (set m i mark) (record { count = p.count; remaining = p.remaining - 1; current = i + 1; start = p.start; end = p.end })
  used_now a b x y h l t e g =
      let below : i < p.count = omega (arith, f.inside) in
      let s : State = state_of m p in
      let here : Free s i = free (omega arith) (omega arith) t e g in
      record {
        same = remove_free mark told p.count s i f.good here ∙ ap ok (removed_is below);
        count = refl;
        long = length-set m i mark;
        fine = record {
          order = f.order;
          inside = f.inside;
          small = f.small;
          rest = rw (drop-set-lt p.count m i mark below) f.rest;
          good = subst (Good p.count) (removed_is below) (removed_good mark told p.count s i f.good here);
        };
      }

-- ---- conflicts

-- what `save_conflicts` leaves of the marks
abbrev pub marked : ℕ → ℕ → List ℕ → List ℕ → List ℕ
marked w n m l = conflicts w (take n m) (take n l) ++ drop n m

-- it is the state that the rules say, and as good as before
module _ (m l : List ℕ) (p q : Numbers) (w : ℕ) (f : Fine m p) (e : q.count ≡ p.count) where
  marked_long : length (conflicts w (take p.count m) (take p.count l)) ≡ p.count
  marked_long = conflicts_length w (take p.count m) (take p.count l) ∙ length-take-le p.count m (fine_long m p f)

  pub marked_is : save_conflicts (state_of m p) (state_of l q) w ≡ state_of (marked w p.count m l) p
  unfolding save_conflicts state_of from_raw
  marked_is = rw (e, take_at (conflicts w (take p.count m) (take p.count l)) (drop p.count m) p.count marked_long)

  pub marked_whole : length (marked w p.count m l) ≡ length m
  marked_whole =
      let long = fine_long m p f in
      length-append (conflicts w (take p.count m) (take p.count l)) (drop p.count m)
      ∙ omega (arith, marked_long, length-drop p.count m)

  saved_good : w < p.count → Good p.count (save_conflicts (state_of m p) (state_of l q) w)
  unfolding save_conflicts unused
  saved_good h =
      let a : List ℕ = (state_of m p).marks in
      let b : List ℕ = (state_of l q).marks in
      let low : w < 256 = omega (arith, f.small) in
      record {
        small = f.small;
        long = conflicts_length w a b ∙ f.good.long;
        order = f.good.order;
        inside = f.good.inside;
        marks = conflicts_good p.count w a b h f.good.marks;
        current = f.good.current;
        counted = f.good.counted ∙ ap length (sym (from_same _ a _ _ (λ j _. conflicts_present w low a b j)));
      }

  pub marked_fine : w < p.count → Fine (marked w p.count m l) p
  marked_fine h = record {
    order = f.order;
    inside = f.inside;
    small = f.small;
    rest = rw (drop_at (conflicts w (take p.count m) (take p.count l)) (drop p.count m) p.count marked_long) f.rest;
    good = subst (Good p.count) marked_is (saved_good h);
  }

-- ---- the test of a state

pub record StateKept (fields n : ℕ) (x : Raw) : Type 0 where
  pub count : x.count ≡ n
  pub small : n ≤ 256
  pub order : x.start ≤ x.end
  pub inside : x.end ≤ n
  pub current : x.current ≤ n
  pub rest : zeros (drop x.count x.marks) ≡ true
  pub good : Good n (from_raw x)
  pub marks : all (mark_good (used_below fields) n) (from_raw x).marks ≡ true

unfoldable test : ℕ → ℕ → Raw → Bool
test fields n x = eqb x.count n && zeros (drop x.count x.marks) && state_good fields n (from_raw x)

current_test : (n c : ℕ) → c ≤ n → current_good n (place_of c) ≡ true
unfolding current_good place_of
current_test n zero h = refl
current_test n (suc i) h = lt-ltb i n (omega arith)

test_current : (n c : ℕ) → current_good n (place_of c) ≡ true → c ≤ n
unfolding current_good place_of
test_current n zero h = omega arith
test_current n (suc i) h = omega (arith, ltb-true i n h)

module _ (fields n : ℕ) (x : Raw) where
  test_kept : test fields n x ≡ true → StateKept fields n x
  unfolding test state_good from_raw
  test_kept h =
      let a : Bool = eqb x.count n in
      let b : Bool = zeros (drop x.count x.marks) in
      let g : Bool = state_good fields n (from_raw x) in
      let (good, marks) = test_good fields n (from_raw x) (right (a && b) g h) in
      record {
        count = eqb-true _ _ (left a b (left (a && b) g h));
        small = good.small;
        order = good.order;
        inside = good.inside;
        current = test_current n x.current good.current;
        rest = right a b (left (a && b) g h);
        good = good;
        marks = marks;
      }

  kept_test : StateKept fields n x → test fields n x ≡ true
  unfolding test
  kept_test k = rw (eq-eqb _ _ k.count, k.rest, good_test fields n (from_raw x) k.good k.marks)

  pub accepted : StateKept fields n x → state_in fields n x ≡ ok (from_raw x)
  unfolding state_in test
  accepted k = rw (kept_test k)

  not_in : test fields n x ≡ false → state_in fields n x ≡ refused (refuse 29 none)
  unfolding state_in test
  not_in e = rw e

  pub not_kept : (StateKept fields n x → ⊥) → state_in fields n x ≡ refused (refuse 29 none)
  not_kept h = go (test fields n x) refl
    where
      go : (b : Bool) → test fields n x ≡ b → state_in fields n x ≡ refused (refuse 29 none)
      go true e = absurd (h (test_kept e))
      go false e = not_in e

  pub in_kept : state_in fields n x ≡ ok (from_raw x) → StateKept fields n x
  in_kept h = go (test fields n x) refl
    where
      go : (b : Bool) → test fields n x ≡ b → StateKept fields n x
      go true e = test_kept e
      go false e = let z : refused (refuse 29 none) ≡ ok (from_raw x) = sym (not_in e) ∙ h in
          absurd (let o : ◌≡◌ {A = ℕ} 0 1 = cc in omega arith)

  pub refusing : (StateKept fields n x → ⊥) → state_in fields n x ≡ (if false then ok (from_raw x) else refused (refuse 29 none))
  refusing h = not_kept h

-- the code's last test decides; a and b are the scope's ends, as the code holds them
module _ (fields n : ℕ) (x : Raw) (a b : ℕ) (start : a ≡ x.start) (end : b ≡ x.end)
    (long : length x.marks ≡ 256) (same : x.count ≡ n) (small : n ≤ 256) (order : a ≤ b) (inside : b ≤ n) where
  unused_count : count_present (take (b - a) (drop a x.marks)) ≡ length (unused (from_raw x))
  unfolding unused from_raw
  unused_count =
      count_from x.marks (b - a) a (omega arith)
      ∙ rw (start, end) (ap length (sym (unused_part x.marks x.count x.start x.end (omega arith) (omega arith))))

  pub deciding : x.current ≤ n → all (mark_good (used_below fields) n) (take n x.marks) ≡ true → zeros (drop n x.marks) ≡ true
      → (c : ℕ) → c ≡ count_present (take (b - a) (drop a x.marks))
      → state_in fields n x ≡ (if eqb c x.remaining then ok (from_raw x) else refused (refuse 29 none))
  unfolding from_raw
  deciding current marks rest c e = go (eqb c x.remaining) refl
    where
      counted : c ≡ length (unused (from_raw x))
      counted = e ∙ unused_count

      go : (t : Bool) → eqb c x.remaining ≡ t → state_in fields n x ≡ (if t then ok (from_raw x) else refused (refuse 29 none))
      go true t = accepted fields n x (record {
        count = same;
        small = small;
        order = omega arith;
        inside = omega arith;
        current = current;
        rest = rw same rest;
        good = record {
          small = small;
          long = length-take-le x.count x.marks (omega arith) ∙ same;
          order = omega arith;
          inside = omega arith;
          marks = all_used fields n _ (rw same marks);
          current = current_test n x.current current;
          counted = sym (eqb-true c x.remaining t) ∙ counted;
        };
        marks = rw same marks;
      })
      go false t = not_kept fields n x (λ k. eqb-false c x.remaining t (counted ∙ sym k.good.counted))

-- marks that are refused
module _ (fields n : ℕ) (x : Raw) (k : StateKept fields n x) where
  pub marks_kept : (b : Bool) → b ≡ all (mark_good (used_below fields) n) (take n x.marks) → not b ≡ true → ⊥
  unfolding from_raw
  marks_kept b e t =
      let z = k.count in
      let g : all (mark_good (used_below fields) n) (take n x.marks) ≡ true = rw z at k.marks in
      false≢true (sym (not-true b t) ∙ e ∙ g)

  pub rest_kept : (b : Bool) → b ≡ zeros (drop n x.marks) → not b ≡ true → ⊥
  rest_kept b e t =
      let z = k.count in
      let g : zeros (drop n x.marks) ≡ true = rw z at k.rest in
      false≢true (sym (not-true b t) ∙ e ∙ g)

-- what the code's range takes is all that is behind
pub zeros_behind : (m : List ℕ) (n : ℕ) → zeros (take (length m - n) (drop n m)) ≡ zeros (drop n m)
zeros_behind m n = ap zeros (take_all _ (drop n m) (omega (arith, length-drop n m)))

-- ---- as it is handed over

zeros_all : (l : List ℕ) → zeros l ≡ true → l ≡ replicate (length l) 0
unfolding zeros all
zeros_all [] h = refl
zeros_all (x ∷ l) h =
    let z : 0 ≡ x = eqb-true 0 x (left (eqb 0 x) (all (eqb 0) l) h) in
    rw (← z) (ap (λ (k : List ℕ). 0 ∷ k) (zeros_all l (right (eqb 0 x) (all (eqb 0) l) h)))

module _ (m : List ℕ) (p : Numbers) (f : Fine m p) where
  pub fine_in : (fields : ℕ) → all (mark_good (used_below fields) p.count) (state_of m p).marks ≡ true
      → state_in fields p.count (raw_of m p) ≡ ok (state_of m p)
  unfolding state_of from_raw
  fine_in fields marks = accepted fields p.count (raw_of m p) (record {
    count = refl;
    small = f.small;
    order = f.order;
    inside = f.inside;
    current = test_current p.count p.current f.good.current;
    rest = f.rest;
    good = f.good;
    marks = marks;
  })

  pub raw_back : length m ≡ 256 → to_raw (state_of m p) ≡ raw_of m p
  unfolding state_of from_raw to_raw padded
  raw_back long =
      let l : length (take p.count m) ≡ p.count = f.good.long in
      let d : length (drop p.count m) ≡ 256 - p.count = length-drop p.count m ∙ rw long in
      let z : replicate (256 - p.count) 0 ≡ drop p.count m = sym (zeros_all (drop p.count m) f.rest ∙ rw d) in
      rw (l, z, take-append-drop p.count m, code_place p.current)

pub kept_fine : (fields n : ℕ) (x : Raw) → StateKept fields n x → Fine x.marks (numbers_of x)
unfolding state_of
kept_fine fields n x k =
    let z : n ≡ x.count = sym k.count in
    record {
      order = k.order;
      inside = rw z at k.inside;
      small = rw z at k.small;
      rest = k.rest;
      good = rw z at k.good;
    }

-- ---- another current place

module _ (m : List ℕ) (p : Numbers) (c : ℕ) where
  pub current_is : with_current (place_of c) (state_of m p)
      ≡ state_of m (record { count = p.count; remaining = p.remaining; current = c; start = p.start; end = p.end })
  unfolding with_current state_of from_raw
  current_is = refl

  pub current_fine : Fine m p → c ≤ p.count
      → Fine m (record { count = p.count; remaining = p.remaining; current = c; start = p.start; end = p.end })
  unfolding state_of from_raw unused
  current_fine f h = record {
    order = f.order;
    inside = f.inside;
    small = f.small;
    rest = f.rest;
    good = record {
      small = f.small;
      long = f.good.long;
      order = f.order;
      inside = f.inside;
      marks = f.good.marks;
      current = current_test p.count c h;
      counted = f.good.counted;
    };
  }
