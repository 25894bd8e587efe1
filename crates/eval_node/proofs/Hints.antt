-- Where a repeat over a leaf may search from: a leaf uses the first place that it seeks, so behind what it used. A guard or an
-- optional over it leaves the state that it left, or the one that it was given.
use mathlib.Core.Bool.{Bool, true, false, false≢true}
use mathlib.Core.List.{List}
use mathlib.Core.Logic.{◌⊎◌, inl, inr, ⊎_elim}
use mathlib.Core.Option.{Option, some, none, some-injective, none-ne-some}
use mathlib.Core.Path.{◌≡◌, refl, sym, ◌∙◌, ap, subst}
use Prim.Native.Nat.{ℕ, suc, ◌-◌, ◌≤◌, ◌<◌}
use native.Mathlib.Nat.{eq-or-lt_of_le}
use native.Mathlib.Omega.{arith}
use lib.ListN.{length, get_or, take}
use borrow.Author.Tests.{lt-ltb, le-ltb}
use Rattle.std.specs.Prelude.{if◌then◌else◌}
use Rattle.rules.specs.Outcome.{Outcome, ok, refused, fault, Refusal, ◌>>=◌, refuse}
use Rattle.rules.specs.Value.{Base, Value, absent, present}
use Rattle.rules.specs.Tree.{Named, Position, Tree, Flag, Argument, Positional, Optional, Many, Some, Count, Last, Choice, Fallback, Guard}
use Rattle.rules.specs.Split.{Item}
use Rattle.rules.specs.State.{State, Found, parsed, present_at, unused, get, find, with_current}
use Rattle.rules.specs.Take.{Took, took, Taken, matches_arg, take_flag, value_text, take_value, take_arg, is_operand, operand, take_positional_word}
use Rattle.rules.specs.Calls.{from_raw}
use Rattle.rules.specs.Eval.{Ran as Run, ended, after, ◌then◌, visit, leaf, flag_value, eval_flag, argument_value, eval_argument, positional_value, eval_positional, swallowed, parse_option}
use Rattle.rules.specs.Eval.{eval_optional, eval_guard, eval}
use Rattle.rules.specs.Sound.{Good}
use Rattle.rules.proofs.Acceptance.{lookup_some}
use Rattle.rules.proofs.Places.{mark_present}
use Rattle.rules.proofs.Steps.{Step}
use Rattle.rules.proofs.StepLaws.{Free, Finds, find_good, removed, removed_other, removed_gone, removed_left, removed_good, removed_step, remove_free, get_free, free_below_lem}
use Rattle.rules.proofs.StepLaws.{current_good_lem}
use Rattle.rules.proofs.CodeLaws.{code_place}
use Rattle.rules.specs.Codes.{place_code}
use Rattle.state_marks.specs.declared.Numbers.{Numbers}
use Rattle.state_marks.specs.Lent.{state_of, Fine}
use Rattle.state_marks.proofs.Laws.{fine_long, mark_at}
use Rattle.state_marks.proofs.Marks.{present_at_lem}
use Rattle.take_search.proofs.Search.{NoneIn, found_first}
use Rattle.take_search.specs.States.{CanTake, LeftState}
use Rattle.take.specs.Takes.{Skips}
use Rattle.take.proofs.Laws.{skip_none}
use Rattle.eval_shortcut.specs.Children.{Hint}
use Rattle.eval_words.specs.Values.{next_from}

-- a run that ended so
abbrev ran : Run Value → Outcome Value → Run Value
ran r o = record { outcome = o; state = r.state; tries = r.tries; trace = r.trace }

-- ---- what a leaf used

-- something: `current` is the last place used, and up to it nothing more is to be found
record Moved (is : List Item) (test : Item → Bool) (s u : State) : Type 0 where
  place : ℕ
  current : u.current ≡ some place
  fewer : u.remaining < s.remaining
  behind : s.start ≤ place
  below : place < s.end
  passed : NoneIn is test u.marks s.start (suc place)

-- or nothing
Goes : List Item → (Item → Bool) → State → State → Type 0
Goes is test s u = (u ≡ s) ⊎ Moved is test s u

-- a place more that is used
one_more_lem : (is : List Item) (test : Item → Bool) (m m' : List ℕ) (a i : ℕ)
    → ((k : ℕ) → present_at m' k ≡ true → present_at m k ≡ true)
    → present_at m' i ≡ false
    → NoneIn is test m a i
    → NoneIn is test m' a (suc i)
one_more_lem is test m m' a i kept gone f k l b p x e =
    ⊎_elim
    (λ (z : k ≡ i). absurd (false≢true (sym gone ∙ subst (λ (j : ℕ). present_at m' j ≡ true) z p)))
    (λ (z : k < i). f k l z (kept k p) x e)
    (eq-or-lt_of_le (omega arith))

leaf_took : {A : Type 0} (s : State) (o : Outcome (Took A)) (f : A → State → Outcome Value) (t : Took A) → o ≡ ok t
    → (leaf s o f).state ≡ t.state
unfolding leaf
leaf_took {A} s o f t e = ap (λ (x : Outcome (Took A)). (leaf s x f).state) e

leaf_refused : {A : Type 0} (s : State) (o : Outcome (Took A)) (f : A → State → Outcome Value) (r : Refusal) → o ≡ refused r
    → (leaf s o f).state ≡ s
unfolding leaf
leaf_refused {A} s o f r e = ap (λ (x : Outcome (Took A)). (leaf s x f).state) e

value_got : (o : Option Item) (t : List ℕ) → value_text o ≡ some t → (x : Item) × (o ≡ some x)
unfolding value_text
value_got none t e = absurd (none-ne-some t e)
value_got (some x) t e = (x, refl)

module _ (k : ℕ) (told : parsed k ≡ true) (is : List Item) (s : State) (g : Good (length is) s) where
  before_found : (test : Item → Bool) (x : Found) → find is test s ≡ ok (some x) → NoneIn is test s.marks s.start x.place
  unfolding find unused
  before_found test x e =
      let o = g.order in
      let i = g.inside in
      found_first is test s.marks (s.end - s.start) s.start (omega arith) x e

  -- the place that was found is used
  found_used : (test : Item → Bool) (x : Found) → find is test s ≡ ok (some x) → Free s x.place
      → NoneIn is test (removed k s x.place).marks s.start (suc x.place)
  found_used test x e f =
      one_more_lem is test s.marks (removed k s x.place).marks s.start x.place
      (removed_step k told (length is) s x.place g f).kept
      (removed_gone k told (length is) s x.place g f)
      (before_found test x e)

  found_moved : (test : Item → Bool) (x : Found) → find is test s ≡ ok (some x) → Free s x.place
      → Moved is test s (removed k s x.place)
  found_moved test x e f =
      let l = removed_left k told (length is) s x.place g f in
      record {
        place = x.place;
        current = refl;
        fewer = omega arith;
        behind = f.from;
        below = f.to;
        passed = found_used test x e f;
      }

  flag_goes : (n : ℕ) (m : Named) (switch : Bool) → Goes is (matches_arg m false) s (eval_flag k is n m switch s).state
  unfolding Goes eval_flag take_flag took ◌>>=◌
  flag_goes n m switch = let f = find_good is (matches_arg m false) s g in go f.0 f.1 f.2
    where
      go : (x : Option Found) → find is (matches_arg m false) s ≡ ok x → Finds is (matches_arg m false) s x
          → Goes is (matches_arg m false) s (eval_flag k is n m switch s).state
      go none e h = inl (leaf_took s (take_flag k is m s) (flag_value n m switch) (record { answer = false; state = s }) (rw e))
      go (some x) e h =
          let r = remove_free k told (length is) s x.place g h.free in
          let u : State = removed k s x.place in
          inr (subst (Moved is (matches_arg m false) s)
          (sym (leaf_took s (take_flag k is m s) (flag_value n m switch) (record { answer = true; state = u }) (rw (e, r))))
          (found_moved (matches_arg m false) x e h.free))

  positional_goes : (n : ℕ) (p : Position) (b : Base) → Goes is is_operand s (eval_positional k is n p b s).state
  unfolding Goes eval_positional take_positional_word took ◌>>=◌ with_current
  positional_goes n p b = let f = find_good is is_operand s g in go f.0 f.1 f.2
    where
      go : (x : Option Found) → find is is_operand s ≡ ok x → Finds is is_operand s x
          → Goes is is_operand s (eval_positional k is n p b s).state
      go none e h = inl (leaf_took s (take_positional_word k is s) (positional_value n p b) (record { answer = none; state = s }) (rw e))
      go (some x) e h =
          let i : ℕ = x.place in
          let c : State = with_current (some i) s in
          let f : Free c i = record { from = h.free.from; to = h.free.to; here = h.free.here } in
          let r = remove_free k told (length is) c i (current_good_lem (length is) s i g (free_below_lem (length is) s i g h.free)) f in
          let u : State = removed k s i in
          inr (subst (Moved is is_operand s)
          (sym (leaf_took s (take_positional_word k is s) (positional_value n p b) (record { answer = some (operand x); state = u }) (rw (e, r))))
          (found_moved is_operand x e h.free))

  -- the place behind it stays free
  next_free : (x : Found) → Free s x.place → Free s (suc x.place) → Free (removed k s x.place) (suc x.place)
  next_free x f next = record {
    from = next.from;
    to = next.to;
    here = removed_other k told (length is) s x.place g (suc x.place) (λ z. omega arith) ∙ next.here;
  }

  -- key and value
  both_moved : (test : Item → Bool) (x : Found) → find is test s ≡ ok (some x) → (f : Free s x.place) → Free s (suc x.place)
      → Moved is test s (removed k (removed k s x.place) (suc x.place))
  both_moved test x e f next =
      let i : ℕ = x.place in
      let u : State = removed k s i in
      let gu = removed_good k told (length is) s i g f in
      let fu = next_free x f next in
      let l = removed_left k told (length is) s i g f in
      let l' = removed_left k told (length is) u (suc i) gu fu in
      let a = f.from in
      record {
        place = suc i;
        current = refl;
        fewer = omega arith;
        behind = omega arith;
        below = next.to;
        passed = one_more_lem is test u.marks (removed k u (suc i)).marks s.start (suc i)
            (removed_step k told (length is) u (suc i) gu fu).kept
            (removed_gone k told (length is) u (suc i) gu fu)
            (found_used test x e f);
      }

  argument_goes : (n : ℕ) (m : Named) (b : Base) (adjacent : Bool)
      → Goes is (matches_arg m adjacent) s (eval_argument k is n m b adjacent s).state
  unfolding Goes eval_argument take_arg take_value took ◌>>=◌ with_current
  argument_goes n m b adjacent = let f = find_good is (matches_arg m adjacent) s g in go f.0 f.1 f.2
    where
      value : (x : Found) → find is (matches_arg m adjacent) s ≡ ok (some x) → Free s x.place
          → (t : List ℕ) → value_text (get is s (suc x.place)) ≡ some t
          → Goes is (matches_arg m adjacent) s (eval_argument k is n m b adjacent s).state
      value x e f t v =
          let i : ℕ = x.place in
          let got = value_got (get is s (suc i)) t v in
          let next = get_free is s (suc i) got.0 got.1 in
          let c : State = with_current (some (suc i)) s in
          let gc = current_good_lem (length is) s (suc i) g (free_below_lem (length is) s (suc i) g next) in
          let fc : Free c i = record { from = f.from; to = f.to; here = f.here } in
          let r = remove_free k told (length is) c i gc fc in
          let u : State = removed k s i in
          let r' = remove_free k told (length is) u (suc i) (removed_good k told (length is) s i g f) (next_free x f next) in
          let taken : Took (Option Taken) = record { answer = some (record { place = suc i; text = t }); state = removed k u (suc i) } in
          inr (subst (Moved is (matches_arg m adjacent) s)
          (sym (leaf_took s (take_arg k is m adjacent s) (argument_value n m b) taken (rw (e, v, r, r'))))
          (both_moved (matches_arg m adjacent) x e f next))

      key : (x : Found) → find is (matches_arg m adjacent) s ≡ ok (some x) → Free s x.place
          → (o : Option (List ℕ)) → value_text (get is s (suc x.place)) ≡ o
          → Goes is (matches_arg m adjacent) s (eval_argument k is n m b adjacent s).state
      key x e f none v =
          inl (leaf_refused s (take_arg k is m adjacent s) (argument_value n m b) (refuse 22 (some x.place)) (rw (e, v)))
      key x e f (some t) v = value x e f t v

      go : (x : Option Found) → find is (matches_arg m adjacent) s ≡ ok x → Finds is (matches_arg m adjacent) s x
          → Goes is (matches_arg m adjacent) s (eval_argument k is n m b adjacent s).state
      go none e h = inl (leaf_took s (take_arg k is m adjacent s) (argument_value n m b) (record { answer = none; state = s }) (rw e))
      go (some x) e h = key x e h.free (value_text (get is s (suc x.place))) refl

-- ---- what a guard and an optional leave of the state

guard_state : (lo hi : ℕ) (r : Run Value) → (eval_guard lo hi r).state ≡ r.state
unfolding eval_guard ◌then◌ after ended
guard_state lo hi r = go r.outcome
  where
    go : (o : Outcome Value) → (eval_guard lo hi (ran r o)).state ≡ r.state
    go (ok v) = refl
    go (refused e) = refl
    go (fault x) = refl

-- its child's state, or the one that it was given
optional_state : (catch : Bool) (s : State) (r : Run Value)
    → ((eval_optional catch s r).state ≡ r.state) ⊎ ((eval_optional catch s r).state ≡ s)
unfolding eval_optional parse_option ◌then◌ after ended
optional_state catch s r = go r.outcome
  where
    swallows : (e : Refusal) (b : Bool)
        → (◌then◌ {B = Value} (after (ran r (refused e)) (if b then ended {A = Option Value} (ok none) s else ended (refused e) r.state))
        (λ v t. ended (ok (elim v [ none ↦ absent | some x ↦ present x ])) t)).state ≡ (if b then s else r.state)
    swallows e true = refl
    swallows e false = refl

    either : (b : Bool) (u : State) → u ≡ (if b then s else r.state) → (u ≡ r.state) ⊎ (u ≡ s)
    either true u h = inr h
    either false u h = inl h

    go : (o : Outcome Value) → ((eval_optional catch s (ran r o)).state ≡ r.state) ⊎ ((eval_optional catch s (ran r o)).state ≡ s)
    go (ok v) = inl refl
    go (refused e) = let b = swallowed catch e s r.state in either b _ (swallows e b)
    go (fault x) = inl refl

-- ---- the hint, turn by turn

-- at the start of the scope
pub hint_first : (t : Tree) (area words m : List ℕ) (p : Numbers) → Fine m p → (f : ℕ) → f ≡ p.start → Hint t area words m p f
hint_first (Flag n names w) area words m p fine f e = skip_none area words _ m p fine f e
hint_first (Argument n names b a) area words m p fine f e = skip_none area words _ m p fine f e
hint_first (Positional n q b) area words m p fine f e = skip_none area words _ m p fine f e
hint_first (Optional c t) area words m p fine f e = hint_first t area words m p fine f e
hint_first (Many c t) area words m p fine f e = tt
hint_first (Some c t) area words m p fine f e = tt
hint_first (Count t) area words m p fine f e = tt
hint_first (Last t) area words m p fine f e = tt
hint_first (Choice t u) area words m p fine f e = tt
hint_first (Fallback v t) area words m p fine f e = tt
hint_first (Guard l h t) area words m p fine f e = hint_first t area words m p fine f e

-- the marks of a state, and those that are lent
lent_present : (m : List ℕ) (p : Numbers) → Fine m p → (k : ℕ) → k < p.count → present_at (state_of m p).marks k ≡ present_at m k
unfolding state_of from_raw
lent_present m p f k h =
    let l = fine_long m p f in
    mark_present (take p.count m) k (get_or m k 0) (mark_at m p.count k h l) ∙ sym (present_at_lem m k (omega arith))

module _ (area words m : List ℕ) (p : Numbers) (mark : ℕ) (z : CanTake area words m p mark) (m' : List ℕ) (q : Numbers) (left : LeftState m p m' q)
    (step : Step (length z.items) (state_of m p) (state_of m' q)) where
  start_kept : q.start ≡ p.start
  unfolding state_of from_raw
  start_kept = step.start

  end_kept : q.end ≡ p.end
  unfolding state_of from_raw
  end_kept = step.end

  now_present : (k : ℕ) → k < p.end → present_at m' k ≡ true → present_at (state_of m' q).marks k ≡ true
  now_present k h e = lent_present m' q left.fine k (omega (arith, left.count, z.fine.inside)) ∙ e

  was_present : (k : ℕ) → k < p.end → present_at m' k ≡ true → present_at m k ≡ true
  was_present k h e =
      sym (lent_present m p z.fine k (omega (arith, z.fine.inside))) ∙ step.kept k (now_present k h e)

  good : Good (length z.items) (state_of m p)
  good = subst (λ (n : ℕ). Good n (state_of m p)) (sym z.same) z.fine.good

  -- nothing was used
  skip_still : (test : Item → Bool) (f : ℕ) → Skips area words test m p f → q.remaining ≡ p.remaining
      → Skips area words test m' q (next_from f p.remaining q)
  unfolding next_from
  skip_still test f k e =
      let a = start_kept in
      let b = end_kept in
      let i = k.inside in
      rw (le-ltb q.remaining p.remaining (omega arith))
      (record {
        order = omega (arith, k.order);
        inside = omega arith;
        passed = λ j l h c x w. k.passed j (omega arith) h (was_present j (omega arith) c) x w;
      })

  skip_moved : (test : Item → Bool) (f : ℕ) → Moved z.items test (state_of m p) (state_of m' q)
      → Skips area words test m' q (next_from f p.remaining q)
  unfolding next_from state_of from_raw
  skip_moved test f w =
      let a = start_kept in
      let b = end_kept in
      let c : q.current ≡ suc w.place = sym (code_place q.current) ∙ ap place_code w.current in
      let below = w.below in
      rw (lt-ltb q.remaining p.remaining w.fewer, c)
      (record {
        order = omega (arith, w.behind);
        inside = omega arith;
        passed = λ j l h o x v.
            let inside : j < p.end = omega arith in
            let y = lookup_some z.items j (omega (arith, z.same, z.fine.inside)) in
            let same : y.0 ≡ x = some-injective y.0 x (sym (z.table.at j y.0 y.1) ∙ v) in
            rw (← same) (w.passed j (omega arith) h (now_present j inside o) y.0 y.1);
      })

  skip_next : (test : Item → Bool) (f : ℕ) → Skips area words test m p f → Goes z.items test (state_of m p) (state_of m' q)
      → Skips area words test m' q (next_from f p.remaining q)
  unfolding Goes state_of from_raw
  skip_next test f k w = ⊎_elim (λ e. skip_still test f k (ap (λ (u : State). u.remaining) e)) (λ v. skip_moved test f v) w

  -- an optional that is absent leaves the state that it was given
  hint_still : (t : Tree) (f : ℕ) → Hint t area words m p f → q.remaining ≡ p.remaining → Hint t area words m' q (next_from f p.remaining q)
  hint_still (Flag n names w) f k e = skip_still (matches_arg names false) f k e
  hint_still (Argument n names b a) f k e = skip_still (matches_arg names a) f k e
  hint_still (Positional n w b) f k e = skip_still is_operand f k e
  hint_still (Optional c t) f k e = hint_still t f k e
  hint_still (Many c t) f k e = tt
  hint_still (Some c t) f k e = tt
  hint_still (Count t) f k e = tt
  hint_still (Last t) f k e = tt
  hint_still (Choice t u) f k e = tt
  hint_still (Fallback v t) f k e = tt
  hint_still (Guard l h t) f k e = hint_still t f k e

  unmoved : state_of m p ≡ state_of m' q → q.remaining ≡ p.remaining
  unfolding state_of from_raw
  unmoved e = ap (λ (u : State). u.remaining) (sym e)

  pub hint_next : (t : Tree) (f : ℕ) → Hint t area words m p f → (eval mark z.items t (state_of m p)).state ≡ state_of m' q
      → Hint t area words m' q (next_from f p.remaining q)
  unfolding eval visit
  hint_next (Flag n names w) f k e =
      skip_next (matches_arg names false) f k
      (subst (Goes z.items (matches_arg names false) (state_of m p)) e (flag_goes mark z.told z.items (state_of m p) good n names w))
  hint_next (Argument n names b a) f k e =
      skip_next (matches_arg names a) f k
      (subst (Goes z.items (matches_arg names a) (state_of m p)) e (argument_goes mark z.told z.items (state_of m p) good n names b a))
  hint_next (Positional n w b) f k e =
      skip_next is_operand f k
      (subst (Goes z.items is_operand (state_of m p)) e (positional_goes mark z.told z.items (state_of m p) good n w b))
  hint_next (Optional c t) f k e =
      ⊎_elim
      (λ v. hint_next t f k (sym v ∙ e))
      (λ v. hint_still t f k (unmoved (sym v ∙ e)))
      (optional_state c (state_of m p) (eval mark z.items t (state_of m p)))
  hint_next (Many c t) f k e = tt
  hint_next (Some c t) f k e = tt
  hint_next (Count t) f k e = tt
  hint_next (Last t) f k e = tt
  hint_next (Choice t u) f k e = tt
  hint_next (Fallback v t) f k e = tt
  hint_next (Guard l h t) f k e = hint_next t f k (sym (guard_state l h (eval mark z.items t (state_of m p))) ∙ e)
