-- On the empty line a tree without a repeat leaves the state as it was. If it may be idle it has a value, or a guard refuses it; if it
-- may not, it is refused with 20.
use mathlib.Core.Bool.{Bool, true, false, ◌&&◌, ◌||◌, true≢false}
use mathlib.Core.List.{[]}
use mathlib.Core.Logic.{◌⊎◌, inl, inr}
use mathlib.Core.Option.{Option, none}
use mathlib.Core.Path.{◌≡◌, refl, sym, subst}
use Prim.Native.Nat.{ℕ}
use native.Mathlib.Omega.{arith}
use lib.Dec.{leb}
use Rattle.std.specs.Prelude.{if◌then◌else◌}
use Rattle.rules.specs.Base.{contains, all}
use Rattle.rules.specs.Outcome.{Outcome, ok, refused, fault, Refusal, refuse, is_missing, can_catch, wrong_input, combine_with, at, ◌>>=◌}
use Rattle.rules.specs.Value.{Base, Kind, BaseValue, is_yes, is_text, is_number, Value, base, absent, present, nil, cons}
use Rattle.rules.specs.Tree.{Named, Position, Tree, Flag, Argument, Positional, Optional, Many, Some, Count, Last, Choice, Fallback, Guard, has_repeat}
use Rattle.rules.specs.State.{field_mark, empty_state, unused, present_from, current_good, find, find_in, Picked}
use Rattle.rules.specs.Take.{take_flag, take_arg, take_positional_word, took}
use Rattle.rules.specs.Eval.{Ran, ended, after, ◌then◌, visit, leaf, refuse_missing, not_found, flag_value, eval_flag, argument_value, eval_argument, positional_value, eval_positional}
use Rattle.rules.specs.Eval.{fewer, swallowed, parse_option, eval_optional, side, picks_first, won, value_of, picked, chosen, eval_choice, eval_fallback, guarded, eval_guard, eval}
use Rattle.rules.specs.Sound.{Good, is_named, is_read, well_built, Sound}
use Rattle.rules.proofs.Steps.{EndsOne, Runs}
use Rattle.rules.proofs.Went.{if_holds}
use Rattle.rules.proofs.Nodes.{named_shown}
use Rattle.rules.proofs.EvalSound.{sound_optional, sound_choice, sound_fallback, sound_guard, eval_sound}
use Rattle.rules.proofs.Acceptance.{and-true}
use Rattle.rules.proofs.Fields.{field_parsed}
use Rattle.rules_careful.specs.Idle.{may_idle}

-- ---- the state of the empty line
pub empty_good : Good 0 empty_state
unfolding empty_state unused present_from current_good all
empty_good = record { small = omega arith; long = refl; order = omega arith; inside = omega arith; marks = refl; current = refl; counted = refl }

-- how an evaluation ends there: a value or 26 if it may be idle, else 20
abbrev pub NothingEnds : Bool → Outcome Value → Type 0
NothingEnds may (ok v) = may ≡ true
NothingEnds may (refused e) = ((may ≡ true) × (e.number ≡ 26)) ⊎ ((may ≡ false) × (e.number ≡ 20))
NothingEnds may (fault x) = ⊥

-- no fault
abbrev NoFault : Outcome Value → Type 0
NoFault (ok v) = Unit {0}
NoFault (refused e) = Unit {0}
NoFault (fault x) = ⊥

ends_faultless : (m : ℕ) (k : Option Kind) (o : Outcome Value) → EndsOne m k o → NoFault o
ends_faultless m k (ok v) e = tt
ends_faultless m k (refused x) e = tt
ends_faultless m k (fault x) e = e

-- a run that left that state, with this outcome
abbrev pub idle_ran : Ran Value → Outcome Value → Ran Value
idle_ran r o = record { outcome = o; state = empty_state; tries = r.tries; trace = r.trace }

pub idle_ran_lem : (r : Ran Value) → r.state ≡ empty_state → r ≡ idle_ran r r.outcome
idle_ran_lem r e = λ i. record { outcome = r.outcome; state = e i; tries = r.tries; trace = r.trace }

-- ---- 20 and 26
not_wrong : (may : Bool) (e : Refusal) → NothingEnds may (refused e) → wrong_input e ≡ false
unfolding wrong_input contains
not_wrong may e (inl p) = rw p.1 refl
not_wrong may e (inr p) = rw p.1 refl

pub swallowed_20 : (c : Bool) (e : Refusal) → e.number ≡ 20 → swallowed c e empty_state empty_state ≡ true
unfolding swallowed is_missing wrong_input contains empty_state
swallowed_20 true e n = rw n refl
swallowed_20 false e n = rw n refl

pub swallowed_26 : (c : Bool) (e : Refusal) → e.number ≡ 26 → swallowed c e empty_state empty_state ≡ c
unfolding swallowed is_missing can_catch wrong_input contains
swallowed_26 true e n = rw n refl
swallowed_26 false e n = rw n refl

either_true : (a b : Bool) → b ≡ true → (a || b) ≡ true
either_true true b h = refl
either_true false b h = h

pub or-false : (a b : Bool) → (a || b) ≡ false → (a ≡ false) × (b ≡ false)
or-false true b h = absurd (true≢false h)
or-false false b h = (refl, h)

combined : (a b : Bool) (e f : Refusal) → NothingEnds a (refused e) → NothingEnds b (refused f) → NothingEnds (a || b) (refused (combine_with e f))
unfolding combine_with is_missing can_catch contains
combined a b e f (inl p) q = rw (p.0, p.1) (inl (refl, refl))
combined a b e f (inr p) (inl q) = rw (p.0, p.1, q.0, q.1) (inl (refl, refl))
combined a b e f (inr p) (inr q) = rw (p.0, p.1, q.0, q.1) (inr (refl, refl))

-- ---- what each kind of node makes of its child
module _ (r : Ran Value) where
  optional_ends : (c may : Bool) (o : Outcome Value) → NothingEnds may o → NothingEnds true (eval_optional c empty_state (idle_ran r o)).outcome
  unfolding eval_optional parse_option fewer ◌then◌ after ended
  optional_ends c may (ok v) p = refl
  optional_ends true may (refused e) (inl p) = rw (swallowed_26 true e p.1) refl
  optional_ends false may (refused e) (inl p) = rw (swallowed_26 false e p.1) (inl (refl, p.1))
  optional_ends c may (refused e) (inr p) = rw (swallowed_20 c e p.1) refl
  optional_ends c may (fault x) p = p

  fallback_ends : (v : BaseValue) (may : Bool) (o : Outcome Value) → NothingEnds may o → NothingEnds true (eval_fallback v empty_state (idle_ran r o)).outcome
  unfolding eval_fallback after ended can_catch contains
  fallback_ends v may (ok w) p = refl
  fallback_ends v may (refused e) (inl p) = rw p.1 (inl (refl, refl))
  fallback_ends v may (refused e) (inr p) = rw p.1 refl
  fallback_ends v may (fault x) p = p

  -- only a number comes to a guard: any other value would be a fault
  guarded_ends : (lo hi : ℕ) (v : Value) → NoFault (guarded lo hi v empty_state) → NothingEnds true (guarded lo hi v empty_state)
  unfolding guarded
  guarded_ends lo hi (base (is_yes b)) p = p
  guarded_ends lo hi (base (is_text t)) p = p
  guarded_ends lo hi (base (is_number n)) p =
      if_holds (NothingEnds true) (leb lo n && leb n hi) (ok (base (is_number n))) (refused (refuse 26 empty_state.current)) (λ _. refl) (λ _. inl (refl, refl))
  guarded_ends lo hi absent p = p
  guarded_ends lo hi (present v) p = p
  guarded_ends lo hi nil p = p
  guarded_ends lo hi (cons v w) p = p

  guard_ends :
      (lo hi : ℕ) (may : Bool) (o : Outcome Value)
      → NothingEnds may o
      → NoFault (eval_guard lo hi (idle_ran r o)).outcome
      → NothingEnds may (eval_guard lo hi (idle_ran r o)).outcome
  unfolding eval_guard ◌then◌ after ended
  guard_ends lo hi may (ok v) p n = rw p (guarded_ends lo hi v n)
  guard_ends lo hi may (refused e) p n = p
  guard_ends lo hi may (fault x) p n = p

  -- what was chosen
  by : Ran Value → Outcome Value → Outcome Value → Outcome Picked → Ran Value
  by q o u p = elim p [
    | ok x ↦ picked (idle_ran r o) (idle_ran q u) x
    | refused e ↦ ended (refused e) empty_state
    | fault x ↦ ended (fault x) empty_state
  ]

  choice_ends :
      (q : Ran Value) (a b : Bool) (o u : Outcome Value)
      → NothingEnds a o
      → NothingEnds b u
      → NothingEnds (a || b) (eval_choice empty_state (idle_ran r o) (idle_ran q u)).outcome
  unfolding by eval_choice chosen picks_first picked value_of side won at after ended empty_state
  choice_ends q a b (ok v) (ok w) x y = rw x refl
  choice_ends q a b (ok v) (refused e) x y =
      subst (λ (w : Bool). NothingEnds (a || b) (by q (ok v) (refused e) (if w then refused e else side true none)).outcome) (sym (not_wrong b e y)) (rw x refl)
  choice_ends q a b (ok v) (fault z) x y = y
  choice_ends q a b (refused e) (ok w) x y =
      subst (λ (z : Bool). NothingEnds (a || b) (by q (refused e) (ok w) (if z then refused e else side false none)).outcome) (sym (not_wrong a e x))
      (either_true a b y)
  choice_ends q a b (refused e) (refused f) x y = combined a b e f x y
  choice_ends q a b (refused e) (fault z) x y = y
  choice_ends q a b (fault z) u x y = x

-- ---- every tree without a repeat
module _ (j : ℕ) where
  abbrev pub ran_on : Tree → Ran Value
  ran_on t = eval (field_mark j) [] t empty_state

  sound_runs : (t : Tree) → Sound t → Runs 0 t empty_state (ran_on t)
  sound_runs t z = eval_sound (field_mark j) (field_parsed j) [] t z empty_state empty_good

  pub state_stays : (t : Tree) → Sound t → (ran_on t).state ≡ empty_state
  unfolding empty_state
  state_stays t z = let s = (sound_runs t z).step in s.still (omega (arith, s.fewer))

  no_fault : (t : Tree) → Sound t → NoFault (ran_on t).outcome
  no_fault t z = ends_faultless _ _ (ran_on t).outcome (sound_runs t z).ends

  -- no item is found
  flag_ends : (n : ℕ) (m : Named) → is_named m ≡ true → (w : Bool) → NothingEnds w (eval_flag (field_mark j) [] n m w empty_state).outcome
  unfolding eval_flag leaf take_flag took find find_in unused present_from empty_state ◌>>=◌ flag_value not_found refuse_missing
  flag_ends n m h true = refl
  flag_ends n m h false = rw (named_shown m h) (inr (refl, refl))

  argument_ends :
      (n : ℕ) (m : Named) (b : Base) (a : Bool)
      → is_named m ≡ true
      → NothingEnds false (eval_argument (field_mark j) [] n m b a empty_state).outcome
  unfolding eval_argument leaf take_arg took find find_in unused present_from empty_state ◌>>=◌ argument_value not_found refuse_missing
  argument_ends n m b a h = rw (named_shown m h) (inr (refl, refl))

  positional_ends : (n : ℕ) (p : Position) (b : Base) → NothingEnds false (eval_positional (field_mark j) [] n p b empty_state).outcome
  unfolding eval_positional leaf take_positional_word took find find_in unused present_from empty_state ◌>>=◌ positional_value refuse_missing
  positional_ends n p b = inr (refl, refl)

  pub nothing_ends : (t : Tree) → Sound t → has_repeat t ≡ false → NothingEnds (may_idle t) (ran_on t).outcome
  unfolding eval visit may_idle has_repeat well_built
  nothing_ends (Flag n m w) z f = flag_ends n m z.built w
  nothing_ends (Argument n m b a) z f = argument_ends n m b a (and-true (is_named m) (is_read b) z.built).0
  nothing_ends (Positional n p b) z f = positional_ends n p b
  nothing_ends (Optional c t) z f =
      let y = sound_optional c t z in
      subst (λ (r : Ran Value). NothingEnds true (eval_optional c empty_state r).outcome) (sym (idle_ran_lem (ran_on t) (state_stays t y)))
      (optional_ends (ran_on t) c (may_idle t) (ran_on t).outcome (nothing_ends t y f))
  nothing_ends (Many c t) z f = absurd (true≢false f)
  nothing_ends (Some c t) z f = absurd (true≢false f)
  nothing_ends (Count t) z f = absurd (true≢false f)
  nothing_ends (Last t) z f = absurd (true≢false f)
  nothing_ends (Choice t u) z f =
      let y = sound_choice t u z in
      let g = or-false (has_repeat t) (has_repeat u) f in
      subst (λ (r : Ran Value). NothingEnds (may_idle t || may_idle u) (eval_choice empty_state r (ran_on u)).outcome) (sym (idle_ran_lem (ran_on t) (state_stays t y.0)))
      (subst (λ (r : Ran Value). NothingEnds (may_idle t || may_idle u) (eval_choice empty_state (idle_ran (ran_on t) (ran_on t).outcome) r).outcome)
      (sym (idle_ran_lem (ran_on u) (state_stays u y.1)))
      (choice_ends (ran_on t) (ran_on u) (may_idle t) (may_idle u) (ran_on t).outcome (ran_on u).outcome (nothing_ends t y.0 g.0) (nothing_ends u y.1 g.1)))
  nothing_ends (Fallback v t) z f =
      let y = sound_fallback v t z in
      subst (λ (r : Ran Value). NothingEnds true (eval_fallback v empty_state r).outcome) (sym (idle_ran_lem (ran_on t) (state_stays t y)))
      (fallback_ends (ran_on t) v (may_idle t) (ran_on t).outcome (nothing_ends t y f))
  nothing_ends (Guard l h t) z f =
      let y = sound_guard l h t z in
      let same = idle_ran_lem (ran_on t) (state_stays t y) in
      let whole : NoFault (eval_guard l h (ran_on t)).outcome = no_fault (Guard l h t) z in
      subst (λ (r : Ran Value). NothingEnds (may_idle t) (eval_guard l h r).outcome) (sym same)
      (guard_ends (ran_on t) l h (may_idle t) (ran_on t).outcome (nothing_ends t y f)
      (subst (λ (r : Ran Value). NoFault (eval_guard l h r).outcome) same whole))
