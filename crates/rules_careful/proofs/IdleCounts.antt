-- A repeat whose child may not be idle has at most as many elements as places were used.
use mathlib.Core.Bool.{Bool, true, false}
use mathlib.Core.List.{List, [], ◌∷◌}
use mathlib.Core.Option.{Option, some, none}
use mathlib.Core.Path.{◌≡◌, subst}
use Prim.Native.Nat.{ℕ, zero, suc, ◌+◌, ◌-◌, ◌≤◌, ◌<◌}
use native.Mathlib.Nat.{le_refl}
use native.Mathlib.Omega.{arith}
use lib.ListN.{length}
use Rattle.std.specs.Prelude.{if◌then◌else◌}
use Rattle.rules.specs.Base.{null}
use Rattle.rules.specs.Outcome.{Outcome, ok, refused, fault, refuse}
use Rattle.rules.specs.Value.{is_yes, is_text, is_number, Value, base, absent, present, nil, cons, list_of, size}
use Rattle.rules.specs.Tree.{Tree, Flag, Argument, Positional, Optional, Many, Some, Count, Last, Choice, Fallback, Guard}
use Rattle.rules.specs.Split.{Item}
use Rattle.rules.specs.State.{State, parsed}
use Rattle.rules.specs.Eval.{Ran, ended, after, ◌then◌, visit, fewer, swallowed, parse_option, idle, repeat, repeated, eval_many, eval_some, eval_count, eval}
use Rattle.rules.specs.Sound.{Good, Sound}
use Rattle.rules.proofs.Steps.{Step}
use Rattle.rules.proofs.KindLaws.{size_list}
use Rattle.rules.proofs.Went.{if_holds}
use Rattle.rules.proofs.EvalSound.{Flat, sound_many, sound_some, sound_count, eval_sound}
use Rattle.rules_careful.specs.Idle.{may_idle, is_idle_repeat}
use Rattle.rules_careful.specs.IdleAnswered.{AtMostUsed}
use Rattle.rules_careful.proofs.IdleUses.{Falls, RunFalls, then_holds, idle_falls}

-- ---- one turn
-- where it ends: a value only if fewer places remain
abbrev Turned : ℕ → State → State → Outcome (Option Value) → Type 0
Turned n s u (ok none) = Good n u × (u.remaining ≤ s.remaining)
Turned n s u (ok (some v)) = Good n u × (u.remaining < s.remaining)
Turned n s u (refused e) = Unit {0}
Turned n s u (fault x) = Unit {0}

module _ (n : ℕ) (c : Bool) (len : Option ℕ) (s : State) (r : Ran Value) (g : Good n s) (step : Step n s r.state) where
  TurnedTo : Ran (Option Value) → Type 0
  TurnedTo q = Turned n s q.state q.outcome

  rest : Outcome Value → Ran (Option Value)
  rest o = elim o [
    | ok v ↦ ended (ok (if fewer r.state.remaining len then some v else none)) r.state
    | refused e ↦ if swallowed c e s r.state then ended (ok none) s else ended (refused e) r.state
    | fault x ↦ ended (fault x) r.state
  ]

  rest_turned : (o : Outcome Value) → Falls s r.state o → TurnedTo (rest o)
  unfolding TurnedTo rest ended
  rest_turned (ok v) h =
      if_holds (λ q. Turned n s r.state (ok q)) (fewer r.state.remaining len) (some v) none (λ _. (step.good, h)) (λ _. (step.good, step.fewer))
  rest_turned (refused e) h =
      if_holds TurnedTo (swallowed c e s r.state) (ended (ok none) s) (ended (refused e) r.state) (λ _. (g, le_refl _)) (λ _. tt)
  rest_turned (fault x) h = tt

  option_turned : RunFalls s r → Turned n s (parse_option c len s r).state (parse_option c len s r).outcome
  unfolding TurnedTo rest parse_option after
  option_turned h = rest_turned r.outcome h

-- ---- the loop
abbrev Within : State → State → Outcome (List Value) → Type 0
Within s u (ok vs) = length vs + u.remaining ≤ s.remaining
Within s u (refused e) = Unit {0}
Within s u (fault x) = Unit {0}

module _
    (n : ℕ) (c stops : Bool) (run : State → Ran Value)
    (steps : (s : State) → Good n s → Step n s (run s).state) (falls : (s : State) → Good n s → RunFalls s (run s))
  where
    Loops : ℕ → Type 0
    Loops fuel = (len : Option ℕ) (s : State) → Good n s → Within s (repeat c stops fuel len run s).state (repeat c stops fuel len run s).outcome

    -- one turn, where the turns behind it are within
    turn_within : (fuel : ℕ) → Loops fuel → Loops (suc fuel)
    unfolding Loops repeat ended
    turn_within fuel again len s g = then_holds (Within s) p _ (λ v e. turn v (subst (Turned n s p.state) e turned)) (λ e. tt) (λ x. tt)
      where
        p : Ran (Option Value)
        p = parse_option c len s (run s)

        turned : Turned n s p.state p.outcome
        turned = option_turned n c len s (run s) g (steps s g) (falls s g)

        later : Ran (List Value)
        later = repeat c stops fuel (some p.state.remaining) run p.state

        Good-end : Ran (List Value) → Type 0
        Good-end q = Within s q.state q.outcome

        next : (x : Value) → Good n p.state → p.state.remaining < s.remaining → Good-end (later then λ xs u. ended (ok (x ∷ xs)) u)
        next x h l =
            let behind = again (some p.state.remaining) p.state h in
            then_holds (Within s) later _ (λ xs e. let w = subst (Within p.state later.state) e behind in omega (arith, w, l)) (λ e. tt) (λ x. tt)

        turn :
            (v : Option Value)
            → Turned n s p.state (ok v)
            → Good-end (elim v [
              | none ↦ ended (ok []) p.state
              | some x ↦ if idle stops s p.state
                  then ended (ok (x ∷ [])) p.state
                  else (later then λ xs u. ended (ok (x ∷ xs)) u)
            ])
        turn none h = omega (arith, h.1)
        turn (some x) h =
            if_holds Good-end (idle stops s p.state) _ _ (λ _. omega (arith, h.1)) (λ _. next x h.0 h.1)

    loop_within : (fuel : ℕ) → Loops fuel
    unfolding Loops repeat ended
    loop_within zero = λ len s g. tt
    loop_within (suc fuel) = turn_within fuel (loop_within fuel)

    pub repeated_within : (s : State) → Good n s → Within s (repeated c stops run s).state (repeated c stops run s).outcome
    unfolding Loops repeated
    repeated_within s g = loop_within (s.remaining + 2) none s g

-- ---- kinds 5 to 7
-- the number that stands in a value is within what was used
abbrev Numbered : (Value → ℕ) → State → State → Outcome Value → Type 0
Numbered number s u (ok v) = number v + u.remaining ≤ s.remaining
Numbered number s u (refused e) = Unit {0}
Numbered number s u (fault x) = Unit {0}

numbered_at :
    (number : Value → ℕ) (s u : State) (o : Outcome Value)
    → Numbered number s u o
    → (v : Value)
    → o ≡ ok v
    → number v ≤ s.remaining - u.remaining
numbered_at number s u o h v e = let w = subst (Numbered number s u) e h in omega (arith, w)

-- a count
count_in : Value → ℕ
count_in (base (is_yes b)) = 0
count_in (base (is_text t)) = 0
count_in (base (is_number n)) = n
count_in absent = 0
count_in (present v) = 0
count_in nil = 0
count_in (cons v w) = 0

module _ (k : ℕ) (p : parsed k ≡ true) (is : List Item) (s : State) (g : Good (length is) s) where
  child_within :
      (t : Tree)
      → Flat t
      → may_idle t ≡ false
      → (c stops : Bool)
      → Within s (repeated c stops (eval k is t) s).state (repeated c stops (eval k is t) s).outcome
  child_within t y i c stops =
      repeated_within (length is) c stops (eval k is t) (λ s g. (eval_sound k p is t y.sound s g).step) (idle_falls k p is t y.sound y.flat i) s g

  -- what is made of the list
  module _ (number : Value → ℕ) (r : Ran (List Value)) (f : List Value → Outcome Value) where
    abbrev made : Ran Value
    made = r then λ vs u. ended (f vs) u

    made_within :
        Within s r.state r.outcome
        → ((vs : List Value) → length vs + r.state.remaining ≤ s.remaining → Numbered number s r.state (f vs))
        → (v : Value)
        → made.outcome ≡ ok v
        → number v ≤ s.remaining - made.state.remaining
    unfolding ended
    made_within w h v e =
        numbered_at number s made.state made.outcome
        (then_holds (Numbered number s) r _ (λ vs e. h vs (subst (Within s r.state) e w)) (λ e. tt) (λ x. tt)) v e

  pub at_most_used : (t : Tree) → Sound t → is_idle_repeat t ≡ false → AtMostUsed t s (eval k is t s)
  unfolding is_idle_repeat eval visit eval_many eval_some eval_count count_in
  at_most_used (Flag n m w) z i = tt
  at_most_used (Argument n m b a) z i = tt
  at_most_used (Positional n q b) z i = tt
  at_most_used (Optional c t) z i = tt
  at_most_used (Many c t) z i =
      made_within size (repeated c false (eval k is t) s) (λ vs. ok (list_of vs)) (child_within t (sound_many c t z) i c false)
      (λ vs w. rw (size_list vs) w)
  at_most_used (Some c t) z i =
      made_within size (repeated c false (eval k is t) s) (λ vs. if null vs then refused (refuse 21 none) else ok (list_of vs))
      (child_within t (sound_some c t z) i c false)
      (λ vs w. if_holds (Numbered size s (repeated c false (eval k is t) s).state) (null vs) (refused (refuse 21 none)) (ok (list_of vs)) (λ _. tt)
      (λ _. rw (size_list vs) w))
  at_most_used (Count t) z i =
      λ n e. made_within count_in (repeated false true (eval k is t) s) (λ vs. ok (base (is_number (length vs))))
      (child_within t (sound_count t z) i false true) (λ vs w. w) (base (is_number n)) e
  at_most_used (Last t) z i = tt
  at_most_used (Choice t u) z i = tt
  at_most_used (Fallback v t) z i = tt
  at_most_used (Guard l h t) z i = tt
