-- Repeats on the empty line: one element if the child may be idle, else none.
use mathlib.Core.Bool.{Bool, true, false, true≢false, false≢true}
use mathlib.Core.List.{List, [], ◌∷◌}
use mathlib.Core.Logic.{inl, inr}
use mathlib.Core.Option.{Option, some, none}
use mathlib.Core.Path.{◌≡◌, refl, sym, ap, ◌∙◌, subst}
use Prim.Native.Nat.{ℕ, suc}
use Rattle.std.specs.Prelude.{if◌then◌else◌}
use Rattle.rules.specs.Base.{null}
use Rattle.rules.specs.Outcome.{Outcome, ok, refused, fault, Refusal, refuse}
use Rattle.rules.specs.Value.{is_number, Value, base, nil, cons, list_of}
use Rattle.rules.specs.Tree.{Tree, Flag, Argument, Positional, Optional, Many, Some, Count, Last, Choice, Fallback, Guard}
use Rattle.rules.specs.State.{State, empty_state, field_mark}
use Rattle.rules.specs.Eval.{Ran, ended, after, ◌then◌, visit, fewer, swallowed, parse_option, idle, repeat, repeated, eval_many, eval_some, eval_count, last_of, eval_last, eval}
use Rattle.rules.specs.Sound.{Sound}
use Rattle.rules.proofs.EvalSound.{Flat, sound_many, sound_some, sound_count, sound_last}
use Rattle.rules_careful.specs.Idle.{may_idle, is_idle_repeat}
use Rattle.rules_careful.specs.IdleAnswered.{on_nothing, ValueOr26, made, Missing20, OneFromNothing, NoneFromNothing}
use Rattle.rules_careful.proofs.IdleNothing.{NothingEnds, swallowed_20, swallowed_26, ran_on, state_stays, nothing_ends}

-- ---- how a run ended that left the state of the empty line
pub record Ends {A : Type 0} (r : Ran A) (o : Outcome A) : Type 0 where
  pub outcome : r.outcome ≡ o
  pub state : r.state ≡ empty_state

module _ {A : Type 0} (r : Ran A) (o : Outcome A) (e : Ends r o) where
  abbrev ran_of : Ran A
  ran_of = record { outcome = o; state = empty_state; tries = r.tries; trace = r.trace }

  ran_path : r ≡ ran_of
  ran_path = λ i. record { outcome = e.outcome i; state = e.state i; tries = r.tries; trace = r.trace }

module _ {A B : Type 0} (r : Ran A) (f : A → State → Ran B) where
  then_ok : (v : A) (o : Outcome B) → Ends r (ok v) → Ends (f v empty_state) o → Ends (r then f) o
  unfolding ◌then◌ after
  then_ok v o e g = subst (λ (x : Ran A). Ends (x then f) o) (sym (ran_path r (ok v) e)) (record { outcome = g.outcome; state = g.state })

  then_refused : (x : Refusal) → Ends r (refused x) → Ends (r then f) (refused x)
  unfolding ◌then◌ after ended
  then_refused x e = subst (λ (y : Ran A). Ends (y then f) (refused x)) (sym (ran_path r (refused x) e)) (record { outcome = refl; state = refl })

ended_ends : {A : Type 0} (o : Outcome A) → Ends (ended o empty_state) o
unfolding ended
ended_ends o = record { outcome = refl; state = refl }

-- ---- a turn, by how the child ended
module _ (c : Bool) (len : Option ℕ) (r : Ran Value) where
  abbrev parsed_as : Ran Value → Outcome (Option Value) → Type 0
  parsed_as x o = Ends (parse_option c len empty_state x) o

  parse_value : (v : Value) (b : Bool) → Ends r (ok v) → fewer 0 len ≡ b → parsed_as r (ok (if b then some v else none))
  unfolding parse_option after ended empty_state
  parse_value v b e h =
      subst (λ (x : Ran Value). parsed_as x (ok (if b then some v else none))) (sym (ran_path r (ok v) e))
      (record { outcome = ap (λ (z : Bool). ok (if z then some v else none)) h; state = refl })

  parse_refused : (x : Refusal) (b : Bool) → Ends r (refused x) → swallowed c x empty_state empty_state ≡ b → parsed_as r (if b then ok none else refused x)
  unfolding parse_option after ended
  parse_refused x b e h =
      subst (λ (y : Ran Value). parsed_as y (if b then ok none else refused x)) (sym (ran_path r (refused x) e)) (go (swallowed c x empty_state empty_state) b h)
    where
      go :
          (z b : Bool)
          → z ≡ b
          → Ends {A = Option Value} (after r (if z then ended {A = Option Value} (ok none) empty_state else ended (refused x) empty_state)) (if b then ok none else refused x)
      go true true h = record { outcome = refl; state = refl }
      go true false h = absurd (true≢false h)
      go false true h = absurd (false≢true h)
      go false false h = record { outcome = refl; state = refl }

-- ---- the loop, where the child leaves the state as it was
module _ (run : State → Ran Value) (c stops : Bool) where
  turn : ℕ → State → Option Value → State → Ran (List Value)
  turn fuel s v t = elim v [
    | none ↦ ended (ok []) t
    | some x ↦ if idle stops s t
        then ended (ok (x ∷ [])) t
        else (repeat c stops fuel (some t.remaining) run t then λ xs u. ended (ok (x ∷ xs)) u)
  ]

  -- a turn that gives no element ends it
  loop_ends : (fuel : ℕ) (len : Option ℕ) → Ends (parse_option c len empty_state (run empty_state)) (ok none) → Ends (repeat c stops (suc fuel) len run empty_state) (ok [])
  unfolding repeat turn
  loop_ends fuel len e = then_ok _ (turn fuel empty_state) none (ok []) e (ended_ends (ok []))

  loop_refused : (x : Refusal) → Ends (parse_option c none empty_state (run empty_state)) (refused x) → Ends (repeated c stops run empty_state) (refused x)
  unfolding repeated repeat turn empty_state
  loop_refused x e = then_refused _ (turn 1 empty_state) x e

  loop_one : (v : Value) → Ends (run empty_state) (ok v) → Ends (repeated c stops run empty_state) (ok (v ∷ []))
  unfolding repeated repeat turn fewer idle empty_state
  loop_one v e =
      then_ok _ (turn 1 empty_state) (some v) (ok (v ∷ [])) (parse_value c none (run empty_state) v true e refl) (go stops refl)
    where
      again : Ends (repeat c stops 1 (some 0) run empty_state) (ok [])
      again = loop_ends 0 (some 0) (parse_value c (some 0) (run empty_state) v false e refl)

      go : (b : Bool) → stops ≡ b → Ends (turn 1 empty_state (some v) empty_state) (ok (v ∷ []))
      go true h = rw h (ended_ends (ok (v ∷ [])))
      go false h = rw h (then_ok _ (λ xs u. ended (ok (v ∷ xs)) u) [] (ok (v ∷ [])) again (ended_ends (ok (v ∷ []))))

-- ---- what is made of the list: of one element, or of none
module _
    (run : State → Ran Value) (c stops : Bool) (f : List Value → State → Ran Value) (one : Value → Outcome Value) (no : Outcome Value)
    (of_one : (v : Value) → Ends (f (v ∷ []) empty_state) (one v)) (of_none : Ends (f [] empty_state) no)
  where
    swallowed_none : (x : Refusal) → Ends (run empty_state) (refused x) → swallowed c x empty_state empty_state ≡ true → Ends (repeated c stops run empty_state then f) no
    unfolding repeated empty_state
    swallowed_none x e h = then_ok _ f [] no (loop_ends run c stops 1 none (parse_refused c none (run empty_state) x true e h)) of_none

    passed_on_lem : (x : Refusal) → Ends (run empty_state) (refused x) → swallowed c x empty_state empty_state ≡ false → Ends (repeated c stops run empty_state then f) (refused x)
    passed_on_lem x e h = then_refused _ f x (loop_refused run c stops x (parse_refused c none (run empty_state) x false e h))

    -- a child that may be idle
    repeat_one :
        (o : Outcome Value)
        → Ends (run empty_state) o
        → NothingEnds true o
        → Ends (repeated c stops run empty_state then f) (made one (λ e. if c then no else refused e) o)
    unfolding made
    repeat_one (ok v) e p = then_ok _ f (v ∷ []) (one v) (loop_one run c stops v e) (of_one v)
    repeat_one (refused x) e (inl p) = go c refl
      where
        go : (b : Bool) → c ≡ b → Ends (repeated c stops run empty_state then f) (if c then no else refused x)
        go true h = subst (λ (b : Bool). Ends (repeated c stops run empty_state then f) (if b then no else refused x)) (sym h) (swallowed_none x e (swallowed_26 c x p.1 ∙ h))
        go false h = subst (λ (b : Bool). Ends (repeated c stops run empty_state then f) (if b then no else refused x)) (sym h) (passed_on_lem x e (swallowed_26 c x p.1 ∙ h))
    repeat_one (refused x) e (inr p) = absurd (true≢false p.0)
    repeat_one (fault x) e p = absurd p

    -- and one that may not
    repeat_none : (o : Outcome Value) → Ends (run empty_state) o → NothingEnds false o → Ends (repeated c stops run empty_state then f) no
    repeat_none (ok v) e p = absurd (false≢true p)
    repeat_none (refused x) e (inl p) = absurd (false≢true p.0)
    repeat_none (refused x) e (inr p) = swallowed_none x e (swallowed_20 c x p.1)
    repeat_none (fault x) e p = absurd p

value_or_26 : (o : Outcome Value) → NothingEnds true o → ValueOr26 o
value_or_26 (ok v) p = tt
value_or_26 (refused x) (inl p) = p.1
value_or_26 (refused x) (inr p) = absurd (true≢false p.0)
value_or_26 (fault x) p = p

missing_20 : (o : Outcome Value) → NothingEnds false o → Missing20 o
missing_20 (ok v) p = absurd (false≢true p)
missing_20 (refused x) (inl p) = absurd (false≢true p.0)
missing_20 (refused x) (inr p) = p.1
missing_20 (fault x) p = p

made_same : (o : Outcome Value) → made ok (λ e. refused e) o ≡ o
unfolding made
made_same (ok v) = refl
made_same (refused x) = refl
made_same (fault x) = refl

-- ---- kinds 5 to 8, by what their child may
module _ (j : ℕ) where
  module _ (t : Tree) (z : Flat t) where
    abbrev run : State → Ran Value
    run = eval (field_mark j) [] t

    child_ends : Ends (ran_on j t) (ran_on j t).outcome
    child_ends = record { outcome = refl; state = state_stays j t z.sound }

    child_nothing : (may : Bool) → may_idle t ≡ may → NothingEnds may (ran_on j t).outcome
    child_nothing may e = subst (λ (b : Bool). NothingEnds b (ran_on j t).outcome) e (nothing_ends j t z.sound z.flat)

    pub child_value : may_idle t ≡ true → ValueOr26 (on_nothing j t)
    unfolding on_nothing
    child_value e = value_or_26 (ran_on j t).outcome (child_nothing true e)

    pub child_missing : may_idle t ≡ false → Missing20 (on_nothing j t)
    unfolding on_nothing
    child_missing e = missing_20 (ran_on j t).outcome (child_nothing false e)

    module _
        (c stops : Bool) (f : List Value → State → Ran Value) (one : Value → Outcome Value) (no : Outcome Value)
        (of_one : (v : Value) → Ends (f (v ∷ []) empty_state) (one v)) (of_none : Ends (f [] empty_state) no)
      where
        one_element : may_idle t ≡ true → (repeated c stops run empty_state then f).outcome ≡ made one (λ e. if c then no else refused e) (on_nothing j t)
        unfolding on_nothing
        one_element e = (repeat_one run c stops f one no of_one of_none (ran_on j t).outcome child_ends (child_nothing true e)).outcome

        no_element : may_idle t ≡ false → (repeated c stops run empty_state then f).outcome ≡ no
        no_element e = (repeat_none run c stops f one no of_one of_none (ran_on j t).outcome child_ends (child_nothing false e)).outcome

  pub one_from_nothing : (t : Tree) → Sound t → is_idle_repeat t ≡ true → OneFromNothing j t
  unfolding is_idle_repeat on_nothing eval visit eval_many eval_some eval_count eval_last list_of null last_of
  one_from_nothing (Flag n m w) z e = absurd (false≢true e)
  one_from_nothing (Argument n m b a) z e = absurd (false≢true e)
  one_from_nothing (Positional n p b) z e = absurd (false≢true e)
  one_from_nothing (Optional c t) z e = absurd (false≢true e)
  one_from_nothing (Many c t) z e =
      let y = sound_many c t z in
      (child_value t y e, one_element t y c false _ _ (ok nil) (λ v. ended_ends _) (ended_ends _) e)
  one_from_nothing (Some c t) z e =
      let y = sound_some c t z in
      (child_value t y e, one_element t y c false _ _ (refused (refuse 21 none)) (λ v. ended_ends _) (ended_ends _) e)
  one_from_nothing (Count t) z e =
      let y = sound_count t z in
      (child_value t y e, one_element t y false true _ _ (ok (base (is_number 0))) (λ v. ended_ends _) (ended_ends _) e)
  one_from_nothing (Last t) z e =
      let y = sound_last t z in
      (child_value t y e, one_element t y false true _ ok _ (λ v. ended_ends _) (child_ends t y) e ∙ made_same _)
  one_from_nothing (Choice t u) z e = absurd (false≢true e)
  one_from_nothing (Fallback v t) z e = absurd (false≢true e)
  one_from_nothing (Guard l h t) z e = absurd (false≢true e)

  pub none_from_nothing : (t : Tree) → Sound t → is_idle_repeat t ≡ false → NoneFromNothing j t
  unfolding is_idle_repeat on_nothing eval visit eval_many eval_some eval_count eval_last list_of null last_of
  none_from_nothing (Flag n m w) z e = tt
  none_from_nothing (Argument n m b a) z e = tt
  none_from_nothing (Positional n p b) z e = tt
  none_from_nothing (Optional c t) z e = tt
  none_from_nothing (Many c t) z e =
      no_element t (sound_many c t z) c false _ (λ v. ok (cons v nil)) (ok nil) (λ v. ended_ends _) (ended_ends _) e
  none_from_nothing (Some c t) z e =
      no_element t (sound_some c t z) c false _ (λ v. ok (cons v nil)) (refused (refuse 21 none)) (λ v. ended_ends _) (ended_ends _) e
  none_from_nothing (Count t) z e =
      no_element t (sound_count t z) false true _ (λ v. ok (base (is_number 1))) (ok (base (is_number 0))) (λ v. ended_ends _) (ended_ends _) e
  none_from_nothing (Last t) z e =
      let y = sound_last t z in
      (child_missing t y e, no_element t y false true _ ok _ (λ v. ended_ends _) (child_ends t y) e)
  none_from_nothing (Choice t u) z e = tt
  none_from_nothing (Fallback v t) z e = tt
  none_from_nothing (Guard l h t) z e = tt
