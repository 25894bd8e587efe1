-- A success of a tree that may not be idle uses a place: fewer remain.
use mathlib.Core.Bool.{Bool, true, false, ◌&&◌, true≢false, and-eq-true_iff}
use mathlib.Core.List.{List}
use mathlib.Core.Option.{Option, some, none, none-ne-some}
use mathlib.Core.Path.{◌≡◌, refl, subst}
use Prim.Native.Nat.{ℕ, suc, ◌<◌}
use native.Mathlib.Omega.{arith}
use lib.Dec.{eqb}
use lib.ListN.{length}
use Rattle.rules.specs.Outcome.{Spot, Outcome, ok, refused, fault, Fault, Refusal, refuse, wrong_input, at, ◌>>=◌}
use Rattle.rules.specs.Value.{Base, Value}
use Rattle.rules.specs.Tree.{Named, Position, Tree, Flag, Argument, Positional, Optional, Many, Some, Count, Last, Choice, Fallback, Guard, has_repeat}
use Rattle.rules.specs.Split.{Item}
use Rattle.rules.specs.State.{State, parsed, Found, find, get, remove, with_current, Picked, pick_winner, save_conflicts}
use Rattle.rules.specs.Take.{Took, Taken, took, matches_arg, is_operand, operand, value_text, take_value, take_flag, take_arg, take_positional_word}
use Rattle.rules.specs.Eval.{Ran, ended, after, ◌then◌, visit, leaf, refuse_missing, not_found, flag_value, eval_flag, argument_value, eval_argument, positional_value, eval_positional}
use Rattle.rules.specs.Eval.{side, picks_first, won, value_of, picked, chosen, eval_choice, guarded, eval_guard, eval}
use Rattle.rules.specs.Sound.{Good, is_named, is_read, well_built, Sound}
use Rattle.rules.proofs.StepLaws.{Free, free_below_lem, Finds, find_good, removed, removed_left, removed_good, remove_free, remove_step, get_free, current_good_lem}
use Rattle.rules.proofs.Went.{if_holds}
use Rattle.rules.proofs.Nodes.{named_shown}
use Rattle.rules.proofs.EvalSound.{sound_choice, sound_guard}
use Rattle.rules_careful.specs.Idle.{may_idle}
use Rattle.rules_careful.proofs.IdleNothing.{or-false}

-- from one state to another: if it is a success, fewer places remain
abbrev pub Falls : State → State → Outcome Value → Type 0
Falls s u (ok v) = u.remaining < s.remaining
Falls s u (refused e) = Unit {0}
Falls s u (fault x) = Unit {0}

falls_less : (s u : State) (o : Outcome Value) → u.remaining < s.remaining → Falls s u o
falls_less s u (ok v) h = h
falls_less s u (refused e) h = tt
falls_less s u (fault x) h = tt

abbrev pub RunFalls : State → Ran Value → Type 0
RunFalls s r = Falls s r.state r.outcome

-- what follows a run, by how it ended
pub then_holds :
    {A B : Type 0} (P : State → Outcome B → Type 0) (r : Ran A) (f : A → State → Ran B)
    → ((v : A) → r.outcome ≡ ok v → P (f v r.state).state (f v r.state).outcome)
    → ((e : Refusal) → P r.state (refused e))
    → ((x : Fault) → P r.state (fault x))
    → P (r then f).state (r then f).outcome
unfolding ◌then◌ after ended
then_holds {A} {B} P r f given passes fails = go r.outcome refl
  where
    rest : Outcome A → Ran B
    rest o = elim o [
      | ok v ↦ f v r.state
      | refused e ↦ ended (refused e) r.state
      | fault x ↦ ended (fault x) r.state
    ]

    go : (o : Outcome A) → r.outcome ≡ o → P (rest o).state (rest o).outcome
    go (ok v) e = given v e
    go (refused x) e = passes x
    go (fault x) e = fails x

-- ---- kinds 1 to 3
leaf_took :
    {A : Type 0} (s : State) (o : Outcome (Took A)) (follows : A → State → Outcome Value) (t : Took A)
    → o ≡ ok t
    → Falls s t.state (follows t.answer t.state)
    → RunFalls s (leaf s o follows)
unfolding leaf
leaf_took s o follows t e h = rw e h

leaf_refused : {A : Type 0} (s : State) (o : Outcome (Took A)) (follows : A → State → Outcome Value) (x : Refusal) → o ≡ refused x → RunFalls s (leaf s o follows)
unfolding leaf
leaf_refused s o follows x e = rw e tt

not_found_lem : (s u : State) (n : ℕ) (m : Named) → is_named m ≡ true → (spot : Spot) → Falls s u (not_found spot n m u)
unfolding not_found refuse_missing ◌>>=◌
not_found_lem s u n m h spot = rw (named_shown m h) tt

module _ (k : ℕ) (p : parsed k ≡ true) (is : List Item) (s : State) (g : Good (length is) s) where
  -- a free place was removed
  less : (i : ℕ) → Free s i → (removed k s i).remaining < s.remaining
  less i f = omega (arith, removed_left k p (length is) s i g f)

  -- the same with `current` set before
  removed_at : (c i : ℕ) → c < length is → Free s i → remove k (with_current (some c) s) i ≡ ok (removed k s i)
  unfolding with_current
  removed_at c i h f =
      remove_free k p (length is) (with_current (some c) s) i (current_good_lem (length is) s c g h) (record { from = f.from; to = f.to; here = f.here })

  flag_falls : (n : ℕ) (m : Named) → is_named m ≡ true → RunFalls s (eval_flag k is n m false s)
  unfolding eval_flag take_flag took flag_value ◌>>=◌
  flag_falls n m h = let f = find_good is (matches_arg m false) s g in go f.0 f.1 f.2
    where
      go : (x : Option Found) → find is (matches_arg m false) s ≡ ok x → Finds is (matches_arg m false) s x → RunFalls s (eval_flag k is n m false s)
      go none e y = leaf_took s (take_flag k is m s) (flag_value n m false) (record { answer = false; state = s }) (rw e refl) (not_found_lem s s n m h _)
      go (some x) e y =
          leaf_took s (take_flag k is m s) (flag_value n m false) (record { answer = true; state = removed k s x.place })
          (rw (e, remove_free k p (length is) s x.place g y.free) refl) (less x.place y.free)

  argument_falls : (n : ℕ) (m : Named) (b : Base) (a : Bool) → is_named m ≡ true → RunFalls s (eval_argument k is n m b a s)
  unfolding eval_argument take_arg take_value value_text took argument_value ◌>>=◌
  argument_falls n m b a h = let f = find_good is (matches_arg m a) s g in go f.0 f.1 f.2
    where
      taken : (x : Found) (y : Item) → Free s x.place → get is s (suc x.place) ≡ some y → (t : List ℕ)
          → (v : Took (Option Taken)) × (take_value k s x.place (some t) ≡ ok v) × (v.state.remaining < s.remaining)
      taken x y f e t =
          let i : ℕ = x.place in
          let next = get_free is s (suc i) y e in
          let first = removed_at (suc i) i (free_below_lem (length is) s (suc i) g next) f in
          let second = remove_step k p (length is) (removed k s i) (suc i) (removed_good k p (length is) s i g f) in
          (record { answer = some (record { place = suc i; text = t }); state = second.0 }, rw (first, second.1) refl, omega (arith, second.2.fewer, less i f))

      value : (x : Found) → find is (matches_arg m a) s ≡ ok (some x) → Free s x.place → (y : Option Item) → get is s (suc x.place) ≡ y → (t : Option (List ℕ)) → value_text y ≡ t
          → RunFalls s (eval_argument k is n m b a s)
      value x e f y w none v = leaf_refused s (take_arg k is m a s) (argument_value n m b) (refuse 22 (some x.place)) (rw (e, w, v) refl)
      value x e f none w (some t) v = absurd (none-ne-some t v)
      value x e f (some y) w (some t) v =
          let r = taken x y f w t in
          leaf_took s (take_arg k is m a s) (argument_value n m b) r.0 (rw (e, w, v) r.1) (falls_less s r.0.state (argument_value n m b r.0.answer r.0.state) r.2)

      go : (x : Option Found) → find is (matches_arg m a) s ≡ ok x → Finds is (matches_arg m a) s x → RunFalls s (eval_argument k is n m b a s)
      go none e y = leaf_took s (take_arg k is m a s) (argument_value n m b) (record { answer = none; state = s }) (rw e refl) (not_found_lem s s n m h _)
      go (some x) e y = value x e y.free (get is s (suc x.place)) refl (value_text (get is s (suc x.place))) refl

  positional_falls : (n : ℕ) (q : Position) (b : Base) → RunFalls s (eval_positional k is n q b s)
  unfolding eval_positional take_positional_word took positional_value ◌>>=◌
  positional_falls n q b = let f = find_good is is_operand s g in go f.0 f.1 f.2
    where
      go : (x : Option Found) → find is is_operand s ≡ ok x → Finds is is_operand s x → RunFalls s (eval_positional k is n q b s)
      go none e y = leaf_took s (take_positional_word k is s) (positional_value n q b) (record { answer = none; state = s }) (rw e refl) tt
      go (some x) e y =
          let i : ℕ = x.place in
          let r = removed_at i i (free_below_lem (length is) s i g y.free) y.free in
          leaf_took s (take_positional_word k is s) (positional_value n q b) (record { answer = some (operand x); state = removed k s i })
          (rw (e, r) refl) (falls_less s (removed k s i) (positional_value n q b (some (operand x)) (removed k s i)) (less i y.free))

-- ---- guard and choice
guard_falls : (s : State) (l h : ℕ) (r : Ran Value) → RunFalls s r → RunFalls s (eval_guard l h r)
unfolding eval_guard ended
guard_falls s l h r f =
    then_holds (Falls s) r _ (λ v e. falls_less s r.state (guarded l h v r.state) (subst (Falls s r.state) e f)) (λ e. tt) (λ x. tt)

-- a run, with this outcome
abbrev with_outcome : Ran Value → Outcome Value → Ran Value
with_outcome r o = record { outcome = o; state = r.state; tries = r.tries; trace = r.trace }

won_remaining : (s loser : State) (w : Option ℕ) → (won s loser w).remaining ≡ s.remaining
unfolding won save_conflicts
won_remaining s loser none = refl
won_remaining s loser (some w) = refl

module _ (s : State) (a b : Ran Value) where
  -- what was chosen
  by : Outcome Value → Outcome Value → Outcome Picked → Ran Value
  by o u p = elim p [
    | ok x ↦ picked (with_outcome a o) (with_outcome b u) x
    | refused e ↦ ended (refused e) s
    | fault x ↦ ended (fault x) s
  ]

  -- a side that won, with its conflicts saved
  won_falls : (u loser : State) (w : Option ℕ) → u.remaining < s.remaining → (won u loser w).remaining < s.remaining
  won_falls u loser w h = omega (arith, h, won_remaining u loser w)

  winner_falls : (v w : Value) (p : Picked) → Falls s a.state (ok v) → Falls s b.state (ok w) → RunFalls s (by (ok v) (ok w) (ok p))
  unfolding by picked value_of at ended
  winner_falls v w p x y =
      if_holds (RunFalls s) p.first _ _
      (λ _. won_falls a.state b.state p.place x)
      (λ _. won_falls b.state a.state p.place y)

  choice_falls : (o u : Outcome Value) → Falls s a.state o → Falls s b.state u → RunFalls s (eval_choice s (with_outcome a o) (with_outcome b u))
  unfolding by eval_choice chosen picks_first picked value_of at side won after ended
  choice_falls (ok v) (ok w) x y =
      if_holds (λ q. RunFalls s (by (ok v) (ok w) q)) (eqb s.remaining a.state.remaining && eqb s.remaining b.state.remaining) (side true none) (ok (pick_winner a.state b.state))
      (λ _. x)
      (λ _. winner_falls v w (pick_winner a.state b.state) x y)
  choice_falls (ok v) (refused e) x y =
      if_holds (λ q. RunFalls s (by (ok v) (refused e) q)) (eqb s.remaining a.state.remaining && wrong_input e) (refused e) (side true none) (λ _. tt) (λ _. x)
  choice_falls (ok v) (fault z) x y = tt
  choice_falls (refused e) (ok w) x y =
      if_holds (λ q. RunFalls s (by (refused e) (ok w) q)) (eqb s.remaining b.state.remaining && wrong_input e) (refused e) (side false none) (λ _. tt) (λ _. y)
  choice_falls (refused e) (refused f) x y = tt
  choice_falls (refused e) (fault z) x y = tt
  choice_falls (fault z) o x y = tt

-- ---- every tree without a repeat that may not be idle
module _ (k : ℕ) (p : parsed k ≡ true) (is : List Item) where
  pub idle_falls : (t : Tree) → Sound t → has_repeat t ≡ false → may_idle t ≡ false → (s : State) → Good (length is) s → RunFalls s (eval k is t s)
  unfolding eval visit may_idle has_repeat well_built
  idle_falls (Flag n m true) z f i s g = absurd (true≢false i)
  idle_falls (Flag n m false) z f i s g = flag_falls k p is s g n m z.built
  idle_falls (Argument n m b a) z f i s g = argument_falls k p is s g n m b a ((and-eq-true_iff (is_named m) (is_read b)).0 z.built).0
  idle_falls (Positional n q b) z f i s g = positional_falls k p is s g n q b
  idle_falls (Optional c t) z f i s g = absurd (true≢false i)
  idle_falls (Many c t) z f i s g = absurd (true≢false f)
  idle_falls (Some c t) z f i s g = absurd (true≢false f)
  idle_falls (Count t) z f i s g = absurd (true≢false f)
  idle_falls (Last t) z f i s g = absurd (true≢false f)
  idle_falls (Choice t u) z f i s g =
      let y = sound_choice t u z in
      let q = or-false (has_repeat t) (has_repeat u) f in
      let j = or-false (may_idle t) (may_idle u) i in
      choice_falls s (eval k is t s) (eval k is u s) (eval k is t s).outcome (eval k is u s).outcome
      (idle_falls t y.0 q.0 j.0 s g) (idle_falls u y.1 q.1 j.1 s g)
  idle_falls (Fallback v t) z f i s g = absurd (true≢false i)
  idle_falls (Guard l h t) z f i s g = guard_falls s l h (eval k is t s) (idle_falls t (sound_guard l h t z) f i s g)
