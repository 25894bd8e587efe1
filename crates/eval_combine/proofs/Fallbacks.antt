-- A fallback, by what `parse_fallback` decides.
use mathlib.Core.Bool.{Bool, true, false}
use mathlib.Core.List.{List}
use mathlib.Core.Option.{some, none-ne-some, none}
use mathlib.Core.Path.{◌≡◌, refl, sym, ap, ◌∙◌}
use Prim.Native.Nat.{ℕ}
use native.Mathlib.Omega.{arith}
use lib.Dec.{eqb}
use borrow.Author.Tests.{eq-eqb, eqb-true}
use Rattle.std.specs.Prelude.{if◌then◌else◌}
use Rattle.rules.specs.Outcome.{Outcome, ok, refused, fault, Refusal, refuse, can_catch}
use Rattle.rules.specs.Value.{BaseValue, Value, word, words}
use Rattle.rules.specs.State.{State}
use Rattle.rules.specs.Eval.{Ran as Run, Visit, ended, after, eval_fallback}
use Rattle.state_marks.specs.declared.Numbers.{Numbers}
use Rattle.state_marks.specs.Lent.{state_of}
use Rattle.take_search.proofs.States.{left_same}
use Rattle.eval_structs.specs.declared.Fallback.{Fallback}
use Rattle.eval_structs.specs.declared.Fallback.TheVariants.{Child, Own, Refusal as Passed}
use Rattle.eval_structs.specs.Decisions.{fallback_way, fallback_by}
use Rattle.eval_structs.specs.Laws.{fallback_refused}
use Rattle.eval_told.specs.declared.Ran.{Ran}
use Rattle.eval_told.specs.Told.{Told, told, Numbered, told_with, answered, scalar_words}
use Rattle.eval_told.specs.Results.{value_ran, refusal_ran}
use Rattle.eval_combine.specs.Made.{Returned, FallbackOf, MarksUnchanged}
use Rattle.eval_combine.specs.Unchanged.{fallback_by as made_by, fallback_made}
use Rattle.eval_combine.proofs.Tells.{run_of, told_same, value_told, refusal_told}

-- ---- the number, by what was decided
child_number : (number : ℕ) → Child ≡ fallback_way number → number ≡ 0
unfolding fallback_way
child_number number h = go (eqb number 0) refl
  where
    other : (b : Bool) → Child ≡ (if b then Own else Passed) → ⊥
    other true e = let z : ◌≡◌ {A = ℕ} 0 1 = cc in omega arith
    other false e = let z : ◌≡◌ {A = ℕ} 0 1 = cc in omega arith

    go : (b : Bool) → eqb number 0 ≡ b → number ≡ 0
    go true t = eqb-true number 0 t
    go false t = absurd (other (can_catch (refuse number none)) (rw t at h))

value_way : (number : ℕ) → number ≡ 0 → fallback_way number ≡ Child
unfolding fallback_way
value_way number z = rw (eq-eqb number 0 z)

-- ---- what is told
module _ (v : BaseValue) (before : List ℕ) (p : Numbers) (ran : Ran) (m : List ℕ) where
  abbrev s : State
  s = state_of before p

  child_same :
      ran.number ≡ 0
      → (o : Outcome Value) (t : State) (n : ℕ) (l : List Visit) (w : List ℕ)
      → Numbered o
      → told (run_of o t n l) ≡ some (told_with ran m w)
      → w ≡ scalar_words ran.len ran.word
      → told (eval_fallback v s (run_of o t n l)) ≡ some (answered ran m)
  unfolding told eval_fallback after ended
  child_same z (ok x) t n l w i h q =
      let a = value_told ran m w t n l x h in
      told_same a.number a.place (omega (arith, a.tries)) (a.words ∙ q) a.state
  child_same z (refused e) t n l w i h q = absurd (i ((refusal_told ran m w t n l e h).number ∙ z))
  child_same z (fault x) t n l w i h q = absurd (none-ne-some _ h)

  -- after a refusal
  module _
      (e : Refusal)
      (t : State)
      (n : ℕ)
      (l : List Visit)
      (w : List ℕ)
      (i : Numbered {A = Value} (refused e))
      (h : told (run_of (refused e) t n l) ≡ some (told_with ran m w))
    where
      by_way : {j : Fallback} → j ≡ fallback_way ran.number → eval_fallback v s (run_of (refused e) t n l) ≡ fallback_by j v s (run_of (refused e) t n l)
      by_way q =
          let x = refusal_told ran m w t n l e h in
          fallback_refused v s (run_of (refused e) t n l) e refl i
          ∙ ap (λ (y : Fallback). fallback_by y v s (run_of (refused e) t n l)) (rw x.number (sym q))

      own_same : Own ≡ fallback_way ran.number → told (eval_fallback v s (run_of (refused e) t n l)) ≡ some (answered (value_ran ran.tries 1 (word v) p) before)
      unfolding told fallback_by after ended words scalar_words
      own_same q =
          let x = refusal_told ran m w t n l e h in
          ap told (by_way q) ∙ told_same refl refl (omega (arith, x.tries)) refl refl

      passed_same :
          Passed ≡ fallback_way ran.number
          → told (eval_fallback v s (run_of (refused e) t n l))
          ≡ some (answered (refusal_ran ran.number ran.place ran.tries p) before)
      unfolding told fallback_by after ended scalar_words
      passed_same q =
          let x = refusal_told ran m w t n l e h in
          ap told (by_way q) ∙ told_same x.number x.place (omega (arith, x.tries)) refl refl

  -- a value is not decided so
  whole :
      (T : Told)
      → (ran.number ≡ 0 → ⊥)
      → ((e : Refusal) (t : State) (n : ℕ) (l : List Visit) (w : List ℕ)
      → Numbered {A = Value} (refused e)
      → told (run_of (refused e) t n l) ≡ some (told_with ran m w)
      → told (eval_fallback v s (run_of (refused e) t n l)) ≡ some T)
      → (R : Run Value) (w : List ℕ)
      → Numbered R.outcome
      → told R ≡ some (told_with ran m w)
      → told (eval_fallback v s R) ≡ some T
  unfolding told
  whole T z f R w = go R.outcome R.state R.tries R.trace
    where
      go :
          (o : Outcome Value) (t : State) (n : ℕ) (l : List Visit)
          → Numbered o
          → told (run_of o t n l) ≡ some (told_with ran m w)
          → told (eval_fallback v s (run_of o t n l)) ≡ some T
      go (ok x) t n l i h = absurd (z (sym (value_told ran m w t n l x h).number))
      go (refused e) t n l i h = f e t n l w i h
      go (fault x) t n l i h = absurd (none-ne-some _ h)

-- ---- as the code returns
module _ (own : ℕ) (before : List ℕ) (p : Numbers) (ran : Ran) (m : List ℕ) (given : Returned before p m ran) (k : Fallback)
    (q : k ≡ fallback_way ran.number) where
  pub fallback_child : k ≡ Child → FallbackOf own before p ran m m ran
  fallback_child a =
      let z : ran.number ≡ 0 = child_number ran.number (sym a ∙ q) in
      record {
        same = λ v _ R w i h e. child_same v before p ran m z R.outcome R.state R.tries R.trace w i h e;
        left = given.left;
      }

  refusing : (k ≡ Child → ⊥) → ran.number ≡ 0 → ⊥
  refusing f z = f (q ∙ value_way ran.number z)

  module _ (r : Ran) where
    pub fallback_own : k ≡ Own → r ≡ value_ran ran.tries 1 own p → FallbackOf own before p ran m before r
    fallback_own a e =
        let z = refusing (λ c. let y : ◌≡◌ {A = ℕ} 0 1 = cc in omega arith) in
        rw e (record {
          same = λ v u R w i h _. whole v before p ran m _ z (λ x t n l w' i' h'. rw (← u) (own_same v before p ran m x t n l w' i' h' (sym a ∙ q))) R w i h;
          left = left_same before p given.fine;
        })

    pub fallback_passed :
        k ≡ Passed → r ≡ refusal_ran ran.number ran.place ran.tries p → FallbackOf own before p ran m before r
    fallback_passed a e =
        let z = refusing (λ c. let y : ◌≡◌ {A = ℕ} 0 1 = cc in omega arith) in
        rw e (record {
          same = λ v _ R w i h _. whole v before p ran m _ z (λ x t n l w' i' h'. passed_same v before p ran m x t n l w' i' h' (sym a ∙ q)) R w i h;
          left = left_same before p given.fine;
        })

-- ---- as a whole
module _ (own : ℕ) (p : Numbers) (ran : Ran) where
  all :
      (k : Fallback)
      → k ≡ fallback_way ran.number
      → (r : Ran)
      → r ≡ made_by k own p ran
      → (before m m' : List ℕ)
      → Returned before p m ran
      → (ran.number ≡ 0 → m' ≡ m)
      → ((ran.number ≡ 0 → ⊥) → m' ≡ before)
      → FallbackOf own before p ran m m' r
  unfolding made_by
  all Child q r e before m m' given u n =
      let same : m' ≡ m = u (child_number ran.number q) in
      rw (e, same) (fallback_child own before p ran m given Child q refl)
  all Own q r e before m m' given u n =
      let back : m' ≡ before = n (refusing own before p ran m given Own q (λ c. let y : ◌≡◌ {A = ℕ} 0 1 = cc in omega arith)) in
      rw (e, back) (fallback_own own before p ran m given Own q _ refl refl)
  all Passed q r e before m m' given u n =
      let back : m' ≡ before = n (refusing own before p ran m given Passed q (λ c. let y : ◌≡◌ {A = ℕ} 0 1 = cc in omega arith)) in
      rw (e, back) (fallback_passed own before p ran m given Passed q _ refl refl)

  module _ (r : Ran) (made : r ≡ fallback_made own p ran) where
    -- a refused child left the marks as they were
    pub fallback_same : (before m : List ℕ) → Returned before p m ran → MarksUnchanged before m ran → FallbackOf own before p ran m m r
    unfolding fallback_made
    fallback_same before m given u = all (fallback_way ran.number) refl r made before m m given (λ _. refl) u

    -- the marks of a refused child are put back
    pub fallback_undone : (before m : List ℕ) → Returned before p m ran → (ran.number ≡ 0 → ⊥) → FallbackOf own before p ran m before r
    unfolding fallback_made
    fallback_undone before m given z = all (fallback_way ran.number) refl r made before m before given (λ e. absurd (z e)) (λ _. refl)

    pub fallback_kept : (before m : List ℕ) → Returned before p m ran → ran.number ≡ 0 → FallbackOf own before p ran m m r
    unfolding fallback_made
    fallback_kept before m given z = all (fallback_way ran.number) refl r made before m m given (λ _. refl) (λ n. absurd (n z))
