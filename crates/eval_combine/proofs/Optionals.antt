-- An optional, by what `parse_option` decides.
use mathlib.Core.Bool.{Bool, true, false, not, false≢true}
use mathlib.Core.List.{List, [], ◌∷◌}
use mathlib.Core.Logic.{⊎_elim, inl, inr}
use mathlib.Core.Option.{Option, some, none, none-ne-some}
use mathlib.Core.Path.{◌≡◌, refl, sym, ap, ◌∙◌}
use Prim.Native.Nat.{ℕ, ◌+◌}
use native.Mathlib.Omega.{arith}
use lib.Dec.{eqb}
use borrow.Author.Tests.{eq-eqb, ne_eqb, eqb-true}
use types.Run.{OneOf}
use denote.Enum.Declared.{tag_of}
use Rattle.std.specs.Prelude.{if◌then◌else◌}
use Rattle.rules.specs.Outcome.{Outcome, ok, refused, fault, Refusal, refuse}
use Rattle.rules.specs.Value.{Value, absent, present, words}
use Rattle.rules.specs.Calls.{from_raw}
use Rattle.rules.specs.State.{State}
use Rattle.rules.specs.Eval.{Ran as Run, Visit, ended, after, ◌then◌, fewer, swallowed, parse_option, eval_optional}
use Rattle.state_marks.specs.declared.Numbers.{Numbers}
use Rattle.state_marks.specs.Lent.{state_of}
use Rattle.take_search.proofs.States.{left_same}
use Rattle.eval_structs.specs.declared.Counting.{Counting}
use Rattle.eval_structs.specs.declared.Counting.TheVariants.{Counted, Uncounted, Absent, PassedOn}
use Rattle.eval_structs.specs.Decisions.{with_remaining, option_way, option_by, some_of}
use Rattle.eval_structs.specs.Laws.{option_refused}
use Rattle.eval_structs.specs.contracts.Counting as T
use Rattle.eval_told.specs.declared.Ran.{Ran}
use Rattle.eval_told.specs.Told.{told, Numbered, told_with}
use Rattle.eval_told.specs.Results.{value_ran, refusal_ran}
use Rattle.eval_combine.specs.Made.{ChildGiven, Undone, optional_words, OptionalOf}
use Rattle.eval_combine.specs.declared.Optioned.{Optioned}
use Rattle.eval_combine.specs.Unchanged.{optional_by, optional_made}
use Rattle.eval_combine.proofs.Tells.{run_of, told_same, value_told, refusal_told}

-- ---- the number, by what was decided
module _ (number given left : ℕ) (catch : Bool) (len : Option ℕ) where
  refusing : Counting → Type 0
  refusing Counted = ⊥
  refusing Uncounted = ⊥
  refusing Absent = Unit {0}
  refusing PassedOn = Unit {0}

  refusing_number : refusing (option_way number catch given left len) → number ≡ 0 → ⊥
  unfolding option_way refusing
  refusing_number h z = go (fewer left len) (rw (eq-eqb number 0 z) at h)
    where
      go : (b : Bool) → refusing (if b then Counted else Uncounted) → ⊥
      go true k = k
      go false k = k

  way_value : (k : Counting) → k ≡ option_way number catch given left len → OneOf (0 ∷ 1 ∷ []) (tag_of T.the_type k) → number ≡ 0
  unfolding option_way
  way_value k e o = go (eqb number 0) refl
    where
      tags : (j : Counting) (b : Bool) → j ≡ (if b then Absent else PassedOn) → OneOf (0 ∷ 1 ∷ []) (tag_of T.the_type j) → ⊥
      tags Counted true e o = let z : ◌≡◌ {A = ℕ} 0 1 = cc in omega arith
      tags Counted false e o = let z : ◌≡◌ {A = ℕ} 0 1 = cc in omega arith
      tags Uncounted true e o = let z : ◌≡◌ {A = ℕ} 0 1 = cc in omega arith
      tags Uncounted false e o = let z : ◌≡◌ {A = ℕ} 0 1 = cc in omega arith
      tags Absent b e o = ⊎_elim (λ (e : ◌≡◌ {A = ℕ} 2 0). omega arith) (λ (e : ◌≡◌ {A = ℕ} 2 1). omega arith) o
      tags PassedOn b e o = ⊎_elim (λ (e : ◌≡◌ {A = ℕ} 3 0). omega arith) (λ (e : ◌≡◌ {A = ℕ} 3 1). omega arith) o

      go : (b : Bool) → eqb number 0 ≡ b → number ≡ 0
      go true t = eqb-true number 0 t
      go false t =
          absurd (tags k (swallowed catch (refuse number none) (with_remaining given) (with_remaining left)) (rw t at e) o)

-- ---- what is told
hand : Option Value → State → Run Value
hand v t = ended (ok (elim v [ none ↦ absent | some x ↦ present x ])) t

module _ (catch : Bool) (before : List ℕ) (p : Numbers) (ran : Ran) (m : List ℕ) where
  abbrev s : State
  s = state_of before p

  abbrev way : Counting
  way = option_way ran.number catch p.remaining ran.numbers.remaining none

  value_same :
      ran.number ≡ 0
      → (o : Outcome Value) (t : State) (n : ℕ) (l : List Visit) (w : List ℕ)
      → Numbered o
      → told (run_of o t n l) ≡ some (told_with ran m w)
      → (len word : ℕ)
      → told (eval_optional catch s (run_of o t n l))
      ≡ some (told_with (value_ran ran.tries len word ran.numbers) m (optional_words 0 true w))
  unfolding told eval_optional parse_option after ended ◌then◌ fewer optional_words words
  value_same z (ok v) t n l w i h len word =
      let x = value_told ran m w t n l v h in
      told_same refl refl (omega (arith, x.tries)) (ap (λ (k : List ℕ). 1 ∷ k) x.words) x.state
  value_same z (refused e) t n l w i h len word = absurd (i ((refusal_told ran m w t n l e h).number ∙ z))
  value_same z (fault x) t n l w i h len word = absurd (none-ne-some _ h)

  -- after a refusal
  module _
      (k : Counting)
      (q : k ≡ way)
      (e : Refusal)
      (t : State)
      (n : ℕ)
      (l : List Visit)
      (w : List ℕ)
      (i : Numbered {A = Value} (refused e))
      (h : told (run_of (refused e) t n l) ≡ some (told_with ran m w))
    where
      by_way : {j : Counting} → k ≡ j → parse_option catch none s (run_of (refused e) t n l) ≡ option_by j s (run_of (refused e) t n l)
      unfolding state_of from_raw
      by_way a =
          let x = refusal_told ran m w t n l e h in
          option_refused catch none s (run_of (refused e) t n l) e refl i
          ∙ ap (λ (y : Counting). option_by y s (run_of (refused e) t n l))
          (rw (x.number, x.state) (sym q ∙ a))

      absent_same :
          k ≡ Absent
          → told (eval_optional catch s (run_of (refused e) t n l))
          ≡ some (told_with (value_ran ran.tries 1 0 p) before (optional_words 0 false w))
      unfolding told eval_optional option_by after ended ◌then◌ hand optional_words words
      absent_same a =
          let x = refusal_told ran m w t n l e h in
          ap (λ (u : Run (Option Value)). told (u then hand)) (by_way a)
          ∙ told_same refl refl (omega (arith, x.tries)) refl refl

      passed_same :
          k ≡ PassedOn
          → (ran.number ≡ 0 → ⊥)
          → told (eval_optional catch s (run_of (refused e) t n l))
          ≡ some (told_with (refusal_ran ran.number ran.place ran.tries ran.numbers) m
          (optional_words ran.number false w))
      unfolding told eval_optional option_by some_of after ended ◌then◌ hand optional_words
      passed_same a z =
          let x = refusal_told ran m w t n l e h in
          ap (λ (u : Run (Option Value)). told (u then hand)) (by_way a)
          ∙ told_same x.number x.place (omega (arith, x.tries)) (rw (ne_eqb ran.number 0 z)) x.state

  -- a value is not decided so
  whole :
      (r : Optioned) (m' : List ℕ)
      → (ran.number ≡ 0 → ⊥)
      → ((e : Refusal) (t : State) (n : ℕ) (l : List Visit) (w : List ℕ)
      → Numbered {A = Value} (refused e)
      → told (run_of (refused e) t n l) ≡ some (told_with ran m w)
      → told (eval_optional catch s (run_of (refused e) t n l))
      ≡ some (told_with r.ran m' (optional_words r.ran.number r.present w)))
      → (R : Run Value) (w : List ℕ)
      → Numbered R.outcome
      → told R ≡ some (told_with ran m w)
      → told (eval_optional catch s R) ≡ some (told_with r.ran m' (optional_words r.ran.number r.present w))
  unfolding told
  whole r m' z f R w = go R.outcome R.state R.tries R.trace
    where
      go :
          (o : Outcome Value) (t : State) (n : ℕ) (l : List Visit)
          → Numbered o
          → told (run_of o t n l) ≡ some (told_with ran m w)
          → told (eval_optional catch s (run_of o t n l))
          ≡ some (told_with r.ran m' (optional_words r.ran.number r.present w))
      go (ok v) t n l i h = absurd (z (sym (value_told ran m w t n l v h).number))
      go (refused e) t n l i h = f e t n l w i h
      go (fault x) t n l i h = absurd (none-ne-some _ h)

-- ---- as the code returns
module _ (catch : Bool) (before : List ℕ) (p : Numbers) (ran : Ran) (m : List ℕ) (given : ChildGiven before p m ran) (k : Counting)
    (q : k ≡ option_way ran.number catch p.remaining ran.numbers.remaining none) (r : Ran) where
  pub optional_present :
      OneOf (0 ∷ 1 ∷ []) (tag_of T.the_type k)
      → r ≡ value_ran ran.tries (ran.len + 1) ran.word ran.numbers
      → OptionalOf catch before p ran m m (record { ran = r; present = true })
  optional_present o e =
      let z : ran.number ≡ 0 = way_value ran.number p.remaining ran.numbers.remaining catch _ k q o in
      rw e (record {
        same = λ R w i h. value_same catch before p ran m z R.outcome R.state R.tries R.trace w i h (ran.len + 1) ran.word;
        left = given.left;
        present = λ _ _. (refl, refl);
        absent = λ _ f. absurd (false≢true (sym f));
        refused = λ f. absurd (f refl);
      })

  pub optional_absent :
      k ≡ Absent
      → r ≡ value_ran ran.tries 1 0 p
      → OptionalOf catch before p ran m before (record { ran = r; present = false })
  unfolding refusing
  optional_absent a e =
      let z = refusing_number ran.number p.remaining ran.numbers.remaining catch none (rw (← q, a) tt) in
      rw e (record {
        same = whole catch before p ran m (record { ran = value_ran ran.tries 1 0 p; present = false }) before z
            (λ x t n l w i h. absent_same catch before p ran m k q x t n l w i h a);
        left = left_same before p given.fine;
        present = λ _ f. absurd (false≢true f);
        absent = λ _ _. (refl, refl);
        refused = λ f. absurd (f refl);
      })

  pub optional_passed :
      k ≡ PassedOn
      → r ≡ refusal_ran ran.number ran.place ran.tries ran.numbers
      → OptionalOf catch before p ran m m (record { ran = r; present = false })
  unfolding refusing
  optional_passed a e =
      let z = refusing_number ran.number p.remaining ran.numbers.remaining catch none (rw (← q, a) tt) in
      rw e (record {
        same = whole catch before p ran m
            (record { ran = refusal_ran ran.number ran.place ran.tries ran.numbers; present = false }) m z
            (λ x t n l w i h. passed_same catch before p ran m k q x t n l w i h a z);
        left = given.left;
        present = λ _ f. absurd (false≢true f);
        absent = λ f. absurd (z f);
        refused = λ _. (refl, refl);
      })

-- ---- as a whole
module _ (catch : Bool) (p : Numbers) (ran : Ran) where
  abbrev decided : Counting
  decided = option_way ran.number catch p.remaining ran.numbers.remaining none

  all :
      (k : Counting)
      → k ≡ decided
      → (r : Optioned)
      → r ≡ optional_by k p ran
      → (before m m' : List ℕ)
      → ChildGiven before p m ran
      → (k ≡ Absent → m' ≡ before)
      → ((k ≡ Absent → ⊥) → m' ≡ m)
      → OptionalOf catch before p ran m m' r
  unfolding optional_by
  all Counted q r e before m m' given u n =
      let same : m' ≡ m = n (λ z. let y : ◌≡◌ {A = ℕ} 0 1 = cc in omega arith) in
      rw (e, same) (optional_present catch before p ran m given Counted q _ (inl refl) refl)
  all Uncounted q r e before m m' given u n =
      let same : m' ≡ m = n (λ z. let y : ◌≡◌ {A = ℕ} 0 1 = cc in omega arith) in
      rw (e, same) (optional_present catch before p ran m given Uncounted q _ (inr refl) refl)
  all Absent q r e before m m' given u n = rw (e, u refl) (optional_absent catch before p ran m given Absent q _ refl refl)
  all PassedOn q r e before m m' given u n =
      let same : m' ≡ m = n (λ z. let y : ◌≡◌ {A = ℕ} 0 1 = cc in omega arith) in
      rw (e, same) (optional_passed catch before p ran m given PassedOn q _ refl refl)

  is_absent : (k : Counting) → k ≡ decided → (r : Optioned) → r ≡ optional_by k p ran → r.ran.number ≡ 0 → r.present ≡ false → k ≡ Absent
  unfolding optional_by refusing
  is_absent Counted q r e z f = absurd (false≢true (sym f ∙ ap (λ (x : Optioned). x.present) e))
  is_absent Uncounted q r e z f = absurd (false≢true (sym f ∙ ap (λ (x : Optioned). x.present) e))
  is_absent Absent q r e z f = refl
  is_absent PassedOn q r e z f =
      absurd (refusing_number ran.number p.remaining ran.numbers.remaining catch none (rw (← q) tt) (sym (ap (λ (x : Optioned). x.ran.number) e) ∙ z))

  module _ (r : Optioned) (made : r ≡ optional_made catch p ran) where
    -- an absent child left the marks as they were
    pub optional_same : (before m : List ℕ) → ChildGiven before p m ran → Undone catch before p m ran → OptionalOf catch before p ran m m r
    unfolding optional_made
    optional_same before m given u = all decided refl r made before m m given u (λ _. refl)

    -- the marks of an absent child are put back
    pub optional_undone : (before m : List ℕ) → ChildGiven before p m ran → r.ran.number ≡ 0 → not r.present ≡ true → OptionalOf catch before p ran m before r
    unfolding optional_made
    optional_undone before m given z f =
        all decided refl r made before m before given (λ _. refl) (λ n. absurd (n (is_absent decided refl r made z (go r.present f))))
      where
        go : (b : Bool) → not b ≡ true → b ≡ false
        go true h = absurd (false≢true h)
        go false h = refl

    pub optional_kept :
        (before m : List ℕ) → ChildGiven before p m ran → ((r.ran.number ≡ 0) × (r.present ≡ false) → ⊥) → OptionalOf catch before p ran m m r
    unfolding optional_made optional_by
    optional_kept before m given n =
        all decided refl r made before m m given
        (λ a. let e = rw a at made in absurd (n (ap (λ (x : Optioned). x.ran.number) e, ap (λ (x : Optioned). x.present) e))) (λ _. refl)
