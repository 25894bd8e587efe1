-- A guard, by what `parse_guard` decides.
use mathlib.Core.Bool.{Bool, true, false, false≢true}
use mathlib.Core.List.{List, [], ◌∷◌}
use mathlib.Core.Option.{some, none-ne-some}
use mathlib.Core.Path.{◌≡◌, refl, sym, ap, ◌∙◌}
use Prim.Native.Nat.{ℕ, ◌+◌}
use native.Mathlib.Omega.{arith}
use lib.Dec.{eqb}
use borrow.Author.Tests.{eq-eqb, ne_eqb}
use Rattle.std.specs.Prelude.{if◌then◌else◌}
use Rattle.rules.specs.Outcome.{Outcome, ok, refused, fault, refuse}
use Rattle.rules.specs.Codes.{place_code}
use Rattle.rules.specs.Calls.{from_raw}
use Rattle.rules.specs.Value.{number, one, is_yes, is_text, is_number, Value, base, absent, present, nil, cons, word, words, has_kind, is_base, same_base, base_number, base_of}
use Rattle.rules.specs.State.{State}
use Rattle.rules.specs.Eval.{Ran as Run, Visit, ended, after, ◌then◌, guarded, eval_guard}
use Rattle.state_marks.specs.declared.Numbers.{Numbers}
use Rattle.state_marks.specs.Lent.{state_of}
use Rattle.rules.proofs.CodeLaws.{code_place}
use Rattle.eval_structs.specs.Decisions.{guard_by}
use Rattle.eval_told.specs.declared.Ran.{Ran}
use Rattle.eval_told.specs.Told.{told, Numbered, answered, scalar_words}
use Rattle.eval_told.specs.Results.{refusal_ran}
use Rattle.eval_combine.specs.Made.{GuardOf}
use Rattle.eval_combine.proofs.Tells.{run_of, told_same, value_told, refusal_told}

-- one word is the word of a value that is no list
one_word : (k len w : ℕ) → k ∷ [] ≡ scalar_words len w → k ≡ w
unfolding scalar_words
one_word k len w = go (eqb len 0) (eqb len 1)
  where
    go : (a b : Bool) → k ∷ [] ≡ (if a then [] else (if b then w ∷ [] else 1 ∷ w ∷ [])) → k ≡ w
    go true b e = absurd (let z : ◌≡◌ {A = ℕ} 0 1 = cc in omega arith)
    go false true e = cc
    go false false e = absurd (let z : ◌≡◌ {A = ℕ} 0 1 = cc in omega arith)

current_place : (m : List ℕ) (p : Numbers) → place_code (state_of m p).current ≡ p.current
unfolding state_of from_raw
current_place m p = code_place p.current

module _ (lo hi : ℕ) (ran : Ran) where
  abbrev words_of : List ℕ
  words_of = scalar_words ran.len ran.word

  refused_same :
      (ran.number ≡ 0 → ⊥)
      → (m : List ℕ) (o : Outcome Value) (t : State) (n : ℕ) (l : List Visit)
      → Numbered o
      → told (run_of o t n l) ≡ some (answered ran m)
      → told (eval_guard lo hi (run_of o t n l)) ≡ some (answered ran m)
  unfolding told eval_guard after ended ◌then◌
  refused_same z m (ok v) t n l i h = absurd (z (sym (value_told ran m words_of t n l v h).number))
  refused_same z m (refused e) t n l i h =
      let x = refusal_told ran m words_of t n l e h in
      told_same x.number x.place (omega (arith, x.tries)) x.words x.state
  refused_same z m (fault x) t n l i h = absurd (none-ne-some _ h)

  pub guard_refused : (ran.number ≡ 0 → ⊥) → GuardOf lo hi ran ran
  guard_refused z = record {
    same = λ m R i h _. refused_same z m R.outcome R.state R.tries R.trace i h;
    numbers = refl;
  }

  -- a number, by what was decided for its word
  module _ (z : ran.number ≡ 0) (g : ℕ) (decided : (s : State) → guarded lo hi (base (is_number ran.word)) s ≡ guard_by g ran.word s) where
    module _ (m : List ℕ) (t : State) (n : ℕ) (l : List Visit) (k : ℕ) (h : told (run_of (ok (base (is_number k))) t n l) ≡ some (answered ran m)) where
      by_number : {o : Outcome Value} → guard_by g k t ≡ o → told (eval_guard lo hi (run_of (ok (base (is_number k))) t n l)) ≡ told (run_of o t (n + 0) l)
      unfolding told eval_guard after ended ◌then◌ words word
      by_number e =
          let w : k ≡ ran.word = one_word k ran.len ran.word (value_told ran m words_of t n l (base (is_number k)) h).words in
          let d : guarded lo hi (base (is_number k)) t ≡ guard_by g k t = rw w (decided t) in
          ap (λ (x : Outcome Value). told (run_of x t (n + 0) l)) (d ∙ e)

      within_same : g ≡ 0 → told (eval_guard lo hi (run_of (ok (base (is_number k))) t n l)) ≡ some (answered ran m)
      unfolding told guard_by
      within_same e =
          let x = value_told ran m words_of t n l (base (is_number k)) h in
          by_number {o = ok (base (is_number k))} (rw (eq-eqb g 0 e))
          ∙ told_same x.number x.place (omega (arith, x.tries)) x.words x.state

      failed_same :
          (g ≡ 0 → ⊥)
          → told (eval_guard lo hi (run_of (ok (base (is_number k))) t n l))
          ≡ some (answered (refusal_ran g ran.numbers.current ran.tries ran.numbers) m)
      unfolding told guard_by scalar_words
      failed_same f =
          let x = value_told ran m words_of t n l (base (is_number k)) h in
          let c : place_code t.current ≡ ran.numbers.current = rw x.state (current_place m ran.numbers) in
          by_number {o = refused (refuse g t.current)} (rw (ne_eqb g 0 f))
          ∙ told_same refl c (omega (arith, x.tries)) refl x.state

    -- a value of the kind is a number
    whole :
        (r : Ran)
        → ((m : List ℕ) (t : State) (n : ℕ) (l : List Visit) (k : ℕ)
        → told (run_of (ok (base (is_number k))) t n l) ≡ some (answered ran m)
        → told (eval_guard lo hi (run_of (ok (base (is_number k))) t n l)) ≡ some (answered r m))
        → (m : List ℕ) (R : Run Value)
        → Numbered R.outcome
        → told R ≡ some (answered ran m)
        → ((v : Value) → R.outcome ≡ ok v → has_kind (one number) v ≡ true)
        → told (eval_guard lo hi R) ≡ some (answered r m)
    unfolding told has_kind is_base same_base base_number base_of
    whole r f m R i h k = go R.outcome R.state R.tries R.trace i h k
      where
        kinds :
            (v : Value) (t : State) (n : ℕ) (l : List Visit)
            → has_kind (one number) v ≡ true
            → told (run_of (ok v) t n l) ≡ some (answered ran m)
            → told (eval_guard lo hi (run_of (ok v) t n l)) ≡ some (answered r m)
        kinds (base (is_yes b)) t n l k h = absurd (false≢true k)
        kinds (base (is_text x)) t n l k h = absurd (false≢true k)
        kinds (base (is_number x)) t n l k h = f m t n l x h
        kinds absent t n l k h = absurd (false≢true k)
        kinds (present v) t n l k h = absurd (false≢true k)
        kinds nil t n l k h = absurd (false≢true k)
        kinds (cons v w) t n l k h = absurd (false≢true k)

        go :
            (o : Outcome Value) (t : State) (n : ℕ) (l : List Visit)
            → Numbered o
            → told (run_of o t n l) ≡ some (answered ran m)
            → ((v : Value) → o ≡ ok v → has_kind (one number) v ≡ true)
            → told (eval_guard lo hi (run_of o t n l)) ≡ some (answered r m)
        go (ok v) t n l i h k = kinds v t n l (k v refl) h
        go (refused e) t n l i h k = absurd (i ((refusal_told ran m words_of t n l e h).number ∙ z))
        go (fault x) t n l i h k = absurd (none-ne-some _ h)

    pub guard_within : g ≡ 0 → GuardOf lo hi ran ran
    guard_within e = record { same = whole ran (λ m t n l k h. within_same m t n l k h e); numbers = refl }

    pub guard_failed : (g ≡ 0 → ⊥) → (r : Ran) → r ≡ refusal_ran g ran.numbers.current ran.tries ran.numbers → GuardOf lo hi ran r
    guard_failed f r e = rw e (record {
      same = whole (refusal_ran g ran.numbers.current ran.tries ran.numbers) (λ m t n l k h. failed_same m t n l k h f);
      numbers = refl;
    })
