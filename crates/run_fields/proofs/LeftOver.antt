-- After the fields: 27 at the first present place in scope, or nothing.
use mathlib.Core.Bool.{true}
use mathlib.Core.List.{List, [], ◌∷◌}
use mathlib.Core.Option.{Option, some, none, some-injective, none-ne-some}
use mathlib.Core.Path.{◌≡◌, refl, sym, ap, ◌∙◌, subst}
use Prim.Native.Nat.{ℕ, suc, ◌+◌, ◌-◌, ◌≤◌, ◌<◌}
use native.Mathlib.Omega.{arith}
use lib.ListN.{length, get_elem?, replicate}
use lib.Seq.{sets}
use Rattle.rules.specs.Outcome.{Outcome, ok, refused, fault, ◌>>=◌, at}
use Rattle.rules.specs.Value.{Value}
use Rattle.rules.specs.Sheet.{sheet_area}
use Rattle.rules.specs.Accept.{Accepted, accepted, check_form}
use Rattle.rules.specs.Split.{Item}
use Rattle.rules.specs.State.{Found, present_from, find_in, find, first}
use Rattle.rules.specs.Eval.{Ran as Run, ended, after, ◌then◌}
use Rattle.rules.specs.Run.{run_fields, left_over, run_all}
use Rattle.rules.specs.Demands.{Ends}
use Rattle.rules.specs.Sound.{Good}
use Rattle.rules.proofs.Acceptance.{lookup_some, accepted_sound}
use Rattle.rules.proofs.EvalSound.{Any}
use Rattle.rules.proofs.Fields.{fields_run}
use Rattle.state_marks.specs.declared.Numbers.{Numbers}
use Rattle.state_marks.specs.Lent.{state_of, first_or, Fine}
use Rattle.state_marks.proofs.Laws.{fine_long, fine_unused}
use Rattle.state_marks.proofs.Marks.{first_hit, first_none, first_within}
use Rattle.take_search.specs.States.{Items}
use Rattle.eval_told.specs.Told.{Told, Numbered}
use Rattle.eval_words.proofs.Words.{sets_back}
use Rattle.run_fields.specs.declared.Reached.{Reached}
use Rattle.run_fields.specs.Line.{Starts, told_all, missing_of, RunsFields, RunsAll, refused_with}
use Rattle.run_fields.proofs.Going.{told_same, with_outcome_lem}

-- ---- the test behind a run
module _ (is : List Item) where
  abbrev tested : Run (List Value) → Run (List Value)
  tested r = r then λ vs t. ended (first is t >>= left_over vs) t

  module _ (r : Run (List Value)) (x : Told) (h : told_all r ≡ some x) where
    tested_refused : (x.number ≡ 0 → ⊥) → told_all (tested r) ≡ some x
    unfolding told_all ◌then◌ after ended
    tested_refused z = go r.outcome h
      where
        go : (o : Outcome (List Value)) → told_all (with_outcome_lem r o) ≡ some x → told_all (tested (with_outcome_lem r o)) ≡ some x
        go (ok vs) e = absurd (z (sym (ap (λ (y : Told). y.number) (some-injective _ x e))))
        go (refused v) e = told_same refl refl (omega arith) refl refl ∙ e
        go (fault v) e = absurd (none-ne-some x e)

    tested_state : r.state ≡ x.state
    unfolding told_all
    tested_state = go r.outcome h
      where
        go : (o : Outcome (List Value)) → told_all (with_outcome_lem r o) ≡ some x → r.state ≡ x.state
        go (ok vs) e = ap (λ (y : Told). y.state) (some-injective _ x e)
        go (refused v) e = ap (λ (y : Told). y.state) (some-injective _ x e)
        go (fault v) e = absurd (none-ne-some x e)

    -- no place is left
    tested_none : first is x.state ≡ ok none → told_all (tested r) ≡ some x
    unfolding told_all ◌then◌ after ended left_over ◌>>=◌
    tested_none f = go r.outcome h
      where
        none_left : first is r.state ≡ ok none
        none_left = ap (first is) tested_state ∙ f

        go : (o : Outcome (List Value)) → told_all (with_outcome_lem r o) ≡ some x → told_all (tested (with_outcome_lem r o)) ≡ some x
        go (ok vs) e = rw none_left (told_same refl refl (omega arith) refl refl ∙ e)
        go (refused v) e = told_same refl refl (omega arith) refl refl ∙ e
        go (fault v) e = absurd (none-ne-some x e)

    -- the test adds nothing to what was missing
    tested_lost : (x.number ≡ 0 → ⊥) → missing_of (tested r) ≡ missing_of r
    unfolding told_all missing_of ◌then◌ after ended
    tested_lost z = go r.outcome h
      where
        go : (o : Outcome (List Value)) → told_all (with_outcome_lem r o) ≡ some x → missing_of (tested (with_outcome_lem r o)) ≡ missing_of (with_outcome_lem r o)
        go (ok vs) e = absurd (z (sym (ap (λ (y : Told). y.number) (some-injective _ x e))))
        go (refused v) e = refl
        go (fault v) e = refl

    first_lost : (f : Option Found) → first is x.state ≡ ok f → missing_of (tested r) ≡ missing_of r
    unfolding missing_of ◌then◌ after ended left_over ◌>>=◌
    first_lost f k = go r.outcome f (ap (first is) tested_state ∙ k)
      where
        go :
            (o : Outcome (List Value)) (f : Option Found)
            → first is r.state ≡ ok f
            → missing_of (tested (with_outcome_lem r o)) ≡ missing_of (with_outcome_lem r o)
        go (ok vs) none e = rw e refl
        go (ok vs) (some y) e = rw e refl
        go (refused v) f e = refl
        go (fault v) f e = refl

    -- 27 at the first that is left
    tested_found :
        (y : Found)
        → Numbered r.outcome
        → x.number ≡ 0
        → first is x.state ≡ ok (some y)
        → told_all (tested r) ≡ some (record { number = 27; place = suc y.place; tries = x.tries; words = []; state = x.state })
    unfolding told_all ◌then◌ after ended left_over ◌>>=◌
    tested_found y nb z f = go r.outcome nb h
      where
        one_left : first is r.state ≡ ok (some y)
        one_left = ap (first is) tested_state ∙ f

        go :
            (o : Outcome (List Value))
            → Numbered o
            → told_all (with_outcome_lem r o) ≡ some x
            → told_all (tested (with_outcome_lem r o))
            ≡ some (record { number = 27; place = suc y.place; tries = x.tries; words = []; state = x.state })
        go (ok vs) nb e =
            let same = some-injective _ x e in
            rw one_left (told_same refl refl (omega (arith, ap (λ (u : Told). u.tries) same)) refl (ap (λ (u : Told). u.state) same))
        go (refused v) nb e = absurd (nb (ap (λ (u : Told). u.number) (some-injective _ x e) ∙ z))
        go (fault v) nb e = absurd (none-ne-some x e)

-- ---- the first present place in scope
find_here :
    (is : List Item) (i : ℕ) (l : List ℕ) (x : Item)
    → get_elem? is i ≡ some x
    → find_in is (λ _. true) (i ∷ l) ≡ ok (some (record { place = i; item = x }))
unfolding find_in at ◌>>=◌
find_here is i l x g = rw g

module _ (m : List ℕ) (p : Numbers) (f : Fine m p) (is : List Item) (n : length is ≡ p.count) (place : ℕ)
    (e : place ≡ first_or p.end (present_from m (p.end - p.start) p.start)) where
  nothing_left : p.end ≤ place → first is (state_of m p) ≡ ok none
  unfolding first find find_in
  nothing_left h = rw (fine_unused m p f, first_none m p.start p.end place f.order e h)

  something_left : place < p.end → (y : Found) × (y.place ≡ place) × (first is (state_of m p) ≡ ok (some y))
  unfolding first find
  something_left h =
      let (x, g) = lookup_some is place (omega (arith, f.inside)) in
      (record { place = place; item = x }, refl, ap (find_in is (λ _. true)) (fine_unused m p f ∙ (first_hit m p.start p.end place f.order e h).rest) ∙ find_here is place _ x g)

-- ---- all fields, and then the test
module _ (b known s words m₀ : List ℕ) (p₀ : Numbers) (first : ℕ) (o₀ : List ℕ) (start : Starts b known s words m₀ p₀ first o₀) where
  module _ (m o : List ℕ) (r : Reached) (a : Accepted) (e : check_form b ≡ accepted a) (t : RunsFields (sheet_area s) words first a.fields m₀ p₀ m o₀ o r) where
    pub all_refused : (r.number ≡ 0 → ⊥) → RunsAll (sheet_area s) words first a.fields m₀ p₀ m o₀ o r
    unfolding run_all
    all_refused z = record {
      values = t.values;
      same = λ is i. tested_refused is (run_fields first is a.fields (state_of m₀ p₀)) _ (t.same is i) z;
      count = t.count;
      put = t.put;
      few = t.few;
      left = t.left;
      lacks = λ is i. tested_lost is (run_fields first is a.fields (state_of m₀ p₀)) _ (t.same is i) z ∙ t.lacks is i;
      inside = t.inside;
    }

    pub scope_order : (x y : ℕ) → x ≡ r.numbers.start → y ≡ r.numbers.end → (x ≤ y) × (y ≤ length m)
    scope_order x y c d =
        let f = t.left.fine in
        (omega (arith, f.order), omega (arith, f.inside, fine_long m r.numbers f))

    module _ (x y place : ℕ) (c : x ≡ r.numbers.start) (d : y ≡ r.numbers.end) (l : place ≡ first_or y (present_from m (y - x) x)) where
      here : place ≡ first_or r.numbers.end (present_from m (r.numbers.end - r.numbers.start) r.numbers.start)
      here = rw (← c, ← d) l

      place_small : place ≤ 256
      place_small =
          let f = t.left.fine in
          omega (arith, f.inside, f.small, first_within m r.numbers.start r.numbers.end place f.order here)

      pub place_fits : place < 4294967296
      place_fits = omega (arith, place_small)

      pub place_more : place + 1 < 4294967296
      place_more = omega (arith, place_small)

      items : (is : List Item) → Items (sheet_area s) words p₀ is → length is ≡ r.numbers.count
      items is i = i.1 ∙ sym t.left.count

      pub all_empty : y ≤ place → RunsAll (sheet_area s) words first a.fields m₀ p₀ m o₀ o r
      unfolding run_all
      all_empty h = record {
        values = t.values;
        same = λ is i.
            tested_none is (run_fields first is a.fields (state_of m₀ p₀)) _ (t.same is i)
            (nothing_left m r.numbers t.left.fine is (items is i) place here (omega (arith, d)));
        count = t.count;
        put = t.put;
        few = t.few;
        left = t.left;
        lacks = λ is i.
            first_lost is (run_fields first is a.fields (state_of m₀ p₀)) _ (t.same is i) none
            (nothing_left m r.numbers t.left.fine is (items is i) place here (omega (arith, d)))
            ∙ t.lacks is i;
        inside = t.inside;
      }

      numbered : (is : List Item) → Items (sheet_area s) words p₀ is → Numbered (run_fields first is a.fields (state_of m₀ p₀)).outcome
      numbered is i =
          go (run_fields first is a.fields (state_of m₀ p₀)).outcome
          (fields_run first is a.fields (accepted_sound b a e) (state_of m₀ p₀)
          (subst (λ (j : ℕ). Good j (state_of m₀ p₀)) (sym i.1) start.state.fine.good)).ends
        where
          go : (o : Outcome (List Value)) → Ends Any a.fields o → Numbered o
          go (ok v) w = tt
          go (refused v) w = λ z. omega (arith, w.0)
          go (fault v) w = tt

      pub all_left : r.number ≡ 0 → place < y → (n : ℕ) → n ≡ r.words → (o' : List ℕ) → o' ≡ sets o 0 (replicate n 0) → (v : Reached)
          → v ≡ refused_with 27 (place + 1) r.tries 0 r.numbers
          → RunsAll (sheet_area s) words first a.fields m₀ p₀ m o₀ o' v
      unfolding run_all
      all_left z h n w o' q v u =
          let cleared : o' ≡ o₀ =
          q ∙ ap (λ (l : List ℕ). sets l 0 (replicate n 0)) t.put
          ∙ ap (λ (j : ℕ). sets (sets o₀ 0 t.values) 0 (replicate j 0)) (w ∙ t.count)
          ∙ sets_back t.values o₀ 0 (λ j _. start.zeros j) in
          rw u
          (record {
            values = [];
            same = λ is i.
                let (y, g, k) = something_left m r.numbers t.left.fine is (items is i) place here (omega (arith, d)) in
                tested_found is (run_fields first is a.fields (state_of m₀ p₀)) _ (t.same is i) y (numbered is i) z k
                ∙ told_same refl (omega (arith, g)) refl refl refl;
            count = refl;
            put = cleared;
            few = omega arith;
            left = t.left;
            lacks = λ is i.
                let (y, g, k) = something_left m r.numbers t.left.fine is (items is i) place here (omega (arith, d)) in
                first_lost is (run_fields first is a.fields (state_of m₀ p₀)) _ (t.same is i) (some y) k
                ∙ t.lacks is i ∙ rw z refl;
            inside = λ q. omega arith;
          })
