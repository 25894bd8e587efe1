-- The loop over the fields: what is told of those that are still to run, behind those that have run, is the whole.
use mathlib.Core.Bool.{Bool, true, false}
use mathlib.Core.List.{List, [], ◌∷◌, ◌++◌, append-nil}
use mathlib.Core.Option.{Option, some, none, some-injective}
use mathlib.Core.Path.{◌≡◌, refl, sym, ap, ◌∙◌, subst}
use Prim.Native.Nat.{ℕ, suc, ◌+◌, ◌*◌, ◌≤◌, ◌<◌}
use native.Mathlib.Nat.{zero-add, mul-le-mul}
use native.Mathlib.Numerals.{add-one}
use native.Mathlib.Omega.{arith}
use lib.Dec.{eqb}
use lib.ListN.{length, get_or, set, drop, get_elem?, replicate, length-append, drop_of_length-le}
use lib.Seq.{sets, length-sets, get_or-set_other}
use Rattle.std.specs.Prelude.{if◌then◌else◌}
use Rattle.rules.specs.Outcome.{Outcome, ok, refused, fault, Refusal, is_missing}
use Rattle.rules.specs.Value.{Value, words, answer_words}
use Rattle.rules.specs.Codes.{place_code}
use Rattle.rules.specs.Form.{field_count, read_form}
use Rattle.rules.specs.Sheet.{sheet_area}
use Rattle.rules.specs.Tree.{Tree}
use Rattle.rules.specs.Accept.{Accepted, accepted, check_form, length_good}
use Rattle.rules.specs.Split.{Item}
use Rattle.rules.specs.State.{State, field_mark}
use Rattle.rules.specs.Eval.{Ran as Run, ended, after, ◌then◌, eval}
use Rattle.rules.specs.Run.{run_fields}
use Rattle.rules.specs.Missing.{lacking, Lacks}
use Rattle.rules.specs.Sound.{Good, leaves}
use Rattle.rules.proofs.Acceptance.{accepted_same, accepted_length}
use Rattle.rules.proofs.EvalSound.{eval_sound}
use Rattle.rules.proofs.StepLaws.{remaining_within}
use Rattle.rules.proofs.Fields.{most_leaves, field_parsed}
use Rattle.rules.proofs.Places.{drop_below}
use Rattle.rules.proofs.MissingLaws.{missing_told}
use Rattle.rules.proofs.Steps.{Runs}
use Rattle.state_marks.specs.declared.Numbers.{Numbers}
use Rattle.state_marks.specs.Lent.{state_of}
use Rattle.take_search.specs.States.{LeftState, Items}
use Rattle.take_search.proofs.States.{left_same, left_more}
use Rattle.eval_told.specs.declared.Ran.{Ran}
use Rattle.eval_told.specs.Told.{Told, told, told_with, Numbered}
use Rattle.eval_told.proofs.Visits.{runs_numbered}
use Rattle.eval_told.proofs.Repeats.{append_three, told_state, told_tries, told_value, told_denied}
use Rattle.eval_words.proofs.Words.{sets_append, sets_back}
use Rattle.run_fields.specs.declared.Reached.{Reached}
use Rattle.eval_list.specs.Lists.{Writes, WritesField}
use Rattle.run_fields.specs.Line.{Starts, FieldReady, told_all, missing_of, lacking_field, RunsFields, refused_with, values_of}
use Rattle.run_fields.proofs.Fields.{FieldAt, field, field_stands, form_long, few_fields, field_count_lem, lacking_here}

-- ---- what is told behind so many tries and these words
unfoldable pub behind : ℕ → List ℕ → Run (List Value) → Option Told
behind n w r = elim r.outcome [
  | ok vs ↦ some (record { number = 0; place = 0; tries = n + r.tries; words = w ++ answer_words vs; state = r.state })
  | refused e ↦ some (record
      { number = e.number; place = place_code e.place; tries = n + r.tries; words = []; state = r.state })
  | fault x ↦ none
]

pub told_same :
    {a b c d k l : ℕ} {v w : List ℕ} {s t : State}
    → a ≡ b
    → c ≡ d
    → k ≡ l
    → v ≡ w
    → s ≡ t
    → ◌≡◌ {A = Option Told} (some (record { number = a; place = c; tries = k; words = v; state = s }))
    (some (record { number = b; place = d; tries = l; words = w; state = t }))
told_same a b c d e = λ i. some (record { number = a i; place = b i; tries = c i; words = d i; state = e i })

abbrev pub with_outcome_lem : Run (List Value) → Outcome (List Value) → Run (List Value)
with_outcome_lem r o = record { outcome = o; state = r.state; tries = r.tries; trace = r.trace }

behind_nothing : (r : Run (List Value)) → told_all r ≡ behind 0 [] r
unfolding told_all behind
behind_nothing r = go r.outcome
  where
    go : (o : Outcome (List Value)) → told_all (with_outcome_lem r o) ≡ behind 0 [] (with_outcome_lem r o)
    go (ok vs) = told_same refl refl (omega arith) refl refl
    go (refused e) = told_same refl refl (omega arith) refl refl
    go (fault x) = refl

-- a field, and then the others
abbrev next : Run Value → (State → Run (List Value)) → Run (List Value)
next r rest = r then λ v u. rest u then λ vs q. ended (ok (v ∷ vs)) q

module _ (n : ℕ) (w : List ℕ) (r : Run Value) where
  behind_front : (v : Value) (q : Run (List Value)) → behind n w (after r (q then λ vs u. ended (ok (v ∷ vs)) u)) ≡ behind (n + r.tries) (w ++ words v) q
  unfolding behind ◌then◌ after ended answer_words
  behind_front v q = go q.outcome
    where
      go :
          (o : Outcome (List Value))
          → behind n w (after r (with_outcome_lem q o then λ vs u. ended (ok (v ∷ vs)) u))
          ≡ behind (n + r.tries) (w ++ words v) (with_outcome_lem q o)
      go (ok vs) = told_same refl refl (omega arith) (append_three w (words v) (answer_words vs)) refl
      go (refused e) = told_same refl refl (omega arith) refl refl
      go (fault x) = refl

  module _ (rest : State → Run (List Value)) where
    behind_value : (v : Value) → r.outcome ≡ ok v → behind n w (next r rest) ≡ behind (n + r.tries) (w ++ words v) (rest r.state)
    unfolding ◌then◌ after
    behind_value v e = rw (e, ◌then◌) (behind_front v (rest r.state))

    behind_refused : (e : Refusal) → r.outcome ≡ refused e → behind n w (next r rest)
        ≡ some (record { number = e.number; place = place_code e.place; tries = n + r.tries; words = []; state = r.state })
    unfolding behind ◌then◌ after ended
    behind_refused e h = rw (h, ◌then◌) (told_same refl refl (omega arith) refl refl)

-- ---- what was missing: of the first that is refused
module _ (r : Run Value) where
  missing_front : (v : Value) (q : Run (List Value)) → missing_of (after r (q then λ vs u. ended (ok (v ∷ vs)) u)) ≡ missing_of q
  unfolding missing_of ◌then◌ after ended
  missing_front v q = go q.outcome
    where
      go : (o : Outcome (List Value)) → missing_of (after r (with_outcome_lem q o then λ vs u. ended (ok (v ∷ vs)) u)) ≡ missing_of (with_outcome_lem q o)
      go (ok vs) = refl
      go (refused e) = refl
      go (fault x) = refl

  module _ (rest : State → Run (List Value)) where
    missing_value : (v : Value) → r.outcome ≡ ok v → missing_of (next r rest) ≡ missing_of (rest r.state)
    unfolding ◌then◌ after
    missing_value v e = rw (e, ◌then◌) (missing_front v (rest r.state))

    missing_refused : (e : Refusal) → r.outcome ≡ refused e → missing_of (next r rest) ≡ e.missing
    unfolding missing_of ◌then◌ after ended
    missing_refused e h = rw (h, ◌then◌) refl

-- of a field that is refused: what it lacks in the state that it left
module _ (first : ℕ) (is : List Item) (fields : List Tree) (k : ℕ) (t : Tree) (here : get_elem? fields k ≡ some t) where
  field_lacks :
      (s left : State) (e : Refusal)
      → Lacks (lacking (field_mark (first + k)) is t s) s left e
      → e.missing ≡ (if is_missing e then lacking_field first is fields k left else [])
  field_lacks s left e l = go (is_missing e) refl
    where
      go : (b : Bool) → is_missing e ≡ b → e.missing ≡ (if b then lacking_field first is fields k left else [])
      go true q = l.listed q ∙ ap (lacking (field_mark (first + k)) is t) (sym (l.unchanged q)) ∙ sym (lacking_here first is fields k t here left)
      go false q = l.only q

-- a refusal has no words
denied_words : (r : Run Value) (x : Told) (e : Refusal) → told r ≡ some x → r.outcome ≡ refused e → x.words ≡ []
unfolding told
denied_words r x e h q = sym (ap (λ (y : Told). y.words) (some-injective _ x (rw (q, told) at h)))

-- ---- what is left of a state
-- words behind those that are written
sets_after : (w o : List ℕ) (at k : ℕ) → at + length w ≤ k → get_or (sets o at w) k 0 ≡ get_or o k 0
sets_after [] o at k h = refl
sets_after (x ∷ w) o at k h = sets_after w (set o at x) (suc at) k (omega arith) ∙ get_or-set_other o at k x 0 (λ e. omega arith)

-- ---- the loop
pub record Going (b known s words m₀ : List ℕ) (p₀ : Numbers) (first : ℕ) (o₀ : List ℕ) (n : ℕ) (m : List ℕ) (p : Numbers) (tries at k : ℕ) (o : List ℕ)
    : Type 0 where
  pub start : Starts b known s words m₀ p₀ first o₀
  pub count : n ≡ field_count b
  pub values : List ℕ
  pub same : (is : List Item) → Items (sheet_area s) words p₀ is
      → told_all (run_fields first is start.result.fields (state_of m₀ p₀))
      ≡ behind tries values (run_fields (first + k) is (drop k start.result.fields) (state_of m p))
  pub lost : (is : List Item) → Items (sheet_area s) words p₀ is
      → missing_of (run_fields first is start.result.fields (state_of m₀ p₀))
      ≡ missing_of (run_fields (first + k) is (drop k start.result.fields) (state_of m p))
  pub size : at ≡ length values
  pub put : o ≡ sets o₀ 0 values
  pub within : k ≤ length start.result.fields
  pub near : at ≤ 515 * k
  pub cost : tries ≤ 16512 * k
  pub left : LeftState m₀ p₀ m p

product_most : (a b : ℕ) → a ≤ 258 → b ≤ 64 → a * b ≤ 16512
product_most a b h k = mul-le-mul h k

module _ (b known s words m₀ : List ℕ) (p₀ : Numbers) (first : ℕ) (o₀ : List ℕ) where
  here : first ≡ first + 0
  here = omega arith

  module _ (start : Starts b known s words m₀ p₀ first o₀) where
    pub starts_long : 8 ≤ length b
    starts_long = form_long b start.result start.accepts

    pub going_first : (n : ℕ) → n ≡ field_count b → Going b known s words m₀ p₀ first o₀ n m₀ p₀ 0 0 0 o₀
    going_first n c = record {
      start = start;
      count = c;
      values = [];
      same = λ is h.
          behind_nothing (run_fields first is start.result.fields (state_of m₀ p₀))
          ∙ ap (λ (j : ℕ). behind 0 [] (run_fields j is start.result.fields (state_of m₀ p₀))) here;
      lost = λ is h. ap (λ (j : ℕ). missing_of (run_fields j is start.result.fields (state_of m₀ p₀))) here;
      size = refl;
      put = refl;
      within = omega arith;
      near = omega arith;
      cost = omega arith;
      left = left_same m₀ p₀ start.state.fine;
    }

  module _ (n : ℕ) (m : List ℕ) (p : Numbers) (tries at k : ℕ) (o : List ℕ) (g : Going b known s words m₀ p₀ first o₀ n m p tries at k o) where
    abbrev start : Starts b known s words m₀ p₀ first o₀
    start = g.start

    abbrev a : Accepted
    a = start.result

    abbrev e : check_form b ≡ accepted a
    e = start.accepts

    -- of the form's fields, however it is said that they are accepted
    told_fields : (m' o' : List ℕ) (r : Reached) → RunsFields (sheet_area s) words first a.fields m₀ p₀ m' o₀ o' r
        → (x : Accepted) → check_form b ≡ accepted x → RunsFields (sheet_area s) words first x.fields m₀ p₀ m' o₀ o' r
    told_fields m' o' r h x q = subst (λ (y : Accepted). RunsFields (sheet_area s) words first y.fields m₀ p₀ m' o₀ o' r) (accepted_same a x (sym e ∙ q)) h

    pub field_good : k < n → length_good b ≡ true
    field_good l = accepted_length b a e

    pub field_inside : k < n → k < field_count b
    field_inside l = omega (arith, g.count)

    -- the number of field k
    -- the mark of a field fits in 16 bits
    pub going_number : k < n → 512 + (first + k) < 65536
    going_number l = omega (arith, start.small, few_fields b a e)

    pub going_sum : k < n → first + k < 18446744073709551616
    going_sum l = omega (arith, going_number l)

    pub going_long : length o ≡ length o₀
    going_long = ap length g.put ∙ length-sets o₀ 0 g.values

    pub going_most : at ≤ 8240
    going_most = let f = field_count_lem b a e in omega (arith, g.near, g.within, few_fields b a e, g.count)

    zeros : (j : ℕ) → at ≤ j → get_or o j 0 ≡ 0
    zeros j h =
        let z = g.size in
        ap (λ (l : List ℕ). get_or l j 0) g.put ∙ sets_after g.values o₀ 0 j (omega arith) ∙ start.zeros j

    items : (is : List Item) → Items (sheet_area s) words p₀ is → Items (sheet_area s) words p is
    items is h = (h.0, h.1 ∙ sym g.left.count)

    pub going_end : n ≤ k → (r : Reached) → r ≡ values_of tries at p
        → (x : Accepted) → check_form b ≡ accepted x → RunsFields (sheet_area s) words first x.fields m₀ p₀ m o₀ o r
    unfolding run_fields ended behind answer_words missing_of
    going_end l r q =
        let few = field_count_lem b a e in
        let none_left : drop k a.fields ≡ [] = drop_of_length-le a.fields {i = k} (omega (arith, g.count)) in
        told_fields m o r
        (rw q
        (record {
          values = g.values;
          same = λ is i.
              g.same is i
              ∙ ap (λ (l : List Tree). behind tries g.values (run_fields (first + k) is l (state_of m p))) none_left
              ∙ told_same refl refl (omega arith) (append-nil g.values) refl;
          count = g.size;
          put = g.put;
          few = omega (arith, g.size, g.near, g.within, few_fields b a e, g.count);
          left = g.left;
          lacks = λ is i.
              g.lost is i ∙ ap (λ (l : List Tree). missing_of (run_fields (first + k) is l (state_of m p))) none_left;
          inside = λ z. omega arith;
        }))

    module _ (l : k < n) (node : ℕ) (h : get_elem? (read_form b).fields k ≡ some node) (u : ℕ) (eu : u ≡ field_mark (first + k)) where
      abbrev mark : ℕ
      mark = field_mark (first + k)

      abbrev mine : FieldAt b a.fields k node
      mine = field b a e k node h

      pub going_field : FieldReady b known s words m p (record { node = node; at = at; mark = u }) o
      going_field = rw eu (record {
        stands = field_stands b known s words m₀ p₀ first o₀ start m p g.left k node h;
        space = record { room = omega (arith, g.near, few_fields b a e, g.count, going_long, start.room); zeros = zeros };
      })

      module _ (m' o' : List ℕ) (r : Ran)
          (ran : WritesField b s words (record { node = node; at = at; mark = u }) m p m' o o' r) where
        wrote : Writes mark (sheet_area s) words mine.tree m p m' o at o' r
        wrote = subst (λ (j : ℕ). Writes j (sheet_area s) words mine.tree m p m' o at o' r) eu (ran mine.tree mine.node)

        -- the field's evaluation, over the items
        module _ (is : List Item) (i : Items (sheet_area s) words p₀ is) where
          abbrev one : Run Value
          one = eval mark is mine.tree (state_of m p)

          says : told one ≡ some (told_with r m' wrote.value)
          says = wrote.same is (items is i)

          runs : Runs (length is) mine.tree (state_of m p) one
          runs = eval_sound mark (field_parsed (first + k)) is mine.tree mine.sound (state_of m p)
              (subst (λ (j : ℕ). Good j (state_of m p)) (sym (items is i).1) g.left.fine.good)

          numbered : Numbered one.outcome
          numbered = runs_numbered (length is) mine.tree (state_of m p) one runs

          abbrev others : State → Run (List Value)
          others u = run_fields (suc (first + k)) is (drop (suc k) a.fields) u

          parts : run_fields (first + k) is (drop k a.fields) (state_of m p) ≡ next one others
          unfolding run_fields
          parts = ap (λ (l : List Tree). run_fields (first + k) is l (state_of m p)) (drop_below a.fields k mine.tree mine.here)

          whole : told_all (run_fields first is a.fields (state_of m₀ p₀)) ≡ behind tries g.values (next one others)
          whole = g.same is i ∙ ap (behind tries g.values) parts

          whole_lost : missing_of (run_fields first is a.fields (state_of m₀ p₀)) ≡ missing_of (next one others)
          whole_lost = g.lost is i ∙ ap missing_of parts

          -- refused: what was missing
          refused_lost : (r.number ≡ 0 → ⊥) → missing_of (run_fields first is a.fields (state_of m₀ p₀))
              ≡ (if eqb r.number 20 then lacking_field first is a.fields k (state_of m' r.numbers) else [])
          unfolding is_missing
          refused_lost z =
              let d = told_denied one _ says z in
              let l = missing_told.lacks mark is mine.tree (state_of m p) d.refusal d.outcome in
              whole_lost ∙ missing_refused one others d.refusal d.outcome
              ∙ field_lacks first is a.fields k mine.tree mine.here (state_of m p) one.state d.refusal l
              ∙ (λ j. if eqb (d.number j) 20 then lacking_field first is a.fields k (told_state one _ says j) else [])

        cost : r.tries ≤ 16512
        unfolding state_of
        cost =
            let is = start.state.items in
            let i : Items (sheet_area s) words p₀ is = (start.state.table, start.state.same) in
            let w = runs is i in
            let left = remaining_within p.count (state_of m p) g.left.fine.good in
            let most = product_most ((state_of m p).remaining + 2) (leaves mine.tree) (omega (arith, g.left.fine.small)) mine.light in
            omega (arith, told_tries (one is i) _ (says is i), w.cost, most_leaves mine.tree (state_of m p).remaining)

        pub going_tries : (x : ℕ) → x ≡ tries + r.tries → x < 4294967296
        going_tries x q = omega (arith, cost, g.cost, few_fields b a e, g.count)

        pub going_at : (x : ℕ) → x ≡ r.len → at + x < 18446744073709551616
        going_at x q = omega (arith, g.near, few_fields b a e, g.count, wrote.len, wrote.fits)

        long_after : length o' ≡ length o₀
        long_after = ap length wrote.put ∙ length-sets o at wrote.value ∙ going_long

        pub long_refused : (o'' : List ℕ) → o'' ≡ sets o' 0 (replicate at 0) → length o'' ≡ length o₀
        long_refused o'' c = ap length c ∙ length-sets o' 0 (replicate at 0) ∙ long_after

        pub going_refused : (r.number ≡ 0 → ⊥) → (o'' : List ℕ) → o'' ≡ sets o' 0 (replicate at 0) → (x : Reached)
            → x ≡ refused_with r.number r.place (tries + r.tries) k r.numbers
            → (y : Accepted) → check_form b ≡ accepted y → RunsFields (sheet_area s) words first y.fields m₀ p₀ m' o₀ o'' x
        going_refused z o'' c x q =
            let is = start.state.items in
            let i : Items (sheet_area s) words p₀ is = (start.state.table, start.state.same) in
            let d = told_denied (one is i) _ (says is i) z in
            let none_written : wrote.value ≡ [] = denied_words (one is i) _ d.refusal (says is i) d.outcome in
            let kept : o' ≡ o = wrote.put ∙ ap (λ (v : List ℕ). sets o at v) none_written in
            let cleared : o'' ≡ o₀ =
            c ∙ ap (λ (l : List ℕ). sets l 0 (replicate at 0)) (kept ∙ g.put)
            ∙ ap (λ (j : ℕ). sets (sets o₀ 0 g.values) 0 (replicate j 0)) g.size
            ∙ sets_back g.values o₀ 0 (λ j _. start.zeros j) in
            told_fields m' o'' x
            (rw q
            (record {
              values = [];
              same = λ is i.
                  let d = told_denied (one is i) _ (says is i) z in
                  whole is i
                  ∙ behind_refused tries g.values (one is i) (others is i) d.refusal d.outcome
                  ∙ told_same d.number d.place (ap (λ (j : ℕ). tries + j) (told_tries (one is i) _ (says is i))) refl (told_state (one is i) _ (says is i));
              count = refl;
              put = cleared;
              few = omega arith;
              left = left_more m₀ p₀ m p m' r.numbers g.left wrote.left;
              lacks = λ is i. refused_lost is i z;
              inside = λ _. omega (arith, field_count_lem b a e, g.count);
            }))

        -- the number of the next field
        following : suc (first + k) ≡ first + (k + 1)
        following = omega arith

        pub going_next : r.number ≡ 0 → (x : ℕ) → x ≡ r.len → Going b known s words m₀ p₀ first o₀ n m' r.numbers (tries + r.tries) (at + x) (k + 1) o'
        going_next z x q = record {
          start = start;
          count = g.count;
          values = g.values ++ wrote.value;
          same = λ is i.
              let d = told_value (one is i) _ (says is i) (numbered is i) z in
              whole is i
              ∙ behind_value tries g.values (one is i) (others is i) d.value d.outcome
              ∙
              (λ j. behind (tries + told_tries (one is i) _ (says is i) j) (g.values ++ d.words j)
              (run_fields (following j) is (drop (sym (add-one k) j) a.fields) (told_state (one is i) _ (says is i) j)));
          lost = λ is i.
              let d = told_value (one is i) _ (says is i) (numbered is i) z in
              whole_lost is i
              ∙ missing_value (one is i) (others is i) d.value d.outcome
              ∙ (λ j. missing_of (run_fields (following j) is (drop (sym (add-one k) j) a.fields) (told_state (one is i) _ (says is i) j)));
          size = let l = length-append g.values wrote.value in omega (arith, g.size, wrote.len);
          put =
              wrote.put
              ∙ ap (λ (l : List ℕ). sets l at wrote.value) g.put
              ∙ ap (λ (j : ℕ). sets (sets o₀ 0 g.values) j wrote.value) (g.size ∙ sym (zero-add (length g.values)))
              ∙ sym (sets_append g.values wrote.value o₀ 0);
          within = let f = field_count_lem b a e in omega (arith, g.count);
          near = omega (arith, g.near, wrote.len, wrote.fits);
          cost = omega (arith, g.cost, cost);
          left = left_more m₀ p₀ m p m' r.numbers g.left wrote.left;
        }
