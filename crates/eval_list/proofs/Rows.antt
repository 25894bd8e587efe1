-- Many and some, from what their repeat leaves.
use mathlib.Core.Bool.{Bool, true, false}
use mathlib.Core.List.{List, [], ◌∷◌, map, flatten}
use mathlib.Core.Option.{some, some-injective, none-ne-some, none}
use mathlib.Core.Path.{◌≡◌, refl, sym, ◌∙◌, ap, ap₂, subst}
use Prim.Native.Nat.{ℕ, zero, suc, ◌+◌, ◌≤◌, ◌<◌}
use native.Mathlib.Nat.{le_refl}
use native.Mathlib.Omega.{arith}
use lib.Dec.{eqb}
use lib.ListN.{length}
use lib.Seq.{sets, length-sets}
use borrow.Author.Tests.{eqb-true}
use Rattle.std.specs.Prelude.{if◌then◌else◌}
use Rattle.rules.specs.Outcome.{Outcome, ok, refused, fault, refuse}
use Rattle.rules.specs.Value.{Value, words, list_of}
use Rattle.rules.specs.Sheet.{sheet_area}
use Rattle.rules.specs.Tree.{Tree, Many, Some, has_repeat}
use Rattle.rules.specs.Split.{Item}
use Rattle.rules.specs.State.{State}
use Rattle.rules.specs.Eval.{Ran as Run, ended, ◌then◌, repeated, eval_many, eval_some, eval}
use Rattle.rules.specs.Sound.{Good, Sound, leaves}
use Rattle.rules.proofs.Steps.{most}
use Rattle.rules.proofs.Went.{Fine as FineEnd, Went, went_weaker, went_cost}
use Rattle.rules.proofs.Nodes.{Evaluated}
use Rattle.rules.proofs.Repeats.{repeated_went}
use Rattle.rules.proofs.EvalSound.{Flat, sound_many, sound_some, Any, eval_went}
use Rattle.eval_structs.specs.Decisions.{some_by}
use Rattle.state_marks.specs.declared.Numbers.{Numbers}
use Rattle.state_marks.specs.Lent.{state_of}
use Rattle.take_search.specs.States as states
use Rattle.eval_told.specs.declared.Ran.{Ran}
use Rattle.eval_told.specs.Results.{refusal_ran}
use Rattle.eval_told.specs.Told.{Told, told, Numbered}
use Rattle.eval_told.specs.Nodes.{tree_at}
use Rattle.eval_told.specs.Lists.{ToldList, told_list}
use Rattle.eval_told.proofs.Visits.{visit_told}
use Rattle.eval_told.proofs.ListLaws.{length_words, then_values, many_value, many_refused, some_value, some_none, some_refused}
use Rattle.eval_node.specs.declared.Repeat.{Repeat}
use Rattle.eval_words.specs.declared.Repeated.{Repeated}
use Rattle.eval_node.specs.Cycle.{listed, Room, Repeating, Repeats}
use Rattle.eval_list.specs.Lists.{MarkedField}
use Rattle.eval_list.specs.Lists.{Writes, OverScalar, WritesOver}
use Rattle.eval_words.specs.Stored.{CountedList}
use Rattle.eval_words.proofs.Words.{sets_head}
use Rattle.eval_list.proofs.Runs.{node_good}

-- ---- how a repeat ends
fine_numbered : {A : Type 0} (h : ℕ) (P : A → Type 0) (o : Outcome A) → FineEnd h P o → Numbered o
fine_numbered h P (ok v) f = tt
fine_numbered h P (refused e) f = λ z. omega (arith, f.0)
fine_numbered h P (fault x) f = tt

repeat_numbered :
    (n : ℕ) (t : Tree) (run : State → Run Value) (catch stops : Bool)
    → has_repeat t ≡ false
    → ((u : State) → Good n u → Evaluated Any n t u (run u))
    → (s : State)
    → Good n s
    → Numbered (repeated catch stops run s).outcome
unfolding most
repeat_numbered n t run catch stops flat child s g =
    fine_numbered 26 _ (repeated catch stops run s).outcome
    (repeated_went Any n (λ v. Unit {0}) (leaves t) s.remaining catch stops run each s g (le_refl _)).ends
  where
    each : (u : State) → Good n u → u.remaining ≤ s.remaining → Went Any n 26 (λ (v : Value). Unit {0}) u (leaves t) (run u)
    each u h l = went_cost (rw flat (le_refl (leaves t))) (went_weaker (le_refl 26) (λ v f. tt) (child u h).went)

-- a refused repeat has no values
list_none : (r : Run (List Value)) (x : ToldList) → told_list r ≡ some x → (x.number ≡ 0 → ⊥) → x.values ≡ []
unfolding told_list
list_none r x h z = go r.outcome h
  where
    go : (o : Outcome (List Value)) → told_list (record { outcome = o; state = r.state; tries = r.tries; trace = r.trace }) ≡ some x → x.values ≡ []
    go (ok v) e = absurd (z (sym (ap (λ (y : ToldList). y.number) (some-injective _ x e))))
    go (refused v) e = sym (ap (λ (y : ToldList). y.values) (some-injective _ x e))
    go (fault v) e = absurd (none-ne-some x e)

list_ok :
    (r : Run (List Value)) (x : ToldList)
    → told_list r ≡ some x
    → Numbered r.outcome
    → x.number ≡ 0
    → (vs : List Value) × (r.outcome ≡ ok vs) × (map words vs ≡ x.values)
unfolding told_list
list_ok r x h nb z = go r.outcome refl nb h
  where
    go :
        (o : Outcome (List Value))
        → r.outcome ≡ o
        → Numbered o
        → told_list (record { outcome = o; state = r.state; tries = r.tries; trace = r.trace }) ≡ some x
        → (vs : List Value) × (r.outcome ≡ ok vs) × (map words vs ≡ x.values)
    go (ok v) q nb e = (v, q, ap (λ (y : ToldList). y.values) (some-injective _ x e))
    go (refused v) q nb e = absurd (nb (ap (λ (y : ToldList). y.number) (some-injective _ x e) ∙ z))
    go (fault v) q nb e = absurd (none-ne-some x e)

empty : {A : Type 0} (l : List A) → length l ≡ 0 → l ≡ []
empty [] e = refl
empty (x ∷ l) e = absurd (omega arith)

-- what `parse_some` answers of that many values
abbrev pub SomeBy : Repeated → ℕ → Type 0
SomeBy all r =
    (catch : Bool) (run : State → Run Value) (s : State) (vs : List Value)
    → (repeated catch false run s).outcome ≡ ok vs
    → length vs ≡ all.count
    → eval_some catch run s ≡ (repeated catch false run s then some_by r)

-- the repeat of a list
abbrev written : Bool → MarkedField → Repeat
written catch child = record { child = child.node; catch = catch; stops = false; writes = true; at = child.at }

-- ---- what a list of the child's values says
module _
    (catch : Bool)
    (child : MarkedField)
    (area items : List ℕ)
    (t : Tree)
    (m : List ℕ)
    (p : Numbers)
    (state : states.CanTake area items m p child.mark)
    (m' o o' : List ℕ)
    (all : Repeated)
    (h : Repeats child.mark area items t (written catch child) m p m' o o' all)
  where
    abbrev mark : ℕ
    mark = child.mark

    abbrev at : ℕ
    at = child.at

    abbrev repeats : List Item → Run (List Value)
    repeats is = repeated catch false (eval mark is t) (state_of m p)

    abbrev x : ToldList
    x = listed all m' h.values

    repeat_told : (is : List Item) → Flat t → length is ≡ p.count → Numbered (repeats is).outcome
    repeat_told is f e =
        repeat_numbered (length is) t (eval mark is t) catch false f.flat
        (λ u g. eval_went mark state.told is t f.sound u g) (state_of m p)
        (node_good mark state.told m p state.fine is e)

    abbrev own : states.Items area items p state.items
    own = (state.table, state.same)

    put_none : h.values ≡ [] → o' ≡ o
    unfolding flatten
    put_none e = h.put ∙ ap (λ (vs : List (List ℕ)). sets o (at + 1) (flatten vs)) e

    values_none : (all.number ≡ 0 → ⊥) → h.values ≡ []
    values_none z = list_none (repeats state.items) x (h.same state.items own) z

    -- a refusal
    refused_writes :
        (u : Tree) (number place : ℕ)
        → h.values ≡ []
        → ((is : List Item) → states.Items area items p is
        → told (eval mark is u (state_of m p)) ≡ some (record { number = number; place = place; tries = all.tries; words = []; state = state_of m' all.numbers }))
        → (q : Ran)
        → q ≡ refusal_ran number place all.tries all.numbers
        → Writes mark area items u m p m' o at o' q
    refused_writes u number place v same q e =
        subst (λ (r : Ran). Writes mark area items u m p m' o at o' r) (sym e)
        (record { value = []; same = same; len = refl; put = put_none v; fits = omega arith; left = h.left })

    -- a list
    counted_writes :
        (u : Tree)
        → ((is : List Item) → states.Items area items p is
        → told (eval mark is u (state_of m p)) ≡ some
        (record
        { number = 0; place = 0; tries = all.tries; words = length h.values ∷ flatten h.values; state = state_of m' all.numbers }))
        → (o'' : List ℕ) (q : Ran)
        → CountedList all o' at o'' q
        → Writes mark area items u m p m' o at o'' q
    counted_writes u same o'' q c =
        subst (λ (r : Ran). Writes mark area items u m p m' o at o'' r) (sym c.same)
        (record {
          value = length h.values ∷ flatten h.values;
          same = same;
          len = let z = h.size refl in omega arith;
          put = written;
          fits = let f = h.fits in omega arith;
          left = h.left;
        })
      where
        written : o'' ≡ sets o at (length h.values ∷ flatten h.values)
        written =
            c.put
            ∙ ap₂ (λ (l : List ℕ) (n : ℕ). sets l at (n ∷ [])) h.put h.count
            ∙ sets_head (flatten h.values) o at (length h.values)

    pub count_ready : Room o at → (all.size ≤ 514) × (at < length o')
    count_ready s =
        let f = h.fits in
        let z = h.size refl in
        let l : length o' ≡ length o = ap (λ (l : List ℕ). length l) h.put ∙ length-sets o (at + 1) (flatten h.values) in
        let r = s.room in
        (omega arith, omega arith)

    -- ---- many
    module _ (z : Sound (Many catch t)) where
      many_told : (is : List Item) → length is ≡ p.count → told (eval mark is (Many catch t) (state_of m p)) ≡ told (eval_many catch (eval mark is t) (state_of m p))
      unfolding eval
      many_told is e =
          visit_told (Many catch t) (state_of m p) (eval_many catch (eval mark is t) (state_of m p))

      pub many_denied :
          (all.number ≡ 0 → ⊥)
          → (q : Ran)
          → q ≡ refusal_ran all.number all.place all.tries all.numbers
          → Writes mark area items (Many catch t) m p m' o at o' q
      many_denied n q e =
          refused_writes (Many catch t) all.number all.place (values_none n)
          (λ is k. many_told is k.1 ∙ many_refused (eval mark is t) (state_of m p) x catch (h.same is k) (repeat_told is (sound_many catch t z) k.1) n)
          q e

      pub many_made_lem : all.number ≡ 0 → (o'' : List ℕ) (q : Ran) → CountedList all o' at o'' q → Writes mark area items (Many catch t) m p m' o at o'' q
      many_made_lem n o'' q c =
          counted_writes (Many catch t)
          (λ is k. many_told is k.1 ∙ many_value (eval mark is t) (state_of m p) x catch (h.same is k) (repeat_told is (sound_many catch t z) k.1) n)
          o'' q c

    -- ---- some
    module _ (z : Sound (Some catch t)) where
      some_told : (is : List Item) → length is ≡ p.count → told (eval mark is (Some catch t) (state_of m p)) ≡ told (eval_some catch (eval mark is t) (state_of m p))
      unfolding eval
      some_told is e =
          visit_told (Some catch t) (state_of m p) (eval_some catch (eval mark is t) (state_of m p))

      pub some_denied :
          (all.number ≡ 0 → ⊥)
          → (q : Ran)
          → q ≡ refusal_ran all.number all.place all.tries all.numbers
          → Writes mark area items (Some catch t) m p m' o at o' q
      some_denied n q e =
          refused_writes (Some catch t) all.number all.place (values_none n)
          (λ is k. some_told is k.1 ∙ some_refused (eval mark is t) (state_of m p) x catch (h.same is k) (repeat_told is (sound_some catch t z) k.1) n)
          q e

      module _ (n : all.number ≡ 0) (r : ℕ) (by : SomeBy all r) where
        abbrev run : State → Run Value
        run = eval mark state.items t

        by_told : (vs : List Value) (u : State) → (y : Told) × (told (some_by r vs u) ≡ some y) × (y.number ≡ r)
        unfolding some_by told ended
        by_told vs u = go (eqb r 0) refl
          where
            go : (b : Bool) → eqb r 0 ≡ b → (y : Told) × (told (ended (if b then ok (list_of vs) else refused (refuse r none)) u) ≡ some y) × (y.number ≡ r)
            go true q = (_, refl, sym (eqb-true r 0 q))
            go false q = (_, refl, refl)

        -- its number is the answer's
        some_number : (y : Told) → told (eval_some catch run (state_of m p)) ≡ some y → y.number ≡ r
        some_number y e =
            let f = sound_some catch t z in
            let a = repeats state.items in
            let (vs, q, w) = list_ok a x (h.same state.items own) (repeat_told state.items f state.same) n in
            let long : length vs ≡ all.count = sym (length_words vs) ∙ ap (λ (l : List (List ℕ)). length l) w ∙ sym h.count in
            let (u, k, g) = by_told vs a.state in
            let said = then_values a (some_by r) vs u q k in
            let same = some-injective _ y (sym said ∙ ap told (sym (by catch run (state_of m p) vs q long)) ∙ e) in
            sym (ap (λ (v : Told). v.number) same) ∙ g

        none_number : length h.values ≡ 0 → r ≡ 21
        none_number l =
            sym (some_number _ (some_none run (state_of m p) x catch (h.same state.items own) (repeat_told state.items (sound_some catch t z) state.same) n l))

        any_number : (length h.values ≡ 0 → ⊥) → r ≡ 0
        any_number l =
            sym (some_number _ (some_value run (state_of m p) x catch (h.same state.items own) (repeat_told state.items (sound_some catch t z) state.same) n l))

        -- nothing was counted
        none_there : (r ≡ 0 → ⊥) → length h.values ≡ 0
        none_there w = go (length h.values) refl
          where
            go : (k : ℕ) → length h.values ≡ k → k ≡ 0
            go zero e = refl
            go (suc k) e = absurd (w (any_number (λ y. omega arith)))

        pub some_empty : (r ≡ 0 → ⊥) → (q : Ran) → q ≡ refusal_ran r 0 all.tries all.numbers → Writes mark area items (Some catch t) m p m' o at o' q
        some_empty w q e =
            let l = none_there w in
            refused_writes (Some catch t) 21 0 (empty h.values l)
            (λ is k. some_told is k.1 ∙ some_none (eval mark is t) (state_of m p) x catch (h.same is k) (repeat_told is (sound_some catch t z) k.1) n l)
            q (e ∙ ap (λ (k : ℕ). refusal_ran k 0 all.tries all.numbers) (none_number l))

        pub some_made_lem : r ≡ 0 → (o'' : List ℕ) (q : Ran) → CountedList all o' at o'' q → Writes mark area items (Some catch t) m p m' o at o'' q
        some_made_lem w o'' q c =
            let l : length h.values ≡ 0 → ⊥ = λ e. let u = none_number e in omega arith in
            counted_writes (Some catch t)
            (λ is k. some_told is k.1 ∙ some_value (eval mark is t) (state_of m p) x catch (h.same is k) (repeat_told is (sound_some catch t z) k.1) n l)
            o'' q c

-- ---- the needs of the code
-- the tree of the child is the one that it stands with
tree_same : (b : List ℕ) (n : ℕ) (t u : Tree) → tree_at b n ≡ some t → tree_at b n ≡ some u → t ≡ u
tree_same b n t u e f = some-injective t u (sym e ∙ f)

-- what `run_repeat` answers
abbrev RepeatsOver : List ℕ → List ℕ → List ℕ → MarkedField → Bool → List ℕ → Numbers → List ℕ → List ℕ → List ℕ → Repeated → Type 0
RepeatsOver b s items child catch m p m' o o' all =
    (t : Tree) → tree_at b child.node ≡ some t → Repeats child.mark (sheet_area s) items t (written catch child) m p m' o o' all

module _
    {make : Tree → Tree}
    (flat : (t : Tree) → Sound (make t) → Flat t)
    {b known s items m : List ℕ}
    {p : Numbers}
    {child : MarkedField}
    {o : List ℕ}
    (r : OverScalar make b known s items m p child o)
  where
    pub asks : {catch : Bool} → Repeating b known s items m p child.mark (written catch child) o
    asks = record { below = r.below; flat = (flat r.below.stands.tree r.sound).flat; space = λ e. r.space }

    child_sound : (t : Tree) → tree_at b child.node ≡ some t → Sound (make t)
    child_sound t g = subst (λ (u : Tree). Sound (make u)) (tree_same b child.node _ t r.below.stands.node g) r.sound

    pub counts : {catch : Bool} {m' o' : List ℕ} {all : Repeated} → RepeatsOver b s items child catch m p m' o o' all → (all.size ≤ 514) × (child.at < length o')
    counts {catch} {m'} {o'} {all} h =
        count_ready catch child (sheet_area s) items r.below.stands.tree m p r.below.stands.state m' o o' all
        (h r.below.stands.tree r.below.stands.node) r.space

module _
    {catch : Bool}
    {b known s items m : List ℕ}
    {p : Numbers}
    {child : MarkedField}
    {o : List ℕ}
    {m' o' : List ℕ}
    {all : Repeated}
  where
    module _
        (r : OverScalar (Many catch) b known s items m p child o)
        (h : RepeatsOver b s items child catch m p m' o o' all)
      where
        pub many_refuses :
            (all.number ≡ 0 → ⊥)
            → {q : Ran}
            → q ≡ refusal_ran all.number all.place all.tries all.numbers
            → WritesOver (Many catch) b s items child m p m' o o' q
        many_refuses n {q} e t g =
            many_denied catch child (sheet_area s) items t m p r.below.stands.state m' o o' all (h t g)
            (child_sound (sound_many catch) r t g) n q e

        pub many_ends : all.number ≡ 0 → {o'' : List ℕ} {q : Ran} → CountedList all o' child.at o'' q → WritesOver (Many catch) b s items child m p m' o o'' q
        many_ends n {o''} {q} c t g =
            many_made_lem catch child (sheet_area s) items t m p r.below.stands.state m' o o' all (h t g)
            (child_sound (sound_many catch) r t g) n o'' q c

    module _
        (r : OverScalar (Some catch) b known s items m p child o)
        (h : RepeatsOver b s items child catch m p m' o o' all)
      where
        pub some_refuses :
            (all.number ≡ 0 → ⊥)
            → {q : Ran}
            → q ≡ refusal_ran all.number all.place all.tries all.numbers
            → WritesOver (Some catch) b s items child m p m' o o' q
        some_refuses n {q} e t g =
            some_denied catch child (sheet_area s) items t m p r.below.stands.state m' o o' all (h t g)
            (child_sound (sound_some catch) r t g) n q e

        module _ (n : all.number ≡ 0) {k : ℕ} (by : SomeBy all k) where
          pub some_nothing :
              (k ≡ 0 → ⊥)
              → {q : Ran}
              → q ≡ refusal_ran k 0 all.tries all.numbers
              → WritesOver (Some catch) b s items child m p m' o o' q
          some_nothing w {q} e t g =
              some_empty catch child (sheet_area s) items t m p r.below.stands.state m' o o' all (h t g)
              (child_sound (sound_some catch) r t g) n k by w q e

          pub some_ends : k ≡ 0 → {o'' : List ℕ} {q : Ran} → CountedList all o' child.at o'' q → WritesOver (Some catch) b s items child m p m' o o'' q
          some_ends w {o''} {q} c t g =
              some_made_lem catch child (sheet_area s) items t m p r.below.stands.state m' o o' all (h t g)
              (child_sound (sound_some catch) r t g) n k by w o'' q c
