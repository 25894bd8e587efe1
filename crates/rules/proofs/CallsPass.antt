-- What single calls hand back passes 29 again.
use mathlib.Core.Bool.{Bool, true, and-eq-true_iff}
use mathlib.Core.List.{List}
use mathlib.Core.Logic.{⊎_elim}
use mathlib.Core.Option.{Option, some, none}
use mathlib.Core.Path.{◌≡◌, refl, subst}
use Prim.Native.Nat.{ℕ, ◌+◌, ◌≤◌, ◌<◌}
use native.Mathlib.Omega.{arith}
use lib.Dec.{ltb, eqb}
use lib.ListN.{length, drop, get_elem?}
use borrow.Author.Tests.{eqb-true, ltb-true, lt-ltb}
use Rattle.std.specs.Prelude.{if◌then◌else◌}
use Rattle.rules.specs.Base.{◌>>?◌, slice}
use Rattle.rules.specs.Outcome.{Outcome, ok, refused, fault, ◌>>=◌, refuse, at, set_scope561}
use Rattle.rules.specs.Value.{Value}
use Rattle.rules.specs.Tree.{Named, Tree, zeros}
use Rattle.rules.specs.Accept.{Accepted, accepted, check_form, field_of}
use Rattle.rules.specs.Split.{Item}
use Rattle.rules.specs.State.{State, Found, marker_mark, command_mark, field_mark, parsed, used_below, current_good, state_good, empty_state, unused, first, remove, with_current}
use Rattle.rules.specs.State.{save_conflicts, set_scope}
use Rattle.rules.specs.Take.{Took, took, Operand, take_flag, take_arg, take_positional_word, is_command, take_command, take_cmd}
use Rattle.rules.specs.Eval.{Ran, eval}
use Rattle.rules.specs.Given.{form_in, sheet_in, slice_in, list_room_in, input_in}
use Rattle.rules.specs.Run.{split}
use Rattle.rules.specs.Calls.{items_in, from_raw, to_raw, most_fields, state_in, asked, place_in, mark_in, scope_in, flag_names, argument_key, command_name, Called, handed, on_form}
use Rattle.rules.specs.Calls.{call_take_flag}
use Rattle.rules.specs.Calls.{call_take_arg, call_take_cmd}
use Rattle.rules.specs.Calls.{operand_or20, on_items, call_take_positional, call_remove, call_save_conflicts, call_set_scope}
use Rattle.rules.specs.Calls.{Splitting, split_refused, split_report, call_split, Evaluated, evaluated_with, evaluated, unchanged, eval_in, call_eval}
use Rattle.rules.specs.declared.State.{State as Raw}
use Rattle.rules.specs.Sound.{Good, Sound}
use Rattle.rules.specs.Marks.{Turns, Returns, Passes, HandsOn, StatesPass}
use Rattle.rules.proofs.Acceptance.{if_some, lookup_inside, All-at, accepted_trees_sound}
use Rattle.rules.proofs.CallsAnswer.{if_ok, asked_some, place_below_lem, scope_inside}
use Rattle.rules.proofs.Places.{if_elim, left}
use Rattle.rules.proofs.Steps.{Step}
use Rattle.rules.proofs.StepLaws.{test_good, find_good, Finds, free_below_lem, current_good_lem, saved_good, set_scope_good, remove_step, flag_takes, arg_takes, positional_takes}
use Rattle.rules.proofs.EvalSound.{eval_sound}
use Rattle.rules.proofs.Fields.{field_parsed}
use Rattle.rules.proofs.NodeFields.{node_field}
use Rattle.rules.proofs.Turning.{Leaves, bind_leaves, at_leaves, any_leaves, same_leaves, turns_refl, conflicts_turn, remove_turns, flag_turns, arg_turns, positional_turns}
use Rattle.rules.proofs.Turning.{eval_turns}
use Rattle.rules.proofs.Passing.{GoodMarks, marks_return, field_used, turns_good, form_given, input_given, line_returns, empty_returns, run_returns}

-- ---- a state that 29 lets through
record Given (fields n : ℕ) (x : Raw) (s : State) : Type 0 where
  count : x.count ≡ n
  same : from_raw x ≡ s
  good : Good n s
  marks : GoodMarks fields n s.marks

state_given : (fields n : ℕ) (x : Raw) (s : State) → state_in fields n x ≡ ok s → Given fields n x s
unfolding state_in
state_given fields n x s h =
    let counted : Bool = eqb x.count n in
    let behind : Bool = zeros (drop x.count x.marks) in
    let (t, e) = if_ok _ (from_raw x) s (refuse 29 none) h in
    let p = (and-eq-true_iff _ (state_good fields n (from_raw x))).0 t in
    let q = (and-eq-true_iff counted behind).0 p.0 in
    let g = test_good fields n (from_raw x) p.1 in
    record { count = eqb-true x.count n q.0; same = e; good = rw e at g.0; marks = rw e at g.1 }

-- the marks are as good as they are under the fields of the state that is given
module _ (fields : ℕ) (x : Raw) (given : Passes fields x) where
  marks_given : (most n : ℕ) (s : State) → state_in most n x ≡ ok s → GoodMarks fields n s.marks
  marks_given most n s h =
      let a = state_given fields x.count x given.0 given.1 in
      let b = state_given most n x s h in
      rw (← b.count, ← b.same, a.same) a.marks

returns_pass : (fields : ℕ) (s : State) → Returns fields s → Passes fields (to_raw s)
unfolding to_raw
returns_pass fields s h = (s, h)

abbrev TookReturns : {A : Type 0} → ℕ → Took A → Type 0
TookReturns fields t = Returns fields t.state

handed_leaves :
    {A : Type 0} (fields : ℕ) (x : Raw) (o : Outcome (Took A))
    → Passes fields x
    → Leaves (TookReturns fields) o
    → Leaves (λ c. Passes fields c.state) (handed x o)
unfolding handed
handed_leaves fields x (ok t) given h = returns_pass fields t.state h
handed_leaves fields x (refused e) given h = given
handed_leaves fields x (fault e) given h = tt

handed_on :
    {A : Type 0} (fields : ℕ) (x : Raw) (o : Outcome (Took A))
    → (Passes fields x → Leaves (TookReturns fields) o)
    → HandsOn fields x (handed x o)
handed_on {A} fields x o h c e given = subst (Leaves (λ (c : Called A). Passes fields c.state)) e (handed_leaves fields x o given (h given))

-- ---- what a call uses
mark_leaves : (fields k : ℕ) → Leaves (λ m. used_below fields m ≡ true) (mark_in fields k)
unfolding mark_in
mark_leaves fields k =
    if_elim (Leaves (λ (m : ℕ). used_below fields m ≡ true)) (ltb k fields) _ (refused (refuse 28 none))
    (λ e. field_used fields k (ltb-true k fields e))
    (λ _. tt)

-- under other fields, of which it is one
mark_below : (most fields k : ℕ) → k < fields → Leaves (λ m. used_below fields m ≡ true) (mark_in most k)
unfolding mark_in
mark_below most fields k h =
    if_elim (Leaves (λ (m : ℕ). used_below fields m ≡ true)) (ltb k most) _ (refused (refuse 28 none)) (λ _. field_used fields k h) (λ _. tt)

command_used : (fields : ℕ) → used_below fields command_mark ≡ true
unfolding used_below command_mark field_mark parsed marker_mark
command_used fields = lt-ltb 511 (512 + fields) (omega arith)

used_parsed : (fields k : ℕ) → used_below fields k ≡ true → parsed k ≡ true
unfolding used_below
used_parsed fields k e = left (parsed k) (ltb k (field_mark fields)) e

turned_returns :
    (fields n : ℕ) (s : State) (W : ℕ → Type 0)
    → ((m : ℕ) → W m → used_below fields m ≡ true)
    → GoodMarks fields n s.marks
    → Good n s
    → (u : State)
    → Good n u
    → Turns W s.marks u.marks
    → Returns fields u
turned_returns fields n s W written marks g u h t =
    marks_return fields n u h (turns_good W fields n written s.marks u.marks g.long t marks)

module _ (fields k : ℕ) (told : used_below fields k ≡ true) (n : ℕ) (s : State) (marks : GoodMarks fields n s.marks) (g : Good n s) where
  own_returns : (u : State) → Good n u → Turns (λ m. m ≡ k) s.marks u.marks → Returns fields u
  own_returns u h t = turned_returns fields n s (λ m. m ≡ k) (λ m e. rw e told) marks g u h t

  -- a take that ends, where only its own marks are written
  took_returns :
      {A : Type 0} (o : Outcome (Took A)) (t : Took A)
      → o ≡ ok t
      → Step n s t.state
      → Leaves (λ u. Turns (λ m. m ≡ k) s.marks u.state.marks) o
      → Leaves (TookReturns fields) o
  took_returns {A} o t e h turns =
      rw e (own_returns t.state h.good (subst (Leaves (λ (u : Took A). Turns (λ m. m ≡ k) s.marks u.state.marks)) e turns))

  remove_left : (i : ℕ) → Leaves (λ u. Good n u × Turns (λ m. m ≡ k) s.marks u.marks) (remove k s i)
  remove_left i =
      let t = remove_step k (used_parsed fields k told) n s i g in
      rw t.1 (t.2.good, subst (Leaves (λ (u : State). Turns (λ m. m ≡ k) s.marks u.marks)) t.1 (remove_turns k s i))

  command_returns : (x : Option Found) → ((f : Found) → x ≡ some f → f.place < n) → Leaves (TookReturns fields) (take_command k s x)
  unfolding take_command took with_current current_good unused
  command_returns none below =
      own_returns (with_current none s) (record {
        small = g.small;
        long = g.long;
        order = g.order;
        inside = g.inside;
        marks = g.marks;
        current = refl;
        counted = g.counted;
      }) turns_refl
  command_returns (some f) below =
      bind_leaves _ _ (remove k s f.place) _ (remove_left f.place)
      (λ u h. own_returns (with_current (some f.place) u) (current_good_lem n u f.place h.0 (below f refl)) h.1)

module _ (fields k : ℕ) (told : used_below fields k ≡ true) (is : List Item) (s : State) (marks : GoodMarks fields (length is) s.marks) (g : Good (length is) s) where
  p : parsed k ≡ true
  p = used_parsed fields k told

  flag_returns : (m : Named) → Leaves (TookReturns fields) (take_flag k is m s)
  flag_returns m =
      let t = flag_takes k p is m s g in
      took_returns fields k told (length is) s marks g (take_flag k is m s) t.0 t.1 t.2 (flag_turns k is s m)

  arg_returns : (m : Named) (adjacent : Bool) → Leaves (TookReturns fields) (take_arg k is m adjacent s)
  arg_returns m adjacent =
      ⊎_elim
      (λ t. took_returns fields k told (length is) s marks g (take_arg k is m adjacent s) t.0 t.1 t.2 (arg_turns k is s m adjacent))
      (λ t. rw t.1 tt)
      (arg_takes k p is m adjacent s g)

  positional_returns : Leaves (TookReturns fields) (take_positional_word k is s)
  positional_returns =
      let t = positional_takes k p is s g in
      took_returns fields k told (length is) s marks g (take_positional_word k is s) t.0 t.1 t.2 (positional_turns k is s)

  cmd_returns : (word : List ℕ) → Leaves (TookReturns fields) (take_cmd k is word s)
  unfolding take_cmd first ◌>>=◌
  cmd_returns word =
      let f = find_good is (λ _. true) s g in
      rw f.1 (command_returns fields k told (length is) s marks g _ (below f.0 f.2))
    where
      below :
          (x : Option Found)
          → Finds is (λ _. true) s x
          → (f : Found)
          → (if is_command word x then x else none) ≡ some f
          → f.place < length is
      below x h f e =
          let found = subst (Finds is (λ _. true) s) (if_some (is_command word x) x e).1 h in
          free_below_lem (length is) s f.place g found.free

-- ---- the calls with a form
module _ (form sheet slice : List ℕ) (a : Accepted) (accepts : check_form form ≡ accepted a) (x : Raw) where
  abbrev few : ℕ
  few = length a.fields

  form_hands :
      {A : Type 0} (f : Accepted → List Item → State → Outcome (Took A))
      → ((is : List Item) (s : State) → GoodMarks few (length is) s.marks → Good (length is) s → Leaves (TookReturns few) (f a is s))
      → HandsOn few x (on_form form sheet slice x f)
  unfolding on_form
  form_hands f h = handed_on few x _ (λ _.
      bind_leaves _ _ (form_in form) _ (form_given form sheet a accepts)
      (λ d e. bind_leaves _ _ (sheet_in sheet) _ (any_leaves (sheet_in sheet))
      (λ area _. bind_leaves _ _ (slice_in 1792 slice) _ (any_leaves (slice_in 1792 slice))
      (λ l _. bind_leaves _ _ (items_in area l) _ (any_leaves (items_in area l))
      (λ is _. rw e (bind_leaves _ _ (state_in few (length is) x) _ (same_leaves (state_in few (length is) x))
      (λ s q. let given = state_given few (length is) x s q in h is s given.marks given.good)))))))

  flag_hands : (k j : ℕ) → HandsOn few x (call_take_flag form sheet slice x k j)
  unfolding call_take_flag
  flag_hands k j = form_hands _ (λ is s marks good.
      bind_leaves _ _ (asked (get_elem? a.trees k >>? flag_names)) _ (any_leaves (asked (get_elem? a.trees k >>? flag_names)))
      (λ m _. bind_leaves _ _ (mark_in few j) _ (mark_leaves few j) (λ mark told. flag_returns few mark told is s marks good m)))

  arg_hands : (k j : ℕ) → HandsOn few x (call_take_arg form sheet slice x k j)
  unfolding call_take_arg
  arg_hands k j = form_hands _ (λ is s marks good.
      bind_leaves _ _ (asked (get_elem? a.trees k >>? argument_key)) _ (any_leaves (asked (get_elem? a.trees k >>? argument_key)))
      (λ m _. bind_leaves _ _ (mark_in few j) _ (mark_leaves few j)
      (λ mark told. arg_returns few mark told is s marks good m.named m.adjacent)))

  cmd_hands : (k : ℕ) → HandsOn few x (call_take_cmd form sheet slice x k)
  unfolding call_take_cmd
  cmd_hands k = form_hands _ (λ is s marks good.
      bind_leaves _ _ (asked (command_name a k)) _ (any_leaves (asked (command_name a k)))
      (λ w _. cmd_returns few command_mark (command_used few) is s marks good w))

-- ---- `eval` of a node
module _ (form sheet slice answers list : List ℕ) (a : Accepted) (accepts : check_form form ≡ accepted a) (x : Raw) (k : ℕ) where
  abbrev most : ℕ
  most = length a.fields

  node_returns :
      (is : List Item) (s : State) (t : Tree)
      → Given most (length is) x s
      → get_elem? a.trees k ≡ some t
      → Returns most (eval (field_mark (field_of a.form k)) is t s).state
  node_returns is s t given e =
      let field : ℕ = field_of a.form k in
      let owner = node_field form a accepts k t e in
      let below = lookup_inside a.fields field owner.tree owner.stands in
      let sound = All-at Sound a.trees k t (accepted_trees_sound form a accepts) e in
      let runs = eval_sound (field_mark field) (field_parsed field) is t sound s given.good in
      own_returns most (field_mark field) (field_used most field below) (length is) s given.marks given.good _ runs.step.good
      (eval_turns (field_mark field) is t s)

  eval_in_lem : Leaves (λ r. Returns most r.state) (eval_in form sheet slice answers list x k)
  unfolding eval_in
  eval_in_lem =
      bind_leaves _ _ (form_in form) _ (form_given form sheet a accepts)
      (λ d e. bind_leaves _ _ (sheet_in sheet) _ (any_leaves (sheet_in sheet))
      (λ area _. bind_leaves _ _ (slice_in 1792 slice) _ (any_leaves (slice_in 1792 slice))
      (λ l _. bind_leaves _ _ (slice_in 8240 answers) _ (any_leaves (slice_in 8240 answers))
      (λ _ _. bind_leaves _ _ (list_room_in (length list)) _ (any_leaves (list_room_in (length list)))
      (λ _ _. bind_leaves _ _ (items_in area l) _ (any_leaves (items_in area l))
      (λ is _. rw e (bind_leaves _ _ (state_in most (length is) x) _ (same_leaves (state_in most (length is) x))
      (λ s q. bind_leaves _ _ (asked (get_elem? a.trees k)) _ (same_leaves (asked (get_elem? a.trees k)))
      (λ t h. node_returns is s t (state_given most (length is) x s q) (asked_some _ t h))))))))))

  evaluated_pass : (r : Ran Value) → Returns most r.state → Leaves (λ e. Passes most e.state) (evaluated (length answers) (length list) r)
  unfolding evaluated evaluated_with
  evaluated_pass r h = go r.outcome refl
    where
      go : (o : Outcome Value) → r.outcome ≡ o → Leaves (λ e. Passes most e.state) (evaluated (length answers) (length list) r)
      go (ok v) e = rw (e, evaluated) (returns_pass most r.state h)
      go (refused d) e = rw (e, evaluated) (returns_pass most r.state h)
      go (fault d) e = rw (e, evaluated) tt

  eval_hands : (e : Evaluated) → call_eval form sheet slice answers list x k ≡ ok e → Passes most x → Passes most e.state
  unfolding call_eval unchanged
  eval_hands e h given = subst (Leaves (λ (e : Evaluated). Passes most e.state)) h (go (eval_in form sheet slice answers list x k) eval_in_lem)
    where
      go :
          (o : Outcome (Ran Value))
          → Leaves (λ r. Returns most r.state) o
          → Leaves (λ (e : Evaluated). Passes most e.state) (elim o [
            | ok r ↦ evaluated (length answers) (length list) r
            | refused e ↦ ok (unchanged x answers list e)
            | fault f ↦ fault f
          ])
      go (ok r) h = evaluated_pass r h
      go (refused d) h = given
      go (fault d) h = tt

-- ---- `split`
split_passes :
    (b s : List ℕ) (a : Accepted)
    → check_form b ≡ accepted a
    → (n : ℕ) (r : Splitting)
    → call_split b s n ≡ ok r
    → Passes (length a.fields) r.state
unfolding call_split split_report split_refused input_in
split_passes b s a accepts n r e =
    subst (Leaves (λ (r : Splitting). Passes few r.state)) e (go (input_in b s n) (input_given b s a accepts n))
  where
    few : ℕ
    few = length a.fields

    go :
        (o : Outcome Accepted)
        → Leaves (λ d. d ≡ a) o
        → Leaves (λ (r : Splitting). Passes few r.state) (elim o [
          | ok a ↦ split a.form s >>= λ l. ok (split_report n l)
          | refused e ↦ ok (split_refused n e.number e.place)
          | fault x ↦ fault x
        ])
    go (ok d) e =
        rw e (bind_leaves _ _ (split a.form s) _ (same_leaves (split a.form s))
        (λ l q. returns_pass few l.state (line_returns b s a accepts l q)))
    go (refused d) h = returns_pass few empty_state (empty_returns few)
    go (fault d) h = tt

-- ---- the calls with no form
scope_turns : (s : State) (a b : ℕ) → Leaves (λ u. Turns (λ m. ⊥) s.marks u.marks) (set_scope s a b)
unfolding set_scope
scope_turns s a b = bind_leaves _ _ (at set_scope561 (slice a b s.marks)) _ (at_leaves _ _) (λ _ _. turns_refl)

scope_left :
    (n : ℕ) (s : State) (a b : ℕ)
    → Good n s
    → a ≤ b
    → b ≤ n
    → Leaves (λ u. Good n u × Turns (λ m. ⊥) s.marks u.marks) (set_scope s a b)
scope_left n s a b g h l =
    let r = set_scope_good n s a b g h l in
    rw r.1 (r.2, subst (Leaves (λ (u : State). Turns (λ m. ⊥) s.marks u.marks)) r.1 (scope_turns s a b))

module _ (fields : ℕ) (x : Raw) where
  -- a state that is let through, and what follows
  state_leaves :
      {A : Type 0} (n : ℕ) (f : State → Outcome (Took A))
      → Passes fields x
      → ((s : State) → GoodMarks fields n s.marks → Good n s → Leaves (TookReturns fields) (f s))
      → Leaves (TookReturns fields) (state_in most_fields n x >>= f)
  state_leaves n f given h =
      bind_leaves _ _ (state_in most_fields n x) _ (same_leaves (state_in most_fields n x))
      (λ s q. h s (marks_given fields x given most_fields n s q) (state_given most_fields n x s q).good)

  operand_leaves : (t : Took (Option Operand)) → TookReturns fields t → Leaves (TookReturns fields) (operand_or20 t)
  unfolding operand_or20 took
  operand_leaves t h = go t.answer refl
    where
      go : (o : Option Operand) → t.answer ≡ o → Leaves (TookReturns fields) (operand_or20 t)
      go none e = rw (e, operand_or20) tt
      go (some o) e = rw (e, operand_or20) h

  positional_hands : (sheet slice : List ℕ) (k : ℕ) → k < fields → HandsOn fields x (call_take_positional sheet slice x k)
  unfolding call_take_positional on_items
  positional_hands sheet slice k below = handed_on fields x _ (λ given.
      bind_leaves _ _ (sheet_in sheet) _ (any_leaves (sheet_in sheet))
      (λ area _. bind_leaves _ _ (slice_in 1792 slice) _ (any_leaves (slice_in 1792 slice))
      (λ l _. bind_leaves _ _ (items_in area l) _ (any_leaves (items_in area l))
      (λ is _. state_leaves (length is) _ given
      (λ s marks good. bind_leaves _ _ (mark_in most_fields k) _ (mark_below most_fields fields k below)
      (λ mark told. bind_leaves _ _ (take_positional_word mark is s) _ (positional_returns fields mark told is s marks good) operand_leaves))))))

  remove_hands : (i k : ℕ) → k < fields → HandsOn fields x (call_remove x i k)
  unfolding call_remove took
  remove_hands i k below = handed_on fields x _ (λ given. state_leaves x.count _ given (λ s marks good.
      bind_leaves _ _ (place_in x.count i) _ (any_leaves (place_in x.count i))
      (λ _ _. bind_leaves _ _ (mark_in most_fields k) _ (mark_below most_fields fields k below)
      (λ mark told. bind_leaves _ _ (remove mark s i) _ (remove_left fields mark told x.count s marks good i)
      (λ u h. own_returns fields mark told x.count s marks good u h.0 h.1)))))

  -- nothing is written
  still_returns :
      (s : State)
      → GoodMarks fields x.count s.marks
      → Good x.count s
      → (u : State)
      → Good x.count u
      → Turns (λ m. ⊥) s.marks u.marks
      → Returns fields u
  still_returns s marks good = turned_returns fields x.count s (λ m. ⊥) (λ m e. absurd e) marks good

  conflicts_hands : (y : Raw) (w : ℕ) → HandsOn fields x (call_save_conflicts x y w)
  unfolding call_save_conflicts took save_conflicts
  conflicts_hands y w = handed_on fields x _ (λ given. state_leaves x.count _ given (λ s marks good.
      bind_leaves _ _ (state_in most_fields x.count y) _ (any_leaves (state_in most_fields x.count y))
      (λ t _. bind_leaves _ _ (place_in x.count w) _ (same_leaves (place_in x.count w))
      (λ j e. let below = place_below_lem x.count w j e in
      still_returns s marks good (save_conflicts s t w) (saved_good x.count s t w good below)
      (conflicts_turn w s.marks t.marks (omega (arith, good.long)))))))

  scope_hands : (a b : ℕ) → HandsOn fields x (call_set_scope x a b)
  unfolding call_set_scope took
  scope_hands a b = handed_on fields x _ (λ given. state_leaves x.count _ given (λ s marks good.
      bind_leaves _ _ (scope_in x.count a b) _ (same_leaves (scope_in x.count a b))
      (λ c e. let h = scope_inside x.count a b c e in
      bind_leaves _ _ (set_scope s a b) _ (scope_left x.count s a b good h.0 h.1)
      (λ u r. still_returns s marks good u r.0 r.1))))

-- ---- every call that hands a state back changed
pub states_pass : StatesPass
states_pass = record {
  run = run_returns;
  split = split_passes;
  eval = λ form sheet slice answers list a accepts x k. eval_hands form sheet slice answers list a accepts x k;
  take_flag = flag_hands;
  take_arg = arg_hands;
  take_cmd = cmd_hands;
  take_positional = λ fields sheet slice x k h. positional_hands fields x sheet slice k h;
  remove = remove_hands;
  save_conflicts = conflicts_hands;
  set_scope = scope_hands;
}
