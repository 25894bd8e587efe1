-- The evaluation of a moved tree is the moved evaluation: a law for each combinator, then one induction over the tree.
use mathlib.Core.Bool.{Bool, true, false, ◌&&◌}
use mathlib.Core.List.{List, [], ◌∷◌, ◌++◌, map, map-append}
use mathlib.Core.Option
use mathlib.Core.Option.{Option, some, none}
use mathlib.Core.Path.{◌≡◌, refl, sym, ap, ◌∙◌}
use Prim.Native.Nat.{ℕ, zero, suc, ◌+◌}
use lib.Dec.{leb, eqb}
use lib.ListN.{get_elem?, length-map}
use Rattle.std.specs.Prelude.{if◌then◌else◌}
use Rattle.rules.specs.Base.{null, minus, write}
use Rattle.rules.specs.Outcome.{Spot, Outcome, ok, refused, fault, panic, ◌>>=◌, at, Refusal, refuse, is_missing, can_catch, wrong_input, combine_with}
use Rattle.rules.specs.Outcome.{args_iter635, remove431, remove433, remove434, short_long125, short_long126, short_long127, parse_flag559, take_argument679, or_else305, or_else307}
use Rattle.rules.specs.Value.{Base, yes_no, text, number, item, name, BaseValue, is_yes, is_text, is_number, Value, base, absent, present, nil, cons, list_of}
use Rattle.rules.specs.Tree.{Named, Position, Tree, Flag, Argument, Positional, Optional, Many, Some, Count, Last, Choice, Fallback, Guard, kind_of}
use Rattle.rules.specs.Split.{Item}
use Rattle.rules.specs.State.{State, Found, Picked, present as there, in_scope, unused, get, find_in, find, used, remove, with_current, pick_winner}
use Rattle.rules.specs.Take.{Took, Taken, Operand, took, matches_arg, take_flag, value_text, take_value, take_arg, is_operand, operand, take_positional_word}
use Rattle.rules.specs.Eval.{Ran, ended, after, ◌then◌, visit, leaf, refuse_missing, shown_name, not_found, flag_value, eval_flag, number_of, parse_text, argument_value, eval_argument}
use Rattle.rules.specs.Eval.{wrong_position, placed_value, positional_value, eval_positional, fewer, swallowed, parse_option, eval_optional, idle, repeat, repeated}
use Rattle.rules.specs.Eval.{eval_many, eval_some, eval_count, last_of, eval_last, side, picks_first, won, value_of, picked, chosen, eval_choice, eval_fallback, guarded, eval_guard, eval}
use Rattle.rules.proofs.Places.{if_elim}
use Rattle.rules_join.specs.Join.{Moves, move_base, move_tree, move_value, move_missing, move_refusal, move_outcome, move_visit, move_ran}
use Rattle.rules_join.specs.JoinAnswered.{TreeMoved}
use Rattle.rules_join.proofs.TreeLaws.{kind_moved}

-- what a test chooses, passed through a function
if_pass : {A B : Type 0} (f : A → B) (b : Bool) (x y : A) → (if b then f x else f y) ≡ f (if b then x else y)
if_pass f true x y = refl
if_pass f false x y = refl

module _ (d : Moves) where
  -- ---- runs
  pub ended_moved : {A B : Type 0} (f : A → B) (o : Outcome A) (s : State) → ended (move_outcome d f o) s ≡ move_ran d f (ended o s)
  unfolding ended move_ran
  ended_moved f o s = refl

  pub after_moved :
      {A B C D : Type 0} (f : A → B) (g : C → D) (r : Ran A) (q : Ran C) → after (move_ran d f r) (move_ran d g q) ≡ move_ran d g (after r q)
  unfolding after move_ran
  after_moved f g r q = λ i. record {
    outcome = move_outcome d g q.outcome;
    state = q.state;
    tries = r.tries + q.tries;
    trace = sym (map-append (move_visit d) r.trace q.trace) i;
  }

  pub then_moved :
      {A B C D : Type 0} (h : A → B) (g : C → D) (r : Ran A) (f : A → State → Ran C) (f' : B → State → Ran D)
      → ((v : A) (u : State) → f' (h v) u ≡ move_ran d g (f v u))
      → (move_ran d h r then f') ≡ move_ran d g (r then f)
  unfolding ◌then◌ move_outcome move_ran
  then_moved {A} {B} {C} {D} h g r f f' e = ap (after (move_ran d h r)) (go r.outcome) ∙ after_moved h g r (rest r.outcome)
    where
      rest : Outcome A → Ran C
      rest o = elim o [
        | ok v ↦ f v r.state
        | refused e ↦ ended (refused e) r.state
        | fault x ↦ ended (fault x) r.state
      ]

      rest' : Outcome B → Ran D
      rest' o = elim o [
        | ok v ↦ f' v r.state
        | refused e ↦ ended (refused e) r.state
        | fault x ↦ ended (fault x) r.state
      ]

      go : (o : Outcome A) → rest' (move_outcome d h o) ≡ move_ran d g (rest o)
      go (ok v) = e v r.state
      go (refused e) = ended_moved g (refused e) r.state
      go (fault x) = ended_moved g (fault x) r.state

  -- an end in the state that was left
  pub then_ends :
      {A B C D : Type 0} (h : A → B) (g : C → D) (r : Ran A) (f : A → State → Outcome C) (f' : B → State → Outcome D)
      → ((v : A) (u : State) → f' (h v) u ≡ move_outcome d g (f v u))
      → (move_ran d h r then λ v u. ended (f' v u) u) ≡ move_ran d g (r then λ v u. ended (f v u) u)
  then_ends {D} h g r f f' e =
      then_moved h g r _ _ (λ v u. ap (λ (o : Outcome D). ended o u) (e v u) ∙ ended_moved g (f v u) u)

  -- every evaluation is kept moved
  visit_moved : (t : Tree) (s : State) (r : Ran Value) → visit (move_tree d t) s (move_ran d (move_value d) r) ≡ move_ran d (move_value d) (visit t s r)
  unfolding visit move_ran move_visit
  visit_moved t s r = rw (kind_moved d t) (λ i. record {
    outcome = move_outcome d (move_value d) r.outcome;
    state = r.state;
    tries = r.tries;
    trace = sym (map-append (move_visit d) r.trace (record { kind = kind_of t; given = s; outcome = r.outcome; left = r.state } ∷ [])) i;
  })

  -- ---- outcomes that name no node: their refusals have no entries
  abbrev Stays : {A : Type 0} → Outcome A → Type 0
  Stays {A} o = o ≡ move_outcome d (λ (a : A). a) o

  bind_moved :
      {A B C : Type 0} (g : B → C) (o : Outcome A) (f : A → Outcome B) (f' : A → Outcome C)
      → Stays o
      → ((a : A) → f' a ≡ move_outcome d g (f a))
      → (o >>= f') ≡ move_outcome d g (o >>= f)
  unfolding ◌>>=◌ move_outcome
  bind_moved {A} g o f f' s h = ap (λ (x : Outcome A). x >>= f') s ∙ go o
    where
      go : (o : Outcome A) → (move_outcome d (λ (a : A). a) o >>= f') ≡ move_outcome d g (o >>= f)
      go (ok a) = h a
      go (refused e) = refl
      go (fault x) = refl

  bind_stays : {A B : Type 0} (o : Outcome A) (f : A → Outcome B) → Stays o → ((a : A) → Stays (f a)) → Stays (o >>= f)
  bind_stays {B} o f s h = bind_moved (λ (b : B). b) o f f s h

  ok_stays : {A : Type 0} (a : A) → Stays (ok a)
  unfolding move_outcome
  ok_stays a = refl

  at_stays : {A : Type 0} (spot : Spot) (o : Option A) → Stays (at spot o)
  unfolding at move_outcome
  at_stays spot none = refl
  at_stays spot (some a) = refl

  refuse_stays : {A : Type 0} (k : ℕ) (p : Option ℕ) → Stays {A = A} (refused (refuse k p))
  unfolding move_outcome move_refusal
  refuse_stays k p = refl

  find_stays : (is : List Item) (test : Item → Bool) (places : List ℕ) → Stays (find_in is test places)
  unfolding find_in
  find_stays is test [] = ok_stays none
  find_stays is test (i ∷ places) =
      bind_stays (at args_iter635 (get_elem? is i)) _ (at_stays _ _)
      (λ x. if_elim Stays (test x) _ _ (λ _. ok_stays (some (record { place = i; item = x }))) (λ _. find_stays is test places))

  remove_stays : (mark : ℕ) (s : State) (i : ℕ) → Stays (remove mark s i)
  unfolding remove
  remove_stays mark s i = if_elim Stays (in_scope s i) _ (ok s) (λ _. bind_stays (at remove431 (get_elem? s.marks i)) _ (at_stays _ _) inside) (λ _. ok_stays s)
    where
      inside : (m : ℕ) → Stays (if there m
          then (at remove433 (minus s.remaining 1) >>= λ left. at remove434 (write s.marks i mark) >>= λ marks. ok (used s i marks left))
          else ok s)
      inside m =
          if_elim Stays (there m) _ (ok s)
          (λ _. bind_stays (at remove433 (minus s.remaining 1)) _ (at_stays _ _)
          (λ left. bind_stays (at remove434 (write s.marks i mark)) _ (at_stays _ _) (λ marks. ok_stays (used s i marks left))))
          (λ _. ok_stays s)

  -- ---- what the takes answer
  took_stays : {A : Type 0} (a : A) (s : State) → Stays (took a s)
  unfolding took
  took_stays a s = ok_stays (record { answer = a; state = s })

  flag_stays : (mark : ℕ) (is : List Item) (m : Named) (s : State) → Stays (take_flag mark is m s)
  unfolding take_flag find
  flag_stays mark is m s = bind_stays (find_in is (matches_arg m false) (unused s)) _ (find_stays is (matches_arg m false) (unused s)) go
    where
      go : (x : Option Found) → Stays {A = Took Bool} (elim x [ none ↦ took false s | some k ↦ remove mark s k.place >>= λ t. took true t ])
      go none = took_stays false s
      go (some k) = bind_stays (remove mark s k.place) _ (remove_stays mark s k.place) (took_stays true)

  value_stays : (mark : ℕ) (s : State) (key : ℕ) (o : Option (List ℕ)) → Stays (take_value mark s key o)
  unfolding take_value
  value_stays mark s key none = refuse_stays 22 (some key)
  value_stays mark s key (some t) =
      let s' = with_current (some (suc key)) s in
      bind_stays (remove mark s' key) _ (remove_stays mark s' key)
      (λ u. bind_stays (remove mark u (suc key)) _ (remove_stays mark u (suc key)) (took_stays (some (record { place = suc key; text = t }))))

  arg_stays : (mark : ℕ) (is : List Item) (m : Named) (a : Bool) (s : State) → Stays (take_arg mark is m a s)
  unfolding take_arg find
  arg_stays mark is m a s = bind_stays (find_in is (matches_arg m a) (unused s)) _ (find_stays is (matches_arg m a) (unused s)) go
    where
      go : (x : Option Found) → Stays {A = Took (Option Taken)} (elim x [
        | none ↦ took none s
        | some k ↦ take_value mark s k.place (value_text (get is s (suc k.place)))
      ])
      go none = took_stays none s
      go (some k) = value_stays mark s k.place (value_text (get is s (suc k.place)))

  positional_stays : (mark : ℕ) (is : List Item) (s : State) → Stays (take_positional_word mark is s)
  unfolding take_positional_word find
  positional_stays mark is s = bind_stays (find_in is is_operand (unused s)) _ (find_stays is is_operand (unused s)) go
    where
      go : (x : Option Found) → Stays {A = Took (Option Operand)} (elim x [
        | none ↦ took none s
        | some k ↦ remove mark (with_current (some k.place) s) k.place >>= λ t. took (some (operand k)) t
      ])
      go none = took_stays none s
      go (some k) =
          let s' = with_current (some k.place) s in
          bind_stays (remove mark s' k.place) _ (remove_stays mark s' k.place) (took_stays (some (operand k)))

  -- ---- leaves
  leaf_moved :
      {A : Type 0} (s : State) (o : Outcome (Took A)) (f f' : A → State → Outcome Value)
      → Stays o
      → ((a : A) (t : State) → f' a t ≡ move_outcome d (move_value d) (f a t))
      → leaf s o f' ≡ move_ran d (move_value d) (leaf s o f)
  unfolding leaf move_outcome move_ran
  leaf_moved {A} s o f f' stays h = ap (λ (x : Outcome (Took A)). leaf s x f') stays ∙ go o
    where
      go : (o : Outcome (Took A)) → leaf s (move_outcome d (λ (t : Took A). t) o) f' ≡ move_ran d (move_value d) (leaf s o f)
      go (ok t) = λ i. record { outcome = h t.answer t.state i; state = t.state; tries = 1; trace = [] }
      go (refused e) = refl
      go (fault x) = refl

  shown_stays : (m : Named) → Stays (shown_name m)
  unfolding shown_name
  shown_stays m =
      if_elim Stays (null m.shorts) _ _
      (λ _. if_elim Stays (null m.longs) (ok false) _ (λ _. ok_stays false) (λ _. shown_at short_long125 m.longs))
      (λ _. if_elim Stays (null m.longs) _ _ (λ _. shown_at short_long126 m.shorts)
      (λ _. bind_stays (at short_long127 (get_elem? m.shorts 0)) _ (at_stays _ _) (λ _. shown_at short_long127 m.longs)))
    where
      shown_at : {A : Type 0} (spot : Spot) (l : List A) → Stays (at spot (get_elem? l 0) >>= λ _. ok true)
      shown_at spot l = bind_stays (at spot (get_elem? l 0)) _ (at_stays _ _) (λ _. ok_stays true)

  -- 20's entry has the node's moved number
  not_found_moved :
      (unnamed : Spot) (n : ℕ) (m : Named) (s : State) → not_found unnamed (d.nodes + n) m s ≡ move_outcome d (move_value d) (not_found unnamed n m s)
  unfolding not_found refuse_missing move_outcome move_refusal move_missing
  not_found_moved unnamed n m s = bind_moved (move_value d) (shown_name m) _ _ (shown_stays m) go
    where
      go : (shown : Bool)
          → (if shown then refused (refuse_missing (d.nodes + n) s) else fault (panic unnamed))
          ≡ move_outcome d (move_value d) (if shown then refused (refuse_missing n s) else fault (panic unnamed))
      go true = refl
      go false = refl

  flag_value_moved :
      (n : ℕ) (m : Named) (w there : Bool) (s : State) → flag_value (d.nodes + n) m w there s ≡ move_outcome d (move_value d) (flag_value n m w there s)
  unfolding flag_value move_outcome move_value move_base
  flag_value_moved n m w true s = refl
  flag_value_moved n m true false s = refl
  flag_value_moved n m false false s = not_found_moved parse_flag559 n m s

  -- a text stands at an item
  parse_moved : (b : Base) (i : ℕ) (t : List ℕ) (s : State) → parse_text b i t s ≡ move_outcome d (move_value d) (parse_text b i t s)
  unfolding parse_text move_outcome move_refusal move_value move_base
  parse_moved yes_no i t s = refl
  parse_moved text i t s = refl
  parse_moved number i t s = go (number_of t)
    where
      read : Option ℕ → Outcome Value
      read o = elim o [ none ↦ refused (refuse 25 s.current) | some n ↦ ok (base (is_number n)) ]

      go : (o : Option ℕ) → read o ≡ move_outcome d (move_value d) (read o)
      go none = refl
      go (some n) = refl

  argument_value_moved :
      (n : ℕ) (m : Named) (b : Base) (x : Option Taken) (s : State)
      → argument_value (d.nodes + n) m b x s ≡ move_outcome d (move_value d) (argument_value n m b x s)
  unfolding argument_value
  argument_value_moved n m b none s = not_found_moved take_argument679 n m s
  argument_value_moved n m b (some x) s = parse_moved b x.place x.text s

  positional_value_moved :
      (n : ℕ) (p : Position) (b : Base) (x : Option Operand) (s : State)
      → positional_value (d.nodes + n) p b x s ≡ move_outcome d (move_value d) (positional_value n p b x s)
  unfolding positional_value placed_value refuse_missing move_outcome move_refusal move_missing
  positional_value_moved n p b none s = refl
  positional_value_moved n p b (some x) s = go (wrong_position p x.strict)
    where
      placed : Option ℕ → Outcome Value
      placed o = elim o [ none ↦ parse_text b x.place x.text s | some n ↦ refused (refuse n (some x.place)) ]

      go : (o : Option ℕ) → placed o ≡ move_outcome d (move_value d) (placed o)
      go none = parse_moved b x.place x.text s
      go (some n) = refl

  -- ---- `parse_option`: what decides is the number of a refusal, and states
  option_moved :
      (catch : Bool) (len : Option ℕ) (s : State) (r : Ran Value)
      → parse_option catch len s (move_ran d (move_value d) r) ≡ move_ran d (Option.map (move_value d)) (parse_option catch len s r)
  unfolding parse_option swallowed is_missing can_catch wrong_input ended move_ran move_outcome move_refusal
  option_moved catch len s r =
      ap (after (move_ran d (move_value d) r)) (go r.outcome) ∙ after_moved (move_value d) (Option.map (move_value d)) r (rest r.outcome)
    where
      rest : Outcome Value → Ran (Option Value)
      rest o = elim o [
        | ok v ↦ ended (ok (if fewer r.state.remaining len then some v else none)) r.state
        | refused e ↦ if swallowed catch e s r.state then ended (ok none) s else ended (refused e) r.state
        | fault x ↦ ended (fault x) r.state
      ]

      go : (o : Outcome Value) → rest (move_outcome d (move_value d) o) ≡ move_ran d (Option.map (move_value d)) (rest o)
      go (ok v) = ap (λ (o : Option Value). ended (ok o) r.state) (if_pass (Option.map (move_value d)) (fewer r.state.remaining len) (some v) none)
      go (refused e) = if_pass (move_ran d (Option.map (move_value d))) (swallowed catch e s r.state) (ended (ok none) s) (ended (refused e) r.state)
      go (fault x) = refl

  optional_moved : (catch : Bool) (s : State) (r : Ran Value) → eval_optional catch s (move_ran d (move_value d) r) ≡ move_ran d (move_value d) (eval_optional catch s r)
  unfolding eval_optional move_outcome move_value
  optional_moved catch s r =
      rw (option_moved catch none s r) (then_ends (Option.map (move_value d)) (move_value d) (parse_option catch none s r) _ _ (λ v u. go v))
    where
      given : Option Value → Value
      given v = elim v [ none ↦ absent | some x ↦ present x ]

      go : (v : Option Value) → ◌≡◌ {A = Outcome Value} (ok (given (Option.map (move_value d) v))) (ok (move_value d (given v)))
      go none = refl
      go (some x) = refl

  -- ---- lists of values
  list_moved : (vs : List Value) → list_of (map (move_value d) vs) ≡ move_value d (list_of vs)
  unfolding list_of move_value
  list_moved [] = refl
  list_moved (v ∷ vs) = rw (list_moved vs)

  null_moved : (vs : List Value) → null (map (move_value d) vs) ≡ null vs
  unfolding null
  null_moved [] = refl
  null_moved (v ∷ vs) = refl

  last_moved : (vs : List Value) → last_of (map (move_value d) vs) ≡ Option.map (move_value d) (last_of vs)
  unfolding last_of
  last_moved [] = refl
  last_moved (v ∷ vs) = rw (last_moved vs) (go (last_of vs))
    where
      later : Value → Option Value → Option Value
      later v o = elim o [ none ↦ some v | some w ↦ some w ]

      go : (o : Option Value) → later (move_value d v) (Option.map (move_value d) o) ≡ Option.map (move_value d) (later v o)
      go none = refl
      go (some w) = refl

  -- ---- repeats: by their fuel, for any two runs of which one is the other moved
  module _ (run run' : State → Ran Value) (moved : (s : State) → run' s ≡ move_ran d (move_value d) (run s)) where
    repeating_moved :
        (catch stops : Bool) (fuel : ℕ) (len : Option ℕ) (s : State)
        → repeat catch stops fuel len run' s ≡ move_ran d (map (move_value d)) (repeat catch stops fuel len run s)
    unfolding repeat ended move_ran move_outcome
    repeating_moved catch stops zero len s = refl
    repeating_moved catch stops (suc fuel) len s =
        rw (moved s, option_moved catch len s (run s))
        (then_moved (Option.map (move_value d)) (map (move_value d)) (parse_option catch len s (run s)) _ _ (λ v u. go v u (repeating_moved catch stops fuel (some u.remaining) u)))
      where
        turn : (State → Ran Value) → Option Value → State → Ran (List Value)
        turn run v t = elim v [
          | none ↦ ended (ok []) t
          | some x ↦ if idle stops s t
              then ended (ok (x ∷ [])) t
              else (repeat catch stops fuel (some t.remaining) run t then λ xs u. ended (ok (x ∷ xs)) u)
        ]

        go :
            (v : Option Value) (t : State)
            → repeat catch stops fuel (some t.remaining) run' t ≡ move_ran d (map (move_value d)) (repeat catch stops fuel (some t.remaining) run t)
            → turn run' (Option.map (move_value d) v) t ≡ move_ran d (map (move_value d)) (turn run v t)
        go none t ih = refl
        go (some x) t ih =
            let next = repeat catch stops fuel (some t.remaining) run t in
            rw (ih, then_ends (map (move_value d)) (map (move_value d)) next (λ xs u. ok (x ∷ xs)) (λ xs u. ok (move_value d x ∷ xs)) (λ xs u. refl))
            (if_pass (move_ran d (map (move_value d))) (idle stops s t) (ended (ok (x ∷ [])) t) (next then λ xs u. ended (ok (x ∷ xs)) u))

    repeated_moved : (catch stops : Bool) (s : State) → repeated catch stops run' s ≡ move_ran d (map (move_value d)) (repeated catch stops run s)
    unfolding repeated
    repeated_moved catch stops s = repeating_moved catch stops (s.remaining + 2) none s

    many_moved : (catch : Bool) (s : State) → eval_many catch run' s ≡ move_ran d (move_value d) (eval_many catch run s)
    unfolding eval_many move_outcome
    many_moved catch s =
        rw (repeated_moved catch false s)
        (then_ends (map (move_value d)) (move_value d) (repeated catch false run s) _ _ (λ vs u. ap ok (list_moved vs)))

    some_moved : (catch : Bool) (s : State) → eval_some catch run' s ≡ move_ran d (move_value d) (eval_some catch run s)
    unfolding eval_some move_outcome move_refusal
    some_moved catch s =
        rw (repeated_moved catch false s)
        (then_ends (map (move_value d)) (move_value d) (repeated catch false run s) _ _
        (λ vs u. rw (null_moved vs, list_moved vs) (if_pass (move_outcome d (move_value d)) (null vs) (refused (refuse 21 none)) (ok (list_of vs)))))

    count_moved : (s : State) → eval_count run' s ≡ move_ran d (move_value d) (eval_count run s)
    unfolding eval_count move_outcome move_value move_base
    count_moved s =
        rw (repeated_moved false true s)
        (then_ends (map (move_value d)) (move_value d) (repeated false true run s) _ _ (λ vs u. rw (length-map vs (move_value d))))

    last_run_moved : (s : State) → eval_last run' s ≡ move_ran d (move_value d) (eval_last run s)
    unfolding eval_last ended move_ran move_outcome
    last_run_moved s =
        rw (repeated_moved false true s)
        (then_moved (map (move_value d)) (move_value d) (repeated false true run s) _ _ (λ vs t. rw (last_moved vs) (go (last_of vs) t)))
      where
        once : (State → Ran Value) → Option Value → State → Ran Value
        once run o t = elim o [ none ↦ run t | some v ↦ ended (ok v) t ]

        go : (o : Option Value) (t : State) → once run' (Option.map (move_value d) o) t ≡ move_ran d (move_value d) (once run o t)
        go none t = moved t
        go (some v) t = refl

  -- ---- choice
  combine_moved : (a b : Refusal) → combine_with (move_refusal d a) (move_refusal d b) ≡ move_refusal d (combine_with a b)
  unfolding combine_with is_missing can_catch move_refusal
  combine_moved a b = go (is_missing a) (is_missing b) (can_catch a)
    where
      both : Refusal → Refusal → Refusal
      both a b = record { number = 20; place = none; missing = a.missing ++ b.missing }

      go : (x y z : Bool)
          → (if x then (if y then both (move_refusal d a) (move_refusal d b) else move_refusal d b) else (if z then move_refusal d b else move_refusal d a))
          ≡ move_refusal d (if x then (if y then both a b else b) else (if z then b else a))
      go true true z = λ i. record { number = 20; place = none; missing = sym (map-append (move_missing d) a.missing b.missing) i }
      go true false z = refl
      go false y true = refl
      go false y false = refl

  -- a side, or the refusal of one
  picks_moved :
      (s a b : State) (o u : Outcome Value)
      → picks_first s a b (move_outcome d (move_value d) o) (move_outcome d (move_value d) u) ≡ move_outcome d (λ (p : Picked). p) (picks_first s a b o u)
  unfolding picks_first side wrong_input move_outcome move_refusal
  picks_moved s a b (ok v) (ok w) =
      if_pass (move_outcome d (λ (p : Picked). p)) (eqb s.remaining a.remaining && eqb s.remaining b.remaining) (side true none) (ok (pick_winner a b))
  picks_moved s a b (ok v) (refused e) =
      if_pass (move_outcome d (λ (p : Picked). p)) (eqb s.remaining a.remaining && wrong_input e) (refused e) (side true none)
  picks_moved s a b (refused e) (ok w) =
      if_pass (move_outcome d (λ (p : Picked). p)) (eqb s.remaining b.remaining && wrong_input e) (refused e) (side false none)
  picks_moved s a b (refused e) (refused e') = ap refused (combine_moved e e')
  picks_moved s a b (fault x) o = refl
  picks_moved s a b (ok v) (fault x) = refl
  picks_moved s a b (refused e) (fault x) = refl

  -- the value of a side
  unwrap_moved :
      (spot : Spot) (o : Outcome Value) → at spot (value_of (move_outcome d (move_value d) o)) ≡ move_outcome d (move_value d) (at spot (value_of o))
  unfolding at value_of move_outcome
  unwrap_moved spot (ok v) = refl
  unwrap_moved spot (refused e) = refl
  unwrap_moved spot (fault x) = refl

  picked_moved :
      (a b : Ran Value) (p : Picked)
      → picked (move_ran d (move_value d) a) (move_ran d (move_value d) b) p ≡ move_ran d (move_value d) (picked a b p)
  unfolding picked move_ran ended
  picked_moved a b p =
      rw (unwrap_moved or_else305 a.outcome, unwrap_moved or_else307 b.outcome)
      (if_pass (move_ran d (move_value d)) p.first
      (ended (at or_else305 (value_of a.outcome)) (won a.state b.state p.place))
      (ended (at or_else307 (value_of b.outcome)) (won b.state a.state p.place)))

  chosen_moved :
      (s : State) (a b : Ran Value)
      → chosen s (move_ran d (move_value d) a) (move_ran d (move_value d) b) ≡ move_ran d (move_value d) (chosen s a b)
  unfolding chosen move_ran move_outcome ended
  chosen_moved s a b =
      ap (pick (move_ran d (move_value d) a) (move_ran d (move_value d) b)) (picks_moved s a.state b.state a.outcome b.outcome)
      ∙ go (picks_first s a.state b.state a.outcome b.outcome)
    where
      pick : Ran Value → Ran Value → Outcome Picked → Ran Value
      pick a b o = elim o [ ok p ↦ picked a b p | refused e ↦ ended (refused e) s | fault x ↦ ended (fault x) s ]

      go :
          (o : Outcome Picked)
          → pick (move_ran d (move_value d) a) (move_ran d (move_value d) b) (move_outcome d (λ (p : Picked). p) o) ≡ move_ran d (move_value d) (pick a b o)
      go (ok p) = picked_moved a b p
      go (refused e) = refl
      go (fault x) = refl

  choice_moved :
      (s : State) (a b : Ran Value)
      → eval_choice s (move_ran d (move_value d) a) (move_ran d (move_value d) b) ≡ move_ran d (move_value d) (eval_choice s a b)
  unfolding eval_choice
  choice_moved s a b =
      rw (chosen_moved s a b, after_moved (move_value d) (move_value d) b (chosen s a b)) (after_moved (move_value d) (move_value d) a (after b (chosen s a b)))

  -- ---- fallback and guard
  fallback_moved :
      (v : BaseValue) (s : State) (r : Ran Value)
      → eval_fallback (move_base d v) s (move_ran d (move_value d) r) ≡ move_ran d (move_value d) (eval_fallback v s r)
  unfolding eval_fallback can_catch ended move_ran move_outcome move_refusal move_value
  fallback_moved v s r =
      ap (after (move_ran d (move_value d) r)) (go r.outcome) ∙ after_moved (move_value d) (move_value d) r (rest v r.outcome)
    where
      rest : BaseValue → Outcome Value → Ran Value
      rest v o = elim o [
        | ok w ↦ ended (ok w) r.state
        | refused e ↦ ended (if can_catch e then ok (base v) else refused e) s
        | fault x ↦ ended (fault x) s
      ]

      go : (o : Outcome Value) → rest (move_base d v) (move_outcome d (move_value d) o) ≡ move_ran d (move_value d) (rest v o)
      go (ok w) = refl
      go (refused e) = ap (λ (o : Outcome Value). ended o s) (if_pass (move_outcome d (move_value d)) (can_catch e) (ok (base v)) (refused e))
      go (fault x) = refl

  -- a number stays, and nothing else is guarded
  guarded_moved : (lo hi : ℕ) (v : Value) (s : State) → guarded lo hi (move_value d v) s ≡ move_outcome d (move_value d) (guarded lo hi v s)
  unfolding guarded move_outcome move_refusal move_value move_base
  guarded_moved lo hi (base (is_yes b)) s = refl
  guarded_moved lo hi (base (is_text (item i))) s = refl
  guarded_moved lo hi (base (is_text (name k))) s = refl
  guarded_moved lo hi (base (is_number n)) s =
      if_pass (move_outcome d (move_value d)) (leb lo n && leb n hi) (ok (base (is_number n))) (refused (refuse 26 s.current))
  guarded_moved lo hi absent s = refl
  guarded_moved lo hi (present v) s = refl
  guarded_moved lo hi nil s = refl
  guarded_moved lo hi (cons v w) s = refl

  guard_moved : (lo hi : ℕ) (r : Ran Value) → eval_guard lo hi (move_ran d (move_value d) r) ≡ move_ran d (move_value d) (eval_guard lo hi r)
  unfolding eval_guard
  guard_moved lo hi r = then_ends (move_value d) (move_value d) r (guarded lo hi) (guarded lo hi) (guarded_moved lo hi)

  -- ---- every node, and what is kept of it
  visited : (t : Tree) (s : State) (r r' : Ran Value) → r' ≡ move_ran d (move_value d) r → visit (move_tree d t) s r' ≡ move_ran d (move_value d) (visit t s r)
  visited t s r r' e = rw e (visit_moved t s r)

  module _ (k : ℕ) (is : List Item) where
    abbrev Same : Tree → State → Type 0
    Same t s = eval k is (move_tree d t) s ≡ move_ran d (move_value d) (eval k is t s)

    flag_node : (n : ℕ) (m : Named) (w : Bool) (s : State) → Same (Flag n m w) s
    unfolding eval eval_flag move_tree
    flag_node n m w s =
        visited (Flag n m w) s (eval_flag k is n m w s) (eval_flag k is (d.nodes + n) m w s)
        (leaf_moved s (take_flag k is m s) (flag_value n m w) (flag_value (d.nodes + n) m w) (flag_stays k is m s) (flag_value_moved n m w))

    argument_node : (n : ℕ) (m : Named) (b : Base) (a : Bool) (s : State) → Same (Argument n m b a) s
    unfolding eval eval_argument move_tree
    argument_node n m b a s =
        visited (Argument n m b a) s (eval_argument k is n m b a s) (eval_argument k is (d.nodes + n) m b a s)
        (leaf_moved s (take_arg k is m a s) (argument_value n m b) (argument_value (d.nodes + n) m b) (arg_stays k is m a s) (argument_value_moved n m b))

    positional_node : (n : ℕ) (p : Position) (b : Base) (s : State) → Same (Positional n p b) s
    unfolding eval eval_positional move_tree
    positional_node n p b s =
        visited (Positional n p b) s (eval_positional k is n p b s) (eval_positional k is (d.nodes + n) p b s)
        (leaf_moved s (take_positional_word k is s) (positional_value n p b) (positional_value (d.nodes + n) p b) (positional_stays k is s) (positional_value_moved n p b))

    -- over one child
    module _ (t : Tree) (child : (s : State) → Same t s) where
      optional_node : (c : Bool) (s : State) → Same (Optional c t) s
      unfolding eval move_tree
      optional_node c s =
          visited (Optional c t) s (eval_optional c s (eval k is t s)) (eval_optional c s (eval k is (move_tree d t) s))
          (ap (eval_optional c s) (child s) ∙ optional_moved c s (eval k is t s))

      many_node : (c : Bool) (s : State) → Same (Many c t) s
      unfolding eval move_tree
      many_node c s =
          visited (Many c t) s (eval_many c (eval k is t) s) (eval_many c (eval k is (move_tree d t)) s)
          (many_moved (eval k is t) (eval k is (move_tree d t)) child c s)

      some_node : (c : Bool) (s : State) → Same (Some c t) s
      unfolding eval move_tree
      some_node c s =
          visited (Some c t) s (eval_some c (eval k is t) s) (eval_some c (eval k is (move_tree d t)) s)
          (some_moved (eval k is t) (eval k is (move_tree d t)) child c s)

      count_node : (s : State) → Same (Count t) s
      unfolding eval move_tree
      count_node s =
          visited (Count t) s (eval_count (eval k is t) s) (eval_count (eval k is (move_tree d t)) s)
          (count_moved (eval k is t) (eval k is (move_tree d t)) child s)

      last_node : (s : State) → Same (Last t) s
      unfolding eval move_tree
      last_node s =
          visited (Last t) s (eval_last (eval k is t) s) (eval_last (eval k is (move_tree d t)) s)
          (last_run_moved (eval k is t) (eval k is (move_tree d t)) child s)

      fallback_node : (v : BaseValue) (s : State) → Same (Fallback v t) s
      unfolding eval move_tree
      fallback_node v s =
          visited (Fallback v t) s (eval_fallback v s (eval k is t s)) (eval_fallback (move_base d v) s (eval k is (move_tree d t) s))
          (ap (eval_fallback (move_base d v) s) (child s) ∙ fallback_moved v s (eval k is t s))

      guard_node : (l h : ℕ) (s : State) → Same (Guard l h t) s
      unfolding eval move_tree
      guard_node l h s =
          visited (Guard l h t) s (eval_guard l h (eval k is t s)) (eval_guard l h (eval k is (move_tree d t) s))
          (ap (eval_guard l h) (child s) ∙ guard_moved l h (eval k is t s))

    choice_node : (t u : Tree) (s : State) → Same t s → Same u s → Same (Choice t u) s
    unfolding eval move_tree
    choice_node t u s first second =
        visited (Choice t u) s (eval_choice s (eval k is t s) (eval k is u s)) (eval_choice s (eval k is (move_tree d t) s) (eval k is (move_tree d u) s))
        ((λ i. eval_choice s (first i) (second i)) ∙ choice_moved s (eval k is t s) (eval k is u s))

    node_moved : (t : Tree) (s : State) → Same t s
    node_moved (Flag n m w) s = flag_node n m w s
    node_moved (Argument n m b a) s = argument_node n m b a s
    node_moved (Positional n p b) s = positional_node n p b s
    node_moved (Optional c t) s = optional_node t (node_moved t) c s
    node_moved (Many c t) s = many_node t (node_moved t) c s
    node_moved (Some c t) s = some_node t (node_moved t) c s
    node_moved (Count t) s = count_node t (node_moved t) s
    node_moved (Last t) s = last_node t (node_moved t) s
    node_moved (Choice t u) s = choice_node t u s (node_moved t s) (node_moved u s)
    node_moved (Fallback v t) s = fallback_node t (node_moved t) v s
    node_moved (Guard l h t) s = guard_node t (node_moved t) l h s

pub eval_moved : (d : Moves) (mark : ℕ) (is : List Item) (t : Tree) (s : State) → eval mark is (move_tree d t) s ≡ move_ran d (move_value d) (eval mark is t s)
eval_moved = node_moved

pub tree_moved : (d : Moves) (t : Tree) → TreeMoved d t
tree_moved d t = record { kind = kind_moved d t; eval = λ mark is s. eval_moved d mark is t s }
