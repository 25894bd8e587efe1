-- A refusal 20 leaves the state that was given, and its entries have that state's scope.
use mathlib.Core.Bool.{Bool, true, false, not, ◌&&◌, or-true, true≢false}
use mathlib.Core.List.{List, [], ◌∷◌, ◌++◌}
use mathlib.Core.Option.{Option, some, none, some-injective, none-ne-some}
use mathlib.Core.Path.{◌≡◌, refl, sym, ap, ◌∙◌, subst}
use Prim.Native.Nat.{ℕ, zero, suc, ◌+◌, ◌*◌, ◌≤◌}
use native.Mathlib.Omega.{arith}
use lib.Dec.{leb, eqb}
use lib.ListN.{length, length-append, get_elem?}
use borrow.Author.Tests.{eq-eqb, ne_eqb, eqb-true}
use Rattle.std.specs.Prelude.{if◌then◌else◌}
use Rattle.rules.specs.Base.{null, contains, minus, write}
use Rattle.rules.specs.Outcome.{Spot, Outcome, ok, refused, fault, panic, ◌>>=◌, at, MissingItem, Refusal, refuse, is_missing, can_catch, wrong_input, combine_with}
use Rattle.rules.specs.Outcome.{args_iter635, remove431, remove433, remove434, short_long125, short_long126, short_long127}
use Rattle.rules.specs.Outcome.{parse_flag559, take_argument679, or_else305, or_else307}
use Rattle.rules.specs.Value.{Base, yes_no, text, number, is_yes, is_text, is_number, BaseValue, Value, base, absent, present as there, nil, cons, list_of}
use Rattle.rules.specs.Tree.{Named, Position, unrestricted, strict, non_strict, Tree, Flag, Argument, Positional, Optional, Many, Some, Count, Last, Choice, Fallback, Guard}
use Rattle.rules.specs.Form.{Form}
use Rattle.rules.specs.Accept.{Accepted, accepted, check_form}
use Rattle.rules.specs.Split.{Item}
use Rattle.rules.specs.State.{State, Found, Picked, field_mark, in_scope, present, unused, get, find_in, find, first, used, remove, with_current, pick_winner}
use Rattle.rules.specs.Take.{took, matches_arg, take_flag, value_text, take_value, take_arg, Operand, is_operand, operand, take_positional_word}
use Rattle.rules.specs.Eval.{Ran, ended, after, ◌then◌, visit, leaf, refuse_missing, shown_name, not_found, flag_value, eval_flag, number_of, parse_text, argument_value, eval_argument}
use Rattle.rules.specs.Eval.{wrong_position, placed_value, positional_value, eval_positional, fewer, swallowed, parse_option, eval_optional, idle, repeat, repeated}
use Rattle.rules.specs.Eval.{eval_many, eval_some, eval_count, last_of, eval_last, side, picks_first, won, value_of, picked, chosen, eval_choice, eval_fallback, guarded, eval_guard, eval}
use Rattle.rules.specs.Run.{run_fields, left_over, run_all}
use Rattle.rules.specs.Demands.{All}
use Rattle.rules.specs.Sound.{leaves, all_leaves}
use Rattle.rules.specs.Missing.{entry, ends_missing, lacking, LookedIn, Lacks, FieldLacks, MissingTold}
use Rattle.rules.proofs.Acceptance.{accepted_form}
use Rattle.rules.proofs.Uses.{leaves_law, leaf_few}
use Rattle.rules.proofs.WellMadeLaws.{node_count_lem, well_made}

-- ---- refusals with entries and without
abbrev Tells : {A : Type 0} → List MissingItem → State → Outcome A → State → Type 0
Tells l s (ok a) left = Unit {0}
Tells l s (refused e) left = Lacks l s left e
Tells l s (fault x) left = Unit {0}

abbrev RanTells : {A : Type 0} → List MissingItem → State → Ran A → Type 0
RanTells l s r = Tells l s r.outcome r.state

-- no refusal is 20
abbrev Never : {A : Type 0} → Outcome A → Type 0
Never (ok a) = Unit {0}
Never (refused e) = (is_missing e ≡ false) × (e.missing ≡ [])
Never (fault x) = Unit {0}

abbrev RanNever : {A : Type 0} → Ran A → Type 0
RanNever r = Never r.outcome

abbrev NoRefusal : {A : Type 0} → Outcome A → Type 0
NoRefusal (ok a) = Unit {0}
NoRefusal (refused e) = ⊥
NoRefusal (fault x) = Unit {0}

no_entries : (l : List MissingItem) (s left : State) (e : Refusal) → is_missing e ≡ false → e.missing ≡ [] → Lacks l s left e
no_entries l s left e h m = record {
  only = λ _. m;
  unchanged = λ t. absurd (true≢false (sym t ∙ h));
  listed = λ t. absurd (true≢false (sym t ∙ h));
}

never_tells : {A : Type 0} (l : List MissingItem) (s left : State) (o : Outcome A) → Never o → Tells l s o left
never_tells l s left (ok a) h = tt
never_tells l s left (refused e) h = no_entries l s left e h.0 h.1
never_tells l s left (fault x) h = tt

plain_never : (k : ℕ) (p : Option ℕ) → (k ≡ 20 → ⊥) → (is_missing (refuse k p) ≡ false) × ((refuse k p).missing ≡ [])
unfolding is_missing
plain_never k p h = (ne_eqb k 20 h, refl)

plain_tells : (l : List MissingItem) (s left : State) (k : ℕ) (p : Option ℕ) → (k ≡ 20 → ⊥) → Lacks l s left (refuse k p)
plain_tells l s left k p h = let x = plain_never k p h in no_entries l s left (refuse k p) x.0 x.1

-- the entry of a leaf alone
abbrev own : ℕ → State → List MissingItem
own n s = entry n s ∷ []

one_missing : (n : ℕ) (s : State) → Lacks (own n s) s s (refuse_missing n s)
unfolding refuse_missing is_missing entry
one_missing n s = record {
  only = λ h. absurd (true≢false (sym (eq-eqb 20 20 refl) ∙ h));
  unchanged = λ _. refl;
  listed = λ _. refl;
}

-- ---- what never refuses
bind_none : {A B : Type 0} (o : Outcome A) (f : A → Outcome B) → NoRefusal o → ((a : A) → NoRefusal (f a)) → NoRefusal (o >>= f)
unfolding ◌>>=◌
bind_none (ok a) f h g = g a
bind_none (refused e) f h g = h
bind_none (fault x) f h g = tt

at_none : {A : Type 0} (spot : Spot) (o : Option A) → NoRefusal (at spot o)
unfolding at
at_none spot none = tt
at_none spot (some a) = tt

find_none : (is : List Item) (test : Item → Bool) (places : List ℕ) → NoRefusal (find_in is test places)
unfolding find_in
find_none is test [] = tt
find_none is test (i ∷ places) =
    bind_none (at args_iter635 (get_elem? is i)) _ (at_none _ _) (λ x. go x (test x) (find_none is test places))
  where
    go :
        (x : Item) (b : Bool)
        → NoRefusal (find_in is test places)
        → NoRefusal (if b then ok (some (record { place = i; item = x })) else find_in is test places)
    go x true h = tt
    go x false h = h

remove_none : (mark : ℕ) (s : State) (i : ℕ) → NoRefusal (remove mark s i)
unfolding remove
remove_none mark s i = go (in_scope s i)
  where
    there_none : (b : Bool) → NoRefusal (if b
        then (at remove433 (minus s.remaining 1) >>= λ left. at remove434 (write s.marks i mark) >>= λ marks. ok (used s i marks left))
        else ok s)
    there_none true = bind_none (at remove433 (minus s.remaining 1)) _ (at_none _ _) (λ left. bind_none (at remove434 (write s.marks i mark)) _ (at_none _ _) (λ marks. tt))
    there_none false = tt

    go : (b : Bool) → NoRefusal (if b
        then (at remove431 (get_elem? s.marks i) >>= λ m. if present m
        then (at remove433 (minus s.remaining 1) >>= λ left. at remove434 (write s.marks i mark) >>= λ marks. ok (used s i marks left))
        else ok s)
        else ok s)
    go true = bind_none (at remove431 (get_elem? s.marks i)) _ (at_none _ _) (λ m. there_none (present m))
    go false = tt

-- ---- leaves
shown_none : (m : Named) → NoRefusal (shown_name m)
unfolding shown_name
shown_none m = go (null m.shorts) (null m.longs)
  where
    go : (a b : Bool) → NoRefusal (if a
        then (if b then ok false else (at short_long125 (get_elem? m.longs 0) >>= λ _. ok true))
        else (if b
        then (at short_long126 (get_elem? m.shorts 0) >>= λ _. ok true)
        else (at short_long127 (get_elem? m.shorts 0) >>= λ _. at short_long127 (get_elem? m.longs 0) >>= λ _. ok true)))
    go true true = tt
    go true false = bind_none (at short_long125 (get_elem? m.longs 0)) _ (at_none _ _) (λ _. tt)
    go false true = bind_none (at short_long126 (get_elem? m.shorts 0)) _ (at_none _ _) (λ _. tt)
    go false false =
        bind_none (at short_long127 (get_elem? m.shorts 0)) _ (at_none _ _) (λ _. bind_none (at short_long127 (get_elem? m.longs 0)) _ (at_none _ _) (λ _. tt))

not_found_tells : (unnamed : Spot) (n : ℕ) (m : Named) (s : State) → Tells (own n s) s (not_found unnamed n m s) s
unfolding not_found ◌>>=◌
not_found_tells unnamed n m s = go (shown_name m) (shown_none m)
  where
    go : (o : Outcome Bool) → NoRefusal o → Tells {A = Value} (own n s) s (o >>= λ shown. if shown then refused (refuse_missing n s) else fault (panic unnamed)) s
    go (ok true) h = one_missing n s
    go (ok false) h = tt
    go (refused e) h = absurd h
    go (fault x) h = tt

parse_never : (b : Base) (i : ℕ) (t : List ℕ) (s : State) → Never (parse_text b i t s)
unfolding parse_text
parse_never yes_no i t s = tt
parse_never text i t s = tt
parse_never number i t s = go (number_of t)
  where
    go : (o : Option ℕ) → Never {A = Value} (elim o [ none ↦ refused (refuse 25 s.current) | some n ↦ ok (base (is_number n)) ])
    go none = plain_never 25 s.current (λ e. omega arith)
    go (some n) = tt

-- `Flag`
flag_used : (n : ℕ) (m : Named) (w : Bool) (s : State) (u : Outcome State) → NoRefusal u → RanTells (own n s) s (leaf s (u >>= λ t. took true t) (flag_value n m w))
unfolding leaf took flag_value ◌>>=◌
flag_used n m w s (ok t) h = tt
flag_used n m w s (refused e) h = absurd h
flag_used n m w s (fault x) h = tt

flag_absent : (n : ℕ) (m : Named) (w : Bool) (s : State) → Tells (own n s) s (flag_value n m w false s) s
unfolding flag_value
flag_absent n m true s = tt
flag_absent n m false s = not_found_tells parse_flag559 n m s

flag_tells : (mark : ℕ) (is : List Item) (n : ℕ) (m : Named) (w : Bool) (s : State) → RanTells (own n s) s (eval_flag mark is n m w s)
unfolding eval_flag take_flag find leaf took ◌>>=◌
flag_tells mark is n m w s = go (find_in is (matches_arg m false) (unused s)) (find_none is (matches_arg m false) (unused s))
  where
    go :
        (o : Outcome (Option Found))
        → NoRefusal o
        → RanTells (own n s) s (leaf s (o >>= λ x. elim x [ none ↦ took false s | some k ↦ remove mark s k.place >>= λ t. took true t ]) (flag_value n m w))
    go (ok none) h = flag_absent n m w s
    go (ok (some k)) h = flag_used n m w s (remove mark s k.place) (remove_none mark s k.place)
    go (refused e) h = absurd h
    go (fault x) h = tt

-- `Argument`
argument_used :
    (mark n : ℕ) (m : Named) (b : Base) (s : State) (key : ℕ) (o : Option (List ℕ))
    → RanTells (own n s) s (leaf s (take_value mark s key o) (argument_value n m b))
unfolding take_value leaf argument_value took ◌>>=◌
argument_used mark n m b s key none = plain_tells (own n s) s s 22 (some key) (λ e. omega arith)
argument_used mark n m b s key (some t) =
    first_used (remove mark (with_current (some (suc key)) s) key) (remove_none mark (with_current (some (suc key)) s) key)
  where
    second_used : (u : Outcome State) → NoRefusal u → RanTells (own n s) s (leaf s (u >>= λ v. took (some (record { place = suc key; text = t })) v) (argument_value n m b))
    second_used (ok v) h = never_tells (own n s) s v (parse_text b (suc key) t v) (parse_never b (suc key) t v)
    second_used (refused e) h = absurd h
    second_used (fault x) h = tt

    first_used :
        (u : Outcome State)
        → NoRefusal u
        → RanTells (own n s) s (leaf s (u >>= λ v. remove mark v (suc key) >>= λ w. took (some (record { place = suc key; text = t })) w) (argument_value n m b))
    first_used (ok v) h = second_used (remove mark v (suc key)) (remove_none mark v (suc key))
    first_used (refused e) h = absurd h
    first_used (fault x) h = tt

argument_tells :
    (mark : ℕ) (is : List Item) (n : ℕ) (m : Named) (b : Base) (a : Bool) (s : State) → RanTells (own n s) s (eval_argument mark is n m b a s)
unfolding eval_argument take_arg find leaf argument_value took ◌>>=◌
argument_tells mark is n m b a s = go (find_in is (matches_arg m a) (unused s)) (find_none is (matches_arg m a) (unused s))
  where
    go :
        (o : Outcome (Option Found))
        → NoRefusal o
        → RanTells (own n s) s (leaf s (o >>= λ x. elim x [ none ↦ took none s | some k ↦ take_value mark s k.place (value_text (get is s (suc k.place))) ]) (argument_value n m b))
    go (ok none) h = not_found_tells take_argument679 n m s
    go (ok (some k)) h = argument_used mark n m b s k.place (value_text (get is s (suc k.place)))
    go (refused e) h = absurd h
    go (fault x) h = tt

-- `Positional`
placed_never : (p : Position) (b : Base) (x : Operand) (s : State) → Never (placed_value p b x s)
unfolding placed_value wrong_position
placed_never unrestricted b x s = parse_never b x.place x.text s
placed_never strict b x s = go x.strict
  where
    go : (w : Bool) → Never {A = Value} (elim (wrong_position strict w) [ none ↦ parse_text b x.place x.text s | some n ↦ refused (refuse n (some x.place)) ])
    go true = parse_never b x.place x.text s
    go false = plain_never 23 (some x.place) (λ e. omega arith)
placed_never non_strict b x s = go x.strict
  where
    go : (w : Bool) → Never {A = Value} (elim (wrong_position non_strict w) [ none ↦ parse_text b x.place x.text s | some n ↦ refused (refuse n (some x.place)) ])
    go true = plain_never 24 (some x.place) (λ e. omega arith)
    go false = parse_never b x.place x.text s

positional_tells : (mark : ℕ) (is : List Item) (n : ℕ) (p : Position) (b : Base) (s : State) → RanTells (own n s) s (eval_positional mark is n p b s)
unfolding eval_positional take_positional_word find leaf positional_value took ◌>>=◌
positional_tells mark is n p b s = go (find_in is is_operand (unused s)) (find_none is is_operand (unused s))
  where
    word_used :
        (k : Found) (u : Outcome State)
        → NoRefusal u
        → RanTells (own n s) s (leaf s (u >>= λ t. took (some (operand k)) t) (positional_value n p b))
    word_used k (ok t) h = never_tells (own n s) s t (placed_value p b (operand k) t) (placed_never p b (operand k) t)
    word_used k (refused e) h = absurd h
    word_used k (fault x) h = tt

    go :
        (o : Outcome (Option Found))
        → NoRefusal o
        → RanTells (own n s) s (leaf s (o >>= λ x. elim x [
          | none ↦ took none s
          | some k ↦ remove mark (with_current (some k.place) s) k.place >>= λ t. took (some (operand k)) t
        ]) (positional_value n p b))
    go (ok none) h = one_missing n s
    go (ok (some k)) h =
        word_used k (remove mark (with_current (some k.place) s) k.place) (remove_none mark (with_current (some k.place) s) k.place)
    go (refused e) h = absurd h
    go (fault x) h = tt

-- ---- optionals and repeats: 20 is swallowed, since it leaves the state that was given
never_then : {A B : Type 0} (r : Ran A) (f : A → State → Ran B) → Never r.outcome → ((a : A) (t : State) → Never (f a t).outcome) → Never (r then f).outcome
unfolding ◌then◌ after ended
never_then {A = A} {B = B} r f h g = go r.outcome h
  where
    go :
        (o : Outcome A)
        → Never o
        → RanNever {A = B} (elim o [ ok v ↦ f v r.state | refused e ↦ ended (refused e) r.state | fault x ↦ ended (fault x) r.state ])
    go (ok a) h = g a r.state
    go (refused e) h = h
    go (fault x) h = tt

swallows_missing : (catch : Bool) (e : Refusal) (s : State) → is_missing e ≡ true → swallowed catch e s s ≡ true
unfolding swallowed
swallows_missing catch e s h = rw (h, eq-eqb s.remaining s.remaining refl, or-true (catch && not (wrong_input e)))

option_never : (ls : List MissingItem) (catch : Bool) (len : Option ℕ) (s : State) (r : Ran Value) → RanTells ls s r → Never (parse_option catch len s r).outcome
unfolding parse_option after ended
option_never ls catch len s r h = go r.outcome h
  where
    refusal : (e : Refusal) → Lacks ls s r.state e → (b : Bool) → swallowed catch e s r.state ≡ b → (m : Bool) → is_missing e ≡ m
        → RanNever {A = Option Value} (if b then ended (ok none) s else ended (refused e) r.state)
    refusal e l true q m k = tt
    refusal e l false q true k =
        absurd (true≢false (sym (swallows_missing catch e s k) ∙ ap (λ (u : State). swallowed catch e s u) (sym (l.unchanged k)) ∙ q))
    refusal e l false q false k = (k, l.only k)

    go :
        (o : Outcome Value)
        → Tells ls s o r.state
        → RanNever {A = Option Value} (elim o [
          | ok v ↦ ended (ok (if fewer r.state.remaining len then some v else none)) r.state
          | refused e ↦ if swallowed catch e s r.state then ended (ok none) s else ended (refused e) r.state
          | fault x ↦ ended (fault x) r.state
        ])
    go (ok v) h = tt
    go (refused e) h = refusal e h (swallowed catch e s r.state) refl (is_missing e) refl
    go (fault x) h = tt

optional_never : (ls : List MissingItem) (catch : Bool) (s : State) (r : Ran Value) → RanTells ls s r → Never (eval_optional catch s r).outcome
unfolding eval_optional ended
optional_never ls catch s r h = never_then (parse_option catch none s r) _ (option_never ls catch none s r h) (λ v t. tt)

-- a run that goes on with a value ends as what it goes on with
record GoesOn {A B : Type 0} (r : Ran A) (f : A → State → Ran B) (b : B) : Type 0 where
  value : A
  was : r.outcome ≡ ok value
  goes : (f value r.state).outcome ≡ ok b
  left : (r then f).state ≡ (f value r.state).state

then_ok : {A B : Type 0} (r : Ran A) (f : A → State → Ran B) (b : B) → (r then f).outcome ≡ ok b → GoesOn r f b
unfolding ◌then◌ after ended
then_ok {A = A} {B = B} r f b e = go r.outcome refl
  where
    go : (o : Outcome A) → r.outcome ≡ o → GoesOn r f b
    go (ok a) q = record { value = a; was = q; goes = rw q at e; left = rw q }
    go (refused x) q = absurd (let bad = rw q at e in let z : ◌≡◌ {A = ℕ} 0 1 = cc in omega arith)
    go (fault x) q = absurd (let bad = rw q at e in let z : ◌≡◌ {A = ℕ} 0 1 = cc in omega arith)

-- where nothing was there, the state is put back
option_none : (catch : Bool) (s : State) (r : Ran Value) → (parse_option catch none s r).outcome ≡ ok none → (parse_option catch none s r).state ≡ s
unfolding parse_option after ended fewer
option_none catch s r e = go r.outcome refl
  where
    swallow : (x : Refusal) → r.outcome ≡ refused x → (b : Bool) → swallowed catch x s r.state ≡ b → (parse_option catch none s r).state ≡ s
    swallow x q true g = rw (q, g)
    swallow x q false g = absurd (let bad = rw (q, g) at e in let z : ◌≡◌ {A = ℕ} 0 1 = cc in omega arith)

    go : (o : Outcome Value) → r.outcome ≡ o → (parse_option catch none s r).state ≡ s
    go (ok v) q = absurd (let bad = rw q at e in let z : ◌≡◌ {A = ℕ} 0 1 = cc in omega arith)
    go (refused x) q = swallow x q (swallowed catch x s r.state) refl
    go (fault x) q = absurd (let bad = rw q at e in let z : ◌≡◌ {A = ℕ} 0 1 = cc in omega arith)

module _ (ls : State → List MissingItem) (catch stops : Bool) (run : State → Ran Value) (h : (s : State) → RanTells (ls s) s (run s)) where
  repeat_never : (fuel : ℕ) (len : Option ℕ) (s : State) → Never (repeat catch stops fuel len run s).outcome
  unfolding repeat ended
  repeat_never zero len s = tt
  repeat_never (suc fuel) len s =
      never_then (parse_option catch len s (run s)) _ (option_never (ls s) catch len s (run s) (h s)) (λ v t. go v t (repeat_never fuel (some t.remaining) t))
    where
      more : (x : Value) (t : State) (b : Bool) → Never (repeat catch stops fuel (some t.remaining) run t).outcome
          → RanNever {A = List Value} (if b
          then ended (ok (x ∷ [])) t
          else (repeat catch stops fuel (some t.remaining) run t then λ xs u. ended (ok (x ∷ xs)) u))
      more x t true g = tt
      more x t false g = never_then (repeat catch stops fuel (some t.remaining) run t) _ g (λ xs u. tt)

      go : (v : Option Value) (t : State) → Never (repeat catch stops fuel (some t.remaining) run t).outcome
          → RanNever {A = List Value} (elim v [
            | none ↦ ended (ok []) t
            | some x ↦ if idle stops s t
                then ended (ok (x ∷ [])) t
                else (repeat catch stops fuel (some t.remaining) run t then λ xs u. ended (ok (x ∷ xs)) u)
          ])
      go none t g = tt
      go (some x) t g = more x t (idle stops s t) g

  repeated_never : (s : State) → Never (repeated catch stops run s).outcome
  unfolding repeated
  repeated_never s = repeat_never (s.remaining + 2) none s

  -- a repeat that counts nothing has put the state back
  module _ (fuel : ℕ) (s : State) where
    next : Option Value → State → Ran (List Value)
    next v t = elim v [
      | none ↦ ended (ok []) t
      | some x ↦ if idle stops s t
          then ended (ok (x ∷ [])) t
          else (repeat catch stops fuel (some t.remaining) run t then λ xs u. ended (ok (x ∷ xs)) u)
    ]

    counts : (x : Value) (t : State) → (next (some x) t).outcome ≡ ok [] → ⊥
    unfolding next ended
    counts x t e = go (idle stops s t) refl
      where
        go : (b : Bool) → idle stops s t ≡ b → ⊥
        go true q = let bad = rw q at e in let z : ◌≡◌ {A = ℕ} 0 1 = cc in omega arith
        go false q =
            let on = then_ok (repeat catch stops fuel (some t.remaining) run t) (λ xs u. ended (ok (x ∷ xs)) u) [] (rw q at e) in
            let bad = on.goes in
            let z : ◌≡◌ {A = ℕ} 0 1 = cc in omega arith

  none_counted : (fuel : ℕ) (s : State) → (repeat catch stops fuel none run s).outcome ≡ ok [] → (repeat catch stops fuel none run s).state ≡ s
  unfolding repeat next ended
  none_counted zero s e = absurd (let z : ◌≡◌ {A = ℕ} 0 1 = cc in omega arith)
  none_counted (suc fuel) s e =
      let on = then_ok (parse_option catch none s (run s)) (next fuel s) [] e in
      on.left ∙ go on.value on.was on.goes
    where
      go :
          (v : Option Value)
          → (parse_option catch none s (run s)).outcome ≡ ok v
          → (next fuel s v (parse_option catch none s (run s)).state).outcome ≡ ok []
          → (next fuel s v (parse_option catch none s (run s)).state).state ≡ s
      go none q e = option_none catch s (run s) q
      go (some x) q e = absurd (counts fuel s x (parse_option catch none s (run s)).state e)

-- `last` with no value: its child once more, on the state that was given
last_none : (vs : List Value) → last_of vs ≡ none → vs ≡ []
unfolding last_of
last_none [] e = refl
last_none (v ∷ vs) e = absurd (go (last_of vs) refl)
  where
    go : (o : Option Value) → last_of vs ≡ o → ⊥
    go none q = let bad = rw q at e in let z : ◌≡◌ {A = ℕ} 0 1 = cc in omega arith
    go (some w) q = let bad = rw q at e in let z : ◌≡◌ {A = ℕ} 0 1 = cc in omega arith

last_tells : (ls : State → List MissingItem) (run : State → Ran Value) → ((s : State) → RanTells (ls s) s (run s)) → (s : State) → RanTells (ls s) s (eval_last run s)
unfolding eval_last ◌then◌ after ended repeated
last_tells ls run h s = go (repeated false true run s).outcome refl (repeated_never ls false true run h s)
  where
    last_value_lem : (vs : List Value) → (repeated false true run s).outcome ≡ ok vs → (o : Option Value) → last_of vs ≡ o
        → RanTells {A = Value} (ls s) s (elim o [ none ↦ run (repeated false true run s).state | some v ↦ ended (ok v) (repeated false true run s).state ])
    last_value_lem vs q none e =
        let back : (repeated false true run s).state ≡ s = none_counted ls false true run h (s.remaining + 2) s (q ∙ ap ok (last_none vs e)) in
        rw back (h s)
    last_value_lem vs q (some v) e = tt

    go :
        (o : Outcome (List Value))
        → (repeated false true run s).outcome ≡ o
        → Never o
        → RanTells {A = Value} (ls s) s (elim o [
          | ok vs ↦ elim (last_of vs) [ none ↦ run (repeated false true run s).state | some v ↦ ended (ok v) (repeated false true run s).state ]
          | refused e ↦ ended (refused e) (repeated false true run s).state
          | fault x ↦ ended (fault x) (repeated false true run s).state
        ])
    go (ok vs) q k = last_value_lem vs q (last_of vs) refl
    go (refused e) q k = no_entries (ls s) s (repeated false true run s).state e k.0 k.1
    go (fault x) q k = tt

-- ---- choice, fallback, guard
-- on the state that was given
lacks_here : (l : List MissingItem) (s left : State) (e : Refusal) → Lacks l s left e → Lacks l s s e
lacks_here l s left e h = record { only = h.only; unchanged = λ _. refl; listed = h.listed }

-- a refusal for wrong input is not 20
wrong_not_missing : (e : Refusal) → wrong_input e ≡ true → is_missing e ≡ false
unfolding wrong_input is_missing contains
wrong_not_missing e h = go (eqb e.number 20) refl
  where
    go : (b : Bool) → eqb e.number 20 ≡ b → b ≡ false
    go true q = absurd (let same = eqb-true e.number 20 q in let bad = rw same at h in true≢false (sym bad))
    go false q = refl

twenty : (l : List MissingItem) → is_missing (record { number = 20; place = none; missing = l }) ≡ true
unfolding is_missing
twenty l = eq-eqb 20 20 refl

module _ (l m : List MissingItem) (s : State) where
  -- the entries of a choice, by whether its first side ended in 20
  abbrev both : Bool → List MissingItem
  both p = (if p then l else []) ++ m

  combine_lacks :
      (a b : State) (e d : Refusal) → Lacks l s a e → Lacks m s b d → (p q c : Bool) → is_missing e ≡ p → is_missing d ≡ q
      → can_catch e ≡ c
      → Lacks (both p) s s (combine_with e d)
  unfolding combine_with
  combine_lacks a b e d le ld true true c x y z = rw (x, y) (record {
    only = λ h. absurd (true≢false (sym (twenty (e.missing ++ d.missing)) ∙ h));
    unchanged = λ _. refl;
    listed = λ _. rw (le.listed x, ld.listed y);
  })
  combine_lacks a b e d le ld true false c x y z = rw (x, y) (no_entries (both true) s s d y (ld.only y))
  combine_lacks a b e d le ld false q true x y z = rw (x, z) (lacks_here m s b d ld)
  combine_lacks a b e d le ld false q false x y z = rw (x, z) (no_entries (both false) s s e x (le.only x))

picked_tells : (l : List MissingItem) (s : State) (a b : Ran Value) (p : Picked) → RanTells l s (picked a b p)
unfolding picked ended at
picked_tells l s a b p = go p.first (value_of a.outcome) (value_of b.outcome)
  where
    go :
        (f : Bool) (x y : Option Value)
        → RanTells l s (if f
        then ended (at or_else305 x) (won a.state b.state p.place)
        else ended (at or_else307 y) (won b.state a.state p.place))
    go true none y = tt
    go true (some v) y = tt
    go false x none = tt
    go false x (some v) = tt

module _ (l m : List MissingItem) (s : State) (a b : Ran Value) where
  abbrev ends : Outcome Picked → Ran Value
  ends o = elim o [ ok p ↦ picked a b p | refused e ↦ ended (refused e) s | fault x ↦ ended (fault x) s ]

  -- one side succeeded, and the other's refusal wins if it is for wrong input
  one_side :
      (f : Bool) (e : Refusal) (k : List MissingItem) (left : State)
      → Lacks k s left e
      → (used wrong : Bool)
      → wrong_input e ≡ wrong
      → (ls : List MissingItem)
      → RanTells ls s (ends (if used && wrong then refused e else side f none))
  unfolding ended side
  one_side f e k left h true true q ls =
      let x = wrong_not_missing e q in no_entries ls s s e x (h.only x)
  one_side f e k left h true false q ls = picked_tells ls s a b (record { first = f; place = none })
  one_side f e k left h false w q ls = picked_tells ls s a b (record { first = f; place = none })

  both_sides : (ls : List MissingItem) (c : Bool) (p : Picked) → RanTells ls s (ends (if c then side true none else ok p))
  unfolding ended side
  both_sides ls true p = picked_tells ls s a b (record { first = true; place = none })
  both_sides ls false p = picked_tells ls s a b p

  sides :
      (o u : Outcome Value)
      → Tells l s o a.state
      → Tells m s u b.state
      → RanTells (both l m s (ends_missing o)) s (ends (picks_first s a.state b.state o u))
  unfolding picks_first ended ends_missing
  sides (ok v) (ok w) h g =
      both_sides (both l m s false) (eqb s.remaining a.state.remaining && eqb s.remaining b.state.remaining) (pick_winner a.state b.state)
  sides (ok v) (refused e) h g =
      one_side true e m b.state g (eqb s.remaining a.state.remaining) (wrong_input e) refl (both l m s false)
  sides (refused e) (ok w) h g =
      one_side false e l a.state h (eqb s.remaining b.state.remaining) (wrong_input e) refl (both l m s (is_missing e))
  sides (refused e) (refused d) h g =
      combine_lacks l m s a.state b.state e d h g (is_missing e) (is_missing d) (can_catch e) refl refl refl
  sides (fault x) u h g = tt
  sides (ok v) (fault x) h g = tt
  sides (refused e) (fault x) h g = tt

  choice_tells : RanTells l s a → RanTells m s b → RanTells (both l m s (ends_missing a.outcome)) s (eval_choice s a b)
  unfolding eval_choice after chosen
  choice_tells h g = sides a.outcome b.outcome h g

catches_missing : (e : Refusal) → can_catch e ≡ false → is_missing e ≡ false
unfolding can_catch is_missing contains
catches_missing e h = go (eqb e.number 20) refl
  where
    go : (b : Bool) → eqb e.number 20 ≡ b → b ≡ false
    go true q = absurd (let same = eqb-true e.number 20 q in let bad = rw same at h in true≢false bad)
    go false q = refl

fallback_never : (ls : List MissingItem) (v : BaseValue) (s : State) (r : Ran Value) → RanTells ls s r → Never (eval_fallback v s r).outcome
unfolding eval_fallback after ended
fallback_never ls v s r h = go r.outcome h
  where
    caught : (e : Refusal) → Lacks ls s r.state e → (c : Bool) → can_catch e ≡ c → Never {A = Value} (if c then ok (base v) else refused e)
    caught e l true q = tt
    caught e l false q = let x = catches_missing e q in (x, l.only x)

    go :
        (o : Outcome Value)
        → Tells ls s o r.state
        → RanNever {A = Value} (elim o [
          | ok w ↦ ended (ok w) r.state
          | refused e ↦ ended (if can_catch e then ok (base v) else refused e) s
          | fault x ↦ ended (fault x) s
        ])
    go (ok w) h = tt
    go (refused e) h = caught e h (can_catch e) refl
    go (fault x) h = tt

guarded_never : (lo hi : ℕ) (v : Value) (s : State) → Never (guarded lo hi v s)
unfolding guarded
guarded_never lo hi (base (is_yes b)) s = tt
guarded_never lo hi (base (is_text t)) s = tt
guarded_never lo hi (base (is_number n)) s = go (leb lo n && leb n hi)
  where
    go : (b : Bool) → Never {A = Value} (if b then ok (base (is_number n)) else refused (refuse 26 s.current))
    go true = tt
    go false = plain_never 26 s.current (λ e. omega arith)
guarded_never lo hi absent s = tt
guarded_never lo hi (there v) s = tt
guarded_never lo hi nil s = tt
guarded_never lo hi (cons v w) s = tt

guard_tells : (ls : List MissingItem) (lo hi : ℕ) (s : State) (r : Ran Value) → RanTells ls s r → RanTells ls s (eval_guard lo hi r)
unfolding eval_guard ◌then◌ after ended
guard_tells ls lo hi s r h = go r.outcome h
  where
    go :
        (o : Outcome Value)
        → Tells ls s o r.state
        → RanTells {A = Value} ls s (elim o [
          | ok v ↦ ended (guarded lo hi v r.state) r.state
          | refused e ↦ ended (refused e) r.state
          | fault x ↦ ended (fault x) r.state
        ])
    go (ok v) h = never_tells ls s r.state (guarded lo hi v r.state) (guarded_never lo hi v r.state)
    go (refused e) h = h
    go (fault x) h = tt

-- ---- every node
some_never : (ls : State → List MissingItem) (catch : Bool) (run : State → Ran Value) → ((s : State) → RanTells (ls s) s (run s)) → (s : State) → Never (eval_some catch run s).outcome
unfolding eval_some ended
some_never ls catch run h s = never_then (repeated catch false run s) _ (repeated_never ls catch false run h s) (λ vs t. go vs (null vs))
  where
    go : (vs : List Value) (b : Bool) → Never {A = Value} (if b then refused (refuse 21 none) else ok (list_of vs))
    go vs true = plain_never 21 none (λ e. omega arith)
    go vs false = tt

eval_tells : (mark : ℕ) (is : List Item) (t : Tree) (s : State) → RanTells (lacking mark is t s) s (eval mark is t s)
unfolding eval visit lacking eval_many eval_count ended
eval_tells k is (Flag n m w) s = flag_tells k is n m w s
eval_tells k is (Argument n m b a) s = argument_tells k is n m b a s
eval_tells k is (Positional n p b) s = positional_tells k is n p b s
eval_tells k is (Optional c t) s =
    never_tells [] s _ (eval_optional c s (eval k is t s)).outcome (optional_never (lacking k is t s) c s (eval k is t s) (eval_tells k is t s))
eval_tells k is (Many c t) s =
    never_tells [] s _ (eval_many c (eval k is t) s).outcome
    (never_then (repeated c false (eval k is t) s) _ (repeated_never (lacking k is t) c false (eval k is t) (λ u. eval_tells k is t u) s) (λ vs u. tt))
eval_tells k is (Some c t) s =
    never_tells [] s _ (eval_some c (eval k is t) s).outcome (some_never (lacking k is t) c (eval k is t) (λ u. eval_tells k is t u) s)
eval_tells k is (Count t) s =
    never_tells [] s _ (eval_count (eval k is t) s).outcome
    (never_then (repeated false true (eval k is t) s) _ (repeated_never (lacking k is t) false true (eval k is t) (λ u. eval_tells k is t u) s) (λ vs u. tt))
eval_tells k is (Last t) s = last_tells (lacking k is t) (eval k is t) (λ u. eval_tells k is t u) s
eval_tells k is (Choice t u) s =
    choice_tells (lacking k is t s) (lacking k is u s) s (eval k is t s) (eval k is u s) (eval_tells k is t s) (eval_tells k is u s)
eval_tells k is (Fallback v t) s =
    never_tells [] s _ (eval_fallback v s (eval k is t s)).outcome (fallback_never (lacking k is t s) v s (eval k is t s) (eval_tells k is t s))
eval_tells k is (Guard lo hi t) s = guard_tells (lacking k is t s) lo hi s (eval k is t s) (eval_tells k is t s)

-- ---- the scopes of the entries, and how many they are
all_append : {A : Type 0} (P : A → Type 0) (l m : List A) → All P l → All P m → All P (l ++ m)
all_append P [] m h g = g
all_append P (x ∷ l) m h g = (h.0, all_append P l m h.1 g)

kept_scopes : (s : State) (b : Bool) (l : List MissingItem) → All (LookedIn s) l → All (LookedIn s) (if b then l else [])
kept_scopes s true l h = h
kept_scopes s false l h = tt

lacking_scopes : (mark : ℕ) (is : List Item) (t : Tree) (s : State) → All (LookedIn s) (lacking mark is t s)
unfolding lacking entry
lacking_scopes k is (Flag n m w) s = ((refl, refl), tt)
lacking_scopes k is (Argument n m b a) s = ((refl, refl), tt)
lacking_scopes k is (Positional n p b) s = ((refl, refl), tt)
lacking_scopes k is (Optional c t) s = tt
lacking_scopes k is (Many c t) s = tt
lacking_scopes k is (Some c t) s = tt
lacking_scopes k is (Count t) s = tt
lacking_scopes k is (Last t) s = lacking_scopes k is t s
lacking_scopes k is (Choice t u) s =
    let missing = ends_missing (eval k is t s).outcome in
    all_append (LookedIn s) (if missing then lacking k is t s else []) (lacking k is u s)
    (kept_scopes s missing (lacking k is t s) (lacking_scopes k is t s))
    (lacking_scopes k is u s)
lacking_scopes k is (Fallback v t) s = tt
lacking_scopes k is (Guard lo hi t) s = lacking_scopes k is t s

kept_few : (b : Bool) (l : List MissingItem) → length (if b then l else []) ≤ length l
kept_few true l = omega arith
kept_few false l = omega arith

lacking_few : (mark : ℕ) (is : List Item) (t : Tree) (s : State) → length (lacking mark is t s) ≤ leaves t
unfolding lacking leaves
lacking_few k is (Flag n m w) s = omega arith
lacking_few k is (Argument n m b a) s = omega arith
lacking_few k is (Positional n p b) s = omega arith
lacking_few k is (Optional c t) s = omega arith
lacking_few k is (Many c t) s = omega arith
lacking_few k is (Some c t) s = omega arith
lacking_few k is (Count t) s = omega arith
lacking_few k is (Last t) s = lacking_few k is t s
lacking_few k is (Choice t u) s =
    let first = if ends_missing (eval k is t s).outcome then lacking k is t s else [] in
    let both = length-append first (lacking k is u s) in
    let one = kept_few (ends_missing (eval k is t s).outcome) (lacking k is t s) in
    omega (arith, lacking_few k is t s, lacking_few k is u s)
lacking_few k is (Fallback v t) s = omega arith
lacking_few k is (Guard lo hi t) s = lacking_few k is t s

-- ---- the fields of a form
-- a run that goes on and is refused: at once, or by what it goes on with
data Refuses {A B : Type 0} (r : Ran A) (f : A → State → Ran B) (e : Refusal) : Type 0 where
  at_once : r.outcome ≡ refused e → (r then f).state ≡ r.state → Refuses r f e
  going_on : (a : A) → (f a r.state).outcome ≡ refused e → (r then f).state ≡ (f a r.state).state → Refuses r f e

then_refused : {A B : Type 0} (r : Ran A) (f : A → State → Ran B) (e : Refusal) → (r then f).outcome ≡ refused e → Refuses r f e
unfolding ◌then◌ after ended
then_refused {A = A} r f e q = go r.outcome refl
  where
    go : (o : Outcome A) → r.outcome ≡ o → Refuses r f e
    go (ok a) k = going_on a (rw k at q) (rw k)
    go (refused x) k = let same : x ≡ e = let bad = rw k at q in cc in at_once (k ∙ ap refused same) (rw k)
    go (fault x) k = absurd (let bad = rw k at q in let z : ◌≡◌ {A = ℕ} 0 1 = cc in omega arith)

-- one field before them
later_field :
    (k : ℕ) (is : List Item) (t : Tree) (ts : List Tree) (left : State) (e : Refusal)
    → FieldLacks (suc k) is ts left e
    → FieldLacks k is (t ∷ ts) left e
later_field k is t ts left e f = record {
  only = f.only;
  listed = λ h.
      let x = f.listed h in
      let next : suc k + x.field ≡ k + suc x.field = omega arith in
      record {
        field = suc x.field;
        tree = x.tree;
        here = x.here;
        same = x.same ∙ ap (λ (n : ℕ). lacking (field_mark n) is x.tree left) next;
      };
}

tree_lacks :
    (mark : ℕ) (is : List Item) (t : Tree) (s : State) (e : Refusal)
    → (eval mark is t s).outcome ≡ refused e
    → Lacks (lacking mark is t s) s (eval mark is t s).state e
tree_lacks mark is t s e q =
    subst (λ (o : Outcome Value). Tells (lacking mark is t s) s o (eval mark is t s).state) q (eval_tells mark is t s)

field_lacks :
    (k : ℕ) (is : List Item) (t : Tree) (ts : List Tree) (s : State) (e : Refusal)
    → (eval (field_mark k) is t s).outcome ≡ refused e
    → FieldLacks k is (t ∷ ts) (eval (field_mark k) is t s).state e
field_lacks k is t ts s e q =
    let law = tree_lacks (field_mark k) is t s e q in
    let here : k ≡ k + 0 = omega arith in
    let left = (eval (field_mark k) is t s).state in
    record {
      only = law.only;
      listed = λ h. record {
        field = 0;
        tree = t;
        here = refl;
        same =
            law.listed h ∙ ap (lacking (field_mark k) is t) (sym (law.unchanged h))
            ∙ ap (λ (n : ℕ). lacking (field_mark n) is t left) here;
      };
    }

module _ (k : ℕ) (is : List Item) (t : Tree) (ts : List Tree) where
  abbrev rest : Value → State → Ran (List Value)
  rest v u = run_fields (suc k) is ts u then λ vs w. ended (ok (v ∷ vs)) w

  module _ (h : (u : State) (e : Refusal) → (run_fields (suc k) is ts u).outcome ≡ refused e → FieldLacks (suc k) is ts (run_fields (suc k) is ts u).state e) where
    rest_lacks : (v : Value) (u : State) (e : Refusal) → (rest v u).outcome ≡ refused e → FieldLacks k is (t ∷ ts) (rest v u).state e
    unfolding ended
    rest_lacks v u e q = go (then_refused (run_fields (suc k) is ts u) (λ vs w. ended (ok (v ∷ vs)) w) e q)
      where
        go : Refuses (run_fields (suc k) is ts u) (λ vs w. ended (ok (v ∷ vs)) w) e → FieldLacks k is (t ∷ ts) (rest v u).state e
        go (at_once w l) = rw l (later_field k is t ts (run_fields (suc k) is ts u).state e (h u e w))
        go (going_on vs w l) = absurd (let z : ◌≡◌ {A = ℕ} 0 1 = cc in omega arith)

    first_lacks :
        (s : State) (e : Refusal)
        → (eval (field_mark k) is t s then rest).outcome ≡ refused e
        → FieldLacks k is (t ∷ ts) (eval (field_mark k) is t s then rest).state e
    first_lacks s e q = go (then_refused (eval (field_mark k) is t s) rest e q)
      where
        go : Refuses (eval (field_mark k) is t s) rest e → FieldLacks k is (t ∷ ts) (eval (field_mark k) is t s then rest).state e
        go (at_once w l) = rw l (field_lacks k is t ts s e w)
        go (going_on v w l) = rw l (rest_lacks v (eval (field_mark k) is t s).state e w)

fields_lack :
    (k : ℕ) (is : List Item) (ts : List Tree) (s : State) (e : Refusal)
    → (run_fields k is ts s).outcome ≡ refused e
    → FieldLacks k is ts (run_fields k is ts s).state e
unfolding run_fields ended
fields_lack k is [] s e q = absurd (let z : ◌≡◌ {A = ℕ} 0 1 = cc in omega arith)
fields_lack k is (t ∷ ts) s e q = first_lacks k is t ts (λ u d h. fields_lack (suc k) is ts u d h) s e q

-- 27 has no entries
left_never : (vs : List Value) (o : Outcome (Option Found)) → NoRefusal o → Never (o >>= left_over vs)
unfolding left_over ◌>>=◌
left_never vs (ok none) h = tt
left_never vs (ok (some x)) h = plain_never 27 (some x.place) (λ e. omega arith)
left_never vs (refused e) h = absurd h
left_never vs (fault x) h = tt

run_lacks :
    (k : ℕ) (is : List Item) (ts : List Tree) (s : State) (e : Refusal)
    → (run_all k is ts s).outcome ≡ refused e
    → FieldLacks k is ts (run_all k is ts s).state e
unfolding run_all first find ended
run_lacks k is ts s e q = go (then_refused (run_fields k is ts s) (λ vs t. ended (first is t >>= left_over vs) t) e q)
  where
    go :
        Refuses (run_fields k is ts s) (λ vs t. ended (first is t >>= left_over vs) t) e
        → FieldLacks k is ts (run_fields k is ts s then λ vs t. ended (first is t >>= left_over vs) t).state e
    go (at_once w l) = rw l (fields_lack k is ts s e w)
    go (going_on vs w l) = rw l (over vs (run_fields k is ts s).state w)
      where
        over :
            (vs : List Value) (t : State)
            → (ended (first is t >>= left_over vs) t).outcome ≡ refused e
            → FieldLacks k is ts (ended (first is t >>= left_over vs) t).state e
        over vs t w =
            let n = left_never vs (first is t) (find_none is (λ _. true) (unused t)) in
            let none : Never {A = List Value} (refused e) = subst (λ (o : Outcome (List Value)). Never o) w n in
            record { only = λ _. none.1; listed = λ h. absurd (true≢false (sym h ∙ none.0)) }

-- an accepted form has 64 nodes at most
accepted_few : (b : List ℕ) (a : Accepted) → check_form b ≡ accepted a → all_leaves a.fields ≤ 64
accepted_few b a e =
    let law = leaves_law b a e in
    let few = leaf_few a.form.nodes in
    let nodes = ap (λ (f : Form). length f.nodes) (accepted_form b a e) ∙ node_count_lem b in
    let most = (well_made b a e).counts.nodes.1 in
    omega arith

pub leaves_within : (ts : List Tree) (k : ℕ) (t : Tree) → get_elem? ts k ≡ some t → leaves t ≤ all_leaves ts
unfolding all_leaves
leaves_within [] k t e = absurd (none-ne-some t e)
leaves_within (u ∷ ts) zero t e = let h = ap leaves (some-injective u t e) in omega arith
leaves_within (u ∷ ts) (suc k) t e = let h = leaves_within ts k t e in omega arith

list_fits :
    (b : List ℕ) (a : Accepted)
    → check_form b ≡ accepted a
    → (k : ℕ) (is : List Item) (s : State) (e : Refusal)
    → (run_all k is a.fields s).outcome ≡ refused e
    → 3 * length e.missing ≤ 192
list_fits b a h k is s e q = go (is_missing e) refl (run_lacks k is a.fields s e q)
  where
    go : (b : Bool) → is_missing e ≡ b → FieldLacks k is a.fields (run_all k is a.fields s).state e → 3 * length e.missing ≤ 192
    go true x f =
        let y = f.listed x in
        let same = ap length y.same in
        let few = lacking_few (field_mark (k + y.field)) is y.tree (run_all k is a.fields s).state in
        let within = leaves_within a.fields y.field y.tree y.here in
        let all = accepted_few b a h in
        omega arith
    go false x f = let same = ap length (f.only x) in omega arith

pub missing_told : MissingTold
missing_told = record { lacks = tree_lacks; scopes = lacking_scopes; few = lacking_few; run = run_lacks; fits = list_fits }
