-- `eval` of every kind of node.
use Rattle.std.specs.Prelude.{Bool, true, false, not, ◌&&◌, ◌||◌, List, [], ◌∷◌, ◌++◌, ℕ, zero, suc, ◌+◌, ◌-◌, ◌*◌, leb, eqb, ltb, length}
use Rattle.std.proofs.Math.Option.{Option, some, none}
use Rattle.std.proofs.Math.ListN.{get_elem?}
use Rattle.std.specs.Prelude.{if◌then◌else◌}
use Rattle.rules.specs.Base.{null, all}
use Rattle.rules.specs.Outcome.{Spot, Outcome, ok, refused, fault, panic, wrong_kind, endless, ◌>>=◌, at, Refusal, refuse, is_missing, can_catch, wrong_input, combine_with}
use Rattle.rules.specs.Outcome.{short_long125, short_long126, short_long127, parse_flag559, take_argument679, or_else305, or_else307}
use Rattle.rules.specs.Value.{Base, yes_no, text, number, Kind, item, BaseValue, is_yes, is_text, is_number, Value, base, absent, present, nil, cons, list_of}
use Rattle.rules.specs.Tree.{Named, Position, unrestricted, strict, non_strict, Tree, Flag, Argument, Positional, Optional, Many, Some, Count, Last, Choice, Fallback, Guard, kind_of}
use Rattle.rules.specs.Split.{Item}
use Rattle.rules.specs.State.{State, Picked, pick_winner, save_conflicts}
use Rattle.rules.specs.Take.{Took, Taken, Operand, take_flag, take_arg, take_positional_word}

-- one evaluation of a node: the kind worked out for it, the state it was given, how it ended and the state it left
pub record Visit : Type 0 where
  pub kind : Option Kind
  pub given : State
  pub outcome : Outcome Value
  pub left : State

-- How a run ended, the state it left, the tries it made, the evaluations it passed through
pub record Ran (A : Type 0) : Type 0 where
  pub outcome : Outcome A
  pub state : State
  pub tries : ℕ
  pub trace : List Visit

unfoldable pub ended : {A : Type 0} → Outcome A → State → Ran A
ended o s = record { outcome = o; state = s; tries = 0; trace = [] }

-- what came before a run is added to it
unfoldable pub after : {A B : Type 0} → Ran A → Ran B → Ran B
after r q = record { outcome = q.outcome; state = q.state; tries = r.tries + q.tries; trace = r.trace ++ q.trace }

infixl 20 ◌then◌
-- a value is handed on with the state; a refusal or a fault ends the run
unfoldable pub ◌then◌ : {A B : Type 0} → Ran A → (A → State → Ran B) → Ran B
r then f =
    after r (elim r.outcome [
      | ok v ↦ f v r.state
      | refused e ↦ ended (refused e) r.state
      | fault x ↦ ended (fault x) r.state
    ])

-- ---- every evaluation of every node is kept in the trace
unfoldable pub visit : Tree → State → Ran Value → Ran Value
visit t s r = record {
  outcome = r.outcome;
  state = r.state;
  tries = r.tries;
  trace = r.trace ++ (record { kind = kind_of t; given = s; outcome = r.outcome; left = r.state } ∷ []);
}

-- the states passed through: those any node is given or leaves
unfoldable pub states_of : List Visit → List State
states_of [] = []
states_of (v ∷ vs) = v.given ∷ v.left ∷ states_of vs

-- ---- kinds 1 to 3: what a take gives, and what follows from its answer in the state it left. A try is one evaluation
unfoldable pub leaf : {A : Type 0} → State → Outcome (Took A) → (A → State → Outcome Value) → Ran Value
leaf s o follows = elim o [
  | ok t ↦ record { outcome = follows t.answer t.state; state = t.state; tries = 1; trace = [] }
  | refused e ↦ record { outcome = refused e; state = s; tries = 1; trace = [] }
  | fault x ↦ record { outcome = fault x; state = s; tries = 1; trace = [] }
]

-- 20 Missing, by the node that looked in vain and its scope
unfoldable pub refuse_missing : ℕ → State → Refusal
refuse_missing n s = record { number = 20; place = none; missing = record { node = n; start = s.start; end = s.end } ∷ [] }

-- `ShortLong::try_from`: whether there is a name to show. A lookup that follows the test for an empty list cannot fail
unfoldable pub shown_name : Named → Outcome Bool
shown_name m =
    if null m.shorts
    then (if null m.longs then ok false else (at short_long125 (get_elem? m.longs 0) >>= λ _. ok true))
    else (if null m.longs
    then (at short_long126 (get_elem? m.shorts 0) >>= λ _. ok true)
    else (at short_long127 (get_elem? m.shorts 0) >>= λ _. at short_long127 (get_elem? m.longs 0) >>= λ _. ok true))

-- no item has its names: 20; a leaf that has no name to show stops at the given spot
unfoldable pub not_found : Spot → ℕ → Named → State → Outcome Value
not_found unnamed n m s = shown_name m >>= λ shown. if shown then refused (refuse_missing n s) else fault (panic unnamed)

-- a required flag's value is yes; a switch that is missing is no
unfoldable pub flag_value : ℕ → Named → Bool → Bool → State → Outcome Value
flag_value n m switch there s =
    if there
    then ok (base (is_yes true))
    else (if switch then ok (base (is_yes false)) else not_found parse_flag559 n m s)

unfoldable pub eval_flag : ℕ → List Item → ℕ → Named → Bool → State → Ran Value
eval_flag mark items n m switch s = leaf s (take_flag mark items m s) (flag_value n m switch)

-- Number: one optional `+`, then one or more digits, at most 4,294,967,295
unfoldable pub is_digit : ℕ → Bool
is_digit b = leb 48 b && leb b 57

unfoldable pub digits : ℕ → List ℕ → ℕ
digits n [] = n
digits n (b ∷ s) = digits (n * 10 + (b - 48)) s

unfoldable pub unsigned : List ℕ → Option ℕ
unsigned s =
    if not (null s) && all is_digit s && leb (digits 0 s) 4294967295 then some (digits 0 s) else none

unfoldable pub number_of : List ℕ → Option ℕ
number_of [] = none
number_of (b ∷ s) = if eqb b 43 then unsigned s else unsigned (b ∷ s)

-- `parse_os_str`: a text stands at its place; a number, or 25 at `current`. No yes/no is read from a text
unfoldable pub parse_text : Base → ℕ → List ℕ → State → Outcome Value
parse_text yes_no i t s = fault wrong_kind
parse_text text i t s = ok (base (is_text (item i)))
parse_text number i t s = elim (number_of t) [ none ↦ refused (refuse 25 s.current) | some n ↦ ok (base (is_number n)) ]

unfoldable pub argument_value : ℕ → Named → Base → Option Taken → State → Outcome Value
argument_value n m b none s = not_found take_argument679 n m s
argument_value n m b (some x) s = parse_text b x.place x.text s

unfoldable pub eval_argument : ℕ → List Item → ℕ → Named → Base → Bool → State → Ran Value
eval_argument mark items n m b adjacent s = leaf s (take_arg mark items m adjacent s) (argument_value n m b)

-- 23 StrictPos, 24 NonStrictPos: the word, which remains used
unfoldable pub wrong_position : Position → Bool → Option ℕ
wrong_position unrestricted strict_word = none
wrong_position strict strict_word = if strict_word then none else some 23
wrong_position non_strict strict_word = if strict_word then some 24 else none

unfoldable pub placed_value : Position → Base → Operand → State → Outcome Value
placed_value p b x s = elim (wrong_position p x.strict) [
  | none ↦ parse_text b x.place x.text s
  | some n ↦ refused (refuse n (some x.place))
]

unfoldable pub positional_value : ℕ → Position → Base → Option Operand → State → Outcome Value
positional_value n p b none s = refused (refuse_missing n s)
positional_value n p b (some x) s = placed_value p b x s

unfoldable pub eval_positional : ℕ → List Item → ℕ → Position → Base → State → Ran Value
eval_positional mark items n p b s = leaf s (take_positional_word mark items s) (positional_value n p b)

-- ---- `parse_option`
-- fewer places remain than after the last counted success; none is before the first
unfoldable pub fewer : ℕ → Option ℕ → Bool
fewer left none = true
fewer left (some n) = ltb left n

-- A refusal becomes "absent" if catch is set and it isn't 22, 23 or 24; or it is 20 and nothing was used; or it is 21 or 24
unfoldable pub swallowed : Bool → Refusal → State → State → Bool
swallowed catch e given left =
    (catch && not (wrong_input e))
    || (if is_missing e then eqb given.remaining left.remaining else can_catch e)

unfoldable pub parse_option : Bool → Option ℕ → State → Ran Value → Ran (Option Value)
parse_option catch len s r = after r (elim r.outcome [
  | ok v ↦ ended (ok (if fewer r.state.remaining len then some v else none)) r.state
  | refused e ↦ if swallowed catch e s r.state then ended (ok none) s else ended (refused e) r.state
  | fault x ↦ ended (fault x) r.state
])

unfoldable pub eval_optional : Bool → State → Ran Value → Ran Value
eval_optional catch s r =
    parse_option catch none s r then λ v t. ended (ok (elim v [ none ↦ absent | some x ↦ present x ])) t

-- ---- repeats: a loop over `parse_option`
-- `count` and `last` also stop after a success that used nothing
unfoldable pub idle : Bool → State → State → Bool
idle stops given left = stops && eqb given.remaining left.remaining

unfoldable pub repeat : Bool → Bool → ℕ → Option ℕ → (State → Ran Value) → State → Ran (List Value)
repeat catch stops zero len run s = ended (fault endless) s
repeat catch stops (suc fuel) len run s =
    parse_option catch len s (run s) then λ v t. elim v [
      | none ↦ ended (ok []) t
      | some x ↦ if idle stops s t
          then ended (ok (x ∷ [])) t
          else (repeat catch stops fuel (some t.remaining) run t then λ xs u. ended (ok (x ∷ xs)) u)
    ]

-- at most one success more than places remain, and the evaluation that ends it
unfoldable pub repeated : Bool → Bool → (State → Ran Value) → State → Ran (List Value)
repeated catch stops run s = repeat catch stops (s.remaining + 2) none run s

unfoldable pub eval_many : Bool → (State → Ran Value) → State → Ran Value
eval_many catch run s = repeated catch false run s then λ vs t. ended (ok (list_of vs)) t

-- 21 ParseSome
unfoldable pub eval_some : Bool → (State → Ran Value) → State → Ran Value
eval_some catch run s =
    repeated catch false run s then λ vs t. ended (if null vs then refused (refuse 21 none) else ok (list_of vs)) t

unfoldable pub eval_count : (State → Ran Value) → State → Ran Value
eval_count run s = repeated false true run s then λ vs t. ended (ok (base (is_number (length vs)))) t

unfoldable pub last_of : List Value → Option Value
last_of [] = none
last_of (v ∷ vs) = elim (last_of vs) [ none ↦ some v | some w ↦ some w ]

-- `last` with no value tries its child once more
unfoldable pub eval_last : (State → Ran Value) → State → Ran Value
eval_last run s = repeated false true run s then λ vs t. elim (last_of vs) [ none ↦ run t | some v ↦ ended (ok v) t ]

-- ---- choice: both on copies
unfoldable pub side : Bool → Option ℕ → Outcome Picked
side first place = ok (record { first = first; place = place })

-- `this_or_that_picks_first`, by how both sides ended: a success that used nothing gives way to a refusal for wrong input. The states
-- are the one that was given and the two that were left
unfoldable pub picks_first : State → State → State → Outcome Value → Outcome Value → Outcome Picked
picks_first s a b (ok v) (ok w) =
    if eqb s.remaining a.remaining && eqb s.remaining b.remaining then side true none else ok (pick_winner a b)
picks_first s a b (ok v) (refused e) = if eqb s.remaining a.remaining && wrong_input e then refused e else side true none
picks_first s a b (refused e) (ok w) = if eqb s.remaining b.remaining && wrong_input e then refused e else side false none
picks_first s a b (refused e) (refused e') = refused (combine_with e e')
picks_first s a b (fault x) o = fault x
picks_first s a b (ok v) (fault x) = fault x
picks_first s a b (refused e) (fault x) = fault x

unfoldable pub won : State → State → Option ℕ → State
won s loser none = s
won s loser (some w) = save_conflicts s loser w

unfoldable pub value_of : Outcome Value → Option Value
value_of (ok v) = some v
value_of (refused e) = none
value_of (fault x) = none

-- the side that was picked: its value is there, so neither unwrap can fail
unfoldable pub picked : Ran Value → Ran Value → Picked → Ran Value
picked a b p =
    if p.first
    then ended (at or_else305 (value_of a.outcome)) (won a.state b.state p.place)
    else ended (at or_else307 (value_of b.outcome)) (won b.state a.state p.place)

-- refusing, it leaves the state it was given
unfoldable pub chosen : State → Ran Value → Ran Value → Ran Value
chosen s a b = elim (picks_first s a.state b.state a.outcome b.outcome) [
  | ok p ↦ picked a b p
  | refused e ↦ ended (refused e) s
  | fault x ↦ ended (fault x) s
]

unfoldable pub eval_choice : State → Ran Value → Ran Value → Ran Value
eval_choice s a b = after a (after b (chosen s a b))

-- ---- fallback gives its value, state put back, for 20, 21, 24; refusing, it leaves the state it was given
unfoldable pub eval_fallback : BaseValue → State → Ran Value → Ran Value
eval_fallback v s r = after r (elim r.outcome [
  | ok w ↦ ended (ok w) r.state
  | refused e ↦ ended (if can_catch e then ok (base v) else refused e) s
  | fault x ↦ ended (fault x) s
])

-- ---- guard: 26 GuardFailed at `current`
unfoldable pub guarded : ℕ → ℕ → Value → State → Outcome Value
guarded lo hi (base (is_yes b)) s = fault wrong_kind
guarded lo hi (base (is_text t)) s = fault wrong_kind
guarded lo hi (base (is_number n)) s =
    if leb lo n && leb n hi then ok (base (is_number n)) else refused (refuse 26 s.current)
guarded lo hi absent s = fault wrong_kind
guarded lo hi (present v) s = fault wrong_kind
guarded lo hi nil s = fault wrong_kind
guarded lo hi (cons v w) s = fault wrong_kind

unfoldable pub eval_guard : ℕ → ℕ → Ran Value → Ran Value
eval_guard lo hi r = r then λ v t. ended (guarded lo hi v t) t

-- ---- the evaluation of a node, with the mark of what it uses and the items
unfoldable pub eval : ℕ → List Item → Tree → State → Ran Value
eval k is (Flag n m w) s = visit (Flag n m w) s (eval_flag k is n m w s)
eval k is (Argument n m b a) s = visit (Argument n m b a) s (eval_argument k is n m b a s)
eval k is (Positional n p b) s = visit (Positional n p b) s (eval_positional k is n p b s)
eval k is (Optional c t) s = visit (Optional c t) s (eval_optional c s (eval k is t s))
eval k is (Many c t) s = visit (Many c t) s (eval_many c (eval k is t) s)
eval k is (Some c t) s = visit (Some c t) s (eval_some c (eval k is t) s)
eval k is (Count t) s = visit (Count t) s (eval_count (eval k is t) s)
eval k is (Last t) s = visit (Last t) s (eval_last (eval k is t) s)
eval k is (Choice t u) s = visit (Choice t u) s (eval_choice s (eval k is t s) (eval k is u s))
eval k is (Fallback v t) s = visit (Fallback v t) s (eval_fallback v s (eval k is t s))
eval k is (Guard l h t) s = visit (Guard l h t) s (eval_guard l h (eval k is t s))
