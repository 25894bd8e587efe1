-- Single calls: what they are refused with (1 to 7, 14, then 30, 29, 28, in this order) and what they hand back.
use Rattle.std.specs.Prelude.{Bool, true, false, ◌&&◌, List, [], ◌∷◌, ℕ, zero, suc, ◌+◌, ◌-◌, ◌*◌, ◌/◌, leb, eqb, ltb, length, get_or, take, drop}
use Rattle.std.proofs.Math.Option.{Option, some, none}
use Rattle.std.proofs.Math.ListN.{get_elem?}
use Rattle.std.specs.Prelude.{if◌then◌else◌}
use Rattle.rules.specs.Base.{◌>>?◌}
use Rattle.rules.specs.Outcome.{Outcome, ok, refused, fault, ◌>>=◌, MissingItem, list_words, Refusal, refuse}
use Rattle.rules.specs.Value.{Kind, Value, words}
use Rattle.rules.specs.Form.{name_bytes, portable}
use Rattle.rules.specs.Tree.{Named, Tree, Flag, Argument, Positional, Optional, Many, Some, Count, Last, Choice, Fallback, Guard, zeros, kind_of}
use Rattle.rules.specs.Accept.{Accepted, field_of}
use Rattle.rules.specs.Split.{Item, Short, Long, ArgWord, Word, PosWord, ItemRecord}
use Rattle.rules.specs.State.{State, command_mark, field_mark, empty_state, state_good, get, remove, Conflict, conflict, Picked, pick_winner, save_conflicts, Scope, set_scope}
use Rattle.rules.specs.State.{adjacent_scope}
use Rattle.rules.specs.State.{adjacently_available_from, only_once}
use Rattle.rules.specs.Take.{Took, took, Taken, Operand, matches_arg, text_of, take_flag, take_arg, take_positional_word, take_cmd}
use Rattle.rules.specs.Eval.{Ran, eval}
use Rattle.rules.specs.Given.{list_room_in, input_in}
unfoldable pub use Rattle.rules.specs.Given.{form_in, sheet_in, slice_in}
use Rattle.rules.specs.Run.{padded, Line, split}
use Rattle.rules.specs.Codes.{place_code, place_of}
use Rattle.rules.specs.declared.State.{State as Raw}

-- ---- what a call is given, after the tests of Given
-- 30: an item record of unknown kind, with adjacent above 1, a non-zero unused word or a part outside the area
unfoldable pub part_in : List ℕ → ℕ → ℕ → Option (List ℕ)
part_in area offset size = if leb (offset + size) (length area) then some (take size (drop offset area)) else none

unfoldable pub short_from : List ℕ → ItemRecord → Option Item
short_from area r =
    if leb r.adjacent 1 && zeros (r.name_offset ∷ r.name_length ∷ [])
    then (part_in area r.text_offset r.text_length >>? λ t. some (Short r.character (eqb r.adjacent 1) t))
    else none

unfoldable pub long_from : List ℕ → ItemRecord → Option Item
long_from area r =
    if leb r.adjacent 1 && zeros (r.character ∷ [])
    then (part_in area r.name_offset r.name_length >>? λ n.
    part_in area r.text_offset r.text_length >>? λ t. some (Long n (eqb r.adjacent 1) t))
    else none

unfoldable pub word_from : (List ℕ → Item) → List ℕ → ItemRecord → Option Item
word_from make area r =
    if zeros (r.adjacent ∷ r.character ∷ r.name_offset ∷ r.name_length ∷ [])
    then (part_in area r.text_offset r.text_length >>? λ t. some (make t))
    else none

-- the record that seven words are
abbrev pub read_record : List ℕ → ItemRecord
read_record w = record {
  kind = get_or w 0 0;
  adjacent = get_or w 1 0;
  character = get_or w 2 0;
  name_offset = get_or w 3 0;
  name_length = get_or w 4 0;
  text_offset = get_or w 5 0;
  text_length = get_or w 6 0;
}

unfoldable pub item_from : List ℕ → List ℕ → Option Item
item_from area w =
    let r = read_record w in
    if eqb r.kind 1 then short_from area r else
    (if eqb r.kind 2 then long_from area r else
    (if eqb r.kind 3 then word_from ArgWord area r else
    (if eqb r.kind 4 then word_from Word area r else
    (if eqb r.kind 5 then word_from PosWord area r else none))))

-- The items of a slice are all its whole records up to the last that is not all 0; words behind the last whole one must be 0
unfoldable pub records_in : ℕ → List ℕ → List (List ℕ)
records_in zero l = []
records_in (suc n) l = take 7 l ∷ records_in n (drop 7 l)

unfoldable pub whole_records : List ℕ → Option (List (List ℕ))
whole_records l = if zeros (drop (7 * (length l / 7)) l) then some (records_in (length l / 7) l) else none

unfoldable pub trimmed : List (List ℕ) → List (List ℕ)
trimmed [] = []
trimmed (r ∷ rs) = elim (trimmed rs) [ [] ↦ if zeros r then [] else r ∷ [] | x ∷ xs ↦ r ∷ x ∷ xs ]

unfoldable pub items_from : List ℕ → List (List ℕ) → Option (List Item)
items_from area [] = some []
items_from area (r ∷ rs) = item_from area r >>? λ x. items_from area rs >>? λ xs. some (x ∷ xs)

unfoldable pub items_in : List ℕ → List ℕ → Outcome (List Item)
items_in area l = elim (whole_records l >>? λ rs. items_from area (trimmed rs))
    [ none ↦ refused (refuse 30 none) | some is ↦ ok is ]

-- A state as it is handed over has 256 marks, and `current` as the place plus 1, or 0 for none
unfoldable pub from_raw : Raw → State
from_raw x = record {
  marks = take x.count x.marks;
  remaining = x.remaining;
  current = place_of x.current;
  start = x.start;
  end = x.end;
}

unfoldable pub to_raw : State → Raw
to_raw s = record {
  count = length s.marks;
  marks = padded 256 s.marks;
  remaining = s.remaining;
  current = place_code s.current;
  start = s.start;
  end = s.end;
}

-- 29: a state that is not good, or not over this many items; later marks are 0. The fields are those of the form
unfoldable pub state_in : (fields n : ℕ) → Raw → Outcome State
state_in fields n x =
    if eqb x.count n && zeros (drop x.count x.marks) && state_good fields n (from_raw x)
    then ok (from_raw x)
    else refused (refuse 29 none)

-- where a call has no form
unfoldable pub most_fields : ℕ
most_fields = 16

-- 28: no such node or name of the kind asked for, no such place or field
unfoldable pub asked : {A : Type 0} → Option A → Outcome A
asked none = refused (refuse 28 none)
asked (some a) = ok a

unfoldable pub place_in : ℕ → ℕ → Outcome ℕ
place_in n i = if ltb i n then ok i else refused (refuse 28 none)

-- a field's number becomes the mark of what it uses
unfoldable pub mark_in : (fields k : ℕ) → Outcome ℕ
mark_in fields k = if ltb k fields then ok (field_mark k) else refused (refuse 28 none)

-- a scope that falls or leaves the items
unfoldable pub scope_in : ℕ → ℕ → ℕ → Outcome Scope
scope_in n a b = if leb a b && leb b n then ok (record { start = a; end = b }) else refused (refuse 28 none)

-- a flag's names, an argument's with whether it is adjacent
unfoldable pub flag_names : Tree → Option Named
flag_names (Flag n m w) = some m
flag_names (Argument n m b a) = none
flag_names (Positional n p b) = none
flag_names (Optional c t) = none
flag_names (Many c t) = none
flag_names (Some c t) = none
flag_names (Count t) = none
flag_names (Last t) = none
flag_names (Choice t u) = none
flag_names (Fallback v t) = none
flag_names (Guard l h t) = none

pub record Key : Type 0 where
  pub named : Named
  pub adjacent : Bool

unfoldable pub argument_key : Tree → Option Key
argument_key (Flag n m w) = none
argument_key (Argument n m b a) = some (record { named = m; adjacent = a })
argument_key (Positional n p b) = none
argument_key (Optional c t) = none
argument_key (Many c t) = none
argument_key (Some c t) = none
argument_key (Count t) = none
argument_key (Last t) = none
argument_key (Choice t u) = none
argument_key (Fallback v t) = none
argument_key (Guard l h t) = none

-- a flag takes any item with its name
unfoldable pub key_of : Tree → Option Key
key_of t = elim (flag_names t) [ some m ↦ some (record { named = m; adjacent = false }) | none ↦ argument_key t ]

unfoldable pub command_name : Accepted → ℕ → Option (List ℕ)
command_name a k =
    get_elem? a.form.names k >>? λ x. if leb x.type 1 then some (name_bytes a.form.area x) else none

-- ---- what a call hands back
-- a number and its place, the answer, and the state: refused, the one that was given
pub record Called (A : Type 0) : Type 0 where
  pub number : ℕ
  pub place : Option ℕ
  pub answer : Option A
  pub state : Raw

unfoldable pub handed : {A : Type 0} → Raw → Outcome (Took A) → Outcome (Called A)
handed x (ok t) = ok (record { number = 0; place = none; answer = some t.answer; state = to_raw t.state })
handed x (refused e) = ok (record { number = e.number; place = e.place; answer = none; state = x })
handed x (fault f) = fault f

-- ---- calls on a state alone
unfoldable pub call_remove : Raw → (place field : ℕ) → Outcome (Called Bool)
call_remove x i k = handed x (state_in most_fields x.count x >>= λ s. place_in x.count i >>= λ _. mark_in most_fields k >>= λ mark.
    remove mark s i >>= took true)

unfoldable pub call_pick_winner : Raw → Raw → Outcome (Called Picked)
call_pick_winner x y = handed x (state_in most_fields x.count x >>= λ s. state_in most_fields x.count y >>= λ t. took (pick_winner s t) s)

unfoldable pub call_save_conflicts : Raw → Raw → ℕ → Outcome (Called Bool)
call_save_conflicts x y w = handed x (state_in most_fields x.count x >>= λ s. state_in most_fields x.count y >>= λ t.
    place_in x.count w >>= λ _. took true (save_conflicts s t w))

unfoldable pub call_set_scope : Raw → ℕ → ℕ → Outcome (Called Bool)
call_set_scope x a b = handed x (state_in most_fields x.count x >>= λ s. scope_in x.count a b >>= λ _. set_scope s a b >>= took true)

unfoldable pub call_adjacent_scope : Raw → Raw → Outcome (Called (Option Scope))
call_adjacent_scope x y = handed x (state_in most_fields x.count x >>= λ s. state_in most_fields x.count y >>= λ t.
    adjacent_scope s t >>= λ c. took c s)

unfoldable pub call_available_from : Raw → ℕ → Outcome (Called Scope)
call_available_from x a = handed x (state_in most_fields x.count x >>= λ s. place_in (suc x.count) a >>= λ _.
    took (adjacently_available_from s a) s)

-- ---- calls on items and a state: sheet, item slice, state
unfoldable pub on_items : {A : Type 0} → List ℕ → List ℕ → Raw → (List Item → State → Outcome (Took A)) → Outcome (Called A)
on_items sheet slice x f = handed x (sheet_in sheet >>= λ area. slice_in 1792 slice >>= λ l. items_in area l >>= λ is.
    state_in most_fields (length is) x >>= f is)

unfoldable pub call_get : List ℕ → List ℕ → Raw → ℕ → Outcome (Called (Option Item))
call_get sheet slice x i = on_items sheet slice x (λ is s. place_in (length is) i >>= λ _. took (get is s i) s)

unfoldable pub call_conflict : List ℕ → List ℕ → Raw → Outcome (Called (Option Conflict))
call_conflict sheet slice x = on_items sheet slice x (λ is s. conflict is s >>= λ c. took c s)

unfoldable pub operand_or20 : Took (Option Operand) → Outcome (Took Operand)
operand_or20 t = elim t.answer [ none ↦ refused (refuse 20 none) | some o ↦ took o t.state ]

unfoldable pub call_take_positional : List ℕ → List ℕ → Raw → (field : ℕ) → Outcome (Called Operand)
call_take_positional sheet slice x k = on_items sheet slice x (λ is s. mark_in most_fields k >>= λ mark.
    take_positional_word mark is s >>= operand_or20)

-- `only_once`: sheet, item slice and place, which is handed back in 32 bits; there is no state to hand back
unfoldable pub call_only_once : List ℕ → List ℕ → ℕ → Outcome (Option ℕ)
call_only_once sheet slice i = sheet_in sheet >>= λ area. slice_in 1792 slice >>= λ l. items_in area l >>= λ is.
    place_in (length is) i >>= λ _. place_in 4294967296 i >>= λ _. only_once is i

-- ---- calls with a form: what the form must have is asked for last
unfoldable pub on_form : {A : Type 0} → List ℕ → List ℕ → List ℕ → Raw → (Accepted → List Item → State → Outcome (Took A)) → Outcome (Called A)
on_form form sheet slice x f = handed x (form_in form >>= λ a. sheet_in sheet >>= λ area. slice_in 1792 slice >>= λ l.
    items_in area l >>= λ is. state_in (length a.fields) (length is) x >>= f a is)

unfoldable pub call_matches : List ℕ → List ℕ → List ℕ → Raw → ℕ → ℕ → Outcome (Called Bool)
call_matches form sheet slice x k i = on_form form sheet slice x (λ a is s.
    asked (get_elem? a.trees k >>? key_of) >>= λ m. asked (get_elem? is i) >>= λ y.
    took (matches_arg m.named m.adjacent y) s)

unfoldable pub call_take_flag : List ℕ → List ℕ → List ℕ → Raw → (node field : ℕ) → Outcome (Called Bool)
call_take_flag form sheet slice x k j = on_form form sheet slice x (λ a is s.
    asked (get_elem? a.trees k >>? flag_names) >>= λ m. mark_in (length a.fields) j >>= λ mark. take_flag mark is m s)

unfoldable pub call_take_arg : List ℕ → List ℕ → List ℕ → Raw → (node field : ℕ) → Outcome (Called (Option Taken))
call_take_arg form sheet slice x k j = on_form form sheet slice x (λ a is s.
    asked (get_elem? a.trees k >>? argument_key) >>= λ m. mark_in (length a.fields) j >>= λ mark.
    take_arg mark is m.named m.adjacent s)

unfoldable pub call_take_cmd : List ℕ → List ℕ → List ℕ → Raw → ℕ → Outcome (Called Bool)
call_take_cmd form sheet slice x k = on_form form sheet slice x (λ a is s.
    asked (command_name a k) >>= λ w. take_cmd command_mark is w s)

-- the kind of a node, and the portable mark, of a form
unfoldable pub call_kind : List ℕ → ℕ → Outcome Kind
call_kind form k = form_in form >>= λ a. asked (get_elem? a.trees k >>? kind_of)

unfoldable pub call_portable : List ℕ → Outcome Bool
call_portable form = form_in form >>= λ a. ok (portable a.form)

-- ---- splitting: form, sheet, and the length of the item slice
pub record Splitting : Type 0 where
  pub number : ℕ
  pub place : Option ℕ
  pub state : Raw
  pub items : List ℕ

-- 1 to 7: all 0, an empty state
unfoldable pub split_refused : ℕ → ℕ → Option ℕ → Splitting
split_refused n number place = record { number = number; place = place; state = to_raw empty_state; items = padded n [] }

-- 8 leaves the same; 9 keeps the items, unparsed
unfoldable pub split_report : ℕ → Line → Splitting
split_report n l = record {
  number = elim l.refusal [ none ↦ 0 | some e ↦ e.number ];
  place = elim l.refusal [ none ↦ none | some e ↦ e.place ];
  state = to_raw l.state;
  items = padded n l.records;
}

unfoldable pub call_split : List ℕ → List ℕ → ℕ → Outcome Splitting
call_split form sheet n = elim (input_in form sheet n) [
  | ok a ↦ split a.form sheet >>= λ l. ok (split_report n l)
  | refused e ↦ ok (split_refused n e.number e.place)
  | fault x ↦ fault x
]

-- ---- the text of an answer word: a part of the sheet or of the form
unfoldable pub record_text : Accepted → ℕ → Option (List ℕ)
record_text a k =
    get_elem? a.form.names k >>? λ x. if eqb x.type 2 then some (name_bytes a.form.area x) else none

unfoldable pub call_text : List ℕ → List ℕ → List ℕ → ℕ → Outcome (List ℕ)
call_text form sheet slice w = form_in form >>= λ a. sheet_in sheet >>= λ area. slice_in 1792 slice >>= λ l.
    items_in area l >>= λ is.
    asked (if ltb w 256 then (get_elem? is w >>? λ x. some (text_of x)) else record_text a (w - 256))

-- ---- `eval` of a node: refused 20 to 26, answers 0 and the state that it left; with 20, what is missing
pub record Evaluated : Type 0 where
  pub number : ℕ
  pub place : Option ℕ
  pub tries : ℕ
  pub words : List ℕ
  pub state : Raw
  pub answers : List ℕ
  pub list : List ℕ

unfoldable pub evaluated_with : ℕ → ℕ → Ran Value → ℕ → Option ℕ → List ℕ → List MissingItem → Evaluated
evaluated_with na nl r number place words missing = record {
  number = number;
  place = place;
  tries = r.tries;
  words = words;
  state = to_raw r.state;
  answers = padded na words;
  list = padded nl (list_words missing);
}

unfoldable pub evaluated : ℕ → ℕ → Ran Value → Outcome Evaluated
evaluated na nl r = elim r.outcome [
  | ok v ↦ ok (evaluated_with na nl r 0 none (words v) [])
  | refused e ↦ ok (evaluated_with na nl r e.number e.place [] e.missing)
  | fault f ↦ fault f
]

-- refused before that, nothing changes
unfoldable pub unchanged : Raw → List ℕ → List ℕ → Refusal → Evaluated
unchanged x answers list e = record
    { number = e.number; place = e.place; tries = 0; words = []; state = x; answers = answers; list = list }

unfoldable pub eval_in : List ℕ → List ℕ → List ℕ → List ℕ → List ℕ → Raw → ℕ → Outcome (Ran Value)
eval_in form sheet slice answers list x k = form_in form >>= λ a. sheet_in sheet >>= λ area. slice_in 1792 slice >>= λ l.
    slice_in 8240 answers >>= λ _. list_room_in (length list) >>= λ _. items_in area l >>= λ is.
    state_in (length a.fields) (length is) x >>= λ s. asked (get_elem? a.trees k) >>= λ t.
    ok (eval (field_mark (field_of a.form k)) is t s)

unfoldable pub call_eval : List ℕ → List ℕ → List ℕ → List ℕ → List ℕ → Raw → ℕ → Outcome Evaluated
call_eval form sheet slice answers list x k = elim (eval_in form sheet slice answers list x k) [
  | ok r ↦ evaluated (length answers) (length list) r
  | refused e ↦ ok (unchanged x answers list e)
  | fault f ↦ fault f
]
