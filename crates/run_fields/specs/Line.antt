-- What the run of all fields asks for, and what it tells.
use Rattle.std.specs.Prelude.{List, [], ◌≡◌, ℕ, ◌+◌, ◌≤◌, ◌<◌, eqb, length, get_or}
use Rattle.std.proofs.Math.Option.{Option, some, none}
use Rattle.std.proofs.Math.ListN.{get_elem?}
use Rattle.std.proofs.lemmas.List.Edits.{sets}
use Rattle.std.specs.Prelude.{if◌then◌else◌}
use Rattle.rules.specs.Outcome.{ok, refused, fault, MissingItem}
use Rattle.rules.specs.Value.{Value, answer_words}
use Rattle.rules.specs.Codes.{place_code}
use Rattle.rules.specs.Sheet.{sheet_area, sheet_fault}
use Rattle.rules.specs.Tree.{Tree}
use Rattle.rules.specs.Accept.{Accepted, accepted, check_form}
use Rattle.rules.specs.Split.{Item}
use Rattle.rules.specs.State.{State, field_mark}
use Rattle.rules.specs.Eval.{Ran as Run}
use Rattle.rules.specs.Run.{run_fields, run_all}
use Rattle.rules.specs.Missing.{lacking}
use Rattle.state_marks.specs.declared.Numbers.{Numbers}
use Rattle.state_marks.specs.Lent.{state_of}
use Rattle.take_table.specs.Known.{Known}
use Rattle.take_search.specs.States.{LeftState, Items}
use Rattle.take_search.specs.States as states
use Rattle.eval_told.specs.declared.Ran.{Ran}
use Rattle.eval_told.specs.Results.{written}
use Rattle.eval_told.specs.Told.{Told}
use Rattle.eval_shortcut.specs.Stands.{Standing}
use Rattle.eval_node.specs.Cycle.{Room}
use Rattle.eval_words.specs.Stored.{Put}
use Rattle.eval_list.specs.Lists.{MarkedField}
use Rattle.run_fields.specs.declared.Reached.{Reached}

-- an accepted form, a checked sheet, a state over the items, which nodes each item matches, the number of the first field, and
-- an answer slice of zeros
pub record Starts (b known s words m : List ℕ) (p : Numbers) (first : ℕ) (o : List ℕ) : Type 0 where
  pub result : Accepted
  pub accepts : check_form b ≡ accepted result
  pub made : sheet_fault s ≡ 0
  pub state : states.CanTake (sheet_area s) words m p (field_mark first)
  pub knows : Known b (sheet_area s) words (length state.items) known
  pub small : first ≤ 4096
  pub room : 8240 ≤ length o
  pub zeros : (k : ℕ) → get_or o k 0 ≡ 0

-- a node, and room for its words
pub record FieldReady (b known s words m : List ℕ) (p : Numbers) (f : MarkedField) (o : List ℕ) : Type 0 where
  pub stands : Standing b known s words m p f.mark f.node
  pub space : Room o f.at

-- a value that is no list, whose words are put from `at` on
pub record PutValue (o : List ℕ) (at : ℕ) (x : Ran) (o' : List ℕ) (r : Ran) : Type 0 where
  pub put : Put o at x.len x.word o' r.len
  pub same : r ≡ written x r.len

-- a run of fields without its trace and without what was missing. A fault tells nothing
unfoldable pub told_all : Run (List Value) → Option Told
told_all r = elim r.outcome [
  | ok vs ↦ some (record { number = 0; place = 0; tries = r.tries; words = answer_words vs; state = r.state })
  | refused e ↦ some (record
      { number = e.number; place = place_code e.place; tries = r.tries; words = []; state = r.state })
  | fault x ↦ none
]

-- what was missing
unfoldable pub missing_of : Run (List Value) → List MissingItem
missing_of r = elim r.outcome [ ok vs ↦ [] | refused e ↦ e.missing | fault x ↦ [] ]

-- what field k lacks in a state, where the first has number `first`
unfoldable pub lacking_field : ℕ → List Item → List Tree → ℕ → State → List MissingItem
lacking_field first is fields k s =
    elim (get_elem? fields k) [ none ↦ [] | some t ↦ lacking (field_mark (first + k)) is t s ]

abbrev pub reached_with : Reached → List ℕ → List ℕ → Told
reached_with r m w = record {
  number = r.number;
  place = r.place;
  tries = r.tries;
  words = w;
  state = state_of m r.numbers;
}

-- what a run of fields over the items reaches, of which the first has number `first`, and whose words are written from the first word on. Refused with 20, what was missing is
-- what the refused field lacks in the state that is left
pub record RunTold (run : List Item → Run (List Value)) (first : ℕ) (fields : List Tree) (area words m : List ℕ) (p : Numbers) (m' o o' : List ℕ) (r : Reached) : Type 0 where
  pub values : List ℕ
  pub same : (is : List Item) → Items area words p is → told_all (run is) ≡ some (reached_with r m' values)
  pub count : r.words ≡ length values
  pub put : o' ≡ sets o 0 values
  pub few : length values ≤ 8240
  pub left : LeftState m p m' r.numbers
  pub lacks : (is : List Item) → Items area words p is
      → missing_of (run is) ≡ (if eqb r.number 20 then lacking_field first is fields r.field (state_of m' r.numbers) else [])
  pub inside : r.number ≡ 20 → r.field < length fields

-- the fields in order
abbrev pub RunsFields : List ℕ → List ℕ → ℕ → List Tree → List ℕ → Numbers → List ℕ → List ℕ → List ℕ → Reached → Type 0
RunsFields area words first fields m p m' o o' r =
    RunTold (λ is. run_fields first is fields (state_of m p)) first fields area words m p m' o o' r

-- then 27
abbrev pub RunsAll : List ℕ → List ℕ → ℕ → List Tree → List ℕ → Numbers → List ℕ → List ℕ → List ℕ → Reached → Type 0
RunsAll area words first fields m p m' o o' r =
    RunTold (λ is. run_all first is fields (state_of m p)) first fields area words m p m' o o' r

-- ---- results
abbrev pub refused_with : ℕ → ℕ → ℕ → ℕ → Numbers → Reached
refused_with number place tries field p =
    record { number = number; place = place; tries = tries; words = 0; field = field; numbers = p }

abbrev pub values_of : ℕ → ℕ → Numbers → Reached
values_of tries count p = record { number = 0; place = 0; tries = tries; words = count; field = 0; numbers = p }
