-- What the run hands back, for what the rules report.
use Rattle.std.specs.Prelude.{List, ◌≡◌, ℕ, ◌≤◌, ◌<◌, length, get_or, replicate}
use Rattle.std.proofs.Math.Option.{Option, some, none}
use Rattle.std.proofs.lemmas.List.Edits.{sets}
use Rattle.rules.specs.Outcome.{Outcome, ok, refused, fault, list_words}
use Rattle.rules.specs.Codes.{place_code, place_of}
use Rattle.rules.specs.Sheet.{sheet_area, sheet_fault}
use Rattle.rules.specs.Form.{read_form}
use Rattle.rules.specs.Tree.{Tree}
use Rattle.rules.specs.Accept.{Accepted, accepted, check_form, letters_of}
use Rattle.rules.specs.Split.{Item}
use Rattle.rules.specs.State.{field_mark}
use Rattle.rules.specs.Run.{Report, run_all, refused_input, run}
use Rattle.rules.specs.Calls.{to_raw}
use Rattle.rules.specs.declared.Refused.{Refused}
use Rattle.state_marks.specs.declared.Numbers.{Numbers}
use Rattle.state_marks.specs.Lent.{raw_of, state_of}
use Rattle.form_codes.specs.Codes.{CodedNames}
use Rattle.take_search.specs.States as states
use Rattle.run_fields.specs.declared.Reached.{Reached}
use Rattle.run_fields.specs.Line.{missing_of, RunsAll}
use Rattle.split_args.specs.declared.Ended.{Ended as Split}
use Rattle.split_args.specs.Construct.{Unmarked, SplitEnds}
use Rattle.split_line.specs.Input.{Splittable}
use Rattle.run_fields.specs.declared.RunAnswer.{RunAnswer}

-- the answer, and what the three slices hold
pub record Ended : Type 0 where
  pub answer : RunAnswer
  pub items : List ℕ
  pub answers : List ℕ
  pub list : List ℕ

-- a fault has no answer
unfoldable pub run_answer : Outcome Report → Option Ended
run_answer (ok x) = some (record {
  answer = record {
    number = x.number;
    place = place_code x.place;
    tries = x.tries;
    words = length x.words;
    state = to_raw x.state;
  };
  items = x.items;
  answers = x.answers;
  list = x.list;
})
run_answer (refused e) = none
run_answer (fault x) = none

abbrev pub ended : RunAnswer → List ℕ → List ℕ → List ℕ → Option Ended
ended r items answers list = some (record { answer = r; items = items; answers = answers; list = list })

-- what was reached, with the marks that are left
abbrev pub answer_of : Reached → List ℕ → RunAnswer
answer_of r m = record {
  number = r.number;
  place = r.place;
  tries = r.tries;
  words = r.words;
  state = raw_of m r.numbers;
}

-- ---- what is known once every test is passed
pub record CheckedInput (form sheet items answers list : List ℕ) : Type 0 where
  pub ready : Splittable form sheet items
  pub space : 8240 ≤ length answers
  pub entries : 192 ≤ length list

-- what is known once the line is split, by the letters of the form: its records stand in the item slice, nothing in the others
pub record AfterSplit (form codes sheet items answers list marks : List ℕ) (x : Split) : Type 0 where
  pub input : CheckedInput form sheet items answers list
  pub coded : CodedNames form codes
  pub ends : SplitEnds (letters_of (read_form form)) sheet (length items) items x
  pub unanswered : answers ≡ replicate (length answers) 0
  pub unlisted : list ≡ replicate (length list) 0
  pub unmarked : Unmarked marks

-- why a line is refused before it is split: its sheet, a slice that is too short, or a list
pub data LineFault (s : List ℕ) (ni na nl : ℕ) : ℕ → Type 0 where
  sheet : (sheet_fault s ≡ 0 → ⊥) → LineFault s ni na nl (sheet_fault s)
  items : sheet_fault s ≡ 0 → ni < 1792 → LineFault s ni na nl 7
  answers : sheet_fault s ≡ 0 → 1792 ≤ ni → na < 8240 → LineFault s ni na nl 7
  list : sheet_fault s ≡ 0 → 1792 ≤ ni → 8240 ≤ na → nl < 192 → LineFault s ni na nl 14

-- a line that is not
pub record LineFits (s : List ℕ) (ni na nl : ℕ) : Type 0 where
  pub checked : sheet_fault s ≡ 0
  pub items : 1792 ≤ ni
  pub answers : 8240 ≤ na
  pub list : 192 ≤ nl

pub record LineTested (s : List ℕ) (ni na nl r : ℕ) : Type 0 where
  pub good : r ≡ 0 → LineFits s ni na nl
  pub bad : (r ≡ 0 → ⊥) → LineFault s ni na nl r

-- what the tests of the input tell: number 0, or the refusal
pub record InputTested (form sheet : List ℕ) (ni na nl : ℕ) (r : Refused) : Type 0 where
  pub good : r.number ≡ 0 → (items answers list : List ℕ) → length items ≡ ni → length answers ≡ na → length list ≡ nl
      → CheckedInput form sheet items answers list
  pub bad : (r.number ≡ 0 → ⊥) → run form sheet ni na nl ≡ ok (refused_input ni na nl r.number (place_of r.place))
  pub small : r.place < 4294967296

-- the items of an accepted form's line, the codes of its names, a state over the items, the number of the first field, an answer
-- slice of zeros and a list with room
pub record ItemsBegin (b codes s words m : List ℕ) (p : Numbers) (first : ℕ) (o l : List ℕ) : Type 0 where
  pub result : Accepted
  pub accepts : check_form b ≡ accepted result
  pub coded : CodedNames b codes
  pub made : sheet_fault s ≡ 0
  pub state : states.CanTake (sheet_area s) words m p (field_mark first)
  pub small : first ≤ 4096
  pub room : 8240 ≤ length o
  pub zeros : (k : ℕ) → get_or o k 0 ≡ 0
  pub entries : 192 ≤ length l

-- ---- what the run of all fields reaches, and the list, written from the first word on
pub record RunsListed (area words : List ℕ) (first : ℕ) (fields : List Tree) (m : List ℕ) (p : Numbers) (m' o o' l l' : List ℕ) (r : Reached) : Type 0 where
  pub reached : RunsAll area words first fields m p m' o o' r
  pub listed : (is : List Item) → states.Items area words p is
      → l' ≡ sets l 0 (list_words (missing_of (run_all first is fields (state_of m p))))
