-- What the evaluation of one node asks for, and what it hands back.
use Rattle.std.specs.Prelude.{List, ◌≡◌, ℕ, ◌≤◌, ◌<◌, length, replicate}
use Rattle.std.specs.Prelude.{Result, Ok, Err}
use Rattle.std.proofs.Math.Option.{Option, some, none}
use Rattle.rules.specs.Outcome.{Outcome, ok, refused, fault}
use Rattle.rules.specs.Codes.{place_code}
use Rattle.rules.specs.Sheet.{sheet_area, sheet_fault}
use Rattle.rules.specs.Form.{field_count, read_form}
use Rattle.rules.specs.Tree.{Tree}
use Rattle.rules.specs.Accept.{Accepted, accepted, field_of, check_form}
use Rattle.rules.specs.Split.{Item}
use Rattle.rules.specs.Eval.{eval}
use Rattle.rules.specs.State.{field_mark}
use Rattle.rules.specs.Calls.{Evaluated, from_raw, items_in, state_in, eval_in, evaluated}
use Rattle.rules.specs.Reported.{place_told, told}
use Rattle.rules.specs.declared.Refused.{Refused}
use Rattle.rules.specs.declared.RefusedAt.{RefusedAt}
use Rattle.rules.specs.declared.State.{State as Raw}
use Rattle.eval_error.specs.Refusals.{refusal_of}
use Rattle.state_marks.specs.Lent.{raw_of}
use Rattle.eval_told.specs.declared.Ran.{Ran}
use Rattle.eval_told.specs.Nodes.{tree_at}
use Rattle.call_table.specs.Given.{Holds}
use Rattle.run_fields.specs.declared.RunAnswer.{RunAnswer}

-- ---- what is handed back: numbers and a state, and the words of the answer slice and of the list
pub record Answered : Type 0 where
  pub answer : RunAnswer
  pub answers : List ℕ
  pub list : List ℕ

-- a fault has none
unfoldable pub evaluated_answer : Outcome Evaluated → Option Answered
evaluated_answer (ok x) = some (record {
  answer = record {
    number = x.number;
    place = place_code x.place;
    tries = x.tries;
    words = length x.words;
    state = x.state;
  };
  answers = x.answers;
  list = x.list;
})
evaluated_answer (refused e) = none
evaluated_answer (fault f) = none

-- refused, with the state that was given
abbrev pub unchanged_by : Refused → Raw → RunAnswer
unchanged_by r x = record { number = r.number; place = r.place; tries = 0; words = 0; state = x }

-- a result, with the marks that were left
abbrev pub answer_of : Ran → List ℕ → RunAnswer
answer_of r m = record {
  number = r.number;
  place = r.place;
  tries = r.tries;
  words = r.len;
  state = raw_of m r.numbers;
}

-- ---- the input, once every test is passed. The answer slice has na words, the list nl
pub record Admitted (b s words : List ℕ) (na nl : ℕ) (x : Raw) (k : ℕ) : Type 0 where
  pub result : Accepted
  pub accepts : check_form b ≡ accepted result
  pub made : sheet_fault s ≡ 0
  pub wide : 1792 ≤ length words
  pub room : 8240 ≤ na
  pub entries : 192 ≤ nl
  pub holds : Holds (sheet_area s) words x.count
  pub good : state_in (field_count b) x.count x ≡ ok (from_raw x)
  pub tree : Tree
  pub node : tree_at b k ≡ some tree

-- what the tests tell: all passed, or the refusal, whose place plus 1 fits in a word
abbrev pub Admits : {A : Type 0} → List ℕ → List ℕ → List ℕ → List ℕ → List ℕ → Raw → ℕ → Result A RefusedAt → Type 0
Admits b s words answers list x k (Ok a) = Admitted b s words (length answers) (length list) x k
Admits b s words answers list x k (Err e) = (eval_in b s words answers list x k ≡ refused (refusal_of (told e))) × (place_told e.place < 4294967296)

-- and an answer slice and a list that are all 0
pub record ClearedAnswers (b s words o l : List ℕ) (x : Raw) (k : ℕ) : Type 0 where
  pub input : Admitted b s words (length o) (length l) x k
  pub zeros : o ≡ replicate (length o) 0
  pub unlisted : l ≡ replicate (length l) 0

-- the mark of what node k uses
abbrev pub node_mark : List ℕ → ℕ → ℕ
node_mark b k = field_mark (field_of (read_form b) k)

-- ---- the run, for the items of the words and the node's tree
abbrev pub Runs : List ℕ → List ℕ → List ℕ → ℕ → ℕ → Raw → ℕ → List ℕ → List ℕ → RunAnswer → Type 0
Runs b s words na nl x k o' l' r =
    (is : List Item) (t : Tree) → items_in (sheet_area s) words ≡ ok is → tree_at b k ≡ some t
    → evaluated_answer (evaluated na nl (eval (node_mark b k) is t (from_raw x))) ≡ some (record { answer = r; answers = o'; list = l' })
