-- The run: the whole answer to a form and a sheet, with what the three slices hold.
use Rattle.std.specs.Prelude.{List, [], ◌∷◌, ◌++◌, ℕ, suc, ◌+◌, ◌-◌, ltb, length, replicate}
use Rattle.std.proofs.Math.Option.{Option, some, none}
use Rattle.std.specs.Prelude.{if◌then◌else◌}
use Rattle.rules.specs.Outcome.{Outcome, ok, refused, fault, ◌>>=◌, MissingItem, list_words, Refusal, refuse}
use Rattle.rules.specs.Value.{Value, answer_words}
use Rattle.rules.specs.Sheet.{arguments}
use Rattle.rules.specs.Form.{Form}
use Rattle.rules.specs.Tree.{Tree}
use Rattle.rules.specs.Accept.{letters_of}
use Rattle.rules.specs.Split.{Item, Split, split_from, items_of, records_from}
use Rattle.rules.specs.State.{State, Found, marker_mark, field_mark, construct, empty_state, first}
use Rattle.rules.specs.Eval.{Ran, ended, ◌then◌, eval}
use Rattle.rules.specs.Given.{room_in, list_room_in, input_in}

-- ---- a sheet, split under a form
-- the items, their records, the state, and 8 or 9 if splitting refuses
pub record Line : Type 0 where
  pub refusal : Option Refusal
  pub items : List Item
  pub records : List ℕ
  pub state : State

-- 8: more than 256 items
unfoldable pub too_many : Line
too_many = record { refusal = some (refuse 8 none); items = []; records = []; state = empty_state }

-- 9: ambiguous letter; items kept and unparsed
unfoldable pub ambiguity : Option ℕ → Option Refusal
ambiguity none = none
ambiguity (some i) = some (refuse 9 (some i))

unfoldable pub line_of : List (List ℕ) → Split → Outcome Line
line_of args x =
    if ltb 256 (length (items_of x))
    then ok too_many
    else (construct marker_mark (length (items_of x)) x.marker >>= λ s. ok (record {
      refusal = ambiguity x.ambiguous;
      items = items_of x;
      records = records_from 0 args x.groups;
      state = s;
    }))

unfoldable pub split : Form → List ℕ → Outcome Line
split f s = split_from (letters_of f) 0 (arguments s) >>= line_of (arguments s)

-- ---- fields in order on one state, of which the first has number k, `current` carried on, stopping at the first refusal
unfoldable pub run_fields : ℕ → List Item → List Tree → State → Ran (List Value)
run_fields k is [] s = ended (ok []) s
run_fields k is (t ∷ ts) s =
    eval (field_mark k) is t s then λ v u. run_fields (suc k) is ts u then λ vs w. ended (ok (v ∷ vs)) w

-- then 27 if a present place is left in scope
unfoldable pub left_over : List Value → Option Found → Outcome (List Value)
left_over vs none = ok vs
left_over vs (some x) = refused (refuse 27 (some x.place))

unfoldable pub run_all : ℕ → List Item → List Tree → State → Ran (List Value)
run_all k is ts s = run_fields k is ts s then λ vs t. ended (first is t >>= left_over vs) t

-- splitting's refusal stands, or the fields run
unfoldable pub run_line : List Tree → Line → Ran (List Value)
run_line ts l = elim l.refusal [ some e ↦ ended (refused e) l.state | none ↦ run_all 0 l.items ts l.state ]

-- ---- what is reported
pub record Report : Type 0 where
  pub number : ℕ
  pub place : Option ℕ
  pub tries : ℕ
  pub words : List ℕ
  pub state : State
  pub items : List ℕ
  pub answers : List ℕ
  pub list : List ℕ

-- a slice of n words: past the last word all is 0
unfoldable pub padded : ℕ → List ℕ → List ℕ
padded n l = l ++ replicate (n - length l) 0

-- 1 to 7 and 14: all three slices all 0, tries 0, an empty state
unfoldable pub refused_input : ℕ → ℕ → ℕ → ℕ → Option ℕ → Report
refused_input ni na nl n k = record {
  number = n;
  place = k;
  tries = 0;
  words = [];
  state = empty_state;
  items = padded ni [];
  answers = padded na [];
  list = padded nl [];
}

-- items kept, the state reached, the tries made so far, and what is missing
unfoldable pub report_with : ℕ → ℕ → ℕ → Line → Ran (List Value) → ℕ → Option ℕ → List ℕ → List MissingItem → Report
report_with ni na nl l r number place words missing = record {
  number = number;
  place = place;
  tries = r.tries;
  words = words;
  state = r.state;
  items = padded ni l.records;
  answers = padded na words;
  list = padded nl (list_words missing);
}

-- values, or a refusal with answers 0
unfoldable pub report : ℕ → ℕ → ℕ → Line → Ran (List Value) → Outcome Report
report ni na nl l r = elim r.outcome [
  | ok vs ↦ ok (report_with ni na nl l r 0 none (answer_words vs) [])
  | refused e ↦ ok (report_with ni na nl l r e.number e.place [] e.missing)
  | fault x ↦ fault x
]

-- form bytes, sheet bytes, and the lengths of the item slice, the answer slice and the list slice
unfoldable pub run : List ℕ → List ℕ → ℕ → ℕ → ℕ → Outcome Report
run b s ni na nl = elim (input_in b s ni >>= λ a. room_in 8240 na >>= λ _. list_room_in nl >>= λ _. ok a) [
  | ok a ↦ split a.form s >>= λ l. report ni na nl l (run_line a.fields l)
  | refused e ↦ ok (refused_input ni na nl e.number e.place)
  | fault x ↦ fault x
]
