-- What holds of commands: in which order names are tried, demand 3 from a match on, and that every input is answered.
use Rattle.std.specs.Prelude.{Bool, true, false, List, [], ◌∷◌, ◌≡◌, ℕ, suc, ◌+◌, ◌*◌, ◌≤◌, ◌<◌, length, take, drop, replicate}
use Rattle.std.proofs.Math.Option.{Option, some, none}
use Rattle.std.proofs.Math.ListN.{get_elem?}
use Rattle.rules.specs.Outcome.{Outcome, ok, refused, refuse}
use Rattle.rules.specs.Value.{BaseValue, Value, answer_words}
use Rattle.rules.specs.Sheet.{arguments}
use Rattle.rules.specs.Accept.{Accepted, refused_at, check_form, leaf_count}
use Rattle.rules.specs.Split.{Item}
use Rattle.rules.specs.State.{State, Found, unused, first, with_current}
use Rattle.rules.specs.Take.{is_command}
use Rattle.rules.specs.Eval.{Visit, states_of}
use Rattle.rules.specs.Run.{Line, Report, padded, refused_input, run_all}
use Rattle.rules.specs.Demands.{All, Counted, Means, places_left, Faultless, OnePerField, Ends}
use Rattle.rules.specs.Answered.{RunNumber}
use Rattle.rules.specs.CallsAnswered.{OneOf}
use Rattle.rules.specs.Commands.{Command, of_type, table_in, forms_in, form_good, CommandTable, table_letters, split_with, Candidate, candidates_from, Tried, try_names, narrowed}
use Rattle.rules.specs.Commands.{CommandReport, command_report, run_commands, TablePart}

-- ---- the names of a table
unfoldable pub all_names : List Command → ℕ
all_names [] = 0
all_names (c ∷ cs) = length c.names + all_names cs

-- Where a name is found in the order of trying, counted from 0: behind all names of the entries before its own, and a short
-- one behind the long ones too
pub record Ordered (before : List Command) (c : Command) (names : List Candidate) : Type 0 where
  pub long :
      (j : ℕ) (w : List ℕ)
      → get_elem? (of_type 1 c) j ≡ some w
      → get_elem? names (all_names before + j) ≡ some (record { word = w; entry = length before })
  pub short :
      (j : ℕ) (w : List ℕ)
      → get_elem? (of_type 0 c) j ≡ some w
      → get_elem? names (all_names before + (length (of_type 1 c) + j)) ≡ some (record { word = w; entry = length before })

-- ---- demand 3, from a match on
-- the run of the chosen form, over the items of the line, on the state whose scope begins at the matched place
pub record ChosenRun (M : BaseValue → Type 0) (table s : List ℕ) (l : Line) (x : Tried) (k : ℕ) (a : Accepted) (u : State) : Type 0 where
  pub faultless : All (λ (v : Visit). Faultless M v.kind v.outcome) (run_all 0 l.items a.fields u).trace
  pub ends : Ends M a.fields (run_all 0 l.items a.fields u).outcome
  pub counted : All Counted (states_of (run_all 0 l.items a.fields u).trace)
  -- R, counted in the new scope: the places that remained, but for the command word. L is the chosen form's
  pub remaining : u.remaining ≡ length (unused u)
  pub word : length (unused u) + 1 ≡ places_left (arguments s) (length l.items)
  pub tries : (run_all 0 l.items a.fields u).tries ≤ (length (unused u) + 2) * leaf_count a.form.nodes
  -- with buffers of at least the stated length, what is reported is this run's
  pub reported :
      (ni na nl : ℕ)
      → 1792 ≤ ni → 8240 ≤ na → 192 ≤ nl
      → run_commands table s ni na nl
      ≡ command_report ni na nl l (record { comparisons = x.comparisons; entry = some k; ran = run_all 0 l.items a.fields u })
  -- and the answer words fix the values
  pub values : (vs ws : List Value) → OnePerField M a.fields vs → OnePerField M a.fields ws → answer_words vs ≡ answer_words ws → vs ≡ ws

-- whether a name is the text of the first present item, as `take_cmd` compares it
abbrev pub Compared : List Item → State → Bool → Candidate → Type 0
Compared is s b c = (x : Option Found) × (first is s ≡ ok x) × (is_command c.word x ≡ b)

-- a name of entry k was taken, the one of the number told
pub record Matched (table s : List ℕ) (t : CommandTable) (l : Line) (x : Tried) (k : ℕ) : Type 0 where
  pub form : Accepted
  pub has : get_elem? t.forms k ≡ some form
  pub before : ℕ
  pub name : Candidate
  pub comparisons : x.comparisons ≡ suc before
  pub here : get_elem? (candidates_from 0 t.commands) before ≡ some name
  pub entry : name.entry ≡ k
  -- it is the text of the first present item, and no name before it is
  pub equal : Compared l.items l.state true name
  pub others : All (Compared l.items l.state false) (take before (candidates_from 0 t.commands))
  -- it stands at place 0, and the scope is all places
  pub place : x.state.current ≡ some 0
  pub state : State
  pub narrows : narrowed x.state ≡ ok state
  pub scope : (state.start ≡ 0) × (state.end ≡ length l.items)
  pub whole : ChosenRun (Means l.items form.form.names) table s l x k form state

-- no name was taken
pub record Unmatched (t : CommandTable) (l : Line) (x : Tried) : Type 0 where
  pub state : x.state ≡ with_current none l.state
  pub comparisons : x.comparisons ≡ all_names t.commands
  pub others : All (Compared l.items l.state false) (candidates_from 0 t.commands)

pub record Tries (table s : List ℕ) (t : CommandTable) (l : Line) : Type 0 where
  pub tried : Tried
  pub tries : try_names l.items 0 (candidates_from 0 t.commands) l.state ≡ ok tried
  pub matched : (k : ℕ) → tried.entry ≡ some k → Matched table s t l tried k
  pub unmatched : tried.entry ≡ none → Unmatched t l tried

-- Neither splitting by the table's letters nor trying its names panics, and from a match on demand 3 holds for the chosen form
pub record CommandsDemand3 (table s : List ℕ) (t : CommandTable) : Type 0 where
  pub line : Line
  pub splits : split_with (table_letters t.forms) s ≡ ok line
  pub tries : line.refusal ≡ none → Tries table s t line

-- ---- every input is answered
-- a refusal after splitting: items kept, answers, list and tries 0
abbrev pub refused_later : (ni na nl : ℕ) → Line → State → ℕ → Option ℕ → Report
refused_later ni na nl l s n p = record {
  number = n;
  place = p;
  tries = 0;
  words = [];
  state = s;
  items = padded ni l.records;
  answers = padded na [];
  list = padded nl [];
}

-- by its number: what was compared, which entry is told, and what is left
pub data CommandsEnd (table s : List ℕ) (ni na nl : ℕ) : CommandReport → Type 0 where
  -- 11, then 6 and 5, 7, 14: all slices 0, tries 0, an empty state
  refused_inputs :
      (n : ℕ)
      → OneOf (11 ∷ 6 ∷ 5 ∷ 7 ∷ 14 ∷ []) n
      → CommandsEnd table s ni na nl (record { report = refused_input ni na nl n none; comparisons = 0; entry = none })
  -- 1 to 4: the same, for the first entry whose form is not accepted
  refused_form :
      (cs : List Command) (c : Command) (k n : ℕ) (p : Option ℕ)
      → table_in table ≡ ok cs
      → get_elem? cs k ≡ some c
      → check_form c.form ≡ refused_at n p
      → All (λ (d : Command). form_good d ≡ true) (take k cs)
      → OneOf (1 ∷ 2 ∷ 3 ∷ 4 ∷ []) n
      → CommandsEnd table s ni na nl (record { report = refused_input ni na nl n p; comparisons = 0; entry = some k })
  -- 8 and 9: what splitting by the letters of all forms leaves
  refused_line :
      (cs : List Command) (fs : List Accepted) (l : Line) (n : ℕ) (p : Option ℕ)
      → table_in table ≡ ok cs
      → forms_in cs ≡ ok fs
      → split_with (table_letters fs) s ≡ ok l
      → l.refusal ≡ some (refuse n p)
      → OneOf (8 ∷ 9 ∷ []) n
      → CommandsEnd table s ni na nl (record { report = refused_later ni na nl l l.state n p; comparisons = 0; entry = none })
  -- 31: all names were compared; items kept, no place used, `current` cleared
  refused_names :
      (cs : List Command) (fs : List Accepted) (l : Line)
      → table_in table ≡ ok cs
      → forms_in cs ≡ ok fs
      → split_with (table_letters fs) s ≡ ok l
      → l.refusal ≡ none
      → CommandsEnd table s ni na nl
      (record { report = refused_later ni na nl l (with_current none l.state) 31 none; comparisons = all_names cs; entry = none })
  -- 0 and 20 to 27: the run of an entry's form, after at least one comparison
  ran :
      (cs : List Command) (fs : List Accepted) (r : Report) (n k : ℕ)
      → table_in table ≡ ok cs
      → forms_in cs ≡ ok fs
      → RunNumber r.number
      → (1 ≤ n) × (n ≤ all_names cs)
      → k < length fs
      → CommandsEnd table s ni na nl (record { report = r; comparisons = n; entry = some k })

-- all three slices are filled, the list with 0 but for 20
pub record Filled (ni na nl : ℕ) (r : Report) : Type 0 where
  pub items : length r.items ≡ ni
  pub answers : length r.answers ≡ na
  pub list : length r.list ≡ nl
  pub unlisted : (r.number ≡ 20 → ⊥) → r.list ≡ replicate nl 0

pub record CommandsAnswered (table s : List ℕ) (ni na nl : ℕ) : Type 0 where
  pub answer : CommandReport
  pub answered : run_commands table s ni na nl ≡ ok answer
  pub ends : CommandsEnd table s ni na nl answer
  pub number :
      OneOf (0 ∷ 11 ∷ 1 ∷ 2 ∷ 3 ∷ 4 ∷ 6 ∷ 5 ∷ 7 ∷ 14 ∷ 8 ∷ 9 ∷ 31 ∷ 20 ∷ 21 ∷ 22 ∷ 23 ∷ 24 ∷ 25 ∷ 26 ∷ 27 ∷ []) answer.report.number
  pub filled : Filled ni na nl answer.report

-- ---- the form of an entry is a part of the table
pub data FormAnswered (table : List ℕ) (k : ℕ) : Outcome TablePart → Type 0 where
  no_table : FormAnswered table k (refused (refuse 11 none))
  no_entry : (cs : List Command) → table_in table ≡ ok cs → length cs ≤ k → FormAnswered table k (refused (refuse 28 none))
  part :
      (cs : List Command) (c : Command) (p : TablePart)
      → table_in table ≡ ok cs
      → get_elem? cs k ≡ some c
      → take p.size (drop p.offset table) ≡ c.form
      → FormAnswered table k (ok p)
