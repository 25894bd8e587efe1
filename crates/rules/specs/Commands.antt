-- Document 02's commands: the table, its names in the order in which they are tried, and the run of the form that is chosen.
use Rattle.std.specs.Prelude.{Bool, true, false, not, ◌&&◌, List, [], ◌∷◌, ◌++◌, map, ℕ, suc, ◌+◌, ◌*◌, leb, eqb, ltb, length, take, drop}
use Rattle.std.proofs.Math.Option.{Option, some, none}
use Rattle.std.proofs.Math.ListN.{get_elem?}
use Rattle.std.specs.Prelude.{if◌then◌else◌}
use Rattle.wire.specs.Wire.{number_at, offset, area_start, table_good, entry_of}
use Rattle.rules.specs.Base.{all, null, numbers, concat_map, first_fault}
use Rattle.rules.specs.Outcome.{Outcome, ok, refused, fault, ◌>>=◌, refuse}
use Rattle.rules.specs.Value.{Value}
use Rattle.rules.specs.Sheet.{arguments}
use Rattle.rules.specs.Form.{Name, read_name, name_bytes, name_good}
use Rattle.rules.specs.Tree.{Tree}
use Rattle.rules.specs.Accept.{Accepted, accepted, refused_at, check_form, Letters, letters_of}
use Rattle.rules.specs.Split.{Item, split_from}
use Rattle.rules.specs.State.{State, command_mark, set_scope}
use Rattle.rules.specs.Take.{take_cmd}
use Rattle.rules.specs.Eval.{Ran, ended}
use Rattle.rules.specs.Given.{form_in, sheet_in, room_in, list_room_in}
use Rattle.rules.specs.Run.{Line, line_of, run_all, Report, refused_input, report}

-- ---- the table: count n of entries (1..32), n + 1 offsets of four bytes, then the entries, which reach to the end
unfoldable pub entry_count : List ℕ → ℕ
entry_count t = number_at 2 t 0

unfoldable pub offsets_good : List ℕ → Bool
offsets_good t = (leb 1 (entry_count t) && leb (entry_count t) 32) && table_good 4 (entry_count t) t

unfoldable pub table_entries : List ℕ → List (List ℕ)
table_entries t = map (entry_of 4 (entry_count t) t) (numbers (entry_count t) 0)

-- ---- an entry: count of name records (0..128), size of their area (0..4,096), the records, the area, then its form to the end
unfoldable pub entry_names : List ℕ → ℕ
entry_names e = number_at 2 e 0

unfoldable pub entry_area : List ℕ → ℕ
entry_area e = number_at 2 e 2

-- where the area and the form begin
unfoldable pub entry_area_at : List ℕ → ℕ
entry_area_at e = 4 + 6 * entry_names e

unfoldable pub entry_form_at : List ℕ → ℕ
entry_form_at e = entry_area_at e + entry_area e

pub record Command : Type 0 where
  pub names : List Name
  pub area : List ℕ
  -- the bytes of its form
  pub form : List ℕ

unfoldable pub read_command : List ℕ → Command
read_command e = record {
  names = map (λ k. read_name e (4 + 6 * k)) (numbers (entry_names e) 0);
  area = take (entry_area e) (drop (entry_area_at e) e);
  form = drop (entry_form_at e) e;
}

-- type 1 names are long, type 0 short: the names of a type, in record order
unfoldable pub of_type : ℕ → Command → List (List ℕ)
of_type t c = concat_map (λ x. if eqb x.type t then name_bytes c.area x ∷ [] else []) c.names

-- a good name, long or short: none of type 2
unfoldable pub command_name_good : List ℕ → Name → Bool
command_name_good area x = name_good area x && leb x.type 1

-- long enough for its names, within a form's limits, and with a long name
unfoldable pub entry_good : List ℕ → Bool
entry_good e =
    (leb (entry_names e) 128 && leb (entry_area e) 4096)
    && leb (entry_form_at e) (length e)
    && all (command_name_good (read_command e).area) (read_command e).names
    && not (null (of_type 1 (read_command e)))

-- ---- the tests before a run: 11; 1 to 4, form by form; 6 and 5; 7; 14
-- 11: the table, or an entry's names
unfoldable pub table_in : List ℕ → Outcome (List Command)
table_in t = if offsets_good t && all entry_good (table_entries t) then ok (map read_command (table_entries t)) else refused (refuse 11 none)

unfoldable pub forms_in : List Command → Outcome (List Accepted)
forms_in [] = ok []
forms_in (c ∷ cs) = form_in c.form >>= λ a. forms_in cs >>= λ fs. ok (a ∷ fs)

-- 11, then 1 to 4: the forms of a table
abbrev pub table_forms : List ℕ → Outcome (List Accepted)
table_forms t = table_in t >>= forms_in

-- 1 to 4: the first entry whose form is not accepted
unfoldable pub form_good : Command → Bool
form_good c = elim (check_form c.form) [ refused_at n k ↦ false | accepted a ↦ true ]

unfoldable pub entry_at_fault : List ℕ → Option ℕ
entry_at_fault t = elim (table_in t) [ ok cs ↦ first_fault form_good 0 cs | refused e ↦ none | fault x ↦ none ]

-- a table whose forms are all accepted
pub record CommandTable : Type 0 where
  pub commands : List Command
  pub forms : List Accepted

unfoldable pub commands_in : (table sheet : List ℕ) (ni na nl : ℕ) → Outcome CommandTable
commands_in t s ni na nl =
    table_in t >>= λ cs.
    forms_in cs >>= λ fs.
    sheet_in s >>= λ _.
    room_in 1792 ni >>= λ _.
    room_in 8240 na >>= λ _.
    list_room_in nl >>= λ _. ok (record { commands = cs; forms = fs })

-- ---- splitting, by the short names of all forms together
unfoldable pub table_letters : List Accepted → Letters
table_letters fs = record {
  flags = concat_map (λ a. (letters_of a.form).flags) fs;
  arguments = concat_map (λ a. (letters_of a.form).arguments) fs;
}

unfoldable pub split_with : Letters → List ℕ → Outcome Line
split_with l s = split_from l 0 (arguments s) >>= line_of (arguments s)

-- ---- trying the names: entries in table order, in each the long names before the short ones
unfoldable pub tried_names : Command → List (List ℕ)
tried_names c = of_type 1 c ++ of_type 0 c

-- a name, and the number of its entry
pub record Candidate : Type 0 where
  pub word : List ℕ
  pub entry : ℕ

unfoldable pub candidates_of : ℕ → Command → List Candidate
candidates_of k c = map (λ w. record { word = w; entry = k }) (tried_names c)

-- the first entry has number k
unfoldable pub candidates_from : ℕ → List Command → List Candidate
candidates_from k [] = []
candidates_from k (c ∷ cs) = candidates_of k c ++ candidates_from (suc k) cs

-- the entry whose name was taken, the comparisons made, and the state
pub record Tried : Type 0 where
  pub entry : Option ℕ
  pub comparisons : ℕ
  pub state : State

-- n comparisons were made before; the first name that is taken ends it
unfoldable pub try_names : List Item → ℕ → List Candidate → State → Outcome Tried
try_names is n [] s = ok (record { entry = none; comparisons = n; state = s })
try_names is n (c ∷ cs) s =
    take_cmd command_mark is c.word s >>= λ t.
    if t.answer
    then ok (record { entry = some c.entry; comparisons = suc n; state = t.state })
    else try_names is (suc n) cs t.state

-- ---- the run
-- on a match the scope becomes the matched place to the end, as in `ParseCommand`
unfoldable pub narrowed : State → Outcome State
narrowed s = elim s.current [ none ↦ ok s | some i ↦ set_scope s i s.end ]

-- the fields of an entry's form, which is always there
unfoldable pub fields_at : List Accepted → ℕ → List Tree
fields_at fs k = elim (get_elem? fs k) [ none ↦ [] | some a ↦ a.fields ]

-- 31: no command matched; else that form runs
unfoldable pub run_chosen : List Item → List Accepted → Tried → Outcome (Ran (List Value))
run_chosen is fs t = elim t.entry [
  | none ↦ ok (ended (refused (refuse 31 none)) t.state)
  | some k ↦ narrowed t.state >>= λ s. ok (run_all 0 is (fields_at fs k) s)
]

-- the comparisons made, the entry whose form ran, and how it ended
pub record Commanded : Type 0 where
  pub comparisons : ℕ
  pub entry : Option ℕ
  pub ran : Ran (List Value)

-- splitting's refusal stands, or the names are tried
unfoldable pub run_table : CommandTable → Line → Outcome Commanded
run_table t l = elim l.refusal [
  | some e ↦ ok (record { comparisons = 0; entry = none; ran = ended (refused e) l.state })
  | none ↦ try_names l.items 0 (candidates_from 0 t.commands) l.state >>= λ x.
      run_chosen l.items t.forms x >>= λ r.
      ok (record { comparisons = x.comparisons; entry = x.entry; ran = r })
]

-- ---- what is reported. The entry is the one whose form is at fault for 1 to 4, the matched one for 0 and 20 to 27
pub record CommandReport : Type 0 where
  pub report : Report
  pub comparisons : ℕ
  pub entry : Option ℕ

unfoldable pub command_report : (ni na nl : ℕ) → Line → Commanded → Outcome CommandReport
command_report ni na nl l c =
    report ni na nl l c.ran >>= λ r. ok (record { report = r; comparisons = c.comparisons; entry = c.entry })

-- 11, 1 to 7 and 14 leave what 1 leaves
unfoldable pub run_commands : (table sheet : List ℕ) (ni na nl : ℕ) → Outcome CommandReport
run_commands t s ni na nl = elim (commands_in t s ni na nl) [
  | ok x ↦ split_with (table_letters x.forms) s >>= λ l. run_table x l >>= command_report ni na nl l
  | refused e ↦ ok (record { report = refused_input ni na nl e.number e.place; comparisons = 0; entry = entry_at_fault t })
  | fault x ↦ fault x
]

-- ---- the form of an entry, as a part of the table
pub record TablePart : Type 0 where
  pub offset : ℕ
  pub size : ℕ

unfoldable pub form_part : List ℕ → ℕ → TablePart
form_part t k = record {
  offset = (area_start 4 (entry_count t) + offset 4 t k) + entry_form_at (entry_of 4 (entry_count t) t k);
  size = length (read_command (entry_of 4 (entry_count t) t k)).form;
}

-- 11; 28: there is no such entry. The forms are not looked at
unfoldable pub call_command_form : List ℕ → ℕ → Outcome TablePart
call_command_form t k = table_in t >>= λ cs. if ltb k (length cs) then ok (form_part t k) else refused (refuse 28 none)
