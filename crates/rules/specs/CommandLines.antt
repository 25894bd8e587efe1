-- Lines under a table of two commands, `wear` with the flag v and `log` with the argument v: what is reported of each.
use Rattle.std.specs.Prelude.{List, [], ◌∷◌, ◌++◌, ℕ, length}
use Rattle.std.proofs.Math.Option.{Option, some, none}
use Rattle.rules.specs.Base.{concat_map}
use Rattle.rules.specs.Form.{Name, Form}
use Rattle.rules.specs.Split.{dash}
use Rattle.rules.specs.Encode.{words_of, encode_table, encode_name, encode_form}
use Rattle.rules.specs.Lines.{a, l, v, w, switch, text_argument, optional, letter, long}
use Rattle.rules.specs.Commands.{CommandReport}

-- ---- the bytes of an entry
unfoldable pub encode_entry : List Name → List ℕ → List ℕ → List ℕ
encode_entry names area form = words_of 2 (length names ∷ length area ∷ []) ++ (concat_map encode_name names ++ (area ++ form))

-- ---- the table
abbrev pub wear : List ℕ
wear = w ∷ 101 ∷ a ∷ 114 ∷ []

abbrev pub log : List ℕ
log = l ∷ 111 ∷ 103 ∷ []

abbrev pub wear_form : Form
wear_form = record { fields = 0 ∷ []; nodes = switch 0 ∷ []; names = letter 0 ∷ []; area = v ∷ [] }

abbrev pub log_form : Form
log_form = record { fields = 1 ∷ []; nodes = text_argument 0 ∷ optional 0 ∷ []; names = letter 0 ∷ []; area = v ∷ [] }

-- a short name may stand before a long one
unfoldable pub wear_entry : List ℕ
wear_entry = encode_entry (letter 0 ∷ long 0 4 ∷ []) wear (encode_form wear_form)

unfoldable pub log_entry : List ℕ
log_entry = encode_entry (long 0 3 ∷ letter 0 ∷ []) log (encode_form log_form)

unfoldable pub wear_log : List ℕ
wear_log = encode_table (wear_entry ∷ log_entry ∷ [])

-- `log` with no form; and with no name
unfoldable pub unformed : List ℕ
unformed = encode_table (wear_entry ∷ encode_entry (long 0 3 ∷ []) log [] ∷ [])

unfoldable pub unnamed : List ℕ
unnamed = encode_table (encode_entry (long 0 4 ∷ []) wear [] ∷ encode_entry [] log (encode_form log_form) ∷ [])

-- ---- lines
-- the numbers reported, the marks, and the answer words
pub record CommandLine : Type 0 where
  pub table : List ℕ
  pub arguments : List (List ℕ)
  pub number : ℕ
  pub place : Option ℕ
  pub entry : Option ℕ
  pub comparisons : ℕ
  pub current : Option ℕ
  pub marks : List ℕ
  pub words : List ℕ

-- what a line's report has of them
unfoldable pub line_reported : List ℕ → List (List ℕ) → CommandReport → CommandLine
line_reported t s x = record {
  table = t;
  arguments = s;
  number = x.report.number;
  place = x.report.place;
  entry = x.entry;
  comparisons = x.comparisons;
  current = x.report.state.current;
  marks = x.report.state.marks;
  words = x.report.words;
}

abbrev flag_v : List ℕ
flag_v = dash ∷ v ∷ []

abbrev twice : List ℕ
twice = dash ∷ v ∷ v ∷ []

abbrev refusal : (table : List ℕ) (arguments : List (List ℕ)) (number comparisons : ℕ) → (place entry : Option ℕ) → (marks : List ℕ) → CommandLine
refusal t s n c p e m =
    record { table = t; arguments = s; number = n; place = p; entry = e; comparisons = c; current = none; marks = m; words = [] }

abbrev answer : (arguments : List (List ℕ)) (entry comparisons current : ℕ) → (marks words : List ℕ) → CommandLine
answer s e c i m ws =
    record { table = wear_log; arguments = s; number = 0; place = none; entry = some e; comparisons = c; current = some i; marks = m; words = ws }

unfoldable pub command_lines : List CommandLine
command_lines =
    -- `wear`, `w -v`, `log`
    answer (wear ∷ []) 0 1 0 (511 ∷ []) (0 ∷ []) ∷
    answer ((w ∷ []) ∷ flag_v ∷ []) 0 2 1 (511 ∷ 512 ∷ []) (1 ∷ []) ∷
    answer (log ∷ []) 1 3 0 (511 ∷ []) (0 ∷ []) ∷
    -- a letter that is a flag in one form and an argument in another is ambiguous in a cluster, under every command
    refusal wear_log (wear ∷ twice ∷ []) 9 0 (some 1) none (0 ∷ 0 ∷ []) ∷
    -- no command: another word, none, an option first, one behind `--`
    refusal wear_log ((a ∷ []) ∷ []) 31 4 none none (0 ∷ []) ∷
    refusal wear_log [] 31 4 none none [] ∷
    refusal wear_log (flag_v ∷ wear ∷ []) 31 4 none none (0 ∷ 0 ∷ []) ∷
    refusal wear_log ((dash ∷ dash ∷ []) ∷ wear ∷ []) 31 4 none none (510 ∷ 0 ∷ []) ∷
    -- 11 of the last entry comes before 1 of the first form
    refusal unformed (wear ∷ []) 1 0 none (some 1) [] ∷
    refusal unnamed (wear ∷ []) 11 0 none none [] ∷ []
