-- What demand 1 says: which inputs are run, under which numbers the others are refused, and what is then left.
use Rattle.std.specs.Prelude.{List, [], ◌⊎◌, ◌≡◌, ℕ, suc, ◌≤◌, ◌<◌, length, take, replicate}
use Rattle.std.proofs.Math.Option.{Option, some, none}
use Rattle.std.proofs.Math.ListN.{get_elem?}
use Rattle.rules.specs.Base.{occurrences}
use Rattle.rules.specs.Outcome.{ok}
use Rattle.rules.specs.Sheet.{argument_count, arguments}
use Rattle.rules.specs.Form.{Name, node_count, read_form}
use Rattle.rules.specs.Accept.{uses, letters_of}
use Rattle.rules.specs.Split.{Split, split_from, items_of, records_from}
use Rattle.rules.specs.State.{State, empty_state}
use Rattle.rules.specs.Run.{Line, Report, padded, split, run}
use Rattle.rules.specs.Demands.{All}
use Rattle.rules.specs.WellMade.{NameMade, NodesMade, CountsMade, WellMade, SheetMade}

-- ---- what is at fault
-- A form that is not well made, by number and place
pub data FormFault (b : List ℕ) : ℕ → Option ℕ → Type 0 where
  -- 1 form length or counts
  bad_counts : (CountsMade b → ⊥) → FormFault b 1 none
  -- 2 name record (lowest at fault)
  bad_name :
      (k : ℕ) (m : Name)
      → CountsMade b
      → All (NameMade (read_form b).area) (take k (read_form b).names)
      → get_elem? (read_form b).names k ≡ some m
      → (NameMade (read_form b).area m → ⊥)
      → FormFault b 2 (some k)
  -- 3 node (lowest at fault): with no kinds are it and all below it made
  bad_node :
      (k : ℕ)
      → CountsMade b
      → All (NameMade (read_form b).area) (read_form b).names
      → NodesMade (read_form b) k
      → (NodesMade (read_form b) (suc k) → ⊥)
      → FormFault b 3 (some k)
  -- 4 a field number ≥ n (no place)
  bad_field :
      (i k : ℕ)
      → CountsMade b
      → All (NameMade (read_form b).area) (read_form b).names
      → NodesMade (read_form b) (node_count b)
      → get_elem? (read_form b).fields i ≡ some k
      → node_count b ≤ k
      → FormFault b 4 none
  -- else the lowest node not used once
  bad_use :
      (k : ℕ)
      → CountsMade b
      → All (NameMade (read_form b).area) (read_form b).names
      → NodesMade (read_form b) (node_count b)
      → All (λ (j : ℕ). j < node_count b) (read_form b).fields
      → k < node_count b
      → (occurrences k (uses (read_form b)) ≡ 1 → ⊥)
      → ((j : ℕ) → j < k → occurrences j (uses (read_form b)) ≡ 1)
      → FormFault b 4 (some k)

-- A sheet that is not well made
pub data SheetFault (s : List ℕ) : ℕ → Type 0 where
  -- 6 more than 256 arguments, read before the offsets
  many_arguments : 2 ≤ length s → 256 < argument_count s → SheetFault s 6
  -- 5 any other fault of the sheet
  bad_sheet : (SheetMade s → ⊥) → (2 ≤ length s → argument_count s ≤ 256) → SheetFault s 5

-- what splitting a sheet under a form gives
abbrev pub Splits : List ℕ → List ℕ → Split → Type 0
Splits b s x = split_from (letters_of (read_form b)) 0 (arguments s) ≡ ok x

-- form bytes, sheet bytes and the lengths of item slice, answer slice and list slice, in the order of the numbers' rules
pub data AtFault (b s : List ℕ) (ni na nl : ℕ) : ℕ → Option ℕ → Type 0 where
  -- 1 to 4
  bad_form : (n : ℕ) (k : Option ℕ) → FormFault b n k → AtFault b s ni na nl n k
  -- 5 and 6
  sheet_at_fault : (n : ℕ) → WellMade b → SheetFault s n → AtFault b s ni na nl n none
  -- 7 item slice under 1,792 words or answer slice under 8,240
  short_slice : WellMade b → SheetMade s → (ni < 1792) ⊎ (na < 8240) → AtFault b s ni na nl 7 none
  -- 14 list slice under 192 words
  short_list : WellMade b → SheetMade s → 1792 ≤ ni → 8240 ≤ na → nl < 192 → AtFault b s ni na nl 14 none
  -- 8 more than 256 items
  many_items :
      (x : Split)
      → WellMade b → SheetMade s → 1792 ≤ ni → 8240 ≤ na → 192 ≤ nl
      → Splits b s x → 256 < length (items_of x)
      → AtFault b s ni na nl 8 none
  -- 9 ambiguous letter (place of the Word)
  ambiguous_letter :
      (x : Split) (i : ℕ)
      → WellMade b → SheetMade s → 1792 ≤ ni → 8240 ≤ na → 192 ≤ nl
      → Splits b s x → length (items_of x) ≤ 256 → x.ambiguous ≡ some i
      → AtFault b s ni na nl 9 (some i)

-- ---- what a refusal leaves
-- the items that splitting gave, each unparsed
pub record Kept (b s : List ℕ) (ni : ℕ) (items : List ℕ) (state : State) : Type 0 where
  pub given : Split
  pub splits : Splits b s given
  pub records : items ≡ padded ni (records_from 0 (arguments s) given.groups)
  pub count : length state.marks ≡ length (items_of given)
  pub unparsed : All (λ (m : ℕ). m ≡ 0) state.marks
  pub remaining : state.remaining ≡ length state.marks
  pub current : state.current ≡ none
  pub scope : (state.start ≡ 0) × (state.end ≡ length state.marks)

-- item slice and state. 1 to 8 and 14: all 0, an empty state. 9: items kept and unparsed
pub record ItemsLeft (b s : List ℕ) (ni number : ℕ) (items : List ℕ) (state : State) : Type 0 where
  pub cleared : (number ≡ 9 → ⊥) → (items ≡ replicate ni 0) × (state ≡ empty_state)
  pub kept : number ≡ 9 → Kept b s ni items state

-- answers 0, list 0, tries 0
pub record Left (b s : List ℕ) (ni na nl : ℕ) (r : Report) : Type 0 where
  pub tries : r.tries ≡ 0
  pub words : r.words ≡ []
  pub answers : r.answers ≡ replicate na 0
  pub list : r.list ≡ replicate nl 0
  pub items : ItemsLeft b s ni r.number r.items r.state

-- ---- demand 1
-- A well-made form and sheet that splits without refusal, with buffers of the stated length
pub record Ready (b s : List ℕ) (ni na nl : ℕ) : Type 0 where
  pub form : WellMade b
  pub sheet : SheetMade s
  pub items : 1792 ≤ ni
  pub answers : 8240 ≤ na
  pub list : 192 ≤ nl
  pub line : Line
  pub splits : split (read_form b) s ≡ ok line
  pub unrefused : line.refusal ≡ none

-- accepted, or refused because of the state
abbrev pub RunNumber : ℕ → Type 0
RunNumber n = (n ≡ 0) ⊎ ((20 ≤ n) × (n ≤ 27))

-- Such an input is run to its end and answered; everything else is refused under a number from 1 to 9 or 14, by what is at fault,
-- and what is at fault tells number and place. All three slices are filled, the list with 0 but for 20
pub record Demand1 (b s : List ℕ) (ni na nl : ℕ) : Type 0 where
  pub report : Report
  pub answered : run b s ni na nl ≡ ok report
  pub number :
      (Ready b s ni na nl × RunNumber report.number)
      ⊎ ((Ready b s ni na nl → ⊥) × AtFault b s ni na nl report.number report.place × Left b s ni na nl report)
  pub told : (n : ℕ) (k : Option ℕ) → AtFault b s ni na nl n k → (report.number ≡ n) × (report.place ≡ k)
  pub items : length report.items ≡ ni
  pub answers : length report.answers ≡ na
  pub list : length report.list ≡ nl
  pub unlisted : (report.number ≡ 20 → ⊥) → report.list ≡ replicate nl 0
