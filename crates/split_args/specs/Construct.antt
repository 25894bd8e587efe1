-- What `construct` and its parts leave: the line of a sheet, its records in the item slice, and its state.
use Rattle.std.specs.Prelude.{◌≡◌, Bool, true, not, ◌||◌, List, [], ◌∷◌, ℕ, zero, suc, ◌+◌, ◌-◌, ◌*◌, ◌≤◌, eqb, length, set, replicate, take}
use Rattle.std.proofs.Math.Option.{Option, some, none}
use Rattle.std.specs.Prelude.{if◌then◌else◌}
use Rattle.rules.specs.Outcome.{Outcome, ok, ◌>>=◌, Refusal}
use Rattle.rules.specs.Sheet.{sheet_fault, arguments}
use Rattle.rules.specs.Accept.{Letters}
use Rattle.rules.specs.Split.{dash, PosWord, Group, plain, split_argument, split_from}
use Rattle.rules.specs.Run.{Line, line_of, padded}
use Rattle.rules.specs.Calls.{to_raw}
use Rattle.rules.specs.Codes.{place_code}
use Rattle.rules.specs.declared.State.{State}
use Rattle.state_marks.specs.Written.{marker_number}
use Rattle.split_args.specs.declared.Ended.{Ended}

-- the group of an argument, where the first `--` was seen at a place (plus 1) or not
unfoldable pub group_at : Letters → ℕ → List ℕ → Outcome Group
group_at l zero os = split_argument l os
group_at l (suc i) os = ok (plain (PosWord os ∷ []))

abbrev pub marker_after : ℕ → Bool → ℕ → ℕ
marker_after marker first at = if first then at + 1 else marker

-- an argument that is no cluster, so that no letter of it is looked up: a cluster has three bytes or more, and one dash
unfoldable pub plain_argument : List ℕ → Bool
plain_argument [] = true
plain_argument (a ∷ []) = true
plain_argument (a ∷ b ∷ []) = true
plain_argument (a ∷ b ∷ c ∷ s) = not (eqb a dash) || eqb b dash

-- the state of n items, all unparsed but for the first `--`
unfoldable pub starting_state : ℕ → ℕ → State
starting_state n zero = record { marks = replicate 256 0; count = n; remaining = n; current = 0; start = 0; end = n }
starting_state n (suc i) = record { marks = set (replicate 256 0) i marker_number; count = n; remaining = n - 1; current = 0; start = 0; end = n }

-- the place of the first `--` is one of the items
pub record MarkerWithin (n marker : ℕ) : Type 0 where
  pub few : n ≤ 256
  pub within : marker ≤ n

-- marks of which none is set
pub record Unmarked (m : List ℕ) : Type 0 where
  pub zeros : m ≡ replicate 256 0

-- a sheet that was checked, and room for 256 records
pub record SheetAndRoom (sheet items : List ℕ) : Type 0 where
  pub checked : sheet_fault sheet ≡ 0
  pub room : 1792 ≤ length items

-- the line of a sheet, for any letters: `split` is this for those of a form
abbrev pub line_for : Letters → List ℕ → Outcome Line
line_for l s = split_from l 0 (arguments s) >>= line_of (arguments s)

abbrev pub refusal_number : Option Refusal → ℕ
refusal_number none = 0
refusal_number (some e) = e.number

abbrev pub refusal_place : Option Refusal → ℕ
refusal_place none = 0
refusal_place (some e) = place_code e.place

-- the records of the items stand at the start of the slice
pub record SplitWrites (l : Letters) (sheet items : List ℕ) (r : Ended) : Type 0 where
  pub line : Line
  pub same : line_for l sheet ≡ ok line
  pub number : r.number ≡ refusal_number line.refusal
  pub place : r.place ≡ refusal_place line.refusal
  pub words : take (7 * r.count) items ≡ line.records
  pub marked : MarkerWithin r.count r.marker
  pub state : starting_state r.count r.marker ≡ to_raw line.state

-- and zeros behind them
pub record SplitEnds (l : Letters) (sheet : List ℕ) (n : ℕ) (items : List ℕ) (r : Ended) : Type 0 where
  pub line : Line
  pub same : line_for l sheet ≡ ok line
  pub number : r.number ≡ refusal_number line.refusal
  pub place : r.place ≡ refusal_place line.refusal
  pub words : items ≡ padded n line.records
  pub marked : MarkerWithin r.count r.marker
  pub state : starting_state r.count r.marker ≡ to_raw line.state
