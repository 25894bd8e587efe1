-- Which flags and arguments each item matches, as bits: bit k of word i + 1 is set if item i has one of the names of node k.
use Rattle.std.specs.Prelude.{Bool, false, ◌&&◌, ◌||◌, List, ◌≡◌, ℕ, ◌+◌, ◌%◌, ◌≤◌, ◌<◌, eqb, length, get_or}
use Rattle.std.proofs.Math.Option.{some}
use Rattle.std.proofs.Math.ListN.{get_elem?}
use Rattle.rules.specs.Form.{Node, read_form}
use Rattle.rules.specs.Sheet.{sheet_area, sheet_fault}
use Rattle.rules.specs.Split.{Item}
use Rattle.rules.specs.Take.{matches_arg}
use Rattle.rules.specs.Calls.{item_from}
use Rattle.split_arg.specs.Items.{record_at}
use Rattle.form_layout.specs.Layout.{GoodNames}
use Rattle.form_codes.specs.Codes.{CodedNames, named_at}
use Rattle.take_search.specs.Items.{Table}
use Rattle.take_table.specs.Bits.{bit_at}

-- a flag or an argument
unfoldable pub is_named : Node → Bool
is_named x = eqb x.kind 1 || eqb x.kind 2

-- an adjacent argument
unfoldable pub is_adjacent : Node → Bool
is_adjacent x = eqb x.kind 2 && eqb (x.r % 2) 1

unfoldable pub node_matches : List ℕ → Node → Item → Bool
node_matches b x i = is_named x && matches_arg (named_at b x.p x.q) (is_adjacent x) i

-- the nodes of a form that pass a test, as a set
abbrev pub SetOf : List ℕ → (Node → Bool) → ℕ → Type 0
SetOf b test set = (k : ℕ) (y : Node) → get_elem? (read_form b).nodes k ≡ some y → bit_at set k ≡ test y

-- a form with the codes of its names, and n items to be matched
pub record Matchable (b codes s words : List ℕ) (n : ℕ) : Type 0 where
  pub checked : GoodNames b
  pub coded : CodedNames b codes
  pub made : sheet_fault s ≡ 0
  pub items : List Item
  pub table : Table (sheet_area s) words items
  pub inside : n ≤ length items

-- the nodes that match item i
abbrev pub MatchSet : List ℕ → List ℕ → List ℕ → ℕ → ℕ → Type 0
MatchSet b area words i set = (x : Item) → item_from area (record_at words i) ≡ some x → SetOf b (λ y. node_matches b y x) set

-- the table of the first n items; word 0 has every node that one of them matches
pub record Known (b area words : List ℕ) (n : ℕ) (table : List ℕ) : Type 0 where
  pub long : n < length table
  pub few : n ≤ 256
  pub at : (i : ℕ) (x : Item) → i < n → item_from area (record_at words i) ≡ some x
      → SetOf b (λ y. node_matches b y x) (get_or table (i + 1) 0)
  pub any : (k : ℕ) → bit_at (get_or table 0 0) k ≡ false → (i : ℕ) → i < n → bit_at (get_or table (i + 1) 0) k ≡ false

-- of the first n items, the bits of a node are a test; a node that word 0 does not have is in none of them
pub record TableTells (table : List ℕ) (n node : ℕ) (area words : List ℕ) (test : Item → Bool) : Type 0 where
  pub at : (i : ℕ) (x : Item) → i < n → item_from area (record_at words i) ≡ some x → bit_at (get_or table (i + 1) 0) node ≡ test x
  pub none : bit_at (get_or table 0 0) node ≡ false → (i : ℕ) → i < n → bit_at (get_or table (i + 1) 0) node ≡ false
