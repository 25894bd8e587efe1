-- A place of a line, and the letter for which its argument was withdrawn.
use Rattle.std.specs.Prelude.{Bool, List, [], ◌∷◌, ◌≡◌, ℕ, ◌<◌, length, Option as CodeOption, Some, None}
use Rattle.std.proofs.Math.Option.{Option, some, none}
use Rattle.std.proofs.Math.ListN.{get_elem?}
use Rattle.rules.specs.Base.{◌>>?◌}
use Rattle.rules.specs.Outcome.{ok}
use Rattle.rules.specs.Sheet.{sheet_area, sheet_fault, arguments}
use Rattle.rules.specs.Form.{read_form}
use Rattle.rules.specs.Accept.{Accepted, accepted, check_form, Letters, letters_of}
use Rattle.rules.specs.Split.{Item, Word, Letter, cluster_from, plain, split_argument, Split, split_from}
use Rattle.rules.specs.WhyAnswered.{behind_adjacent}
use Rattle.rules.specs.Why.{LeftPlace, line_items, cluster_letters, first_unknown, unknown_in}
use Rattle.form_codes.specs.Codes.{CodedNames}
use Rattle.take_search.specs.Items.{Table}

abbrev pub letter_of : CodeOption ℕ → Option ℕ
letter_of None = none
letter_of (Some c) = some c

-- place i of the line that a sheet is under a form, whose records are the words
pub record LinePlace (b s words : List ℕ) (i : ℕ) (x : LeftPlace) : Type 0 where
  pub form : x.form ≡ read_form b
  pub args : x.arguments ≡ arguments s
  pub given : Split
  pub splits : split_from (letters_of (read_form b)) 0 (arguments s) ≡ ok given
  pub clear : given.ambiguous ≡ none
  pub groups : x.groups ≡ given.groups
  pub place : x.place ≡ i
  pub made : sheet_fault s ≡ 0
  pub table : Table (sheet_area s) words (line_items x)
  pub below : i < length (line_items x)

-- such a place, of an accepted form with the codes of its names
pub record CanExplain (b codes s words : List ℕ) (i : ℕ) : Type 0 where
  pub result : Accepted
  pub accepts : check_form b ≡ accepted result
  pub coded : CodedNames b codes
  pub spot : LeftPlace
  pub line : LinePlace b s words i spot

-- ---- what each part tells
-- a letter is a character
pub record SmallLetter (r : CodeOption ℕ) : Type 0 where
  pub small : (c : ℕ) → letter_of r ≡ some c → c < 1114112

pub record RestTold (words : List ℕ) (i : ℕ) (r : Bool) : Type 0 where
  pub same : (area : List ℕ) (is : List Item) → Table area words is → i < length is → r ≡ behind_adjacent is i

-- the first unknown letter of a name
pub record LetterTold (l : Letters) (name : List ℕ) (r : CodeOption ℕ) : Type 0 where
  pub letter : SmallLetter r
  pub same : (ls : List Letter) → cluster_from 0 0 name ≡ ok ls → letter_of r ≡ first_unknown l ls

-- the first unknown letter of an argument that became one Word
pub record ClusterTold (l : Letters) (os : List ℕ) (r : CodeOption ℕ) : Type 0 where
  pub letter : SmallLetter r
  pub same : split_argument l os ≡ ok (plain (Word os ∷ [])) → letter_of r ≡ (cluster_letters os >>? first_unknown l)

-- of a place
pub record UnknownTold (b s words : List ℕ) (i : ℕ) (r : CodeOption ℕ) : Type 0 where
  pub letter : SmallLetter r
  pub same : (x : LeftPlace) (y : Item) → LinePlace b s words i x → get_elem? (line_items x) i ≡ some y → letter_of r ≡ unknown_in x y
