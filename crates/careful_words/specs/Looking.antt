-- A line that is looked at place by place.
use Rattle.std.specs.Prelude.{Bool, false, List, ◌≡◌, ℕ, ◌*◌, ◌≤◌, ◌<◌, eqb, length}
use Rattle.std.proofs.Math.Option.{some, none}
use Rattle.std.proofs.Math.ListN.{get_elem?}
use Rattle.std.specs.Prelude.{if◌then◌else◌}
use Rattle.rules.specs.Outcome.{ok}
use Rattle.rules.specs.Sheet.{sheet_area, sheet_fault, arguments}
use Rattle.rules.specs.Accept.{Letters}
use Rattle.rules.specs.Split.{Item, Short, Long, ArgWord, Word, PosWord, Split, split_from, items_of}
use Rattle.rules_careful.specs.Careful.{looks_like_options, is_misread, first_misread}
use Rattle.take_search.specs.Items.{Table}

-- a Word, and its text looks like options
unfoldable pub looks_word : Item → Bool
looks_word (Short c a t) = false
looks_word (Long n a t) = false
looks_word (ArgWord t) = false
looks_word (Word t) = looks_like_options t
looks_word (PosWord t) = false

-- the line that a sheet is under some letters, whose records are the words
pub record LineIs (s words : List ℕ) (count : ℕ) (l : Letters) (x : Split) : Type 0 where
  pub splits : split_from l 0 (arguments s) ≡ ok x
  pub clear : x.ambiguous ≡ none
  pub made : sheet_fault s ≡ 0
  pub table : Table (sheet_area s) words (items_of x)
  pub long : length (items_of x) ≡ count
  pub few : count ≤ 256

pub record HasLine (s words : List ℕ) (count : ℕ) : Type 0 where
  pub letters : Letters
  pub given : Split
  pub line : LineIs s words count letters given

-- the first word of one of the records
pub record BeginsRecord (count at : ℕ) : Type 0 where
  pub place : ℕ
  pub here : at ≡ 7 * place
  pub below : place < count

-- whether the item whose record begins at a word is a Word that looks like options
pub record WordLooks (s words : List ℕ) (count at : ℕ) (r : Bool) : Type 0 where
  pub same : (i : ℕ) → at ≡ 7 * i → (l : Letters) (x : Split) → LineIs s words count l x → (y : Item) → get_elem? (items_of x) i ≡ some y → r ≡ looks_word y

-- whether its place is misread
pub record LooksAt (s words : List ℕ) (count at : ℕ) (r : Bool) : Type 0 where
  pub same : (i : ℕ) → at ≡ 7 * i → (l : Letters) (x : Split) → LineIs s words count l x → r ≡ is_misread (arguments s) x.groups i

-- the lowest place that is, from a place on, or the count
pub record Finds (s words : List ℕ) (from count r : ℕ) : Type 0 where
  pub within : r ≤ count
  pub same : (l : Letters) (x : Split) → LineIs s words count l x
      → first_misread from (arguments s) x.groups ≡ (if eqb r count then none else some r)
