-- Item records as the rules' items.
use Rattle.std.specs.Prelude.{Bool, ◌||◌, List, ◌≡◌, ℕ, ◌+◌, ◌*◌, ◌≤◌, eqb, length, take, drop}
use Rattle.std.proofs.Math.Option.{some}
use Rattle.std.proofs.Math.ListN.{get_elem?}
use Rattle.rules.specs.Calls.{item_from}
use Rattle.rules.specs.Sheet.{sheet_area, sheet_fault}
use Rattle.rules.specs.Split.{Item}
use Rattle.split_arg.specs.declared.Part.{Part}

-- The first records of `words` are the items `is`, whose parts lie in `area`.
pub record Table (area words : List ℕ) (is : List Item) : Type 0 where
  pub room : 7 * length is ≤ length words
  pub at : (i : ℕ) (x : Item) → get_elem? is i ≡ some x → item_from area (take 7 (drop (7 * i) words)) ≡ some x

-- a part of the sheet's area
unfoldable pub part_bytes : List ℕ → Part → List ℕ
part_bytes area x = take x.length (drop x.offset area)

pub record HasPart (s : List ℕ) (x : Part) : Type 0 where
  pub made : sheet_fault s ≡ 0
  pub inside : x.offset + x.length ≤ length (sheet_area s)

-- the kinds of Word and PosWord
unfoldable pub operand_kind : ℕ → Bool
operand_kind k = eqb k 4 || eqb k 5
