-- An item, and the nodes that may have its name.
use Rattle.std.specs.Prelude.{Bool, not, List, ◌≡◌, ℕ}
use Rattle.std.proofs.Math.Option.{some}
use Rattle.std.proofs.Math.ListN.{get_elem?}
use Rattle.rules.specs.Base.{all}
use Rattle.rules.specs.Form.{Node, read_form}
use Rattle.rules.specs.Accept.{Accepted, accepted, check_form}
use Rattle.rules.specs.Split.{Item}
use Rattle.rules.specs.Calls.{item_from}
use Rattle.rules.specs.Why.{names_item}
use Rattle.split_arg.specs.Items.{record_at}
use Rattle.form_codes.specs.Codes.{CodedNames}
use Rattle.take_search.specs.Search.{HasItem}

-- an accepted form with the codes of its names, and an item
pub record CanName (b codes s words : List ℕ) (i : ℕ) : Type 0 where
  pub result : Accepted
  pub accepts : check_form b ≡ accepted result
  pub coded : CodedNames b codes
  pub item : HasItem s words i

-- whether node n names item i
pub record NodeNames (b area words : List ℕ) (i n : ℕ) (r : Bool) : Type 0 where
  pub same : (y : Item) (x : Node) → item_from area (record_at words i) ≡ some y → get_elem? (read_form b).nodes n ≡ some x → r ≡ names_item (read_form b) y x

-- whether a node of the form does
pub record FormNames (b area words : List ℕ) (i : ℕ) (r : Bool) : Type 0 where
  pub same : (y : Item) → item_from area (record_at words i) ≡ some y → r ≡ not (all (λ x. not (names_item (read_form b) y x)) (read_form b).nodes)
