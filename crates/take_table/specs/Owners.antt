-- Which flags and arguments have a name record among their names, as bits.
use Rattle.std.specs.Prelude.{Bool, not, ◌&&◌, ◌||◌, List, ◌≡◌, ℕ, ◌+◌, ◌<◌, ◌≤◌, eqb, leb, ltb, length, get_or, replicate}
use Rattle.rules.specs.Base.{contains}
use Rattle.rules.specs.Form.{Node, name_count}
use Rattle.rules.specs.Take.{contains_name}
use Rattle.form_layout.specs.Layout.{GoodNames}
use Rattle.form_codes.specs.Codes.{CodedNames, named_at}
use Rattle.take_table.specs.Bits.{bit_at}
use Rattle.take_table.specs.Known.{is_named, is_adjacent, SetOf}

-- whether name record k is one of a node's names
unfoldable pub owns : Node → ℕ → Bool
owns x k = is_named x && (leb x.p k && ltb k (x.p + x.q))

-- room for the owners of `count` name records, all 0
pub record NoOwners (count : ℕ) (table : List ℕ) : Type 0 where
  pub long : count ≤ length table
  pub zeros : table ≡ replicate (length table) 0

-- for each name record, the nodes that have it
pub record Owners (b : List ℕ) (count : ℕ) (table : List ℕ) : Type 0 where
  pub long : count ≤ length table
  pub at : (k : ℕ) → k < count → SetOf b (λ x. owns x k) (get_or table k 0)

-- node n is added to the sets of its names
pub record Added (x : Node) (n count : ℕ) (table table' : List ℕ) : Type 0 where
  pub long : length table' ≡ length table
  pub at : (k : ℕ) → k < count → (m : ℕ) → bit_at (get_or table' k 0) m ≡ (bit_at (get_or table k 0) m || (eqb m n && owns x k))

-- any node but an adjacent argument: what it matches need not have its value in its own word
unfoldable pub is_loose : Node → Bool
is_loose x = not (is_adjacent x)

-- what it takes to look an item up
pub record Lookup (b codes : List ℕ) (count : ℕ) (table : List ℕ) (set : ℕ) : Type 0 where
  pub checked : GoodNames b
  pub coded : CodedNames b codes
  pub all : count ≡ name_count b
  pub owners : Owners b count table
  pub loose : SetOf b is_loose set

-- the nodes with a short name, or with a long one
unfoldable pub has_short : List ℕ → ℕ → Node → Bool
has_short b c x = is_named x && contains (named_at b x.p x.q).shorts c

unfoldable pub has_long : List ℕ → List ℕ → Node → Bool
has_long b name x = is_named x && contains_name (named_at b x.p x.q).longs name
