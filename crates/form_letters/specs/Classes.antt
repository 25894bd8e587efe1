-- Which kinds of nodes have a name record among their names, as bits: 1 for a flag, 2 for an argument.
use Rattle.std.specs.Prelude.{Bool, true, false, ◌&&◌, ◌||◌, List, [], ◌∷◌, ◌≡◌, ℕ, ◌+◌, ◌≤◌, ◌<◌, leb, eqb, ltb, length, get_or}
use Rattle.std.specs.Int.Bits.{bit_or}
use Rattle.rules.specs.Form.{Node}

-- whether some node of a kind has name record k among its names
unfoldable pub names_record : List Node → ℕ → ℕ → Bool
names_record [] kind k = false
names_record (x ∷ xs) kind k = (eqb x.kind kind && leb x.p k && ltb k (x.p + x.q)) || names_record xs kind k

unfoldable pub bits : Bool → Bool → ℕ
bits false false = 0
bits true false = 1
bits false true = 2
bits true true = 3

-- the bits of name record k by these nodes
unfoldable pub class_of : List Node → ℕ → ℕ
class_of xs k = bits (names_record xs 1 k) (names_record xs 2 k)

-- the classes of the first `count` records
pub record Classed (xs : List Node) (count : ℕ) (table : List ℕ) : Type 0 where
  pub few : count ≤ 128
  pub long : length table ≡ 128
  pub at : (k : ℕ) → k < count → get_or table k 0 ≡ class_of xs k

-- a bit is set from `first` on, up to `end`
pub record MarkedBits (bit first end : ℕ) (table table' : List ℕ) : Type 0 where
  pub long : length table' ≡ length table
  pub inside : (k : ℕ) → first ≤ k → k < end → get_or table' k 0 ≡ bit_or (get_or table k 0) bit
  pub outside : (k : ℕ) → (first ≤ k → k < end → ⊥) → get_or table' k 0 ≡ get_or table k 0
