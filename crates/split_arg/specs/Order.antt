-- Which lists of letters can be looked up in: short ones, and those in rising order.
use Rattle.std.specs.Prelude.{List, ℕ, ◌≤◌, ◌<◌, length, get_or}

-- each letter is above all before it, so that none is there twice
pub record Ascending (s : List ℕ) : Type 0 where
  pub rises : (i j : ℕ) → i < j → j < length s → get_or s i 0 < get_or s j 0

-- a list of at most 128 letters is scanned, whatever its order
pub record Searchable (s : List ℕ) : Type 0 where
  pub order : 128 < length s → Ascending s

pub record CanLookUp (flags arguments : List ℕ) : Type 0 where
  pub in_flags : Searchable flags
  pub in_arguments : Searchable arguments

-- the place of a letter: those before it are below the letter, and the others are not
pub record Parted (s : List ℕ) (letter place : ℕ) : Type 0 where
  pub within : place ≤ length s
  pub below : (i : ℕ) → i < place → get_or s i 0 < letter
  pub above : (i : ℕ) → place ≤ i → i < length s → letter ≤ get_or s i 0
