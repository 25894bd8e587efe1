-- The letters of all forms together, each once, in rising order.
use Rattle.std.specs.Prelude.{List, [], ◌∷◌, ◌++◌, ◌≡◌, ℕ, suc, ◌+◌, ◌≤◌, eqb, ltb, length, take, drop}
use Rattle.std.proofs.Math.Seq.{slice}
use Rattle.std.specs.Prelude.{if◌then◌else◌}
use Rattle.rules.specs.Outcome.{ok}
use Rattle.rules.specs.Form.{read_form}
use Rattle.rules.specs.Commands.{Command, table_in}
use Rattle.form_letters.specs.Letters.{letters_by_name}
use Rattle.split_arg.specs.Order.{Ascending}

-- a letter among others in rising order, unless it is there already
unfoldable pub put_in : ℕ → List ℕ → List ℕ
put_in x [] = x ∷ []
put_in x (y ∷ ys) = if ltb y x then y ∷ put_in x ys else (if eqb y x then y ∷ ys else x ∷ y ∷ ys)

-- one after the other
unfoldable pub put_all : List ℕ → List ℕ → List ℕ
put_all [] s = s
put_all (x ∷ xs) s = put_all xs (put_in x s)

-- the letters of a kind, 1 for flags and 2 for arguments, form by form
unfoldable pub gathered : ℕ → List Command → List ℕ → List ℕ
gathered kind [] s = s
gathered kind (c ∷ cs) s = gathered kind cs (put_all (letters_by_name (read_form c.form) kind) s)

-- x stored at a place; the words from there on, below n, go up by one
unfoldable pub opened : List ℕ → ℕ → ℕ → ℕ → List ℕ
opened o at n x = take at o ++ x ∷ slice at n o ++ drop (suc n) o

-- n letters in rising order at the start of o, and room for more behind them
pub record HasRoom (o : List ℕ) (n more : ℕ) : Type 0 where
  pub rising : Ascending (take n o)
  pub room : n + more ≤ length o

-- what is left: the n letters w at the start of o, whose rest is as it was
pub record Holds (o w o' : List ℕ) (n : ℕ) : Type 0 where
  pub words : o' ≡ w ++ drop n o
  pub count : n ≡ length w
  pub fits : n ≤ length o
  pub rising : Ascending w

-- these letters put in among the first n, and how many that makes
pub record Inserted (o : List ℕ) (n : ℕ) (xs o' : List ℕ) (r : ℕ) : Type 0 where
  pub holds : Holds o (put_all xs (take n o)) o' r
  pub least : n ≤ r
  pub most : r ≤ n + length xs

-- the letters of a kind of all forms of a table
pub record Gathered (t : List ℕ) (kind : ℕ) (o o' : List ℕ) (n : ℕ) : Type 0 where
  pub commands : List Command
  pub reads : table_in t ≡ ok commands
  pub holds : Holds o (gathered kind commands []) o' n
