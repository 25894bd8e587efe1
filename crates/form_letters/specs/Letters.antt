-- Words written to the start of a slice, and the letter that a code stands for.
use Rattle.std.specs.Prelude.{Bool, List, [], ◌∷◌, ◌++◌, ◌≡◌, ℕ, zero, suc, ◌+◌, length}
use Rattle.std.proofs.lemmas.List.Edits.{sets}
use Rattle.std.specs.Prelude.{if◌then◌else◌}
use Rattle.rules.specs.Form.{Name, Form, read_form}
use Rattle.rules.specs.Tree.{short_of}
use Rattle.form_letters.specs.Classes.{names_record}

-- the short names of the records that are wanted, in their order; the first record has number k
unfoldable pub letters_from : List ℕ → (ℕ → Bool) → ℕ → List Name → List ℕ
letters_from area wanted k [] = []
letters_from area wanted k (m ∷ ms) = (if wanted k then short_of area m else []) ++ letters_from area wanted (suc k) ms

-- the letters of the nodes of a kind, 1 for flags and 2 for arguments, in the order of the name records
abbrev pub letters_by_name : Form → ℕ → List ℕ
letters_by_name f kind = letters_from f.area (names_record f.nodes kind) 0 f.names

-- words at the start of o, the rest unchanged, and their number
pub record WroteWords (o w o' : List ℕ) (n : ℕ) : Type 0 where
  pub words : o' ≡ sets o 0 w
  pub count : n ≡ length w

abbrev pub WroteLetters : List ℕ → ℕ → List ℕ → List ℕ → ℕ → Type 0
WroteLetters b kind o o' n = WroteWords o (letters_by_name (read_form b) kind) o' n

-- 0 is no letter, else the letter plus 1
unfoldable pub letter_list : ℕ → List ℕ
letter_list zero = []
letter_list (suc c) = c ∷ []

-- the letter of a code, if it is wanted
unfoldable pub letter_if : Bool → ℕ → List ℕ
letter_if wanted code = if wanted then letter_list code else []

-- these words behind the first n, and how many there are then
pub record Appended (o : List ℕ) (n : ℕ) (w o' : List ℕ) (r : ℕ) : Type 0 where
  pub words : o' ≡ sets o n w
  pub count : r ≡ n + length w
