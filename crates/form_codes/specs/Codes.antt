-- The short names of a form as numbers, a word for each name record.
use Rattle.std.specs.Prelude.{List, map, ◌≡◌, ℕ, ◌≤◌, eqb, length, take, drop}
use Rattle.std.proofs.lemmas.List.Edits.{sets}
use Rattle.std.specs.Prelude.{if◌then◌else◌}
use Rattle.rules.specs.Codes.{place_code}
use Rattle.rules.specs.Form.{Name, Form, name_count, read_form, name_bytes, one_character}
use Rattle.rules.specs.Tree.{Named, named_by}

-- the character of a short name plus 1; 0 for any other name
unfoldable pub code_of : List ℕ → Name → ℕ
code_of area x = if eqb x.type 0 then place_code (one_character (name_bytes area x)) else 0

unfoldable pub codes_of : Form → List ℕ
codes_of f = map (code_of f.area) f.names

-- a table of these, with room behind it
pub record CodedNames (b table : List ℕ) : Type 0 where
  pub long : name_count b ≤ length table
  pub same : take (name_count b) table ≡ codes_of (read_form b)

-- what `codes` leaves
pub record WroteCodes (b out out' : List ℕ) : Type 0 where
  pub same : out' ≡ sets out 0 (codes_of (read_form b))
  pub coded : CodedNames b out'

-- the names that `count` records from `first` on give
unfoldable pub names_from : List ℕ → ℕ → ℕ → List Name
names_from b first count = take count (drop first (read_form b).names)

unfoldable pub named_at : List ℕ → ℕ → ℕ → Named
named_at b first count = named_by (read_form b).area (names_from b first count)
