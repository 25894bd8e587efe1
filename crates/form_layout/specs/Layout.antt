-- A node as it is read, and the bytes of a name.
use Rattle.std.specs.Prelude.{true, List, ◌≡◌, ℕ, ◌<◌}
use Rattle.std.proofs.Math.Option.{Option, some, none}
use Rattle.std.proofs.Math.ListN.{get_elem?}
use Rattle.rules.specs.Base.{first_fault}
use Rattle.rules.specs.Form.{Node, Form, name_count, read_form, name_bytes, name_good}
use Rattle.rules.specs.Accept.{length_good}
use Rattle.form_layout.specs.declared.Node as declared
use Rattle.form_layout.specs.Kinds.{kind_number}

-- the struct as the rules' record
abbrev pub node_of : declared.Node → Node
node_of x = record { kind = kind_number x.kind; p = x.p; q = x.q; r = x.r; lo = x.lo; hi = x.hi }

-- the bytes of name record k, if there is one
unfoldable pub name_bytes_at : Form → ℕ → Option (List ℕ)
name_bytes_at f k = elim (get_elem? f.names k) [ none ↦ none | some x ↦ some (name_bytes f.area x) ]

-- a form of the right length whose name records are good
pub record GoodNames (b : List ℕ) : Type 0 where
  pub good : length_good b ≡ true
  pub names : first_fault (name_good (read_form b).area) 0 (read_form b).names ≡ none

-- one of the good name records of a form
pub record HasName (b : List ℕ) (k : ℕ) : Type 0 where
  pub good : length_good b ≡ true
  pub names : first_fault (name_good (read_form b).area) 0 (read_form b).names ≡ none
  pub below : k < name_count b
