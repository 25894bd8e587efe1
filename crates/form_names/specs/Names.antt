-- Records of names in a slice of their own, and the lowest at fault.
use Rattle.std.specs.Prelude.{List, map, ℕ, ◌*◌}
use Rattle.std.proofs.Math.Option.{Option, some, none}
use Rattle.rules.specs.Base.{numbers}
use Rattle.rules.specs.Form.{Name, read_name}
use Rattle.form_names.specs.declared.Name as declared

-- the struct as the rules' record
abbrev pub name_of : declared.Name → Name
name_of x = record { type = x.kind; offset = x.offset; size = x.size }

-- n records one after the other
unfoldable pub names_in : List ℕ → ℕ → List Name
names_in s n = map (λ k. read_name s (6 * k)) (numbers n 0)

-- the place of a fault, or n if there is none
abbrev pub fault_or : ℕ → Option ℕ → ℕ
fault_or n none = n
fault_or n (some k) = k
