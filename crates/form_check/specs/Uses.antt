-- The greatest code, how often each node is used, and the lowest name record at fault.
use Rattle.std.specs.Prelude.{Bool, true, ◌&&◌, List, [], ◌∷◌, ◌≡◌, ℕ, ◌+◌, max, ltb, length, get_or, set}
use Rattle.std.specs.Prelude.{if◌then◌else◌}
use Rattle.rules.specs.Base.{all, first_fault}
use Rattle.rules.specs.Form.{Form, name_good}
use Rattle.form_names.specs.Names.{fault_or}

unfoldable pub greatest : List ℕ → ℕ
greatest [] = 0
greatest (x ∷ xs) = max x (greatest xs)

-- one more use of node k, up to 2; there are at most 64 nodes
unfoldable pub added : List ℕ → ℕ → List ℕ
added c k = if ltb k 64 && ltb (get_or c k 0) 2 then set c k (get_or c k 0 + 1) else c

unfoldable pub tally : List ℕ → List ℕ → List ℕ
tally c [] = c
tally c (k ∷ ks) = tally (added c k) ks

-- whether all fields are below n, and if so the counts with them in
pub record FieldsCounted (n : ℕ) (fields before after : List ℕ) (good : Bool) : Type 0 where
  pub nodes : good ≡ all (λ k. ltb k n) fields
  pub counts : good ≡ true → after ≡ tally before fields

unfoldable pub records_fault : Form → ℕ
records_fault f = fault_or (length f.names) (first_fault (name_good f.area) 0 f.names)
