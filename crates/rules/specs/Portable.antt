-- Document 02, request four: what the portable mark says, and what it does not look at.
use Rattle.std.specs.Prelude.{Bool, true, ◌&&◌, List, [], ◌∷◌, ◌++◌, ◌⊎◌, ◌≡◌, ℕ, ◌≤◌}
use Rattle.std.proofs.Math.Option.{some}
use Rattle.rules.specs.Base.{all}
use Rattle.rules.specs.Outcome.{ok}
use Rattle.rules.specs.Form.{Node, Name, Form, name_bytes, one_character, portable_name, portable}
use Rattle.rules.specs.Calls.{call_portable}
use Rattle.rules.specs.Encode.{encode_form}
use Rattle.rules.specs.Lines.{switch, positional, optional, many, guard, letter, long, node}
use Rattle.rules.specs.Demands.{All}

-- POSIX chapter 12, guideline 3: alphanumeric, so 0..9 belong; `-W` is reserved for vendor options
pub record InPortableSet (c : ℕ) : Type 0 where
  pub alphanumeric : ((48 ≤ c) × (c ≤ 57)) ⊎ (((65 ≤ c) × (c ≤ 90)) ⊎ ((97 ≤ c) × (c ≤ 122)))
  pub not_vendors : c ≡ 87 → ⊥

-- a name record of type 0 is one such character; of another type it may be anything
abbrev pub Passes : List ℕ → Name → Type 0
Passes area x = x.type ≡ 0 → (c : ℕ) × (one_character (name_bytes area x) ≡ some c) × InPortableSet c

-- the mark of a list of names over an area: that of a form is the mark of its names
abbrev pub mark_of : List ℕ → List Name → Bool
mark_of area xs = all (portable_name area) xs

-- the form of `wear`: `-l` or `--limit`, `-1` to `-6`, a label and parts
abbrev pub wear : Form
wear = record {
  fields = 2 ∷ 3 ∷ 4 ∷ 5 ∷ 6 ∷ 7 ∷ 8 ∷ 9 ∷ 11 ∷ [];
  nodes =
      node 2 0 2 2 ∷ guard 0 1 9999 ∷ optional 1 ∷
      switch 2 ∷ switch 3 ∷ switch 4 ∷ switch 5 ∷ switch 6 ∷ switch 7 ∷
      positional ∷
      positional ∷ many 10 ∷ [];
  names = letter 0 ∷ long 1 5 ∷ letter 6 ∷ letter 7 ∷ letter 8 ∷ letter 9 ∷ letter 10 ∷ letter 11 ∷ [];
  area = 108 ∷ 108 ∷ 105 ∷ 109 ∷ 105 ∷ 116 ∷ 49 ∷ 50 ∷ 51 ∷ 52 ∷ 53 ∷ 54 ∷ [];
}

pub record PortableMark : Type 0 where
  -- yes exactly when every name record of type 0 is in the set
  pub yes : (f : Form) → portable f ≡ true → All (Passes f.area) f.names
  pub only : (f : Form) → All (Passes f.area) f.names → portable f ≡ true
  -- records of types 1 and 2 do not matter: the mark is the same with them and without
  pub others :
      (area : List ℕ) (xs : List Name) (x : Name) (ys : List Name)
      → (x.type ≡ 0 → ⊥)
      → mark_of area (xs ++ (x ∷ ys)) ≡ mark_of area (xs ++ ys)
  -- a record that no node uses counts too: fields and nodes are not looked at
  pub unused :
      (f : Form) (fields : List ℕ) (nodes : List Node)
      → portable (record { fields = fields; nodes = nodes; names = f.names; area = f.area }) ≡ portable f
  -- two lists of names put together
  pub joined : (area : List ℕ) (xs ys : List Name) → mark_of area (xs ++ ys) ≡ (mark_of area xs && mark_of area ys)
  -- the six lock cradles
  pub cradles : call_portable (encode_form wear) ≡ ok true
