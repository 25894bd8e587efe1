-- The codes of all nodes, and a table of those that are known.
use Rattle.std.specs.Prelude.{true, List, [], ◌∷◌, ◌++◌, ◌≡◌, ℕ, zero, suc, ◌<◌, leb, length, get_or}
use Rattle.std.proofs.Math.Option.{some, none}
use Rattle.std.proofs.Math.ListN.{get_elem?}
use Rattle.std.specs.Prelude.{if◌then◌else◌}
use Rattle.rules.specs.Form.{Node, Form, node_count, read_form}
use Rattle.rules.specs.Accept.{length_good}
use Rattle.form_kinds.specs.Kinds.{leaf_code, inner_code, child_q}

-- the code of node n, from those of the nodes below it; 0 where there is no such node
unfoldable pub ruled : Form → List ℕ → Node → ℕ
ruled f cs x = if leb x.kind 3 then leaf_code f x else inner_code f x (get_or cs x.p 0) (get_or cs (child_q x) 0)

unfoldable pub code_by : Form → List ℕ → ℕ → ℕ
code_by f cs n = elim (get_elem? f.nodes n) [ none ↦ 0 | some x ↦ ruled f cs x ]

-- the codes of the nodes below n
unfoldable pub codes : Form → ℕ → List ℕ
codes f zero = []
codes f (suc n) = codes f n ++ (code_by f (codes f n) n ∷ [])

unfoldable pub code_at : Form → ℕ → ℕ
code_at f i = code_by f (codes f i) i

-- a table of codes: an entry that is not 0 is the node's code
pub record SoundCodes (f : Form) (m : List ℕ) : Type 0 where
  pub long : length m ≡ 64
  pub right : (j : ℕ) → (get_or m j 0 ≡ 0 → ⊥) → get_or m j 0 ≡ code_at f j

-- no code that was known has changed
pub record CodesKept (before m : List ℕ) : Type 0 where
  pub known : (j : ℕ) → (get_or before j 0 ≡ 0 → ⊥) → get_or m j 0 ≡ get_or before j 0

-- the table after node i was asked for. Left open is which nodes beneath it are known as well: whoever needs one asks for it
pub record Done (f : Form) (i : ℕ) (before m : List ℕ) : Type 0 where
  pub here : get_or m i 0 ≡ code_at f i
  pub sound : SoundCodes f m
  pub kept : CodesKept before m

pub record Filling (b : List ℕ) (k : ℕ) (m : List ℕ) : Type 0 where
  pub good : length_good b ≡ true
  pub below : k < node_count b
  pub sound : SoundCodes (read_form b) m

-- what is known of the table and of a child's code k, which is 0 where there is no child
pub record ChildKnown (f : Form) (i p : ℕ) (m₀ m : List ℕ) (k : ℕ) : Type 0 where
  pub sound : SoundCodes f m
  pub kept : CodesKept m₀ m
  pub code : k ≡ get_or (codes f i) p 0
