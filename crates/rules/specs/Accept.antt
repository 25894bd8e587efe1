-- Which forms are accepted (refusals 1 to 4), and what an accepted form gives.
use Rattle.std.specs.Prelude.{Bool, ◌&&◌, List, [], ◌∷◌, ◌++◌, ℕ, suc, leb, eqb, length}
use Rattle.std.proofs.Math.Option.{Option, some, none}
use Rattle.std.proofs.Math.ListN.{get_elem?}
use Rattle.std.specs.Prelude.{if◌then◌else◌}
use Rattle.rules.specs.Base.{◌>>?◌, contains, occurrences, numbers, concat_map, first_fault}
use Rattle.rules.specs.Form.{Node, Form, counts_good, form_length, read_form, name_good}
use Rattle.rules.specs.Tree.{Tree, named_of, tree_of}

pub data Checked (A : Type 0) : Type 0 where
  accepted : A → Checked A
  refused_at : ℕ → Option ℕ → Checked A

pub record Accepted : Type 0 where
  pub form : Form
  pub trees : List Tree
  pub fields : List Tree

-- 1: form length or counts
unfoldable pub length_good : List ℕ → Bool
length_good b = counts_good b && eqb (form_length b) (length b)

-- 3: a node, the lowest at fault. The trees of all nodes, each from those below it
unfoldable pub trees_from : Form → List Tree → List Node → Checked (List Tree)
trees_from f below [] = accepted below
trees_from f below (x ∷ xs) =
    elim (tree_of f below x) [
      | none ↦ refused_at 3 (some (length below))
      | some t ↦ trees_from f (below ++ (t ∷ [])) xs
    ]

-- Each node is used exactly once, as child or field
unfoldable pub children_of : Node → List ℕ
children_of x = if leb x.kind 3 then [] else (if eqb x.kind 9 then x.p ∷ x.q ∷ [] else x.p ∷ [])

unfoldable pub uses : Form → List ℕ
uses f = f.fields ++ concat_map children_of f.nodes

unfoldable pub used_once : Form → ℕ → Bool
used_once f k = eqb (occurrences k (uses f)) 1

-- the trees of some nodes, by number; none if there is no such node
unfoldable pub trees_at : List Tree → List ℕ → Option (List Tree)
trees_at trees [] = some []
trees_at trees (k ∷ ks) = get_elem? trees k >>? λ t. trees_at trees ks >>? λ ts. some (t ∷ ts)

-- 4: a field number ≥ n (no place), else the lowest node not used once
unfoldable pub check_use : Form → List Tree → Checked Accepted
check_use f trees =
    elim (trees_at trees f.fields) [
      | none ↦ refused_at 4 none
      | some ts ↦ elim (first_fault (used_once f) 0 (numbers (length f.nodes) 0)) [
        | some k ↦ refused_at 4 (some k)
        | none ↦ accepted (record { form = f; trees = trees; fields = ts })
      ]
    ]

-- 2: a name record, the lowest at fault; then 3 and 4
unfoldable pub check_records : Form → Checked Accepted
check_records f =
    elim (first_fault (name_good f.area) 0 f.names) [
      | some k ↦ refused_at 2 (some k)
      | none ↦ elim (trees_from f [] f.nodes) [ refused_at n k ↦ refused_at n k | accepted ts ↦ check_use f ts ]
    ]

unfoldable pub check_form : List ℕ → Checked Accepted
check_form b = if length_good b then check_records (read_form b) else refused_at 1 none

-- The field whose tree has a node: from the node up, each time to the one that has it as a child, and at last to a field's
unfoldable pub top_from : ℕ → ℕ → List Node → ℕ
top_from m n [] = n
top_from m n (x ∷ xs) = top_from (suc m) (if contains (children_of x) n then m else n) xs

unfoldable pub top_of : Form → ℕ → ℕ
top_of f n = top_from 0 n f.nodes

-- how many stand before the first that is this number
unfoldable pub index_of : ℕ → List ℕ → ℕ
index_of n [] = 0
index_of n (x ∷ xs) = if eqb n x then 0 else suc (index_of n xs)

unfoldable pub field_of : Form → ℕ → ℕ
field_of f n = index_of (top_of f n) f.fields

-- The letters that splitting looks up: the short names of flag nodes and of argument nodes
pub record Letters : Type 0 where
  pub flags : List ℕ
  pub arguments : List ℕ

-- the short names of a node, if its names are there; those of an accepted form always are
unfoldable pub short_names : Form → Node → List ℕ
short_names f x = elim (named_of f x) [ none ↦ [] | some m ↦ m.shorts ]

-- of the nodes of a kind, node after node
unfoldable pub letters_for : Form → ℕ → List ℕ
letters_for f kind = concat_map (λ x. if eqb x.kind kind then short_names f x else []) f.nodes

-- kind 1 is a flag, kind 2 an argument
unfoldable pub letters_of : Form → Letters
letters_of f = record { flags = letters_for f 1; arguments = letters_for f 2 }

-- L of demand 3: the flags, arguments and positionals of the form
unfoldable pub leaf_count : List Node → ℕ
leaf_count [] = 0
leaf_count (x ∷ xs) = if leb x.kind 3 then suc (leaf_count xs) else leaf_count xs
