-- What moves of each kind of node behind a form of 3 nodes, 5 names and 7 bytes of area, and what does not.
use mathlib.Core.List.{List, [], ◌∷◌, map}
use mathlib.Core.Option.{some}
use mathlib.Core.Path.{◌≡◌, refl}
use Prim.Native.Nat.{ℕ}
use Rattle.rules.specs.Value.{Kind, one, optional, yes_no, text, number, same_base, base_number}
use Rattle.rules.specs.Form.{Node}
use Rattle.rules.specs.Tree.{same_kind, shape_of, inner_base}
use Rattle.rules_join.specs.Join.{Moves, move_name, is_text_kind, move_p, move_q, move_r, move_node}

abbrev behind : Moves
behind = record { nodes = 3; names = 5; area = 7 }

abbrev node : (kind p q r lo hi : ℕ) → Node
node kind p q r lo hi = record { kind = kind; p = p; q = q; r = r; lo = lo; hi = hi }

abbrev examples : List (Kind × Node × Node)
examples =
    -- a switch and a required number argument: the first name; not how many there are, and not r
    (one yes_no, node 1 0 2 1 0 0, node 1 5 2 1 0 0)
    ∷ (one number, node 2 1 2 2 0 0, node 2 6 2 2 0 0)
    -- a strict positional: nothing
    ∷ (one text, node 3 1 0 0 0 0, node 3 1 0 0 0 0)
    -- an optional with catch: the child, and not catch
    ∷ (optional text, node 4 0 0 1 0 0, node 4 3 0 1 0 0)
    -- a choice: both children
    ∷ (one text, node 9 0 1 0 0 0, node 9 3 4 0 0 0)
    -- a fallback: the child; the name of a text, 0 too; no yes/no and no number
    ∷ (one text, node 10 1 0 0 0 0, node 10 4 0 5 0 0)
    ∷ (one yes_no, node 10 1 0 0 1 0, node 10 4 0 0 1 0)
    ∷ (one number, node 10 1 0 0 2 0, node 10 4 0 0 2 0)
    -- a guard: the child, and not its bounds
    ∷ (one number, node 11 0 0 0 1 2, node 11 3 0 0 1 2)
    ∷ []

pub nodes_told : map (λ x. move_node behind (some x.0) x.1) examples ≡ map (λ x. x.2) examples
unfolding move_node move_p move_q move_r is_text_kind same_kind shape_of inner_base same_base base_number
nodes_told = refl

-- a name: where its bytes begin, and not its type and how many there are
pub name_told : move_name behind (record { type = 2; offset = 1; size = 4 }) ≡ record { type = 2; offset = 8; size = 4 }
unfolding move_name
name_told = refl
