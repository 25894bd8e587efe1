-- What the proofs carry from a call to the next: states that refusal 29 lets through, and the trees of an accepted form. No demand is stated with it.
use Rattle.std.specs.Prelude.{Bool, true, false, not, ◌&&◌, List, [], ◌∷◌, ◌≡◌, ℕ, ◌+◌, ◌≤◌, length}
use Rattle.rules.specs.Base.{all, null, is_some}
use Rattle.rules.specs.Value.{Base, yes_no, text, number}
use Rattle.rules.specs.Tree.{Named, Tree, Flag, Argument, Positional, Optional, Many, Some, Count, Last, Choice, Fallback, Guard, kind_of, has_repeat}
use Rattle.rules.specs.State.{State, parsed, mark_good, current_good}
use Rattle.rules.specs.Demands.{Counted}

-- ---- states
-- a state that refusal 29 lets through, over n items, whatever the number of fields
pub record Good (n : ℕ) (s : State) : Type 0 where
  pub small : n ≤ 256
  pub long : length s.marks ≡ n
  pub order : s.start ≤ s.end
  pub inside : s.end ≤ n
  pub marks : all (mark_good parsed n) s.marks ≡ true
  pub current : current_good n s.current ≡ true
  pub counted : Counted s

-- ---- trees
-- L, over a tree
unfoldable pub leaves : Tree → ℕ
leaves (Flag n m w) = 1
leaves (Argument n m b a) = 1
leaves (Positional n p b) = 1
leaves (Optional c t) = leaves t
leaves (Many c t) = leaves t
leaves (Some c t) = leaves t
leaves (Count t) = leaves t
leaves (Last t) = leaves t
leaves (Choice t u) = leaves t + leaves u
leaves (Fallback v t) = leaves t
leaves (Guard l h t) = leaves t

unfoldable pub all_leaves : List Tree → ℕ
all_leaves [] = 0
all_leaves (t ∷ ts) = leaves t + all_leaves ts

-- flags and arguments have one name or more
unfoldable pub is_named : Named → Bool
is_named m = not (null m.shorts && null m.longs)

-- arguments and positionals are read as text or number
unfoldable pub is_read : Base → Bool
is_read yes_no = false
is_read text = true
is_read number = true

-- each name is there, what is read is no yes/no, and no repeat is beneath a repeat
unfoldable pub well_built : Tree → Bool
well_built (Flag n m w) = is_named m
well_built (Argument n m b a) = is_named m && is_read b
well_built (Positional n p b) = is_read b
well_built (Optional c t) = well_built t
well_built (Many c t) = not (has_repeat t) && well_built t
well_built (Some c t) = not (has_repeat t) && well_built t
well_built (Count t) = not (has_repeat t) && well_built t
well_built (Last t) = not (has_repeat t) && well_built t
well_built (Choice t u) = well_built t && well_built u
well_built (Fallback v t) = well_built t
well_built (Guard l h t) = well_built t

-- the tree of a node that the form check lets through
pub record Sound (t : Tree) : Type 0 where
  pub kind : is_some (kind_of t) ≡ true
  pub built : well_built t ≡ true
