-- What stays of a tree that is moved: its kind, and whether there is a repeat in it.
use mathlib.Core.Path.{◌≡◌, refl}
use Rattle.rules.specs.Value.{item, name, BaseValue, is_yes, is_text, is_number, base_of}
use Rattle.rules.specs.Tree.{Tree, Flag, Argument, Positional, Optional, Many, Some, Count, Last, Choice, Fallback, Guard, kind_of, has_repeat}
use Rattle.rules_join.specs.Join.{Moves, move_base, move_tree}

module _ (d : Moves) where
  pub base_moved : (v : BaseValue) → base_of (move_base d v) ≡ base_of v
  unfolding move_base base_of
  base_moved (is_yes b) = refl
  base_moved (is_text (item i)) = refl
  base_moved (is_text (name k)) = refl
  base_moved (is_number n) = refl

  pub kind_moved : (t : Tree) → kind_of (move_tree d t) ≡ kind_of t
  unfolding move_tree kind_of
  kind_moved (Flag n m w) = refl
  kind_moved (Argument n m b a) = refl
  kind_moved (Positional n p b) = refl
  kind_moved (Optional c t) = rw (kind_moved t) refl
  kind_moved (Many c t) = rw (kind_moved t) refl
  kind_moved (Some c t) = rw (kind_moved t) refl
  kind_moved (Count t) = rw (kind_moved t) refl
  kind_moved (Last t) = rw (kind_moved t) refl
  kind_moved (Choice t u) = rw (kind_moved t, kind_moved u) refl
  kind_moved (Fallback v t) = rw (kind_moved t, base_moved v) refl
  kind_moved (Guard l h t) = rw (kind_moved t) refl

  pub repeat_moved : (t : Tree) → has_repeat (move_tree d t) ≡ has_repeat t
  unfolding move_tree has_repeat
  repeat_moved (Flag n m w) = refl
  repeat_moved (Argument n m b a) = refl
  repeat_moved (Positional n p b) = refl
  repeat_moved (Optional c t) = repeat_moved t
  repeat_moved (Many c t) = refl
  repeat_moved (Some c t) = refl
  repeat_moved (Count t) = refl
  repeat_moved (Last t) = refl
  repeat_moved (Choice t u) = rw (repeat_moved t, repeat_moved u) refl
  repeat_moved (Fallback v t) = repeat_moved t
  repeat_moved (Guard l h t) = repeat_moved t
