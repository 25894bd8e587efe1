-- Which nodes leave the marks as they were.
use Rattle.std.specs.Prelude.{Bool, true, false, List, ◌≡◌, ℕ}
use Rattle.std.proofs.Math.Option.{some}
use Rattle.std.specs.Prelude.{if◌then◌else◌}
use Rattle.rules.specs.Value.{Base, yes_no, text, number}
use Rattle.rules.specs.Tree.{Position, unrestricted, strict, non_strict, Tree, Flag, Argument, Positional, Optional, Many, Some, Count, Last, Choice, Fallback, Guard}
use Rattle.eval_told.specs.Nodes.{tree_at}

-- a text that was taken is never refused
unfoldable pub takes_text : Base → Bool
takes_text yes_no = false
takes_text text = true
takes_text number = false

-- whether a refusal of this node leaves the state as it was, whatever the refusal
unfoldable pub undoes : Tree → Bool
undoes (Flag n names switch) = true
undoes (Argument n names b adjacent) = takes_text b
undoes (Positional n q b) = false
undoes (Optional c t) = false
undoes (Many c t) = false
undoes (Some c t) = false
undoes (Count t) = false
undoes (Last t) = false
undoes (Choice t u) = true
undoes (Fallback v t) = true
undoes (Guard l h t) = false

-- a non-strict positional is absent where it took a word that it does not want
unfoldable pub is_non_strict : Position → Bool
is_non_strict unrestricted = false
is_non_strict strict = false
is_non_strict non_strict = true

-- whether a leaf that is absent may have used something, where no refusal is caught. Of any other node nothing is known
unfoldable pub keeps_leaf : Tree → Bool
keeps_leaf (Flag n names switch) = true
keeps_leaf (Argument n names b adjacent) = false
keeps_leaf (Positional n q b) = is_non_strict q
keeps_leaf (Optional c t) = true
keeps_leaf (Many c t) = true
keeps_leaf (Some c t) = true
keeps_leaf (Count t) = true
keeps_leaf (Last t) = true
keeps_leaf (Choice t u) = true
keeps_leaf (Fallback v t) = true
keeps_leaf (Guard l h t) = true

-- the same of a leaf and of a guard over a leaf
unfoldable pub keeps_under : Tree → Bool
keeps_under (Flag n names switch) = true
keeps_under (Argument n names b adjacent) = keeps_leaf (Argument n names b adjacent)
keeps_under (Positional n q b) = keeps_leaf (Positional n q b)
keeps_under (Optional c t) = true
keeps_under (Many c t) = true
keeps_under (Some c t) = true
keeps_under (Count t) = true
keeps_under (Last t) = true
keeps_under (Choice t u) = true
keeps_under (Fallback v t) = true
keeps_under (Guard l h t) = keeps_leaf t

-- whether a child that is absent may have used something, so that the marks must be put back
unfoldable pub keeps_marks : Bool → Tree → Bool
keeps_marks catch t = if undoes t then false else (if catch then true else keeps_under t)

-- a flag, an argument or a positional
unfoldable pub is_leaf : Tree → Bool
is_leaf (Flag n names switch) = true
is_leaf (Argument n names b adjacent) = true
is_leaf (Positional n q b) = true
is_leaf (Optional c t) = false
is_leaf (Many c t) = false
is_leaf (Some c t) = false
is_leaf (Count t) = false
is_leaf (Last t) = false
is_leaf (Choice t u) = false
is_leaf (Fallback v t) = false
is_leaf (Guard l h t) = false

-- a node that has a tree
pub record HasTree (b : List ℕ) (n : ℕ) : Type 0 where
  pub tree : Tree
  pub node : tree_at b n ≡ some tree
