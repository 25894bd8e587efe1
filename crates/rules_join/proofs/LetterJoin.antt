-- The letters of two joined forms: the first's, and then the second's.
use mathlib.Core.Bool.{Bool, true, false}
use mathlib.Core.List.{List, [], ◌∷◌, ◌++◌}
use mathlib.Core.Path.{◌≡◌, refl, ap, ap₂, ◌∙◌}
use Prim.Native.Nat.{ℕ, suc, ◌≤◌}
use native.Mathlib.Omega.{arith}
use lib.Dec.{eqb}
use lib.ListN.{length}
use borrow.Author.Tests.{eqb-true}
use Rattle.std.specs.Prelude.{if◌then◌else◌}
use Rattle.rules.specs.Base.{concat_map}
use Rattle.rules.specs.Form.{Node, Form}
use Rattle.rules.specs.Tree.{Tree, kind_of, named_of}
use Rattle.rules.specs.Accept.{Accepted, short_names, letters_for, letters_of}
use Rattle.rules.specs.Demands.{All}
use Rattle.rules.proofs.Acceptance.{NameGood, Made, flag_made, argument_made, positional_made, optional_made, many_made, some_made, count_made, last_made, choice_made, fallback_made}
use Rattle.rules.proofs.Acceptance.{guard_made}
use Rattle.rules.proofs.Acceptance.{TreesAt, trees_made, Passed}
use Rattle.rules.proofs.ConcatLaws.{concat_append}
use Rattle.rules_join.specs.Join.{Moves, moves_behind, move_node, move_nodes, join_by, join_forms, letters_of_both}
use Rattle.rules_join.proofs.NameJoin.{named_first, named_second}
use Rattle.rules_join.proofs.UseJoin.{trees_long}

-- a node's letters, if it is of a kind
abbrev letters_at : Form → ℕ → Node → List ℕ
letters_at f n x = if eqb x.kind n then short_names f x else []

letters_alike :
    (f g : Form) (n : ℕ) (x y : Node)
    → y.kind ≡ x.kind
    → (x.kind ≡ n → named_of g y ≡ named_of f x)
    → letters_at g n y ≡ letters_at f n x
unfolding short_names
letters_alike f g n x y k same = rw (ap (λ (m : ℕ). eqb m n) k) (go (eqb x.kind n) refl)
  where
    go :
        (t : Bool)
        → eqb x.kind n ≡ t
        → (if t then short_names g y else []) ≡ (if t then short_names f x else [])
    go true e = rw (same (eqb-true x.kind n e), short_names)
    go false e = refl

module _ (a b : Accepted) where
  abbrev moves : Moves
  moves = moves_behind a.form

  abbrev whole : Form
  whole = join_forms a b

  module _ (n : ℕ) (few : n ≤ 2) where
    -- a node of the first that has names
    made_named :
        All (NameGood a.form.area) a.form.names
        → (ts : List Tree) (k : ℕ) (x : Node) (t : Tree)
        → Made a.form ts k x t
        → x.kind ≡ n
        → named_of whole x ≡ named_of a.form x
    made_named g ts k x t (flag_made l z r u m) h = named_first a b g x l m
    made_named g ts k x t (argument_made l z r u m) h = named_first a b g x l m
    made_named g ts k x t (positional_made z p r u) h = absurd (omega arith)
    made_named g ts k x t (optional_made β c z r u i e) h = absurd (omega arith)
    made_named g ts k x t (many_made β c z r u i m e) h = absurd (omega arith)
    made_named g ts k x t (some_made β c z r u i m e) h = absurd (omega arith)
    made_named g ts k x t (count_made c z u i m e) h = absurd (omega arith)
    made_named g ts k x t (last_made c z u i m e) h = absurd (omega arith)
    made_named g ts k x t (choice_made c d z u i j e) h = absurd (omega arith)
    made_named g ts k x t (fallback_made c κ v z u i j w e) h = absurd (omega arith)
    made_named g ts k x t (guard_made c z u i l e) h = absurd (omega arith)

    letters_first :
        All (NameGood a.form.area) a.form.names
        → (ts : List Tree) (k : ℕ) (xs : List Node)
        → TreesAt a.form ts k xs
        → concat_map (letters_at whole n) xs ≡ concat_map (letters_at a.form n) xs
    unfolding concat_map
    letters_first g ts k [] h = refl
    letters_first g ts k (x ∷ xs) h =
        ap₂ (λ (l m : List ℕ). l ++ m)
        (letters_alike a.form whole n x x refl (made_named g ts k x h.0.tree h.0.made))
        (letters_first g ts (suc k) xs h.1)

    letters_second :
        (ts : List Tree) (xs : List Node)
        → length ts ≡ length xs
        → concat_map (letters_at whole n) (move_nodes moves ts xs) ≡ concat_map (letters_at b.form n) xs
    unfolding concat_map move_nodes move_node
    letters_second [] [] e = refl
    letters_second [] (x ∷ xs) e = absurd (omega arith)
    letters_second (t ∷ ts) [] e = absurd (omega arith)
    letters_second (t ∷ ts) (x ∷ xs) e =
        ap₂ (λ (l m : List ℕ). l ++ m)
        (letters_alike b.form whole n x (move_node moves (kind_of t) x) refl (λ h. named_second a b x (kind_of t) (omega arith)))
        (letters_second ts xs (omega arith))

    letters_both : Passed a.form a → Passed b.form b → letters_for whole n ≡ letters_for a.form n ++ letters_for b.form n
    unfolding letters_for join_forms join_by
    letters_both p q =
        concat_append (letters_at whole n) a.form.nodes (move_nodes moves b.trees b.form.nodes)
        ∙ ap₂ (λ (l m : List ℕ). l ++ m)
        (letters_first p.names a.trees 0 a.form.nodes (trees_made a.form [] a.form.nodes a.trees p.trees))
        (letters_second b.trees b.form.nodes (trees_long b.form b q))

  pub letters_joined : Passed a.form a → Passed b.form b → letters_of whole ≡ letters_of_both a.form b.form
  unfolding letters_of letters_of_both
  letters_joined p q =
      let flags = letters_both 1 (omega arith) p q in
      let arguments = letters_both 2 (omega arith) p q in
      λ i. record { flags = flags i; arguments = arguments i }
