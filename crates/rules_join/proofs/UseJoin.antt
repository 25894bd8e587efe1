-- Each node of two joined forms is used once: the first's by the first's numbers, the second's by those that moved up.
use mathlib.Core.Bool.{Bool, true, false}
use mathlib.Core.List.{List, [], ◌∷◌, ◌++◌, map}
use mathlib.Core.Option.{Option, none}
use mathlib.Core.Path.{◌≡◌, refl, sym, ap, subst, ◌∙◌}
use Prim.Native.Nat.{ℕ, suc, ◌+◌, ◌-◌, ◌≤◌, ◌<◌}
use native.Mathlib.Nat.{zero-add}
use native.Mathlib.Omega.{arith}
use lib.Dec.{leb, ltb, eqb}
use lib.ListN.{length, length-append}
use borrow.Author.Tests.{ltb-true, ltb-false, lt-leb, leb-false, eq-eqb, ne_eqb, eqb-true}
use Rattle.rules.specs.Base.{occurrences, numbers, concat_map, first_fault}
use Rattle.rules.specs.Value.{Kind}
use Rattle.rules.specs.Form.{Node, Form}
use Rattle.rules.specs.Tree.{Tree, kind_of}
use Rattle.rules.specs.Accept.{Accepted, children_of, uses, used_once}
use Rattle.rules.specs.Demands.{All}
use Rattle.rules.proofs.Acceptance.{All-append, All-map, lookup_inside, no_fault, good_no_fault, numbers_all, numbers_each, TreesAt, trees_made, trees_length, Passed}
use Rattle.rules.proofs.ConcatLaws.{concat_append}
use Rattle.rules.proofs.Uses.{children_lower, fields_inside}
use Rattle.rules_join.specs.Join.{Moves, moves_behind, move_p, move_q, move_node, move_nodes, join_by, join_forms}
use Rattle.rules_join.proofs.JoinLists.{map-append, occurs_append, occurs_behind, occurs_not_behind, occurs_not_before}

-- ---- the children of moved nodes
module _ (d : Moves) where
  children_moved : (k : Option Kind) (x : Node) → children_of (move_node d k x) ≡ map (λ i. d.nodes + i) (children_of x)
  unfolding children_of move_node move_p move_q
  children_moved k x = go (leb x.kind 3) refl (eqb x.kind 9) refl
    where
      go :
          (s : Bool)
          → leb x.kind 3 ≡ s
          → (t : Bool)
          → eqb x.kind 9 ≡ t
          → children_of (move_node d k x) ≡ map (λ i. d.nodes + i) (children_of x)
      go true e t h = rw e
      go false e true h =
          let more = leb-false x.kind 3 e in
          rw (e, h, lt-leb x.kind 2 (omega arith), ne_eqb x.kind 3 (λ z. omega arith))
      go false e false h =
          let more = leb-false x.kind 3 e in
          rw (e, h, lt-leb x.kind 2 (omega arith), ne_eqb x.kind 3 (λ z. omega arith))

  nodes_moved :
      (ts : List Tree) (xs : List Node)
      → length ts ≡ length xs
      → concat_map children_of (move_nodes d ts xs) ≡ map (λ i. d.nodes + i) (concat_map children_of xs)
  unfolding move_nodes concat_map
  nodes_moved [] [] e = refl
  nodes_moved [] (x ∷ xs) e = absurd (omega arith)
  nodes_moved (t ∷ ts) [] e = absurd (omega arith)
  nodes_moved (t ∷ ts) (x ∷ xs) e =
      rw (children_moved (kind_of t) x, nodes_moved ts xs (omega arith))
      (sym (map-append (λ i. d.nodes + i) (children_of x) (concat_map children_of xs)))

  moved_length : (ts : List Tree) (xs : List Node) → length ts ≡ length xs → length (move_nodes d ts xs) ≡ length xs
  unfolding move_nodes
  moved_length [] [] e = refl
  moved_length [] (x ∷ xs) e = absurd (omega arith)
  moved_length (t ∷ ts) [] e = absurd (omega arith)
  moved_length (t ∷ ts) (x ∷ xs) e = ap suc (moved_length ts xs (omega arith))

-- ---- the uses of one form
children_inside : (f : Form) (ts : List Tree) (k : ℕ) (xs : List Node) → TreesAt f ts k xs → All (λ (i : ℕ). i < length ts) (concat_map children_of xs)
unfolding concat_map
children_inside f ts k [] h = tt
children_inside f ts k (x ∷ xs) h =
    let n = h.0 in
    let inside = lookup_inside ts k n.tree n.stands in
    All-append (λ (i : ℕ). i < length ts) (children_of x) (concat_map children_of xs)
    (All-map (λ (i : ℕ). i < k) (λ (i : ℕ). i < length ts) (λ i l. omega arith) (children_of x) (children_lower f ts k x n.tree n.made))
    (children_inside f ts (suc k) xs h.1)

module _ (f : Form) (a : Accepted) (p : Passed f a) where
  pub trees_long : length a.trees ≡ length f.nodes
  trees_long = trees_length f [] f.nodes a.trees p.trees ∙ zero-add (length f.nodes)

  uses_inside : All (λ (k : ℕ). k < length f.nodes) (uses f)
  unfolding uses
  uses_inside =
      let ts = a.trees in
      subst (λ (n : ℕ). All (λ (k : ℕ). k < n) (uses f)) trees_long
      (All-append (λ (k : ℕ). k < length ts) f.fields (concat_map children_of f.nodes)
      (fields_inside ts f.fields a.fields p.fields)
      (children_inside f ts 0 f.nodes (trees_made f [] f.nodes ts p.trees)))

  once_each : (k : ℕ) → k < length f.nodes → occurrences k (uses f) ≡ 1
  unfolding used_once
  once_each k h =
      let n = length f.nodes in
      eqb-true (occurrences k (uses f)) 1
      (numbers_all (λ (k : ℕ). used_once f k ≡ true) n 0 (no_fault (used_once f) 0 (numbers n 0) p.once) k (omega arith) (omega arith))

-- ---- the uses of both
module _ (a b : Accepted) (p : Passed a.form a) (q : Passed b.form b) where
  abbrev n : ℕ
  n = length a.form.nodes

  abbrev whole : Form
  whole = join_forms a b

  pub nodes_count : length whole.nodes ≡ length a.form.nodes + length b.form.nodes
  unfolding join_forms join_by
  nodes_count =
      let moves = moves_behind a.form in
      length-append a.form.nodes (move_nodes moves b.trees b.form.nodes)
      ∙ rw (moved_length moves b.trees b.form.nodes (trees_long b.form b q))

  uses_both : (k : ℕ) → occurrences k (uses whole) ≡ occurrences k (uses a.form) + occurrences k (map (λ i. n + i) (uses b.form))
  unfolding uses join_forms join_by moves_behind
  uses_both k =
      let moves = moves_behind a.form in
      let up : ℕ → ℕ = λ i. n + i in
      let xs = a.form.nodes in
      let ys = b.form.nodes in
      let moved = move_nodes moves b.trees ys in
      let first = concat_map children_of xs in
      let second = concat_map children_of ys in
      let children : concat_map children_of (xs ++ moved) ≡ first ++ map up second =
      concat_append children_of xs moved ∙ ap (λ (l : List ℕ). first ++ l) (nodes_moved moves b.trees ys (trees_long b.form b q)) in
      let fields = occurs_append k a.form.fields (map up b.form.fields) in
      let behind = occurs_append k first (map up second) in
      let all = occurs_append k (a.form.fields ++ map up b.form.fields) (first ++ map up second) in
      let one = occurs_append k a.form.fields first in
      let two = ap (occurrences k) (map-append up b.form.fields second) ∙ occurs_append k (map up b.form.fields) (map up second) in
      rw children (omega arith)

  once_both : (k : ℕ) → k < length whole.nodes → used_once whole k ≡ true
  unfolding used_once
  once_both k h = eq-eqb (occurrences k (uses whole)) 1 (go (ltb k n) refl)
    where
      low : k < n → occurrences k (uses whole) ≡ 1
      low l =
          let both = uses_both k in
          let here = once_each a.form a p k l in
          let none = occurs_not_behind n k (uses b.form) l in
          omega arith

      high : n ≤ k → occurrences k (uses whole) ≡ 1
      high l =
          let count = nodes_count in
          let both = uses_both k in
          let none = occurs_not_before n k (uses a.form) (uses_inside a.form a p) l in
          let from : n + (k - n) ≡ k = omega arith in
          let moved = occurs_behind n (k - n) (uses b.form) in
          let same = ap (λ (i : ℕ). occurrences i (map (λ i. n + i) (uses b.form))) from in
          let here = once_each b.form b q (k - n) (omega arith) in
          omega arith

      go : (t : Bool) → ltb k n ≡ t → occurrences k (uses whole) ≡ 1
      go true e = low (ltb-true k n e)
      go false e = high (ltb-false k n e)

  pub once_joined : first_fault (used_once whole) 0 (numbers (length whole.nodes) 0) ≡ none
  once_joined =
      good_no_fault (used_once whole) 0 (numbers (length whole.nodes) 0)
      (numbers_each (λ (k : ℕ). used_once whole k ≡ true) (length whole.nodes) 0 (λ k l h. once_both k (omega arith)))
