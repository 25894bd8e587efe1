-- Where no marks are put back: a refusal that leaves them, and a choice of which one side is missing.
use mathlib.Core.Bool.{Bool, true, false, not, ◌&&◌}
use mathlib.Core.List.{List}
use mathlib.Core.Option.{some}
use mathlib.Core.Path.{◌≡◌, refl, sym, ◌∙◌, ap}
use Prim.Native.Nat.{ℕ, ◌+◌, ◌^◌, ◌<◌}
use native.Mathlib.Omega.{arith}
use lib.Dec.{eqb}
use lib.ListN.{get_or, get_elem?}
use borrow.Author.Tests.{eq-eqb, ne_eqb}
use Rattle.rules.specs.Form.{read_form}
use Rattle.rules.specs.Sheet.{sheet_area}
use Rattle.rules.specs.Value.{BaseValue, word}
use Rattle.rules.specs.Tree.{Tree, Flag, Argument, Positional, Optional, Many, Some, Count, Last, Choice, Fallback, Guard}
use Rattle.form_layout.specs.Layout.{node_of}
use Rattle.form_layout.specs.declared.Node.{Node}
use Rattle.form_layout.proofs.Sizes.{sized}
use Rattle.state_marks.specs.declared.Numbers.{Numbers}
use Rattle.take_table.specs.Bits.{bit_at}
use Rattle.eval_told.specs.declared.Ran.{Ran}
use Rattle.eval_told.specs.Told.{Evaluates, answered}
use Rattle.eval_told.proofs.Repeats.{told_state}
use Rattle.eval_told.specs.Nodes.{tree_at}
use Rattle.eval_shortcut.specs.Stands.{Scalar}
use Rattle.eval_params.specs.Leaves.{Missing}
use Rattle.eval_combine.specs.Made.{missing_of, MarksUnchanged, Returned, FallbackOf, Sides, ChoiceOf}
use Rattle.eval_combine.specs.declared.Chosen.{Chosen}
use Rattle.eval_shortcut.specs.Children.{Falls, BothSides}
use Rattle.eval_shortcut.specs.Marks.{undoes}
use Rattle.eval_shortcut.specs.OneSide.{Searchable, misses_by, stays_by, alone_by, Misses, Stays, Alone}
use Rattle.eval_shortcut.proofs.Trees.{kind_number, form_good_lem, node_inside, flag_tree, argument_tree, tree_number}
use Rattle.eval_shortcut.specs.Children.{NodeSays}
use Rattle.eval_shortcut.proofs.Given.{flag_node, argument_node}
use Rattle.eval_shortcut.proofs.Steps.{child_tries, child_told, fallback_given, fallback_ends, choice_sides, choice_ends}
use Rattle.eval_shortcut.proofs.Undone.{state_kept, undone_by}

-- ---- a node that is missing
-- a form has at most 64 nodes
pub searchable_low : (b known : List ℕ) (n : ℕ) → Searchable b known n → n < 64
searchable_low b known n l =
    let few = (sized b (form_good_lem b n l.stands.tree l.stands.node)).counts.nodes in
    let below = node_inside b n l.stands.tree l.stands.node in
    omega arith

-- what the test answers, by the tree
no_name : (known : List ℕ) (n : ℕ) (t : Tree) → (kind_number t ≡ 1 → ⊥) → (kind_number t ≡ 2 → ⊥) → false ≡ misses_by known n t
unfolding kind_number misses_by
no_name known n (Flag i names switch) a c = absurd (a refl)
no_name known n (Argument i names b adjacent) a c = absurd (c refl)
no_name known n (Positional i q b) a c = refl
no_name known n (Optional x t) a c = refl
no_name known n (Many x t) a c = refl
no_name known n (Some x t) a c = refl
no_name known n (Count t) a c = refl
no_name known n (Last t) a c = refl
no_name known n (Choice t u) a c = refl
no_name known n (Fallback v t) a c = refl
no_name known n (Guard l h t) a c = refl

module _ (b known : List ℕ) (n : ℕ) (y : Node) (h : get_elem? (read_form b).nodes n ≡ some (node_of y)) where
  absent : Bool
  absent = not (bit_at (get_or known 0 0) n)

  pub misses_switch : (node_of y).kind ≡ 1 → y.r ≡ 1 → (t : Tree) → tree_at b n ≡ some t → false ≡ misses_by known n t
  unfolding misses_by absent
  misses_switch k q t e =
      let s : false ≡ (not (eqb y.r 1) && absent) = rw (eq-eqb y.r 1 q) in
      s ∙ ap (misses_by known n) (flag_tree b n t e (node_of y) h k).same

  module _ (r : Bool) (f : r ≡ not (bit_at (get_or known 0 0) n)) where
    pub misses_flag : (node_of y).kind ≡ 1 → (y.r ≡ 1 → ⊥) → (t : Tree) → tree_at b n ≡ some t → r ≡ misses_by known n t
    unfolding misses_by absent
    misses_flag k q t e =
        let s : absent ≡ (not (eqb y.r 1) && absent) = rw (ne_eqb y.r 1 q) in
        f ∙ s ∙ ap (misses_by known n) (flag_tree b n t e (node_of y) h k).same

    pub misses_argument : (node_of y).kind ≡ 2 → (t : Tree) → tree_at b n ≡ some t → r ≡ misses_by known n t
    unfolding misses_by
    misses_argument k t e = f ∙ ap (misses_by known n) (argument_tree b n t e (node_of y) h k).same

  pub misses_none : ((node_of y).kind ≡ 1 → ⊥) → ((node_of y).kind ≡ 2 → ⊥) → (t : Tree) → tree_at b n ≡ some t → false ≡ misses_by known n t
  misses_none a c t e =
      let k = sym (tree_number b n t e (node_of y) h) in
      no_name known n t (λ q. a (k ∙ q)) (λ q. c (k ∙ q))

module _ (b known : List ℕ) (n : ℕ) (y : Node) (h : get_elem? (read_form b).nodes n ≡ some (node_of y)) (r : Bool) (f : r ≡ true → Missing known n) (e : r ≡ true) where
  pub flag_misses : (node_of y).kind ≡ 1 → (y.r ≡ 1 → ⊥) → Misses b known n
  flag_misses k q = record {
    gone = λ s words m p mark z.
        flag_node b known s words m p mark n z y h m (missing_of p) k
        (λ area items names leaf i. rw (ne_eqb y.r 1 q) ((f e).flag area items m p mark names leaf i));
  }

  pub argument_misses : (node_of y).kind ≡ 2 → Misses b known n
  argument_misses k = record {
    gone = λ s words m p mark z.
        argument_node b known s words m p mark n z y h m (missing_of p) k
        (λ names adjacent leaf i. (f e).argument (sheet_area s) words m p mark names adjacent leaf i _);
  }

-- ---- a node whose refusals leave the marks
module _ (b known : List ℕ) (n : ℕ) (u : Bool) (f : (t : Tree) → tree_at b n ≡ some t → u ≡ undoes t) where
  pub stays_undone : u ≡ true → (t : Tree) → tree_at b n ≡ some t → true ≡ stays_by known n t
  unfolding stays_by
  stays_undone z t e = rw (← f t e, z)

  pub stays_missing : u ≡ false → (r : Bool) → ((t : Tree) → tree_at b n ≡ some t → r ≡ misses_by known n t)
      → (t : Tree) → tree_at b n ≡ some t → r ≡ stays_by known n t
  unfolding stays_by
  stays_missing z r g t e = rw (← f t e, z) (g t e)

module _ (b known : List ℕ) (i j : ℕ) (u : Bool) (f : (t : Tree) → tree_at b i ≡ some t → u ≡ stays_by known i t) where
  pub alone_other : u ≡ true → (r : Bool) → ((t : Tree) → tree_at b j ≡ some t → r ≡ misses_by known j t)
      → (t v : Tree) → tree_at b i ≡ some t → tree_at b j ≡ some v → r ≡ alone_by known i t j v
  unfolding alone_by
  alone_other z r g t v e h = rw (← f t e, z) (g v h)

  pub alone_not : u ≡ false → (t v : Tree) → tree_at b i ≡ some t → tree_at b j ≡ some v → false ≡ alone_by known i t j v
  unfolding alone_by
  alone_not z t v e h = rw (← f t e, z)

pub undone_stays : (b known : List ℕ) (n : ℕ) (u : Bool) → ((t : Tree) → tree_at b n ≡ some t → u ≡ undoes t) → u ≡ true → Stays b known n
undone_stays b known n u f e = record { kept = λ s words m p mark z m' ran said. undone_by b known s words m p mark n z m' ran said u f e }

pub missing_stays : (b known : List ℕ) (n : ℕ) → Misses b known n → Stays b known n
missing_stays b known n w = record {
  kept = λ s words m p mark z m' ran said _.
      state_kept b known s words m p mark n z m' ran said
      (told_state _ (answered (missing_of p) m)
      (child_told b known s words m p mark n z m (missing_of p) (w.gone s words m p mark z) z.stands.state.items
      (z.stands.state.table, z.stands.state.same)));
}

-- ---- a fallback over such a node
module _ (b known s words m : List ℕ) (p : Numbers) (mark k n : ℕ) (z : Falls b known s words m p mark k n) (a : Stays b known n)
    (m' : List ℕ) (ran : Ran) (said : NodeSays b s words m p mark n m' ran) where
  pub fallback_stays :
      (w : ℕ)
      → ((v : BaseValue) (c : Tree) → tree_at b k ≡ some (Fallback v c) → w ≡ word v)
      → (r : Ran)
      → ((before m₁ : List ℕ) → Returned before p m₁ ran → MarksUnchanged before m₁ ran → FallbackOf w before p ran m₁ m₁ r)
      → NodeSays b s words m p mark k m' r
  fallback_stays w q r h =
      fallback_ends b known s words m p mark k n z m' ran said w q m' r
      (h m m' (fallback_given b known s words m p mark k n z m' ran said) (a.kept s words m p mark z.below m' ran said))

-- ---- the choice
pub searchable : (b known s words m : List ℕ) (p : Numbers) (mark n : ℕ) → Scalar b known s words m p mark n → Searchable b known n
searchable b known s words m p mark n z = record {
  stands = record { tree = z.stands.tree; node = z.stands.node };
  long = omega (arith, z.stands.knows.long);
}

module _ (b known s words m : List ℕ) (p : Numbers) (mark i j : ℕ) (z : BothSides b known s words m p mark i j) where
  module _ (a : Alone b known i j) (m' : List ℕ) (x : Ran) (said : NodeSays b s words m p mark i m' x) where
    pub first_few : x.tries + 1 < 2 ^ 32
    first_few = let l = child_tries b known s words m p mark i z.first m' x said in omega arith

    pub first_ends :
        (o : Chosen)
        → ((before m₁ : List ℕ) → Sides before p m₁ x before (missing_of p) → MarksUnchanged before m₁ x → ChoiceOf before p m₁ x before (missing_of p) m₁ o)
        → (t u : Tree)
        → tree_at b i ≡ some t
        → tree_at b j ≡ some u
        → Evaluates mark (sheet_area s) words (Choice t u) m p m' o.ran
    first_ends o h =
        let gone = a.misses.gone s words m p mark z.second in
        choice_ends b known s words m p mark i j z m' x said m (missing_of p) gone m' o
        (h m m' (choice_sides b known s words m p mark i j z m' x said m (missing_of p) gone)
        (a.stays.kept s words m p mark z.first m' x said))

  module _ (a : Alone b known j i) (m' : List ℕ) (y : Ran) (said : NodeSays b s words m p mark j m' y) where
    pub second_few : y.tries + 1 < 2 ^ 32
    second_few = let l = child_tries b known s words m p mark j z.second m' y said in omega arith

    pub second_ends :
        (o : Chosen)
        → ((before m₁ : List ℕ) → Sides before p before (missing_of p) m₁ y → MarksUnchanged before m₁ y → ChoiceOf before p before (missing_of p) m₁ y m₁ o)
        → (t u : Tree)
        → tree_at b i ≡ some t
        → tree_at b j ≡ some u
        → Evaluates mark (sheet_area s) words (Choice t u) m p m' o.ran
    second_ends o h =
        let gone = a.misses.gone s words m p mark z.first in
        choice_ends b known s words m p mark i j z m (missing_of p) gone m' y said m' o
        (h m m' (choice_sides b known s words m p mark i j z m (missing_of p) gone m' y said)
        (a.stays.kept s words m p mark z.second m' y said))
