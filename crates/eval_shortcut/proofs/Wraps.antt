-- The leaf beneath a repeat's child: it stands, it may search from where the child may, and the child makes its result of the leaf's.
use mathlib.Core.Bool.{Bool, true, false, not}
use mathlib.Core.List.{List}
use mathlib.Core.Logic.{◌⊎◌, ⊎_elim}
use mathlib.Core.Option.{some, some-injective}
use mathlib.Core.Path.{◌≡◌, refl, sym, ◌∙◌, ap, subst}
use Prim.Native.Nat.{ℕ, ◌≤◌, ◌<◌}
use native.Mathlib.Omega.{arith}
use lib.Dec.{leb, eqb}
use lib.ListN.{get_elem?}
use Rattle.rules.specs.Value.{number}
use Rattle.rules.specs.Form.{Node, read_form}
use Rattle.rules.specs.Sheet.{sheet_area}
use Rattle.rules.specs.Tree.{Tree, Flag, Argument, Positional, Optional, Many, Some, Count, Last, Choice, Fallback, Guard, kind_of}
use Rattle.rules.proofs.KindLaws.{base_kind_lem}
use Rattle.form_layout.specs.Layout.{node_of}
use Rattle.form_layout.specs.declared.Node.{Node as LaidOut}
use Rattle.state_marks.specs.declared.Numbers.{Numbers}
use Rattle.eval_told.specs.declared.Ran.{Ran}
use Rattle.eval_told.specs.Nodes.{tree_at}
use Rattle.eval_shortcut.specs.Stands.{Scalar}
use Rattle.eval_combine.specs.Made.{ChildGiven, Undone, OptionalOf, GuardOf}
use Rattle.eval_combine.specs.declared.Optioned.{Optioned}
use Rattle.eval_shortcut.specs.Children.{Hint, Turns, Spares, Beneath, starts_below, leaf_below, Searched, LeafRan, NodeSays, HandsOn}
use Rattle.eval_shortcut.specs.Marks.{keeps_marks, is_leaf, HasTree}
use Rattle.eval_shortcut.proofs.Trees.{Single, kind_number, optional_tree, guard_tree, tree_number}
use Rattle.eval_shortcut.proofs.Words.{scalar_short}
use Rattle.eval_shortcut.proofs.Given.{optional_less, optional_ready, optional_says, guard_less, guard_ready, guard_says}
use Rattle.eval_shortcut.proofs.Steps.{base_len, optional_given, optional_ends, guard_ends}
use Rattle.eval_shortcut.proofs.Absent.{absent_same}

-- ---- the child of a guard or an optional is a node of the form
module _ (b : List ℕ) (n : ℕ) (t : Tree) (e : tree_at b n ≡ some t) (x : LaidOut) (h : get_elem? (read_form b).nodes n ≡ some (node_of x)) where
  pub guard_child : (node_of x).kind ≡ 11 → HasTree b x.p
  guard_child k = let q = guard_tree b n t e (node_of x) h k in record { tree = q.child; node = q.node }

  pub optional_child : (node_of x).kind ≡ 4 → HasTree b x.p
  optional_child k = let q = optional_tree b n t e (node_of x) h k in record { tree = q.child; node = q.node }

-- ---- the node that a turn evaluates first
leaf_number : (t : Tree) → leb (kind_number t) 3 ≡ is_leaf t
unfolding kind_number is_leaf
leaf_number (Flag n names switch) = refl
leaf_number (Argument n names b adjacent) = refl
leaf_number (Positional n q b) = refl
leaf_number (Optional c t) = refl
leaf_number (Many c t) = refl
leaf_number (Some c t) = refl
leaf_number (Count t) = refl
leaf_number (Last t) = refl
leaf_number (Choice t u) = refl
leaf_number (Fallback v t) = refl
leaf_number (Guard l h t) = refl

not_below : (t : Tree) → (kind_number t ≡ 11 → ⊥) → (kind_number t ≡ 4 → ⊥) → starts_below t ≡ false
unfolding kind_number starts_below
not_below (Flag n names switch) g o = refl
not_below (Argument n names b adjacent) g o = refl
not_below (Positional n q b) g o = refl
not_below (Optional c t) g o = absurd (o refl)
not_below (Many c t) g o = refl
not_below (Some c t) g o = refl
not_below (Count t) g o = refl
not_below (Last t) g o = refl
not_below (Choice t u) g o = refl
not_below (Fallback v t) g o = refl
not_below (Guard l h t) g o = absurd (g refl)

module _ (b : List ℕ) (n : ℕ) (x : LaidOut) (h : get_elem? (read_form b).nodes n ≡ some (node_of x)) (t : Tree) (e : tree_at b n ≡ some t) where
  pub is_leaf_by : leb (node_of x).kind 3 ≡ is_leaf t
  is_leaf_by = rw (← tree_number b n t e (node_of x) h) (leaf_number t)

  below_yes : starts_below t ≡ true → x.p ≡ leaf_below b n t
  unfolding leaf_below
  below_yes z = rw (h, leaf_below, z)

  below_no : starts_below t ≡ false → n ≡ leaf_below b n t
  unfolding leaf_below
  below_no z = rw (h, leaf_below, z)

  module _ (leaf : Bool) (f : (c : Tree) → tree_at b x.p ≡ some c → leaf ≡ is_leaf c) where
    starts_guard : (node_of x).kind ≡ 11 → starts_below t ≡ leaf
    unfolding starts_below
    starts_guard k =
        let q = guard_tree b n t e (node_of x) h k in
        sym (ap starts_below q.same) ∙ sym (f q.child q.node)

    pub guard_leaf : (node_of x).kind ≡ 11 → leaf ≡ true → x.p ≡ leaf_below b n t
    guard_leaf k z = below_yes (starts_guard k ∙ z)

    pub guard_other : (node_of x).kind ≡ 11 → leaf ≡ false → n ≡ leaf_below b n t
    guard_other k z = below_no (starts_guard k ∙ z)

    pub optional_other : (node_of x).kind ≡ 4 → leaf ≡ false → n ≡ leaf_below b n t
    unfolding starts_below
    optional_other k z =
        let q = optional_tree b n t e (node_of x) h k in
        below_no (sym (ap starts_below q.same) ∙ rw (← f q.child q.node, z))

    module _ (keeps : Bool) (g : (c : Tree) → tree_at b x.p ≡ some c → keeps ≡ keeps_marks (eqb x.r 1) c) (k : (node_of x).kind ≡ 4) (z : leaf ≡ true) where
      starts_optional : starts_below t ≡ not keeps
      unfolding starts_below
      starts_optional =
          let q = optional_tree b n t e (node_of x) h k in
          sym (ap starts_below q.same) ∙ rw (← f q.child q.node, z, ← g q.child q.node)

      pub optional_leaf : keeps ≡ false → x.p ≡ leaf_below b n t
      optional_leaf w = below_yes (starts_optional ∙ ap not w)

      pub optional_kept : keeps ≡ true → n ≡ leaf_below b n t
      optional_kept w = below_no (starts_optional ∙ ap not w)

  pub no_leaf : ((node_of x).kind ≡ 11 → ⊥) → ((node_of x).kind ≡ 4 → ⊥) → n ≡ leaf_below b n t
  no_leaf g o =
      let k = sym (tree_number b n t e (node_of x) h) in
      below_no (not_below t (λ q. g (k ∙ q)) (λ q. o (k ∙ q)))

-- ---- the node beneath, as the code reads its child
abbrev Under : List ℕ → ℕ → Node → Type 0
Under b leaf x = (leaf ≡ x.p) × ((x.kind ≡ 11) ⊎ ((x.kind ≡ 4) × Spares (eqb x.r 1) b leaf))

module _ (b : List ℕ) (n leaf : ℕ) (x : LaidOut) (h : get_elem? (read_form b).nodes n ≡ some (node_of x)) where
  under : Beneath b n leaf → Under b leaf (node_of x)
  under g = subst (Under b leaf) (some-injective (node_of g.own) (node_of x) (sym g.read ∙ h)) (g.place, g.kind)

  searched_under : Searched b n leaf → (leaf ≡ n → ⊥) → Under b leaf (node_of x)
  searched_under w l = ⊎_elim (λ e. absurd (l e)) (λ g. under g) w

  pub searched_place : Searched b n leaf → (leaf ≡ n → ⊥) → leaf ≡ x.p
  searched_place w l = (searched_under w l).0

  pub searched_optional : Searched b n leaf → (leaf ≡ n → ⊥) → ((node_of x).kind ≡ 11 → ⊥) → ((node_of x).kind ≡ 4) × Spares (eqb x.r 1) b leaf
  searched_optional w l k = ⊎_elim (λ e. absurd (k e)) (λ g. g) (searched_under w l).1

-- ---- what a guard and an optional are, from what the code reads
module _ (b known s words m : List ℕ) (p : Numbers) (mark n : ℕ) (z : Scalar b known s words m p mark n) (x : LaidOut) (h : get_elem? (read_form b).nodes n ≡ some (node_of x)) where
  module _ (m' : List ℕ) (ran : Ran) (said : NodeSays b s words m p mark x.p m' ran) where
    guard_answers : (node_of x).kind ≡ 11 → (r : Ran) → GuardOf x.lo x.hi ran r → NodeSays b s words m p mark n m' r
    guard_answers k r g =
        guard_says b known s words m p mark n z x h m' r k
        (guard_ends x.lo x.hi b known s words m p mark x.p (guard_ready b known s words m p mark n z x h k) m' ran said r g)

    guard_short : (node_of x).kind ≡ 11 → ran.len < 1000
    unfolding kind_of
    guard_short k =
        let y = guard_ready b known s words m p mark n z x h k in
        let e = (base_kind_lem number (kind_of y.below.stands.tree) y.sound.kind).1 in
        let l = base_len b known s words m p mark x.p y.below m' ran said number e in
        let w = scalar_short ran.len ran.word in
        omega arith

    -- an absent leaf that spares the marks left them as they were
    undone : (node_of x).kind ≡ 4 → (catch : Bool) → Spares catch b x.p → Undone catch m p m' ran
    undone k catch f w =
        let y = (optional_ready b known s words m p mark n z x h k).below in
        absent_same b known s words m p mark x.p y m' ran said catch _ w (f y.stands.tree y.stands.node)

    optional_short : (node_of x).kind ≡ 4 → ran.len < 1000
    optional_short k = (optional_given (eqb x.r 1) b known s words m p mark x.p (optional_ready b known s words m p mark n z x h k) m' ran said).short

    optional_answers : (node_of x).kind ≡ 4 → Spares (eqb x.r 1) b x.p → (o : Optioned)
        → ((before m : List ℕ) → ChildGiven before p m ran → Undone (eqb x.r 1) before p m ran → OptionalOf (eqb x.r 1) before p ran m m o)
        → NodeSays b s words m p mark n m' o.ran
    optional_answers k f o g =
        let c : Bool = eqb x.r 1 in
        let y = optional_ready b known s words m p mark n z x h k in
        let given = optional_given c b known s words m p mark x.p y m' ran said in
        optional_says b known s words m p mark n z x h m' o.ran k
        (optional_ends c b known s words m p mark x.p y m' ran said m' o (g m m' given (undone k c f)))

-- ---- what the child makes of the leaf's result
said_at : (b : List ℕ) (p : Numbers) (ran : Ran) (s words m : List ℕ) (mark : ℕ) (m' : List ℕ) {i j : ℕ} → i ≡ j
    → NodeSays b s words m p mark i m' ran → NodeSays b s words m p mark j m' ran
said_at b p ran s words m mark m' e = subst (λ (k : ℕ). NodeSays b s words m p mark k m' ran) e

module _ (b : List ℕ) (n leaf : ℕ) (p : Numbers) (ran : Ran) where
  pub child_itself : leaf ≡ n → HandsOn b n leaf p ran ran
  child_itself e known s words m m' mark z said = said_at b p ran s words m mark m' e said

  module _ (a : LeafRan b n leaf ran) (l : leaf ≡ n → ⊥) (x : LaidOut) (h : get_elem? (read_form b).nodes n ≡ some (node_of x)) where
    pub guard_hands : (node_of x).kind ≡ 11 → (r : Ran) → GuardOf x.lo x.hi ran r → HandsOn b n leaf p ran r
    guard_hands k r g known s words m m' mark z said =
        guard_answers b known s words m p mark n z x h m' ran (said_at b p ran s words m mark m' (searched_place b n leaf x h a.searched l) said) k r g

    pub optional_hands : ((node_of x).kind ≡ 11 → ⊥) → (o : Optioned)
        → ((before m : List ℕ) → ChildGiven before p m ran → Undone (eqb x.r 1) before p m ran → OptionalOf (eqb x.r 1) before p ran m m o)
        → HandsOn b n leaf p ran o.ran
    optional_hands k o g known s words m m' mark z said =
        let e = searched_place b n leaf x h a.searched l in
        let q = searched_optional b n leaf x h a.searched l k in
        optional_answers b known s words m p mark n z x h m' ran (said_at b p ran s words m mark m' e said) q.0
        (subst (Spares (eqb x.r 1) b) e q.1) o g

-- ---- the leaf of a child
module _ (b known s words m : List ℕ) (p : Numbers) (mark n : ℕ) (z : Scalar b known s words m p mark n) (leaf : ℕ) (w : Searched b n leaf) where
  beneath_less : Beneath b n leaf → leaf < n
  beneath_less g =
      let x = g.own in
      let e = g.place in
      ⊎_elim
      (λ k. let l = guard_less b known s words m p mark n z x g.read k in omega arith)
      (λ k. let l = optional_less b known s words m p mark n z x g.read k.0 in omega arith)
      g.kind

  pub leaf_within : leaf ≤ n
  leaf_within = ⊎_elim (λ e. omega arith) (λ g. let l = beneath_less g in omega arith) w

-- ---- a turn
module _ (b known s words m : List ℕ) (p : Numbers) (mark n from : ℕ) (z : Turns b known s words m p mark n from) (leaf : ℕ) (w : Searched b n leaf) where
  single_turns : (make : Tree → Tree)
      → ((t : Tree) → Hint (make t) (sheet_area s) words m p from → Hint t (sheet_area s) words m p from)
      → (i : ℕ) → Single make b n i z.below.stands.tree → Scalar b known s words m p mark i
      → Turns b known s words m p mark i from
  single_turns make f i q y = record {
    below = y;
    hint = subst (λ (t : Tree). Hint t (sheet_area s) words m p from)
        (some-injective q.child y.stands.tree (sym q.node ∙ y.stands.node))
        (f q.child (subst (λ (t : Tree). Hint t (sheet_area s) words m p from) (sym q.same) z.hint));
  }

  beneath_turns : Beneath b n leaf → Turns b known s words m p mark leaf from
  beneath_turns g =
      let x = g.own in
      subst (λ (i : ℕ). Turns b known s words m p mark i from) (sym g.place)
      (⊎_elim
      (λ k. single_turns (Guard x.lo x.hi) (λ t i. i) x.p
      (guard_tree b n z.below.stands.tree z.below.stands.node (node_of x) g.read k)
      (guard_ready b known s words m p mark n z.below x g.read k).below)
      (λ k. single_turns (Optional (eqb x.r 1)) (λ t i. i) x.p
      (optional_tree b n z.below.stands.tree z.below.stands.node (node_of x) g.read k.0)
      (optional_ready b known s words m p mark n z.below x g.read k.0).below)
      g.kind)

  pub leaf_turns : Turns b known s words m p mark leaf from
  leaf_turns = ⊎_elim (λ e. subst (λ (i : ℕ). Turns b known s words m p mark i from) (sym e) z) beneath_turns w

  beneath_short : (m' : List ℕ) (ran : Ran) → NodeSays b s words m p mark leaf m' ran → Beneath b n leaf → ran.len < 1000
  beneath_short m' ran said g =
      let x = g.own in
      let says = said_at b p ran s words m mark m' g.place said in
      ⊎_elim
      (λ k. guard_short b known s words m p mark n z.below x g.read m' ran says k)
      (λ k. optional_short b known s words m p mark n z.below x g.read m' ran says k.0)
      g.kind

  pub leaf_ran : (m' : List ℕ) (ran : Ran) → NodeSays b s words m p mark leaf m' ran → LeafRan b n leaf ran
  leaf_ran m' ran said = record {
    tree = z.below.stands.tree;
    node = z.below.stands.node;
    searched = w;
    short = λ l. ⊎_elim (λ e. absurd (l e)) (λ g. beneath_short m' ran said g) w;
  }
