-- What a node hands to its children: the trees below it are sound, light and no lists.
use mathlib.Core.Bool.{Bool, true, false, false≢true}
use mathlib.Core.List.{List}
use mathlib.Core.Option.{Option, some, none, some-injective}
use mathlib.Core.Path.{◌≡◌, refl, sym, ◌∙◌, ap, subst}
use Prim.Native.Nat.{ℕ, ◌+◌, ◌%◌, ◌≤◌, ◌<◌}
use native.Mathlib.Omega.{arith}
use lib.Dec.{leb, eqb}
use lib.ListN.{get_elem?}
use Rattle.std.specs.Prelude.{if◌then◌else◌}
use Rattle.rules.specs.Base.{is_some, ◌>>?◌}
use Rattle.rules.specs.Value.{Base, text, number, Kind, one, optional, list, list_of_optional, optional_list, BaseValue, base_of}
use Rattle.rules.specs.Form.{node_count, read_form}
use Rattle.rules.specs.Sheet.{sheet_area, sheet_fault}
use Rattle.rules.specs.Tree as rules
use Rattle.rules.specs.Tree.{Tree, Flag, Argument, Positional, Optional, Count, Last, Choice, Fallback, Guard, optional_kind, list_kind, count_kind, last_kind, shape_of, kind_of}
use Rattle.rules.specs.Tree.{position_of}
use Rattle.rules.specs.Split.{Item}
use Rattle.rules.specs.State.{parsed}
use Rattle.rules.specs.Take.{matches_arg, is_operand}
use Rattle.rules.specs.Accept.{length_good}
use Rattle.rules.specs.Sound.{Sound, leaves, is_named, well_built}
use Rattle.rules.proofs.Places.{left}
use Rattle.rules.proofs.KindLaws.{choice_kind_lem, base_kind_lem}
use Rattle.form_layout.specs.Layout.{node_of}
use Rattle.form_layout.specs.declared.Node.{Node}
use Rattle.form_layout.specs.declared.Kind.TheVariants as laid
use Rattle.form_layout.proofs.KindNumbers.{not_kind}
use Rattle.form_layout.proofs.Sizes.{sized}
use Rattle.state_marks.specs.declared.Numbers.{Numbers}
use Rattle.state_marks.specs.Lent.{Fine}
use Rattle.form_codes.specs.Codes.{named_at}
use Rattle.take_table.specs.Known.{TableTells as Tells, is_named as is_named_node, is_adjacent, node_matches}
use Rattle.take_search.specs.States as states
use Rattle.take.specs.Takes.{Skips, HasBits}
use Rattle.eval_told.specs.declared.Ran.{Ran}
use Rattle.eval_told.specs.Told.{Evaluates}
use Rattle.eval_told.specs.Nodes.{tree_at, is_scalar}
use Rattle.eval_shortcut.specs.Stands.{Standing, Scalar}
use Rattle.eval_params.specs.Leaves as params
use Rattle.eval_shortcut.specs.Children.{Wraps, Wrapped, Falls, BothSides, Hint, NodeSays}
use Rattle.eval_shortcut.proofs.Trees.{Leaf, Single, Fallen, Double, form_good_lem, node_inside, sound_at, flag_tree, argument_tree, positional_tree, optional_tree, count_tree}
use Rattle.eval_shortcut.proofs.Trees.{last_tree, choice_tree, fallback_tree, guard_tree, other_kind}

-- ---- kinds of children
optional_base : (k : Option Kind) → is_scalar (k >>? optional_kind) ≡ true → (b : Base) × (k ≡ some (one b))
unfolding is_scalar ◌>>?◌ optional_kind shape_of
optional_base none e = absurd (false≢true e)
optional_base (some (one b)) e = (b, refl)
optional_base (some (optional b)) e = absurd (false≢true e)
optional_base (some (list b)) e = absurd (false≢true e)
optional_base (some (list_of_optional b)) e = absurd (false≢true e)
optional_base (some (optional_list b)) e = absurd (false≢true e)

base_scalar : (k : Option Kind) (b : Base) → k ≡ some (one b) → is_scalar k ≡ true
unfolding is_scalar shape_of
base_scalar k b e = rw e

count_scalar : (k : Option Kind) → is_some (k >>? count_kind) ≡ true → is_scalar k ≡ true
unfolding is_some is_scalar ◌>>?◌ count_kind list_kind shape_of
count_scalar none e = e
count_scalar (some (one b)) e = refl
count_scalar (some (optional b)) e = refl
count_scalar (some (list b)) e = e
count_scalar (some (list_of_optional b)) e = e
count_scalar (some (optional_list b)) e = e

last_scalar : (k : Option Kind) → is_some (k >>? last_kind) ≡ true → is_scalar k ≡ true
unfolding is_some is_scalar ◌>>?◌ last_kind list_kind shape_of
last_scalar none e = e
last_scalar (some (one b)) e = refl
last_scalar (some (optional b)) e = refl
last_scalar (some (list b)) e = e
last_scalar (some (list_of_optional b)) e = e
last_scalar (some (optional_list b)) e = e

-- a node over one child that is no list
record Over (make : Tree → Tree) : Type 0 where
  light : (c : Tree) → leaves (make c) ≡ leaves c
  scalar : (c : Tree) → Sound (make c) → is_scalar (kind_of (make c)) ≡ true → is_scalar (kind_of c) ≡ true

over_optional : (catch : Bool) → Over (Optional catch)
unfolding leaves kind_of
over_optional catch = record {
  light = λ c. refl;
  scalar = λ c z e. let k = optional_base (kind_of c) e in base_scalar (kind_of c) k.0 k.1;
}

over_count : Over Count
unfolding leaves kind_of
over_count = record { light = λ c. refl; scalar = λ c z e. count_scalar (kind_of c) z.kind }

over_last : Over Last
unfolding leaves kind_of
over_last = record { light = λ c. refl; scalar = λ c z e. last_scalar (kind_of c) z.kind }

over_fallback : (v : BaseValue) → Over (Fallback v)
unfolding leaves kind_of
over_fallback v = record {
  light = λ c. refl;
  scalar = λ c z e. base_scalar (kind_of c) (base_of v) (base_kind_lem (base_of v) (kind_of c) z.kind).1;
}

over_guard : (l h : ℕ) → Over (Guard l h)
unfolding leaves kind_of
over_guard l h = record {
  light = λ c. refl;
  scalar = λ c z e. base_scalar (kind_of c) number (base_kind_lem number (kind_of c) z.kind).1;
}

-- ---- a node, and what its numbers say
module _ (b known s words m : List ℕ) (p : Numbers) (mark n : ℕ) (z : Scalar b known s words m p mark n) where
  pub form_long : length_good b ≡ true
  form_long = form_good_lem b n z.stands.tree z.stands.node

  pub node_below : n < node_count b
  node_below = node_inside b n z.stands.tree z.stands.node

  abbrev standing : (i : ℕ) (c : Tree) → tree_at b i ≡ some c → leaves c ≤ 64 → Standing b known s words m p mark i
  standing i c e l = record {
    tree = c;
    node = e;
    light = l;
    made = z.stands.made;
    state = z.stands.state;
    knows = z.stands.knows;
  }

  -- the node has one tree
  says :
      (m' : List ℕ) (r : Ran) {u : Tree}
      → u ≡ z.stands.tree
      → Evaluates mark (sheet_area s) words u m p m' r
      → NodeSays b s words m p mark n m' r
  says m' r e h t q =
      let same = some-injective z.stands.tree t (sym z.stands.node ∙ q) in
      subst (λ (v : Tree). Evaluates mark (sheet_area s) words v m p m' r) (e ∙ same) h

  sound : Sound z.stands.tree
  sound = sound_at b n z.stands.tree z.stands.node

  module _ (make : Tree → Tree) (o : Over make) (i : ℕ) (q : Single make b n i z.stands.tree) where
    made_sound : Sound (make q.child)
    made_sound = subst Sound (sym q.same) sound

    abbrev child_scalar : Scalar b known s words m p mark i
    child_scalar =
        let l : leaves q.child ≡ leaves z.stands.tree = sym (o.light q.child) ∙ ap leaves q.same in
        let k = z.stands.light in
        record {
          stands = standing i q.child q.node (omega arith);
          scalar = o.scalar q.child made_sound (subst (λ (t : Tree). is_scalar (kind_of t) ≡ true) (sym q.same) z.scalar);
        }

    child_wraps : Wraps make b known s words m p mark i
    child_wraps = record { below = child_scalar; sound = made_sound }

    child_says : (m' : List ℕ) (r : Ran) → Wrapped make mark b s words i m p m' r → NodeSays b s words m p mark n m' r
    child_says m' r f = says m' r q.same (f q.child q.node)

  module _ (x : Node) (h : get_elem? (read_form b).nodes n ≡ some (node_of x)) where
    -- ---- leaves
    -- the node is told by the table of `known`
    pub leaf_reaches : HasBits known p n
    leaf_reaches =
        let inside = z.stands.state.fine.inside in
        let same = z.stands.state.same in
        let long = z.stands.knows.long in
        let few = z.stands.knows.few in
        let nodes = (sized b form_long).counts.nodes in
        let below = node_below in
        record { low = omega arith; long = omega arith; few = omega arith }

    node_says : (test : Item → Bool) → ((i : Item) → node_matches b (node_of x) i ≡ test i)
        → Tells known p.end n (sheet_area s) words test
    node_says test same =
        let inside = z.stands.state.fine.inside in
        let many = z.stands.state.same in
        record {
          at = λ i y l e. z.stands.knows.at i y (omega arith) e n (node_of x) h ∙ same y;
          none = λ absent i l. z.stands.knows.any n absent i (omega arith);
        }

    named_leaf :
        (make : ℕ → rules.Named → Tree) (adjacent : Bool)
        → ((k : ℕ) (d : rules.Named) → well_built (make k d) ≡ true → is_named d ≡ true)
        → ((i : Item) → node_matches b (node_of x) i ≡ matches_arg (named_at b x.p x.q) adjacent i)
        → Leaf make b x.p x.q z.stands.tree
        → params.Leaf known (sheet_area s) words m p n mark (named_at b x.p x.q) adjacent
    named_leaf make adjacent built same q = record {
      state = z.stands.state;
      says = node_says (matches_arg (named_at b x.p x.q) adjacent) same;
      named = built q.place (named_at b x.p x.q) (ap well_built q.same ∙ sound.built);
    }

    flag_leaf : (node_of x).kind ≡ 1 → params.Leaf known (sheet_area s) words m p n mark (named_at b x.p x.q) false
    unfolding well_built node_matches is_named_node is_adjacent
    flag_leaf k = named_leaf _ false (λ i d e. e) (λ i. rw k) (flag_tree b n z.stands.tree z.stands.node (node_of x) h k)

    argument_leaf : (node_of x).kind ≡ 2 → params.Leaf known (sheet_area s) words m p n mark (named_at b x.p x.q) (eqb (x.r % 2) 1)
    unfolding well_built node_matches is_named_node is_adjacent
    argument_leaf k =
        named_leaf _ (eqb (x.r % 2) 1) (λ i d e. left (is_named d) _ e) (λ i. rw k) (argument_tree b n z.stands.tree z.stands.node (node_of x) h k)

    pub flag_ready : Fine m p × (parsed mark ≡ true) × HasBits known p n
    flag_ready = (z.stands.state.fine, z.stands.state.told, leaf_reaches)

    pub argument_ready : (node_of x).kind ≡ 2
        → (sheet_fault s ≡ 0) × HasBits known p n × ((names : rules.Named) × (adjacent : Bool) × params.Leaf known (sheet_area s) words m p n mark names adjacent)
    argument_ready k = (z.stands.made, leaf_reaches, (_, _, argument_leaf k))

    pub positional_ready : (sheet_fault s ≡ 0) × states.CanTake (sheet_area s) words m p mark
    positional_ready = (z.stands.made, z.stands.state)

    -- where a leaf may search from
    module _ (from : ℕ) (k : Hint z.stands.tree (sheet_area s) words m p from) where
      hint_of : {t : Tree} → t ≡ z.stands.tree → Hint t (sheet_area s) words m p from
      hint_of e = subst (λ (t : Tree). Hint t (sheet_area s) words m p from) (sym e) k

      pub flag_skips : (node_of x).kind ≡ 1 → Skips (sheet_area s) words (matches_arg (named_at b x.p x.q) false) m p from
      flag_skips e = hint_of (flag_tree b n z.stands.tree z.stands.node (node_of x) h e).same

      pub argument_skips : (node_of x).kind ≡ 2 → Skips (sheet_area s) words (matches_arg (named_at b x.p x.q) (eqb (x.r % 2) 1)) m p from
      argument_skips e = hint_of (argument_tree b n z.stands.tree z.stands.node (node_of x) h e).same

      pub argument_turn : (node_of x).kind ≡ 2
          → (sheet_fault s ≡ 0) × HasBits known p n
          × ((names : rules.Named) × (adjacent : Bool) × params.Leaf known (sheet_area s) words m p n mark names adjacent
          × Skips (sheet_area s) words (matches_arg names adjacent) m p from)
      argument_turn e = (z.stands.made, leaf_reaches, (_, _, argument_leaf e, argument_skips e))

      pub positional_skips : (node_of x).kind ≡ 3 → Skips (sheet_area s) words is_operand m p from
      positional_skips e = hint_of (positional_tree b n z.stands.tree z.stands.node (node_of x) h e).1

    module _ (m' : List ℕ) (r : Ran) where
      flag_says : (node_of x).kind ≡ 1
          → ((k : ℕ) → Evaluates mark (sheet_area s) words (Flag k (named_at b x.p x.q) (eqb x.r 1)) m p m' r)
          → NodeSays b s words m p mark n m' r
      flag_says k f =
          let q = flag_tree b n z.stands.tree z.stands.node (node_of x) h k in
          says m' r q.same (f q.place)

      argument_says : (node_of x).kind ≡ 2
          → ((k : ℕ) → Evaluates mark (sheet_area s) words (Argument k (named_at b x.p x.q) (if leb 2 x.r then number else text) (eqb (x.r % 2) 1)) m p m' r)
          → NodeSays b s words m p mark n m' r
      argument_says k f =
          let q = argument_tree b n z.stands.tree z.stands.node (node_of x) h k in
          says m' r q.same (f q.place)

      pub flag_node : (node_of x).kind ≡ 1
          → ((area items : List ℕ) (names : rules.Named) → params.Leaf known area items m p n mark names false
          → (k : ℕ) → Evaluates mark area items (Flag k names (eqb x.r 1)) m p m' r)
          → NodeSays b s words m p mark n m' r
      flag_node k f = flag_says k (f (sheet_area s) words (named_at b x.p x.q) (flag_leaf k))

      pub argument_node : (node_of x).kind ≡ 2
          → ((names : rules.Named) (adjacent : Bool) → params.Leaf known (sheet_area s) words m p n mark names adjacent
          → (k : ℕ) → Evaluates mark (sheet_area s) words (Argument k names (if leb 2 x.r then number else text) adjacent) m p m' r)
          → NodeSays b s words m p mark n m' r
      argument_node k f = argument_says k (f (named_at b x.p x.q) (eqb (x.r % 2) 1) (argument_leaf k))

      module _ (from : ℕ) (hint : Hint z.stands.tree (sheet_area s) words m p from) where
        pub flag_again : (node_of x).kind ≡ 1
            → ((area items : List ℕ) (names : rules.Named) → params.Leaf known area items m p n mark names false
            → Skips area items (matches_arg names false) m p from
            → (k : ℕ) → Evaluates mark area items (Flag k names (eqb x.r 1)) m p m' r)
            → NodeSays b s words m p mark n m' r
        flag_again k f = flag_says k (f (sheet_area s) words (named_at b x.p x.q) (flag_leaf k) (flag_skips from hint k))

        pub argument_again : (node_of x).kind ≡ 2
            → ((names : rules.Named) (adjacent : Bool) → params.Leaf known (sheet_area s) words m p n mark names adjacent
            → Skips (sheet_area s) words (matches_arg names adjacent) m p from
            → (k : ℕ) → Evaluates mark (sheet_area s) words (Argument k names (if leb 2 x.r then number else text) adjacent) m p m' r)
            → NodeSays b s words m p mark n m' r
        argument_again k f =
            argument_says k (f (named_at b x.p x.q) (eqb (x.r % 2) 1) (argument_leaf k) (argument_skips from hint k))

      pub positional_says :
          (node_of x).kind ≡ 3
          → ((k : ℕ) → Evaluates mark (sheet_area s) words (Positional k (position_of x.p) (if eqb x.r 2 then number else text)) m p m' r)
          → NodeSays b s words m p mark n m' r
      positional_says k f =
          let q = positional_tree b n z.stands.tree z.stands.node (node_of x) h k in
          says m' r q.1 (f q.0)

    -- ---- one child
    optional_below : (node_of x).kind ≡ 4 → Single (Optional (eqb x.r 1)) b n x.p z.stands.tree
    optional_below = optional_tree b n z.stands.tree z.stands.node (node_of x) h

    pub optional_less : (node_of x).kind ≡ 4 → x.p < n
    optional_less k = (optional_below k).less

    pub optional_ready : (node_of x).kind ≡ 4 → Wraps (Optional (eqb x.r 1)) b known s words m p mark x.p
    optional_ready k = child_wraps _ (over_optional (eqb x.r 1)) x.p (optional_below k)

    pub optional_says : (m' : List ℕ) (r : Ran) → (node_of x).kind ≡ 4 → Wrapped (Optional (eqb x.r 1)) mark b s words x.p m p m' r → NodeSays b s words m p mark n m' r
    optional_says m' r k = child_says _ (over_optional (eqb x.r 1)) x.p (optional_below k) m' r

    count_below : (node_of x).kind ≡ 7 → Single Count b n x.p z.stands.tree
    count_below = count_tree b n z.stands.tree z.stands.node (node_of x) h

    pub count_less : (node_of x).kind ≡ 7 → x.p < n
    count_less k = (count_below k).less

    pub count_ready : (node_of x).kind ≡ 7 → Wraps Count b known s words m p mark x.p
    count_ready k = child_wraps _ over_count x.p (count_below k)

    pub count_says : (m' : List ℕ) (r : Ran) → (node_of x).kind ≡ 7 → Wrapped Count mark b s words x.p m p m' r → NodeSays b s words m p mark n m' r
    count_says m' r k = child_says _ over_count x.p (count_below k) m' r

    last_below : (node_of x).kind ≡ 8 → Single Last b n x.p z.stands.tree
    last_below = last_tree b n z.stands.tree z.stands.node (node_of x) h

    pub last_less : (node_of x).kind ≡ 8 → x.p < n
    last_less k = (last_below k).less

    pub last_ready : (node_of x).kind ≡ 8 → Wraps Last b known s words m p mark x.p
    last_ready k = child_wraps _ over_last x.p (last_below k)

    pub last_says : (m' : List ℕ) (r : Ran) → (node_of x).kind ≡ 8 → Wrapped Last mark b s words x.p m p m' r → NodeSays b s words m p mark n m' r
    last_says m' r k = child_says _ over_last x.p (last_below k) m' r

    -- the rest of the kinds is the guard's
    pub guard_is :
        (x.kind ≡ laid.Flag → ⊥)
        → (x.kind ≡ laid.Argument → ⊥)
        → (x.kind ≡ laid.Positional → ⊥)
        → (x.kind ≡ laid.Optional → ⊥)
        → (x.kind ≡ laid.Count → ⊥)
        → (x.kind ≡ laid.Last → ⊥)
        → (x.kind ≡ laid.Choice → ⊥)
        → (x.kind ≡ laid.Fallback → ⊥)
        → (node_of x).kind ≡ 11
    guard_is f a p o c l d e =
        other_kind b n z.stands.tree z.stands.node (node_of x) h z.scalar (not_kind x.kind 1 refl f) (not_kind x.kind 2 refl a)
        (not_kind x.kind 3 refl p) (not_kind x.kind 4 refl o) (not_kind x.kind 7 refl c) (not_kind x.kind 8 refl l)
        (not_kind x.kind 9 refl d) (not_kind x.kind 10 refl e)

    guard_below : (node_of x).kind ≡ 11 → Single (Guard x.lo x.hi) b n x.p z.stands.tree
    guard_below = guard_tree b n z.stands.tree z.stands.node (node_of x) h

    pub guard_less : (node_of x).kind ≡ 11 → x.p < n
    guard_less k = (guard_below k).less

    pub guard_ready : (node_of x).kind ≡ 11 → Wraps (Guard x.lo x.hi) b known s words m p mark x.p
    guard_ready k = child_wraps _ (over_guard x.lo x.hi) x.p (guard_below k)

    pub guard_says : (m' : List ℕ) (r : Ran) → (node_of x).kind ≡ 11 → Wrapped (Guard x.lo x.hi) mark b s words x.p m p m' r → NodeSays b s words m p mark n m' r
    guard_says m' r k = child_says _ (over_guard x.lo x.hi) x.p (guard_below k) m' r

    -- ---- a fallback, and a choice
    fallback_below : (node_of x).kind ≡ 10 → Fallen b n x.p z.stands.tree
    fallback_below = fallback_tree b n z.stands.tree z.stands.node (node_of x) h

    pub fallback_less : (node_of x).kind ≡ 10 → x.p < n
    fallback_less k = (fallback_below k).single.less

    pub fallback_ready : (node_of x).kind ≡ 10 → Falls b known s words m p mark n x.p
    fallback_ready k =
        let q = fallback_below k in
        record {
          own = q.own;
          below = child_scalar _ (over_fallback q.own) x.p q.single;
          stands = z.stands.node ∙ ap some (sym q.single.same);
        }

    choice_below : (node_of x).kind ≡ 9 → Double b n x.p x.q z.stands.tree
    choice_below = choice_tree b n z.stands.tree z.stands.node (node_of x) h

    pub choice_less : (node_of x).kind ≡ 9 → x.p < n
    choice_less k = (choice_below k).less

    pub choice_less₂ : (node_of x).kind ≡ 9 → x.q < n
    choice_less₂ k = (choice_below k).less₂

    pub choice_ready : (node_of x).kind ≡ 9 → BothSides b known s words m p mark x.p x.q
    unfolding leaves kind_of
    choice_ready k =
        let q = choice_below k in
        let sum : leaves q.first + leaves q.second ≡ leaves z.stands.tree = ap leaves q.same in
        let few = z.stands.light in
        let good : Sound (Choice q.first q.second) = subst Sound (sym q.same) sound in
        let kinds = choice_kind_lem (kind_of q.first) (kind_of q.second) good.kind in
        let whole : is_scalar (kind_of (Choice q.first q.second)) ≡ true = subst (λ (t : Tree). is_scalar (kind_of t) ≡ true) (sym q.same) z.scalar in
        let one : is_scalar (kind_of q.first) ≡ true = subst (λ (o : Option Kind). is_scalar o ≡ true) kinds.0 whole in
        record {
          first = record { stands = standing x.p q.first q.node (omega arith); scalar = one };
          second = record {
            stands = standing x.q q.second q.node₂ (omega arith);
            scalar = subst (λ (o : Option Kind). is_scalar o ≡ true) (sym kinds.1) one;
          };
          sound = good;
        }

    pub choice_says :
        (m' : List ℕ) (r : Ran)
        → (node_of x).kind ≡ 9
        → ((t u : Tree) → tree_at b x.p ≡ some t → tree_at b x.q ≡ some u → Evaluates mark (sheet_area s) words (Choice t u) m p m' r)
        → NodeSays b s words m p mark n m' r
    choice_says m' r k f =
        let q = choice_below k in
        says m' r q.same (f q.first q.second q.node q.node₂)
