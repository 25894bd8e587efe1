-- A node and its entries: what its children are given, and what they leave.
use mathlib.Core.Bool.{Bool, true, false, not}
use mathlib.Core.List.{List, [], ◌∷◌, ◌++◌}
use mathlib.Core.Logic.{◌⊎◌, inl, inr, ⊎_elim}
use mathlib.Core.Option.{some, some-injective}
use mathlib.Core.Path.{◌≡◌, refl, sym, ap, ap₂, ◌∙◌, subst}
use Prim.Native.Nat.{ℕ, suc, ◌+◌, ◌*◌, ◌≤◌, ◌<◌}
use native.Mathlib.Omega.{arith}
use lib.ListN.{length, length-append, get_elem?}
use lib.Seq.{sets, length-sets}
use Rattle.std.specs.Prelude.{if◌then◌else◌}
use Rattle.rules.specs.Base.{concat_map}
use Rattle.rules.specs.Outcome.{list_words}
use Rattle.rules.specs.Form.{read_form, node_count}
use Rattle.rules.specs.Sheet.{sheet_area}
use Rattle.rules.specs.Tree.{Tree, Last, Choice, Guard, kind_of}
use Rattle.rules.specs.Split.{Item}
use Rattle.rules.specs.State.{State}
use Rattle.rules.specs.Accept.{length_good}
use Rattle.rules.specs.Sound.{leaves}
use Rattle.rules.specs.Eval.{eval}
use Rattle.rules.specs.Missing.{ends_missing, lacking}
use Rattle.form_layout.specs.Layout.{node_of}
use Rattle.form_layout.specs.declared.Node.{Node}
use Rattle.form_layout.proofs.Sizes.{sized}
use Rattle.state_marks.specs.declared.Numbers.{Numbers}
use Rattle.state_marks.specs.Lent.{state_of}
use Rattle.take_search.specs.States.{Items}
use Rattle.eval_told.specs.Nodes.{tree_at, is_scalar}
use Rattle.eval_words.proofs.Words.{sets_append}
use Rattle.eval_shortcut.specs.Stands.{Scalar}
use Rattle.eval_shortcut.specs.Children.{BothSides}
use Rattle.eval_shortcut.proofs.Trees.{Single, Double, kind_number, form_good_lem, node_inside, sound_at, last_tree, guard_tree, choice_tree, tree_number}
use Rattle.eval_shortcut.proofs.Given.{last_ready, guard_ready, choice_ready}
use Rattle.eval_list.specs.Lists.{MarkedField, in_place}
use Rattle.eval_missing.specs.Missing.{Listable, Listing, Lists, ListsNode}
use Rattle.eval_missing.proofs.Entries.{words_append, entry_words_lem, tree_own, leaf_one, leaf_lacks, other_lacks, list_lacks}

-- ---- a list
-- of a tree without entries
lists_none :
    (mark : ℕ) (area words : List ℕ) (t : Tree) (m : List ℕ) (p : Numbers) (at : ℕ) (l : List ℕ)
    → ((is : List Item) → lacking mark is t (state_of m p) ≡ [])
    → Lists mark area words t m p at l l at
unfolding list_words concat_map
lists_none mark area words t m p at l h =
    record { entries = []; same = λ is i. ap list_words (h is); put = refl; count = omega arith; few = omega arith }

-- what the first side of a choice wrote: its entries, if it was refused with 20
pub record Begun (mark : ℕ) (area words : List ℕ) (t : Tree) (m : List ℕ) (p : Numbers) (at : ℕ) (l l' : List ℕ) (stop : ℕ) : Type 0 where
  pub entries : List ℕ
  pub same :
      (is : List Item)
      → Items area words p is
      → list_words (if ends_missing (eval mark is t (state_of m p)).outcome then lacking mark is t (state_of m p) else []) ≡ entries
  pub put : l' ≡ sets l at entries
  pub count : stop ≡ at + length entries
  pub few : length entries ≤ 3 * leaves t

module _ (mark : ℕ) (area words : List ℕ) (t : Tree) (m : List ℕ) (p : Numbers) (at : ℕ) (l : List ℕ) where
  module _ (r : Bool) (says : (is : List Item) → Items area words p is → r ≡ ends_missing (eval mark is t (state_of m p)).outcome) where
    begun_kept :
        r ≡ true → {l₀ l' : List ℕ} {at₀ stop : ℕ} → Lists mark area words t m p at l l₀ at₀ → l' ≡ l₀ → stop ≡ at₀ → Begun mark area words t m p at l l' stop
    begun_kept e w q k =
        record { entries = w.entries; same = λ is i. rw (sym (says is i) ∙ e) (w.same is i); put = q ∙ w.put; count = k ∙ w.count; few = w.few }

    begun_none : r ≡ false → {l' : List ℕ} {stop : ℕ} → l' ≡ l → stop ≡ at → Begun mark area words t m p at l l' stop
    unfolding list_words concat_map
    begun_none e q k =
        record { entries = []; same = λ is i. rw (sym (says is i) ∙ e); put = q; count = omega arith; few = omega arith }

  -- the second side's entries stand behind
  choice_both :
      (u : Tree) (l₁ l₂ : List ℕ) (at₁ stop : ℕ)
      → Begun mark area words t m p at l l₁ at₁
      → Lists mark area words u m p at₁ l₁ l₂ stop
      → Lists mark area words (Choice t u) m p at l l₂ stop
  unfolding lacking leaves
  choice_both u l₁ l₂ at₁ stop a b =
      record {
        entries = a.entries ++ b.entries;
        same = λ is i. words_append _ _ ∙ ap₂ (λ (v w : List ℕ). v ++ w) (a.same is i) (b.same is i);
        put = b.put ∙ rw (a.put, a.count) (sym (sets_append a.entries b.entries l at));
        count = omega (arith, a.count, b.count, length-append a.entries b.entries);
        few = omega (arith, a.few, b.few, length-append a.entries b.entries);
      }

-- the same of a node, for its tree
abbrev pub BegunNode : List ℕ → List ℕ → List ℕ → MarkedField → List ℕ → Numbers → List ℕ → List ℕ → ℕ → Type 0
BegunNode b s words f m p l l' stop =
    (t : Tree) → tree_at b f.node ≡ some t → Begun f.mark (sheet_area s) words t m p f.at l l' stop

-- what the test of a first side answers
abbrev pub EndsMissing : List ℕ → List ℕ → List ℕ → MarkedField → List ℕ → Numbers → Bool → Type 0
EndsMissing b s words f m p r =
    (t : Tree) (is : List Item) → tree_at b f.node ≡ some t → Items (sheet_area s) words p is → r ≡ ends_missing (eval f.mark is t (state_of m p)).outcome

-- ---- a node
-- the child of a node that has its entries
record Under (b known s words m : List ℕ) (p : Numbers) (mark n i : ℕ) (t : Tree) : Type 0 where
  less : i < n
  below : Scalar b known s words m p mark i
  light : leaves below.stands.tree ≡ leaves t
  same : (is : List Item) (q : State) → lacking mark is t q ≡ lacking mark is below.stands.tree q

-- the two sides of a choice: either has room where its node has
pub record SidesListable (b known s words m : List ℕ) (p : Numbers) (f : MarkedField) (l : List ℕ) (left right : ℕ) : Type 0 where
  pub less : left < f.node
  pub less₂ : right < f.node
  pub first : Listable b known s words m p (in_place f left) l
  pub second : Listable b known s words m p (in_place f right) l

module _ {b known s words m : List ℕ} {p : Numbers} {f : MarkedField} {l : List ℕ} (z : Listable b known s words m p f l) where
  abbrev T : Tree
  T = z.below.stands.tree

  abbrev T-node : tree_at b f.node ≡ some T
  T-node = z.below.stands.node

  pub there : (length_good b ≡ true) × (f.node < node_count b)
  there = (form_good_lem b f.node T T-node, node_inside b f.node T T-node)

  -- the node has one tree
  lists_of : {l' : List ℕ} {stop : ℕ} → Lists f.mark (sheet_area s) words T m p f.at l l' stop → ListsNode b s words f m p l l' stop
  lists_of {l'} {stop} h t g =
      subst (λ (u : Tree). Lists f.mark (sheet_area s) words u m p f.at l l' stop) (some-injective T t (sym T-node ∙ g)) h

  module _ (x : Node) (h : get_elem? (read_form b).nodes f.node ≡ some (node_of x)) where
    number : kind_number T ≡ (node_of x).kind
    number = tree_number b f.node T T-node (node_of x) h

    -- ---- a leaf
    module _ (k : (node_of x).kind ≤ 3) where
      low_kind : kind_number T ≤ 3
      low_kind = omega (arith, number)

      -- a form has at most 64 nodes
      pub leaf_room : (f.at + 3 ≤ length l) × (f.node < 64)
      leaf_room =
          let one = leaf_one T low_kind in
          (omega (arith, z.space), omega (arith, (sized b there.0).counts.nodes, there.1))

      pub leaf_lists :
          {l' : List ℕ} {stop : ℕ}
          → (stop ≡ f.at + 3) × (l' ≡ sets l f.at (suc f.node ∷ p.start ∷ p.end ∷ []))
          → ListsNode b s words f m p l l' stop
      leaf_lists w =
          lists_of
          (record {
            entries = suc f.node ∷ p.start ∷ p.end ∷ [];
            same = λ is i.
                ap list_words (leaf_lacks f.mark is (state_of m p) f.node T low_kind (tree_own b f.node T T-node (node_of x) h))
                ∙ entry_words_lem f.node m p;
            put = w.1;
            count = w.0;
            few = omega (arith, leaf_one T low_kind);
          })

    -- ---- a node that swallows 20
    pub other_lists : 3 < (node_of x).kind → (((node_of x).kind ≡ 8) ⊎ ((node_of x).kind ≡ 11) → ⊥) → ((node_of x).kind ≡ 9 → ⊥) → ListsNode b s words f m p l l f.at
    other_lists k a c =
        lists_of
        (lists_none f.mark (sheet_area s) words T m p f.at l (λ is.
        other_lacks f.mark is (state_of m p) T (omega (arith, number)) (λ e. a (inl (sym number ∙ e))) (λ e. c (sym number ∙ e)) (λ e. a (inr (sym number ∙ e)))))

    -- ---- `last` and guard
    over :
        (make : Tree → Tree)
        → ((c : Tree) → leaves (make c) ≡ leaves c)
        → ((c : Tree) (is : List Item) (q : State) → lacking f.mark is (make c) q ≡ lacking f.mark is c q)
        → Single make b f.node x.p T
        → Scalar b known s words m p f.mark x.p
        → Under b known s words m p f.mark f.node x.p T
    over make light same w y =
        let c = y.stands.tree in
        let child : w.child ≡ c = some-injective w.child c (sym w.node ∙ y.stands.node) in
        let whole : make c ≡ T = ap make (sym child) ∙ w.same in
        record {
          less = w.less;
          below = y;
          light = sym (light c) ∙ ap leaves whole;
          same = λ is q. ap (λ (u : Tree). lacking f.mark is u q) (sym whole) ∙ same c is q;
        }

    under : ((node_of x).kind ≡ 8) ⊎ ((node_of x).kind ≡ 11) → Under b known s words m p f.mark f.node x.p T
    unfolding leaves lacking
    under =
        ⊎_elim
        (λ k. over Last (λ c. refl) (λ c is q. refl)
        (last_tree b f.node T T-node (node_of x) h k)
        (last_ready b known s words m p f.mark f.node z.below x h k).below)
        (λ k. over (Guard x.lo x.hi) (λ c. refl) (λ c is q. refl)
        (guard_tree b f.node T T-node (node_of x) h k)
        (guard_ready b known s words m p f.mark f.node z.below x h k).below)

    module _ (k : ((node_of x).kind ≡ 8) ⊎ ((node_of x).kind ≡ 11)) where
      pub under_less : x.p < f.node
      under_less = (under k).less

      pub under_ready : Listable b known s words m p (in_place f x.p) l
      under_ready = let u = under k in record { below = u.below; space = omega (arith, z.space, u.light) }

      pub under_lists : {l' : List ℕ} {stop : ℕ} → ListsNode b s words (in_place f x.p) m p l l' stop → ListsNode b s words f m p l l' stop
      under_lists g =
          let u = under k in
          let w = g u.below.stands.tree u.below.stands.node in
          lists_of
          (record {
            entries = w.entries;
            same = λ is i. ap list_words (u.same is (state_of m p)) ∙ w.same is i;
            put = w.put;
            count = w.count;
            few = omega (arith, w.few, u.light);
          })

    -- ---- a choice
    module _ (k : (node_of x).kind ≡ 9) where
      both : BothSides b known s words m p f.mark x.p x.q
      both = choice_ready b known s words m p f.mark f.node z.below x h k

      sides : Double b f.node x.p x.q T
      sides = choice_tree b f.node T T-node (node_of x) h k

      abbrev A : Tree
      A = both.first.stands.tree

      abbrev B : Tree
      B = both.second.stands.tree

      whole : Choice A B ≡ T
      whole =
          let first : sides.first ≡ A = some-injective sides.first A (sym sides.node ∙ both.first.stands.node) in
          let second : sides.second ≡ B = some-injective sides.second B (sym sides.node₂ ∙ both.second.stands.node) in
          ap₂ Choice (sym first) (sym second) ∙ sides.same

      sum : leaves A + leaves B ≡ leaves T
      unfolding leaves
      sum = ap leaves whole

      pub sides_ready : SidesListable b known s words m p f l x.p x.q
      sides_ready = record {
        less = sides.less;
        less₂ = sides.less₂;
        first = record { below = both.first; space = omega (arith, z.space, sum) };
        second = record { below = both.second; space = omega (arith, z.space, sum) };
      }

      -- what the first side left, by whether it was refused with 20
      pub first_kept :
          {r : Bool} {l₀ l₁ : List ℕ} {at₀ at₁ : ℕ}
          → EndsMissing b s words (in_place f x.p) m p r
          → r ≡ true
          → ListsNode b s words (in_place f x.p) m p l l₀ at₀
          → l₁ ≡ l₀
          → at₁ ≡ at₀
          → BegunNode b s words (in_place f x.p) m p l l₁ at₁
      first_kept {r} says e g w j t q = begun_kept f.mark (sheet_area s) words t m p f.at l r (λ is i. says t is q i) e (g t q) w j

      pub first_none :
          {r : Bool} {l₁ : List ℕ} {at₁ : ℕ}
          → EndsMissing b s words (in_place f x.p) m p r
          → r ≡ false
          → l₁ ≡ l
          → at₁ ≡ f.at
          → BegunNode b s words (in_place f x.p) m p l l₁ at₁
      first_none {r} says e w j t q = begun_none f.mark (sheet_area s) words t m p f.at l r (λ is i. says t is q i) e w j

      -- the second side goes on where the first one stopped
      module _ {l₁ : List ℕ} {at₁ : ℕ} (g : BegunNode b s words (in_place f x.p) m p l l₁ at₁) where
        begun : Begun f.mark (sheet_area s) words A m p f.at l l₁ at₁
        begun = g A both.first.stands.node

        pub second_ready : Listable b known s words m p (record { node = x.q; at = at₁; mark = f.mark }) l₁
        second_ready =
            let long = ap length begun.put ∙ length-sets l f.at begun.entries in
            record { below = both.second; space = omega (arith, z.space, sum, begun.count, begun.few) }

        pub choice_lists :
            {l₂ : List ℕ} {stop : ℕ}
            → ListsNode b s words (record { node = x.q; at = at₁; mark = f.mark }) m p l₁ l₂ stop
            → ListsNode b s words f m p l l₂ stop
        choice_lists {l₂} {stop} w =
            lists_of
            (subst (λ (u : Tree). Lists f.mark (sheet_area s) words u m p f.at l l₂ stop) whole
            (choice_both f.mark (sheet_area s) words A m p f.at l B l₁ l₂ at₁ stop begun (w B both.second.stands.node)))

-- as many words as there were
pub lists_long :
    {b known s words m : List ℕ} {p : Numbers} {f : MarkedField} {l l' : List ℕ} {stop : ℕ}
    → Listable b known s words m p f l
    → ListsNode b s words f m p l l' stop
    → length l' ≡ length l
lists_long {f} {l} z g =
    let w = g z.below.stands.tree z.below.stands.node in
    ap length w.put ∙ length-sets l f.at w.entries

-- ---- any node, by whether its value is a list
module _
    {b known s words m : List ℕ}
    {p : Numbers}
    {mark n : ℕ}
    {l : List ℕ}
    (z : Listing b known s words m p mark n l)
    {r : Bool}
    (says : (t : Tree) → tree_at b n ≡ some t → not r ≡ is_scalar (kind_of t))
  where
    pub list_lists : r ≡ true → (t : Tree) → tree_at b n ≡ some t → Lists mark (sheet_area s) words t m p 0 l l 0
    list_lists e t g =
        lists_none mark (sheet_area s) words t m p 0 l
        (λ is. list_lacks mark is (state_of m p) t (sound_at b n t g).kind (sym (says t g) ∙ ap not e))

    pub node_ready : r ≡ false → Listable b known s words m p (record { node = n; at = 0; mark = mark }) l
    node_ready e =
        record {
          below = record { stands = z.stands; scalar = sym (says z.stands.tree z.stands.node) ∙ ap not e };
          space = omega (arith, z.stands.light, z.room);
        }
