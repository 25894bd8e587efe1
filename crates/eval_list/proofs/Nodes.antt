-- The node of a list: what its children are given, and what they leave.
use mathlib.Core.Bool.{true, false}
use mathlib.Core.List.{List}
use mathlib.Core.Option.{some, some-injective}
use mathlib.Core.Path.{◌≡◌, refl, sym, ◌∙◌, ap, subst}
use Prim.Native.Nat.{ℕ, max, ◌+◌, ◌*◌, ◌≤◌, ◌<◌}
use native.Mathlib.Omega.{arith}
use lib.Dec.{eqb}
use lib.ListN.{get_elem?}
use Rattle.rules.specs.Base.{is_some, ◌>>?◌}
use Rattle.rules.specs.Form.{read_form, node_count}
use Rattle.rules.specs.Sheet.{sheet_area}
use Rattle.rules.specs.Tree.{Tree, Optional, Many, Some, Choice, kind_of, list_kind}
use Rattle.rules.specs.Accept.{length_good}
use Rattle.rules.specs.Sound.{Sound, leaves}
use Rattle.rules.proofs.KindLaws.{choice_kind_lem}
use Rattle.form_layout.specs.declared.Node.{Node}
use Rattle.form_layout.specs.Layout.{node_of}
use Rattle.state_marks.specs.declared.Numbers.{Numbers}
use Rattle.eval_told.specs.declared.Ran.{Ran}
use Rattle.eval_told.specs.Nodes.{tree_at, is_scalar}
use Rattle.eval_shortcut.specs.Stands.{Standing}
use Rattle.eval_list.specs.Lists.{MarkedField}
use Rattle.eval_list.specs.Lists.{Listed, Writes, WritesField, OverScalar, OverList, WritesOver, in_place, EitherList}
use Rattle.eval_shortcut.proofs.Trees.{Single, Double, form_good_lem, node_inside, sound_at, optional_tree}
use Rattle.eval_list.proofs.Trees.{list_scalar, optional_long, many_tree, some_tree, other_tree}

module _
    {b known s items m : List ℕ}
    {p : Numbers}
    {field : MarkedField}
    {o : List ℕ}
    (r : Listed b known s items m p field o)
  where
    abbrev mark : ℕ
    mark = field.mark

    abbrev n : ℕ
    n = field.node

    pub there : (length_good b ≡ true) × (n < node_count b)
    there = (form_good_lem b n r.stands.tree r.stands.node, node_inside b n r.stands.tree r.stands.node)

    sound : Sound r.stands.tree
    sound = sound_at b n r.stands.tree r.stands.node

    -- a child stands where its node does
    abbrev standing : (i : ℕ) (c : Tree) → tree_at b i ≡ some c → leaves c ≤ 64 → Standing b known s items m p mark i
    standing i c g l =
        record {
          tree = c;
          node = g;
          light = l;
          made = r.stands.made;
          state = r.stands.state;
          knows = r.stands.knows;
        }

    -- what was made of the child's tree is the node's
    pub done :
        {make : Tree → Tree} {i : ℕ} {m' o' : List ℕ} {q : Ran}
        → Single make b n i r.stands.tree
        → WritesOver make b s items (in_place field i) m p m' o o' q
        → WritesField b s items field m p m' o o' q
    done {m'} {o'} {q} w f t g =
        subst (λ (u : Tree). Writes mark (sheet_area s) items u m p m' o field.at o' q)
        (w.same ∙ some-injective r.stands.tree t (sym r.stands.node ∙ g))
        (f w.child w.node)

    -- the child of many and some
    over :
        (make : Tree → Tree) (i : ℕ)
        → ((c : Tree) → leaves (make c) ≡ leaves c)
        → ((c : Tree) → kind_of (make c) ≡ (kind_of c >>? list_kind))
        → Single make b n i r.stands.tree
        → OverScalar make b known s items m p (in_place field i) o
    over make i same kind w =
        let z = subst Sound (sym w.same) sound in
        let l : leaves w.child ≤ 64 = subst (λ (k : ℕ). k ≤ 64) (ap leaves (sym w.same) ∙ same w.child) r.stands.light in
        let k : is_some (kind_of w.child >>? list_kind) ≡ true = ap is_some (sym (kind w.child)) ∙ z.kind in
        record {
          below = record { stands = standing i w.child w.node l; scalar = list_scalar (kind_of w.child) k };
          sound = z;
          space = r.space;
        }

    module _ (x : Node) (h : get_elem? (read_form b).nodes n ≡ some (node_of x)) where
      abbrev T : Tree
      T = r.stands.tree

      -- ---- many and some
      pub many_is : (node_of x).kind ≡ 5 → Single (Many (eqb x.r 1)) b n x.p T
      many_is k = many_tree b n T r.stands.node (node_of x) h k

      pub some_is : (node_of x).kind ≡ 6 → Single (Some (eqb x.r 1)) b n x.p T
      some_is k = some_tree b n T r.stands.node (node_of x) h k

      pub many_ready : (node_of x).kind ≡ 5 → OverScalar (Many (eqb x.r 1)) b known s items m p (in_place field x.p) o
      unfolding leaves kind_of
      many_ready k = over (Many (eqb x.r 1)) x.p (λ c. refl) (λ c. refl) (many_is k)

      pub some_ready : (node_of x).kind ≡ 6 → OverScalar (Some (eqb x.r 1)) b known s items m p (in_place field x.p) o
      unfolding leaves kind_of
      some_ready k = over (Some (eqb x.r 1)) x.p (λ c. refl) (λ c. refl) (some_is k)

      -- ---- optional
      pub optional_is : (node_of x).kind ≡ 4 → Single (Optional (eqb x.r 1)) b n x.p T
      optional_is k = optional_tree b n T r.stands.node (node_of x) h k

      pub optional_less : (node_of x).kind ≡ 4 → {t : ℕ} → n * 2 + 1 ≡ t → x.p * 2 + 2 < t
      optional_less k e = omega (arith, (optional_is k).less)

      pub optional_ready : (node_of x).kind ≡ 4 → OverList (Optional (eqb x.r 1)) b known s items m p (in_place field x.p) o
      unfolding leaves kind_of
      optional_ready k =
          let w = optional_is k in
          let z = subst Sound (sym w.same) sound in
          let l = subst (λ (u : Tree). leaves u ≤ 64) (sym w.same) r.stands.light in
          let v = subst (λ (u : Tree). is_scalar (kind_of u) ≡ false) (sym w.same) r.long in
          record {
            below = record { stands = standing x.p w.child w.node l; long = optional_long (kind_of w.child) z.kind v; space = r.space };
            sound = z;
          }

      -- ---- choice
      module _ (k : (node_of x).kind ≡ 4 → ⊥) (k₂ : (node_of x).kind ≡ 5 → ⊥) (k₃ : (node_of x).kind ≡ 6 → ⊥) where
        choice_is : Double b n x.p x.q T
        choice_is = other_tree b n T r.stands.node (node_of x) h k k₂ k₃ r.long

        pub choice_less : {t : ℕ} → n * 2 + 1 ≡ t → max x.p x.q * 2 + 2 < t
        choice_less e = omega (arith, choice_is.less, choice_is.less₂)

        pub choice_ready : EitherList b known s items m p (in_place field x.p) x.q o
        unfolding leaves kind_of
        choice_ready =
            let w = choice_is in
            let z = subst Sound (sym w.same) sound in
            let l = subst (λ (u : Tree). leaves u ≤ 64) (sym w.same) r.stands.light in
            let v = subst (λ (u : Tree). is_scalar (kind_of u) ≡ false) (sym w.same) r.long in
            let q = choice_kind_lem (kind_of w.first) (kind_of w.second) z.kind in
            record {
              first = record { stands = standing x.p w.first w.node (omega arith); long = ap is_scalar (sym q.0) ∙ v; space = r.space };
              second = record {
                stands = standing x.q w.second w.node₂ (omega arith);
                long = ap is_scalar (q.1 ∙ sym q.0) ∙ v;
                space = r.space;
              };
              sound = z;
            }

        pub choice_done :
            {m' o' : List ℕ} {q : Ran}
            → ((t u : Tree) → tree_at b x.p ≡ some t → tree_at b x.q ≡ some u → Writes mark (sheet_area s) items (Choice t u) m p m' o field.at o' q)
            → WritesField b s items field m p m' o o' q
        choice_done {m'} {o'} {q} f t g =
            let w = choice_is in
            subst (λ (u : Tree). Writes mark (sheet_area s) items u m p m' o field.at o' q)
            (w.same ∙ some-injective T t (sym r.stands.node ∙ g))
            (f w.first w.second w.node w.node₂)
