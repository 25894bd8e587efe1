-- The trees of two joined forms: the first's, and then the second's moved up.
use mathlib.Core.Bool.{Bool, true, false, ◌&&◌}
use mathlib.Core.List.{List, [], ◌∷◌, ◌++◌, map}
use mathlib.Core.Option
use mathlib.Core.Option.{Option, some, none}
use mathlib.Core.Path.{◌≡◌, refl, sym, ap, subst, ◌∙◌}
use Prim.Native.Nat.{ℕ, ◌+◌, ◌%◌, ◌≤◌}
use native.Mathlib.Omega.{arith}
use lib.Dec.{leb, eqb}
use lib.ListN.{length, get_elem?, length-append, length-map}
use borrow.Author.Tests.{lt-leb, eq-eqb, ne_eqb, eqb-true}
use Rattle.std.specs.Prelude.{if◌then◌else◌}
use Rattle.rules.specs.Base.{is_some, ◌>>?◌, contains}
use Rattle.rules.specs.Value.{yes_no, text, number, same_base, base_number, Kind, one, optional, list, list_of_optional, optional_list, name, BaseValue, is_yes, is_text, is_number}
use Rattle.rules.specs.Form.{Node, Form}
use Rattle.rules.specs.Tree.{Named, Tree, Flag, Argument, Positional, Optional, Many, Some, Count, Last, Choice, Fallback, Guard}
use Rattle.rules.specs.Tree.{shape_of, inner_base, same_kind, kind_of, has_repeat, zeros, named_of, position_of}
use Rattle.rules.specs.Tree.{flag_of, argument_of, positional_of, fitting, repeat_of, fallback_value, fallback_of, guard_of, child_of, caught_of, choice_of, tree_of}
use Rattle.rules.specs.Accept.{Accepted}
use Rattle.rules.specs.Demands.{All}
use Rattle.rules.proofs.Acceptance.{bind_some, bind_is, lookup_more, NameGood, tree_made, inside_same}
use Rattle.rules.proofs.Acceptance.{Made, flag_made, argument_made, positional_made, optional_made, many_made, some_made, count_made, last_made, choice_made, fallback_made, guard_made}
use Rattle.rules.proofs.CommandLaws.{lookup_behind}
use Rattle.rules_join.specs.Join.{Moves, moves_behind, move_name, is_text_kind, move_p, move_q, move_r, move_node, move_base, move_tree, join_by, join_forms}
use Rattle.rules_join.proofs.TreeLaws.{kind_moved, repeat_moved}
use Rattle.rules_join.proofs.JoinLists.{lookup_map, if_map, bind_map, bind_alike}
use Rattle.rules_join.proofs.NameJoin.{named_first, named_second}

-- the tree of a node, by a kind that is given
unfoldable pub tree_by : ℕ → Form → List Tree → Node → Option Tree
tree_by n f below x =
    if eqb n 1 then flag_of f (length below) x else
    (if eqb n 2 then argument_of f (length below) x else
    (if eqb n 3 then positional_of (length below) x else
    (if eqb n 4 then caught_of below x (λ c t. fitting (Optional c t)) else
    (if eqb n 5 then caught_of below x (λ c. repeat_of (Many c)) else
    (if eqb n 6 then caught_of below x (λ c. repeat_of (Some c)) else
    (if eqb n 7 then child_of (x.r ∷ x.lo ∷ x.hi ∷ []) below x (repeat_of Count) else
    (if eqb n 8 then child_of (x.r ∷ x.lo ∷ x.hi ∷ []) below x (repeat_of Last) else
    (if eqb n 9 then choice_of below x else
    (if eqb n 10 then child_of [] below x (fallback_of f x) else
    (if eqb n 11 then child_of (x.r ∷ []) below x (guard_of x) else none))))))))))

pub tree_by_lem : (f : Form) (below : List Tree) (x : Node) → tree_of f below x ≡ tree_by x.kind f below x
unfolding tree_of tree_by
tree_by_lem f below x = refl

module _ (a b : Accepted) where
  abbrev moves : Moves
  moves = moves_behind a.form

  abbrev whole : Form
  whole = join_forms a b

  -- ---- the first's nodes: names and area are longer, and it makes no difference
  value_first : (x : Node) (κ : Kind) (v : BaseValue) → fallback_value a.form x κ ≡ some v → fallback_value whole x κ ≡ some v
  unfolding fallback_value join_forms join_by
  value_first x (one yes_no) v e = e
  value_first x (one text) v e =
      let (m, h, g) = bind_some (get_elem? a.form.names x.r) _ e in
      bind_is (get_elem? whole.names x.r) _ (lookup_more a.form.names (map (move_name moves) b.form.names) x.r m h) ∙ g
  value_first x (one number) v e = e
  value_first x (optional β) v e = e
  value_first x (list β) v e = e
  value_first x (list_of_optional β) v e = e
  value_first x (optional_list β) v e = e

  -- a flag and an argument, where the names are the same
  leaf_alike : (f g : Form) (n : ℕ) (x : Node) → named_of g x ≡ named_of f x → (flag_of g n x ≡ flag_of f n x) × (argument_of g n x ≡ argument_of f n x)
  unfolding flag_of argument_of
  leaf_alike f g n x e = (rw e, rw e)

  fallback_first :
      (x : Node) (c : Tree) (κ : Kind) (v : BaseValue)
      → kind_of c ≡ some κ
      → fallback_value a.form x κ ≡ some v
      → fallback_of whole x c ≡ fallback_of a.form x c
  unfolding fallback_of ◌>>?◌
  fallback_first x c κ v k e = rw (k, e, value_first x κ v e)

  child_first :
      (x : Node) (below : List Tree) (c : Tree)
      → get_elem? below x.p ≡ some c
      → fallback_of whole x c ≡ fallback_of a.form x c
      → child_of [] below x (fallback_of whole x) ≡ child_of [] below x (fallback_of a.form x)
  unfolding child_of ◌>>?◌
  child_first x below c h e = rw (h, e)

  module _ (good : All (NameGood a.form.area) a.form.names) (below : List Tree) (x : Node) where
    abbrev Alike : ℕ → Type 0
    Alike n = tree_by n whole below x ≡ tree_by n a.form below x

    made_first : (t : Tree) → Made a.form below (length below) x t → Alike x.kind
    unfolding tree_by
    made_first t (flag_made l z r u n) = subst Alike (sym z) (leaf_alike a.form whole (length below) x (named_first a b good x l n)).0
    made_first t (argument_made l z r u n) = subst Alike (sym z) (leaf_alike a.form whole (length below) x (named_first a b good x l n)).1
    made_first t (positional_made z p r u) = subst Alike (sym z) refl
    made_first t (optional_made β c z r u h e) = subst Alike (sym z) refl
    made_first t (many_made β c z r u h m e) = subst Alike (sym z) refl
    made_first t (some_made β c z r u h m e) = subst Alike (sym z) refl
    made_first t (count_made c z u h m e) = subst Alike (sym z) refl
    made_first t (last_made c z u h m e) = subst Alike (sym z) refl
    made_first t (choice_made c d z u h g e) = subst Alike (sym z) refl
    made_first t (fallback_made c κ v z u h g w e) = subst Alike (sym z) (child_first x below c h.1 (fallback_first x c κ v g w))
    made_first t (guard_made c z u h l e) = subst Alike (sym z) refl

    pub tree_first : (t : Tree) → tree_of a.form below x ≡ some t → tree_of whole below x ≡ some t
    tree_first t e =
        tree_by_lem whole below x ∙ made_first t (tree_made a.form below below (inside_same below) x t e) ∙ sym (tree_by_lem a.form below x) ∙ e

  -- ---- the second's nodes: which of their numbers move
  abbrev mv : Tree → Tree
  mv = move_tree moves

  p_child : (x : Node) → 4 ≤ x.kind → move_p moves x ≡ moves.nodes + x.p
  unfolding move_p
  p_child x h = rw (lt-leb x.kind 2 (omega arith), ne_eqb x.kind 3 (λ e. omega arith))

  p_kept : (x : Node) → x.kind ≡ 3 → move_p moves x ≡ x.p
  unfolding move_p
  p_kept x e = rw (lt-leb x.kind 2 (omega arith), eq-eqb x.kind 3 e)

  q_kept : (x : Node) → (x.kind ≡ 9 → ⊥) → move_q moves x ≡ x.q
  unfolding move_q
  q_kept x h = rw (ne_eqb x.kind 9 h)

  q_child : (x : Node) → x.kind ≡ 9 → move_q moves x ≡ moves.nodes + x.q
  unfolding move_q
  q_child x e = rw (eq-eqb x.kind 9 e)

  r_kept : (k : Option Kind) (x : Node) → (x.kind ≡ 10 → ⊥) → move_r moves k x ≡ x.r
  unfolding move_r
  r_kept k x h = rw (ne_eqb x.kind 10 h)

  r_by : (k : Option Kind) (x : Node) (t : Bool) → x.kind ≡ 10 → is_text_kind k ≡ t → move_r moves k x ≡ (if t then moves.names + x.r else x.r)
  unfolding move_r
  r_by k x t e h = rw (eq-eqb x.kind 10 e, h)

  -- ---- what is made of a moved tree
  fitting_moved : (t : Tree) → fitting (mv t) ≡ Option.map mv (fitting t)
  unfolding fitting
  fitting_moved t = rw (kind_moved moves t) (if_map mv (is_some (kind_of t)) (some t) none (λ e. refl) (λ e. refl))

  repeat_made : (make : Tree → Tree) → ((t : Tree) → make (mv t) ≡ mv (make t)) → (t : Tree) → repeat_of make (mv t) ≡ Option.map mv (repeat_of make t)
  unfolding repeat_of
  repeat_made make same t =
      rw (repeat_moved moves t, same t)
      (if_map mv (has_repeat t) none (fitting (make t)) (λ e. refl) (λ e. fitting_moved (make t)))

  guard_second : (x y : Node) → y.lo ≡ x.lo → y.hi ≡ x.hi → (t : Tree) → guard_of y (mv t) ≡ Option.map mv (guard_of x t)
  unfolding guard_of move_tree
  guard_second x y l h t =
      rw (l, h) (if_map mv (leb x.lo x.hi) (fitting (Guard x.lo x.hi t)) none (λ e. fitting_moved (Guard x.lo x.hi t)) (λ e. refl))

  -- a fallback's value, where the kind says whether r moves
  module _ (x : Node) (k : Option Kind) (z : x.kind ≡ 10) where
    abbrev moved : Node
    moved = move_node moves k x

    text_second : is_text_kind k ≡ true → fallback_value whole moved (one text) ≡ Option.map (move_base moves) (fallback_value b.form x (one text))
    unfolding fallback_value move_node move_name move_base join_forms join_by moves_behind
    text_second h =
        let names = b.form.names in
        rw (r_by k x true z h, lookup_behind a.form.names (map (move_name moves) names) x.r, lookup_map (move_name moves) names x.r)
        (bind_map (move_name moves) (move_base moves) _ _ (get_elem? names x.r)
        (λ m e. if_map (move_base moves) (eqb m.type 2 && zeros (x.lo ∷ x.hi ∷ [])) (some (is_text (name x.r))) none (λ e. refl) (λ e. refl)))

    value_second : (κ : Kind) → is_text_kind k ≡ is_text_kind (some κ) → fallback_value whole moved κ ≡ Option.map (move_base moves) (fallback_value b.form x κ)
    unfolding fallback_value move_node move_base is_text_kind same_kind shape_of inner_base same_base base_number
    value_second (one yes_no) h =
        rw (r_by k x false z h)
        (if_map (move_base moves) (leb x.lo 1 && zeros (x.r ∷ x.hi ∷ [])) (some (is_yes (eqb x.lo 1))) none (λ e. refl) (λ e. refl))
    value_second (one text) h = text_second h
    value_second (one number) h =
        rw (r_by k x false z h)
        (if_map (move_base moves) (zeros (x.r ∷ x.hi ∷ [])) (some (is_number x.lo)) none (λ e. refl) (λ e. refl))
    value_second (optional β) h = refl
    value_second (list β) h = refl
    value_second (list_of_optional β) h = refl
    value_second (optional_list β) h = refl

    value_made :
        (c : Tree) (κ : Kind)
        → is_text_kind k ≡ is_text_kind (some κ)
        → (fallback_value whole moved κ >>? λ v. fitting (Fallback v (mv c)))
        ≡ Option.map mv (fallback_value b.form x κ >>? λ v. fitting (Fallback v c))
    unfolding move_tree
    value_made c κ h =
        rw (value_second κ h)
        (bind_map (move_base moves) mv (λ v. fitting (Fallback v (mv c))) (λ v. fitting (Fallback v c)) (fallback_value b.form x κ)
        (λ v e. fitting_moved (Fallback v c)))

    fallback_second : (c : Tree) → is_text_kind k ≡ is_text_kind (kind_of c) → fallback_of whole moved (mv c) ≡ Option.map mv (fallback_of b.form x c)
    unfolding fallback_of ◌>>?◌
    fallback_second c h = rw (kind_moved moves c) (go (kind_of c) h)
      where
        go :
            (o : Option Kind)
            → is_text_kind k ≡ is_text_kind o
            → (o >>? λ κ. fallback_value whole moved κ >>? λ v. fitting (Fallback v (mv c)))
            ≡ Option.map mv (o >>? λ κ. fallback_value b.form x κ >>? λ v. fitting (Fallback v c))
        go none h = refl
        go (some κ) h = value_made c κ h

  -- ---- the tree of a moved node, over the first's trees and the moved ones below it
  module _ (above below : List Tree) (long : length above ≡ moves.nodes) (x : Node) (k : Option Kind) where
    abbrev over : List Tree
    over = above ++ map mv below

    abbrev here : Node
    here = move_node moves k x

    lookup_over : (i : ℕ) → get_elem? over (moves.nodes + i) ≡ Option.map mv (get_elem? below i)
    lookup_over i = ap (λ (n : ℕ). get_elem? over (n + i)) (sym long) ∙ lookup_behind above (map mv below) i ∙ lookup_map mv below i

    over_length : length over ≡ moves.nodes + length below
    over_length = length-append above (map mv below) ∙ rw (long, length-map below mv)

    -- one child
    child_second :
        (unused unused' : List ℕ) (make make' : Tree → Option Tree)
        → unused' ≡ unused
        → move_p moves x ≡ moves.nodes + x.p
        → move_q moves x ≡ x.q
        → ((t : Tree) → get_elem? below x.p ≡ some t → make' (mv t) ≡ Option.map mv (make t))
        → child_of unused' over here make' ≡ Option.map mv (child_of unused below x make)
    unfolding child_of move_node
    child_second unused unused' make make' u p q same =
        rw (u, p, q, lookup_over x.p)
        (if_map mv (zeros (x.q ∷ unused)) (get_elem? below x.p >>? make) none (λ e. bind_map mv mv make' make (get_elem? below x.p) same) (λ e. refl))

    caught_second :
        (make : Bool → Tree → Option Tree)
        → move_p moves x ≡ moves.nodes + x.p
        → move_q moves x ≡ x.q
        → move_r moves k x ≡ x.r
        → ((c : Bool) (t : Tree) → make c (mv t) ≡ Option.map mv (make c t))
        → caught_of over here make ≡ Option.map mv (caught_of below x make)
    unfolding caught_of move_node
    caught_second make p q r same =
        let unused = x.lo ∷ x.hi ∷ [] in
        let c = eqb x.r 1 in
        rw (ap (λ (n : ℕ). leb n 1) r, ap (λ (n : ℕ). eqb n 1) r)
        (if_map mv (leb x.r 1) (child_of unused below x (make c)) none
        (λ e. child_second unused unused (make c) (make c) refl p q (λ t h. same c t))
        (λ e. refl))

    -- two children
    choice_second :
        move_p moves x ≡ moves.nodes + x.p
        → move_q moves x ≡ moves.nodes + x.q
        → move_r moves k x ≡ x.r
        → choice_of over here ≡ Option.map mv (choice_of below x)
    unfolding choice_of move_node move_tree
    choice_second p q r =
        let other : Tree → Option Tree = λ t. get_elem? below x.q >>? λ u. fitting (Choice t u) in
        rw (p, q, r, lookup_over x.p, lookup_over x.q)
        (if_map mv (zeros (x.r ∷ x.lo ∷ x.hi ∷ [])) (get_elem? below x.p >>? other) none
        (λ e.
        bind_map mv mv _ other (get_elem? below x.p)
        (λ t h. bind_map mv mv _ (λ u. fitting (Choice t u)) (get_elem? below x.q) (λ u g. fitting_moved (Choice t u))))
        (λ e. refl))

    -- leaves
    flag_second : x.kind ≡ 1 → flag_of whole (length over) here ≡ Option.map mv (flag_of b.form (length below) x)
    unfolding flag_of move_node move_tree
    flag_second z =
        let flag : Named → Option Tree = λ m. some (Flag (length below) m (eqb x.r 1)) in
        rw (named_second a b x k (omega arith), over_length, r_kept k x (λ e. omega arith))
        (if_map mv (leb x.r 1 && zeros (x.lo ∷ x.hi ∷ [])) (named_of b.form x >>? flag) none
        (λ e. bind_alike mv _ flag (named_of b.form x) (λ m. refl))
        (λ e. refl))

    argument_second : x.kind ≡ 2 → argument_of whole (length over) here ≡ Option.map mv (argument_of b.form (length below) x)
    unfolding argument_of move_node move_tree
    argument_second z =
        let argument : Named → Option Tree =
        λ m. some (Argument (length below) m (if leb 2 x.r then number else text) (eqb (x.r % 2) 1)) in
        rw (named_second a b x k (omega arith), over_length, r_kept k x (λ e. omega arith))
        (if_map mv (leb x.r 3 && zeros (x.lo ∷ x.hi ∷ [])) (named_of b.form x >>? argument) none
        (λ e. bind_alike mv _ argument (named_of b.form x) (λ m. refl))
        (λ e. refl))

    positional_second : x.kind ≡ 3 → positional_of (length over) here ≡ Option.map mv (positional_of (length below) x)
    unfolding positional_of move_node move_tree
    positional_second z =
        rw (over_length, p_kept x z, q_kept x (λ e. omega arith), r_kept k x (λ e. omega arith))
        (if_map mv (leb x.p 2 && contains (0 ∷ 2 ∷ []) x.r && zeros (x.q ∷ x.lo ∷ x.hi ∷ []))
        (some (Positional (length below) (position_of x.p) (if eqb x.r 2 then number else text))) none
        (λ e. refl)
        (λ e. refl))

    -- the rest of the kinds, with the numbers that stay
    abbrev KindIs : ℕ → Type 0
    KindIs n = eqb x.kind n ≡ true

    unused_kept : (x.kind ≡ 10 → ⊥) → here.r ∷ here.lo ∷ here.hi ∷ [] ≡ x.r ∷ x.lo ∷ x.hi ∷ []
    unfolding move_node
    unused_kept z = rw (r_kept k x z)

    caught_kinds :
        (make : Bool → Tree → Option Tree) (n : ℕ)
        → (4 ≤ n) × (n ≤ 8)
        → ((c : Bool) (t : Tree) → make c (mv t) ≡ Option.map mv (make c t))
        → KindIs n
        → caught_of over here make ≡ Option.map mv (caught_of below x make)
    caught_kinds make n h same e =
        let z = eqb-true x.kind n e in
        caught_second make (p_child x (omega arith)) (q_kept x (λ e. omega arith)) (r_kept k x (λ e. omega arith)) same

    repeat_kinds :
        (make : Tree → Tree) (n : ℕ)
        → (4 ≤ n) × (n ≤ 8)
        → ((t : Tree) → make (mv t) ≡ mv (make t))
        → KindIs n
        → child_of (here.r ∷ here.lo ∷ here.hi ∷ []) over here (repeat_of make)
        ≡ Option.map mv (child_of (x.r ∷ x.lo ∷ x.hi ∷ []) below x (repeat_of make))
    repeat_kinds make n h same e =
        let z = eqb-true x.kind n e in
        child_second (x.r ∷ x.lo ∷ x.hi ∷ []) _ (repeat_of make) (repeat_of make) (unused_kept (λ e. omega arith))
        (p_child x (omega arith)) (q_kept x (λ e. omega arith)) (λ t e. repeat_made make same t)

    choice_kind_lem : KindIs 9 → choice_of over here ≡ Option.map mv (choice_of below x)
    choice_kind_lem e =
        let z = eqb-true x.kind 9 e in
        choice_second (p_child x (omega arith)) (q_child x z) (r_kept k x (λ h. omega arith))

    guard_kind : KindIs 11 → child_of (here.r ∷ []) over here (guard_of here) ≡ Option.map mv (child_of (x.r ∷ []) below x (guard_of x))
    unfolding move_node
    guard_kind e =
        let z = eqb-true x.kind 11 e in
        child_second (x.r ∷ []) (here.r ∷ []) (guard_of x) (guard_of here) (ap (λ (n : ℕ). n ∷ []) (r_kept k x (λ e. omega arith)))
        (p_child x (omega arith)) (q_kept x (λ e. omega arith)) (λ t e. guard_second x here refl refl t)

    -- whether the node's kind is text is known from its child
    abbrev pub Agrees : Type 0
    Agrees = x.kind ≡ 10 → (c : Tree) → get_elem? below x.p ≡ some c → is_text_kind k ≡ is_text_kind (kind_of c)

    fallback_kind : Agrees → KindIs 10 → child_of [] over here (fallback_of whole here) ≡ Option.map mv (child_of [] below x (fallback_of b.form x))
    fallback_kind agree e =
        let z = eqb-true x.kind 10 e in
        child_second [] [] (fallback_of b.form x) (fallback_of whole here) refl (p_child x (omega arith)) (q_kept x (λ h. omega arith))
        (λ c h. fallback_second x k z c (agree z c h))

    pub tree_second : Agrees → tree_of whole over here ≡ Option.map mv (tree_of b.form below x)
    unfolding tree_of move_node move_tree
    tree_second agree =
        if_map mv (eqb x.kind 1) _ _ (λ e. flag_second (eqb-true x.kind 1 e)) (λ _.
        if_map mv (eqb x.kind 2) _ _ (λ e. argument_second (eqb-true x.kind 2 e)) (λ _.
        if_map mv (eqb x.kind 3) _ _ (λ e. positional_second (eqb-true x.kind 3 e)) (λ _.
        if_map mv (eqb x.kind 4) _ _ (caught_kinds _ 4 (omega arith, omega arith) (λ c t. fitting_moved (Optional c t))) (λ _.
        if_map mv (eqb x.kind 5) _ _ (caught_kinds _ 5 (omega arith, omega arith) (λ c t. repeat_made (Many c) (λ t. refl) t)) (λ _.
        if_map mv (eqb x.kind 6) _ _ (caught_kinds _ 6 (omega arith, omega arith) (λ c t. repeat_made (Some c) (λ t. refl) t)) (λ _.
        if_map mv (eqb x.kind 7) _ _ (repeat_kinds Count 7 (omega arith, omega arith) (λ t. refl)) (λ _.
        if_map mv (eqb x.kind 8) _ _ (repeat_kinds Last 8 (omega arith, omega arith) (λ t. refl)) (λ _.
        if_map mv (eqb x.kind 9) _ _ choice_kind_lem (λ _.
        if_map mv (eqb x.kind 10) _ _ (fallback_kind agree) (λ _.
        if_map mv (eqb x.kind 11) _ _ guard_kind (λ _. refl)))))))))))
