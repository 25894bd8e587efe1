-- All nodes of two joined forms have a tree, and so have the fields.
use mathlib.Core.Bool.{Bool, true, false, false≢true}
use mathlib.Core.List.{List, [], ◌∷◌, ◌++◌, map, append_assoc, append-nil}
use mathlib.Core.Option
use mathlib.Core.Option.{Option, some, none, some-injective}
use mathlib.Core.Path.{◌≡◌, refl, sym, ap, subst, ◌∙◌}
use Prim.Native.Nat.{ℕ, ◌+◌}
use native.Mathlib.Nat.{zero-add}
use native.Mathlib.Omega.{arith}
use lib.ListN.{length, get_elem?, length-append}
use Rattle.std.specs.Prelude.{if◌then◌else◌}
use Rattle.rules.specs.Base.{is_some, ◌>>?◌}
use Rattle.rules.specs.Value.{Kind, one, BaseValue, base_of}
use Rattle.rules.specs.Form.{Node, Form}
use Rattle.rules.specs.Tree.{Tree, Fallback, same_kind, base_kind, kind_of, zeros, fitting, fallback_value, fallback_of, child_of, tree_of}
use Rattle.rules.specs.Accept.{Accepted, accepted, trees_from, trees_at}
use Rattle.rules.specs.Demands.{All}
use Rattle.rules.proofs.Acceptance.{accepted_same, if_some, bind_some, bind_is, lookup_end, lookup_more, NameGood, trees_step, trees_grow, trees_length, fields_step}
use Rattle.rules.proofs.CommandLaws.{lookup_behind}
use Rattle.rules_join.specs.Join.{Moves, moves_behind, is_text_kind, move_node, move_nodes, move_tree, join_by, join_forms}
use Rattle.rules_join.proofs.JoinLists.{map-append, lookup_map}
use Rattle.rules_join.proofs.TreeJoin.{tree_by, tree_by_lem, tree_first, Agrees, tree_second}

-- ---- a fallback has its child's kind
fallback_kind : (v : BaseValue) (c : Tree) → is_some (kind_of (Fallback v c)) ≡ true → kind_of (Fallback v c) ≡ kind_of c
unfolding kind_of ◌>>?◌ is_some base_kind
fallback_kind v c e = go (kind_of c) e
  where
    test : (κ : Kind) (t : Bool) → is_some (if t then some κ else none) ≡ true → (if t then some κ else none) ≡ some κ
    test κ true e = refl
    test κ false e = absurd (false≢true e)

    go : (o : Option Kind) → is_some (o >>? base_kind (base_of v)) ≡ true → (o >>? base_kind (base_of v)) ≡ o
    go none e = refl
    go (some κ) e = test κ (same_kind (one (base_of v)) κ) e

fitted_kind : (v : BaseValue) (c t : Tree) → fitting (Fallback v c) ≡ some t → kind_of t ≡ kind_of c
unfolding fitting
fitted_kind v c t e =
    let (fits, is) = if_some (is_some (kind_of (Fallback v c))) (some (Fallback v c)) e in
    ap kind_of (sym (some-injective (Fallback v c) t is)) ∙ fallback_kind v c fits

fallback_keeps : (f : Form) (x : Node) (t c : Tree) → fallback_of f x c ≡ some t → kind_of t ≡ kind_of c
unfolding fallback_of
fallback_keeps f x t c e =
    let (κ, _, n) = bind_some (kind_of c) (λ κ. fallback_value f x κ >>? λ v. fitting (Fallback v c)) e in
    let (v, _, o) = bind_some (fallback_value f x κ) (λ v. fitting (Fallback v c)) n in
    fitted_kind v c t o

fallback_agrees :
    (f : Form) (below : List Tree) (x : Node) (t c : Tree)
    → child_of [] below x (fallback_of f x) ≡ some t
    → get_elem? below x.p ≡ some c
    → kind_of t ≡ kind_of c
unfolding child_of
fallback_agrees f below x t c e h =
    let (_, made) = if_some (zeros (x.q ∷ [])) (get_elem? below x.p >>? fallback_of f x) e in
    fallback_keeps f x t c (sym (bind_is (get_elem? below x.p) (fallback_of f x) h) ∙ made)

-- ---- trees of nodes behind nodes
trees_append :
    (f : Form) (below : List Tree) (xs ys : List Node) (ts : List Tree)
    → trees_from f below xs ≡ accepted ts
    → trees_from f below (xs ++ ys) ≡ trees_from f ts ys
unfolding trees_from
trees_append f below [] ys ts e = ap (λ (l : List Tree). trees_from f l ys) (accepted_same below ts e)
trees_append f below (x ∷ xs) ys ts e =
    let (t, h, g) = trees_step f below x xs ts e in
    rw (h, trees_from) (trees_append f (below ++ (t ∷ [])) xs ys ts g)

-- one step of them
tree_on : (f : Form) (below : List Tree) (x : Node) (xs : List Node) (t : Tree) → tree_of f below x ≡ some t → trees_from f below (x ∷ xs) ≡ trees_from f (below ++ (t ∷ [])) xs
unfolding trees_from
tree_on f below x xs t h = rw (h, trees_from)

-- the next tree is the first of those behind
next_tree :
    (f : Form) (below : List Tree) (xs : List Node) (t u : Tree) (us : List Tree)
    → trees_from f (below ++ (t ∷ [])) xs ≡ accepted (below ++ (u ∷ us))
    → t ≡ u
next_tree f below xs t u us e =
    let (more, r) = trees_grow f (below ++ (t ∷ [])) xs (below ++ (u ∷ us)) e in
    some-injective t u
    (sym (lookup_end below t more)
    ∙ ap (λ (l : List Tree). get_elem? l (length below)) (sym (append_assoc below (t ∷ []) more) ∙ r)
    ∙ lookup_end below u us)

module _ (a b : Accepted) where
  abbrev moves : Moves
  moves = moves_behind a.form

  abbrev whole : Form
  whole = join_forms a b

  abbrev mv : Tree → Tree
  mv = move_tree moves

  trees_first :
      All (NameGood a.form.area) a.form.names
      → (below : List Tree) (xs : List Node) (ts : List Tree)
      → trees_from a.form below xs ≡ accepted ts
      → trees_from whole below xs ≡ accepted ts
  unfolding trees_from
  trees_first good below [] ts e = e
  trees_first good below (x ∷ xs) ts e =
      let (t, h, g) = trees_step a.form below x xs ts e in
      tree_on whole below x xs t (tree_first a b good below x t h) ∙ trees_first good (below ++ (t ∷ [])) xs ts g

  module _ (above : List Tree) (long : length above ≡ moves.nodes) where
    -- the kind of a node is that of its own tree
    tree_moved : (below : List Tree) (x : Node) (t : Tree) → tree_of b.form below x ≡ some t → tree_of whole (above ++ map mv below) (move_node moves (kind_of t) x) ≡ some (mv t)
    unfolding tree_by
    tree_moved below x t e =
        tree_second a b above below long x (kind_of t) agrees ∙ ap (Option.map mv) e
      where
        agrees : Agrees a b above below long x (kind_of t)
        agrees z c h =
            ap is_text_kind (fallback_agrees b.form below x t c (subst (λ (n : ℕ). tree_by n b.form below x ≡ some t) z (sym (tree_by_lem b.form below x) ∙ e)) h)

    trees_second :
        (below : List Tree) (xs : List Node) (more : List Tree)
        → trees_from b.form below xs ≡ accepted (below ++ more)
        → trees_from whole (above ++ map mv below) (move_nodes moves more xs) ≡ accepted (above ++ map mv (below ++ more))
    unfolding trees_from move_nodes
    trees_second below [] [] e = ap (λ (l : List Tree). accepted (above ++ map mv l)) (accepted_same below (below ++ []) e)
    trees_second below [] (u ∷ us) e = ap (λ (l : List Tree). accepted (above ++ map mv l)) (accepted_same below (below ++ (u ∷ us)) e)
    trees_second below (x ∷ xs) [] e =
        let more = trees_length b.form below (x ∷ xs) (below ++ []) e in
        let none = length-append below [] in
        absurd (omega arith)
    trees_second below (x ∷ xs) (u ∷ us) e =
        let (t, h, g) = trees_step b.form below x xs (below ++ (u ∷ us)) e in
        let same = next_tree b.form below xs t u us g in
        let here = tree_moved below x u (h ∙ ap {B = Option Tree} some same) in
        let rest : below ++ (u ∷ []) ++ us ≡ below ++ (u ∷ us) = append_assoc below (u ∷ []) us in
        let on = trees_second (below ++ (u ∷ [])) xs us (rw same at g ∙ ap accepted (sym rest)) in
        let next : above ++ map mv (below ++ (u ∷ [])) ≡ above ++ map mv below ++ (mv u ∷ []) =
        ap (λ (l : List Tree). above ++ l) (map-append mv below (u ∷ [])) ∙ sym (append_assoc above (map mv below) (mv u ∷ [])) in
        tree_on whole (above ++ map mv below) (move_node moves (kind_of u) x) (move_nodes moves us xs) (mv u) here
        ∙ ap (λ (l : List Tree). trees_from whole l (move_nodes moves us xs)) (sym next)
        ∙ on
        ∙ ap (λ (l : List Tree). accepted (above ++ map mv l)) rest

  -- ---- all nodes
  pub trees_joined :
      All (NameGood a.form.area) a.form.names
      → trees_from a.form [] a.form.nodes ≡ accepted a.trees
      → trees_from b.form [] b.form.nodes ≡ accepted b.trees
      → trees_from whole [] whole.nodes ≡ accepted (a.trees ++ map mv b.trees)
  unfolding join_forms join_by moves_behind
  trees_joined good e g =
      let xs = a.form.nodes in
      let long : length a.trees ≡ length xs = trees_length a.form [] xs a.trees e ∙ zero-add (length xs) in
      trees_append whole [] xs (move_nodes moves b.trees b.form.nodes) a.trees (trees_first good [] xs a.trees e)
      ∙ ap (λ (l : List Tree). trees_from whole l (move_nodes moves b.trees b.form.nodes)) (sym (append-nil a.trees))
      ∙ trees_second a.trees long [] b.form.nodes b.trees g

-- ---- the trees of the fields
fields_first : (ts more : List Tree) (ks : List ℕ) (us : List Tree) → trees_at ts ks ≡ some us → trees_at (ts ++ more) ks ≡ some us
unfolding trees_at ◌>>?◌
fields_first ts more [] us e = e
fields_first ts more (k ∷ ks) us e =
    let (t, vs, h, r, same) = fields_step ts k ks us e in
    rw (lookup_more ts more k t h, fields_first ts more ks vs r) (ap {B = Option (List Tree)} some same)

fields_second :
    (mv : Tree → Tree) (ts more : List Tree) (n : ℕ)
    → length ts ≡ n
    → (ks : List ℕ) (us : List Tree)
    → trees_at more ks ≡ some us
    → trees_at (ts ++ map mv more) (map (λ k. n + k) ks) ≡ some (map mv us)
unfolding trees_at ◌>>?◌
fields_second mv ts more n long [] us e = ap (λ (l : List Tree). some (map mv l)) (some-injective [] us e)
fields_second mv ts more n long (k ∷ ks) us e =
    let (t, vs, h, r, same) = fields_step more k ks us e in
    let here : get_elem? (ts ++ map mv more) (n + k) ≡ some (mv t) =
    ap (λ (i : ℕ). get_elem? (ts ++ map mv more) (i + k)) (sym long) ∙ lookup_behind ts (map mv more) k ∙ lookup_map mv more k ∙ ap (Option.map mv) h in
    rw (here, fields_second mv ts more n long ks vs r) (ap (λ (l : List Tree). some (map mv l)) same)

fields_append :
    (ts : List Tree) (ks ls : List ℕ) (us vs : List Tree)
    → trees_at ts ks ≡ some us
    → trees_at ts ls ≡ some vs
    → trees_at ts (ks ++ ls) ≡ some (us ++ vs)
unfolding trees_at ◌>>?◌
fields_append ts [] ls us vs e g = g ∙ ap (λ (l : List Tree). some (l ++ vs)) (some-injective [] us e)
fields_append ts (k ∷ ks) ls us vs e g =
    let (t, ws, h, r, same) = fields_step ts k ks us e in
    rw (h, fields_append ts ks ls ws vs r g) (ap (λ (l : List Tree). some (l ++ vs)) same)

pub fields_joined :
    (a b : Accepted)
    → length a.trees ≡ length a.form.nodes
    → trees_at a.trees a.form.fields ≡ some a.fields
    → trees_at b.trees b.form.fields ≡ some b.fields
    → trees_at (a.trees ++ map (move_tree (moves_behind a.form)) b.trees) (join_forms a b).fields
    ≡ some (a.fields ++ map (move_tree (moves_behind a.form)) b.fields)
unfolding join_forms join_by moves_behind
fields_joined a b long e g =
    let mv = move_tree (moves_behind a.form) in
    fields_append (a.trees ++ map mv b.trees) a.form.fields (map (λ k. length a.form.nodes + k) b.form.fields) a.fields (map mv b.fields)
    (fields_first a.trees (map mv b.trees) a.form.fields a.fields e)
    (fields_second mv a.trees b.trees (length a.form.nodes) long b.form.fields b.fields g)
