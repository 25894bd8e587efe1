-- One field: what it is, and what its run leaves. The fields of an accepted form, one by one.
use mathlib.Core.Bool.{Bool, true, false, not}
use mathlib.Core.List.{List, [], ◌∷◌}
use mathlib.Core.Option.{some, some-injective, none-ne-some}
use mathlib.Core.Logic.{◌⊎◌, ⊎_elim}
use mathlib.Core.Path.{◌≡◌, refl, sym, ap, ◌∙◌}
use Prim.Native.Nat.{ℕ, zero, suc, ◌+◌, ◌≤◌, ◌<◌}
use native.Mathlib.Omega.{arith}
use lib.ListN.{length, get_elem?, replicate, length-replicate}
use Rattle.rules.specs.Form.{Form, node_count, field_count, read_form}
use Rattle.rules.specs.Tree.{Tree, kind_of}
use Rattle.rules.specs.Accept.{Accepted, accepted, check_form, length_good, trees_at}
use Rattle.rules.specs.Split.{Item}
use Rattle.rules.specs.State.{State, field_mark}
use Rattle.rules.specs.Missing.{lacking}
use Rattle.rules.specs.Sound.{Sound, leaves}
use Rattle.rules.proofs.Acceptance.{All-at, fields_step, accepted_passed, accepted_length, accepted_form, accepted_sound, accepted_fields}
use Rattle.rules.proofs.Fields.{field_parsed}
use Rattle.rules.proofs.MissingLaws.{leaves_within}
use Rattle.rules.proofs.Uses.{leaves_law, leaf_few}
use Rattle.form_layout.specs.Layout.{node_of}
use Rattle.form_layout.specs.declared.Node as declared
use Rattle.form_layout.proofs.Sizes.{sized, nodes_length, fields_length}
use Rattle.state_marks.specs.declared.Numbers.{Numbers}
use Rattle.take_search.specs.States.{LeftState}
use Rattle.eval_told.specs.declared.Ran.{Ran}
use Rattle.eval_told.specs.Results.{written}
use Rattle.eval_told.specs.Told.{Evaluates, scalar_words}
use Rattle.eval_told.specs.Nodes.{tree_at, is_scalar}
use Rattle.eval_shortcut.specs.Stands.{Standing, Scalar}
use Rattle.eval_told.proofs.NodeLaw.{at_tree}
use Rattle.eval_words.specs.Stored.{Put}
use Rattle.eval_shortcut.proofs.Words.{scalar_short}
use Rattle.eval_shortcut.proofs.Trees.{form_good_lem, node_inside}
use Rattle.eval_list.specs.Lists.{MarkedField}
use Rattle.eval_list.specs.Lists.{Listed, Writes}
use Rattle.eval_shortcut.proofs.Shapes.{single_here}
use Rattle.run_fields.specs.Line.{Starts, FieldReady, PutValue, lacking_field}

-- a cleared table of k words has a word for each of fewer items, and that of all items
pub table_room : (l : List ℕ) (k : ℕ) → l ≡ replicate k 0 → (n : ℕ) → n < k → n < length l
table_room l k e n h = omega (arith, h, ap length e ∙ length-replicate {A = ℕ} k 0)

-- ---- one field
module _
    (b known s words m : List ℕ)
    (p : Numbers)
    (field : MarkedField)
    (o : List ℕ)
    (f : FieldReady b known s words m p field o)
    (r : Bool)
    (says : (t : Tree) → tree_at b field.node ≡ some t → not r ≡ is_scalar (kind_of t))
  where
    pub field_listed : r ≡ true → Listed b known s words m p field o
    field_listed h =
        record { stands = f.stands; long = sym (says f.stands.tree f.stands.node) ∙ ap not h; space = f.space }

pub field_scalar :
    (b known s words m : List ℕ) (p : Numbers) (n at mark : ℕ) (o : List ℕ)
    → FieldReady b known s words m p (record { node = n; at = at; mark = mark }) o
    → (r : Bool)
    → ((t : Tree) → tree_at b n ≡ some t → not r ≡ is_scalar (kind_of t))
    → r ≡ false
    → Scalar b known s words m p mark n
field_scalar b known s words m p n at mark o f r says h =
    record { stands = f.stands; scalar = sym (says f.stands.tree f.stands.node) ∙ ap not h }

-- a field that is a leaf
module _
    (b known s words m : List ℕ)
    (p : Numbers)
    (field : MarkedField)
    (o : List ℕ)
    (f : FieldReady b known s words m p field o)
  where
    abbrev n : ℕ
    n = field.node

    pub field_good : length_good b ≡ true
    field_good = form_good_lem b n f.stands.tree f.stands.node

    pub field_inside : n < node_count b
    field_inside = node_inside b n f.stands.tree f.stands.node

    pub field_leaf :
        (x : declared.Node)
        → get_elem? (read_form b).nodes n ≡ some (node_of x)
        → ((node_of x).kind ≡ 1) ⊎ ((node_of x).kind ≡ 3)
        → Scalar b known s words m p field.mark field.node
    field_leaf x h k =
        let low : (node_of x).kind < 4 = ⊎_elim (λ e. omega arith) (λ e. omega arith) k in
        record {
          stands = f.stands;
          scalar = sym (single_here b n f.stands.tree f.stands.node x h (λ e. omega arith) (λ e. omega arith) (λ e. omega arith) (λ e. omega arith));
        }

-- a value that is no list, written
pub field_written :
    (mark : ℕ) (area words : List ℕ) (t : Tree) (m : List ℕ) (p : Numbers) (m' o : List ℕ) (at : ℕ) (o' : List ℕ) (x : Ran) (len : ℕ) (r : Ran)
    → Evaluates mark area words t m p m' x
    → Put o at x.len x.word o' len
    → r ≡ written x len
    → Writes mark area words t m p m' o at o' r
field_written mark area words t m p m' o at o' x len r e w q =
    rw q
    (record {
      value = scalar_words x.len x.word;
      same = e.same;
      len = w.width;
      put = w.same;
      fits = omega (arith, scalar_short x.len x.word);
      left = e.left;
    })

pub field_put :
    (mark : ℕ) (area words : List ℕ) (t : Tree) (m : List ℕ) (p : Numbers) (m' o : List ℕ) (at : ℕ) (o' : List ℕ) (x r : Ran)
    → Evaluates mark area words t m p m' x
    → PutValue o at x o' r
    → Writes mark area words t m p m' o at o' r
field_put mark area words t m p m' o at o' x r e w =
    field_written mark area words t m p m' o at o' x r.len r e w.put w.same

pub value_put :
    (o : List ℕ) (at : ℕ) (o' : List ℕ) (x : Ran) (len : ℕ) (r : Ran)
    → Put o at x.len x.word o' len
    → r ≡ written x len
    → PutValue o at x o' r
value_put o at o' x len r w q = rw q (record { put = w; same = refl })

-- ---- the fields of an accepted form
fields_at :
    (ts : List Tree) (ks : List ℕ) (us : List Tree)
    → trees_at ts ks ≡ some us
    → (k n : ℕ)
    → get_elem? ks k ≡ some n
    → (t : Tree) × (get_elem? us k ≡ some t) × (get_elem? ts n ≡ some t)
fields_at ts [] us e k n h = absurd (none-ne-some n h)
fields_at ts (j ∷ ks) us e zero n h =
    let (t, vs, g, r, same) = fields_step ts j ks us e in
    (t, ap (λ (l : List Tree). get_elem? l 0) (sym same), ap (get_elem? ts) (sym (some-injective j n h)) ∙ g)
fields_at ts (j ∷ ks) us e (suc k) n h =
    let (t, vs, g, r, same) = fields_step ts j ks us e in
    let (u, x, y) = fields_at ts ks vs r k n h in
    (u, ap (λ (l : List Tree). get_elem? l (suc k)) (sym same) ∙ x, y)

-- field k, whose node is n
pub record FieldAt (b : List ℕ) (fs : List Tree) (k n : ℕ) : Type 0 where
  pub tree : Tree
  pub here : get_elem? fs k ≡ some tree
  pub node : tree_at b n ≡ some tree
  pub sound : Sound tree
  pub light : leaves tree ≤ 64

module _ (b : List ℕ) (a : Accepted) (e : check_form b ≡ accepted a) where
  pub form_long : 8 ≤ length b
  form_long = (sized b (accepted_length b a e)).counts.long

  pub few_fields : field_count b ≤ 16
  few_fields = (sized b (accepted_length b a e)).counts.fields.1

  pub field_count_lem : length a.fields ≡ field_count b
  field_count_lem = accepted_fields b a e ∙ ap (λ (f : Form). length f.fields) (accepted_form b a e) ∙ fields_length b

  pub field : (k n : ℕ) → get_elem? (read_form b).fields k ≡ some n → FieldAt b a.fields k n
  field k n h =
      let (t, x, y) = fields_at a.trees (read_form b).fields a.fields (accepted_passed b a e).fields k n h in
      let few = leaf_few a.form.nodes in
      let nodes = ap (λ (f : Form). length f.nodes) (accepted_form b a e) ∙ nodes_length b in
      let most = (sized b (accepted_length b a e)).counts.nodes.1 in
      let law = leaves_law b a e in
      let mine = leaves_within a.fields k t x in
      record {
        tree = t;
        here = x;
        node = at_tree b a e n ∙ y;
        sound = All-at Sound a.fields k t (accepted_sound b a e) x;
        light = omega arith;
      }

-- what field k lacks
pub lacking_here :
    (first : ℕ) (is : List Item) (fields : List Tree) (k : ℕ) (t : Tree)
    → get_elem? fields k ≡ some t
    → (s : State)
    → lacking_field first is fields k s ≡ lacking (field_mark (first + k)) is t s
unfolding lacking_field
lacking_here first is fields k t here s = rw (here, lacking_field) refl

-- field k stands in every state that the run leaves
module _ (b known s words m : List ℕ) (p : Numbers) (first : ℕ) (o : List ℕ) (start : Starts b known s words m p first o) where
  pub field_stands :
      (m' : List ℕ) (q : Numbers)
      → LeftState m p m' q
      → (k n : ℕ)
      → get_elem? (read_form b).fields k ≡ some n
      → Standing b known s words m' q (field_mark (first + k)) n
  field_stands m' q l k n h =
      let mine = field b start.result start.accepts k n h in
      record {
        tree = mine.tree;
        node = mine.node;
        light = mine.light;
        made = start.made;
        state = record {
          items = start.state.items;
          table = start.state.table;
          same = start.state.same ∙ sym l.count;
          fine = l.fine;
          told = field_parsed (first + k);
        };
        knows = start.knows;
      }
