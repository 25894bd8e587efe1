-- The pass over the nodes: what its table says and what its sum is.
use mathlib.Core.Bool.{Bool, true, false}
use mathlib.Core.List.{List, [], ◌∷◌}
use mathlib.Core.Logic.{⊎_elim, ◌≢◌}
use mathlib.Core.Option.{some, some-injective, none-ne-some}
use mathlib.Core.Path.{◌≡◌, refl, sym, ◌∙◌, ap, subst}
use Prim.Native.Nat.{ℕ, zero, suc, ◌+◌, ◌*◌, ◌%◌, ◌^◌, ◌≤◌, ◌<◌}
use native.Mathlib.Nat.{zero-lt-suc, zero-add, add-zero, pow-suc}
use native.Mathlib.Numerals.{add-one}
use native.Mathlib.Omega.{arith}
use lib.ListN.{length, get_elem?, drop, set, replicate, length-set, length-replicate, drop_of_length-le}
use lib.Pow.{pow_mono}
use lib.Seq.{get_or-set_same, get_or-set_other}
use Rattle.std.specs.Prelude.{if◌then◌else◌}
use Rattle.rules.specs.Form.{Node, Form, node_count, read_form}
use Rattle.rules.specs.Tree.{Tree}
use Rattle.rules.specs.Accept.{Accepted, accepted, length_good, check_form}
use Rattle.rules.proofs.Acceptance.{Child, Made, flag_made, argument_made, positional_made, optional_made, many_made, some_made, count_made, last_made, choice_made, fallback_made}
use Rattle.rules.proofs.Acceptance.{guard_made}
use Rattle.rules.proofs.Acceptance.{TreeAt, TreesAt, trees_made, accepted_passed, accepted_form, accepted_trees}
use Rattle.rules_careful.specs.Idle.{may_idle, is_idle_repeat, idle_from, idle_repeats, bit_set}
use Rattle.form_layout.specs.declared.Node as declared
use Rattle.form_layout.specs.Layout.{node_of}
use Rattle.form_layout.proofs.Sizes.{sized, nodes_length}
use Rattle.form_kinds.proofs.Steps.{drop_there}
use Rattle.form_kinds.proofs.Table.{same_or}
use Rattle.form_idle.proofs.Nodes.{bit_is}
use Rattle.form_idle.specs.Idles.{is_by_child, idle_by, repeat_by, said_in}

-- ---- a node's tree, from what is said of its children
module _ (f : Form) (ts : List Tree) (k : ℕ) (x : Node) (said : ℕ → Bool) (children : (i : ℕ) (c : Tree) → Child ts k i c → said i ≡ may_idle c) where
  made_idle : (t : Tree) → Made f ts k x t → idle_by x (said x.p) (said x.q) ≡ may_idle t
  unfolding is_by_child idle_by may_idle
  made_idle t (flag_made l z r o n) = rw z refl
  made_idle t (argument_made l z r o n) = rw z refl
  made_idle t (positional_made z p r o) = rw z refl
  made_idle t (optional_made b d z r o e n) = rw z refl
  made_idle t (many_made b d z r o e a n) = rw z refl
  made_idle t (some_made b d z r o e a n) = rw z (children x.p d e)
  made_idle t (count_made d z o e a n) = rw z refl
  made_idle t (last_made d z o e a n) = rw z (children x.p d e)
  made_idle t (choice_made d g z o e w n) = rw (z, children x.p d e, children x.q g w) refl
  made_idle t (fallback_made d κ v z o e g w n) = rw z refl
  made_idle t (guard_made d z o e s n) = rw z (children x.p d e)

  made_repeat : (t : Tree) → Made f ts k x t → repeat_by x (said x.p) ≡ is_idle_repeat t
  unfolding repeat_by is_idle_repeat
  made_repeat t (flag_made l z r o n) = rw z refl
  made_repeat t (argument_made l z r o n) = rw z refl
  made_repeat t (positional_made z p r o) = rw z refl
  made_repeat t (optional_made b d z r o e n) = rw z refl
  made_repeat t (many_made b d z r o e a n) = rw z (children x.p d e)
  made_repeat t (some_made b d z r o e a n) = rw z (children x.p d e)
  made_repeat t (count_made d z o e a n) = rw z (children x.p d e)
  made_repeat t (last_made d z o e a n) = rw z (children x.p d e)
  made_repeat t (choice_made d g z o e w n) = rw z refl
  made_repeat t (fallback_made d κ v z o e g w n) = rw z refl
  made_repeat t (guard_made d z o e s n) = rw z refl

-- the tree of node k of an accepted form
tree_at_lem : (f : Form) (ts : List Tree) (j : ℕ) (xs : List Node) → TreesAt f ts j xs → (k : ℕ) (x : Node) → get_elem? xs k ≡ some x → TreeAt f ts (j + k) x
tree_at_lem f ts j [] h k x e = absurd (none-ne-some x e)
tree_at_lem f ts j (y ∷ ys) h zero x e =
    let here : j ≡ j + 0 = omega arith in
    subst (λ (i : ℕ). TreeAt f ts i x) here (subst (TreeAt f ts j) (some-injective y x e) h.0)
tree_at_lem f ts j (y ∷ ys) h (suc k) x e =
    let next : suc j + k ≡ j + suc k = omega arith in
    subst (λ (i : ℕ). TreeAt f ts i x) next (tree_at_lem f ts (suc j) ys h.1 k x e)

accepted_tree : (b : List ℕ) (a : Accepted) → check_form b ≡ accepted a → (k : ℕ) (x : Node) → get_elem? (read_form b).nodes k ≡ some x → TreeAt (read_form b) a.trees k x
accepted_tree b a e k x h =
    let f = read_form b in
    let all : TreesAt f a.trees 0 f.nodes = trees_made f [] f.nodes a.trees (accepted_passed b a e).trees in
    subst (λ (i : ℕ). TreeAt f a.trees i x) (zero-add k) (tree_at_lem f a.trees 0 f.nodes all k x h)

-- ---- after k nodes: what the table says of each, and the bits of those found
pub record Gathered (b : List ℕ) (n k : ℕ) (table : List Bool) (found : ℕ) : Type 0 where
  pub count : n ≡ node_count b
  pub few : n ≤ 64
  pub long : length table ≡ 64
  pub small : found < 2 ^ k
  pub told : (a : Accepted) → check_form b ≡ accepted a → (j : ℕ) (t : Tree) → j < k → get_elem? a.trees j ≡ some t → said_in table j ≡ may_idle t
  pub sum : (a : Accepted) → check_form b ≡ accepted a → found + bit_set (idle_from k (drop k a.trees)) ≡ bit_set (idle_repeats a)

pub gathered_first : (b : List ℕ) → length_good b ≡ true → (n : ℕ) → n ≡ node_count b → (table : List Bool) → table ≡ replicate 64 false → Gathered b n 0 table 0
unfolding idle_repeats
gathered_first b g n c table e = record {
  count = c;
  few = omega (arith, c, sized b g);
  long = ap length e ∙ length-replicate {A = Bool} 64 false;
  small = zero-lt-suc 0;
  told = λ a h j t l. absurd (omega arith);
  sum = λ a h. zero-add _;
}

-- the bit of a node, or 0
pub bit_small : (k : ℕ) (g : Bool) (v : ℕ) → v ≡ (if g then 2 ^ k else 0) → v ≤ 2 ^ k
bit_small k true v e = omega (arith, e)
bit_small k false v e = omega (arith, e)

-- and the sum fits in 64 bits
pub sum_fits : (b : List ℕ) (n k : ℕ) (table : List Bool) (found : ℕ) → Gathered b n k table found → k < n → found + 1 * 2 ^ k % 2 ^ 64 < 18446744073709551616
sum_fits b n k table found h l =
    let inside : suc k ≤ 64 = omega (arith, h.few, l) in
    let most : 2 ^ suc k ≤ 2 ^ 64 = pow_mono inside in
    omega (arith, h.small, bit_is k (omega arith), most, pow-suc 2 k)

sum_next :
    (k found : ℕ) (t : Tree) (ts : List Tree) (v : ℕ)
    → v ≡ (if is_idle_repeat t then 2 ^ k else 0)
    → found + v + bit_set (idle_from (suc k) ts) ≡ found + bit_set (idle_from k (t ∷ ts))
unfolding idle_from bit_set
sum_next k found t ts v e = go (is_idle_repeat t) e
  where
    go :
        (g : Bool)
        → v ≡ (if g then 2 ^ k else 0)
        → found + v + bit_set (idle_from (suc k) ts) ≡ found + bit_set (if g then k ∷ idle_from (suc k) ts else idle_from (suc k) ts)
    go true e = omega (arith, e)
    go false e = omega (arith, e)

module _
    (b : List ℕ) (n k : ℕ) (table : List Bool) (found : ℕ) (before : Gathered b n k table found) (inside : k < n)
    (x : declared.Node) (here : get_elem? (read_form b).nodes k ≡ some (node_of x))
    (first second : Bool) (ef : first ≡ said_in table x.p) (es : second ≡ said_in table x.q)
    (idle : Bool) (ei : idle ≡ idle_by (node_of x) first second)
    (repeats : Bool) (er : repeats ≡ repeat_by (node_of x) first)
    (v : ℕ) (ev : v ≡ (if repeats then 2 ^ k else 0))
  where
    children : (a : Accepted) → check_form b ≡ accepted a → (i : ℕ) (c : Tree) → Child a.trees k i c → said_in table i ≡ may_idle c
    children a h i c l = before.told a h i c l.0 l.1

    told_next :
        (a : Accepted) → check_form b ≡ accepted a → (j : ℕ) (t : Tree) → j < k + 1 → get_elem? a.trees j ≡ some t
        → said_in (set table k idle) j ≡ may_idle t
    unfolding said_in
    told_next a h j t l e =
        ⊎_elim
        (λ (z : j ≡ k).
        let at = accepted_tree b a h k (node_of x) here in
        let same : at.tree ≡ t = some-injective at.tree t (sym at.stands ∙ ap (get_elem? a.trees) (sym z) ∙ e) in
        let is : idle ≡ may_idle at.tree =
        ei ∙ rw (ef, es) (made_idle (read_form b) a.trees k (node_of x) (said_in table) (children a h) at.tree at.made) in
        rw (z, get_or-set_same table k idle false (omega (arith, before.long, before.few, inside))) (is ∙ ap may_idle same))
        (λ (z : j ≢ k). rw (get_or-set_other table k j idle false z) (before.told a h j t (omega (arith, l, z)) e))
        (same_or j k)

    sum_more : (a : Accepted) → check_form b ≡ accepted a → found + v + bit_set (idle_from (k + 1) (drop (k + 1) a.trees)) ≡ bit_set (idle_repeats a)
    sum_more a h =
        let at = accepted_tree b a h k (node_of x) here in
        let is : repeats ≡ is_idle_repeat at.tree =
        er ∙ rw ef (made_repeat (read_form b) a.trees k (node_of x) (said_in table) (children a h) at.tree at.made) in
        rw (add-one k)
        (sum_next k found at.tree (drop (suc k) a.trees) v (rw is at ev)
        ∙ rw (← drop_there a.trees k at.tree at.stands) (before.sum a h))

    pub gathered_next : (found' : ℕ) → found' ≡ found + v → (table' : List Bool) → table' ≡ set table k idle → Gathered b n (k + 1) table' found'
    gathered_next found' ef table' e = rw (ef, e) (record {
      count = before.count;
      few = before.few;
      long = length-set table k idle ∙ before.long;
      small = omega (arith, before.small, bit_small k repeats v ev, ap (λ (i : ℕ). 2 ^ i) (add-one k) ∙ pow-suc 2 k);
      told = told_next;
      sum = sum_more;
    })

pub gathered_last :
    (b : List ℕ) (n k : ℕ) (table : List Bool) (found : ℕ)
    → Gathered b n k table found
    → n ≤ k
    → (a : Accepted)
    → check_form b ≡ accepted a
    → found ≡ bit_set (idle_repeats a)
unfolding idle_from bit_set
gathered_last b n k table found g h a s =
    let long : length a.trees ≡ node_count b = accepted_trees b a s ∙ ap (λ (f : Form). length f.nodes) (accepted_form b a s) ∙ nodes_length b in
    sym (add-zero found) ∙ (rw (drop_of_length-le a.trees {i = k} (omega (arith, long, g.count, h))) at (g.sum a s))
