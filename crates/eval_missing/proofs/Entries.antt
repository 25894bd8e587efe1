-- The entries of a tree: their words, which trees have one, and which have none.
use mathlib.Core.Bool.{Bool, true, false, false≢true}
use mathlib.Core.List.{List, [], ◌∷◌, ◌++◌, append_assoc}
use mathlib.Core.Option.{some, some-injective, none-ne-some}
use mathlib.Core.Path.{◌≡◌, refl, sym, ap, ◌∙◌, subst}
use Prim.Native.Nat.{ℕ, suc, ◌+◌, ◌≤◌, ◌<◌}
use native.Mathlib.Numerals.{add-one}
use native.Mathlib.Omega.{arith}
use lib.Dec.{eqb}
use lib.ListN.{length, set, take, get_elem?}
use lib.Seq.{sets, length-take-le}
use borrow.Author.Tests.{ne_eqb}
use Rattle.std.specs.Prelude.{if◌then◌else◌}
use Rattle.rules.specs.Base.{is_some, concat_map}
use Rattle.rules.specs.Outcome.{Outcome, ok, refused, fault, MissingItem, entry_words, list_words, is_missing}
use Rattle.rules.specs.Value.{Value, number}
use Rattle.rules.specs.Form.{Node, Form, read_form}
use Rattle.rules.specs.Tree.{Tree, Flag, Argument, Positional, Optional, Many, Some, Count, Last, Choice, Fallback, Guard, kind_of, shape_of}
use Rattle.rules.specs.Split.{Item}
use Rattle.rules.specs.State.{State}
use Rattle.rules.specs.Calls.{from_raw}
use Rattle.rules.specs.Eval.{Ran as Run, eval}
use Rattle.rules.specs.Sound.{leaves}
use Rattle.rules.specs.Missing.{entry, ends_missing, lacking}
use Rattle.rules.proofs.Acceptance.{Made, flag_made, argument_made, positional_made, optional_made, many_made, some_made, count_made, last_made, choice_made}
use Rattle.rules.proofs.Acceptance.{fallback_made, guard_made, inside_same, tree_made, lookup_inside}
use Rattle.rules.proofs.KindLaws.{last_kind_lem, choice_kind_lem, base_kind_lem}
use Rattle.state_marks.specs.declared.Numbers.{Numbers}
use Rattle.state_marks.specs.Lent.{state_of}
use Rattle.take_search.specs.States.{Items}
use Rattle.eval_told.specs.declared.Ran.{Ran}
use Rattle.eval_told.specs.Told.{Told, told, answered, Evaluates}
use Rattle.eval_told.specs.Nodes.{tree_at, is_scalar}
use Rattle.eval_told.proofs.NodeLaw.{node_tree, tree_accepted}
use Rattle.eval_shortcut.proofs.Trees.{kind_number}

-- ---- their words
pub words_append : (a b : List MissingItem) → list_words (a ++ b) ≡ list_words a ++ list_words b
unfolding list_words concat_map
words_append [] b = refl
words_append (x ∷ a) b =
    ap (λ (w : List ℕ). entry_words x ++ w) (words_append a b) ∙ sym (append_assoc (entry_words x) (list_words a) (list_words b))

pub entry_words_lem : (n : ℕ) (m : List ℕ) (p : Numbers) → list_words (entry n (state_of m p) ∷ []) ≡ suc n ∷ p.start ∷ p.end ∷ []
unfolding list_words concat_map entry_words entry state_of from_raw
entry_words_lem n m p = refl

-- as the code writes them
pub entry_put : (l : List ℕ) (at n a c : ℕ) → set (set (set l at (n + 1)) (at + 1) a) (at + 2) c ≡ sets l at (suc n ∷ a ∷ c ∷ [])
entry_put l at n a c =
    let two : at + 2 ≡ suc (suc at) = omega arith in
    rw (add-one n, add-one at, two)

-- ---- a run that ended in 20 told it
told_missing : (r : Run Value) (x : Told) → told r ≡ some x → eqb x.number 20 ≡ ends_missing r.outcome
unfolding told ends_missing is_missing
told_missing r x = go r.outcome
  where
    go :
        (o : Outcome Value)
        → told (record { outcome = o; state = r.state; tries = r.tries; trace = r.trace }) ≡ some x
        → eqb x.number 20 ≡ ends_missing o
    go (ok v) e = ap (λ (y : Told). eqb y.number 20) (sym (some-injective _ x e)) ∙ ne_eqb 0 20 (λ q. omega arith)
    go (refused f) e = ap (λ (y : Told). eqb y.number 20) (sym (some-injective _ x e))
    go (fault f) e = absurd (none-ne-some x e)

pub node_missing :
    {mark : ℕ} {area words : List ℕ} {t : Tree} {m : List ℕ} {p : Numbers} {m' : List ℕ} {r : Ran}
    → Evaluates mark area words t m p m' r
    → (is : List Item)
    → Items area words p is
    → eqb r.number 20 ≡ ends_missing (eval mark is t (state_of m p)).outcome
node_missing {mark} {t} {m} {p} {m'} {r} e is i = told_missing (eval mark is t (state_of m p)) (answered r m') (e.same is i)

-- ---- a leaf holds its node's number
abbrev pub Own : ℕ → Tree → Type 0
Own n (Flag k names switch) = k ≡ n
Own n (Argument k names b adjacent) = k ≡ n
Own n (Positional k q b) = k ≡ n
Own n (Optional c t) = Unit {0}
Own n (Many c t) = Unit {0}
Own n (Some c t) = Unit {0}
Own n (Count t) = Unit {0}
Own n (Last t) = Unit {0}
Own n (Choice t u) = Unit {0}
Own n (Fallback v t) = Unit {0}
Own n (Guard l h t) = Unit {0}

made_own : (f : Form) (ts : List Tree) (k : ℕ) (x : Node) (t : Tree) → Made f ts k x t → Own k t
made_own f ts k x t (flag_made l q u v w) = refl
made_own f ts k x t (argument_made l q u v w) = refl
made_own f ts k x t (positional_made q u v w) = refl
made_own f ts k x t (optional_made d g q u v w i) = tt
made_own f ts k x t (many_made d g q u v w i j) = tt
made_own f ts k x t (some_made d g q u v w i j) = tt
made_own f ts k x t (count_made g q u v w i) = tt
made_own f ts k x t (last_made g q u v w i) = tt
made_own f ts k x t (choice_made g d q u v w i) = tt
made_own f ts k x t (fallback_made g κ d q u v w i j) = tt
made_own f ts k x t (guard_made g q u v w i) = tt

pub tree_own : (b : List ℕ) (n : ℕ) (t : Tree) → tree_at b n ≡ some t → (x : Node) → get_elem? (read_form b).nodes n ≡ some x → Own n t
tree_own b n t g x h =
    let (a, e, k) = tree_accepted b n t g in
    let w = node_tree b a e n x h in
    let below = take n a.trees in
    let made = tree_made (read_form b) below below (inside_same below) x t (w.made ∙ sym w.stands ∙ k) in
    let inside = lookup_inside a.trees n t k in
    let long : length below ≡ n = length-take-le n a.trees (omega arith) in
    subst (λ (i : ℕ). Own i t) long (made_own (read_form b) below (length below) x t made)

-- ---- entries by the kind of the node
pub leaf_one : (t : Tree) → kind_number t ≤ 3 → leaves t ≡ 1
unfolding kind_number leaves
leaf_one (Flag k names switch) l = refl
leaf_one (Argument k names b adjacent) l = refl
leaf_one (Positional k q b) l = refl
leaf_one (Optional c t) l = absurd (omega arith)
leaf_one (Many c t) l = absurd (omega arith)
leaf_one (Some c t) l = absurd (omega arith)
leaf_one (Count t) l = absurd (omega arith)
leaf_one (Last t) l = absurd (omega arith)
leaf_one (Choice t u) l = absurd (omega arith)
leaf_one (Fallback v t) l = absurd (omega arith)
leaf_one (Guard k h t) l = absurd (omega arith)

module _ (mark : ℕ) (is : List Item) (s : State) where
  pub leaf_lacks : (n : ℕ) (t : Tree) → kind_number t ≤ 3 → Own n t → lacking mark is t s ≡ entry n s ∷ []
  unfolding kind_number lacking
  leaf_lacks n (Flag k names switch) l o = ap (λ (i : ℕ). entry i s ∷ []) o
  leaf_lacks n (Argument k names b adjacent) l o = ap (λ (i : ℕ). entry i s ∷ []) o
  leaf_lacks n (Positional k q b) l o = ap (λ (i : ℕ). entry i s ∷ []) o
  leaf_lacks n (Optional c t) l o = absurd (omega arith)
  leaf_lacks n (Many c t) l o = absurd (omega arith)
  leaf_lacks n (Some c t) l o = absurd (omega arith)
  leaf_lacks n (Count t) l o = absurd (omega arith)
  leaf_lacks n (Last t) l o = absurd (omega arith)
  leaf_lacks n (Choice t u) l o = absurd (omega arith)
  leaf_lacks n (Fallback v t) l o = absurd (omega arith)
  leaf_lacks n (Guard k h t) l o = absurd (omega arith)

  -- the others swallow 20
  pub other_lacks :
      (t : Tree) → 3 < kind_number t → (kind_number t ≡ 8 → ⊥) → (kind_number t ≡ 9 → ⊥) → (kind_number t ≡ 11 → ⊥) → lacking mark is t s ≡ []
  unfolding kind_number lacking
  other_lacks (Flag k names switch) l a c g = absurd (omega arith)
  other_lacks (Argument k names b adjacent) l a c g = absurd (omega arith)
  other_lacks (Positional k q b) l a c g = absurd (omega arith)
  other_lacks (Optional d t) l a c g = refl
  other_lacks (Many d t) l a c g = refl
  other_lacks (Some d t) l a c g = refl
  other_lacks (Count t) l a c g = refl
  other_lacks (Last t) l a c g = absurd (a refl)
  other_lacks (Choice t u) l a c g = absurd (c refl)
  other_lacks (Fallback v t) l a c g = refl
  other_lacks (Guard k h t) l a c g = absurd (g refl)

  -- a node whose value is a list has none
  either_none : (b : Bool) → ◌≡◌ {A = List MissingItem} ((if b then [] else []) ++ []) []
  either_none true = refl
  either_none false = refl

  pub list_lacks : (t : Tree) → is_some (kind_of t) ≡ true → is_scalar (kind_of t) ≡ false → lacking mark is t s ≡ []
  unfolding kind_of is_scalar shape_of lacking
  list_lacks (Flag k names switch) o e = absurd (false≢true (sym e))
  list_lacks (Argument k names b adjacent) o e = absurd (false≢true (sym e))
  list_lacks (Positional k q b) o e = absurd (false≢true (sym e))
  list_lacks (Optional d t) o e = refl
  list_lacks (Many d t) o e = refl
  list_lacks (Some d t) o e = refl
  list_lacks (Count t) o e = refl
  list_lacks (Last t) o e =
      let same = sym (last_kind_lem (kind_of t) o) in
      list_lacks t (ap is_some same ∙ o) (ap is_scalar same ∙ e)
  list_lacks (Choice t u) o e =
      let kinds = choice_kind_lem (kind_of t) (kind_of u) o in
      let first = sym kinds.0 in
      let second = kinds.1 ∙ first in
      let a = list_lacks t (ap is_some first ∙ o) (ap is_scalar first ∙ e) in
      let b = list_lacks u (ap is_some second ∙ o) (ap is_scalar second ∙ e) in
      rw (a, b) (either_none (ends_missing (eval mark is t s).outcome))
  list_lacks (Fallback v t) o e = refl
  list_lacks (Guard l h t) o e =
      let same = sym (base_kind_lem number (kind_of t) o).0 in
      list_lacks t (ap is_some same ∙ o) (ap is_scalar same ∙ e)
