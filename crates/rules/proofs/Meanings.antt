-- What the base values of an accepted form mean: the fallbacks' own values, and all that is read from a line.
use mathlib.Core.Bool.{◌&&◌}
use mathlib.Core.List.{List, [], ◌∷◌}
use mathlib.Core.Option.{some, some-injective, none-ne-some}
use mathlib.Core.Path.{◌≡◌, subst}
use Prim.Native.Nat.{ℕ, ◌≤◌}
use native.Mathlib.Omega.{arith}
use lib.Dec.{leb, eqb}
use lib.ListN.{length, get_elem?}
use borrow.Author.Tests.{eqb-true}
use Rattle.rules.specs.Value.{yes_no, text, number, Kind, one, optional, list, list_of_optional, optional_list, name, BaseValue, is_yes, is_text, is_number}
use Rattle.rules.specs.Form.{Node, Name, Form, read_form}
use Rattle.rules.specs.Tree.{Tree, zeros, fallback_value}
use Rattle.rules.specs.Accept.{Accepted, accepted, check_form}
use Rattle.rules.specs.Split.{Item}
use Rattle.rules.specs.Demands.{All, Bytes, Means}
use Rattle.rules.proofs.Acceptance.{if_some, bind_some, and-true, All-append, All-at, All-map, Made, flag_made, argument_made, positional_made, optional_made, many_made, some_made}
use Rattle.rules.proofs.Acceptance.{count_made, last_made, choice_made, fallback_made, guard_made, trees_all, fields_all, accepted_length, accepted_passed, accepted_form}
use Rattle.rules.proofs.Formats.{Wide, NodeSmall, read_within}
use Rattle.rules.proofs.Nodes.{Meaning}
use Rattle.rules.proofs.EvalSound.{fallbacks}
use Rattle.rules.proofs.Fields.{AllMean}

-- ---- what is read from a line of at most 256 items
pub line_meaning : (is : List Item) (ns : List Name) → length is ≤ 256 → Meaning is (Means is ns)
line_meaning is ns few = record { yes = λ b. tt; read = λ n h. omega arith; count = λ n h. omega arith; text = λ i h. h }

-- ---- a fallback's own value
module _ (is : List Item) (f : Form) (x : Node) (wide : Wide x.lo) where
  abbrev M : BaseValue → Type 0
  M = Means is f.names

  fallback_means : (κ : Kind) (v : BaseValue) → fallback_value f x κ ≡ some v → M v
  unfolding fallback_value
  fallback_means (one yes_no) v e =
      let p = if_some (leb x.lo 1 && zeros (x.r ∷ x.hi ∷ [])) (some (is_yes (eqb x.lo 1))) e in
      subst M (some-injective (is_yes (eqb x.lo 1)) v p.1) tt
  fallback_means (one text) v e =
      let (m, here, q) = bind_some (get_elem? f.names x.r) _ e in
      let p = if_some (eqb m.type 2 && zeros (x.lo ∷ x.hi ∷ [])) (some (is_text (name x.r))) q in
      let t = and-true (eqb m.type 2) (zeros (x.lo ∷ x.hi ∷ [])) p.0 in
      subst M (some-injective (is_text (name x.r)) v p.1) (m, here, eqb-true m.type 2 t.0)
  fallback_means (one number) v e =
      let p = if_some (zeros (x.r ∷ x.hi ∷ [])) (some (is_number x.lo)) e in
      subst M (some-injective (is_number x.lo) v p.1) wide
  fallback_means (optional b) v e = absurd (none-ne-some v e)
  fallback_means (list b) v e = absurd (none-ne-some v e)
  fallback_means (list_of_optional b) v e = absurd (none-ne-some v e)
  fallback_means (optional_list b) v e = absurd (none-ne-some v e)

  -- all fallbacks of a tree, if those of its children mean something
  made_means :
      (ts : List Tree) (k : ℕ) (t : Tree)
      → ((i : ℕ) (c : Tree) → get_elem? ts i ≡ some c → All M (fallbacks c))
      → Made f ts k x t
      → All M (fallbacks t)
  unfolding fallbacks
  made_means ts k t s (flag_made l z r u n) = tt
  made_means ts k t s (argument_made l z r u n) = tt
  made_means ts k t s (positional_made z p r u) = tt
  made_means ts k t s (optional_made b c z r u h e) = s x.p c h.1
  made_means ts k t s (many_made b c z r u h a e) = s x.p c h.1
  made_means ts k t s (some_made b c z r u h a e) = s x.p c h.1
  made_means ts k t s (count_made c z u h a e) = s x.p c h.1
  made_means ts k t s (last_made c z u h a e) = s x.p c h.1
  made_means ts k t s (choice_made c d z u h g e) = All-append M (fallbacks c) (fallbacks d) (s x.p c h.1) (s x.q d g.1)
  made_means ts k t s (fallback_made c κ v z u h g w e) = (fallback_means κ v w, s x.p c h.1)
  made_means ts k t s (guard_made c z u h l e) = s x.p c h.1

-- ---- the fields of an accepted form
pub accepted_mean : (is : List Item) (b : List ℕ) (a : Accepted) → Bytes b → check_form b ≡ accepted a → AllMean (Means is a.form.names) a.fields
accepted_mean is b a small e =
    let p = accepted_passed b a e in
    let f = read_form b in
    let Q : Tree → Type 0 = λ t. All (Means is f.names) (fallbacks t) in
    let wide = All-map NodeSmall (λ (x : Node). Wide x.lo) (λ x n. n.lo) f.nodes (read_within b small (accepted_length b a e)).node_numbers in
    let trees = trees_all f (λ (x : Node). Wide x.lo) Q
    (λ below x t w s m. made_means is f x w below (length below) t (λ i c. All-at Q below i c s) m)
    [] f.nodes a.trees wide tt p.trees
    in
    rw (accepted_form b a e) (fields_all Q a.trees f.fields a.fields trees p.fields)
