-- What a checked form gives: kinds and the portable mark.
use mathlib.Core.Bool.{Bool, true, false, not, ◌&&◌}
use mathlib.Core.List.{List, [], ◌∷◌, ◌++◌, map}
use mathlib.Core.Option.{Option, some, some-injective, none-ne-some}
use mathlib.Core.Path.{◌≡◌, refl, sym, ◌∙◌, ap}
use Prim.Native.Nat.{ℕ, zero, suc, ◌+◌, ◌%◌, ◌≤◌, ◌<◌}
use native.Mathlib.Numerals.{add-one}
use native.Mathlib.Omega.{arith}
use lib.ListN.{length, get_or, get_elem?, drop, length-append, drop_of_length-le}
use borrow.Author.Tests.{not-true, not-false}
use Rattle.rules.specs.Base.{all}
use Rattle.rules.specs.Codes.{kind_code}
use Rattle.rules.specs.Form.{Node, Name, Form, name_count, area_at, read_form, portable_name, portable}
use Rattle.rules.specs.Tree.{Tree, kind_of, has_repeat}
use Rattle.rules.specs.Value.{Kind}
use Rattle.rules.specs.Accept.{Accepted, accepted, trees_from, check_form}
use Rattle.rules.proofs.Acceptance.{lookup_some, trees_step, lookup_inside, accepted_passed}
use Rattle.form_names.specs.declared.Name as names
use Rattle.form_names.specs.Names.{name_of}
use Rattle.form_layout.proofs.Sizes.{from, from_drop, names_length}
use Rattle.form_kinds.specs.Known.{codes, code_at, Done}
use Rattle.form_kinds.proofs.Steps.{drop_there}
use Rattle.form_kinds.proofs.Table.{codes_at}
use Rattle.form_kinds.proofs.Trees.{code_with, tree_code, code_part}
use Rattle.form_check.proofs.Climbing.{tree_some, grown, code_by_lem}

-- ---- lists
drop_first : {A : Type 0} (l : List A) (k : ℕ) (x : A) (xs : List A) → drop k l ≡ x ∷ xs → get_elem? l k ≡ some x
drop_first [] zero x xs e = absurd (let z : ◌≡◌ {A = ℕ} 0 1 = omega (arith, ap length e) in omega arith)
drop_first [] (suc k) x xs e = absurd (let z : ◌≡◌ {A = ℕ} 0 1 = omega (arith, ap length e) in omega arith)
drop_first (y ∷ l) zero x xs e = cc
drop_first (y ∷ l) (suc k) x xs e = drop_first l k x xs e

drop_rest : {A : Type 0} (l : List A) (k : ℕ) (x : A) (xs : List A) → drop k l ≡ x ∷ xs → drop (suc k) l ≡ xs
drop_rest [] zero x xs e = absurd (let z : ◌≡◌ {A = ℕ} 0 1 = omega (arith, ap length e) in omega arith)
drop_rest [] (suc k) x xs e = absurd (let z : ◌≡◌ {A = ℕ} 0 1 = omega (arith, ap length e) in omega arith)
drop_rest (y ∷ l) zero x xs e = cc
drop_rest (y ∷ l) (suc k) x xs e = drop_rest l k x xs e

get_tree : (ts : List Tree) (k : ℕ) (t : Tree) → get_elem? ts k ≡ some t → get_or (map tree_code ts) k 0 ≡ tree_code t
get_tree [] k t e = absurd (none-ne-some t e)
get_tree (u ∷ ts) zero t e = ap tree_code (some-injective u t e)
get_tree (u ∷ ts) (suc k) t e = get_tree ts k t e

-- ---- kinds
-- where all nodes have trees, the codes are those of the trees
codes_trees :
    (f : Form) (below : List Tree) (xs : List Node) (ts : List Tree)
    → trees_from f below xs ≡ accepted ts
    → drop (length below) f.nodes ≡ xs
    → codes f (length below) ≡ map tree_code below
    → codes f (length ts) ≡ map tree_code ts
unfolding trees_from
codes_trees f below [] ts e d c = let same : below ≡ ts = cc in rw same at c
codes_trees f below (x ∷ xs) ts e d c =
    let (t, h, g) = trees_step f below x xs ts e in
    let long : length (below ++ (t ∷ [])) ≡ suc (length below) = length-append below (t ∷ []) ∙ add-one (length below) in
    let here : get_elem? f.nodes (length below) ≡ some x = drop_first f.nodes (length below) x xs d in
    let next : drop (length (below ++ (t ∷ []))) f.nodes ≡ xs = rw long (drop_rest f.nodes (length below) x xs d) in
    let tree : tree_code t ≡ code_at f (length below) = sym (tree_some f below x t h) ∙ sym (code_by_lem f (length below) below c x here) in
    codes_trees f (below ++ (t ∷ [])) xs ts g next (rw long (grown f (length below) below t c tree))

module _ (b : List ℕ) (k : ℕ) (m₀ m : List ℕ) (d : Done (read_form b) k m₀ m) (n : ℕ) (en : n ≡ get_or m k 0) where
  pub kind_there :
      (a : Accepted) (t : Tree) (κ : Kind)
      → check_form b ≡ accepted a
      → get_elem? a.trees k ≡ some t
      → kind_of t ≡ some κ
      → n % 16 ≡ kind_code κ
  unfolding codes tree_code
  kind_there a t κ e h s =
      let p = accepted_passed b a e in
      let f = read_form b in
      let all : codes f (length a.trees) ≡ map tree_code a.trees = codes_trees f [] f.nodes a.trees p.trees refl refl in
      let code : get_or m k 0 ≡ tree_code t =
      d.here ∙ sym (codes_at f (length a.trees) k (lookup_inside a.trees k t h)) ∙ ap (λ (l : List ℕ). get_or l k 0) all ∙ get_tree a.trees k t h in
      ap (λ (x : ℕ). x % 16) (en ∙ code ∙ ap (λ (o : Option Kind). code_with o (has_repeat t)) s) ∙ code_part κ (has_repeat t)

-- ---- the portable mark
module _ (b : List ℕ) where
  abbrev passes : List Name → Bool
  passes l = all (portable_name (read_form b).area) l

  abbrev ns : List Name
  ns = (read_form b).names

  pub record PortableFrom (k : ℕ) : Type 0 where
    pub same : portable (read_form b) ≡ passes (drop k ns)

  pub passing_first : PortableFrom 0
  unfolding portable
  passing_first = record { same = refl }

  module _ (k m : ℕ) (em : m ≡ name_count b) (p : PortableFrom k) (h : k < m) (g : Bool) (e : (x : Name) → get_elem? (read_form b).names k ≡ some x → g ≡ portable_name (read_form b).area x) where
    passing_step : portable (read_form b) ≡ (g && passes (drop (k + 1) ns))
    unfolding all
    passing_step =
        let (x, s) = lookup_some ns k (omega (arith, names_length b)) in
        p.same ∙ rw (drop_there ns k x s, add-one k, e x s)

    pub passing_bad : not g ≡ true → false ≡ portable (read_form b)
    passing_bad z = sym (passing_step ∙ rw (not-true g z))

    pub passing_next : not g ≡ false → PortableFrom (k + 1)
    passing_next z = record { same = passing_step ∙ rw (not-false g z) }

  pub passing_last : (k m : ℕ) → m ≡ name_count b → PortableFrom k → m ≤ k → true ≡ portable (read_form b)
  unfolding all
  passing_last k m e p h = sym (p.same ∙ rw (drop_of_length-le ns {i = k} (omega (arith, names_length b))))

pub portable_there :
    (b : List ℕ) (k : ℕ) (x : names.Name)
    → get_elem? (read_form b).names k ≡ some (name_of x)
    → (at : ℕ)
    → at ≡ area_at b
    → (g : Bool)
    → g ≡ portable_name (from at b) (name_of x)
    → (y : Name)
    → get_elem? (read_form b).names k ≡ some y
    → g ≡ portable_name (read_form b).area y
unfolding read_form
portable_there b k x e at a g r y s =
    let same : y ≡ name_of x = some-injective y (name_of x) (sym s ∙ e) in
    r ∙ rw (from_drop at b, a, same)
