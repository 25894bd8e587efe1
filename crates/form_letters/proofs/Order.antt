-- The letters in the order of the name records are those of the nodes, node after node.
use mathlib.Core.Path.{◌≡◌, refl, sym, ap, ap₂, ◌∙◌, subst}
use mathlib.Core.Bool.{Bool, true, false, ◌&&◌, ◌||◌}
use mathlib.Core.List.{List, [], ◌∷◌, ◌++◌}
use mathlib.Core.Logic.{◌⊎◌, inl, inr}
use mathlib.Core.Option.{some}
use Prim.Native.Nat.{ℕ, zero, suc, ◌+◌, ◌-◌, ◌≤◌}
use native.Mathlib.Omega.{arith}
use lib.Dec.{eqb, leb, ltb}
use lib.ListN.{take, drop}
use lib.Seq.{take-nil}
use borrow.Author.Tests.{eq-eqb, ne_eqb, eqb-true, le-leb, lt-leb, ltb-true, ltb-false}
use Rattle.std.specs.Prelude.{if◌then◌else◌}
use Rattle.rules.specs.Base.{contains, concat_map}
use Rattle.rules.specs.Form.{Node, Name, Form, read_form}
use Rattle.rules.specs.Tree.{Named, Tree, zeros, short_of, named_of, named_by, flag_of, argument_of, tree_of}
use Rattle.rules.specs.Accept.{accepted, Accepted, trees_from, check_form, short_names, letters_for, letters_of}
use Rattle.rules.proofs.Acceptance.{if_some, bind_some, trees_step, accepted_passed}
use Rattle.rules.proofs.LetterLaws.{SameLetters}
use Rattle.form_codes.specs.Codes.{names_from, named_at}
use Rattle.rules.proofs.ContainsLaws.{contains_append}
use Rattle.form_codes.proofs.NameCodes.{named_at_lem}
use Rattle.form_letters.specs.Classes.{names_record}
use Rattle.form_letters.specs.Letters.{letters_from, letters_by_name}

-- ---- the records of one node

module _ (area : List ℕ) where
  nothing_wanted : (k : ℕ) (ms : List Name) → letters_from area (λ _. false) k ms ≡ []
  unfolding letters_from
  nothing_wanted k [] = refl
  nothing_wanted k (m ∷ ms) = nothing_wanted (suc k) ms

  module _ (p q : ℕ) where
    abbrev here : ℕ → Bool
    here k = leb p k && ltb k (p + q)

    -- from the first record of the node on
    from_first : (k : ℕ) (ms : List Name) → p ≤ k → letters_from area here k ms ≡ concat_map (short_of area) (take (p + q - k) ms)
    unfolding letters_from concat_map
    from_first k [] h = rw (take-nil {A = Name} (p + q - k))
    from_first k (m ∷ ms) h = go (from_first (suc k) ms (omega arith)) (ltb k (p + q)) refl
      where
        go :
            letters_from area here (suc k) ms ≡ concat_map (short_of area) (take (p + q - suc k) ms)
            → (t : Bool)
            → ltb k (p + q) ≡ t
            → letters_from area here k (m ∷ ms) ≡ concat_map (short_of area) (take (p + q - k) (m ∷ ms))
        go rest true e =
            let g = ltb-true k (p + q) e in
            let more : p + q - k ≡ suc (p + q - suc k) = omega arith in
            rw (more, le-leb p k h, e, rest)
        go rest false e =
            let g = ltb-false k (p + q) e in
            let last : p + q - k ≡ 0 = omega arith in
            let past : p + q - suc k ≡ 0 = omega arith in
            rw (last, le-leb p k h, e, rest, past)

    -- d records before the first are passed over
    before_first : (d k : ℕ) (ms : List Name) → p ≡ k + d → letters_from area here k ms ≡ concat_map (short_of area) (take q (drop d ms))
    unfolding letters_from concat_map
    before_first zero k ms h =
        let all : p + q - k ≡ q = omega arith in
        from_first k ms (omega arith) ∙ ap (λ (n : ℕ). concat_map (short_of area) (take n ms)) all
    before_first (suc d) k [] h = rw (take-nil {A = Name} q)
    before_first (suc d) k (m ∷ ms) h = rw (lt-leb p k (omega arith)) (before_first d (suc k) ms (omega arith))

  -- a record that one or the other wants
  either : (a b s x y : Bool) → ((a || b) && s || (x || y)) ≡ ((a && s || x) || (b && s || y))
  either true b true x y = refl
  either true true false x y = refl
  either true false false x y = refl
  either false true true true y = refl
  either false true true false y = refl
  either false true false x y = refl
  either false false s x y = refl

  letter_wanted : (c : ℕ) (t : Bool) (m : Name) (l : List ℕ) → contains ((if t then short_of area m else []) ++ l) c ≡ (t && contains (short_of area m) c || contains l c)
  letter_wanted c true m l = contains_append (short_of area m) l c
  letter_wanted c false m l = refl

  wanted_by_either :
      (c : ℕ) (v w : ℕ → Bool) (k : ℕ) (ms : List Name)
      → contains (letters_from area (λ j. v j || w j) k ms) c ≡ (contains (letters_from area v k ms) c || contains (letters_from area w k ms) c)
  unfolding letters_from contains
  wanted_by_either c v w k [] = refl
  wanted_by_either c v w k (m ∷ ms) =
      let x = letters_from area v (suc k) ms in
      let y = letters_from area w (suc k) ms in
      letter_wanted c (v k || w k) m (letters_from area (λ j. v j || w j) (suc k) ms)
      ∙ rw (wanted_by_either c v w (suc k) ms) (either (v k) (w k) (contains (short_of area m) c) (contains x c) (contains y c))
      ∙ ap₂ (λ (a b : Bool). a || b) (sym (letter_wanted c (v k) m x)) (sym (letter_wanted c (w k) m y))

-- ---- all nodes

-- an accepted flag or argument has names
has_names :
    (f : Form) (below : List Tree) (x : Node) (t : Tree)
    → tree_of f below x ≡ some t
    → (x.kind ≡ 1) ⊎ (x.kind ≡ 2)
    → (n : Named) × (named_of f x ≡ some n)
unfolding tree_of flag_of argument_of
has_names f below x t e (inl k) =
    let r = if_some (leb x.r 1 && zeros (x.lo ∷ x.hi ∷ [])) _ (rw (eq-eqb x.kind 1 k) at e) in
    let n = bind_some (named_of f x) _ r.1 in
    (n.0, n.1)
has_names f below x t e (inr k) =
    let r = if_some (leb x.r 3 && zeros (x.lo ∷ x.hi ∷ [])) _ (rw (ne_eqb x.kind 1 (λ h. omega arith), eq-eqb x.kind 2 k) at e) in
    let n = bind_some (named_of f x) _ r.1 in
    (n.0, n.1)

module _ (b : List ℕ) (kind : ℕ) (known : (kind ≡ 1) ⊎ (kind ≡ 2)) (c : ℕ) where
  abbrev f : Form
  f = read_form b

  abbrev own : Node → ℕ → Bool
  own x k = eqb x.kind kind && leb x.p k && ltb k (x.p + x.q)

  abbrev shorts : Node → List ℕ
  shorts x = if eqb x.kind kind then short_names f x else []

  named_letters : (x : Node) (n : Named) → named_of f x ≡ some n → concat_map (short_of f.area) (take x.q (drop x.p f.names)) ≡ short_names f x
  unfolding short_names named_at names_from named_by
  named_letters x n e = rw (e, short_names) (ap (λ (m : Named). m.shorts) (sym (named_at_lem b x n e).0))

  -- the records of one node, and its short names
  node_letters : (below : List Tree) (x : Node) (t : Tree) → tree_of f below x ≡ some t → letters_from f.area (own x) 0 f.names ≡ shorts x
  node_letters below x t e = go (eqb x.kind kind) refl
    where
      go : (u : Bool) → eqb x.kind kind ≡ u
          → letters_from f.area (λ k. u && leb x.p k && ltb k (x.p + x.q)) 0 f.names ≡ (if u then short_names f x else [])
      go false h = nothing_wanted f.area 0 f.names
      go true h =
          let named = has_names f below x t e (subst (λ (k : ℕ). (k ≡ 1) ⊎ (k ≡ 2)) (sym (eqb-true x.kind kind h)) known) in
          before_first f.area x.p x.q x.p 0 f.names (omega arith) ∙ named_letters x named.0 named.1

  nodes_letters :
      (below : List Tree) (xs : List Node) (ts : List Tree)
      → trees_from f below xs ≡ accepted ts
      → contains (letters_from f.area (names_record xs kind) 0 f.names) c ≡ contains (concat_map shorts xs) c
  unfolding names_record concat_map
  nodes_letters below [] ts e = rw (nothing_wanted f.area 0 f.names)
  nodes_letters below (x ∷ xs) ts e =
      let (t, h, g) = trees_step f below x xs ts e in
      wanted_by_either f.area c (own x) (names_record xs kind) 0 f.names
      ∙ rw (node_letters below x t h, nodes_letters (below ++ (t ∷ [])) xs ts g) (sym (contains_append (shorts x) (concat_map shorts xs) c))

pub same_letters :
    (b : List ℕ) (a : Accepted)
    → check_form b ≡ accepted a
    → SameLetters (record { flags = letters_by_name (read_form b) 1; arguments = letters_by_name (read_form b) 2 }) (letters_of (read_form b))
unfolding letters_of letters_for
same_letters b a e =
    let p = accepted_passed b a e in
    record {
      flags = λ c. nodes_letters b 1 (inl refl) c [] (read_form b).nodes a.trees p.trees;
      arguments = λ c. nodes_letters b 2 (inr refl) c [] (read_form b).nodes a.trees p.trees;
    }
