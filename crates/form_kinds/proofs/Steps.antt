-- The steps of the functions that test a node's numbers and names.
use mathlib.Core.Bool.{Bool, true, false, ◌&&◌}
use mathlib.Core.List.{List, [], ◌∷◌}
use mathlib.Core.Option.{some, none, none-ne-some, some-injective}
use mathlib.Core.Path.{◌≡◌, refl, sym, ◌∙◌, ap}
use Prim.Native.Nat.{ℕ, zero, suc, ◌+◌, ◌-◌, ◌≤◌, ◌<◌}
use native.Mathlib.Omega.{arith}
use lib.Dec.{leb, eqb}
use lib.ListN.{length, take, drop, get_elem?, length-drop}
use lib.Seq.{length-take-le}
use borrow.Author.Tests.{eq-eqb, ne_eqb, le-leb, lt-leb, eqb-true, eqb-false}
use Rattle.std.specs.Prelude.{if◌then◌else◌}
use Rattle.rules.specs.Base.{all, null, is_some, ◌>>?◌, slice}
use Rattle.rules.specs.Form.{Node, Name, name_count, read_form}
use Rattle.rules.specs.Tree.{names_of}
use Rattle.form_names.specs.declared.Name as names
use Rattle.form_names.specs.Names.{name_of}
use Rattle.form_layout.proofs.Sizes.{names_length}
use Rattle.form_kinds.specs.Kinds.{text_name}

-- ---- a number that is not used
pub eqb_flip : (n : ℕ) → eqb n 0 ≡ (eqb 0 n && true)
eqb_flip n = go (eqb n 0) refl
  where
    go : (t : Bool) → eqb n 0 ≡ t → t ≡ (eqb 0 n && true)
    go true e = rw (eq-eqb 0 n (sym (eqb-true n 0 e)))
    go false e = rw (ne_eqb 0 n (λ z. eqb-false n 0 e (sym z)))

-- ---- lookups
pub lookup_none : {A : Type 0} (l : List A) (k : ℕ) → length l ≤ k → get_elem? l k ≡ none
lookup_none [] k h = refl
lookup_none (a ∷ l) zero h = absurd (omega arith)
lookup_none (a ∷ l) (suc k) h = lookup_none l k (omega arith)

pub drop_there : {A : Type 0} (l : List A) (k : ℕ) (a : A) → get_elem? l k ≡ some a → drop k l ≡ a ∷ drop (suc k) l
drop_there [] k a e = absurd (none-ne-some a e)
drop_there (b ∷ l) zero a e = ap (λ (x : _). x ∷ l) (some-injective b a e)
drop_there (b ∷ l) (suc k) a e = drop_there l k a e

-- ---- a text's name
module _ (b : List ℕ) (k : ℕ) where
  pub text_outside : (n : ℕ) → n ≡ name_count b → n ≤ k → false ≡ text_name (read_form b) k
  unfolding text_name
  text_outside n e h = rw (lookup_none (read_form b).names k (omega (arith, names_length b)), text_name)

  pub text_there : (m : names.Name) → get_elem? (read_form b).names k ≡ some (name_of m) → eqb m.kind 2 ≡ text_name (read_form b) k
  unfolding text_name
  text_there m e = rw (e, text_name)

-- ---- names that a node has
abbrev short_long : List Name → Bool
short_long l = all (λ (m : Name). leb m.type 1) l

abbrev ns : List ℕ → List Name
ns b = (read_form b).names

module _ (b : List ℕ) (x : Node) where
  pub names_none : x.q ≡ 0 → false ≡ is_some (names_of (read_form b) x)
  unfolding names_of slice ◌>>?◌ is_some null
  names_none e = go (leb x.p (x.p + x.q) && leb (x.p + x.q) (length (ns b))) refl
    where
      go : (t : Bool) → (leb x.p (x.p + x.q) && leb (x.p + x.q) (length (ns b))) ≡ t → false ≡ is_some (names_of (read_form b) x)
      go false z = rw z
      go true z = let w : x.p + x.q - x.p ≡ 0 = omega arith in rw (z, w)

  pub names_outside : (n : ℕ) → n ≡ name_count b → n < x.p + x.q → false ≡ is_some (names_of (read_form b) x)
  unfolding names_of slice ◌>>?◌ is_some
  names_outside n e h =
      rw (le-leb x.p (x.p + x.q) (omega arith), lt-leb (x.p + x.q) (length (ns b)) (omega (arith, names_length b)))

null_length : (s : List Name) → (length s ≡ 0 → ⊥) → null s ≡ false
unfolding null
null_length [] z = absurd (z refl)
null_length (a ∷ s) z = refl

some_if : (t : Bool) (l : List Name) → is_some (if t then some l else none) ≡ t
unfolding is_some
some_if true l = refl
some_if false l = refl

module _ (b : List ℕ) (x : Node) (h : x.p + x.q ≤ length (ns b)) (k : x.q ≡ 0 → ⊥) where
  some_null : null (take x.q (drop x.p (ns b))) ≡ false
  some_null =
      null_length (take x.q (drop x.p (ns b)))
      (λ z. k (sym (length-take-le x.q (drop x.p (ns b)) (omega (arith, length-drop x.p (ns b)))) ∙ z))

  names_inside : is_some (names_of (read_form b) x) ≡ short_long (take x.q (drop x.p (ns b)))
  unfolding names_of slice ◌>>?◌
  names_inside =
      let w : x.p + x.q - x.p ≡ x.q = omega arith in
      rw (le-leb x.p (x.p + x.q) (omega arith), le-leb (x.p + x.q) (length (ns b)) h, w, some_null)
      (some_if (short_long (take x.q (drop x.p (ns b)))) (take x.q (drop x.p (ns b))))

-- the names from i on are as good as all
pub record Typed (b : List ℕ) (p q i : ℕ) : Type 0 where
  pub more : q ≡ 0 → ⊥
  pub inside : p + q ≤ length (ns b)
  pub same : short_long (take q (drop p (ns b))) ≡ short_long (take (q - i) (drop (p + i) (ns b)))

pub typed_first : (b : List ℕ) (p q n : ℕ) → n ≡ name_count b → (q ≡ 0 → ⊥) → q ≤ n → p ≤ n - q → Typed b p q 0
typed_first b p q n e k l m =
    let h : p + q ≤ length (ns b) = omega (arith, names_length b) in
    let a : q - 0 ≡ q = omega arith in
    let z : p + 0 ≡ p = omega arith in
    record { more = k; inside = h; same = rw (a, z) }

module _ (b : List ℕ) (p q i : ℕ) (t : Typed b p q i) (l : i < q) (m : names.Name) (e : get_elem? (read_form b).names (p + i) ≡ some (name_of m)) where
  typed_step : short_long (take q (drop p (ns b))) ≡ (leb m.kind 1 && short_long (take (q - (i + 1)) (drop (p + (i + 1)) (ns b))))
  unfolding all
  typed_step =
      let s : q - i ≡ suc (q - (i + 1)) = omega arith in
      let n : suc (p + i) ≡ p + (i + 1) = omega arith in
      t.same ∙ rw (drop_there (ns b) (p + i) (name_of m) e, s, n)

  pub typed_next : m.kind ≤ 1 → Typed b p q (i + 1)
  typed_next h = record { more = t.more; inside = t.inside; same = typed_step ∙ rw (le-leb m.kind 1 h) }

  pub typed_bad : (x : Node) → x.p ≡ p → x.q ≡ q → 1 < m.kind → false ≡ is_some (names_of (read_form b) x)
  typed_bad x ep eq h =
      let in' : x.p + x.q ≤ length (ns b) = omega (arith, t.inside) in
      sym (names_inside b x in' (λ z. t.more (sym eq ∙ z)) ∙ rw (ep, eq) (typed_step ∙ rw (lt-leb m.kind 1 h)))

pub typed_last : (b : List ℕ) (x : Node) (i : ℕ) → Typed b x.p x.q i → x.q ≤ i → true ≡ is_some (names_of (read_form b) x)
unfolding all
typed_last b x i t h =
    let z : x.q - i ≡ 0 = omega arith in
    sym (names_inside b x t.inside t.more ∙ t.same ∙ rw z)
