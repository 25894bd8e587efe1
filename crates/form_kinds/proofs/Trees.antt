-- The codes are those of the trees: worked out from the codes of the trees below, the code of a node is its tree's, and 32 where
-- the node has none.
use mathlib.Core.Bool.{Bool, true, false, not, ◌&&◌, ◌||◌}
use mathlib.Core.List.{List, [], ◌∷◌, map}
use mathlib.Core.Option.{Option, some, none}
use mathlib.Core.Path.{◌≡◌, refl, sym, ◌∙◌, ap}
use Prim.Native.Nat.{ℕ, zero, suc, ◌+◌, ◌%◌, ◌<◌}
use native.Mathlib.Omega.{arith}
use lib.Dec.{leb, ltb, eqb}
use lib.ListN.{length, get_or, get_elem?}
use borrow.Author.Tests.{eq-eqb, ne_eqb, le-leb, lt-leb, lt-ltb, le-ltb, eqb-true, eqb-false, leb-true, leb-false}
use Rattle.std.specs.Prelude.{if◌then◌else◌}
use Rattle.rules.specs.Base.{all, contains, is_some, ◌>>?◌}
use Rattle.rules.specs.Value.{yes_no, text, number, base_number, same_base, Kind, one, optional, list, list_of_optional, optional_list, BaseValue, is_yes, is_text, is_number, base_of, name}
use Rattle.rules.specs.Form.{Node, Name, Form}
use Rattle.rules.specs.Codes.{base_code, kind_code}
use Rattle.rules.specs.Tree.{Named, Tree, Flag, Argument, Positional, Optional, Many, Some, Count, Last, Choice, Fallback, Guard, optional_kind, list_kind, count_kind, last_kind, shape_of}
use Rattle.rules.specs.Tree.{inner_base, same_kind, choice_kind, base_kind, kind_of, has_repeat, zeros, names_of, named_by, named_of, flag_of, argument_of, position_of, positional_of}
use Rattle.rules.specs.Tree.{fitting, repeat_of}
use Rattle.rules.specs.Tree.{fallback_value, fallback_of, guard_of, child_of, caught_of, choice_of, tree_of}
use Rattle.rules.proofs.Acceptance.{is_some_lem}
use Rattle.rules.proofs.KindLaws.{kinds_equal, same_kind_lem, kind_some, kind_same, kind_few, base_code_lem, same_base_kind}
use Rattle.form_kinds.specs.Kinds.{named_good, flag_code, argument_code, positional_code, leaf_code, child_good, optional_code, repeat_code, wrap_code, both_code, choice_code, text_name}
use Rattle.form_kinds.specs.Kinds.{fallback_by, fallback_code, guard_by, guard_code, inner_code, child_q}
use Rattle.form_kinds.specs.Known.{ruled}
use Rattle.form_kinds.proofs.Steps.{eqb_flip}

-- ---- the code of a tree
unfoldable pub code_with : Option Kind → Bool → ℕ
code_with none r = 32
code_with (some κ) r = if r then 16 + kind_code κ else kind_code κ

unfoldable pub tree_code : Tree → ℕ
tree_code t = code_with (kind_of t) (has_repeat t)

unfoldable pub code_of : Option Tree → ℕ
code_of none = 32
code_of (some t) = tree_code t

-- ---- each kind, by computing
optional_code_lem : (κ : Kind) (r : Bool) → code_with (optional_kind κ) r ≡ optional_code (code_with (some κ) r)
unfolding code_with kind_code base_code optional_kind optional_code
optional_code_lem = kinds_equal (λ κ r. code_with (optional_kind κ) r) (λ κ r. optional_code (code_with (some κ) r)) refl

list_code : (κ : Kind) (r : Bool) → (if r then 32 else code_with (list_kind κ) true) ≡ repeat_code 6 (code_with (some κ) r)
unfolding code_with kind_code base_code list_kind repeat_code
list_code = kinds_equal (λ κ r. if r then 32 else code_with (list_kind κ) true) (λ κ r. repeat_code 6 (code_with (some κ) r)) refl

count_code : (κ : Kind) (r : Bool) → (if r then 32 else code_with (count_kind κ) true) ≡ repeat_code 7 (code_with (some κ) r)
unfolding code_with kind_code base_code ◌>>?◌ list_kind count_kind repeat_code
count_code = kinds_equal (λ κ r. if r then 32 else code_with (count_kind κ) true) (λ κ r. repeat_code 7 (code_with (some κ) r)) refl

last_code : (κ : Kind) (r : Bool) → (if r then 32 else code_with (last_kind κ) true) ≡ repeat_code 8 (code_with (some κ) r)
unfolding code_with kind_code base_code ◌>>?◌ list_kind last_kind repeat_code
last_code = kinds_equal (λ κ r. if r then 32 else code_with (last_kind κ) true) (λ κ r. repeat_code 8 (code_with (some κ) r)) refl

number_code : (κ : Kind) (r : Bool) → code_with (base_kind number κ) r ≡ (if eqb (code_with (some κ) r % 16) 3 then code_with (some κ) r else 32)
unfolding code_with kind_code base_code shape_of inner_base base_number base_kind same_kind same_base
number_code =
    kinds_equal
    (λ κ r. code_with (base_kind number κ) r)
    (λ κ r. if eqb (code_with (some κ) r % 16) 3 then code_with (some κ) r else 32)
    refl

pub code_part : (κ : Kind) (r : Bool) → code_with (some κ) r % 16 ≡ kind_code κ
unfolding code_with kind_code base_code
code_part = kinds_equal (λ κ r. code_with (some κ) r % 16) (λ κ r. kind_code κ) refl

code_repeat : (κ : Kind) (r : Bool) → leb 16 (code_with (some κ) r) ≡ r
unfolding code_with
code_repeat κ true = le-leb 16 (16 + kind_code κ) (omega arith)
code_repeat κ false = lt-leb 16 (kind_code κ) (omega (arith, kind_few κ))

-- ---- a child's kind, or none
optional_with : (o : Option Kind) (r : Bool) → code_with (o >>? optional_kind) r ≡ optional_code (code_with o r)
unfolding code_with ◌>>?◌ optional_code
optional_with none r = refl
optional_with (some κ) r = optional_code_lem κ r

many_same : (n : ℕ) → leb n 6 ≡ true → (c : ℕ) → repeat_code 6 c ≡ repeat_code n c
unfolding repeat_code
many_same n e c = rw e

list_with : (n : ℕ) → leb n 6 ≡ true → (o : Option Kind) (r : Bool) → (if r then 32 else code_with (o >>? list_kind) true) ≡ repeat_code n (code_with o r)
unfolding code_with ◌>>?◌ repeat_code
list_with n e none true = refl
list_with n e none false = refl
list_with n e (some κ) r = list_code κ r ∙ many_same n e (code_with (some κ) r)

count_with : (o : Option Kind) (r : Bool) → (if r then 32 else code_with (o >>? count_kind) true) ≡ repeat_code 7 (code_with o r)
unfolding code_with ◌>>?◌ repeat_code
count_with none true = refl
count_with none false = refl
count_with (some κ) r = count_code κ r

last_with : (o : Option Kind) (r : Bool) → (if r then 32 else code_with (o >>? last_kind) true) ≡ repeat_code 8 (code_with o r)
unfolding code_with ◌>>?◌ repeat_code
last_with none true = refl
last_with none false = refl
last_with (some κ) r = last_code κ r

number_with : (o : Option Kind) (r : Bool) → code_with (o >>? base_kind number) r ≡ (if eqb (code_with o r % 16) 3 then code_with o r else 32)
unfolding code_with ◌>>?◌
number_with none r = refl
number_with (some κ) r = number_code κ r

both_with :
    (o p : Option Kind) (r s : Bool)
    → code_with (o >>? λ a. p >>? λ b. choice_kind a b) (r || s) ≡ both_code (code_with o r) (code_with p s)
unfolding code_with ◌>>?◌ both_code choice_kind
both_with none p r s = refl
both_with (some a) none r s = rw (code_part a r) (rw (kind_some a))
both_with (some a) (some b) r s = go (same_kind a b) refl
  where
    which : (r : Bool) → a ≡ b → code_with (some a) (r || s) ≡ (if r then code_with (some a) r else code_with (some b) s)
    which true k = refl
    which false k = rw k

    go : (t : Bool) → same_kind a b ≡ t → code_with (choice_kind a b) (r || s) ≡ both_code (code_with (some a) r) (code_with (some b) s)
    go false e = rw (e, code_part a r, code_part b s, kind_some a, kind_same a b, e)
    go true e = rw (e, code_part a r, code_part b s, kind_some a, kind_same a b, e, code_repeat a r) (which r (same_kind_lem a b e))

-- ---- trees
fitting_code : (t : Tree) → code_of (fitting t) ≡ tree_code t
unfolding fitting code_of tree_code code_with is_some
fitting_code t = go (kind_of t) refl
  where
    go : (o : Option Kind) → kind_of t ≡ o → code_of (fitting t) ≡ tree_code t
    go none e = rw e
    go (some κ) e = rw e (ap (λ (o : Option Kind). code_with o (has_repeat t)) e)

repeat_code_lem : (make : Tree → Tree) (t : Tree) → code_of (repeat_of make t) ≡ (if has_repeat t then 32 else tree_code (make t))
unfolding repeat_of code_of
repeat_code_lem make t = go (has_repeat t) refl
  where
    go : (r : Bool) → has_repeat t ≡ r → code_of (repeat_of make t) ≡ (if has_repeat t then 32 else tree_code (make t))
    go true e = rw e
    go false e = rw e (fitting_code (make t))

optional_tree : (b : Bool) (t : Tree) → code_of (fitting (Optional b t)) ≡ optional_code (tree_code t)
unfolding tree_code kind_of has_repeat
optional_tree b t = fitting_code (Optional b t) ∙ optional_with (kind_of t) (has_repeat t)

many_tree : (n : ℕ) → leb n 6 ≡ true → (b : Bool) (t : Tree) → code_of (repeat_of (Many b) t) ≡ repeat_code n (tree_code t)
unfolding tree_code kind_of has_repeat
many_tree n e b t = repeat_code_lem (Many b) t ∙ list_with n e (kind_of t) (has_repeat t)

some_tree : (n : ℕ) → leb n 6 ≡ true → (b : Bool) (t : Tree) → code_of (repeat_of (Some b) t) ≡ repeat_code n (tree_code t)
unfolding tree_code kind_of has_repeat
some_tree n e b t = repeat_code_lem (Some b) t ∙ list_with n e (kind_of t) (has_repeat t)

count_tree : (t : Tree) → code_of (repeat_of Count t) ≡ repeat_code 7 (tree_code t)
unfolding tree_code kind_of has_repeat
count_tree t = repeat_code_lem Count t ∙ count_with (kind_of t) (has_repeat t)

last_tree : (t : Tree) → code_of (repeat_of Last t) ≡ repeat_code 8 (tree_code t)
unfolding tree_code kind_of has_repeat
last_tree t = repeat_code_lem Last t ∙ last_with (kind_of t) (has_repeat t)

choice_tree : (t u : Tree) → code_of (fitting (Choice t u)) ≡ both_code (tree_code t) (tree_code u)
unfolding tree_code kind_of has_repeat
choice_tree t u = fitting_code (Choice t u) ∙ both_with (kind_of t) (kind_of u) (has_repeat t) (has_repeat u)

ltb_not : (a b : ℕ) → ltb a b ≡ not (leb b a)
ltb_not a b = go (leb b a) refl
  where
    go : (t : Bool) → leb b a ≡ t → ltb a b ≡ not t
    go true e = le-ltb a b (leb-true b a e)
    go false e = lt-ltb a b (leb-false b a e)

guard_inner : (l h : ℕ) (t : Tree) → tree_code (Guard l h t) ≡ (if eqb (tree_code t % 16) 3 then tree_code t else 32)
unfolding tree_code kind_of has_repeat
guard_inner l h t = number_with (kind_of t) (has_repeat t)

guard_tree : (x : Node) (t : Tree) → code_of (guard_of x t) ≡ guard_by x.lo x.hi (tree_code t)
unfolding guard_of guard_by code_of
guard_tree x t = go (leb x.lo x.hi) refl
  where
    inner : tree_code (Guard x.lo x.hi t) ≡ (if eqb (tree_code t % 16) 3 then tree_code t else 32)
    inner = guard_inner x.lo x.hi t

    go : (b : Bool) → leb x.lo x.hi ≡ b → code_of (guard_of x t) ≡ guard_by x.lo x.hi (tree_code t)
    go true e = rw (ltb_not x.hi x.lo, e) (fitting_code (Guard x.lo x.hi t) ∙ inner)
    go false e = rw (ltb_not x.hi x.lo, e)

-- ---- fallbacks
same_if : (b : Bool) (n : ℕ) → n ≡ (if b then n else n)
same_if true n = refl
same_if false n = refl

fallback_none : (f : Form) (x : Node) (r : Bool) → 32 ≡ fallback_by f x (code_with none r)
unfolding fallback_by code_with
fallback_none f x r = same_if (zeros (x.r ∷ x.hi ∷ [])) 32

fallback_zero : (f : Form) (x : Node) → fallback_by f x 0 ≡ 32
unfolding fallback_by
fallback_zero f x = sym (same_if (zeros (x.r ∷ x.hi ∷ [])) 32)

guard_none : (lo hi : ℕ) → guard_by lo hi 0 ≡ 32
unfolding guard_by
guard_none lo hi = sym (same_if (ltb hi lo) 32)

optional_none : optional_code 0 ≡ 32
unfolding optional_code
optional_none = refl

repeat_none : (n : ℕ) → repeat_code n 0 ≡ 32
unfolding repeat_code
repeat_none n = refl

none_both : (d : ℕ) → both_code 0 d ≡ 32
unfolding both_code
none_both d = refl

-- a kind on one side only
both_none : (c : ℕ) → both_code c 0 ≡ 32
unfolding both_code
both_none c = go (eqb (c % 16) 0) refl
  where
    go : (t : Bool) → eqb (c % 16) 0 ≡ t → both_code c 0 ≡ 32
    go true e = rw e
    go false e = rw e

flag_one : (n : ℕ) (m : Named) (s : Bool) → tree_code (Flag n m s) ≡ 1
unfolding tree_code kind_of has_repeat code_with kind_code base_code
flag_one n m s = refl

argument_base_lem : (n : ℕ) (m : Named) (t a : Bool) → tree_code (Argument n m (if t then number else text) a) ≡ (if not t then 2 else 3)
unfolding tree_code kind_of has_repeat code_with kind_code base_code
argument_base_lem n m true a = refl
argument_base_lem n m false a = refl

nine : (n : ℕ) → 3 < n → (n ≡ 4 → ⊥) → (n ≡ 5 → ⊥) → (n ≡ 6 → ⊥) → (n ≡ 7 → ⊥) → (n ≡ 8 → ⊥) → 8 < n
nine n h a b c d e = omega arith

module _ (make : BaseValue → Option Tree) (v : BaseValue) (c : ℕ) (m : code_of (make v) ≡ c) where
  yes_case : (l z : Bool) → code_of ((if l && z then some v else none) >>? make) ≡ (if z then (if not l then 32 else c) else 32)
  unfolding ◌>>?◌ code_of
  yes_case true true = m
  yes_case true false = refl
  yes_case false true = refl
  yes_case false false = refl

  text_case : (t z : Bool) → code_of ((if t && z then some v else none) >>? make) ≡ (if z && t then c else 32)
  unfolding ◌>>?◌ code_of
  text_case true true = m
  text_case true false = refl
  text_case false true = refl
  text_case false false = refl

  number_case : (z : Bool) → code_of ((if z then some v else none) >>? make) ≡ (if z then c else 32)
  unfolding ◌>>?◌ code_of
  number_case true = m
  number_case false = refl

none_case : (z : Bool) (c : ℕ) → 32 ≡ (if z && false then c else 32)
none_case true c = refl
none_case false c = refl

module _ (f : Form) (x : Node) (make : BaseValue → Option Tree) where
  text_by :
      (o : Option Name)
      → get_elem? f.names x.r ≡ o
      → (c : ℕ)
      → code_of (make (is_text (name x.r))) ≡ c
      → code_of (fallback_value f x (one text) >>? make) ≡ (if zeros (x.lo ∷ x.hi ∷ []) && text_name f x.r then c else 32)
  unfolding fallback_value text_name code_of ◌>>?◌
  text_by none e c m = rw (e, text_name, ◌>>?◌) (none_case (zeros (x.lo ∷ x.hi ∷ [])) c)
  text_by (some k) e c m = rw (e, text_name, ◌>>?◌) (text_case make (is_text (name x.r)) c m (eqb k.type 2) (zeros (x.lo ∷ x.hi ∷ [])))

  -- no base value
  other_code : (c : ℕ) → 3 < c % 16 → 32 ≡ fallback_by f x c
  unfolding fallback_by
  other_code c h =
      rw (ne_eqb (c % 16) 1 (λ e. omega arith), ne_eqb (c % 16) 2 (λ e. omega arith), ne_eqb (c % 16) 3 (λ e. omega arith))
      (same_if (zeros (x.r ∷ x.hi ∷ [])) 32)

  above : (κ : Kind) (r : Bool) → 3 < kind_code κ → 32 ≡ fallback_by f x (code_with (some κ) r)
  above κ r h = other_code (code_with (some κ) r) (rw (code_part κ r) h)

  value_code :
      (κ : Kind) (r : Bool)
      → ((v : BaseValue) → κ ≡ one (base_of v) → code_of (make v) ≡ code_with (some κ) r)
      → code_of (fallback_value f x κ >>? make) ≡ fallback_by f x (code_with (some κ) r)
  unfolding fallback_value fallback_by code_of kind_code base_code base_of ◌>>?◌
  value_code (one yes_no) r m =
      let v = is_yes (eqb x.lo 1) in
      rw (code_part (one yes_no) r, ltb_not 1 x.lo) (yes_case make v _ (m v refl) (leb x.lo 1) (zeros (x.r ∷ x.hi ∷ [])))
  value_code (one text) r m =
      rw (code_part (one text) r) (text_by (get_elem? f.names x.r) refl _ (m (is_text (name x.r)) refl))
  value_code (one number) r m =
      let v = is_number x.lo in
      rw (code_part (one number) r) (number_case make v _ (m v refl) (zeros (x.r ∷ x.hi ∷ [])))
  value_code (optional b) r m = above (optional b) r (omega (arith, base_code_lem b))
  value_code (list b) r m = above (list b) r (omega (arith, base_code_lem b))
  value_code (list_of_optional b) r m = above (list_of_optional b) r (omega (arith, base_code_lem b))
  value_code (optional_list b) r m = above (optional_list b) r (omega (arith, base_code_lem b))

fallback_made_lem : (v : BaseValue) (t : Tree) → kind_of t ≡ some (one (base_of v)) → code_of (fitting (Fallback v t)) ≡ code_with (some (one (base_of v))) (has_repeat t)
unfolding tree_code kind_of has_repeat ◌>>?◌
fallback_made_lem v t e = fitting_code (Fallback v t) ∙ rw (e, ◌>>?◌, same_base_kind (base_of v))

fallback_tree : (f : Form) (x : Node) (t : Tree) → code_of (fallback_of f x t) ≡ fallback_by f x (tree_code t)
unfolding fallback_of tree_code ◌>>?◌ code_of
fallback_tree f x t = go (kind_of t) refl
  where
    go : (o : Option Kind) → kind_of t ≡ o → code_of (fallback_of f x t) ≡ fallback_by f x (tree_code t)
    go none e = rw (e, ◌>>?◌) (fallback_none f x (has_repeat t))
    go (some κ) e =
        rw (e, ◌>>?◌)
        (value_code f x (λ v. fitting (Fallback v t)) κ (has_repeat t) (λ v k. fallback_made_lem v t (e ∙ ap some k) ∙ ap (λ (κ : Kind). code_with (some κ) (has_repeat t)) (sym k)))

-- ---- children
get_code : (l : List Tree) (p : ℕ) → get_or (map tree_code l) p 0 ≡ elim (get_elem? l p) [ none ↦ 0 | some t ↦ tree_code t ]
get_code [] p = refl
get_code (t ∷ l) zero = refl
get_code (t ∷ l) (suc p) = get_code l p

module _ (below : List Tree) (x : Node) where
  abbrev cs : List ℕ
  cs = map tree_code below

  looked_up :
      (make : Tree → Option Tree) (g : ℕ → ℕ)
      → ((t : Tree) → code_of (make t) ≡ g (tree_code t))
      → g 0 ≡ 32
      → (p : ℕ)
      → code_of (get_elem? below p >>? make) ≡ g (get_or cs p 0)
  unfolding code_of ◌>>?◌
  looked_up make g h z p = go (get_elem? below p) refl
    where
      go : (o : Option Tree) → get_elem? below p ≡ o → code_of (get_elem? below p >>? make) ≡ g (get_or cs p 0)
      go none e = rw (get_code below p, e, ◌>>?◌) (sym z)
      go (some t) e = rw (get_code below p, e, ◌>>?◌) (h t)

  child_code :
      (unused : List ℕ) (make : Tree → Option Tree) (g : ℕ → ℕ)
      → ((t : Tree) → code_of (make t) ≡ g (tree_code t))
      → g 0 ≡ 32
      → code_of (child_of unused below x make) ≡ (if zeros (x.q ∷ unused) then g (get_or cs x.p 0) else 32)
  unfolding child_of code_of
  child_code unused make g h z = go (zeros (x.q ∷ unused)) refl
    where
      go : (b : Bool) → zeros (x.q ∷ unused) ≡ b → code_of (child_of unused below x make) ≡ (if zeros (x.q ∷ unused) then g (get_or cs x.p 0) else 32)
      go true e = rw e (looked_up make g h z x.p)
      go false e = rw e

  caught_code :
      (make : Bool → Tree → Option Tree) (g : ℕ → ℕ)
      → ((b : Bool) (t : Tree) → code_of (make b t) ≡ g (tree_code t))
      → g 0 ≡ 32
      → code_of (caught_of below x make) ≡ (if leb x.r 1 && zeros (x.q ∷ x.lo ∷ x.hi ∷ []) then g (get_or cs x.p 0) else 32)
  unfolding caught_of code_of
  caught_code make g h z = go (leb x.r 1) refl
    where
      go :
          (b : Bool)
          → leb x.r 1 ≡ b
          → code_of (caught_of below x make) ≡ (if leb x.r 1 && zeros (x.q ∷ x.lo ∷ x.hi ∷ []) then g (get_or cs x.p 0) else 32)
      go true e = rw e (child_code (x.lo ∷ x.hi ∷ []) (make (eqb x.r 1)) g (h (eqb x.r 1)) z)
      go false e = rw e

  choice_code_lem : code_of (choice_of below x) ≡ choice_code x (get_or cs x.p 0) (get_or cs x.q 0)
  unfolding choice_of choice_code code_of
  choice_code_lem = go (zeros (x.r ∷ x.lo ∷ x.hi ∷ [])) refl
    where
      second : (t : Tree) → code_of (get_elem? below x.q >>? λ u. fitting (Choice t u)) ≡ both_code (tree_code t) (get_or cs x.q 0)
      second t = looked_up (λ u. fitting (Choice t u)) (both_code (tree_code t)) (choice_tree t) (both_none (tree_code t)) x.q

      go : (b : Bool) → zeros (x.r ∷ x.lo ∷ x.hi ∷ []) ≡ b → code_of (choice_of below x) ≡ choice_code x (get_or cs x.p 0) (get_or cs x.q 0)
      go true e = rw e (looked_up (λ t. get_elem? below x.q >>? λ u. fitting (Choice t u)) (λ c. both_code c (get_or cs x.q 0)) second (none_both (get_or cs x.q 0)) x.p)
      go false e = rw e

-- ---- leaves
module _ {A : Type 0} (N : List Name → A) (G : A → Tree) (c : ℕ) (h : (m : A) → tree_code (G m) ≡ c) where
  named_by_lem : (u z : Bool) (o : Option (List Name)) → code_of (if u && z then ((o >>? λ l. some (N l)) >>? λ m. some (G m)) else none) ≡ (if u && (z && is_some o) then c else 32)
  unfolding code_of ◌>>?◌ is_some
  named_by_lem true true none = refl
  named_by_lem true true (some l) = h (N l)
  named_by_lem true false o = refl
  named_by_lem false z o = refl

flag_leaf : (f : Form) (n : ℕ) (x : Node) → code_of (flag_of f n x) ≡ flag_code f x
unfolding flag_of named_of flag_code named_good
flag_leaf f n x =
    named_by_lem (named_by f.area) (λ m. Flag n m (eqb x.r 1)) 1 (λ m. flag_one n m (eqb x.r 1))
    (leb x.r 1) (zeros (x.lo ∷ x.hi ∷ [])) (names_of f x)

argument_leaf : (f : Form) (n : ℕ) (x : Node) → code_of (argument_of f n x) ≡ argument_code f x
unfolding argument_of named_of argument_code named_good
argument_leaf f n x =
    named_by_lem (named_by f.area) (λ m. Argument n m (if leb 2 x.r then number else text) (eqb (x.r % 2) 1)) (if ltb x.r 2 then 2 else 3)
    (λ m. argument_base_lem n m (leb 2 x.r) (eqb (x.r % 2) 1) ∙ rw (ltb_not x.r 2))
    (leb x.r 3) (zeros (x.lo ∷ x.hi ∷ [])) (names_of f x)

eqb_comm : (m n : ℕ) → eqb m n ≡ eqb n m
eqb_comm m n = go (eqb n m) refl
  where
    go : (t : Bool) → eqb n m ≡ t → eqb m n ≡ t
    go true e = eq-eqb m n (sym (eqb-true n m e))
    go false e = ne_eqb m n (λ z. eqb-false n m e (sym z))

positional_by :
    (n p : ℕ) (u z a b : Bool)
    → (a ≡ true → b ≡ false)
    → code_of (if (u && (a || (b || false))) && z then some (Positional n (position_of p) (if b then number else text)) else none)
    ≡ (if u && z then (if a then 2 else (if b then 3 else 32)) else 32)
unfolding code_of tree_code kind_of has_repeat code_with kind_code base_code
positional_by n p false z a b h = refl
positional_by n p true true true true h = absurd (let e = h refl in let k : ◌≡◌ {A = ℕ} 0 1 = cc in omega arith)
positional_by n p true true true false h = refl
positional_by n p true true false true h = refl
positional_by n p true true false false h = refl
positional_by n p true false true b h = refl
positional_by n p true false false true h = refl
positional_by n p true false false false h = refl

positional_leaf : (n : ℕ) (x : Node) → code_of (positional_of n x) ≡ positional_code x
unfolding positional_of positional_code contains
positional_leaf n x =
    rw (eqb_comm 0 x.r, eqb_comm 2 x.r)
    (positional_by n x.p (leb x.p 2) (zeros (x.q ∷ x.lo ∷ x.hi ∷ [])) (eqb x.r 0) (eqb x.r 2)
    (λ e. ne_eqb x.r 2 (λ k. omega (arith, eqb-true x.r 0 e))))

-- ---- all kinds
module _ (f : Form) (below : List Tree) (x : Node) where
  abbrev Says : Type 0
  Says = code_of (tree_of f below x) ≡ ruled f (map tree_code below) x

  module _ (k : ℕ) (z : x.kind ≡ k) where
    is : (n : ℕ) → eqb x.kind n ≡ eqb k n
    is n = ap (λ (m : ℕ). eqb m n) z

    most : (n : ℕ) → leb x.kind n ≡ leb k n
    most n = ap (λ (m : ℕ). leb m n) z

    over : (n : ℕ) → ltb n x.kind ≡ ltb n k
    over n = ap (ltb n) z

  says_1 : x.kind ≡ 1 → Says
  unfolding tree_of ruled inner_code leaf_code child_q
  says_1 z = rw (is 1 z 1, most 1 z 3) (flag_leaf f (length below) x)

  says_2 : x.kind ≡ 2 → Says
  unfolding tree_of ruled inner_code leaf_code child_q
  says_2 z = rw (is 2 z 1, is 2 z 2, most 2 z 3) (argument_leaf f (length below) x)

  says_3 : x.kind ≡ 3 → Says
  unfolding tree_of ruled inner_code leaf_code child_q
  says_3 z = rw (is 3 z 1, is 3 z 2, is 3 z 3, most 3 z 3) (positional_leaf (length below) x)

  says_4 : x.kind ≡ 4 → Says
  unfolding tree_of ruled inner_code wrap_code child_good child_q
  says_4 z =
      rw (is 4 z 1, is 4 z 2, is 4 z 3, is 4 z 4, most 4 z 3, most 4 z 8, over 4 z 6)
      (caught_code below x (λ c t. fitting (Optional c t)) optional_code optional_tree optional_none)

  says_5 : x.kind ≡ 5 → Says
  unfolding tree_of ruled inner_code wrap_code child_good child_q
  says_5 z =
      rw (is 5 z 1, is 5 z 2, is 5 z 3, is 5 z 4, is 5 z 5, most 5 z 3, most 5 z 8, over 5 z 6)
      (caught_code below x (λ c. repeat_of (Many c)) (repeat_code x.kind) (many_tree x.kind (most 5 z 6)) (repeat_none x.kind))

  says_6 : x.kind ≡ 6 → Says
  unfolding tree_of ruled inner_code wrap_code child_good child_q
  says_6 z =
      rw (is 6 z 1, is 6 z 2, is 6 z 3, is 6 z 4, is 6 z 5, is 6 z 6, most 6 z 3, most 6 z 8, over 6 z 6)
      (caught_code below x (λ c. repeat_of (Some c)) (repeat_code x.kind) (some_tree x.kind (most 6 z 6)) (repeat_none x.kind))

  says_7 : x.kind ≡ 7 → Says
  unfolding tree_of ruled inner_code wrap_code child_good child_q
  says_7 z =
      rw (is 7 z 1, is 7 z 2, is 7 z 3, is 7 z 4, is 7 z 5, is 7 z 6, is 7 z 7, most 7 z 3, most 7 z 8, over 7 z 6)
      (child_code below x (x.r ∷ x.lo ∷ x.hi ∷ []) (repeat_of Count) (repeat_code x.kind) (λ t. count_tree t ∙ ap (λ (n : ℕ). repeat_code n (tree_code t)) (sym z)) (repeat_none x.kind))

  says_8 : x.kind ≡ 8 → Says
  unfolding tree_of ruled inner_code wrap_code child_good child_q
  says_8 z =
      rw (is 8 z 1, is 8 z 2, is 8 z 3, is 8 z 4, is 8 z 5, is 8 z 6, is 8 z 7, is 8 z 8, most 8 z 3, most 8 z 8, over 8 z 6)
      (child_code below x (x.r ∷ x.lo ∷ x.hi ∷ []) (repeat_of Last) (repeat_code x.kind) (λ t. last_tree t ∙ ap (λ (n : ℕ). repeat_code n (tree_code t)) (sym z)) (repeat_none x.kind))

  says_9 : x.kind ≡ 9 → Says
  unfolding tree_of ruled inner_code child_q
  says_9 z =
      rw (is 9 z 1, is 9 z 2, is 9 z 3, is 9 z 4, is 9 z 5, is 9 z 6, is 9 z 7, is 9 z 8, is 9 z 9, most 9 z 3, most 9 z 8)
      (choice_code_lem below x)

  says_10 : x.kind ≡ 10 → Says
  unfolding tree_of ruled inner_code fallback_code child_q zeros all
  says_10 z =
      rw (is 10 z 1, is 10 z 2, is 10 z 3, is 10 z 4, is 10 z 5, is 10 z 6, is 10 z 7, is 10 z 8, is 10 z 9, is 10 z 10, most 10 z 3, most 10 z 8, eqb_flip x.q)
      (child_code below x [] (fallback_of f x) (fallback_by f x) (fallback_tree f x) (fallback_zero f x))

  says_11 : x.kind ≡ 11 → Says
  unfolding tree_of ruled inner_code guard_code child_q
  says_11 z =
      rw (is 11 z 1, is 11 z 2, is 11 z 3, is 11 z 4, is 11 z 5, is 11 z 6, is 11 z 7, is 11 z 8, is 11 z 9, is 11 z 10, is 11 z 11, most 11 z 3, most 11 z 8)
      (child_code below x (x.r ∷ []) (guard_of x) (guard_by x.lo x.hi) (guard_tree x) (guard_none x.lo x.hi))

  is_or : {P : Type 0} (n : ℕ) → (x.kind ≡ n → P) → ((x.kind ≡ n → ⊥) → P) → P
  is_or {P} n then_is else-not = go (eqb x.kind n) refl
    where
      go : (t : Bool) → eqb x.kind n ≡ t → P
      go true e = then_is (eqb-true x.kind n e)
      go false e = else-not (eqb-false x.kind n e)

  abbrev Not : ℕ → Type 0
  Not n = x.kind ≡ n → ⊥

  says_other : Not 1 → Not 2 → Not 3 → Not 4 → Not 5 → Not 6 → Not 7 → Not 8 → Not 9 → Not 10 → Not 11 → Says
  unfolding tree_of ruled inner_code leaf_code code_of
  says_other a b c d e g h i j k l =
      rw (no 1 a, no 2 b, no 3 c, no 4 d, no 5 e, no 6 g, no 7 h, no 8 i, no 9 j, no 10 k, no 11 l) (go (leb x.kind 3) refl)
    where
      no : (n : ℕ) → Not n → eqb x.kind n ≡ false
      no n = ne_eqb x.kind n

      above : 3 < x.kind → 8 < x.kind
      above s = nine x.kind s d e g h i

      go : (t : Bool) → leb x.kind 3 ≡ t → 32 ≡ (if leb x.kind 3 then 32 else (if leb x.kind 8 then wrap_code x (get_or (map tree_code below) x.p 0) else 32))
      go true s = rw s
      go false s = rw (s, lt-leb x.kind 8 (above (leb-false x.kind 3 s)))

  -- the code of a node is its tree's
  pub tree_code_lem : code_of (tree_of f below x) ≡ ruled f (map tree_code below) x
  tree_code_lem =
      is_or 1 says_1 (λ a. is_or 2 says_2 (λ b. is_or 3 says_3 (λ c. is_or 4 says_4 (λ d. is_or 5 says_5 (λ e. is_or 6 says_6
      (λ g. is_or 7 says_7 (λ h. is_or 8 says_8 (λ i. is_or 9 says_9 (λ j. is_or 10 says_10 (λ k. is_or 11 says_11
      (λ l. says_other a b c d e g h i j k l)))))))))))

-- ---- a tree with a kind has a code of its own
pub real_code : (t : Tree) → is_some (kind_of t) ≡ true → tree_code t ≡ 32 → ⊥
unfolding tree_code
real_code t s e =
    let (κ, k) = is_some_lem (kind_of t) s in
    let same : code_with (some κ) (has_repeat t) ≡ 32 = ap (λ (o : Option Kind). code_with o (has_repeat t)) (sym k) ∙ e in
    let part : kind_code κ ≡ 0 = sym (code_part κ (has_repeat t)) ∙ ap (λ (n : ℕ). n % 16) same in
    eqb-false (kind_code κ) 0 (kind_some κ) part
