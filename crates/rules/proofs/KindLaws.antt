-- Kinds: the kind of a node's value, from the kinds of its children's values.
use mathlib.Core.Bool.{Bool, true, false, ◌&&◌, false≢true, and-eq-true_iff}
use mathlib.Core.List.{List, [], ◌∷◌}
use mathlib.Core.Option.{Option, some, none}
use mathlib.Core.Path.{◌≡◌, refl, sym, ap, ap₂, ◌∙◌}
use Prim.Native.Nat.{ℕ, suc, ◌+◌, ◌*◌, ◌<◌}
use native.Mathlib.Omega.{arith}
use lib.Dec.{eqb}
use lib.ListN.{length}
use borrow.Author.Tests.{eqb-true, eqb-false, eq-eqb, ne_eqb}
use Rattle.std.specs.Prelude.{if◌then◌else◌}
use Rattle.rules.specs.Base.{is_some, ◌>>?◌}
use Rattle.rules.specs.Value.{Base, yes_no, text, number, Kind, one, optional, list, list_of_optional, optional_list, BaseValue, is_number, Value, base, absent, present, list_of}
use Rattle.rules.specs.Value.{base_number, same_base, base_of, is_base, is_optional, is_list, has_kind, size, of_kind, bases_of}
use Rattle.rules.specs.Tree.{optional_kind, list_kind, count_kind, last_kind, shape_of, inner_base, same_kind, choice_kind, base_kind}
use Rattle.rules.specs.Codes.{base_code, kind_code}
use Rattle.rules.specs.Demands.{All}
use Rattle.rules.proofs.Acceptance.{All-append}
use Rattle.rules.proofs.Steps.{inner}

pub bound_some : {A B : Type 0} (x : Option A) (f : A → Option B) → is_some (x >>? f) ≡ true → is_some x ≡ true
unfolding is_some ◌>>?◌
bound_some none f e = e
bound_some (some a) f e = refl

-- ---- a test of every kind, with a repeat and without
abbrev every_base : (Base → Bool) → Bool
every_base p = p yes_no && (p text && p number)

abbrev pub every_kind : (Kind → Bool → Bool) → Bool
every_kind p =
    every_base (λ b. p (one b) true && p (one b) false)
    && (every_base (λ b. p (optional b) true && p (optional b) false)
    && (every_base (λ b. p (list b) true && p (list b) false)
    && (every_base (λ b. p (list_of_optional b) true && p (list_of_optional b) false)
    && every_base (λ b. p (optional_list b) true && p (optional_list b) false))))

either_way : (p : Bool → Bool) → (p true && p false) ≡ true → (r : Bool) → p r ≡ true
either_way p e true = ((and-eq-true_iff (p true) (p false)).0 e).0
either_way p e false = ((and-eq-true_iff (p true) (p false)).0 e).1

every_base_lem : (p : Base → Bool) → every_base p ≡ true → (b : Base) → p b ≡ true
every_base_lem p e yes_no = ((and-eq-true_iff (p yes_no) (p text && p number)).0 e).0
every_base_lem p e text = ((and-eq-true_iff (p text) (p number)).0 ((and-eq-true_iff (p yes_no) (p text && p number)).0 e).1).0
every_base_lem p e number = ((and-eq-true_iff (p text) (p number)).0 ((and-eq-true_iff (p yes_no) (p text && p number)).0 e).1).1

module _ (p : Kind → Bool → Bool) (e : every_kind p ≡ true) where
  -- the bases of one shape
  abbrev shape : (Base → Kind) → Bool
  shape f = every_base (λ b. p (f b) true && p (f b) false)

  of_shape : (f : Base → Kind) → shape f ≡ true → (b : Base) (r : Bool) → p (f b) r ≡ true
  of_shape f h b r = either_way (p (f b)) (every_base_lem (λ b. p (f b) true && p (f b) false) h b) r

  ones : (shape one ≡ true) × ((shape optional && (shape list && (shape list_of_optional && shape optional_list))) ≡ true)
  ones = (and-eq-true_iff (shape one) (shape optional && (shape list && (shape list_of_optional && shape optional_list)))).0 e

  optionals : (shape optional ≡ true) × ((shape list && (shape list_of_optional && shape optional_list)) ≡ true)
  optionals = (and-eq-true_iff (shape optional) (shape list && (shape list_of_optional && shape optional_list))).0 ones.1

  lists : (shape list ≡ true) × ((shape list_of_optional && shape optional_list) ≡ true)
  lists = (and-eq-true_iff (shape list) (shape list_of_optional && shape optional_list)).0 optionals.1

  others : (shape list_of_optional ≡ true) × (shape optional_list ≡ true)
  others = (and-eq-true_iff (shape list_of_optional) (shape optional_list)).0 lists.1

  pub every_kind_lem : (κ : Kind) (r : Bool) → p κ r ≡ true
  every_kind_lem (one b) r = of_shape one ones.0 b r
  every_kind_lem (optional b) r = of_shape optional optionals.0 b r
  every_kind_lem (list b) r = of_shape list lists.0 b r
  every_kind_lem (list_of_optional b) r = of_shape list_of_optional others.0 b r
  every_kind_lem (optional_list b) r = of_shape optional_list others.1 b r

pub kinds_equal : (f g : Kind → Bool → ℕ) → every_kind (λ κ r. eqb (f κ r) (g κ r)) ≡ true → (κ : Kind) (r : Bool) → f κ r ≡ g κ r
kinds_equal f g e κ r = eqb-true (f κ r) (g κ r) (every_kind_lem (λ κ r. eqb (f κ r) (g κ r)) e κ r)

-- ---- the same kind
base_by : ℕ → Base
base_by n = if eqb n 0 then yes_no else (if eqb n 1 then text else number)

base_by_lem : (b : Base) → base_by (base_number b) ≡ b
unfolding base_by base_number
base_by_lem yes_no = refl
base_by_lem text = refl
base_by_lem number = refl

kind_by : ℕ → Base → Kind
kind_by n b =
    if eqb n 0 then one b else
    (if eqb n 1 then optional b else
    (if eqb n 2 then list b else
    (if eqb n 3 then list_of_optional b else optional_list b)))

kind_by_lem : (k : Kind) → kind_by (shape_of k) (inner_base k) ≡ k
unfolding kind_by shape_of inner_base
kind_by_lem (one b) = refl
kind_by_lem (optional b) = refl
kind_by_lem (list b) = refl
kind_by_lem (list_of_optional b) = refl
kind_by_lem (optional_list b) = refl

pub same_base_lem : (a b : Base) → same_base a b ≡ true → a ≡ b
unfolding same_base
same_base_lem a b e = sym (base_by_lem a) ∙ ap base_by (eqb-true (base_number a) (base_number b) e) ∙ base_by_lem b

pub same_kind_lem : (a b : Kind) → same_kind a b ≡ true → a ≡ b
unfolding same_kind
same_kind_lem a b e =
    let p = (and-eq-true_iff (eqb (shape_of a) (shape_of b)) (same_base (inner_base a) (inner_base b))).0 e in
    sym (kind_by_lem a)
    ∙ ap₂ kind_by (eqb-true (shape_of a) (shape_of b) p.0) (same_base_lem (inner_base a) (inner_base b) p.1)
    ∙ kind_by_lem b

pub base_own : (v : BaseValue) → is_base (base_of v) (base v) ≡ true
unfolding is_base same_base
base_own v = eq-eqb (base_number (base_of v)) (base_number (base_of v)) refl

-- ---- the number of a kind
base_small : (b : Base) → base_number b < 3
unfolding base_number
base_small yes_no = omega arith
base_small text = omega arith
base_small number = omega arith

pub base_code_lem : (b : Base) → base_code b ≡ 1 + base_number b
unfolding base_code base_number
base_code_lem yes_no = refl
base_code_lem text = refl
base_code_lem number = refl

-- the code of a kind from its shape and its base
kind_code_lem : (κ : Kind) → kind_code κ ≡ 1 + (3 * shape_of κ + base_number (inner_base κ))
unfolding kind_code shape_of inner_base
kind_code_lem (one b) = omega (arith, base_code_lem b)
kind_code_lem (optional b) = omega (arith, base_code_lem b)
kind_code_lem (list b) = omega (arith, base_code_lem b)
kind_code_lem (list_of_optional b) = omega (arith, base_code_lem b)
kind_code_lem (optional_list b) = omega (arith, base_code_lem b)

pub kind_some : (κ : Kind) → eqb (kind_code κ) 0 ≡ false
kind_some κ = ne_eqb (kind_code κ) 0 (λ e. omega (arith, kind_code_lem κ))

kind_other : (a b : Kind) → (kind_code a ≡ kind_code b → ⊥) → same_kind a b ≡ false
kind_other a b e = go (same_kind a b) refl
  where
    go : (t : Bool) → same_kind a b ≡ t → t ≡ false
    go false k = refl
    go true k = absurd (e (ap kind_code (same_kind_lem a b k)))

pub kind_same : (a b : Kind) → eqb (kind_code a) (kind_code b) ≡ same_kind a b
unfolding same_kind same_base
kind_same a b = go (eqb (kind_code a) (kind_code b)) refl
  where
    go : (t : Bool) → eqb (kind_code a) (kind_code b) ≡ t → t ≡ same_kind a b
    go true e =
        let s = sym (kind_code_lem a) ∙ eqb-true (kind_code a) (kind_code b) e ∙ kind_code_lem b in
        let x : shape_of a ≡ shape_of b = omega (arith, s, base_small (inner_base a), base_small (inner_base b)) in
        let y : base_number (inner_base a) ≡ base_number (inner_base b) = omega (arith, s, base_small (inner_base a), base_small (inner_base b)) in
        rw (eq-eqb (shape_of a) (shape_of b) x, eq-eqb (base_number (inner_base a)) (base_number (inner_base b)) y)
    go false e = sym (kind_other a b (eqb-false (kind_code a) (kind_code b) e))

pub kind_few : (κ : Kind) → kind_code κ < 16
unfolding kind_code
kind_few (one b) = omega (arith, base_code_lem b, base_small b)
kind_few (optional b) = omega (arith, base_code_lem b, base_small b)
kind_few (list b) = omega (arith, base_code_lem b, base_small b)
kind_few (list_of_optional b) = omega (arith, base_code_lem b, base_small b)
kind_few (optional_list b) = omega (arith, base_code_lem b, base_small b)

-- ---- optional
pub absent_kind : (x : Option Kind) → is_some (x >>? optional_kind) ≡ true → of_kind (x >>? optional_kind) absent ≡ true
unfolding is_some ◌>>?◌ optional_kind of_kind has_kind is_optional
absent_kind none e = e
absent_kind (some (one b)) e = refl
absent_kind (some (optional b)) e = e
absent_kind (some (list b)) e = refl
absent_kind (some (list_of_optional b)) e = e
absent_kind (some (optional_list b)) e = e

pub present_kind :
    (x : Option Kind) (v : Value)
    → is_some (x >>? optional_kind) ≡ true
    → of_kind x v ≡ true
    → of_kind (x >>? optional_kind) (present v) ≡ true
unfolding is_some ◌>>?◌ optional_kind of_kind has_kind is_optional
present_kind none v e h = e
present_kind (some (one b)) v e h = h
present_kind (some (optional b)) v e h = e
present_kind (some (list b)) v e h = h
present_kind (some (list_of_optional b)) v e h = e
present_kind (some (optional_list b)) v e h = e

-- ---- repeats
pub list_all : (p : Value → Bool) (vs : List Value) → All (λ v. p v ≡ true) vs → is_list p (list_of vs) ≡ true
unfolding is_list list_of
list_all p [] h = refl
list_all p (v ∷ vs) h = (and-eq-true_iff (p v) (is_list p (list_of vs))).1 (h.0, list_all p vs h.1)

pub list_kind_lem :
    (x : Option Kind) (vs : List Value)
    → is_some (x >>? list_kind) ≡ true
    → All (λ v. of_kind x v ≡ true) vs
    → of_kind (x >>? list_kind) (list_of vs) ≡ true
unfolding is_some ◌>>?◌ list_kind of_kind has_kind
list_kind_lem none vs e h = e
list_kind_lem (some (one b)) vs e h = list_all (is_base b) vs h
list_kind_lem (some (optional b)) vs e h = list_all (is_optional (is_base b)) vs h
list_kind_lem (some (list b)) vs e h = e
list_kind_lem (some (list_of_optional b)) vs e h = e
list_kind_lem (some (optional_list b)) vs e h = e

pub count_kind_lem : (x : Option Kind) (n : ℕ) → is_some (x >>? count_kind) ≡ true → of_kind (x >>? count_kind) (base (is_number n)) ≡ true
unfolding is_some ◌>>?◌ count_kind list_kind of_kind has_kind is_base same_base base_of base_number
count_kind_lem none n e = e
count_kind_lem (some (one b)) n e = refl
count_kind_lem (some (optional b)) n e = refl
count_kind_lem (some (list b)) n e = e
count_kind_lem (some (list_of_optional b)) n e = e
count_kind_lem (some (optional_list b)) n e = e

pub last_kind_lem : (x : Option Kind) → is_some (x >>? last_kind) ≡ true → x >>? last_kind ≡ x
unfolding is_some ◌>>?◌ last_kind list_kind
last_kind_lem none e = absurd (false≢true e)
last_kind_lem (some (one b)) e = refl
last_kind_lem (some (optional b)) e = refl
last_kind_lem (some (list b)) e = absurd (false≢true e)
last_kind_lem (some (list_of_optional b)) e = absurd (false≢true e)
last_kind_lem (some (optional_list b)) e = absurd (false≢true e)

-- ---- choice, fallback and guard
pub choice_kind_lem :
    (x y : Option Kind)
    → is_some (x >>? λ a. y >>? λ b. choice_kind a b) ≡ true
    → ((x >>? λ a. y >>? λ b. choice_kind a b) ≡ x) × (y ≡ x)
unfolding is_some ◌>>?◌ choice_kind
choice_kind_lem none y e = absurd (false≢true e)
choice_kind_lem (some a) none e = absurd (false≢true e)
choice_kind_lem (some a) (some b) e = go (same_kind a b) refl e
  where
    go :
        (t : Bool)
        → same_kind a b ≡ t
        → is_some (if t then some a else none) ≡ true
        → (◌≡◌ {A = Option Kind} (if t then some a else none) (some a)) × (◌≡◌ {A = Option Kind} (some b) (some a))
    go true h e = (refl, ap some (sym (same_kind_lem a b h)))
    go false h e = absurd (false≢true e)

pub base_kind_lem : (b : Base) (x : Option Kind) → is_some (x >>? base_kind b) ≡ true → (x >>? base_kind b ≡ x) × (x ≡ some (one b))
unfolding is_some ◌>>?◌ base_kind
base_kind_lem b none e = absurd (false≢true e)
base_kind_lem b (some k) e = go (same_kind (one b) k) refl e
  where
    go :
        (t : Bool)
        → same_kind (one b) k ≡ t
        → is_some (if t then some k else none) ≡ true
        → (◌≡◌ {A = Option Kind} (if t then some k else none) (some k)) × (◌≡◌ {A = Option Kind} (some k) (some (one b)))
    go true h e = (refl, ap some (sym (same_kind_lem (one b) k h)))
    go false h e = absurd (false≢true e)

pub same_base_kind : (b : Base) → base_kind b (one b) ≡ some (one b)
unfolding base_kind same_kind same_base shape_of inner_base base_number
same_base_kind yes_no = refl
same_base_kind text = refl
same_base_kind number = refl

-- ---- what the elements of a list mean
pub list_bases : (M : BaseValue → Type 0) (vs : List Value) → All (λ v. All M (bases_of v)) vs → All M (bases_of (list_of vs))
unfolding bases_of list_of
list_bases M [] h = tt
list_bases M (v ∷ vs) h = All-append M (bases_of v) (bases_of (list_of vs)) h.0 (list_bases M vs h.1)

-- ---- sizes of lists
pub size_list : (vs : List Value) → size (list_of vs) ≡ length vs
unfolding size list_of
size_list [] = refl
size_list (v ∷ vs) = ap suc (size_list vs)

pub inner_list : (vs : List Value) → size (inner (list_of vs)) ≡ 0
unfolding size list_of
inner_list [] = refl
inner_list (v ∷ vs) = refl
