-- Nodes: the parser that each stands for, and its kind.
use Rattle.std.specs.Prelude.{Bool, true, false, not, ◌&&◌, ◌||◌, List, [], ◌∷◌, ℕ, ◌+◌, ◌%◌, leb, eqb, length}
use Rattle.std.proofs.Math.Option.{Option, some, none}
use Rattle.std.proofs.Math.ListN.{get_elem?}
use Rattle.std.specs.Prelude.{if◌then◌else◌}
use Rattle.rules.specs.Base.{all, null, is_some, ◌>>?◌, contains, concat_map, slice}
use Rattle.rules.specs.Value.{Base, yes_no, text, number, same_base, Kind, one, optional, list, list_of_optional, optional_list, name, BaseValue, is_yes, is_text, is_number, base_of}
use Rattle.rules.specs.Form.{Node, Name, Form, name_bytes, one_character}

-- The Rust's NamedArg: a node's short and long names
pub record Named : Type 0 where
  pub shorts : List ℕ
  pub longs : List (List ℕ)

pub data Position : Type 0 where
  unrestricted strict non_strict : Position

-- The Rust's parser value. A leaf holds its node's number.
pub data Tree : Type 0 where
  -- a switch gives "no" where it is missing; a required flag is refused
  Flag : (node : ℕ) → Named → (switch : Bool) → Tree
  Argument : (node : ℕ) → Named → Base → (adjacent : Bool) → Tree
  Positional : (node : ℕ) → Position → Base → Tree
  Optional Many Some : (catch : Bool) → Tree → Tree
  Count Last : Tree → Tree
  Choice : Tree → Tree → Tree
  Fallback : BaseValue → Tree → Tree
  Guard : (lo hi : ℕ) → Tree → Tree

-- ---- kinds
-- Optional takes a base value or a list of base values
unfoldable pub optional_kind : Kind → Option Kind
optional_kind (one b) = some (optional b)
optional_kind (optional b) = none
optional_kind (list b) = some (optional_list b)
optional_kind (list_of_optional b) = none
optional_kind (optional_list b) = none

-- kinds 5 to 8 take a base or optional base
unfoldable pub list_kind : Kind → Option Kind
list_kind (one b) = some (list b)
list_kind (optional b) = some (list_of_optional b)
list_kind (list b) = none
list_kind (list_of_optional b) = none
list_kind (optional_list b) = none

unfoldable pub count_kind : Kind → Option Kind
count_kind k = list_kind k >>? λ _. some (one number)

unfoldable pub last_kind : Kind → Option Kind
last_kind k = list_kind k >>? λ _. some k

-- a number for each shape of kind, and its base, to compare them
unfoldable pub shape_of : Kind → ℕ
shape_of (one b) = 0
shape_of (optional b) = 1
shape_of (list b) = 2
shape_of (list_of_optional b) = 3
shape_of (optional_list b) = 4

unfoldable pub inner_base : Kind → Base
inner_base (one b) = b
inner_base (optional b) = b
inner_base (list b) = b
inner_base (list_of_optional b) = b
inner_base (optional_list b) = b

unfoldable pub same_kind : Kind → Kind → Bool
same_kind a b = eqb (shape_of a) (shape_of b) && same_base (inner_base a) (inner_base b)

-- the value of a choice is the same for both
unfoldable pub choice_kind : Kind → Kind → Option Kind
choice_kind a b = if same_kind a b then some a else none

-- a fallback takes a base, a guard a number
unfoldable pub base_kind : Base → Kind → Option Kind
base_kind b k = if same_kind (one b) k then some k else none

-- The kind of a node is worked out from the kinds of its children; none where they do not fit
unfoldable pub kind_of : Tree → Option Kind
kind_of (Flag n m s) = some (one yes_no)
kind_of (Argument n m b a) = some (one b)
kind_of (Positional n p b) = some (one b)
kind_of (Optional c t) = kind_of t >>? optional_kind
kind_of (Many c t) = kind_of t >>? list_kind
kind_of (Some c t) = kind_of t >>? list_kind
kind_of (Count t) = kind_of t >>? count_kind
kind_of (Last t) = kind_of t >>? last_kind
kind_of (Choice t u) = kind_of t >>? λ a. kind_of u >>? λ b. choice_kind a b
kind_of (Fallback v t) = kind_of t >>? base_kind (base_of v)
kind_of (Guard l h t) = kind_of t >>? base_kind number

-- a node of kind 5 to 8, here or beneath at any depth
unfoldable pub has_repeat : Tree → Bool
has_repeat (Flag n m s) = false
has_repeat (Argument n m b a) = false
has_repeat (Positional n p b) = false
has_repeat (Optional c t) = has_repeat t
has_repeat (Many c t) = true
has_repeat (Some c t) = true
has_repeat (Count t) = true
has_repeat (Last t) = true
has_repeat (Choice t u) = has_repeat t || has_repeat u
has_repeat (Fallback v t) = has_repeat t
has_repeat (Guard l h t) = has_repeat t

-- ---- the tree of a node, from the trees below it; none where the node is at fault
unfoldable pub zeros : List ℕ → Bool
zeros l = all (eqb 0) l

-- names p.., q of them: one or more, all short or long
unfoldable pub names_of : Form → Node → Option (List Name)
names_of f x =
    slice x.p (x.p + x.q) f.names >>? λ l.
    if not (null l) && all (λ k. leb k.type 1) l then some l else none

unfoldable pub short_of : List ℕ → Name → List ℕ
short_of a k = if eqb k.type 0 then elim (one_character (name_bytes a k)) [ none ↦ [] | some c ↦ c ∷ [] ] else []

unfoldable pub long_of : List ℕ → Name → List (List ℕ)
long_of a k = if eqb k.type 1 then name_bytes a k ∷ [] else []

unfoldable pub named_by : List ℕ → List Name → Named
named_by a l = record { shorts = concat_map (short_of a) l; longs = concat_map (long_of a) l }

unfoldable pub named_of : Form → Node → Option Named
named_of f x = names_of f x >>? λ l. some (named_by f.area l)

-- kinds 1 to 3, as node n
unfoldable pub flag_of : Form → ℕ → Node → Option Tree
flag_of f n x =
    if leb x.r 1 && zeros (x.lo ∷ x.hi ∷ [])
    then (named_of f x >>? λ m. some (Flag n m (eqb x.r 1)))
    else none

unfoldable pub argument_of : Form → ℕ → Node → Option Tree
argument_of f n x =
    if leb x.r 3 && zeros (x.lo ∷ x.hi ∷ [])
    then (named_of f x >>? λ m. some (Argument n m (if leb 2 x.r then number else text) (eqb (x.r % 2) 1)))
    else none

unfoldable pub position_of : ℕ → Position
position_of p = if eqb p 0 then unrestricted else (if eqb p 1 then strict else non_strict)

unfoldable pub positional_of : ℕ → Node → Option Tree
positional_of n x =
    if leb x.p 2 && contains (0 ∷ 2 ∷ []) x.r && zeros (x.q ∷ x.lo ∷ x.hi ∷ [])
    then some (Positional n (position_of x.p) (if eqb x.r 2 then number else text))
    else none

-- the kinds of the children fit, and no repeat is beneath a repeat
unfoldable pub fitting : Tree → Option Tree
fitting t = if is_some (kind_of t) then some t else none

unfoldable pub repeat_of : (Tree → Tree) → Tree → Option Tree
repeat_of make t = if has_repeat t then none else fitting (make t)

-- A yes/no fallback has lo 0 or 1, a text one a name of type 2
unfoldable pub fallback_value : Form → Node → Kind → Option BaseValue
fallback_value f x (one yes_no) = if leb x.lo 1 && zeros (x.r ∷ x.hi ∷ []) then some (is_yes (eqb x.lo 1)) else none
fallback_value f x (one text) =
    get_elem? f.names x.r >>? λ k.
    if eqb k.type 2 && zeros (x.lo ∷ x.hi ∷ []) then some (is_text (name x.r)) else none
fallback_value f x (one number) = if zeros (x.r ∷ x.hi ∷ []) then some (is_number x.lo) else none
fallback_value f x (optional b) = none
fallback_value f x (list b) = none
fallback_value f x (list_of_optional b) = none
fallback_value f x (optional_list b) = none

unfoldable pub fallback_of : Form → Node → Tree → Option Tree
fallback_of f x t = kind_of t >>? λ k. fallback_value f x k >>? λ v. fitting (Fallback v t)

unfoldable pub guard_of : Node → Tree → Option Tree
guard_of x t = if leb x.lo x.hi then fitting (Guard x.lo x.hi t) else none

-- Children have lower numbers than their node: the trees below are all there are. Numbers a node doesn't use are 0
unfoldable pub child_of : List ℕ → List Tree → Node → (Tree → Option Tree) → Option Tree
child_of unused below x make = if zeros (x.q ∷ unused) then (get_elem? below x.p >>? make) else none

unfoldable pub caught_of : List Tree → Node → (Bool → Tree → Option Tree) → Option Tree
caught_of below x make =
    if leb x.r 1 then child_of (x.lo ∷ x.hi ∷ []) below x (make (eqb x.r 1)) else none

unfoldable pub choice_of : List Tree → Node → Option Tree
choice_of below x =
    if zeros (x.r ∷ x.lo ∷ x.hi ∷ [])
    then (get_elem? below x.p >>? λ t. get_elem? below x.q >>? λ u. fitting (Choice t u))
    else none

unfoldable pub tree_of : Form → List Tree → Node → Option Tree
tree_of f below x =
    if eqb x.kind 1 then flag_of f (length below) x else
    (if eqb x.kind 2 then argument_of f (length below) x else
    (if eqb x.kind 3 then positional_of (length below) x else
    (if eqb x.kind 4 then caught_of below x (λ c t. fitting (Optional c t)) else
    (if eqb x.kind 5 then caught_of below x (λ c. repeat_of (Many c)) else
    (if eqb x.kind 6 then caught_of below x (λ c. repeat_of (Some c)) else
    (if eqb x.kind 7 then child_of (x.r ∷ x.lo ∷ x.hi ∷ []) below x (repeat_of Count) else
    (if eqb x.kind 8 then child_of (x.r ∷ x.lo ∷ x.hi ∷ []) below x (repeat_of Last) else
    (if eqb x.kind 9 then choice_of below x else
    (if eqb x.kind 10 then child_of [] below x (fallback_of f x) else
    (if eqb x.kind 11 then child_of (x.r ∷ []) below x (guard_of x) else none))))))))))
