-- Kinds, values and answer words.
use Rattle.std.specs.Prelude.{Bool, true, false, ◌&&◌, List, [], ◌∷◌, ◌++◌, ℕ, suc, ◌+◌, eqb}
use Rattle.std.proofs.Math.Option.{Option, some, none}
use Rattle.std.specs.Prelude.{if◌then◌else◌}

-- A base value is yes/no, text or number.
pub data Base : Type 0 where
  yes_no text number : Base

-- The kinds that a node can have
pub data Kind : Type 0 where
  one optional list list_of_optional optional_list : Base → Kind

-- Where a text stands: an item, or the name record of a fallback
pub data Text : Type 0 where
  item name : ℕ → Text

pub data BaseValue : Type 0 where
  is_yes : Bool → BaseValue
  is_text : Text → BaseValue
  is_number : ℕ → BaseValue

-- A list is nil, or an element in front of a list.
pub data Value : Type 0 where
  base : BaseValue → Value
  absent : Value
  present : Value → Value
  nil : Value
  cons : Value → Value → Value

unfoldable pub list_of : List Value → Value
list_of [] = nil
list_of (v ∷ vs) = cons v (list_of vs)

-- a number for each base, to compare them
unfoldable pub base_number : Base → ℕ
base_number yes_no = 0
base_number text = 1
base_number number = 2

unfoldable pub same_base : Base → Base → Bool
same_base a b = eqb (base_number a) (base_number b)

unfoldable pub base_of : BaseValue → Base
base_of (is_yes b) = yes_no
base_of (is_text t) = text
base_of (is_number n) = number

-- A value has the shape of a kind. What its numbers and texts mean is said in Demands
unfoldable pub is_base : Base → Value → Bool
is_base b (base v) = same_base b (base_of v)
is_base b absent = false
is_base b (present v) = false
is_base b nil = false
is_base b (cons v w) = false

unfoldable pub is_optional : (Value → Bool) → Value → Bool
is_optional p (base v) = false
is_optional p absent = true
is_optional p (present v) = p v
is_optional p nil = false
is_optional p (cons v w) = false

unfoldable pub is_list : (Value → Bool) → Value → Bool
is_list p (base v) = false
is_list p absent = false
is_list p (present v) = false
is_list p nil = true
is_list p (cons v w) = p v && is_list p w

unfoldable pub has_kind : Kind → Value → Bool
has_kind (one b) v = is_base b v
has_kind (optional b) v = is_optional (is_base b) v
has_kind (list b) v = is_list (is_base b) v
has_kind (list_of_optional b) v = is_list (is_optional (is_base b)) v
has_kind (optional_list b) v = is_optional (is_list (is_base b)) v

-- a node whose children do not fit has no kind, and no value is of it
unfoldable pub of_kind : Option Kind → Value → Bool
of_kind none v = false
of_kind (some k) v = has_kind k v

-- the base values inside a value
unfoldable pub bases_of : Value → List BaseValue
bases_of (base v) = v ∷ []
bases_of absent = []
bases_of (present v) = bases_of v
bases_of nil = []
bases_of (cons v w) = bases_of v ++ bases_of w

-- Answer words: yes 1, no 0; a number itself; text: its item place, or 256 + the name record
unfoldable pub word : BaseValue → ℕ
word (is_yes b) = if b then 1 else 0
word (is_text (item i)) = i
word (is_text (name k)) = 256 + k
word (is_number n) = n

-- the number of elements of a list
unfoldable pub size : Value → ℕ
size (base v) = 0
size absent = 0
size (present v) = 0
size nil = 0
size (cons v w) = suc (size w)

-- absent 0; present 1 then the value; a list: its length, then its elements
unfoldable mutual
  pub words : Value → List ℕ
  words (base v) = word v ∷ []
  words absent = 0 ∷ []
  words (present v) = 1 ∷ words v
  words nil = 0 ∷ []
  words (cons v w) = suc (size w) ∷ (words v ++ elements w)

  pub elements : Value → List ℕ
  elements (base v) = []
  elements absent = []
  elements (present v) = []
  elements nil = []
  elements (cons v w) = words v ++ elements w

-- field values one after the other
unfoldable pub answer_words : List Value → List ℕ
answer_words [] = []
answer_words (v ∷ vs) = words v ++ answer_words vs
