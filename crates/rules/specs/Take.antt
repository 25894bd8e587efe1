-- The takes: `take_flag`, `take_arg`, `take_positional_word`, `take_cmd`. Each is told the mark of what it uses.
use Rattle.std.specs.Prelude.{Bool, true, false, not, ◌&&◌, ◌||◌, List, [], ◌∷◌, ℕ, suc}
use Rattle.std.proofs.Math.Option.{Option, some, none}
use Rattle.std.specs.Prelude.{if◌then◌else◌}
use Rattle.rules.specs.Base.{contains, same}
use Rattle.rules.specs.Outcome.{Outcome, ok, refused, ◌>>=◌, refuse}
use Rattle.rules.specs.Tree.{Named}
use Rattle.rules.specs.Split.{Item, Short, Long, ArgWord, Word, PosWord}
use Rattle.rules.specs.State.{State, Found, get, find, first, remove, with_current}

-- what a take answers, and the state it leaves
pub record Took (A : Type 0) : Type 0 where
  pub answer : A
  pub state : State

unfoldable pub took : {A : Type 0} → A → State → Outcome (Took A)
took a s = ok (record { answer = a; state = s })

-- `matches_arg`
unfoldable pub contains_name : List (List ℕ) → List ℕ → Bool
contains_name [] n = false
contains_name (m ∷ ms) n = same m n || contains_name ms n

unfoldable pub matches_arg : Named → Bool → Item → Bool
matches_arg m adjacent (Short c a t) = contains m.shorts c && (not adjacent || a)
matches_arg m adjacent (Long n a t) = contains_name m.longs n && (not adjacent || a)
matches_arg m adjacent (ArgWord t) = false
matches_arg m adjacent (Word t) = false
matches_arg m adjacent (PosWord t) = false

-- `take_flag`: whether it was there
unfoldable pub take_flag : ℕ → List Item → Named → State → Outcome (Took Bool)
take_flag mark items m s =
    find items (matches_arg m false) s >>= λ x.
    elim x [ none ↦ took false s | some k ↦ remove mark s k.place >>= λ t. took true t ]

-- a text and its place
pub record Taken : Type 0 where
  pub place : ℕ
  pub text : List ℕ

-- the text of a Word or an ArgWord
unfoldable pub value_text : Option Item → Option (List ℕ)
value_text none = none
value_text (some (Short c a t)) = none
value_text (some (Long n a t)) = none
value_text (some (ArgWord t)) = some t
value_text (some (Word t)) = some t
value_text (some (PosWord t)) = none

-- key and value are used, `current` is the value's place
unfoldable pub take_value : ℕ → State → ℕ → Option (List ℕ) → Outcome (Took (Option Taken))
take_value mark s key none = refused (refuse 22 (some key))
take_value mark s key (some t) =
    remove mark (with_current (some (suc key)) s) key >>= λ u.
    remove mark u (suc key) >>= λ v.
    took (some (record { place = suc key; text = t })) v

-- `take_arg`: the key is the first present match in scope; the next place must be present, in scope, Word or ArgWord, else 22
-- at the key
unfoldable pub take_arg : ℕ → List Item → Named → Bool → State → Outcome (Took (Option Taken))
take_arg mark items m adjacent s =
    find items (matches_arg m adjacent) s >>= λ x.
    elim x [ none ↦ took none s | some k ↦ take_value mark s k.place (value_text (get items s (suc k.place))) ]

-- a word that a positional takes, and whether it is a PosWord
pub record Operand : Type 0 where
  pub place : ℕ
  pub strict : Bool
  pub text : List ℕ

unfoldable pub is_operand : Item → Bool
is_operand (Short c a t) = false
is_operand (Long n a t) = false
is_operand (ArgWord t) = false
is_operand (Word t) = true
is_operand (PosWord t) = true

unfoldable pub is_pos_word : Item → Bool
is_pos_word (Short c a t) = false
is_pos_word (Long n a t) = false
is_pos_word (ArgWord t) = false
is_pos_word (Word t) = false
is_pos_word (PosWord t) = true

unfoldable pub text_of : Item → List ℕ
text_of (Short c a t) = t
text_of (Long n a t) = t
text_of (ArgWord t) = t
text_of (Word t) = t
text_of (PosWord t) = t

unfoldable pub operand : Found → Operand
operand x = record { place = x.place; strict = is_pos_word x.item; text = text_of x.item }

-- `take_positional_word`: the first present Word or PosWord in scope; none is 20
unfoldable pub take_positional_word : ℕ → List Item → State → Outcome (Took (Option Operand))
take_positional_word mark items s =
    find items is_operand s >>= λ x.
    elim x [
      | none ↦ took none s
      | some k ↦ remove mark (with_current (some k.place) s) k.place >>= λ t. took (some (operand k)) t
    ]

-- `take_cmd` compares the text of a Word, of a Short, or of a Long that is not adjacent
unfoldable pub command_text : Item → Option (List ℕ)
command_text (Short c a t) = some t
command_text (Long n a t) = if a then none else some t
command_text (ArgWord t) = none
command_text (Word t) = some t
command_text (PosWord t) = none

unfoldable pub is_command : List ℕ → Option Found → Bool
is_command word none = false
is_command word (some x) = elim (command_text x.item) [ none ↦ false | some t ↦ same t word ]

unfoldable pub take_command : ℕ → State → Option Found → Outcome (Took Bool)
take_command mark s none = took false (with_current none s)
take_command mark s (some x) = remove mark s x.place >>= λ t. took true (with_current (some x.place) t)

-- `take_cmd` looks only at the first present item; refused, it clears `current`
unfoldable pub take_cmd : ℕ → List Item → List ℕ → State → Outcome (Took Bool)
take_cmd mark items word s =
    first items s >>= λ x. take_command mark s (if is_command word x then x else none)
