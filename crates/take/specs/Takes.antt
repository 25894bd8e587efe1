-- What the takes ask for, and what they answer, in the rules' words.
use Rattle.std.specs.Prelude.{Bool, true, false, not, ◌&&◌, List, ◌≡◌, ℕ, suc, ◌≤◌, ◌<◌, ltb, length, get_or}
use Rattle.std.proofs.Math.Option.{Option, some, none}
use Rattle.rules.specs.Outcome.{Outcome, ok, refused, ◌>>=◌, refuse}
use Rattle.rules.specs.Tree.{Named}
use Rattle.rules.specs.Split as rules
use Rattle.rules.specs.State.{present, remove, with_current}
use Rattle.rules.specs.Take.{Took, took, Taken, Operand as RulesOperand, take_flag, take_arg, take_positional_word, take_cmd}
use Rattle.split_arg.specs.declared.Part.{Part}
use Rattle.split_arg.specs.declared.Item.{Item}
use Rattle.split_arg.specs.declared.Item.TheVariants.{Short, Long, ArgWord, Word, PosWord}
use Rattle.state_marks.specs.declared.Numbers.{Numbers}
use Rattle.state_marks.specs.Lent.{state_of}
use Rattle.take_search.specs.Items.{part_bytes}
use Rattle.take_search.specs.States.{LeftState, Items}
use Rattle.take_search.specs.Search.{Passed}
use Rattle.take.specs.declared.Flag.{Flag}
use Rattle.std.specs.Prelude as prelude
use Rattle.std.specs.Prelude.{Some, None, Ok, Err}
use Rattle.take.specs.declared.Word.{Word as TakenWord}
use Rattle.take.specs.declared.NoArgument.{NoArgument}
use Rattle.take.specs.declared.Argument.{Argument}
use Rattle.take.specs.declared.Operand.{Operand}
use Rattle.take.specs.declared.Positional.{Positional}

-- ---- where a search may begin: in scope, and with no present item before it that passes the test
pub record Skips (area words : List ℕ) (test : rules.Item → Bool) (m : List ℕ) (p : Numbers) (from : ℕ) : Type 0 where
  pub order : p.start ≤ from
  pub inside : from ≤ p.end
  pub passed : Passed area words test m p.start from

-- a table of `known` for the places in scope, and a node that it may have
pub record HasBits (table : List ℕ) (p : Numbers) (node : ℕ) : Type 0 where
  pub low : node < 64
  pub long : p.end < length table
  pub few : p.end ≤ 256

-- ---- small pieces
-- `current` as a state holds it: the place plus 1, or 0
abbrev pub set_current : ℕ → Numbers → Numbers
set_current c p = record { count = p.count; remaining = p.remaining; current = c; start = p.start; end = p.end }

-- a place below the end that is present
unfoldable pub free_below : List ℕ → ℕ → ℕ → Bool
free_below m end i = ltb i end && present (get_or m i 0)

abbrev pub text_part : Item → Part
text_part (Short c a t) = t
text_part (Long n a t) = t
text_part (ArgWord t) = t
text_part (Word t) = t
text_part (PosWord t) = t

abbrev pub strict_item : Item → Bool
strict_item (Short c a t) = false
strict_item (Long n a t) = false
strict_item (ArgWord t) = false
strict_item (Word t) = false
strict_item (PosWord t) = true

-- whether `take_cmd` compares the text
abbrev pub compared_item : Item → Bool
compared_item (Short c a t) = true
compared_item (Long n a t) = not a
compared_item (ArgWord t) = false
compared_item (Word t) = true
compared_item (PosWord t) = false

-- ---- key and value are used, one after the other
pub record UsesBoth (mark : ℕ) (m : List ℕ) (p : Numbers) (key : ℕ) (m' : List ℕ) (q : Numbers) : Type 0 where
  pub same : (remove mark (with_current (some (suc key)) (state_of m p)) key >>= λ u. remove mark u (suc key)) ≡ ok (state_of m' q)
  pub left : LeftState m p m' q

-- ---- answers
-- an argument's value as the code has it
abbrev pub Value : Type 0
Value = prelude.Result (prelude.Option TakenWord) NoArgument

abbrev pub value_of : List ℕ → List ℕ → Numbers → Value → Outcome (Took (Option Taken))
value_of area m p (Ok None) = took none (state_of m p)
value_of area m p (Ok (Some w)) = took (some (record { place = w.place; text = part_bytes area w.text })) (state_of m p)
value_of area m p (Err e) = refused (refuse 22 (some e.key))

-- refusal 22
abbrev pub refused_at : ℕ → Numbers → Argument
refused_at key p = record { value = Err (record { key = key }); numbers = p }

-- refused, nothing is changed
abbrev pub ValueUnchanged : List ℕ → Numbers → List ℕ → Numbers → Value → Type 0
ValueUnchanged m p m' q (Ok v) = Unit {0}
ValueUnchanged m p m' q (Err e) = (m' ≡ m) × (q ≡ p)

abbrev pub operand_of : List ℕ → List ℕ → Numbers → prelude.Option Operand → Outcome (Took (Option RulesOperand))
operand_of area m p None = took none (state_of m p)
operand_of area m p (Some w) = took (some (record { place = w.place; strict = w.strict; text = part_bytes area w.text })) (state_of m p)

-- ---- what the takes do, for the items that the words are
pub record TakesFlag (mark : ℕ) (area words : List ℕ) (n : Named) (m : List ℕ) (p : Numbers) (m' : List ℕ) (r : Flag) : Type 0 where
  pub same : (is : List rules.Item) → Items area words p is
      → take_flag mark is n (state_of m p) ≡ took r.found (state_of m' r.numbers)
  pub left : LeftState m p m' r.numbers

pub record TakesArg (mark : ℕ) (area words : List ℕ) (n : Named) (adjacent : Bool) (m : List ℕ) (p : Numbers) (m' : List ℕ) (r : Argument) : Type 0 where
  pub same : (is : List rules.Item) → Items area words p is
      → take_arg mark is n adjacent (state_of m p) ≡ value_of area m' r.numbers r.value
  pub unchanged : ValueUnchanged m p m' r.numbers r.value
  pub left : LeftState m p m' r.numbers

pub record TakesPositional (mark : ℕ) (area words m : List ℕ) (p : Numbers) (m' : List ℕ) (r : Positional) : Type 0 where
  pub same : (is : List rules.Item) → Items area words p is
      → take_positional_word mark is (state_of m p) ≡ operand_of area m' r.numbers r.operand
  pub left : LeftState m p m' r.numbers

pub record TakesCmd (mark : ℕ) (area words word m : List ℕ) (p : Numbers) (m' : List ℕ) (r : Flag) : Type 0 where
  pub same : (is : List rules.Item) → Items area words p is
      → take_cmd mark is word (state_of m p) ≡ took r.found (state_of m' r.numbers)
  pub left : LeftState m p m' r.numbers
