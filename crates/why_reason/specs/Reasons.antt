-- A reason as the code tells it, and what each part of the search asks and tells.
use Rattle.std.specs.Prelude.{true, ◌&&◌, List, ◌≡◌, ℕ, ◌≤◌, ◌<◌, length, get_or}
use Rattle.std.proofs.Math.Option.{some, none}
use Rattle.std.proofs.Math.ListN.{get_elem?}
use Rattle.std.specs.Prelude.{if◌then◌else◌}
use Rattle.rules.specs.Outcome.{ok}
use Rattle.rules.specs.Accept.{Accepted, accepted, check_form}
use Rattle.rules.specs.Split.{Item}
use Rattle.rules.specs.Take.{is_operand}
use Rattle.rules.specs.Why as Rules
use Rattle.rules.specs.Why.{LeftPlace, line_items, reason_code, reason_detail, key_used, unnamed, no_positional, unknown_letter, none_of_these}
use Rattle.rules.specs.Why.{is_name, is_arg_word, used_before, is_unnamed, no_positionals, unknown_in, reason_at}
use Rattle.why_letter.specs.Withdrawn.{LinePlace, CanExplain}
use Rattle.why_reason.specs.declared.Reason.{Reason}
use Rattle.why_reason.specs.declared.ReasonKind.{ReasonKind}
use Rattle.why_reason.specs.declared.ReasonKind.TheVariants.{LostChoice, GivenEarlier, KeyUsed, Unnamed, NoPositional, UnknownLetter, NoneOfThese}

-- ---- a reason, by the number of its kind, and detail
abbrev pub kind_number : ReasonKind → ℕ
kind_number LostChoice = 1
kind_number GivenEarlier = 2
kind_number KeyUsed = 3
kind_number Unnamed = 4
kind_number NoPositional = 5
kind_number UnknownLetter = 6
kind_number NoneOfThese = 7

pub record Tells (q : Rules.Reason) (r : Reason) : Type 0 where
  pub code : reason_code q ≡ kind_number r.kind
  pub detail : reason_detail q ≡ r.detail

-- ---- what is left of the search for an item of each kind
unfoldable pub by_name : LeftPlace → Item → Rules.Reason
by_name x y = if is_unnamed x.form y then unnamed else none_of_these

unfoldable pub by_value : LeftPlace → Rules.Reason
by_value x = if used_before x.marks x.place then key_used else none_of_these

unfoldable pub by_operand : LeftPlace → Item → Rules.Reason
by_operand x y =
    if no_positionals x.form then no_positional else (elim (unknown_in x y) [ some c ↦ unknown_letter c | none ↦ none_of_these ])

-- where no choice was lost and no name given earlier
unfoldable pub by_item : LeftPlace → Item → Rules.Reason
by_item x y =
    if is_arg_word y && used_before x.marks x.place then key_used else
    (if is_unnamed x.form y then unnamed else
    (if is_operand y && no_positionals x.form then no_positional else
    (elim (unknown_in x y) [ some c ↦ unknown_letter c | none ↦ none_of_these ])))

-- ---- marks that are lent
-- those of the place and of the places before it
pub record MarkedUp (x : LeftPlace) (m : List ℕ) (i : ℕ) : Type 0 where
  pub place : x.place ≡ i
  pub same : (k : ℕ) → k ≤ i → get_elem? x.marks k ≡ some (get_or m k 0)

-- a place with the codes of the form's names, and with its marks
pub record CanReason (b codes s words m : List ℕ) (i : ℕ) : Type 0 where
  pub place : CanExplain b codes s words i
  pub long : i < length m

-- a place of a line of an accepted form, and its marks
pub record LeftAt (b s words m : List ℕ) (i : ℕ) : Type 0 where
  pub result : Accepted
  pub accepts : check_form b ≡ accepted result
  pub spot : LeftPlace
  pub line : LinePlace b s words i spot
  pub long : i < length m
  pub few : i < 256

-- ---- what each part of the search tells
pub record NameTold (b s words : List ℕ) (i : ℕ) (r : Reason) : Type 0 where
  pub same : (x : LeftPlace) (y : Item) → LinePlace b s words i x → get_elem? (line_items x) i ≡ some y → is_name y ≡ true → Tells (by_name x y) r

pub record ValueTold (m : List ℕ) (i : ℕ) (r : Reason) : Type 0 where
  pub same : (x : LeftPlace) → MarkedUp x m i → Tells (by_value x) r

pub record OperandTold (b s words : List ℕ) (i : ℕ) (r : Reason) : Type 0 where
  pub same : (x : LeftPlace) (y : Item) → LinePlace b s words i x → get_elem? (line_items x) i ≡ some y → Tells (by_operand x y) r

pub record ItemTold (b s words m : List ℕ) (i : ℕ) (r : Reason) : Type 0 where
  pub same : (x : LeftPlace) (y : Item) → LinePlace b s words i x → MarkedUp x m i → get_elem? (line_items x) i ≡ some y → Tells (by_item x y) r

-- the first reason whose fact holds
pub record FindsReason (b s words m : List ℕ) (i : ℕ) (r : Reason) : Type 0 where
  pub same : (x : LeftPlace) → LinePlace b s words i x → MarkedUp x m i → (q : Rules.Reason) × (reason_at x ≡ ok q) × Tells q r
