-- Whether a node may be idle, from what its children may, and the answer of the call as numbers.
use Rattle.std.specs.Prelude.{Bool, true, false, ◌&&◌, ◌||◌, List, ℕ, leb, eqb, get_or}
use Rattle.std.proofs.Math.Option.{Option, some, none}
use Rattle.std.specs.Prelude.{if◌then◌else◌}
use Rattle.rules.specs.Outcome.{Outcome, ok, refused, fault}
use Rattle.rules.specs.Form.{Node}
use Rattle.rules.specs.Codes.{place_code}
use Rattle.rules_careful.specs.Idle.{bit_set}
use Rattle.form_idle.specs.declared.IdleAnswer.{IdleAnswer}

-- some, last and guard
unfoldable pub is_by_child : ℕ → Bool
is_by_child kind = eqb kind 6 || (eqb kind 8 || eqb kind 11)

-- a leaf only if it is a switch; a choice by both children, those three by their child; any other may
unfoldable pub idle_by : Node → Bool → Bool → Bool
idle_by x first second =
    if leb x.kind 3 then eqb x.kind 1 && eqb x.r 1 else
    (if eqb x.kind 9 then first || second else
    (if is_by_child x.kind then first else true))

-- kinds 5 to 8
unfoldable pub repeat_by : Node → Bool → Bool
repeat_by x first = leb 5 x.kind && (leb x.kind 8 && first)

-- whether a table has node n as one that may be idle
unfoldable pub said_in : List Bool → ℕ → Bool
said_in table n = get_or table n false

-- a set as bits; refused, it is 0 and the refusal stands beside it. A fault has no answer
abbrev pub idle_answer : Outcome (List ℕ) → Option IdleAnswer
idle_answer (ok ns) = some (record { number = 0; place = 0; nodes = bit_set ns })
idle_answer (refused e) = some (record { number = e.number; place = place_code e.place; nodes = 0 })
idle_answer (fault x) = none
