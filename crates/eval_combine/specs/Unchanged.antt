-- What the functions that are handed no marks make: one outcome for every result, whatever left it.
use Rattle.std.specs.Prelude.{Bool, true, false, ℕ, ◌+◌, eqb}
use Rattle.std.specs.Prelude.{if◌then◌else◌}
use Rattle.std.proofs.Math.Option.{none}
use Rattle.rules.specs.Outcome.{combine_with}
use Rattle.rules.specs.declared.Refused.{Refused}
use Rattle.eval_error.specs.Refusals as error
use Rattle.state_marks.specs.declared.Numbers.{Numbers}
use Rattle.eval_structs.specs.declared.Counting.{Counting}
use Rattle.eval_structs.specs.declared.Counting.TheVariants.{Counted, Uncounted, Absent, PassedOn}
use Rattle.eval_structs.specs.declared.Fallback.{Fallback}
use Rattle.eval_structs.specs.declared.Fallback.TheVariants.{Child, Own, Refusal}
use Rattle.eval_structs.specs.Decisions.{option_way, fallback_way}
use Rattle.eval_told.specs.declared.Ran.{Ran}
use Rattle.eval_combine.specs.declared.Optioned.{Optioned}
use Rattle.eval_combine.specs.declared.Chosen.{Chosen}
use Rattle.eval_told.specs.Results.{value_ran, refusal_ran}
use Rattle.eval_combine.specs.Made.{ended_of, won_of}

-- ---- optional
unfoldable pub optional_by : Counting → Numbers → Ran → Optioned
optional_by Counted p ran = record { ran = value_ran ran.tries (ran.len + 1) ran.word ran.numbers; present = true }
optional_by Uncounted p ran = record { ran = value_ran ran.tries (ran.len + 1) ran.word ran.numbers; present = true }
optional_by Absent p ran = record { ran = value_ran ran.tries 1 0 p; present = false }
optional_by PassedOn p ran = record { ran = refusal_ran ran.number ran.place ran.tries ran.numbers; present = false }

unfoldable pub optional_made : Bool → Numbers → Ran → Optioned
optional_made catch p ran =
    optional_by (option_way ran.number catch p.remaining ran.numbers.remaining none) p ran

-- ---- fallback, whose own value is this word
unfoldable pub fallback_by : Fallback → ℕ → Numbers → Ran → Ran
fallback_by Child own p ran = ran
fallback_by Own own p ran = value_ran ran.tries 1 own p
fallback_by Refusal own p ran = refusal_ran ran.number ran.place ran.tries p

unfoldable pub fallback_made : ℕ → Numbers → Ran → Ran
fallback_made own p ran = fallback_by (fallback_way ran.number) own p ran

-- ---- a choice of which one side is missing: the other's value, or both refusals combined
abbrev missing : Refused
missing = record { number = 20; place = 0 }

unfoldable pub combined : Refused → Refused → Refused
combined e f = error.refused_of (combine_with (error.refusal_of e) (error.refusal_of f))

unfoldable pub side_made : Bool → Refused → Numbers → Ran → Chosen
side_made first e p ran =
    if eqb ran.number 0
    then record { ran = won_of (ran.tries + 1) ran; first = first }
    else record { ran = refusal_ran e.number e.place (ran.tries + 1) p; first = false }

unfoldable pub first_made : Numbers → Ran → Chosen
first_made p ran = side_made true (combined (ended_of ran) missing) p ran

unfoldable pub second_made : Numbers → Ran → Chosen
second_made p ran = side_made false (combined missing (ended_of ran)) p ran
