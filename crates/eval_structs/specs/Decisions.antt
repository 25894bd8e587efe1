-- What the answers of the decisions stand for.
use Rattle.std.specs.Prelude.{◌≡◌, Bool, true, false, List, [], ℕ, eqb}
use Rattle.std.proofs.Math.Option.{Option, some, none}
use Rattle.std.specs.Prelude.{Option as Maybe, Some, None}
use Rattle.std.specs.Prelude.{if◌then◌else◌}
use Rattle.rules.specs.Outcome.{Outcome, ok, refused, fault, at, or_else305, or_else307, refuse, can_catch}
use Rattle.rules.specs.Value.{BaseValue, is_number, Value, base, list_of}
use Rattle.rules.specs.State.{State, Picked, pick_winner}
use Rattle.rules.specs.Eval.{Ran, ended, after, fewer, swallowed, side, value_of, picked}
use Rattle.rules.specs.declared.Refused.{Refused}
use Rattle.eval_error.specs.Refusals.{refused_of, refusal_of}
use Rattle.eval_structs.specs.declared.Counting.{Counting}
use Rattle.eval_structs.specs.declared.Counting.TheVariants.{Counted, Uncounted, Absent, PassedOn}
use Rattle.eval_structs.specs.declared.Fallback.{Fallback}
use Rattle.eval_structs.specs.declared.Fallback.TheVariants.{Child, Own, Refusal as Passed}
use Rattle.eval_structs.specs.declared.Pick.{Pick}
use Rattle.eval_structs.specs.declared.Pick.TheVariants.{First, Second, Winner, Neither}

-- any state with this many places remaining
unfoldable pub with_remaining : ℕ → State
with_remaining n = record { marks = []; remaining = n; current = none; start = 0; end = 0 }

-- ---- `parse_option`
-- what remained after the last counted success
abbrev pub counted_of : Maybe ℕ → Option ℕ
counted_of None = none
counted_of (Some n) = some n

unfoldable pub option_way : ℕ → Bool → ℕ → ℕ → Option ℕ → Counting
option_way number catch given left len =
    if eqb number 0
    then (if fewer left len then Counted else Uncounted)
    else (if swallowed catch (refuse number none) (with_remaining given) (with_remaining left) then Absent else PassedOn)

unfoldable pub some_of : Outcome Value → Outcome (Option Value)
some_of (ok v) = ok (some v)
some_of (refused e) = refused e
some_of (fault x) = fault x

unfoldable pub option_by : Counting → State → Ran Value → Ran (Option Value)
option_by Counted s r = after r (ended (some_of r.outcome) r.state)
option_by Uncounted s r = after r (ended (ok none) r.state)
option_by Absent s r = after r (ended (ok none) s)
option_by PassedOn s r = after r (ended (some_of r.outcome) r.state)

-- ---- "some", by its number
unfoldable pub some_by : ℕ → List Value → State → Ran Value
some_by n vs t = ended (if eqb n 0 then ok (list_of vs) else refused (refuse n none)) t

-- ---- fallback
unfoldable pub fallback_way : ℕ → Fallback
fallback_way number = if eqb number 0 then Child else (if can_catch (refuse number none) then Own else Passed)

unfoldable pub fallback_by : Fallback → BaseValue → State → Ran Value → Ran Value
fallback_by Child v s r = after r (ended r.outcome r.state)
fallback_by Own v s r = after r (ended (ok (base v)) s)
fallback_by Passed v s r = after r (ended r.outcome s)

-- ---- guard, by its number
unfoldable pub guard_by : ℕ → ℕ → State → Outcome Value
guard_by number n s = if eqb number 0 then ok (base (is_number n)) else refused (refuse number s.current)

-- ---- choice
-- how a side ended: with a value, or with a refusal, of which number and place are handed about
abbrev pub EndedBy : Outcome Value → Refused → Type 0
EndedBy (ok v) x = x.number ≡ 0
EndedBy (refused e) x = (refused_of e ≡ x) × (x.number ≡ 0 → ⊥)
EndedBy (fault z) x = ⊥

-- what was missing is forgotten
unfoldable pub forgotten : {A : Type 0} → Outcome A → Outcome A
forgotten (ok a) = ok a
forgotten (refused e) = refused (refusal_of (refused_of e))
forgotten (fault x) = fault x

unfoldable pub pick_by : Pick → State → State → Outcome Picked
pick_by First a b = side true none
pick_by Second a b = side false none
pick_by Winner a b = ok (pick_winner a b)
pick_by (Neither e) a b = refused (refusal_of e)

unfoldable pub chosen_by : Pick → State → Ran Value → Ran Value → Ran Value
chosen_by First s a b = ended (at or_else305 (value_of a.outcome)) a.state
chosen_by Second s a b = ended (at or_else307 (value_of b.outcome)) b.state
chosen_by Winner s a b = picked a b (pick_winner a.state b.state)
chosen_by (Neither e) s a b = ended (refused (refusal_of e)) s

unfoldable pub forgotten_ran : {A : Type 0} → Ran A → Ran A
forgotten_ran r = record { outcome = forgotten r.outcome; state = r.state; tries = r.tries; trace = r.trace }
