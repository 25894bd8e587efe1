-- What a call with a form is given: the tests that it passes, or the first that it fails.
use Rattle.std.specs.Prelude.{List, ◌≡◌, ℕ, ◌<◌, length}
use Rattle.std.specs.Prelude.{Result, Ok, Err}
use Rattle.rules.specs.Outcome.{Outcome, refused, ◌>>=◌, Refusal}
use Rattle.rules.specs.Accept.{Accepted, accepted, check_form}
use Rattle.rules.specs.Codes.{place_code}
use Rattle.rules.specs.State.{State}
use Rattle.rules.specs.Calls.{form_in, state_in}
use Rattle.rules.specs.Reported.{number_of, place_told}
use Rattle.rules.specs.declared.RefusedAt.{RefusedAt}
use Rattle.rules.specs.declared.State.{State as Raw}
use Rattle.call_table.specs.Given.{items_given, HasState}

-- an accepted form, and a state over the items of the slice, used by its fields
pub record HasForm (form sheet words : List ℕ) (x : Raw) : Type 0 where
  pub result : Accepted
  pub accepts : check_form form ≡ accepted result
  pub state : HasState (length result.fields) sheet words x

-- 1 to 4, then 6, 5, 7, 30 and 29
unfoldable pub given_in : List ℕ → List ℕ → List ℕ → Raw → Outcome State
given_in form sheet words x = form_in form >>= λ a. items_given sheet words >>= λ is. state_in (length a.fields) (length is) x

-- refused under a number, at a place, which plus 1 fits in a word
pub record Refuses (o : Outcome State) (e : RefusedAt) : Type 0 where
  pub refusal : Refusal
  pub same : o ≡ refused refusal
  pub number : number_of e.refusal ≡ refusal.number
  pub place : place_told e.place ≡ place_code refusal.place
  pub small : place_told e.place < 4294967296

abbrev pub Tests : {A : Type 0} → List ℕ → List ℕ → List ℕ → Raw → Result A RefusedAt → Type 0
Tests form sheet words x (Ok a) = HasForm form sheet words x
Tests form sheet words x (Err e) = Refuses (given_in form sheet words x) e
