-- The numbers that a preview hands back, for what the rules give.
use Rattle.std.specs.Prelude.{List, ◌≡◌, ℕ, ◌≤◌, length, get_or}
use Rattle.std.proofs.Math.Option.{Option, some, none}
use Rattle.rules.specs.Outcome.{Outcome, ok, refused, fault}
use Rattle.rules.specs.Codes.{place_code}
use Rattle.rules.specs.declared.State.{State as Raw}
use Rattle.rules_preview.specs.Preview.{used_between, Previewed}
use Rattle.call_answers.specs.Answers.{Coded, coded_or0}
use Rattle.call_answers.specs.declared.StateAnswer.{StateAnswer}
use Rattle.call_preview.specs.declared.Places.{Places}
use Rattle.call_preview.specs.declared.PreviewAnswer.{PreviewAnswer}

-- at most two places: their number, and each as itself, or 0 where there is none
abbrev pub places_of : List ℕ → Places
places_of l = record { count = length l; lower = get_or l 0 0; upper = get_or l 1 0 }

-- a take's answer, with the places between the marks that were given and those that it left
abbrev pub preview_with : List ℕ → StateAnswer → PreviewAnswer
preview_with before a =
    let l = used_between before a.state.marks in
    record {
      number = a.number;
      place = a.place;
      found = a.found;
      first = a.first;
      second = a.second;
      places = length l;
      lower = get_or l 0 0;
      upper = get_or l 1 0;
      state = a.state;
    }

-- from a preview
unfoldable pub preview_answer_of : {A : Type 0} → (A → Coded) → Outcome (Previewed A) → Option PreviewAnswer
preview_answer_of code (ok p) = some (record {
  number = p.taken.number;
  place = place_code p.taken.place;
  found = (coded_or0 code p.taken.answer).found;
  first = (coded_or0 code p.taken.answer).first;
  second = (coded_or0 code p.taken.answer).second;
  places = length p.places;
  lower = get_or p.places 0 0;
  upper = get_or p.places 1 0;
  state = p.taken.state;
})
preview_answer_of code (refused e) = none
preview_answer_of code (fault x) = none

-- the marks before and those after, of two states
pub record Marks (before after : List ℕ) : Type 0 where
  pub given : length before ≡ 256
  pub left : length after ≡ 256

-- what a take leaves differs from what it was given at two places or fewer
abbrev pub FewUsed : Raw → StateAnswer → Type 0
FewUsed x a = length (used_between x.marks a.state.marks) ≤ 2
