-- Whether a run left a place over, and what the call hands back.
use Rattle.std.specs.Prelude.{Bool, ◌&&◌, List, ℕ, eqb, ltb, get_or}
use Rattle.std.proofs.Math.Option.{Option, some, none}
use Rattle.rules.specs.Outcome.{Outcome, ok, refused, fault}
use Rattle.rules.specs.Codes.{place_code}
use Rattle.rules.specs.declared.State.{State as Raw}
use Rattle.rules.specs.State.{present}
use Rattle.rules.specs.Why.{reason_code, reason_detail, Explained}
use Rattle.why.specs.declared.WhyAnswer.{WhyAnswer}

-- the run ended in 27, and the place is present
unfoldable pub left_in : ℕ → Raw → ℕ → Bool
left_in number s i = eqb number 27 && (ltb i s.count && (ltb i 256 && present (get_or s.marks i 0)))

abbrev pub unexplained : ℕ → ℕ → WhyAnswer
unexplained number place = record { number = number; place = place; reason = 0; detail = 0 }

-- the answer, and what the three slices hold
pub record WhyEnded : Type 0 where
  pub answer : WhyAnswer
  pub items : List ℕ
  pub answers : List ℕ
  pub list : List ℕ

unfoldable pub answer_for : Explained → WhyAnswer
answer_for x = record {
  number = x.number;
  place = place_code x.place;
  reason = elim x.reason [ none ↦ 0 | some q ↦ reason_code q ];
  detail = elim x.reason [ none ↦ 0 | some q ↦ reason_detail q ];
}

-- a fault has no answer
unfoldable pub why_answer : Outcome Explained → Option WhyEnded
why_answer (ok x) = some (record {
  answer = answer_for x;
  items = x.ran.items;
  answers = x.ran.answers;
  list = x.ran.list;
})
why_answer (refused e) = none
why_answer (fault e) = none
