-- What the run of a batch hands back, for what the rules report.
use Rattle.std.specs.Prelude.{List, ℕ}
use Rattle.std.proofs.Math.Option.{Option, some, none}
use Rattle.rules.specs.Outcome.{Outcome, ok, refused, fault}
use Rattle.rules.specs.Batch.{BatchReport}
use Rattle.rules.specs.declared.Refused.{Refused}

-- the answer, which has no place, and what the four slices hold
pub record BatchEnded : Type 0 where
  pub answer : Refused
  pub records : List ℕ
  pub items : List ℕ
  pub answers : List ℕ
  pub list : List ℕ

-- a fault has no answer
unfoldable pub batch_answer : Outcome BatchReport → Option BatchEnded
batch_answer (ok x) = some (record {
  answer = record { number = x.number; place = 0 };
  records = x.records;
  items = x.items;
  answers = x.answers;
  list = x.list;
})
batch_answer (refused e) = none
batch_answer (fault x) = none
