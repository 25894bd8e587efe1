-- What is known of the rules' report from what a run hands back.
use mathlib.Core.List.{List}
use mathlib.Core.Option.{some, some-injective}
use mathlib.Core.Path.{◌≡◌, refl, sym, ap}
use Prim.Native.Nat.{ℕ}
use native.Mathlib.Omega.{arith}
use lib.ListN.{length}
use Rattle.rules.specs.Outcome.{Outcome, ok, refused, fault}
use Rattle.rules.specs.Run.{Report}
use Rattle.rules.specs.Codes.{place_code}
use Rattle.rules.specs.Calls.{to_raw}
use Rattle.run_fields.specs.declared.RunAnswer.{RunAnswer}
use Rattle.run.specs.Runner.{Ended, run_answer}

pub record RunTold (o : Outcome Report) (r : RunAnswer) (is os ls : List ℕ) : Type 0 where
  pub report : Report
  pub same : o ≡ ok report
  pub number : r.number ≡ report.number
  pub place : r.place ≡ place_code report.place
  pub tries : r.tries ≡ report.tries
  pub words : r.words ≡ length report.words
  pub state : r.state ≡ to_raw report.state
  pub items : report.items ≡ is
  pub answers : report.answers ≡ os
  pub list : report.list ≡ ls

pub run_told : (o : Outcome Report) (r : RunAnswer) (is os ls : List ℕ)
    → run_answer o ≡ some (record { answer = r; items = is; answers = os; list = ls }) → RunTold o r is os ls
unfolding run_answer
run_told (refused e) r is os ls h = absurd (let z : ◌≡◌ {A = ℕ} 0 1 = cc in omega arith)
run_told (fault e) r is os ls h = absurd (let z : ◌≡◌ {A = ℕ} 0 1 = cc in omega arith)
run_told (ok x) r is os ls h =
    let e = some-injective _ _ h in
    record {
      report = x;
      same = refl;
      number = sym (ap (λ (z : Ended). z.answer.number) e);
      place = sym (ap (λ (z : Ended). z.answer.place) e);
      tries = sym (ap (λ (z : Ended). z.answer.tries) e);
      words = sym (ap (λ (z : Ended). z.answer.words) e);
      state = sym (ap (λ (z : Ended). z.answer.state) e);
      items = ap (λ (z : Ended). z.items) e;
      answers = ap (λ (z : Ended). z.answers) e;
      list = ap (λ (z : Ended). z.list) e;
    }
