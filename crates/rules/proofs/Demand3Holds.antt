-- Demand 3: one theorem over every accepted form and every sheet that splits.
use mathlib.Core.List.{List, [], ◌∷◌}
use mathlib.Core.Logic.{⊎_elim}
use mathlib.Core.Option.{none}
use mathlib.Core.Path.{◌≡◌, sym, ap, ◌∙◌}
use Prim.Native.Nat.{ℕ, ◌≤◌}
use lib.ListN.{length}
use Rattle.rules.specs.Outcome.{ok, ◌>>=◌}
use Rattle.rules.specs.Sheet.{sheet_fault, arguments}
use Rattle.rules.specs.Accept.{Accepted, accepted, check_form}
use Rattle.rules.specs.Value.{BaseValue}
use Rattle.rules.specs.Eval.{Visit, states_of}
use Rattle.rules.specs.Run.{Line, split, run_line, too_many, report, run}
use Rattle.rules.specs.Demands.{All, Counted, Bytes, Means, Faultless, WholeRun, Demand3}
use Rattle.rules.specs.WellMade.{SheetMade}
use Rattle.rules.proofs.Acceptance.{accepted_sound}
use Rattle.rules.proofs.SheetLaws.{made_sheet}
use Rattle.rules.proofs.GivenLaws.{run_goes}
use Rattle.rules.proofs.Uses.{leaves_law}
use Rattle.rules.proofs.SplitLaws.{some≢none, LineGood, line_law, split_line}
use Rattle.rules.proofs.Steps.{Visited}
use Rattle.rules.proofs.Went.{all_weaker}
use Rattle.rules.proofs.EvalSound.{Any}
use Rattle.rules.proofs.Fields.{RunsAll, all_sound, all_means}
use Rattle.rules.proofs.Meanings.{line_meaning, accepted_mean}
use Rattle.rules.proofs.WordsFix.{words_fix}

-- what the visits of a trace say of its states, and of each evaluation
pub visits_counted : (M : BaseValue → Type 0) (n : ℕ) (l : List Visit) → All (Visited M n) l → All Counted (states_of l)
unfolding states_of
visits_counted M n [] h = tt
visits_counted M n (v ∷ l) h = (h.0.given.counted, (h.0.left.counted, visits_counted M n l h.1))

pub visits_faultless : (M : BaseValue → Type 0) (n : ℕ) (l : List Visit) → All (Visited M n) l → All (λ (v : Visit). Faultless M v.kind v.outcome) l
visits_faultless M n l h = all_weaker (Visited M n) _ l (λ v x. x.faultless) h

-- a line that splitting does not refuse is good
pub line_good : (a : Accepted) (s : List ℕ) (l : Line) → split a.form s ≡ ok l → l.refusal ≡ none → LineGood (arguments s) l
unfolding too_many
line_good a s l e u = ⊎_elim (λ (t : l ≡ too_many). absurd (some≢none (sym (ap (λ (x : Line). x.refusal) t) ∙ u))) (λ g. g) (line_law a.form s l e)

module _ (b s : List ℕ) (a : Accepted) (form : check_form b ≡ accepted a) where
  module _ (l : Line) (splits : split a.form s ≡ ok l) (unrefused : l.refusal ≡ none) where
    -- the run of all fields on the items of the line, whatever base values mean and under what they mean
    pub line_runs : RunsAll Any (length l.items) a.fields l.state (run_line a.fields l)
    unfolding run_line
    line_runs = rw unrefused (all_sound 0 l.items a.fields (accepted_sound b a form) l.state (line_good a s l splits unrefused).good)

    abbrev M : BaseValue → Type 0
    M = Means l.items a.form.names

    few : length l.items ≤ 256
    few = (line_good a s l splits unrefused).few

    line_means : Bytes b → RunsAll M (length l.items) a.fields l.state (run_line a.fields l)
    unfolding run_line
    line_means bytes =
        let means = line_meaning l.items a.form.names few in
        let sound = accepted_sound b a form in
        let fallbacks = accepted_mean l.items b a bytes form in
        rw unrefused (all_means 0 l.items M means a.fields sound fallbacks l.state (line_good a s l splits unrefused).good)

    -- what is reported is this run's
    pub run_reported : (ni na nl : ℕ) → sheet_fault s ≡ 0 → 1792 ≤ ni → 8240 ≤ na → 192 ≤ nl → run b s ni na nl ≡ report ni na nl l (run_line a.fields l)
    unfolding ◌>>=◌
    run_reported ni na nl sheet i o k = run_goes b s ni a form sheet i na nl o k ∙ rw splits

    pub whole_run : Bytes b → sheet_fault s ≡ 0 → WholeRun M b s a l
    whole_run bytes sheet =
        let r = line_means bytes in
        let trace : List Visit = (run_line a.fields l).trace in
        let left = (line_good a s l splits unrefused).remaining unrefused in
        record {
          faultless = visits_faultless M (length l.items) trace r.passed;
          ends = r.ends;
          counted = visits_counted M (length l.items) trace r.passed;
          remaining = left;
          tries = rw (← left, ← leaves_law b a form) r.cost;
          reported = λ ni na nl i o k. run_reported ni na nl sheet i o k;
          values = words_fix l.items a.form.names few a.fields;
        }

  -- F is any form of bytes that the form check accepts, S any sheet
  pub demand3 : Bytes b → SheetMade s → Demand3 b s a
  demand3 bytes sheet =
      let (l, splits) = split_line a.form s in
      record { line = l; splits = splits; whole = λ unrefused. whole_run l splits unrefused bytes (made_sheet s sheet) }
