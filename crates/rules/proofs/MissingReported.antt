-- What a run reports with 20: the list of one field, in the state that is handed back.
use mathlib.Core.List.{List, []}
use mathlib.Core.Logic.{◌⊎◌, inl, inr}
use mathlib.Core.Option.{Option, none}
use mathlib.Core.Path.{◌≡◌, refl, sym, ap, ◌∙◌}
use Prim.Native.Nat.{ℕ, ◌≤◌, ◌<◌}
use native.Mathlib.Omega.{arith}
use borrow.Author.Tests.{eq-eqb}
use Rattle.rules.specs.Outcome.{Outcome, ok, refused, fault, is_missing, ◌>>=◌}
use Rattle.rules.specs.Value.{Value, answer_words}
use Rattle.rules.specs.Form.{Form}
use Rattle.rules.specs.Eval.{Ran}
use Rattle.rules.specs.Accept.{Accepted, accepted, check_form}
use Rattle.rules.specs.Run.{Report, report, report_with, split, run_all, run_line, run}
use Rattle.rules.specs.Answered.{FormFault, bad_counts, bad_name, bad_node, bad_field, bad_use, SheetFault, many_arguments, bad_sheet}
use Rattle.rules.specs.Answered.{AtFault, bad_form, sheet_at_fault, short_slice, short_list, many_items, ambiguous_letter, Left, Ready, RunNumber}
use Rattle.rules.specs.Missing.{ListReported}
use Rattle.rules.proofs.Acceptance.{accepted_form}
use Rattle.rules.proofs.WellMadeLaws.{made_accepted}
use Rattle.rules.proofs.SheetLaws.{made_sheet}
use Rattle.rules.proofs.SplitLaws.{ok_injective}
use Rattle.rules.proofs.GivenLaws.{run_goes}
use Rattle.rules.proofs.MissingLaws.{missing_told}
use Rattle.rules.proofs.Demand1Holds.{demand1}

-- what is at fault of the input has a number from 1 to 14
form_range : (b : List ℕ) (n : ℕ) (k : Option ℕ) → FormFault b n k → (0 < n) × (n ≤ 14)
form_range b n k (bad_counts c) = (omega arith, omega arith)
form_range b n k (bad_name i m c a g h) = (omega arith, omega arith)
form_range b n k (bad_node i c a g h) = (omega arith, omega arith)
form_range b n k (bad_field i j c a g h l) = (omega arith, omega arith)
form_range b n k (bad_use i c a g h l m o) = (omega arith, omega arith)

sheet_range : (s : List ℕ) (n : ℕ) → SheetFault s n → (0 < n) × (n ≤ 14)
sheet_range s n (many_arguments c h) = (omega arith, omega arith)
sheet_range s n (bad_sheet c h) = (omega arith, omega arith)

pub fault_range : (b s : List ℕ) (ni na nl n : ℕ) (k : Option ℕ) → AtFault b s ni na nl n k → (0 < n) × (n ≤ 14)
fault_range b s ni na nl n k (bad_form m j x) = form_range b m j x
fault_range b s ni na nl n k (sheet_at_fault m w x) = sheet_range s m x
fault_range b s ni na nl n k (short_slice w m h) = (omega arith, omega arith)
fault_range b s ni na nl n k (short_list w m i o h) = (omega arith, omega arith)
fault_range b s ni na nl n k (many_items x w m i o l p h) = (omega arith, omega arith)
fault_range b s ni na nl n k (ambiguous_letter x j w m i o l p h q) = (omega arith, omega arith)

module _ (b s : List ℕ) (ni na nl : ℕ) (ready : Ready b s ni na nl) (a : Accepted) (form : check_form b ≡ accepted a) where
  abbrev all : Ran (List Value)
  all = run_all 0 ready.line.items a.fields ready.line.state

  splits : split a.form s ≡ ok ready.line
  splits = ap (λ (f : Form). split f s) (accepted_form b a form) ∙ ready.splits

  line_runs : run_line a.fields ready.line ≡ all
  unfolding run_line
  line_runs = rw (ready.unrefused, run_line)

  reports : run b s ni na nl ≡ report ni na nl ready.line all
  unfolding ◌>>=◌
  reports =
      run_goes b s ni a form (made_sheet s ready.sheet) ready.items na nl ready.answers ready.list
      ∙ rw (splits, line_runs)

  list_reported : (r : Report) → run b s ni na nl ≡ ok r → r.number ≡ 20 → ListReported b s nl r
  unfolding report report_with is_missing
  list_reported r e h = go all.outcome refl
    where
      go : (o : Outcome (List Value)) → all.outcome ≡ o → ListReported b s nl r
      go (ok vs) q =
          let told : report ni na nl ready.line all ≡ ok (report_with ni na nl ready.line all 0 none (answer_words vs) []) = rw (q, report) in
          let same = ok_injective (sym e ∙ reports ∙ told) in
          absurd (omega (arith, h, ap (λ (x : Report). x.number) same))
      go (refused d) q =
          let told : report ni na nl ready.line all ≡ ok (report_with ni na nl ready.line all d.number d.place [] d.missing) = rw (q, report) in
          let same = ok_injective (sym e ∙ reports ∙ told) in
          let twenty = eq-eqb d.number 20 (sym (ap (λ (x : Report). x.number) same) ∙ h) in
          record {
            form = a;
            accepts = form;
            line = ready.line;
            splits = splits;
            entries = d.missing;
            of_field = rw (ap (λ (x : Report). x.state) same) ((missing_told.run 0 ready.line.items a.fields ready.line.state d q).listed twenty);
            list = ap (λ (x : Report). x.list) same;
          }
      go (fault x) q =
          let told : report ni na nl ready.line all ≡ fault x = rw (q, report) in
          let bad = sym (reports ∙ told) ∙ e in
          absurd (let z : ◌≡◌ {A = ℕ} 0 1 = cc in omega arith)

pub missing_reported : (b s : List ℕ) (ni na nl : ℕ) (r : Report) → run b s ni na nl ≡ ok r → r.number ≡ 20 → ListReported b s nl r
missing_reported b s ni na nl r e h =
    let d = demand1 b s ni na nl in
    let same = ok_injective (sym e ∙ d.answered) in
    let number : d.report.number ≡ 20 = sym (ap (λ (x : Report). x.number) same) ∙ h in
    go d.number number
  where
    go :
        (Ready b s ni na nl × RunNumber (demand1 b s ni na nl).report.number)
        ⊎ ((Ready b s ni na nl → ⊥) × AtFault b s ni na nl (demand1 b s ni na nl).report.number (demand1 b s ni na nl).report.place × Left b s ni na nl (demand1 b s ni na nl).report)
        → (demand1 b s ni na nl).report.number ≡ 20
        → ListReported b s nl r
    go (inl x) n = let (a, form) = made_accepted b x.0.form in list_reported b s ni na nl x.0 a form r e h
    go (inr x) n = absurd (omega (arith, n, (fault_range b s ni na nl _ _ x.1).1))
