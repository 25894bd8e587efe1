-- The careful run of a batch is answered where the plain run is, and each record and part is the careful run's.
use mathlib.Core.List.{List}
use mathlib.Core.Logic.{⊎_elim}
use mathlib.Core.Path.{◌≡◌, sym, ap, ◌∙◌}
use Prim.Native.Nat.{ℕ}
use lib.ListN.{length, length-replicate}
use Rattle.rules.specs.Outcome.{Outcome, ok, ◌>>=◌}
use Rattle.rules.specs.Run.{Report, run}
use Rattle.rules_careful.specs.Looks.{Looks}
use Rattle.rules.proofs.SplitLaws.{ok_injective}
use Rattle.rules.proofs.InputFaults.{padded_nil}
use Rattle.rules.proofs.Demand1Holds.{demand1}
use Rattle.rules_careful.proofs.LooksLaws.{accepted_list}
use Rattle.rules_careful.proofs.LooksHold.{looks}
use Rattle.rules_careful.specs.CarefulBatch.{careful_sheet, careful_batch}
use Rattle.rules_careful.specs.CarefulBatchAnswered.{Answers, CarefulBatchAnswered}
use Rattle.rules_careful.proofs.BatchByLaws.{answered_by, number_alike, items_alike, list_alike, refused_alike, plain_by}

-- ---- what the careful run of a sheet leaves as the plain run left it
module _ (form s : List ℕ) where
  abbrev look : Looks form s 1792 8240 192
  look = looks form s 1792 8240 192

  kept_items : look.answer.report.items ≡ look.report.items
  kept_items = ⊎_elim (λ z. (look.misread z).items) (λ z. ap (λ (r : Report). r.items) z.0) look.number

  kept_list : look.answer.report.list ≡ look.report.list
  kept_list =
      ⊎_elim
      (λ z.
      let m = look.misread z in
      m.list ∙ sym (padded_nil 192) ∙ sym (accepted_list form s 1792 8240 192 look.report look.ran m.accepted))
      (λ z. ap (λ (r : Report). r.list) z.0)
      look.number

  as_demanded : (demand1 form s 1792 8240 192).report ≡ look.report
  as_demanded = ok_injective (sym (demand1 form s 1792 8240 192).answered ∙ look.ran)

  answers_long : length look.answer.report.answers ≡ 8240
  answers_long =
      ⊎_elim
      (λ z. ap length (look.misread z).answers ∙ length-replicate {A = ℕ} 8240 0)
      (λ z. ap (λ (r : Report). length r.answers) (z.0 ∙ sym as_demanded) ∙ (demand1 form s 1792 8240 192).answers)
      look.number

  sheet_answered : careful_sheet form s ≡ ok look.answer.report
  unfolding careful_sheet ◌>>=◌
  sheet_answered = rw look.answered

-- ---- the two calls
module _ (form : List ℕ) where
  abbrev plain_sheet : List ℕ → Outcome Report
  plain_sheet s = run form s 1792 8240 192

  abbrev plain_answers : Answers plain_sheet
  plain_answers = record {
    report = λ s. (look form s).report;
    answered = λ s. (look form s).ran;
    items = λ s. ap (λ (r : Report). length r.items) (sym (as_demanded form s)) ∙ (demand1 form s 1792 8240 192).items;
    answers = λ s. ap (λ (r : Report). length r.answers) (sym (as_demanded form s)) ∙ (demand1 form s 1792 8240 192).answers;
    list = λ s. ap (λ (r : Report). length r.list) (sym (as_demanded form s)) ∙ (demand1 form s 1792 8240 192).list;
  }

  abbrev careful_answers : Answers (careful_sheet form)
  careful_answers = record {
    report = λ s. (look form s).answer.report;
    answered = sheet_answered form;
    items = λ s. ap length (kept_items form s) ∙ plain_answers.items s;
    answers = answers_long form;
    list = λ s. ap length (kept_list form s) ∙ plain_answers.list s;
  }

  -- form, batch and lengths are any
  pub careful_batch_answered : (b : List ℕ) (nr ni na nl : ℕ) → CarefulBatchAnswered form b nr ni na nl
  unfolding careful_batch
  careful_batch_answered b nr ni na nl =
      let p = answered_by plain_sheet b nr ni na nl plain_answers in
      let c = answered_by (careful_sheet form) b nr ni na nl careful_answers in
      record {
        plain = p.answer;
        ran = plain_by form b nr ni na nl ∙ p.answered;
        answer = c.answer;
        answered = c.answered;
        number = c.number;
        same = number_alike (careful_sheet form) plain_sheet careful_answers plain_answers b nr ni na nl c.answer p.answer c.answered p.answered;
        items =
            items_alike (careful_sheet form) plain_sheet careful_answers plain_answers b nr ni na nl c.answer p.answer c.answered p.answered
            (kept_items form);
        list =
            list_alike (careful_sheet form) plain_sheet careful_answers plain_answers b nr ni na nl c.answer p.answer c.answered p.answered
            (kept_list form);
        refused =
            refused_alike (careful_sheet form) plain_sheet careful_answers plain_answers b nr ni na nl c.answer p.answer c.answered p.answered;
        cleared = c.cleared;
        sheets = λ z k s h. ((look form s).answer, (look form s).answered, c.sheets z k s h (look form s).answer.report (sheet_answered form s));
        past = c.past;
      }
