-- How a batch ends: slices that were cleared past the parts, and what is reported.
use mathlib.Core.Bool.{Bool, true, false, ◌&&◌}
use mathlib.Core.List.{List, [], ◌++◌}
use mathlib.Core.Option.{some}
use mathlib.Core.Path.{◌≡◌, sym, ap, ◌∙◌}
use Prim.Native.Nat.{ℕ, ◌*◌, ◌≤◌}
use native.Mathlib.Omega.{arith}
use lib.ListN.{length, take, drop}
use lib.Seq.{take-length}
use Rattle.rules.specs.Base.{concat_map}
use Rattle.rules.specs.Outcome.{ok, ◌>>=◌}
use Rattle.rules.specs.Run.{Report, padded}
use Rattle.rules.specs.Batch.{sheet_count, batch_good, batch_sheets, parts_fit, sheets_in, run_sheets, sheet_record, batch_report, run_batch}
use Rattle.rules.specs.BatchAnswered.{Roomy}
use Rattle.rules.proofs.Acceptance.{and-true}
use Rattle.rules.proofs.BatchSteps.{sheets_count}
use Rattle.rules.proofs.BatchLaws.{batch_made, parts_fit_lem}
use Rattle.batch_check.proofs.Sheets.{good_batch}
use Rattle.batch_parts.specs.Parts.{cleared_past}
use Rattle.batch_parts.proofs.Slices.{cleared_long, cleared_rest}
use Rattle.batch_run.specs.Sheets.{BatchFits, HoldsParts, SheetsRan}
use Rattle.batch_run.specs.Told.{batch_answer}

-- ---- slices
-- with no parts all is 0
nothing_kept : (w : ℕ) (o : List ℕ) → cleared_past (w * 0) o ≡ padded (length o) []
unfolding padded
nothing_kept w o = let z : w * 0 ≡ 0 = omega arith in rw z

parts_padded : (w n : ℕ) (words : Report → List ℕ) (rs : List Report) (o o₁ o₂ : List ℕ) → w * n ≤ length o → o₁ ≡ cleared_past (w * n) o
    → HoldsParts w n words rs o₁ o₂ → padded (length o) (concat_map words rs) ≡ o₂
unfolding padded
parts_padded w n words rs o o₁ o₂ h e d =
    let rest = ap (λ (z : List ℕ). drop (w * n) z) e ∙ cleared_rest (w * n) o h in
    rw d.long (sym (d.same ∙ ap (λ (z : List ℕ). concat_map words rs ++ z) rest))

-- ---- what is reported
module _ (form b : List ℕ) (nr ni na nl : ℕ) where
  batch_runs : (rs : List Report) → (batch_good b && parts_fit (sheet_count b) nr ni na nl) ≡ true → run_sheets form (batch_sheets b) ≡ ok rs
      → run_batch form b nr ni na nl ≡ ok (batch_report 0 nr ni na nl rs)
  unfolding run_batch sheets_in ◌>>=◌
  batch_runs rs e h = rw (e, run_batch, h)

  batch_stops : (batch_good b && parts_fit (sheet_count b) nr ni na nl) ≡ false → run_batch form b nr ni na nl ≡ ok (batch_report 15 nr ni na nl [])
  unfolding run_batch sheets_in ◌>>=◌
  batch_stops e = rw (e, run_batch)

-- ---- the batch
module _ (b r i a l : List ℕ) where
  module _ (good : (batch_good b && parts_fit (sheet_count b) (length r) (length i) (length a) (length l)) ≡ true) where
    both : (batch_good b ≡ true) × (parts_fit (sheet_count b) (length r) (length i) (length a) (length l) ≡ true)
    both = and-true (batch_good b) (parts_fit (sheet_count b) (length r) (length i) (length a) (length l)) good

    pub batch_head : 2 ≤ length b
    batch_head = omega (arith, (good_batch b both.0).long)

    module _ (n : ℕ) (same : n ≡ sheet_count b) where
      pub batch_room : (n ≤ 32) × Roomy n (length r) (length i) (length a) (length l)
      batch_room =
          rw same
          ((batch_made b both.0).count, parts_fit_lem (sheet_count b) (length r) (length i) (length a) (length l) both.1)

      -- what the batch is run over: slices that were cleared past its parts
      module _ (r₁ i₁ a₁ l₁ : List ℕ) (er : r₁ ≡ cleared_past (4 * n) r) (ei : i₁ ≡ cleared_past (1792 * n) i)
          (ea : a₁ ≡ cleared_past (8240 * n) a) (el : l₁ ≡ cleared_past (192 * n) l) where
        long : (w : ℕ) (o o' : List ℕ) → w * n ≤ length o → o' ≡ cleared_past (w * n) o → length o' ≡ length o
        long w o o' h e = ap length e ∙ cleared_long (w * n) o h

        pub cleared_fits : BatchFits b r₁ i₁ a₁ l₁
        cleared_fits =
            let room = batch_room.1 in
            record {
              good = both.0;
              room =
                  rw (
                    long 4 r r₁ room.records er,
                    long 1792 i i₁ room.items ei,
                    long 8240 a a₁ room.answers ea,
                    long 192 l l₁ room.list el,
                  ) both.1;
            }

        pub batch_ran : (form r₂ i₂ a₂ l₂ : List ℕ) → SheetsRan form b (sheet_count b) r₁ r₂ i₁ i₂ a₁ a₂ l₁ l₂
            → batch_answer (run_batch form b (length r) (length i) (length a) (length l))
            ≡ some (record { answer = record { number = 0; place = 0 }; records = r₂; items = i₂; answers = a₂; list = l₂ })
        unfolding batch_answer batch_report
        batch_ran form r₂ i₂ a₂ l₂ d₁ =
            let d = rw (← same) at d₁ in
            let room = batch_room.1 in
            let count : n ≡ length (batch_sheets b) = same ∙ sym (sheets_count b) in
            let whole : take n (batch_sheets b) ≡ batch_sheets b = ap (λ (k : ℕ). take k (batch_sheets b)) count ∙ take-length (batch_sheets b) in
            let runs : run_sheets form (batch_sheets b) ≡ ok d.reports = ap (run_sheets form) (sym whole) ∙ d.runs in
            ap batch_answer (batch_runs form b (length r) (length i) (length a) (length l) d.reports good runs)
            ∙ (λ j. some (record {
              answer = record { number = 0; place = 0 };
              records = parts_padded 4 n sheet_record d.reports r r₁ r₂ room.records er d.records j;
              items = parts_padded 1792 n (λ (x : Report). x.items) d.reports i i₁ i₂ room.items ei d.items j;
              answers = parts_padded 8240 n (λ (x : Report). x.answers) d.reports a a₁ a₂ room.answers ea d.answers j;
              list = parts_padded 192 n (λ (x : Report). x.list) d.reports l l₁ l₂ room.list el d.list j;
            }))

  -- 15
  pub batch_refused : (form r₁ i₁ a₁ l₁ : List ℕ) (g : Bool)
      → g ≡ (batch_good b && parts_fit (sheet_count b) (length r) (length i) (length a) (length l))
      → g ≡ false
      → r₁ ≡ cleared_past (4 * 0) r
      → i₁ ≡ cleared_past (1792 * 0) i
      → a₁ ≡ cleared_past (8240 * 0) a
      → l₁ ≡ cleared_past (192 * 0) l
      → batch_answer (run_batch form b (length r) (length i) (length a) (length l))
      ≡ some (record { answer = record { number = 15; place = 0 }; records = r₁; items = i₁; answers = a₁; list = l₁ })
  unfolding batch_answer batch_report concat_map
  batch_refused form r₁ i₁ a₁ l₁ g e z er ei ea el =
      ap batch_answer (batch_stops form b (length r) (length i) (length a) (length l) (sym e ∙ z))
      ∙ (λ j. some (record {
        answer = record { number = 15; place = 0 };
        records = sym (er ∙ nothing_kept 4 r) j;
        items = sym (ei ∙ nothing_kept 1792 i) j;
        answers = sym (ea ∙ nothing_kept 8240 a) j;
        list = sym (el ∙ nothing_kept 192 l) j;
      }))

-- no sheet has room always
pub no_parts : (r i a l : ℕ) → (0 ≤ 32) × Roomy 0 r i a l
no_parts r i a l = (omega arith, record { records = omega arith; items = omega arith; answers = omega arith; list = omega arith })
