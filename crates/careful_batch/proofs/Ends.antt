-- The first sheets that were looked at, and how the batch ends.
use mathlib.Core.List.{List, [], ◌∷◌, ◌++◌}
use mathlib.Core.Logic.{⊎_elim}
use mathlib.Core.Option.{some, some-injective}
use mathlib.Core.Path.{◌≡◌, refl, sym, ap, subst, ◌∙◌}
use Prim.Native.Nat.{ℕ, ◌+◌, ◌-◌, ◌*◌, ◌≤◌, ◌<◌}
use native.Mathlib.Omega.{arith}
use lib.ListN.{length, take, drop, get_elem?, replicate}
use lib.Seq.{drop_at, take-length}
use Rattle.wire.specs.Wire.{entry_of}
use Rattle.rules.specs.Base.{concat_map}
use Rattle.rules.specs.Outcome.{ok}
use Rattle.rules.specs.Run.{Report, padded}
use Rattle.rules.specs.Batch.{sheet_count, batch_sheets, sheet_record, BatchReport, batch_report, run_batch}
use Rattle.rules.specs.BatchAnswered.{slice_part, AsSingle, ZeroPast, BatchAnswered}
use Rattle.rules.specs.declared.Refused.{Refused}
use Rattle.rules.proofs.Acceptance.{both}
use Rattle.rules.proofs.SplitLaws.{ok_injective}
use Rattle.rules.proofs.BatchSteps.{sheet_at, sheets_count}
use Rattle.rules.proofs.BatchLaws.{made_batch, room_fits, batch_answered}
use Rattle.rules_careful.specs.CarefulBatch.{sheets_by, careful_sheet, careful_batch}
use Rattle.rules_careful.specs.CarefulBatchAnswered.{CarefulBatchAnswered}
use Rattle.rules_careful.proofs.BatchByLaws.{sheets_more, batch_runs}
use Rattle.rules_careful.proofs.CarefulBatchHolds.{careful_batch_answered}
use Rattle.batch_check.specs.Sheets.{HasSheet}
use Rattle.batch_check.proofs.Sheets.{good_batch}
use Rattle.batch_run.specs.Sheets.{BatchFits, HoldsParts}
use Rattle.batch_run.specs.Told.{BatchEnded, batch_answer}
use Rattle.batch_run.proofs.Parts.{holds_none, holds_next, LengthsKept, has_sheet, record_part_lem, items_part, answers_part}
use Rattle.careful_batch.specs.Looked.{PartRan, HasPart, LookedPart, BatchRan, HasBatch, LookedTo, LookedBatch}

-- ---- what the run of a batch says of its slices
module _ (b r i a form l : List ℕ) (ran : BatchRan b r i a form l) where
  abbrev plain : BatchReport
  plain = record { number = 0; records = r; items = i; answers = a; list = l }

  abbrev told : BatchAnswered form b (length r) (length i) (length a) (length l)
  told = batch_answered form b (length r) (length i) (length a) (length l)

  told_plain : told.answer ≡ plain
  told_plain = ok_injective (sym told.answered ∙ ran)

  zero_told : told.answer.number ≡ 0
  zero_told = ap (λ (x : BatchReport). x.number) told_plain

  ran_fits : BatchFits b r i a l
  ran_fits =
      let (made, room) = told.good zero_told in
      record { good = made_batch b made; room = room_fits (sheet_count b) (length r) (length i) (length a) (length l) room }

  single : (k : ℕ) (s : List ℕ) → get_elem? (batch_sheets b) k ≡ some s → AsSingle form s k plain
  single k s h = subst (AsSingle form s k) told_plain (told.sheets zero_told k s h)

  past : ZeroPast (sheet_count b) (length r) (length i) (length a) (length l) plain
  past = subst (ZeroPast (sheet_count b) (length r) (length i) (length a) (length l)) told_plain (told.past zero_told)

module _ (b r i a : List ℕ) (h : HasBatch b r i a) where
  pub batch_head : 2 ≤ length b
  batch_head = omega (arith, (good_batch b (ran_fits b r i a h.form h.list h.ran).good).long)

  pub sheet_there : (k n : ℕ) → n ≡ sheet_count b → k < n → HasSheet b k
  sheet_there k n e below = has_sheet b r i a h.list (ran_fits b r i a h.form h.list h.ran) k n e below

-- ---- sheet by sheet
pub none_looked : (b r i a : List ℕ) → LookedTo 0 b r r i a a
unfolding sheets_by
none_looked b r i a = record {
  same = λ form l ran. record {
    reports = [];
    runs = refl;
    records = holds_none 4 sheet_record r;
    answers = holds_none 8240 (λ (x : Report). x.answers) a;
  };
}

-- the part behind the first k is as it was
kept_part : (w k : ℕ) (words : Report → List ℕ) (rs : List Report) (o o' : List ℕ) → HoldsParts w k words rs o o' → slice_part w k o' ≡ slice_part w k o
kept_part w k words rs o o' h =
    ap (take w) (ap (λ (z : List ℕ). drop (w * k) z) h.same ∙ drop_at (concat_map words rs) (drop (w * k) o) (w * k) h.long)

module _ (b r i a : List ℕ) (k n : ℕ) (e : n ≡ sheet_count b) (below : k < n) (r₁ a₁ : List ℕ) (t : LookedTo k b r r₁ i a a₁)
    (s : List ℕ) (sheet : s ≡ entry_of 4 (sheet_count b) b k) where
  there : get_elem? (batch_sheets b) k ≡ some s
  there = rw sheet (sheet_at b k (omega (arith, e)))

  module _ (form l : List ℕ) (ran : BatchRan b r i a form l) where
    abbrev one : AsSingle form s k (plain b r i a form l ran)
    one = single b r i a form l ran k s there

    part_ran : PartRan s k r₁ i a₁ form one.report
    part_ran =
        let d = t.same form l ran in
        record {
          runs = one.runs;
          words = kept_part 4 k sheet_record d.reports r r₁ d.records ∙ one.words;
          items = one.items;
          answers = kept_part 8240 k (λ (x : Report). x.answers) d.reports a a₁ d.answers ∙ one.answers;
        }

  pub has_part : HasBatch b r i a → length r₁ ≡ length r → length a₁ ≡ length a → HasPart s k r₁ i a₁
  has_part h lr la =
      let l = h.list in
      let fits = ran_fits b r i a h.form l h.ran in
      let kept : LengthsKept r r₁ i i a a₁ l l = record { records = lr; items = refl; answers = la; list = refl } in
      record {
        form = h.form;
        report = (one h.form l h.ran).report;
        ran = part_ran h.form l h.ran;
        record_fits = record_part_lem b r i a l fits k n e below r₁ i a₁ l kept;
        items_fit = items_part b r i a l fits k n e below r₁ i a₁ l kept;
        answers_fit = answers_part b r i a l fits k n e below r₁ i a₁ l kept;
      }

  pub next_looked : (r₂ a₂ : List ℕ) → LookedPart s k r₁ r₂ i a₁ a₂ → LookedTo (k + 1) b r r₂ i a a₂
  next_looked r₂ a₂ p = record {
    same = λ form l ran.
        let d = t.same form l ran in
        let y = p.same form (one form l ran).report (part_ran form l ran) in
        record {
          reports = d.reports ++ (y.report ∷ []);
          runs = sheets_more (careful_sheet form) s y.report y.runs (batch_sheets b) k d.reports there d.runs;
          records = holds_next 4 k sheet_record d.reports r r₁ d.records y.report r₂ y.records;
          answers = holds_next 8240 k (λ (x : Report). x.answers) d.reports a a₁ d.answers y.report a₂ y.answers;
        };
  }

-- behind the last sheet
pub all_looked : (b r r₁ i a a₁ : List ℕ) (n k : ℕ) → n ≡ sheet_count b → k ≤ n → n ≤ k → LookedTo k b r r₁ i a a₁ → LookedBatch b r r₁ i a a₁
all_looked b r r₁ i a a₁ n k e h g t = let last : k ≡ sheet_count b = omega (arith, e) in rw last at t

-- ---- the batch
module _ (form b : List ℕ) (nr ni na nl : ℕ) (q : Refused) (r i a l : List ℕ)
    (told : batch_answer (run_batch form b nr ni na nl) ≡ some (record { answer = q; records = r; items = i; answers = a; list = l })) where
  abbrev looks : CarefulBatchAnswered form b nr ni na nl
  looks = careful_batch_answered form b nr ni na nl

  ended : ◌≡◌ {A = BatchEnded}
      (record {
        answer = record { number = looks.plain.number; place = 0 };
        records = looks.plain.records;
        items = looks.plain.items;
        answers = looks.plain.answers;
        list = looks.plain.list;
      })
      (record { answer = q; records = r; items = i; answers = a; list = l })
  unfolding batch_answer
  ended = some-injective _ _ (rw looks.ran at told)

  number_is : looks.plain.number ≡ q.number
  number_is = ap (λ (x : BatchEnded). x.answer.number) ended

  -- 15
  pub refused_batch : (q.number ≡ 0 → ⊥)
      → batch_answer (careful_batch form b nr ni na nl) ≡ some (record { answer = q; records = r; items = i; answers = a; list = l })
  refused_batch n =
      let number : looks.plain.number ≡ 15 =
      ⊎_elim (λ z. absurd (n (sym number_is ∙ sym looks.same ∙ z))) (λ z. sym looks.same ∙ z) looks.number in
      ap batch_answer (looks.answered ∙ ap ok (looks.refused number) ∙ sym looks.ran) ∙ told

  module _ (fine : q.number ≡ 0) where
    plain_is : looks.plain ≡ record { number = 0; records = r; items = i; answers = a; list = l }
    plain_is = λ j. record {
      number = (number_is ∙ fine) j;
      records = (ended j).records;
      items = (ended j).items;
      answers = (ended j).answers;
      list = (ended j).list;
    }

    module _ (lr : length r ≡ nr) (li : length i ≡ ni) (la : length a ≡ na) (ll : length l ≡ nl) where
      pub batch_ran : BatchRan b r i a form l
      batch_ran = rw (lr, li, la, ll) (looks.ran ∙ ap ok plain_is)

      pub has_batch : HasBatch b r i a
      has_batch = record { form = form; list = l; ran = batch_ran }

      parts_padded : (w n : ℕ) (words : Report → List ℕ) (rs : List Report) (o o' : List ℕ)
          → drop (w * sheet_count b) o ≡ replicate (n - w * sheet_count b) 0
          → HoldsParts w (sheet_count b) words rs o o' → padded n (concat_map words rs) ≡ o'
      unfolding padded
      parts_padded w n words rs o o' z d = rw d.long (sym (d.same ∙ ap (λ (z : List ℕ). concat_map words rs ++ z) z))

      pub looked_batch : (r' a' : List ℕ) → LookedBatch b r r' i a a'
          → batch_answer (careful_batch form b nr ni na nl) ≡ some (record { answer = q; records = r'; items = i; answers = a'; list = l })
      unfolding batch_answer batch_report careful_batch
      looked_batch r' a' t =
          let d = t.same form l batch_ran in
          let fits = ran_fits b r i a form l batch_ran in
          let zeros = rw (lr, li, la, ll) at (past b r i a form l batch_ran) in
          let count = sheets_count b in
          let whole : take (sheet_count b) (batch_sheets b) ≡ batch_sheets b = ap (λ (k : ℕ). take k (batch_sheets b)) (sym count) ∙ take-length (batch_sheets b) in
          let runs : sheets_by (careful_sheet form) (batch_sheets b) ≡ ok d.reports = ap (sheets_by (careful_sheet form)) (sym whole) ∙ d.runs in
          let good = both fits.good (rw (lr, li, la, ll) at fits.room) in
          let done = batch_runs (careful_sheet form) b nr ni na nl d.reports good runs in
          let answer = ok_injective (sym done ∙ looks.answered) in
          ap batch_answer done
          ∙ (λ j. some (record {
            answer = record { number = sym fine j; place = (ended j).answer.place };
            records = parts_padded 4 nr sheet_record d.reports r r' zeros.records d.records j;
            items = (ap (λ (x : BatchReport). x.items) answer ∙ looks.items ∙ ap (λ (x : BatchReport). x.items) plain_is) j;
            answers = parts_padded 8240 na (λ (x : Report). x.answers) d.reports a a' zeros.answers d.answers j;
            list = (ap (λ (x : BatchReport). x.list) answer ∙ looks.list ∙ ap (λ (x : BatchReport). x.list) plain_is) j;
          }))
