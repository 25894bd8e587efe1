-- Every batch is answered, each record and part is the single call's, and no sheet changes what another gets.
use mathlib.Core.Bool.{Bool, true, false, ◌&&◌, true≢false}
use mathlib.Core.List.{List, [], ◌∷◌, ◌++◌, map, append_assoc}
use mathlib.Core.Logic.{inl, inr, ⊎_elim}
use mathlib.Core.Option.{some, some-injective}
use mathlib.Core.Path.{◌≡◌, refl, sym, ap, subst, ◌∙◌}
use Prim.Native.Nat.{ℕ, zero, suc, ◌+◌, ◌-◌, ◌*◌}
use native.Mathlib.Nat.{mul-zero, mul-suc}
use native.Mathlib.Omega.{arith}
use borrow.Author.Tests.{le-leb, leb-true}
use lib.Dec.{leb}
use lib.ListN.{length, drop, get_elem?, replicate}
use lib.Seq.{take_at, drop_at, drop-append-add}
use Rattle.wire.specs.Wire.{table_good}
use Rattle.wire.specs.Laws.{good_table, offset_rises}
use Rattle.rules.specs.Base.{concat_map}
use Rattle.rules.specs.Outcome.{ok, ◌>>=◌}
use Rattle.rules.specs.Run.{Report, padded, run}
use Rattle.rules.specs.Answered.{Demand1}
use Rattle.rules.specs.Batch.{sheet_count, batch_good, batch_sheets, parts_fit, sheets_in, run_sheets, sheet_record, BatchReport, batch_report, run_batch}
use Rattle.rules.specs.BatchAnswered.{BatchMade, Roomy, slice_part, AsSingle, ZeroPast, BatchAnswered, Agree, Isolated}
use Rattle.rules.proofs.SplitLaws.{some≢none, ok_injective}
use Rattle.rules.proofs.ConcatLaws.{concat_map_lem}
use Rattle.rules.proofs.Formats.{all_length, made_table}
use Rattle.rules.proofs.Acceptance.{and-true, both}
use Rattle.rules.proofs.Demand1Holds.{demand1}
use Rattle.rules.proofs.BatchSteps.{sheets_count}

-- ---- which batches are run
module _ (b : List ℕ) where
  pub batch_made : batch_good b ≡ true → BatchMade b
  unfolding batch_good
  batch_made e =
      let n = sheet_count b in
      let (few, good) = and-true (leb n 32) (table_good 4 n b) e in
      let t = good_table 4 n b good in
      record {
        count = leb-true n 32 few;
        header = t.long;
        first = t.first;
        rising = λ k h. offset_rises 4 n b good k (k + 1) (omega arith) (omega arith);
        last = t.last;
      }

  pub made_batch : BatchMade b → batch_good b ≡ true
  unfolding batch_good
  made_batch m = both (le-leb (sheet_count b) 32 m.count) (made_table 4 (sheet_count b) b m.header m.first m.rising m.last)

module _ (n nr ni na nl : ℕ) where
  pub parts_fit_lem : parts_fit n nr ni na nl ≡ true → Roomy n nr ni na nl
  unfolding parts_fit
  parts_fit_lem e =
      let (three, list) = and-true (leb (4 * n) nr && leb (1792 * n) ni && leb (8240 * n) na) (leb (192 * n) nl) e in
      let (two, answers) = and-true (leb (4 * n) nr && leb (1792 * n) ni) (leb (8240 * n) na) three in
      let (records, items) = and-true (leb (4 * n) nr) (leb (1792 * n) ni) two in
      record {
        records = leb-true (4 * n) nr records;
        items = leb-true (1792 * n) ni items;
        answers = leb-true (8240 * n) na answers;
        list = leb-true (192 * n) nl list;
      }

  pub room_fits : Roomy n nr ni na nl → parts_fit n nr ni na nl ≡ true
  unfolding parts_fit
  room_fits r =
      rw (le-leb (4 * n) nr r.records, le-leb (1792 * n) ni r.items, le-leb (8240 * n) na r.answers, le-leb (192 * n) nl r.list)

-- ---- parts of one length
module _ {A : Type 0} (f : A → List ℕ) (w : ℕ) (long : (x : A) → length (f x) ≡ w) where
  part_at : (xs : List A) (k : ℕ) (x : A) (l : List ℕ) → get_elem? xs k ≡ some x → slice_part w k (concat_map f xs ++ l) ≡ f x
  unfolding concat_map
  part_at [] k x l e = absurd (some≢none (sym e))
  part_at (y ∷ xs) zero x l e =
      rw (mul-zero w, append_assoc (f y) (concat_map f xs) l, some-injective y x e) (take_at (f x) (concat_map f xs ++ l) w (long x))
  part_at (y ∷ xs) (suc k) x l e =
      let step : w * suc k ≡ length (f y) + w * k = omega (arith, mul-suc w k, long y) in
      rw (step, append_assoc (f y) (concat_map f xs) l, drop-append-add (f y) (concat_map f xs ++ l) (w * k)) (part_at xs k x l e)

  zeros_past : (n : ℕ) (xs : List A) → drop (w * length xs) (padded n (concat_map f xs)) ≡ replicate (n - w * length xs) 0
  unfolding padded
  zeros_past n xs =
      let size = all_length f w long xs in
      rw size (drop_at (concat_map f xs) (replicate (n - w * length xs) 0) (w * length xs) size)

-- ---- the single calls
module _ (form : List ℕ) where
  answered : (s : List ℕ) → Demand1 form s 1792 8240 192
  answered s = demand1 form s 1792 8240 192

  abbrev single : List ℕ → Report
  single s = (answered s).report

  four : (s : List ℕ) → length (sheet_record (single s)) ≡ 4
  unfolding sheet_record
  four s = refl

  all_run : (ss : List (List ℕ)) → run_sheets form ss ≡ ok (map single ss)
  unfolding run_sheets ◌>>=◌
  all_run [] = refl
  all_run (s ∷ ss) = rw ((answered s).answered, all_run ss)

  -- what a slice has of each sheet, w words
  module _ (f : Report → List ℕ) (w : ℕ) (long : (s : List ℕ) → length (f (single s)) ≡ w) (n : ℕ) (ss : List (List ℕ)) where
    abbrev slice : List ℕ
    slice = padded n (concat_map f (map single ss))

    slice_part_lem : (k : ℕ) (s : List ℕ) → get_elem? ss k ≡ some s → slice_part w k slice ≡ f (single s)
    unfolding padded
    slice_part_lem k s e = rw (concat_map_lem f single ss) (part_at (λ s. f (single s)) w long ss k s _ e)

    slice_past : drop (w * length ss) slice ≡ replicate (n - w * length ss) 0
    slice_past = rw (concat_map_lem f single ss) (zeros_past (λ s. f (single s)) w long n ss)

  -- ---- what is reported
  module _ (number nr ni na nl : ℕ) (ss : List (List ℕ)) where
    abbrev reported : BatchReport
    reported = batch_report number nr ni na nl (map single ss)

    as_single : (k : ℕ) (s : List ℕ) → get_elem? ss k ≡ some s → AsSingle form s k reported
    unfolding batch_report
    as_single k s e = record {
      report = single s;
      runs = (answered s).answered;
      words = slice_part_lem sheet_record 4 four nr ss k s e;
      items = slice_part_lem (λ r. r.items) 1792 (λ s. (answered s).items) ni ss k s e;
      answers = slice_part_lem (λ r. r.answers) 8240 (λ s. (answered s).answers) na ss k s e;
      list = slice_part_lem (λ r. r.list) 192 (λ s. (answered s).list) nl ss k s e;
    }

    zero_past : ZeroPast (length ss) nr ni na nl reported
    unfolding batch_report
    zero_past = record {
      records = slice_past sheet_record 4 four nr ss;
      items = slice_past (λ r. r.items) 1792 (λ s. (answered s).items) ni ss;
      answers = slice_past (λ r. r.answers) 8240 (λ s. (answered s).answers) na ss;
      list = slice_past (λ r. r.list) 192 (λ s. (answered s).list) nl ss;
    }

module _ (form b : List ℕ) (nr ni na nl : ℕ) where
  run_answer_lem :
      batch_good b && parts_fit (sheet_count b) nr ni na nl ≡ true
      → BatchAnswered form b nr ni na nl
  unfolding run_batch sheets_in batch_report ◌>>=◌
  run_answer_lem e =
      let (good, fits) = and-true (batch_good b) (parts_fit (sheet_count b) nr ni na nl) e in
      record {
        answer = reported form 0 nr ni na nl (batch_sheets b);
        answered = rw (e, run_batch, all_run form (batch_sheets b));
        number = inl refl;
        good = λ _. (batch_made b good, parts_fit_lem (sheet_count b) nr ni na nl fits);
        damaged = λ z. absurd (omega arith);
        cleared = λ z. absurd (omega arith);
        count = sheets_count b;
        sheets = λ _ k s h. as_single form 0 nr ni na nl (batch_sheets b) k s h;
        past = λ _. rw (sheets_count b) at (zero_past form 0 nr ni na nl (batch_sheets b));
      }

  refused_answer :
      batch_good b && parts_fit (sheet_count b) nr ni na nl ≡ false
      → BatchAnswered form b nr ni na nl
  unfolding run_batch sheets_in batch_report ◌>>=◌
  refused_answer e = record {
    answer = reported form 15 nr ni na nl [];
    answered = rw (e, run_batch);
    number = inr refl;
    good = λ z. absurd (omega arith);
    damaged = λ _ m r. true≢false (sym (both (made_batch b m) (room_fits (sheet_count b) nr ni na nl r)) ∙ e);
    cleared = λ _. zero_past form 15 nr ni na nl [];
    count = sheets_count b;
    sheets = λ z. absurd (omega arith);
    past = λ z. absurd (omega arith);
  }

  -- form, batch and lengths are any
  pub batch_answered : BatchAnswered form b nr ni na nl
  batch_answered = go (batch_good b && parts_fit (sheet_count b) nr ni na nl) refl
    where
      go : (t : Bool) → batch_good b && parts_fit (sheet_count b) nr ni na nl ≡ t → BatchAnswered form b nr ni na nl
      go true e = run_answer_lem e
      go false e = refused_answer e

  sheet_answer : (x : BatchReport) → run_batch form b nr ni na nl ≡ ok x → (x.number ≡ 15 → ⊥)
      → (k : ℕ) (s : List ℕ) → get_elem? (batch_sheets b) k ≡ some s → AsSingle form s k x
  sheet_answer x e run k s h =
      let a = batch_answered in
      let same : a.answer ≡ x = ok_injective (sym a.answered ∙ e) in
      let zero : a.answer.number ≡ 0 = ⊎_elim (λ z. z) (λ z. absurd (run (ap (λ (y : BatchReport). y.number) (sym same) ∙ z))) a.number in
      subst (AsSingle form s k) same (a.sheets zero k s h)

-- both have what the single call reports
agreed : (form s : List ℕ) (k : ℕ) (x y : BatchReport) → AsSingle form s k x → AsSingle form s k y → Agree k x y
agreed form s k x y a c =
    let same : a.report ≡ c.report = ok_injective (sym a.runs ∙ c.runs) in
    record {
      records = a.words ∙ ap sheet_record same ∙ sym c.words;
      items = a.items ∙ ap (λ (r : Report). r.items) same ∙ sym c.items;
      answers = a.answers ∙ ap (λ (r : Report). r.answers) same ∙ sym c.answers;
      list = a.list ∙ ap (λ (r : Report). r.list) same ∙ sym c.list;
    }

pub isolated : Isolated
isolated form b c nr ni na nl mr mi ma ml x y e f p q k s g h =
    agreed form s k x y (sheet_answer form b nr ni na nl x e p k s g) (sheet_answer form c mr mi ma ml y f q k s h)
