-- A batch under any single call that answers every sheet: which report it gets, part by part.
use mathlib.Core.Bool.{Bool, true, false, ◌&&◌}
use mathlib.Core.List.{List, [], ◌∷◌, ◌++◌, map, append_assoc}
use mathlib.Core.Logic.{inl, inr}
use mathlib.Core.Option.{some, some-injective}
use mathlib.Core.Path.{◌≡◌, refl, sym, ap, subst, ◌∙◌}
use Prim.Native.Nat.{ℕ, zero, suc, ◌+◌, ◌-◌, ◌*◌}
use native.Mathlib.Nat.{mul-zero, mul-suc}
use native.Mathlib.Numerals.{add-one}
use native.Mathlib.Omega.{arith}
use lib.ListN.{length, take, drop, get_elem?, replicate}
use lib.Seq.{take_at, drop_at, drop-append-add}
use Rattle.rules.specs.Base.{concat_map}
use Rattle.rules.specs.Outcome.{Outcome, ok, refused, fault, ◌>>=◌}
use Rattle.rules.specs.Run.{Report, padded, run}
use Rattle.rules.specs.Batch.{sheet_count, batch_good, batch_sheets, parts_fit, sheets_in, run_sheets, sheet_record, BatchReport, batch_report, run_batch}
use Rattle.rules.specs.BatchAnswered.{slice_part, ZeroPast}
use Rattle.rules.proofs.SplitLaws.{some≢none, ok_injective}
use Rattle.rules.proofs.ConcatLaws.{concat_map_lem}
use Rattle.rules.proofs.Formats.{all_length}
use Rattle.rules.proofs.InputFaults.{bind_ok}
use Rattle.rules.proofs.BatchSteps.{sheets_count}
use Rattle.rules_careful.specs.CarefulBatch.{sheets_by, batch_by}
use Rattle.rules_careful.specs.CarefulBatchAnswered.{PartsAre, Answers, AnsweredBy, PlainBy}

-- ---- parts of one length
module _ {A : Type 0} (f : A → List ℕ) (w : ℕ) (long : (x : A) → length (f x) ≡ w) where
  part_at : (xs : List A) (k : ℕ) (x : A) (l : List ℕ) → get_elem? xs k ≡ some x → slice_part w k (concat_map f xs ++ l) ≡ f x
  unfolding concat_map
  part_at [] k x l e = absurd (some≢none (sym e))
  part_at (y ∷ xs) zero x l e =
      rw (mul-zero w, append_assoc (f y) (concat_map f xs) l, some-injective y x e) (take_at (f x) (concat_map f xs ++ l) w (long x))
  part_at (y ∷ xs) (suc k) x l e =
      let step : w * suc k ≡ length (f y) + w * k = omega (arith, mul-suc w k, long y) in
      rw (step, append_assoc (f y) (concat_map f xs) l, drop-append-add (f y) (concat_map f xs ++ l) (w * k)) (part_at xs k x l e)

  zeros_past : (n : ℕ) (xs : List A) → drop (w * length xs) (padded n (concat_map f xs)) ≡ replicate (n - w * length xs) 0
  unfolding padded
  zeros_past n xs =
      let size = all_length f w long xs in
      rw size (drop_at (concat_map f xs) (replicate (n - w * length xs) 0) (w * length xs) size)

-- two calls of which every sheet has the same part
concat_alike : (f g : List ℕ → List ℕ) → ((s : List ℕ) → f s ≡ g s) → (ss : List (List ℕ)) → concat_map f ss ≡ concat_map g ss
unfolding concat_map
concat_alike f g h [] = refl
concat_alike f g h (s ∷ ss) = rw (h s, concat_alike f g h ss)

parts_alike :
    (f : Report → List ℕ) (x y : List ℕ → Report)
    → ((s : List ℕ) → f (x s) ≡ f (y s))
    → (n : ℕ) (ss : List (List ℕ))
    → padded n (concat_map f (map x ss)) ≡ padded n (concat_map f (map y ss))
parts_alike f x y h n ss =
    ap (padded n) (concat_map_lem f x ss ∙ concat_alike (λ s. f (x s)) (λ s. f (y s)) h ss ∙ sym (concat_map_lem f y ss))

four : (r : Report) → length (sheet_record r) ≡ 4
unfolding sheet_record
four r = refl

module _ (call : List ℕ → Outcome Report) (a : Answers call) where
  all_answered : (ss : List (List ℕ)) → sheets_by call ss ≡ ok (map a.report ss)
  unfolding sheets_by ◌>>=◌
  all_answered [] = refl
  all_answered (s ∷ ss) = rw (a.answered s, all_answered ss)

  -- what a slice has of each sheet, w words
  module _ (f : Report → List ℕ) (w : ℕ) (long : (s : List ℕ) → length (f (a.report s)) ≡ w) (n : ℕ) (ss : List (List ℕ)) where
    abbrev slice : List ℕ
    slice = padded n (concat_map f (map a.report ss))

    slice_part_lem : (k : ℕ) (s : List ℕ) → get_elem? ss k ≡ some s → slice_part w k slice ≡ f (a.report s)
    unfolding padded
    slice_part_lem k s e = rw (concat_map_lem f a.report ss) (part_at (λ s. f (a.report s)) w long ss k s _ e)

    slice_past : drop (w * length ss) slice ≡ replicate (n - w * length ss) 0
    slice_past = rw (concat_map_lem f a.report ss) (zeros_past (λ s. f (a.report s)) w long n ss)

  module _ (number nr ni na nl : ℕ) (ss : List (List ℕ)) where
    abbrev reported : BatchReport
    reported = batch_report number nr ni na nl (map a.report ss)

    parts_are : (k : ℕ) (s : List ℕ) → get_elem? ss k ≡ some s → PartsAre k (a.report s) reported
    unfolding batch_report
    parts_are k s e = record {
      words = slice_part_lem sheet_record 4 (λ s. four (a.report s)) nr ss k s e;
      items = slice_part_lem (λ r. r.items) 1792 a.items ni ss k s e;
      answers = slice_part_lem (λ r. r.answers) 8240 a.answers na ss k s e;
      list = slice_part_lem (λ r. r.list) 192 a.list nl ss k s e;
    }

    zero_past : ZeroPast (length ss) nr ni na nl reported
    unfolding batch_report
    zero_past = record {
      records = slice_past sheet_record 4 (λ s. four (a.report s)) nr ss;
      items = slice_past (λ r. r.items) 1792 a.items ni ss;
      answers = slice_past (λ r. r.answers) 8240 a.answers na ss;
      list = slice_past (λ r. r.list) 192 a.list nl ss;
    }

-- ---- one sheet more behind the others
sheets_first :
    (call : List ℕ → Outcome Report) (s : List ℕ) (ss : List (List ℕ)) (rs : List Report)
    → sheets_by call (s ∷ ss) ≡ ok rs
    → (r : Report) × (rest : List Report) × (call s ≡ ok r) × (sheets_by call ss ≡ ok rest) × (r ∷ rest ≡ rs)
unfolding sheets_by
sheets_first call s ss rs e =
    let (r, runs, others) = bind_ok (call s) _ rs e in
    let (rest, h, same) = bind_ok (sheets_by call ss) _ rs others in
    (r, rest, runs, h, ok_injective same)

module _ (call : List ℕ → Outcome Report) (s : List ℕ) (r : Report) (runs : call s ≡ ok r) where
  sheets_next :
      (ss : List (List ℕ)) (k : ℕ) (rs : List Report)
      → get_elem? ss k ≡ some s
      → sheets_by call (take k ss) ≡ ok rs
      → sheets_by call (take (suc k) ss) ≡ ok (rs ++ (r ∷ []))
  unfolding sheets_by ◌>>=◌
  sheets_next [] k rs h e = absurd (some≢none (sym h))
  sheets_next (x ∷ ss) zero rs h e = rw (some-injective x s h, runs, ← ok_injective e)
  sheets_next (x ∷ ss) (suc k) rs h e =
      let (y, rest, p, q, same) = sheets_first call x (take k ss) rs e in
      rw (← same, p, sheets_next ss k rest h q)

  pub sheets_more :
      (ss : List (List ℕ)) (k : ℕ) (rs : List Report)
      → get_elem? ss k ≡ some s
      → sheets_by call (take k ss) ≡ ok rs
      → sheets_by call (take (k + 1) ss) ≡ ok (rs ++ (r ∷ []))
  sheets_more ss k rs h e = rw (add-one k) (sheets_next ss k rs h e)

-- ---- the batch
module _ (call : List ℕ → Outcome Report) (b : List ℕ) (nr ni na nl : ℕ) where
  pub batch_runs :
      (rs : List Report)
      → batch_good b && parts_fit (sheet_count b) nr ni na nl ≡ true
      → sheets_by call (batch_sheets b) ≡ ok rs
      → batch_by call b nr ni na nl ≡ ok (batch_report 0 nr ni na nl rs)
  unfolding batch_by sheets_in ◌>>=◌
  batch_runs rs e h = rw (e, batch_by, h)

  pub batch_stops : batch_good b && parts_fit (sheet_count b) nr ni na nl ≡ false → batch_by call b nr ni na nl ≡ ok (batch_report 15 nr ni na nl [])
  unfolding batch_by sheets_in ◌>>=◌
  batch_stops e = rw (e, batch_by)

  module _ (a : Answers call) where
    run_answer_lem : batch_good b && parts_fit (sheet_count b) nr ni na nl ≡ true → AnsweredBy call b nr ni na nl
    unfolding batch_report
    run_answer_lem e = record {
      answer = reported call a 0 nr ni na nl (batch_sheets b);
      answered = batch_runs _ e (all_answered call a (batch_sheets b));
      number = inl refl;
      cleared = λ z. absurd (omega arith);
      sheets = λ _ k s h r c.
          subst (λ (r : Report). PartsAre k r (reported call a 0 nr ni na nl (batch_sheets b))) (ok_injective (sym (a.answered s) ∙ c))
          (parts_are call a 0 nr ni na nl (batch_sheets b) k s h);
      past = λ _. rw (sheets_count b) at (zero_past call a 0 nr ni na nl (batch_sheets b));
    }

    refused_answer : batch_good b && parts_fit (sheet_count b) nr ni na nl ≡ false → AnsweredBy call b nr ni na nl
    unfolding batch_report
    refused_answer e = record {
      answer = reported call a 15 nr ni na nl [];
      answered = batch_stops e;
      number = inr refl;
      cleared = λ _. zero_past call a 15 nr ni na nl [];
      sheets = λ z. absurd (omega arith);
      past = λ z. absurd (omega arith);
    }

    pub answered_by : AnsweredBy call b nr ni na nl
    answered_by = go (batch_good b && parts_fit (sheet_count b) nr ni na nl) refl
      where
        go : (t : Bool) → batch_good b && parts_fit (sheet_count b) nr ni na nl ≡ t → AnsweredBy call b nr ni na nl
        go true e = run_answer_lem e
        go false e = refused_answer e

-- two calls answer a batch with one number, and alike in a slice of which every sheet has the same part
module _ (x y : List ℕ → Outcome Report) (a : Answers x) (c : Answers y) (b : List ℕ) (nr ni na nl : ℕ) (p q : BatchReport)
    (d : batch_by x b nr ni na nl ≡ ok p) (e : batch_by y b nr ni na nl ≡ ok q) where
  -- the number, and the sheets of which there are reports
  record Both : Type 0 where
    number : ℕ
    sheets : List (List ℕ)
    one : p ≡ reported x a number nr ni na nl sheets
    other : q ≡ reported y c number nr ni na nl sheets

  both : Both
  both = go (batch_good b && parts_fit (sheet_count b) nr ni na nl) refl
    where
      go : (t : Bool) → batch_good b && parts_fit (sheet_count b) nr ni na nl ≡ t → Both
      go true g = record {
        number = 0;
        sheets = batch_sheets b;
        one = ok_injective (sym d ∙ batch_runs x b nr ni na nl _ g (all_answered x a (batch_sheets b)));
        other = ok_injective (sym e ∙ batch_runs y b nr ni na nl _ g (all_answered y c (batch_sheets b)));
      }
      go false g = record {
        number = 15;
        sheets = [];
        one = ok_injective (sym d ∙ batch_stops x b nr ni na nl g);
        other = ok_injective (sym e ∙ batch_stops y b nr ni na nl g);
      }

  pub number_alike : p.number ≡ q.number
  unfolding batch_report
  number_alike = ap (λ (z : BatchReport). z.number) both.one ∙ sym (ap (λ (z : BatchReport). z.number) both.other)

  pub items_alike : ((s : List ℕ) → (a.report s).items ≡ (c.report s).items) → p.items ≡ q.items
  unfolding batch_report
  items_alike h =
      ap (λ (z : BatchReport). z.items) both.one
      ∙ parts_alike (λ r. r.items) a.report c.report h ni both.sheets
      ∙ sym (ap (λ (z : BatchReport). z.items) both.other)

  pub list_alike : ((s : List ℕ) → (a.report s).list ≡ (c.report s).list) → p.list ≡ q.list
  unfolding batch_report
  list_alike h =
      ap (λ (z : BatchReport). z.list) both.one
      ∙ parts_alike (λ r. r.list) a.report c.report h nl both.sheets
      ∙ sym (ap (λ (z : BatchReport). z.list) both.other)

  -- refused, both are the same
  pub refused_alike : q.number ≡ 15 → p ≡ q
  unfolding batch_report
  refused_alike z = go (batch_good b && parts_fit (sheet_count b) nr ni na nl) refl
    where
      go : (t : Bool) → batch_good b && parts_fit (sheet_count b) nr ni na nl ≡ t → p ≡ q
      go true g =
          let ran = ok_injective (sym e ∙ batch_runs y b nr ni na nl _ g (all_answered y c (batch_sheets b))) in
          absurd (omega (arith, z, ap (λ (r : BatchReport). r.number) ran))
      go false g = ok_injective (sym d ∙ batch_stops x b nr ni na nl g ∙ sym (batch_stops y b nr ni na nl g) ∙ e)

-- ---- the plain batch
module _ (form : List ℕ) where
  plain_sheets : (ss : List (List ℕ)) → run_sheets form ss ≡ sheets_by (λ s. run form s 1792 8240 192) ss
  unfolding run_sheets sheets_by
  plain_sheets [] = refl
  plain_sheets (s ∷ ss) = rw (plain_sheets ss)

pub plain_by : PlainBy
unfolding run_batch batch_by
plain_by form b nr ni na nl = go (sheets_in b nr ni na nl) refl
  where
    go : (o : Outcome (List (List ℕ))) → sheets_in b nr ni na nl ≡ o → run_batch form b nr ni na nl ≡ batch_by (λ s. run form s 1792 8240 192) b nr ni na nl
    go (ok ss) e = rw (e, run_batch, batch_by, plain_sheets form ss)
    go (refused x) e = rw (e, run_batch, batch_by)
    go (fault x) e = rw (e, run_batch, batch_by)
