-- Demand 1: every input is answered; it is run exactly if it is ready, and else refused by what is at fault.
use mathlib.Core.Bool.{Bool, true, false, ◌||◌, true≢false}
use mathlib.Core.List.{List, []}
use mathlib.Core.Logic.{◌⊎◌, inl, inr, ⊎_elim}
use mathlib.Core.Option.{Option, some, none}
use mathlib.Core.Path.{◌≡◌, refl, sym, ap, ◌∙◌}
use Prim.Native.Nat.{ℕ, zero, suc, ◌+◌, ◌-◌, ◌≤◌, ◌<◌}
use native.Mathlib.Omega.{arith}
use borrow.Author.Tests.{ltb-true, ltb-false, le-ltb, ne_eqb}
use lib.Dec.{ltb}
use lib.ListN.{length, length-append, replicate, length-replicate, length-map}
use Rattle.rules.specs.Base.{numbers}
use Rattle.rules.specs.Outcome.{Outcome, ok, refused, fault, list_words, Refusal, is_missing, ◌>>=◌}
use Rattle.rules.specs.Value.{Value, answer_words}
use Rattle.rules.specs.Sheet.{sheet_fault, arguments}
use Rattle.rules.specs.Form.{Form, read_form, field_count}
use Rattle.rules.specs.Accept.{Checked, accepted, refused_at, Accepted, check_form}
use Rattle.rules.specs.Eval.{ended}
use Rattle.rules.specs.Run.{Line, too_many, padded, refused_input, report, report_with, split, run_all, run_line, run}
use Rattle.rules.specs.Answered.{AtFault, bad_form, sheet_at_fault, short_slice, short_list, Ready, Demand1}
use Rattle.rules.proofs.Acceptance.{accepted_form, accepted_fields}
use Rattle.rules.proofs.WellMadeLaws.{well_made, refused_not_made, check_fault, check_numbers}
use Rattle.rules.proofs.SheetLaws.{sheet_made, made_sheet, sheet_fault_lem}
use Rattle.rules.proofs.InputFaults.{padded_nil, list_length, no_entries_listed, fault_small, cleared_left, line_fault, line_left, line_plain}
use Rattle.rules.proofs.MissingLaws.{missing_told}
use Rattle.rules.proofs.FaultsTell.{fault_told}
use Rattle.rules.proofs.SplitLaws.{some≢none, ok_injective, LineGood, split_line, line_law}
use Rattle.rules.proofs.EvalSound.{Any}
use Rattle.rules.proofs.Fields.{RunsAll}
use Rattle.rules.proofs.GivenLaws.{run_form, run_sheet, run_short, run_cramped, run_unlisted, run_goes}
use Rattle.rules.proofs.Demand3Holds.{line_good, line_runs}

-- ---- slices
pub padded_length : (n : ℕ) (l : List ℕ) → length l ≤ n → length (padded n l) ≡ n
unfolding padded
padded_length n l h = length-append l (replicate (n - length l) 0) ∙ ap (λ (k : ℕ). length l + k) (length-replicate (n - length l) 0) ∙ omega arith

numbers_length : (n k : ℕ) → length (numbers n k) ≡ n
unfolding numbers
numbers_length zero k = refl
numbers_length (suc n) k = ap suc (numbers_length n (suc k))

pub few_fields : (b : List ℕ) (a : Accepted) → check_form b ≡ accepted a → length a.fields ≤ 16
unfolding read_form
few_fields b a e =
    let w = well_made b a e in
    let h = accepted_fields b a e ∙ ap (λ (f : Form). length f.fields) (accepted_form b a e) ∙ length-map (numbers (field_count b) 0) _ ∙ numbers_length (field_count b) 0 in
    omega (arith, h, w.counts.fields.1)

-- ---- refused because of the input
-- the report of a refusal from 1 to 7
input_refused :
    (b s : List ℕ) (ni na nl n : ℕ) (k : Option ℕ)
    → run b s ni na nl ≡ ok (refused_input ni na nl n k)
    → AtFault b s ni na nl n k
    → (n ≡ 9 → ⊥)
    → (Ready b s ni na nl → ⊥)
    → Demand1 b s ni na nl
unfolding refused_input
input_refused b s ni na nl n k e h small unready = record {
  report = refused_input ni na nl n k;
  answered = e;
  told = fault_told b s ni na nl (refused_input ni na nl n k) e;
  number = inr (unready, h, record { tries = refl; words = refl; answers = padded_nil na; list = padded_nil nl; items = cleared_left b s ni n small });
  items = padded_length ni [] (omega arith);
  answers = padded_length na [] (omega arith);
  list = padded_length nl [] (omega arith);
  unlisted = λ _. padded_nil nl;
}

-- 7
unfoldable short_slices : ℕ → ℕ → Bool
short_slices ni na = ltb ni 1792 || ltb na 8240

short_slice_lem : (ni na : ℕ) → short_slices ni na ≡ true → (ni < 1792) ⊎ (na < 8240)
unfolding short_slices
short_slice_lem ni na = go (ltb ni 1792) refl
  where
    go : (t : Bool) → ltb ni 1792 ≡ t → (t || ltb na 8240) ≡ true → (ni < 1792) ⊎ (na < 8240)
    go true h e = inl (ltb-true ni 1792 h)
    go false h e = inr (ltb-true na 8240 e)

long_slices : (ni na : ℕ) → short_slices ni na ≡ false → (1792 ≤ ni) × (8240 ≤ na)
unfolding short_slices
long_slices ni na = go (ltb ni 1792) refl
  where
    go : (t : Bool) → ltb ni 1792 ≡ t → (t || ltb na 8240) ≡ false → (1792 ≤ ni) × (8240 ≤ na)
    go true h e = absurd (true≢false e)
    go false h e = (ltb-false ni 1792 h, ltb-false na 8240 e)

short_not_ready : (b s : List ℕ) (ni na nl : ℕ) → short_slices ni na ≡ true → Ready b s ni na nl → ⊥
unfolding short_slices
short_not_ready b s ni na nl e r = true≢false (sym e ∙ rw (le-ltb ni 1792 r.items, le-ltb na 8240 r.answers))

-- ---- the ways of a run
module _ (b s : List ℕ) (ni na nl : ℕ) (a : Accepted) (form : check_form b ≡ accepted a) where
  -- 5 and 6
  sheet_refused : 0 < sheet_fault s → Demand1 b s ni na nl
  sheet_refused h =
      let x = sheet_fault_lem s h in
      input_refused b s ni na nl (sheet_fault s) none (run_sheet b s ni a form (λ z. omega arith) na nl)
      (sheet_at_fault (sheet_fault s) (well_made b a form) x) (fault_small s (sheet_fault s) x)
      (λ (r : Ready b s ni na nl). omega (arith, h, made_sheet s r.sheet))

  -- 7
  slices_refused : sheet_fault s ≡ 0 → short_slices ni na ≡ true → Demand1 b s ni na nl
  unfolding short_slices
  slices_refused z e =
      input_refused b s ni na nl 7 none (go (ltb ni 1792) refl)
      (short_slice (well_made b a form) (sheet_made s z) (short_slice_lem ni na e)) (λ x. omega arith) (short_not_ready b s ni na nl e)
    where
      go : (t : Bool) → ltb ni 1792 ≡ t → run b s ni na nl ≡ ok (refused_input ni na nl 7 none)
      go true h = run_short b s ni a form z (ltb-true ni 1792 h) na nl
      go false h = run_cramped b s ni a form z (ltb-false ni 1792 h) na nl (ltb-true na 8240 (rw h at e))

  -- 14
  list_refused : sheet_fault s ≡ 0 → short_slices ni na ≡ false → nl < 192 → Demand1 b s ni na nl
  list_refused z e h =
      let (items, answers) = long_slices ni na e in
      input_refused b s ni na nl 14 none (run_unlisted b s ni a form z items na nl answers h)
      (short_list (well_made b a form) (sheet_made s z) items answers h) (λ x. omega arith)
      (λ (r : Ready b s ni na nl). omega (arith, h, r.list))

  module _ (l : Line) (sheet : sheet_fault s ≡ 0) (slices : short_slices ni na ≡ false) (room : 192 ≤ nl) (splits : split a.form s ≡ ok l) where
    run_reports : run b s ni na nl ≡ report ni na nl l (run_line a.fields l)
    unfolding ◌>>=◌
    run_reports = run_goes b s ni a form sheet (long_slices ni na slices).0 na nl (long_slices ni na slices).1 room ∙ rw splits

    records_fit : length l.records ≤ ni
    unfolding too_many
    records_fit =
        ⊎_elim
        (λ (t : l ≡ too_many). rw t (omega arith))
        (λ (g : LineGood (arguments s) l). omega (arith, g.records, g.few, (long_slices ni na slices).0))
        (line_law a.form s l splits)

    form_splits : split (read_form b) s ≡ ok l
    form_splits = ap (λ (f : Form). split f s) (sym (accepted_form b a form)) ∙ splits

    -- 8 and 9
    split_refused_lem : (e : Refusal) → l.refusal ≡ some e → Demand1 b s ni na nl
    unfolding report report_with run_line ended
    split_refused_lem e u = let r = report_with ni na nl l (ended (refused e) l.state) e.number e.place [] e.missing in record {
      report = r;
      answered = run_reports ∙ rw (u, run_line);
      told = fault_told b s ni na nl r (run_reports ∙ rw (u, run_line));
      number = inr (
        (λ (r : Ready b s ni na nl). let same = ok_injective (sym r.splits ∙ form_splits) in
            some≢none (sym u ∙ ap (λ (x : Line). x.refusal) (sym same) ∙ r.unrefused)),
        line_fault b s l e u form_splits ni na nl (well_made b a form) (sheet_made s sheet) (long_slices ni na slices).0 (long_slices ni na slices).1 room,
        record {
          tries = refl;
          words = refl;
          answers = padded_nil na;
          list = no_entries_listed nl e.missing (line_plain b s l e u form_splits);
          items = line_left b s l e u form_splits ni;
        },
      );
      items = padded_length ni l.records records_fit;
      answers = padded_length na [] (omega arith);
      list = ap length (no_entries_listed nl e.missing (line_plain b s l e u form_splits)) ∙ length-replicate nl 0;
      unlisted = λ _. no_entries_listed nl e.missing (line_plain b s l e u form_splits);
    }

    -- accepted, or 20 to 27
    module _ (u : l.refusal ≡ none) where
      ready : Ready b s ni na nl
      ready = record {
        form = well_made b a form;
        sheet = sheet_made s sheet;
        items = (long_slices ni na slices).0;
        answers = (long_slices ni na slices).1;
        list = room;
        line = l;
        splits = form_splits;
        unrefused = u;
      }

      runs : RunsAll Any (length l.items) a.fields l.state (run_line a.fields l)
      runs = line_runs b s a form l splits u

      few_items : length l.items ≤ 256
      few_items = (line_good a s l splits u).few

      -- what is missing fits the list, and only 20 has any
      line_refused : (x : Refusal) → (run_line a.fields l).outcome ≡ refused x → (run_all 0 l.items a.fields l.state).outcome ≡ refused x
      unfolding run_line
      line_refused x e = rw (u, run_line) at e

      list_fits : (x : Refusal) → (run_all 0 l.items a.fields l.state).outcome ≡ refused x → length (list_words x.missing) ≤ nl
      list_fits x e = omega (arith, list_length x.missing, room, missing_told.fits b a form 0 l.items l.state x e)

      list_empty :
          (x : Refusal)
          → (run_all 0 l.items a.fields l.state).outcome ≡ refused x
          → (x.number ≡ 20 → ⊥)
          → x.missing ≡ []
      unfolding is_missing
      list_empty x e h = (missing_told.run 0 l.items a.fields l.state x e).only (ne_eqb x.number 20 h)

      values_reported : (vs : List Value) → (run_line a.fields l).outcome ≡ ok vs → Demand1 b s ni na nl
      unfolding report report_with
      values_reported vs e = let r = report_with ni na nl l (run_line a.fields l) 0 none (answer_words vs) [] in record {
        report = r;
        answered = run_reports ∙ rw (e, report);
        told = fault_told b s ni na nl r (run_reports ∙ rw (e, report));
        number = inl (ready, inl refl);
        items = padded_length ni l.records records_fit;
        answers = padded_length na (answer_words vs)
            (omega (arith, runs.words vs e few_items, few_fields b a form, (long_slices ni na slices).1));
        list = ap length (no_entries_listed nl [] refl) ∙ length-replicate nl 0;
        unlisted = λ _. no_entries_listed nl [] refl;
      }

      refusal_reported : (x : Refusal) → (run_line a.fields l).outcome ≡ refused x → Demand1 b s ni na nl
      unfolding report report_with
      refusal_reported x e = let r = report_with ni na nl l (run_line a.fields l) x.number x.place [] x.missing in record {
        report = r;
        answered = run_reports ∙ rw (e, report);
        told = fault_told b s ni na nl r (run_reports ∙ rw (e, report));
        number = inl (ready, inr (rw e at runs.ends));
        items = padded_length ni l.records records_fit;
        answers = padded_length na [] (omega arith);
        list = padded_length nl (list_words x.missing) (list_fits x (line_refused x e));
        unlisted = λ h. no_entries_listed nl x.missing (list_empty x (line_refused x e) h);
      }

      run_answered : Demand1 b s ni na nl
      run_answered = go (run_line a.fields l).outcome refl
        where
          go : (o : Outcome (List Value)) → (run_line a.fields l).outcome ≡ o → Demand1 b s ni na nl
          go (ok vs) e = values_reported vs e
          go (refused x) e = refusal_reported x e
          go (fault x) e = absurd (rw e at runs.ends)

    line_answered : Demand1 b s ni na nl
    line_answered = go l.refusal refl
      where
        go : (o : Option Refusal) → l.refusal ≡ o → Demand1 b s ni na nl
        go none u = run_answered u
        go (some e) u = split_refused_lem e u

  accepted_answered : Demand1 b s ni na nl
  accepted_answered = go (ltb 0 (sheet_fault s)) refl
    where
      listed : sheet_fault s ≡ 0 → short_slices ni na ≡ false → (t : Bool) → ltb nl 192 ≡ t → Demand1 b s ni na nl
      listed z e true q = list_refused z e (ltb-true nl 192 q)
      listed z e false q = let (l, h) = split_line a.form s in line_answered l z e (ltb-false nl 192 q) h

      sliced : sheet_fault s ≡ 0 → (t : Bool) → short_slices ni na ≡ t → Demand1 b s ni na nl
      sliced z true e = slices_refused z e
      sliced z false e = listed z e (ltb nl 192) refl

      go : (t : Bool) → ltb 0 (sheet_fault s) ≡ t → Demand1 b s ni na nl
      go true h = sheet_refused (ltb-true 0 (sheet_fault s) h)
      go false h = let z = ltb-false 0 (sheet_fault s) h in sliced (omega arith) (short_slices ni na) refl

pub demand1 : (b s : List ℕ) (ni na nl : ℕ) → Demand1 b s ni na nl
demand1 b s ni na nl = go (check_form b) refl
  where
    go : (c : Checked Accepted) → check_form b ≡ c → Demand1 b s ni na nl
    go (accepted a) e = accepted_answered b s ni na nl a e
    go (refused_at n k) e =
        let h = check_numbers b n k e in
        input_refused b s ni na nl n k (run_form b s ni n k e na nl) (bad_form n k (check_fault b n k e)) (λ x. omega arith)
        (λ (r : Ready b s ni na nl). refused_not_made b n k e r.form)
