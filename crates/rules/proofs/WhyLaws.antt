-- What a run that its input does not stop leaves, and where the places before one are looked through.
use mathlib.Core.Bool.{Bool, true, false, false≢true}
use mathlib.Core.List.{List, []}
use mathlib.Core.Logic.{◌⊎◌, inl, inr, ⊎_elim}
use mathlib.Core.Option.{Option, none}
use mathlib.Core.Path.{◌≡◌, refl, sym, ap, ◌∙◌}
use Prim.Native.Nat.{ℕ, ◌≤◌, ◌<◌}
use native.Mathlib.Omega.{arith}
use lib.Dec.{ltb}
use lib.ListN.{length}
use Rattle.rules.specs.Base.{contains}
use Rattle.rules.specs.Outcome.{Outcome, ok, refused, fault, MissingItem}
use Rattle.rules.specs.Value.{Value, answer_words}
use Rattle.rules.specs.Sheet.{sheet_fault, arguments}
use Rattle.rules.specs.Form.{Form, read_form}
use Rattle.rules.specs.Accept.{Accepted, accepted, check_form, letters_of}
use Rattle.rules.specs.Split.{Item, Split, split_from, items_of}
use Rattle.rules.specs.State.{State, marker_mark, construct, present_at, only_once}
use Rattle.rules.specs.Eval.{Ran}
use Rattle.rules.specs.Run.{Line, Report, too_many, padded, line_of, split, run_line, report, report_with, run}
use Rattle.rules.specs.Answered.{AtFault, Left, Ready, RunNumber}
use Rattle.rules.specs.CallsAnswered.{Answers, answers, refuses}
use Rattle.rules.proofs.Places.{present_below}
use Rattle.rules.proofs.Acceptance.{accepted_form}
use Rattle.rules.proofs.WellMadeLaws.{made_accepted}
use Rattle.rules.proofs.SheetLaws.{made_sheet}
use Rattle.rules.proofs.SplitLaws.{some≢none, ok_injective, LineGood, ambiguity_none}
use Rattle.rules.proofs.InputFaults.{bind_ok}
use Rattle.rules.proofs.CallsAnswer.{once_answers}
use Rattle.rules.proofs.Demand3Holds.{line_good, line_runs, run_reported}
use Rattle.rules.proofs.Demand1Holds.{demand1}
use Rattle.rules.proofs.MissingReported.{fault_range}

-- ---- places
-- a name at a place below the number of items is looked for without a panic
pub earlier_ok : (is : List Item) (i : ℕ) → i < length is → (e : Option ℕ) × (only_once is i ≡ ok e)
unfolding contains
earlier_ok is i h = go (only_once is i) (once_answers is i h)
  where
    go : (o : Outcome (Option ℕ)) → Answers [] o → (e : Option ℕ) × (o ≡ ok e)
    go o (answers e) = (e, refl)
    go o (refuses e n) = absurd (false≢true n)

pub marks_present : (marks : List ℕ) (i : ℕ) → present_at marks i ≡ true → i < length marks
marks_present = present_below

-- ---- a line that splitting does not refuse
line_items_lem : (args : List (List ℕ)) (x : Split) (l : Line) → line_of args x ≡ ok l → l.refusal ≡ none → (x.ambiguous ≡ none) × (l.items ≡ items_of x)
unfolding line_of too_many
line_items_lem args x l e u = go (ltb 256 (length (items_of x))) refl
  where
    go : (t : Bool) → ltb 256 (length (items_of x)) ≡ t → (x.ambiguous ≡ none) × (l.items ≡ items_of x)
    go true t = absurd (some≢none (ap (λ (l : Line). l.refusal) (ok_injective (rw t at e)) ∙ u))
    go false t =
        let (s, h, k) = bind_ok (construct marker_mark (length (items_of x)) x.marker) _ l (rw t at e) in
        let same = ok_injective k in
        (ambiguity_none x.ambiguous (ap (λ (l : Line). l.refusal) same ∙ u), sym (ap (λ (l : Line). l.items) same))

-- ---- a run that is not refused because of its input
-- whatever its outcome, the report has the items of the line and the state reached
report_keeps :
    (ni na nl : ℕ) (l : Line) (x : Ran (List Value)) (r : Report)
    → report ni na nl l x ≡ ok r
    → (r.items ≡ padded ni l.records) × (r.state ≡ x.state)
unfolding report report_with
report_keeps ni na nl l x r e = go x.outcome refl
  where
    told :
        (n : ℕ) (k : Option ℕ) (w : List ℕ) (m : List MissingItem)
        → report_with ni na nl l x n k w m ≡ r
        → (r.items ≡ padded ni l.records) × (r.state ≡ x.state)
    told n k w m same = (ap (λ (r : Report). r.items) (sym same), ap (λ (r : Report). r.state) (sym same))

    go : (o : Outcome (List Value)) → x.outcome ≡ o → (r.items ≡ padded ni l.records) × (r.state ≡ x.state)
    go (ok vs) q = told 0 none (answer_words vs) [] (ok_injective (rw (q, report) at e))
    go (refused d) q = told d.number d.place [] d.missing (ok_injective (rw (q, report) at e))
    go (fault f) q = absurd (let bad = rw (q, report) at e in let z : ◌≡◌ {A = ℕ} 0 1 = cc in omega arith)

-- form, sheet and item slice are those of the run; the line, its groups, and a mark for each item
pub record LineRan (b s : List ℕ) (ni : ℕ) (r : Report) : Type 0 where
  pub result : Accepted
  pub accepts : check_form b ≡ accepted result
  pub made : sheet_fault s ≡ 0
  pub room : 1792 ≤ ni
  pub line : Line
  pub splits : split (read_form b) s ≡ ok line
  pub free : line.refusal ≡ none
  pub good : LineGood (arguments s) line
  pub given : Split
  pub grouped : split_from (letters_of (read_form b)) 0 (arguments s) ≡ ok given
  pub clear : given.ambiguous ≡ none
  pub items : line.items ≡ items_of given
  pub records : r.items ≡ padded ni line.records
  pub marks : length r.state.marks ≡ length line.items

module _ (b s : List ℕ) (ni na nl : ℕ) (r : Report) (e : run b s ni na nl ≡ ok r) where
  ready_ran : Ready b s ni na nl → LineRan b s ni r
  unfolding split
  ready_ran ready =
      let (a, form) = made_accepted b ready.form in
      let l : Line = ready.line in
      let free = ready.unrefused in
      let splits : split a.form s ≡ ok l = ap (λ (f : Form). split f s) (accepted_form b a form) ∙ ready.splits in
      let (x, grouped, k) = bind_ok (split_from (letters_of (read_form b)) 0 (arguments s)) _ l ready.splits in
      let (clear, items) = line_items_lem (arguments s) x l k free in
      let sheet = made_sheet s ready.sheet in
      let reported = run_reported b s a form l splits free ni na nl sheet ready.items ready.answers ready.list in
      let (records, state) = report_keeps ni na nl l (run_line a.fields l) r (sym reported ∙ e) in
      record {
        result = a;
        accepts = form;
        made = sheet;
        room = ready.items;
        line = l;
        splits = ready.splits;
        free = free;
        good = line_good a s l splits free;
        given = x;
        grouped = grouped;
        clear = clear;
        items = items;
        records = records;
        marks = ap (λ (u : State). length u.marks) state ∙ (line_runs b s a form l splits free).step.good.long;
      }

  pub line_ran : (14 < r.number) ⊎ (r.number ≡ 0) → LineRan b s ni r
  line_ran h =
      let d = demand1 b s ni na nl in
      go d.report (ok_injective (sym d.answered ∙ e)) d.number
    where
      go :
          (x : Report)
          → x ≡ r
          → (Ready b s ni na nl × RunNumber x.number)
          ⊎ ((Ready b s ni na nl → ⊥) × AtFault b s ni na nl x.number x.place × Left b s ni na nl x)
          → LineRan b s ni r
      go x same (inl y) = ready_ran y.0
      go x same (inr y) =
          let (some, few) = fault_range b s ni na nl x.number x.place y.1 in
          let n = ap (λ (r : Report). r.number) same in
          absurd (⊎_elim (λ (k : 14 < r.number). omega (arith, n, few)) (λ k. omega (arith, n, some)) h)

-- one that ended in 27
abbrev pub LeftOver : List ℕ → List ℕ → ℕ → Report → Type 0
LeftOver b s ni r = LineRan b s ni r

pub left_over_lem : (b s : List ℕ) (ni na nl : ℕ) (r : Report) → run b s ni na nl ≡ ok r → r.number ≡ 27 → LeftOver b s ni r
left_over_lem b s ni na nl r e h = line_ran b s ni na nl r e (inl (omega arith))
