-- From what the run hands back to what the call answers.
use mathlib.Core.Bool.{Bool, true, false, not, ◌&&◌}
use mathlib.Core.List.{List, [], ◌∷◌, ◌++◌}
use mathlib.Core.Option.{Option, some, none}
use mathlib.Core.Path.{◌≡◌, refl, sym, ap, subst, ◌∙◌}
use Prim.Native.Nat.{ℕ, zero, suc, ◌-◌, ◌≤◌, ◌<◌}
use native.Mathlib.Omega.{arith}
use lib.Dec.{eqb, ltb}
use lib.ListN.{length, get_or, get_elem?, replicate}
use borrow.Author.Tests.{not-true, not-false, eqb-true, lt-ltb, ltb-true, ltb-false}
use Rattle.rules.specs.Outcome.{ok, ◌>>=◌}
use Rattle.rules.specs.Sheet.{sheet_area, arguments}
use Rattle.rules.specs.Form.{read_form}
use Rattle.rules.specs.Accept.{letters_of}
use Rattle.rules.specs.Split.{items_of}
use Rattle.rules.specs.State.{present, present_at}
use Rattle.rules.specs.Run.{Report, padded, split, run}
use Rattle.rules.specs.Commands.{split_with}
use Rattle.rules.specs.Codes.{place_code}
use Rattle.rules.specs.Calls.{to_raw}
use Rattle.rules.specs.declared.State.{State as Raw}
use Rattle.rules.specs.Why as Rules
use Rattle.rules.specs.Why.{LeftPlace, line_items, left_place, refused_before, explain, why}
use Rattle.rules.proofs.Acceptance.{and-true}
use Rattle.rules.proofs.Demand1Holds.{padded_length}
use Rattle.rules.proofs.WhyLaws.{LeftOver, left_over_lem, marks_present}
use Rattle.take_search.specs.Items.{Table}
use Rattle.run_fields.specs.declared.RunAnswer.{RunAnswer}
use Rattle.run.specs.Runner.{run_answer}
use Rattle.run.proofs.Told.{RunTold, run_told}
use Rattle.run.proofs.Back.{line_table}
use Rattle.why_letter.specs.Withdrawn.{LinePlace}
use Rattle.why_reason.specs.declared.Reason.{Reason}
use Rattle.why_reason.specs.Reasons.{kind_number, MarkedUp, LeftAt, FindsReason}
use Rattle.why.specs.declared.WhyAnswer.{WhyAnswer}
use Rattle.why.specs.Explained.{left_in, unexplained, WhyEnded, answer_for, why_answer}

-- ---- the marks as they are handed over
front : (l z : List ℕ) (k : ℕ) → k < length l → get_elem? l k ≡ some (get_or (l ++ z) k 0)
front [] z k h = absurd (omega arith)
front (x ∷ l) z zero h = refl
front (x ∷ l) z (suc k) h = front l z k (omega arith)

handed_mark : (l : List ℕ) (k : ℕ) → k < length l → get_elem? l k ≡ some (get_or (padded 256 l) k 0)
unfolding padded
handed_mark l k h = front l (replicate (256 - length l) 0) k h

handed_present : (l : List ℕ) (i : ℕ) → i < length l → present_at l i ≡ present (get_or (padded 256 l) i 0)
unfolding present_at
handed_present l i h = rw (handed_mark l i h, present_at)

gone : (l : List ℕ) (i : ℕ) → length l ≤ i → present_at l i ≡ false
unfolding present_at
gone [] i h = refl
gone (x ∷ l) zero h = absurd (omega arith)
gone (x ∷ l) (suc i) h = gone l i (omega arith)

-- the mark is there and present, as the code asks it
module _ (number : ℕ) (marks : List ℕ) (raw : Raw) (i : ℕ) (count : raw.count ≡ length marks) (same : raw.marks ≡ padded 256 marks) where
  abbrev asked : Bool
  asked = ltb i raw.count && (ltb i 256 && present (get_or raw.marks i 0))

  asked_same : length marks ≤ 256 → (c : Bool) → ltb i raw.count ≡ c → asked ≡ present_at marks i
  asked_same few true c =
      let below = ltb-true i raw.count c in
      rw (c, lt-ltb i 256 (omega arith), same) (sym (handed_present marks i (omega arith)))
  asked_same few false c =
      let beyond = ltb-false i raw.count c in
      rw c (sym (gone marks i (omega arith)))

  left_plain : (number ≡ 27 → length marks ≤ 256) → left_in number raw i ≡ (eqb number 27 && present_at marks i)
  unfolding left_in
  left_plain few = go (eqb number 27) refl
    where
      go : (e : Bool) → eqb number 27 ≡ e → (e && asked) ≡ (e && present_at marks i)
      go true e = asked_same (few (eqb-true number 27 e)) (ltb i raw.count) refl
      go false e = refl

module _ (b s : List ℕ) (i ni na nl : ℕ) (r : RunAnswer) (is os ls : List ℕ) (ran : run_answer (run b s ni na nl) ≡ some (record { answer = r; items = is; answers = os; list = ls })) where
  x : RunTold (run b s ni na nl) r is os ls
  x = run_told (run b s ni na nl) r is os ls ran

  abbrev report : Report
  report = x.report

  abbrev ended : WhyAnswer → Option WhyEnded
  ended q = some (record { answer = q; items = is; answers = os; list = ls })

  explained : why b s i ni na nl ≡ explain b s i report
  unfolding why ◌>>=◌
  explained = rw x.same

  -- the slices are those of the run
  slices : (n : ℕ) (k : Option ℕ) (q : Option Rules.Reason) (w : WhyAnswer)
      → answer_for (record { number = n; place = k; reason = q; ran = report }) ≡ w
      → why_answer (ok (record { number = n; place = k; reason = q; ran = report })) ≡ ended w
  unfolding why_answer
  slices n k q w e = rw (e, x.items, x.answers, x.list)

  pub answer_refused : (t : Bool) → t ≡ refused_before r.number → t ≡ true → (w : WhyAnswer) → w ≡ unexplained r.number r.place
      → why_answer (why b s i ni na nl) ≡ ended w
  unfolding explain answer_for
  answer_refused t h e w d =
      let refused_here : refused_before report.number ≡ true = ap refused_before (sym x.number) ∙ sym h ∙ e in
      let same : unexplained report.number (place_code report.place) ≡ w = rw (← x.number, ← x.place) (sym d) in
      ap why_answer (explained ∙ rw refused_here) ∙ slices report.number report.place none w same

  module _ (t : Bool) (h : t ≡ refused_before r.number) (f : t ≡ false) where
    not_before : refused_before report.number ≡ false
    not_before = ap refused_before (sym x.number) ∙ sym h ∙ f

    module _ (n : report.number ≡ 27) where
      over : LeftOver b s ni report
      over = left_over_lem b s ni na nl report x.same n

      few : length report.state.marks ≤ 256
      few = omega (arith, over.marks, over.good.few)

    count_is : r.state.count ≡ length report.state.marks
    unfolding to_raw
    count_is = ap (λ (z : Raw). z.count) x.state

    marks_are : r.state.marks ≡ padded 256 report.state.marks
    unfolding to_raw
    marks_are = ap (λ (z : Raw). z.marks) x.state

    abbrev is_left : Bool
    is_left = eqb report.number 27 && present_at report.state.marks i

    left_same : left_in r.number r.state i ≡ is_left
    left_same = ap (λ (n : ℕ). left_in n r.state i) x.number ∙ left_plain report.number report.state.marks r.state i count_is marks_are few

    module _ (u : Bool) (g : u ≡ left_in r.number r.state i) where
      pub answer_unleft : not u ≡ true → (k : ℕ) → k ≡ 28 → (w : WhyAnswer) → w ≡ unexplained k 0 → why_answer (why b s i ni na nl) ≡ ended w
      unfolding explain answer_for
      answer_unleft e k z w o =
          let d : w ≡ unexplained 28 0 = o ∙ ap (λ (n : ℕ). unexplained n 0) z in
          let not_left_lem : is_left ≡ false = sym left_same ∙ sym g ∙ not-true u e in
          ap why_answer (explained ∙ rw (not_before, not_left_lem)) ∙ slices 28 none none w (sym d)

      module _ (e : not u ≡ false) where
        is_left_lem : is_left ≡ true
        is_left_lem = sym left_same ∙ sym g ∙ not-false u e

        ends : report.number ≡ 27
        ends = eqb-true report.number 27 (and-true (eqb report.number 27) _ is_left_lem).0

        stands : present_at report.state.marks i ≡ true
        stands = (and-true (eqb report.number 27) _ is_left_lem).1

        inside : i < length report.state.marks
        inside = marks_present report.state.marks i stands

        abbrev spot : LeftPlace
        spot = record { form = read_form b; arguments = arguments s; groups = (over ends).given.groups; marks = report.state.marks; place = i }

        line : LinePlace b s is i spot
        unfolding line_items items_of split split_with
        line =
            let o = over ends in
            let table = line_table (letters_of (read_form b)) s o.line ni o.made o.splits o.free o.good o.room in
            record {
              form = refl;
              args = refl;
              given = o.given;
              splits = o.grouped;
              clear = o.clear;
              groups = refl;
              place = refl;
              made = o.made;
              table = subst (λ (w : List ℕ). Table (sheet_area s) w (items_of o.given)) (sym o.records ∙ x.items) (subst (Table (sheet_area s) (padded ni o.line.records)) o.items table);
              below = omega (arith, inside, o.marks, ap length o.items);
            }

        marked : MarkedUp spot r.state.marks i
        marked = record {
          place = refl;
          same = λ k h. handed_mark report.state.marks k (omega (arith, inside)) ∙ ap (λ (m : List ℕ). some (get_or m k 0)) (sym marks_are);
        }

        pub answer_asked : LeftAt b s is r.state.marks i
        answer_asked =
            let long = ap length marks_are ∙ padded_length 256 report.state.marks (few ends) in
            record {
              result = (over ends).result;
              accepts = (over ends).accepts;
              spot = spot;
              line = line;
              long = omega (arith, inside, few ends);
              few = omega (arith, inside, few ends);
            }

        pub answer_left : (q : Reason) → FindsReason b s is r.state.marks i q
            → (n : ℕ) → n ≡ kind_number q.kind
            → why_answer (why b s i ni na nl) ≡ ended (record { number = 0; place = 0; reason = n; detail = q.detail })
        unfolding explain left_place answer_for ◌>>=◌
        answer_left q h n e =
            let (p, given, tells) = h.same spot line marked in
            let spotted : left_place b s report i ≡ ok spot = rw (over ends).grouped in
            let done : explain b s i report ≡ ok (record { number = 0; place = none; reason = some p; ran = report }) = rw (not_before, is_left_lem, spotted, given) in
            ap why_answer (explained ∙ done) ∙ slices 0 none (some p) _ (rw (e, tells.code, tells.detail))
