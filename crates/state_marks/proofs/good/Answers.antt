-- Each early way out breaks what a kept state has (`refusing`); the last test decides (`deciding`). Assumes nothing.
use mathlib.Core.Path.{◌≡◌, refl, sym, ap, ◌∙◌}
use mathlib.Core.Bool.{not}
use native.Mathlib.Omega.{arith}
use lib.ListN.{length}
use borrow.Author.Rules.{rules}
use Rattle.state_marks.proofs.Laws.{StateKept, refusing, deciding, marks_kept, rest_kept, zeros_behind}
use Rattle.state_marks.proofs.good.Goals.{then-s-n-via-then-s-n, then-s-n-via-else-s-n+then-n-gt256}
use Rattle.state_marks.proofs.good.Goals.{then-end-start-via-then-end-start, then-end-start-via-else-end-start+then-n-end}
use Rattle.state_marks.proofs.good.Goals.{then-end-start-via-else-end-start+else-n-end+then-n-s}
use Rattle.state_marks.proofs.good.Goals.{then-not-marks_good-via-then-not-marks_good}
use Rattle.state_marks.proofs.good.Goals.{then-not-marks_good-via-else-not-marks_good+then-not-all_zero}
use Rattle.state_marks.proofs.good.Goals as goal

pub returns-then-s-n : goal.returns-then-s-n
returns-then-s-n c =
    refusing _ _ _ (λ (k : StateKept c.args.fields c.args.n c.args.s). elim c.then-s-n.branch [
      | then-s-n-via-then-s-n w ↦ w.if-s-n.true k.count
      | then-s-n-via-else-s-n+then-n-gt256 w ↦ omega (arith, w.if-n-gt256.true, k.small)
    ])

pub returns-then-end-start : goal.returns-then-end-start
returns-then-end-start c =
    refusing _ _ _ (λ (k : StateKept c.args.fields c.args.n c.args.s). elim c.then-end-start.branch [
      | then-end-start-via-then-end-start w ↦ omega (arith, w.if-end-start.true, k.order)
      | then-end-start-via-else-end-start+then-n-end w ↦ omega (arith, w.if-n-end.true, k.inside)
      | then-end-start-via-else-end-start+else-n-end+then-n-s w ↦ omega (arith, w.if-n-s.true, k.current)
    ])

pub returns-then-not-marks_good : goal.returns-then-not-marks_good
returns-then-not-marks_good c =
    refusing _ _ _ (λ (k : StateKept c.args.fields c.args.n c.args.s). elim c.then-not-marks_good.branch [
      | then-not-marks_good-via-then-not-marks_good w ↦ marks_kept _ _ _ k _ c.marks_good.ensures (ap not w.if-not-marks_good.true)
      | then-not-marks_good-via-else-not-marks_good+then-not-all_zero w ↦
          rest_kept _ _ _ k _ (w.all_zero.ensures ∙ zeros_behind c.args.s.marks c.args.n) (ap not w.if-not-all_zero.true)
    ])

pub returns : goal.returns
returns c =
    let long : length c.args.s.marks ≡ 256 = search (rules, c.well_formed) in
    deciding _ _ _ c.args.s.start c.args.s.end refl refl long c.if-s-n.false
    c.if-n-gt256.false c.if-end-start.false c.if-n-end.false c.if-n-s.false
    (sym c.marks_good.ensures ∙ c.if-not-marks_good.false)
    (sym (c.all_zero.ensures ∙ zeros_behind c.args.s.marks c.args.n) ∙ c.if-not-all_zero.false)
    c.count_present.result c.count_present.ensures
