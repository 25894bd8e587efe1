-- Each way out is a law of the definition (Ends). Assumes nothing.
use mathlib.Core.Path.{sym}
use lib.Seq.{length-take-le}
use Rattle.bench_input.proofs.Ends.{all_short, all_cut, ends_there, all_bad}
use Rattle.bench_input.proofs.form_end.Goals as goal
use Rattle.bench_input.proofs.form_end.Goals.{then-input-end-via-then-input-end, then-input-end-via-else-input-end+then-not-length_good}

pub returns-then-input-lt8 : goal.returns-then-input-lt8
returns-then-input-lt8 c = search all_short

pub slice_bounds-length_good-end : goal.slice_bounds-length_good-end
slice_bounds-length_good-end c = sym (length-take-le _ _ c.if-input-end.false)

pub returns-then-input-end : goal.returns-then-input-end
returns-then-input-end c =
    elim c.then-input-end.branch [
      | then-input-end-via-then-input-end w ↦ all_cut _ _ c.form_length-end.ensures w.if-input-end.true
      | then-input-end-via-else-input-end+then-not-length_good w ↦
          all_bad _ _ c.form_length-end.ensures w.if-input-end.false _ w.length_good.ensures w.if-not-length_good.true
    ]

pub returns : goal.returns
returns c = ends_there _ _ c.form_length-end.ensures c.if-input-end.false _ c.length_good.ensures c.if-not-length_good.false
