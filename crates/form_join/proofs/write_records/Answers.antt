-- One record behind the other. Assumes nothing.
use native.Mathlib.Omega.{arith}
use Rattle.form_join.proofs.WrittenLaws.{done_first, done_next, done_last}
use Rattle.form_join.proofs.write_records.Goals as goal

pub loop-k-init : goal.loop-k-init
loop-k-init g c = done_first _ _ _

pub loop-k-preserved : goal.loop-k-preserved
loop-k-preserved g c =
    let all = g.met.R.Record.sized _ _ c.requires.passes in
    let put = rw c.SIZE.ensures at c.put_moved.ensures in
    done_next _ _ _ _ _ all _ _ c.loop-k.invariant (omega arith) _ put

pub returns : goal.returns
returns g c =
    let all = g.met.R.Record.sized _ _ c.requires.passes in
    rw (c.SIZE-2.ensures, c.count-count.ensures) (done_last _ _ _ _ _ all _ _ c.loop-k.invariant (omega arith))
