-- By whether the child was refused. Assumes nothing.
use Rattle.eval_combine.proofs.Fallbacks.{fallback_kept, fallback_undone}
use Rattle.eval_combine.proofs.fallback.Goals as goal
use Rattle.eval_combine.proofs.fallback.Goals.{then-ran-ne0, else-ran-ne0}

pub returns : goal.returns
returns c =
    let made = c.fallback_unchanged.ensures.value in
    elim c.if-ran-ne0.branch [
      | then-ran-ne0 w ↦ rw w.marks-is (fallback_undone _ _ _ _ made _ _ c.requires w.if-ran-ne0.true)
      | else-ran-ne0 w ↦ rw w.marks-is (fallback_kept _ _ _ _ made _ _ c.requires w.if-ran-ne0.false)
    ]
