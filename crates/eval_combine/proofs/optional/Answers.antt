-- By whether the child is absent. Assumes nothing.
use mathlib.Core.Bool.{false≢true}
use mathlib.Core.Path.{sym}
use Rattle.eval_combine.proofs.Optionals.{optional_kept, optional_undone}
use Rattle.eval_combine.proofs.optional.Goals as goal
use Rattle.eval_combine.proofs.optional.Goals.{else-made-eq0-via-then-made-eq0+else-not-made, else-made-eq0-via-else-made-eq0}

pub returns-then-not-made : goal.returns-then-not-made
returns-then-not-made c =
    optional_undone _ _ _ _ c.optional_unchanged-made.ensures.value _ _ c.requires c.if-made-eq0.true c.if-not-made.true

pub returns-else-made-eq0 : goal.returns-else-made-eq0
returns-else-made-eq0 c =
    let kept = optional_kept _ _ _ _ c.optional_unchanged-made.ensures.value _ _ c.requires in
    elim c.else-made-eq0.branch [
      | else-made-eq0-via-then-made-eq0+else-not-made w ↦ kept (λ a. false≢true (sym (rw a.1 at w.if-not-made.false)))
      | else-made-eq0-via-else-made-eq0 w ↦ kept (λ a. w.if-made-eq0.false a.0)
    ]
