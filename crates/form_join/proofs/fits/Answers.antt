-- One limit after the other. Assumes nothing.
use mathlib.Core.Path.{◌∙◌}
use native.Mathlib.Omega.{arith}
use borrow.Author.Tests.{lt-leb}
use Rattle.form_join.proofs.Answering.{many_nodes, many_fields, many_names, long_area, room_left}
use Rattle.form_join.proofs.fits.Goals as goal
use Rattle.form_join.proofs.fits.Goals.{then-c-le-NODES, else-c-le-NODES, then-c-le-FIELDS, else-c-le-FIELDS, then-c-le-NAMES, else-c-le-NAMES}

pub returns-then-c-le-AREA : goal.returns-then-c-le-AREA
returns-then-c-le-AREA c = search room_left

pub returns-else-c-le-AREA : goal.returns-else-c-le-AREA
returns-else-c-le-AREA c = elim c.if-c-le-NAMES.branch [
  | then-c-le-NAMES w ↦ w.t-4-is ∙ lt-leb _ 4096 (grind arith) ∙ long_area _ _ (omega arith) (omega arith) (omega arith) (grind arith)
  | else-c-le-NAMES w ↦
      w.t-4-is
      ∙ (elim c.if-c-le-FIELDS.branch [
        | then-c-le-FIELDS u ↦ u.t-5-is ∙ lt-leb _ 128 (grind arith) ∙ many_names _ _ (omega arith) (omega arith) (grind arith)
        | else-c-le-FIELDS u ↦
            u.t-5-is
            ∙ (elim c.if-c-le-NODES.branch [
              | then-c-le-NODES v ↦ v.t-6-is ∙ lt-leb _ 16 (omega arith) ∙ many_fields _ _ (omega arith) (omega arith)
              | else-c-le-NODES v ↦ v.t-6-is ∙ lt-leb _ 64 (omega arith) ∙ many_nodes _ _ (omega arith)
            ])
      ])
]
