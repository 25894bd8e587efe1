-- One limit after the other. Assumes nothing.
use mathlib.Core.Bool.{false≢true}
use mathlib.Core.Path.{sym, ◌∙◌}
use borrow.Author.Tests.{lt-leb}
use Rattle.command_check.proofs.Steps.{entry_short, many_names, long_area, entry_room}
use Rattle.command_check.proofs.fits.Goals as goal
use Rattle.command_check.proofs.fits.Goals.{then-entry-ge-HEAD, else-entry-ge-HEAD, then-name_count-le-NAMES, else-name_count-le-NAMES}

pub returns-then-area_size-le-AREA : goal.returns-then-area_size-le-AREA
returns-then-area_size-le-AREA c = elim c.if-name_count-le-NAMES.branch [
  | then-name_count-le-NAMES w ↦ elim c.if-entry-ge-HEAD.branch [
    | then-entry-ge-HEAD u ↦
        entry_room _ _ u.name_count.ensures (sym u.value-is ∙ w.if-name_count-le-NAMES.true) _ w.area_size.ensures
        (sym w.value-is ∙ c.if-area_size-le-AREA.true) _ c.form_at.ensures
    | else-entry-ge-HEAD u ↦ absurd (false≢true (sym (lt-leb 4 _ u.if-entry-ge-HEAD.false) ∙ sym u.value-is ∙ w.if-name_count-le-NAMES.true))
  ]
  | else-name_count-le-NAMES w ↦ absurd (false≢true (sym w.if-name_count-le-NAMES.false ∙ sym w.value-is ∙ c.if-area_size-le-AREA.true))
]

pub returns-else-area_size-le-AREA : goal.returns-else-area_size-le-AREA
returns-else-area_size-le-AREA c = elim c.if-name_count-le-NAMES.branch [
  | then-name_count-le-NAMES w ↦ elim c.if-entry-ge-HEAD.branch [
    | then-entry-ge-HEAD u ↦
        c.if-area_size-le-AREA.false
        ∙ long_area _ _ u.name_count.ensures (sym u.value-is ∙ w.if-name_count-le-NAMES.true) _ w.area_size.ensures (sym w.value-is ∙ c.if-area_size-le-AREA.false)
    | else-entry-ge-HEAD u ↦ absurd (false≢true (sym (lt-leb 4 _ u.if-entry-ge-HEAD.false) ∙ sym u.value-is ∙ w.if-name_count-le-NAMES.true))
  ]
  | else-name_count-le-NAMES w ↦ elim c.if-entry-ge-HEAD.branch [
    | then-entry-ge-HEAD u ↦ c.if-area_size-le-AREA.false ∙ many_names _ _ u.name_count.ensures (sym u.value-is ∙ w.if-name_count-le-NAMES.false)
    | else-entry-ge-HEAD u ↦ c.if-area_size-le-AREA.false ∙ entry_short _ u.if-entry-ge-HEAD.false
  ]
]
