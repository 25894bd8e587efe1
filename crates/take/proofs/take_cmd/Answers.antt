-- By the first present item. Assumes nothing.
use mathlib.Core.Path.{refl}
use Rattle.take.proofs.Laws.{ready_item, cmd_missing, cmd_other, cmd_taken}
use Rattle.take.proofs.take_cmd.Goals as goal
use Rattle.take.proofs.take_cmd.Goals.{else-place-end-via-then-place-end+else-is_command, else-place-end-via-else-place-end}

pub is_command-requires : goal.is_command-requires
is_command-requires c = ready_item _ _ _ _ _ c.requires.1 _ _ refl refl _ refl c.requires.0 _ c.if-place-end.true

pub returns-then-is_command : goal.returns-then-is_command
returns-then-is_command c =
    cmd_taken _ _ _ _ _ c.requires.1 _ _ refl refl _ c.first_present-place.ensures c.args.word.now c.if-place-end.true _
    c.is_command.ensures c.if-is_command.true _ _ c.remove-left.ensures _ c.set_current.ensures

pub returns : goal.returns
returns c =
    elim c.else-place-end.branch [
      | else-place-end-via-then-place-end+else-is_command w ↦
          cmd_other _ _ _ _ _ c.requires.1 _ _ refl refl _ c.first_present-place.ensures c.args.word.now w.if-place-end.true _
          w.is_command.ensures w.if-is_command.false _ c.set_current-2.ensures
      | else-place-end-via-else-place-end w ↦
          cmd_missing _ _ _ _ _ c.requires.1 _ _ refl refl _ c.first_present-place.ensures c.args.word.now w.if-place-end.false _
          c.set_current-2.ensures
    ]
