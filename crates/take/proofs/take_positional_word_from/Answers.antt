-- By what the search finds. Assumes nothing.
use mathlib.Core.Path.{refl}
use Rattle.take.proofs.Laws.{ready_room, ready_below, here_fine, operand_sought, operand_found, positional_missing, positional_taken}
use Rattle.take.proofs.take_positional_word_from.Goals as goal

pub returns-then-end-place : goal.returns-then-end-place
returns-then-end-place c =
    positional_missing _ _ _ _ (c.requires.0, c.requires.1) _ _ refl refl _
    (operand_sought _ _ _ _ (c.requires.0, c.requires.1) _ _ refl refl _ c.requires.2 _ c.find_operand-place.ensures) c.if-end-place.true

pub remove-left-requires : goal.remove-left-requires
remove-left-requires c = (here_fine _ _ c.requires.1.fine _ (ready_below _ _ _ _ _ c.requires.1 _ _ refl refl _ c.if-end-place.false) _ c.set_current-here.ensures, c.requires.1.told)

pub is_strict-requires : goal.is_strict-requires
is_strict-requires c =
    let pre = c.requires in (
      ready_room _ _ _ _ _ pre.1 _ _ refl refl _ c.if-end-place.false,
      operand_found _ _ _ _ (pre.0, pre.1) _ _ refl refl _
          (operand_sought _ _ _ _ (pre.0, pre.1) _ _ refl refl _ pre.2 _ c.find_operand-place.ensures) c.if-end-place.false,
    )

pub text_at-requires : goal.text_at-requires
text_at-requires c = ready_room _ _ _ _ _ c.requires.1 _ _ refl refl _ c.if-end-place.false

pub returns : goal.returns
returns c =
    positional_taken _ _ _ _ (c.requires.0, c.requires.1) _ _ refl refl _
    (operand_sought _ _ _ _ (c.requires.0, c.requires.1) _ _ refl refl _ c.requires.2 _ c.find_operand-place.ensures) c.if-end-place.false _ c.set_current-here.ensures
    _ _ c.remove-left.ensures _ c.is_strict.ensures _ c.text_at.ensures
