-- Refused, or what `take` finds; a word that is taken stands at one of 256 places. Assumes nothing.
use borrow.Author.Rules.{rules}
use mathlib.Core.Path.{◌≡◌, ◌∙◌, ap, sym}
use lib.ListN.{length}
use mathlib.Core.Option.{some}
use native.Mathlib.Omega.{arith}
use Rattle.call_item.proofs.Laws.{positional_refused, positional_beyond, positional_ready, positional_missing, positional_below, positional_taken}
use Rattle.call_item.proofs.take_positional_word.Goals as goal

pub returns-in-Err : goal.returns-in-Err
returns-in-Err c = positional_refused _ _ _ _ c.in-Err.ensures _ ∙ ap some (sym c.unchanged.ensures)

pub returns-then-field-ge-MOST_FIELDS : goal.returns-then-field-ge-MOST_FIELDS
returns-then-field-ge-MOST_FIELDS c =
    positional_beyond _ _ _ c.in_default.ensures _ (omega (arith, c.if-field-ge-MOST_FIELDS.true)) ∙ ap some (sym c.unchanged-then-field-ge-MOST_FIELDS.ensures)

pub field_mark-requires : goal.field_mark-requires
field_mark-requires c = omega (arith, c.if-field-ge-MOST_FIELDS.false)

pub take_positional_word-taken-requires : goal.take_positional_word-taken-requires
take_positional_word-taken-requires c = (_, positional_ready _ _ _ c.in_default.ensures _ _ c.field_mark.ensures _ c.numbers_of.ensures)

pub returns-in_default-operand : goal.returns-in_default-operand
returns-in_default-operand c =
    positional_missing _ _ _ c.in_default.ensures _ (omega (arith, c.if-field-ge-MOST_FIELDS.false)) _ c.field_mark.ensures _ c.numbers_of.ensures _ _
    (c.take_positional_word-taken.ensures _) c.in_default-operand.is ∙ ap some (sym c.unchanged-in_default-operand.ensures)

pub overflow_cast-word : goal.overflow_cast-word
overflow_cast-word c =
    omega (
      arith,
      positional_below _ _ _ c.in_default.ensures _ (omega (arith, c.if-field-ge-MOST_FIELDS.false)) _ c.field_mark.ensures _
          c.numbers_of.ensures _ _ (c.take_positional_word-taken.ensures _) _ c.in-Some.is,
    )

pub returns : goal.returns
returns c =
    let long : length c.args.s.marks ≡ 256 = search (rules, c.well_formed) in
    positional_taken _ _ _ c.in_default.ensures _ (omega (arith, c.if-field-ge-MOST_FIELDS.false)) _ c.field_mark.ensures _ c.numbers_of.ensures _ _
    (c.take_positional_word-taken.ensures _) _ c.in-Some.is long _ c.joined.ensures _ c.yes_no.ensures
    ∙ ap some (sym c.changed.ensures)
