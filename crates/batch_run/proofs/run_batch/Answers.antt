use mathlib.Core.Path.{sym, ◌∙◌}
use Rattle.batch_run.proofs.Ends.{batch_head, batch_room, cleared_fits, batch_ran, batch_refused, no_parts}
use Rattle.batch_run.proofs.run_batch.Goals as goal

pub clear_parts-requires : goal.clear_parts-requires
clear_parts-requires c = no_parts _ _ _ _

pub returns-then-not-fits : goal.returns-then-not-fits
returns-then-not-fits c =
    batch_refused _ c.args.records.now c.args.items.now c.args.answers.now c.args.list.now _ _ _ _ _ _ c.fits.ensures
    c.if-not-fits.true c.clear_parts.ensures.records_after c.clear_parts.ensures.after c.clear_parts.ensures.answers_after
    c.clear_parts.ensures.list_after

pub sheet_count-n-requires : goal.sheet_count-n-requires
sheet_count-n-requires c = batch_head _ c.args.records.now c.args.items.now c.args.answers.now c.args.list.now (sym c.fits.ensures ∙ c.if-not-fits.false)

pub clear_parts-requires-2 : goal.clear_parts-requires-2
clear_parts-requires-2 c =
    batch_room _ c.args.records.now c.args.items.now c.args.answers.now c.args.list.now (sym c.fits.ensures ∙ c.if-not-fits.false) _
    c.sheet_count-n.ensures

pub run_form-requires : goal.run_form-requires
run_form-requires c =
    cleared_fits _ c.args.records.now c.args.items.now c.args.answers.now c.args.list.now (sym c.fits.ensures ∙ c.if-not-fits.false) _
    c.sheet_count-n.ensures _ _ _ _ c.clear_parts-2.ensures.records_after c.clear_parts-2.ensures.after c.clear_parts-2.ensures.answers_after
    c.clear_parts-2.ensures.list_after

pub returns : goal.returns
returns c =
    batch_ran _ c.args.records.now c.args.items.now c.args.answers.now c.args.list.now (sym c.fits.ensures ∙ c.if-not-fits.false) _
    c.sheet_count-n.ensures _ _ _ _ c.clear_parts-2.ensures.records_after c.clear_parts-2.ensures.after c.clear_parts-2.ensures.answers_after
    c.clear_parts-2.ensures.list_after _ _ _ _ _ c.run_form.ensures
