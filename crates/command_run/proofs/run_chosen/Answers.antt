use Rattle.form_codes.proofs.NameCodes.{codes_room}
use Rattle.command_run.proofs.Chosen.{chosen_checks, chosen_names, items_begin}
use Rattle.command_run.proofs.run_chosen.Goals as goal

pub codes-requires : goal.codes-requires
codes-requires c =
    let pre = c.requires in (
      chosen_names _ _ _ _ _ _ _ _ pre _ c.command_form-form.ensures,
      codes_room _ _ (chosen_names _ _ _ _ _ _ _ _ pre _ c.command_form-form.ensures)
          c.no_codes-codes.ensures,
    )

pub run_items-requires : goal.run_items-requires
run_items-requires c = items_begin _ _ _ _ _ _ _ _ c.requires _ c.command_form-form.ensures _ c.codes.ensures.coded

pub returns : goal.returns
returns c = λ cs fs a reads formed has. c.run_items.ensures a (chosen_checks _ _ _ _ _ _ _ _ c.requires _ c.command_form-form.ensures cs fs a reads formed has)
