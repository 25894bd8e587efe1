use borrow.Author.Rules.{rules}
use Rattle.form_codes.proofs.NameCodes.{codes_room}
use Rattle.form_letters.proofs.Words.{letters_fit}
use Rattle.batch_run.proofs.Known.{good_names, form_known}
use Rattle.batch_run.proofs.run_known.Goals as goal

pub codes-requires : goal.codes-requires
codes-requires c = search (good_names, codes_room)

pub letters-counts-requires : goal.letters-counts-requires
letters-counts-requires c = search (good_names, rules)

pub slice_bounds-run_sheets-end-2 : goal.slice_bounds-run_sheets-end-2
slice_bounds-run_sheets-end-2 c = search (letters_fit, good_names, rules)

pub slice_bounds-run_sheets-end-3 : goal.slice_bounds-run_sheets-end-3
slice_bounds-run_sheets-end-3 c = search (letters_fit, good_names, rules)

pub run_sheets-requires : goal.run_sheets-requires
run_sheets-requires c =
    let pre = c.requires in (
      form_known _ pre.0 _ c.codes.ensures.coded _ _ _ _ _ _ c.no_codes-flags.ensures c.no_codes-arguments.ensures c.letters-counts.ensures.flags
          c.letters-counts.ensures.arguments,
      pre.1,
    )
