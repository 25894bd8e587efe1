use Rattle.split_args.proofs.States.{fill_long}
use Rattle.form_codes.proofs.NameCodes.{codes_room}
use Rattle.split_line.proofs.Lines.{splittable_names}
use lib.ListN.{length}
use mathlib.Core.Path.{◌∙◌}
use Rattle.run.proofs.Runs.{after_split, cleared_answer}
use Rattle.run.proofs.run_checked.Goals as goal

pub codes-requires : goal.codes-requires
codes-requires c = search (splittable_names, codes_room)

pub run_split-requires : goal.run_split-requires
run_split-requires c = search after_split

pub shape_of-answers : goal.shape_of-answers
shape_of-answers c = c.answers-2-1.given ∙ fill_long _ c.args.answers.now 0 (length c.args.answers.now) c.fill.ensures

pub shape_of-list : goal.shape_of-list
shape_of-list c = c.list-2-1.given ∙ fill_long _ c.args.list.now 0 (length c.args.list.now) c.fill-2.ensures

pub returns : goal.returns
returns c = cleared_answer _ _ _ _ _ c.requires.0 _ c.fill.ensures _ c.fill-2.ensures _ c.items-1.given _ c.run_split.ensures
