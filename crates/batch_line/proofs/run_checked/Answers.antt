use lib.ListN.{length}
use mathlib.Core.Path.{◌∙◌}
use Rattle.split_args.proofs.States.{fill_long}
use Rattle.run.proofs.Runs.{after_split, cleared_answer}
use Rattle.batch_line.proofs.Sheet.{known_ends}
use Rattle.batch_line.proofs.run_checked.Goals as goal

pub run_split-requires : goal.run_split-requires
run_split-requires c =
    after_split _ _ _ _ _ c.requires.1 _ c.fill.ensures _ c.fill-2.ensures _ c.requires.0.coded _ c.items-1.given
    _ (known_ends _ _ _ _ c.requires.0 _ _ _ _ c.construct-split.ensures) _ c.requires.2

pub shape_of-answers : goal.shape_of-answers
shape_of-answers c = c.answers-2-1.given ∙ fill_long _ c.args.answers.now 0 (length c.args.answers.now) c.fill.ensures

pub returns : goal.returns
returns c =
    cleared_answer _ _ _ _ _ c.requires.1 _ c.fill.ensures _ c.fill-2.ensures _ c.items-1.given _
    c.run_split.ensures
