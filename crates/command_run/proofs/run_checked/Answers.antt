use mathlib.Core.Path.{◌∙◌}
use lib.ListN.{length}
use Rattle.split_args.proofs.States.{fill_long}
use Rattle.command_run.proofs.Reports.{splitting_refused, line_split, split_answer, marker_within}
use Rattle.command_run.proofs.run_checked.Goals as goal

pub begin-p-requires : goal.begin-p-requires
begin-p-requires c = (marker_within _ _ _ _ _ c.requires.0 _ _ c.split-split.ensures, c.requires.1)

pub shape_of-answers-then-split-ne0 : goal.shape_of-answers-then-split-ne0
shape_of-answers-then-split-ne0 c = fill_long _ c.args.answers.now 0 (length c.args.answers.now) c.fill.ensures

pub returns-then-split-ne0 : goal.returns-then-split-ne0
returns-then-split-ne0 c =
    splitting_refused _ _ _ _ _ c.requires.0 _ c.fill.ensures _ c.fill-2.ensures _ _ c.split-split.ensures _ _ c.begin-p.ensures c.if-split-ne0.true _
    c.refused.ensures _ c.told.ensures

pub run_table-requires : goal.run_table-requires
run_table-requires c = line_split _ _ _ _ _ c.requires.0 _ c.fill.ensures _ c.fill-2.ensures _ _ c.split-split.ensures _ _ c.begin-p.ensures c.if-split-ne0.false

pub shape_of-answers : goal.shape_of-answers
shape_of-answers c = c.answers-2-1.given ∙ fill_long _ c.args.answers.now 0 (length c.args.answers.now) c.fill.ensures

pub shape_of-list : goal.shape_of-list
shape_of-list c = c.list-2-1.given ∙ fill_long _ c.args.list.now 0 (length c.args.list.now) c.fill-2.ensures

pub returns : goal.returns
returns c = split_answer _ _ _ _ _ c.requires.0 _ c.fill.ensures _ c.fill-2.ensures _ _ c.split-split.ensures _ _ c.begin-p.ensures c.if-split-ne0.false _ c.run_table.ensures
