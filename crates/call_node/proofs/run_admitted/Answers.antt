use borrow.Author.Rules.{rules}
use mathlib.Core.Path.{refl}
use Rattle.call_node.proofs.Answers.{cleared_checked, cleared_made, cleared_holds, cleared_few, cleared_long, node_stands, node_runs, missing_stands, missing_runs}
use Rattle.call_node.proofs.run_admitted.Goals as goal

pub known_of-known-requires : goal.known_of-known-requires
known_of-known-requires c = (
  search cleared_checked,
  search (cleared_made, rules),
  cleared_holds _ _ _ _ _ _ _ c.requires _ refl,
  cleared_few _ _ _ _ _ _ _ c.requires _ refl,
)

pub node_mark-mark-requires : goal.node_mark-mark-requires
node_mark-mark-requires c = search cleared_long

pub run_value-ran-requires : goal.run_value-ran-requires
run_value-ran-requires c = node_stands _ _ _ _ _ _ _ c.requires _ c.numbers_of-p.ensures _ c.node_mark-mark.ensures _ refl _ c.known_of-known.ensures

pub slice_bounds-line-end : goal.slice_bounds-line-end
slice_bounds-line-end c = search (rules, c.known_of-known.type_inv)

pub list_missing-requires : goal.list_missing-requires
list_missing-requires c =
    missing_stands _ _ _ _ _ _ _ c.requires _ c.numbers_of-p.ensures _ c.node_mark-mark.ensures _ _ _ c.run_value-ran.ensures
    c.if-ran-eq-MISSING.true _ refl _ c.known_of-known.ensures

pub returns-then-ran-eq-MISSING : goal.returns-then-ran-eq-MISSING
returns-then-ran-eq-MISSING c =
    missing_runs _ _ _ _ _ _ _ c.requires _ c.numbers_of-p.ensures _ c.node_mark-mark.ensures _ _ _ c.run_value-ran.ensures
    c.if-ran-eq-MISSING.true (search (rules, c.well_formed)) _ _ c.list_missing.ensures _ c.answered.ensures

pub returns : goal.returns
returns c =
    node_runs _ _ _ _ _ _ _ c.requires _ c.numbers_of-p.ensures _ c.node_mark-mark.ensures _ _ _ c.run_value-ran.ensures
    (search (rules, c.well_formed)) _ c.if-ran-eq-MISSING.false c.answered-2.ensures
