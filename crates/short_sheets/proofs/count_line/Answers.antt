-- Places first, then lengths, then the number of arguments. Assumes nothing.
use Rattle.short_sheets.proofs.Lines.{part_there, counts_places, counts_lengths, counts_more}
use borrow.Author.Rules.{rules}
use Rattle.short_sheets.proofs.count_line.Goals.{then-count_up-via-then-count_up, then-count_up-via-else-count_up+then-count_up-2}
use Rattle.short_sheets.proofs.count_line.Goals as goal

pub slice_bounds-count_up-end-2 : goal.slice_bounds-count_up-end-2
slice_bounds-count_up-end-2 c = search (part_there, rules)

pub slice_bounds-count_up-end-else-count_up-2 : goal.slice_bounds-count_up-end-else-count_up-2
slice_bounds-count_up-end-else-count_up-2 c = search (part_there, rules)

pub returns-then-count_up : goal.returns-then-count_up
returns-then-count_up c = elim c.then-count_up.branch [
  | then-count_up-via-then-count_up w ↦ rw w.lengths-is (search counts_places)
  | then-count_up-via-else-count_up+then-count_up-2 w ↦ rw w.lengths-is (search counts_lengths)
]

pub returns : goal.returns
returns c = search counts_more
