-- The bytes from the end on. Assumes nothing.
use Rattle.bench_input.proofs.Ends.{inside, rest}
use Rattle.bench_input.proofs.sheet_part.Goals as goal

pub slice_bounds-result-count : goal.slice_bounds-result-count
slice_bounds-result-count c = search inside

pub slice_bounds-result-start : goal.slice_bounds-result-start
slice_bounds-result-start c = search inside

pub returns : goal.returns
returns c = search rest
