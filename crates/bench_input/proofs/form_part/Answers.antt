-- The bytes before the end. Assumes nothing.
use Rattle.bench_input.proofs.Ends.{front_length, front}
use Rattle.bench_input.proofs.form_part.Goals as goal

pub slice_bounds-result-end : goal.slice_bounds-result-end
slice_bounds-result-end c = search front_length

pub returns : goal.returns
returns c = search front
