-- The sum of the parts that the header counts. Assumes nothing.
use Rattle.bench_input.proofs.Ends.{length_sum}
use Rattle.bench_input.proofs.form_length.Goals as goal

pub returns : goal.returns
returns c = search length_sum
