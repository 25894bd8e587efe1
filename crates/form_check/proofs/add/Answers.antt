-- At most 2 is counted. Assumes nothing.
use Rattle.form_check.proofs.Counting.{added_more, added_full}
use Rattle.form_check.proofs.add.Goals as goal

pub returns-then-counts-k-lt2 : goal.returns-then-counts-k-lt2
returns-then-counts-k-lt2 c = search added_more

pub returns-else-counts-k-lt2 : goal.returns-else-counts-k-lt2
returns-else-counts-k-lt2 c = search added_full
