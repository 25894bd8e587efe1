use mathlib.Core.Logic.{inr}
use mathlib.Core.Path.{refl}
use native.Mathlib.Omega.{arith}
use Rattle.batch_check.proofs.Sheets.{batch_short}
use Rattle.batch_check.proofs.fits.Goals as goal

pub returns-then-batch-lt-COUNT_BYTES : goal.returns-then-batch-lt-COUNT_BYTES
returns-then-batch-lt-COUNT_BYTES c = search batch_short

pub table_good-requires : goal.table_good-requires
table_good-requires c = (inr refl, omega arith)
