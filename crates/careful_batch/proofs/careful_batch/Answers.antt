-- The run of the batch, and then its sheets one by one. Assumes nothing.
use mathlib.Core.Path.{refl}
use Rattle.std.proofs.lemmas.Result.{err_from_is_err_and}
use Rattle.rules.proofs.ReportedLaws.{numbered}
use Rattle.careful_batch.proofs.Ends.{refused_batch, has_batch, looked_batch}
use Rattle.careful_batch.proofs.careful_batch.Goals as goal

pub returns-in_err-run_batch : goal.returns-in_err-run_batch
returns-in_err-run_batch c =
    let p = err_from_is_err_and c.from_residual.result c.from_residual.ensures.1 in
    rw (p.1, p.2) (refused_batch _ _ _ _ _ _ _ _ _ _ _ c.in_err-run_batch.ensures (numbered c.in_err-run_batch.field-0.0))

pub look_sheets-requires : goal.look_sheets-requires
look_sheets-requires c =
    has_batch _ _ _ _ _ _ _ _ _ _ _ c.in_ok-run_batch.ensures refl c.records-1.given c.items-1.given
    c.answers-1.given c.list-1.given

pub returns : goal.returns
returns c =
    looked_batch _ _ _ _ _ _ _ _ _ _ _ c.in_ok-run_batch.ensures refl c.records-1.given c.items-1.given c.answers-1.given c.list-1.given
    _ _ c.look_sheets.ensures
