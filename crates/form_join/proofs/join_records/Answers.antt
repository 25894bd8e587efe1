-- The first's stay, the second's move behind them. Assumes nothing.
use Rattle.form_join.proofs.JoinedLaws.{first_fit, second_fit, both_written}
use Rattle.form_join.proofs.join_records.Goals as goal

pub write_records-middle-requires : goal.write_records-middle-requires
write_records-middle-requires g c = first_fit _ _ _ g.met.R.Record.sized _ _ _ _ c.requires _ c.none.ensures

pub write_records-requires : goal.write_records-requires
write_records-requires g c =
    second_fit _ _ _ g.met.R.Record.sized _ _ _ _ c.requires _ _ _ _ c.past.ensures c.write_records-middle.ensures

pub returns : goal.returns
returns g c =
    both_written _ _ _ g.met.R.Record.sized _ _ _ _ c.requires _ _ _ _ c.past.ensures c.write_records-middle.ensures _ _ c.none.ensures c.write_records.ensures
