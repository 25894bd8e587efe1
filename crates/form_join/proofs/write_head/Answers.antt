-- The counts are eight bytes. Assumes nothing.
use native.Mathlib.Omega.{arith}
use Rattle.form_join.specs.Written.{count_bytes}
use Rattle.form_join.proofs.JoinedLaws.{counts_fit, fields_fit, fields_room, fields_part, head_written}
use Rattle.form_join.proofs.write_head.Goals as goal

pub write_counts-requires : goal.write_counts-requires
write_counts-requires c = search counts_fit

pub join_records-requires : goal.join_records-requires
join_records-requires c = fields_room _ _ _ _ (fields_fit _ _ _ c.requires _ (count_bytes c.counts_both-c.result) c.write_counts.ensures)

pub returns : goal.returns
returns c =
    head_written _ _ _ _ _ _ _ c.counts_both-c.ensures c.write_counts.ensures
    (fields_part _ _ _ _ _ _ _ c.requires (omega arith) c.join_records.ensures)
