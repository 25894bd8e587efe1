-- The number of records, the words behind them, then a test of each. Assumes nothing.
use mathlib.Core.Logic.{inl}
use mathlib.Core.Path.{refl, sym, ◌∙◌}
use Rattle.call_table.proofs.Laws.{start_small, start_within, area_length_lem, holds, holds_not, checks_tail}
use Rattle.call_table.proofs.check.Goals as goal
use Rattle.call_table.proofs.check.Goals.{else-tail_good-via-then-tail_good+else-records_good, else-tail_good-via-else-tail_good}

pub area_start-requires : goal.area_start-requires
area_start-requires c = (inl refl, start_small _ c.requires _ c.count.ensures)

pub overflow_sub-area : goal.overflow_sub-area
overflow_sub-area c = start_within _ c.requires _ c.count.ensures _ c.area_start.ensures

pub returns-then-records_good : goal.returns-then-records_good
returns-then-records_good c =
    let long = area_length_lem _ c.requires _ c.count.ensures _ c.area_start.ensures in
    holds _ _ _ c.trimmed_count-count.ensures _ c.tail_good.ensures c.if-tail_good.true (sym (c.records_good.ensures _ long) ∙ c.if-records_good.true)

pub returns : goal.returns
returns c =
    elim c.else-tail_good.branch [
      | else-tail_good-via-then-tail_good+else-records_good w ↦
          let long = area_length_lem _ c.requires _ c.count.ensures _ c.area_start.ensures in
          holds_not _ _ _ c.trimmed_count-count.ensures _ c.tail_good.ensures (sym (w.records_good.ensures _ long) ∙ w.if-records_good.false)
      | else-tail_good-via-else-tail_good w ↦ checks_tail _ _ _ c.trimmed_count-count.ensures _ c.tail_good.ensures w.if-tail_good.false
    ]
