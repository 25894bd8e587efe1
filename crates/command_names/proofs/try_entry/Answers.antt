-- The long names are tried, and where none is taken the short ones behind them. Assumes nothing.
use Rattle.command_names.proofs.Laws.{entry_long, entry_can, entry_sum, entry_short}
use Rattle.command_names.proofs.try_entry.Goals as goal

pub returns-then-long-ne0 : goal.returns-then-long-ne0
returns-then-long-ne0 c = entry_long _ _ _ _ _ _ c.requires _ _ c.try_kind-long.ensures c.if-long-ne0.true

pub try_kind-short-requires : goal.try_kind-short-requires
try_kind-short-requires c = entry_can _ _ _ _ _ _ c.requires _ _ c.try_kind-long.ensures c.if-long-ne0.false

pub behind-requires : goal.behind-requires
behind-requires c = entry_sum _ _ _ _ _ _ c.requires _ _ c.try_kind-long.ensures c.if-long-ne0.false _ _ c.try_kind-short.ensures

pub returns : goal.returns
returns c = entry_short _ _ _ _ _ _ c.requires _ _ c.try_kind-long.ensures c.if-long-ne0.false _ _ c.try_kind-short.ensures _ c.behind.ensures
