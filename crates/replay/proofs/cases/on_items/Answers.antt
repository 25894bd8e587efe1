-- A text, or a call on states. Assumes nothing.
use Rattle.replay.proofs.Told.{item_told}
use Rattle.replay.specs.Cases.{text, states}
use borrow.Author.Rules.{rules}
use Rattle.replay.proofs.cases.on_items.Goals as goal

pub returns-then-h-eq4 : goal.returns-then-h-eq4
returns-then-h-eq4 c e = item_told _ _ _ (search rules) _ _ c.split.ensures _ _ _ _ _ (text c.if-h-eq4.true (c.text.ensures e))

pub returns : goal.returns
returns c e = item_told _ _ _ (search rules) _ _ c.split.ensures _ _ _ _ _ (states (c.on_states.ensures e))
