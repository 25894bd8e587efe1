-- The first `=` from byte 2 on ends the name; with an `=` the name is one byte (`Names`). Assumes nothing.
use mathlib.Core.Path.{sym, ◌∙◌}
use Rattle.split_arg.proofs.Names.{short_bad, short_whole, letter_bad, short_value_lem, short_rest}
use Rattle.split_arg.proofs.split_short.Goals as goal

pub returns-then-valid : goal.returns-then-valid
returns-then-valid c = short_whole _ c.requires _ c.find_equals-equals.ensures c.if-equals-os.true (sym c.valid.ensures ∙ c.if-valid.true)

pub returns-then-equals-os : goal.returns-then-equals-os
returns-then-equals-os c = short_bad _ c.requires _ c.find_equals-equals.ensures c.if-equals-os.true (sym c.valid.ensures ∙ c.if-valid.false)

pub returns-then-not-valid : goal.returns-then-not-valid
returns-then-not-valid c = letter_bad _ c.requires _ c.find_equals-equals.ensures c.if-equals-os.false (sym c.valid-2.ensures ∙ c.if-not-valid.true)

pub returns-then-equals-eq2 : goal.returns-then-equals-eq2
returns-then-equals-eq2 c = short_value_lem _ c.requires _ c.find_equals-equals.ensures c.if-equals-os.false (sym c.valid-2.ensures ∙ c.if-not-valid.false) c.if-equals-eq2.true

pub returns : goal.returns
returns c = short_rest _ c.requires _ c.find_equals-equals.ensures c.if-equals-os.false (sym c.valid-2.ensures ∙ c.if-not-valid.false) c.if-equals-eq2.false
