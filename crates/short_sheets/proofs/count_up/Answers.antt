use Rattle.short_sheets.proofs.Digits.{carried_first, carried_to, carried_on, carried_all}
use Rattle.short_sheets.proofs.count_up.Goals as goal

pub loop-i-init : goal.loop-i-init
loop-i-init c = search carried_first

pub returns-then-digits-i : goal.returns-then-digits-i
returns-then-digits-i c = search carried_to

pub loop-i-preserved : goal.loop-i-preserved
loop-i-preserved c = search carried_on

pub returns : goal.returns
returns c = search carried_all
