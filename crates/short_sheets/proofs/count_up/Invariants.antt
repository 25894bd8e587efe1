-- Invariant: the digits from i on were the highest, and are 0. Assumes nothing.
use Rattle.short_sheets.proofs.Digits.{Carried}
use Rattle.short_sheets.proofs.count_up.Given as goal

abbrev pub invariant-loop-i : goal.invariant-loop-i
invariant-loop-i l = Carried l.base l.initial.digits l.digits l.i
