-- A turn: what was found is at most one above the count, and from place i the scan goes on as it
-- does from the start.
use Rattle.std.proofs.Common.{◌≡◌, ◌+◌, ◌≤◌, drop}
use Rattle.call_find.specs.Scan.{unseen, scan}
use Rattle.call_find.proofs.find.Given as goal

abbrev pub invariant-loop-i : goal.invariant-loop-i
invariant-loop-i l = record {
  small : l.seen.found ≤ l.seen.count + 1;
  same : scan l.form l.sheet l.s l.search l.items 0 unseen ≡ scan l.form l.sheet l.s l.search (drop l.i l.items) l.i l.seen;
}
