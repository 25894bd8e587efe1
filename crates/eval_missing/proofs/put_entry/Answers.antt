-- Three stores, one behind the other. Assumes nothing.
use mathlib.Core.Path.{refl}
use native.Mathlib.Omega.{arith}
use lib.ListN.{length-set}
use Rattle.eval_missing.proofs.Entries.{entry_put}
use Rattle.eval_missing.proofs.put_entry.Goals as goal

pub bounds-list-at-2 : goal.bounds-list-at-2
bounds-list-at-2 c = simp length-set (omega arith)

pub bounds-list-at-3 : goal.bounds-list-at-3
bounds-list-at-3 c = simp length-set (omega arith)

pub returns : goal.returns
returns c = let a = c.args in (refl, entry_put a.list.now a.at a.node a.p.start a.p.end)
