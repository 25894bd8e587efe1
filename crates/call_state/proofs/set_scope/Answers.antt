-- By the laws of the calls on one state. Assumes nothing.
use native.Mathlib.Omega.{arith}
use borrow.Author.Rules.{rules}
use borrow.Author.Tests.{lt-ltb, le-ltb}
use Rattle.call_state.proofs.Entries.{in_fine, scope_bad, falling, leaving, scope_done}
use Rattle.call_state.proofs.set_scope.Goals as goal
use Rattle.call_state.proofs.set_scope.Goals.{then-to-from-via-then-to-from, then-to-from-via-else-to-from+then-count-to}

pub returns-then-not-good : goal.returns-then-not-good
returns-then-not-good c = search scope_bad

pub returns-then-to-from : goal.returns-then-to-from
returns-then-to-from c =
    elim c.then-to-from.branch [
      | then-to-from-via-then-to-from w ↦ let h = w.if-to-from.true in search falling
      | then-to-from-via-else-to-from+then-count-to w ↦
          let h = lt-ltb c.args.s.count c.args.to w.if-count-to.true in search leaving
    ]

pub set_scope-requires : goal.set_scope-requires
set_scope-requires c = (search in_fine, search rules, omega arith)

pub returns : goal.returns
returns c =
    let inside = le-ltb c.args.s.count c.args.to c.if-count-to.false in
    search scope_done
