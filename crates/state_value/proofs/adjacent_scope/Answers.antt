-- A law for each way out. Assumes nothing.
use mathlib.Core.Path.{refl}
use Rattle.state_value.proofs.Given.{until_ready, scope_none, scope_same, scope_some}
use Rattle.state_value.proofs.adjacent_scope.Goals.{then-end-count-via-then-end-count, then-end-count-via-else-end-count+then-end-s}
use Rattle.state_value.proofs.adjacent_scope.Goals as goal

pub until_present-end-requires : goal.until_present-end-requires
until_present-end-requires c = until_ready _ c.requires.0 _ c.requires.1 c.requires.2 _ _ refl refl

pub returns-then-end-count : goal.returns-then-end-count
returns-then-end-count c =
    let u = c.until_present-end.ensures in
    elim c.then-end-count.branch [
      | then-end-count-via-then-end-count w ↦ scope_none _ c.requires.0 _ c.requires.1 c.requires.2 _ _ _ refl refl u w.if-end-count.true
      | then-end-count-via-else-end-count+then-end-s w ↦
          scope_same _ c.requires.0 _ c.requires.1 c.requires.2 _ _ _ refl refl u w.if-end-count.false w.if-end-s.true
    ]

pub returns : goal.returns
returns c = scope_some _ c.requires.0 _ c.requires.1 c.requires.2 _ _ _ refl refl c.until_present-end.ensures c.if-end-count.false c.if-end-s.false
