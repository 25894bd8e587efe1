-- The scope, then the mark. Assumes nothing.
use borrow.Author.Rules.{rules}
use mathlib.Core.Path.{refl}
use Rattle.call_find.proofs.Ends.{reached_before, reached_behind, reached_past, reached_mark}
use Rattle.call_find.proofs.is_reached.Goals as goal
use Rattle.call_find.proofs.is_reached.Goals.{then-i-s-via-then-i-s, then-i-s-via-else-i-s+then-s-i, then-i-s-via-else-i-s+else-s-i+then-i-ge256}

pub returns-then-i-s : goal.returns-then-i-s
returns-then-i-s c =
    elim c.then-i-s.branch [
      | then-i-s-via-then-i-s w ↦ reached_before _ _ _ refl w.if-i-s.true
      | then-i-s-via-else-i-s+then-s-i w ↦ reached_behind _ _ _ refl w.if-i-s.false _ refl w.if-s-i.true
      | then-i-s-via-else-i-s+else-s-i+then-i-ge256 w ↦
          reached_past _ _ _ refl w.if-i-s.false _ refl w.if-s-i.false (search rules) w.if-i-ge256.true
    ]

pub returns : goal.returns
returns c =
    reached_mark _ _ _ refl c.if-i-s.false _ refl c.if-s-i.false (search rules) c.if-i-ge256.false _ c.is_present.ensures
