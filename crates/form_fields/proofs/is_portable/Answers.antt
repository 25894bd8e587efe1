use Rattle.form_fields.proofs.Given.{passing_first, passing_bad, passing_next, passing_last}
use Rattle.form_layout.proofs.Sizes.{sized, has_name}
use Rattle.std.proofs.Math.Path.{ap}
use mathlib.Core.Bool.{not}
use Rattle.form_fields.proofs.is_portable.Goals as goal

pub name_count-m-requires : goal.name_count-m-requires
name_count-m-requires c = (sized _ c.requires.good).counts.long

pub loop-k-init : goal.loop-k-init
loop-k-init c = passing_first _

pub portable_at-requires : goal.portable_at-requires
portable_at-requires c = has_name _ c.requires _ _ c.name_count-m.ensures c.loop-k-test.true

pub returns-then-not-portable_at : goal.returns-then-not-portable_at
returns-then-not-portable_at c = passing_bad _ _ _ c.name_count-m.ensures c.loop-k.invariant c.loop-k-test.true _ c.portable_at.ensures (ap not c.if-not-portable_at.true)

pub loop-k-preserved : goal.loop-k-preserved
loop-k-preserved c = passing_next _ _ _ c.name_count-m.ensures c.loop-k.invariant c.loop-k-test.true _ c.portable_at.ensures (ap not c.if-not-portable_at.false)

pub returns : goal.returns
returns c = passing_last _ _ _ c.name_count-m.ensures c.loop-k.invariant c.loop-k-test.false
