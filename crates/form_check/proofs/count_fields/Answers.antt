use native.Mathlib.Omega.{arith}
use mathlib.Core.Path.{refl}
use Rattle.form_check.proofs.Counting.{fields_next, fields_bad, fields_last}
use Rattle.form_layout.proofs.Sizes.{sized, fields_length}
use Rattle.form_check.proofs.count_fields.Goals as goal

pub field_count-f-requires : goal.field_count-f-requires
field_count-f-requires c = (sized _ c.requires.0).counts.long

pub loop-i-init : goal.loop-i-init
loop-i-init c = record { nodes = refl; counts = refl }

pub field_at-k-requires : goal.field_at-k-requires
field_at-k-requires c = (c.requires.0, omega (arith, c.field_count-f.ensures))

pub returns-then-n-k : goal.returns-then-n-k
returns-then-n-k c = fields_bad _ _ _ _ _ c.loop-i.invariant _ c.field_at-k.ensures c.if-n-k.true

pub add-requires : goal.add-requires
add-requires c = omega (arith, c.if-n-k.false, c.requires.1)

pub loop-i-preserved : goal.loop-i-preserved
loop-i-preserved c = fields_next _ _ _ _ _ c.loop-i.invariant _ _ c.field_at-k.ensures c.if-n-k.false c.add.ensures

pub returns : goal.returns
returns c = fields_last _ _ _ _ _ c.loop-i.invariant (omega (arith, c.field_count-f.ensures, fields_length c.args.b.now))
