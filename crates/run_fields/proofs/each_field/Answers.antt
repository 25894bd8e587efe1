use Rattle.run_fields.proofs.Going.{starts_long, going_first, field_good, field_inside, going_number, going_sum, going_field, going_tries}
use Rattle.run_fields.proofs.Going.{going_at, going_most, going_long, long_refused, going_refused, going_next, going_end}
use Rattle.run_fields.proofs.each_field.Goals as goal

pub field_count-n-requires : goal.field_count-n-requires
field_count-n-requires c = search starts_long

pub loop-k-init : goal.loop-k-init
loop-k-init c = search going_first

pub field_at-node-requires : goal.field_at-node-requires
field_at-node-requires c = (search field_good, search field_inside)

pub overflow_add-first : goal.overflow_add-first
overflow_add-first c = record { fits = search going_sum }

pub field_mark-mark-requires : goal.field_mark-mark-requires
field_mark-mark-requires c = search going_number

pub run_field-ran-requires : goal.run_field-ran-requires
run_field-ran-requires c = search going_field

pub overflow_add-tries : goal.overflow_add-tries
overflow_add-tries c = record { fits = search going_tries }

pub shape_of-out-then-ran-ne0 : goal.shape_of-out-then-ran-ne0
shape_of-out-then-ran-ne0 c =
    long_refused _ _ _ _ _ _ _ _ _ _ _ _ _ _ _ c.loop-k.invariant c.loop-k-test.true _ c.field_at-node.ensures _ c.field_mark-mark.ensures _ _ _
    c.run_field-ran.ensures _ c.fill.ensures

pub returns-then-ran-ne0 : goal.returns-then-ran-ne0
returns-then-ran-ne0 c =
    going_refused _ _ _ _ _ _ _ _ _ _ _ _ _ _ _ c.loop-k.invariant c.loop-k-test.true _ c.field_at-node.ensures _ c.field_mark-mark.ensures _ _ _
    c.run_field-ran.ensures c.if-ran-ne0.true _ c.fill.ensures _ c.refused.ensures

pub overflow_add-at : goal.overflow_add-at
overflow_add-at c = record { fits = search going_at }

pub loop-k-preserved : goal.loop-k-preserved
loop-k-preserved c = search going_next

pub answered-requires : goal.answered-requires
answered-requires c = search going_most

pub shape_of-out : goal.shape_of-out
shape_of-out c = search going_long

pub returns : goal.returns
returns c = search going_end
