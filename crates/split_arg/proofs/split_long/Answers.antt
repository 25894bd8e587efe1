-- The first `=` from byte 2 on ends the name (`Names`). Assumes nothing.
use mathlib.Core.Path.{sym, ◌∙◌}
use native.Mathlib.Omega.{arith}
use Rattle.split_arg.proofs.Names.{equals_least, equals_most, no_long_name, long_bad, long_whole, long_value}
use Rattle.split_arg.proofs.split_long.Goals as goal

pub returns-then-os-eq2 : goal.returns-then-os-eq2
returns-then-os-eq2 c = no_long_name _ c.requires c.if-os-eq2.true

pub slice_bounds-valid-count : goal.slice_bounds-valid-count
slice_bounds-valid-count c = omega (arith, equals_least _ c.requires _ c.find_equals-end.ensures, equals_most _ c.requires _ c.find_equals-end.ensures)

pub slice_bounds-valid-start : goal.slice_bounds-valid-start
slice_bounds-valid-start c = omega (arith, equals_least _ c.requires _ c.find_equals-end.ensures, equals_most _ c.requires _ c.find_equals-end.ensures)

pub slice_bounds-valid-end : goal.slice_bounds-valid-end
slice_bounds-valid-end c = omega (arith, equals_least _ c.requires _ c.find_equals-end.ensures, equals_most _ c.requires _ c.find_equals-end.ensures)

pub returns-then-not-valid : goal.returns-then-not-valid
returns-then-not-valid c = long_bad _ c.requires _ c.find_equals-end.ensures c.if-os-eq2.false (sym c.valid.ensures ∙ c.if-not-valid.true)

pub returns-then-end-os : goal.returns-then-end-os
returns-then-end-os c = long_whole _ c.requires _ c.find_equals-end.ensures c.if-os-eq2.false c.if-end-os.true (sym c.valid.ensures ∙ c.if-not-valid.false)

pub overflow_sub-name : goal.overflow_sub-name
overflow_sub-name c = omega (arith, equals_least _ c.requires _ c.find_equals-end.ensures, equals_most _ c.requires _ c.find_equals-end.ensures)

pub overflow_add-body : goal.overflow_add-body
overflow_add-body c = omega (arith, equals_least _ c.requires _ c.find_equals-end.ensures, equals_most _ c.requires _ c.find_equals-end.ensures)

pub returns : goal.returns
returns c = long_value _ c.requires _ c.find_equals-end.ensures c.if-os-eq2.false c.if-end-os.false (sym c.valid.ensures ∙ c.if-not-valid.false)
