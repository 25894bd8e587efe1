-- A good name lies in the area. Assumes nothing.
use native.Mathlib.Omega.{arith}
use borrow.Author.Rules.{rules}
use Rattle.form_layout.proofs.Sizes.{length_counts}
use Rattle.call_text.proofs.Records.{other_type, record_small, text_type}
use Rattle.call_text.proofs.record_part.Goals as goal

pub returns-then-x-ne2 : goal.returns-then-x-ne2
returns-then-x-ne2 c = search other_type

pub area_at-requires : goal.area_at-requires
area_at-requires c = search (length_counts, rules)

pub overflow_add-offset : goal.overflow_add-offset
overflow_add-offset c = record { fits = omega (arith, record_small _ _ c.requires _ c.name_at-x.ensures _ c.area_at.ensures) }

pub overflow_cast-result : goal.overflow_cast-result
overflow_cast-result c = record { fits = omega (arith, record_small _ _ c.requires _ c.name_at-x.ensures _ c.area_at.ensures) }

pub overflow_cast-result-2 : goal.overflow_cast-result-2
overflow_cast-result-2 c = record { fits = omega (arith, record_small _ _ c.requires _ c.name_at-x.ensures _ c.area_at.ensures) }

pub returns : goal.returns
returns c = search text_type
