-- Words 5 and 6 of a record that is an item name a part of the sheet. Assumes nothing.
use mathlib.Core.Logic.{inl}
use mathlib.Core.Path.{refl}
use native.Mathlib.Omega.{arith}
use Rattle.call_table.proofs.Laws.{start_small}
use Rattle.call_text.proofs.Items.{item_small, item_finds}
use Rattle.call_text.proofs.item_part.Goals as goal

pub area_start-area-requires : goal.area_start-area-requires
area_start-area-requires c = (inl refl, start_small _ c.requires.made _ c.count.ensures)

pub overflow_add-offset-2 : goal.overflow_add-offset-2
overflow_add-offset-2 c = record { fits = omega (arith, item_small _ _ _ c.requires _ c.count.ensures _ c.area_start-area.ensures _ _ refl refl) }

pub overflow_cast-result : goal.overflow_cast-result
overflow_cast-result c = record { fits = omega (arith, item_small _ _ _ c.requires _ c.count.ensures _ c.area_start-area.ensures _ _ refl refl) }

pub returns : goal.returns
returns c = item_finds _ _ _ c.requires _ c.count.ensures _ c.area_start-area.ensures _ _ refl refl
