use borrow.Author.Rules.{rules}
use mathlib.Core.Path.{refl}
use Rattle.batch_parts.proofs.Slices.{part_inside, record_replaced}
use Rattle.batch_parts.proofs.write_record.Goals as goal

pub bounds-records-at-2 : goal.bounds-records-at-2
bounds-records-at-2 c = search (part_inside, rules)

pub bounds-records-at-3 : goal.bounds-records-at-3
bounds-records-at-3 c = search (part_inside, rules)

pub bounds-records-at-4 : goal.bounds-records-at-4
bounds-records-at-4 c = search (part_inside, rules)

pub returns : goal.returns
returns c = record_replaced _ c.args.r _ _ c.requires refl
