-- By the kind of the item. Assumes nothing.
use Rattle.std.proofs.Math.Path.{refl}
use mathlib.Core.Logic.{⊎_elim, inl, inr}
use Rattle.take_search.proofs.Items.{long_part}
use Rattle.take_table.proofs.Lookups.{short_matched, long_matched, none_matched}
use Rattle.take_table.proofs.matching.Goals as goal

pub part_bytes-requires : goal.part_bytes-requires
part_bytes-requires c = long_part _ _ _ c.requires.1 _ c.read_item-item.ensures _ _ _ c.in-Long.is

pub returns-in-Short : goal.returns-in-Short
returns-in-Short c =
    short_matched _ _ _ _ _ c.requires.0 _ c.args.items.now c.args.i _ c.read_item-item.ensures _ _ _ _ c.limit.ensures _ c.in-Short.is
    (c.short_owners-set.ensures _ _ c.requires.0)

pub returns-in-Long : goal.returns-in-Long
returns-in-Long c =
    long_matched _ _ _ _ _ c.requires.0 c.args.sheet.now c.args.items.now c.args.i _ c.read_item-item.ensures
    _ _ _ _ c.limit-in-Long.ensures _ c.in-Long.is _ c.part_bytes.ensures c.long_owners-set.ensures

pub returns-in-ArgWord : goal.returns-in-ArgWord
returns-in-ArgWord c =
    none_matched _ _ _ _ _ c.requires.0 _ c.args.items.now c.args.i _ c.read_item-item.ensures
    (⊎_elim (λ p. rw p.1 (inl refl)) (⊎_elim (λ p. rw p.1 (inr (inl refl))) (λ p. rw p.1 (inr (inr refl)))) c.in-ArgWord.is)
