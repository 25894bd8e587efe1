-- By the kind of the item. Assumes nothing.
use Rattle.std.proofs.Math.Path.{refl}
use mathlib.Core.Logic.{⊎_elim, inl, inr}
use Rattle.take_search.proofs.Items.{short_apart, short_here, long_apart, long_here, other_not, long_part}
use Rattle.take_search.proofs.matches.Goals as goal

pub returns-else-fits : goal.returns-else-fits
returns-else-fits c =
    short_apart c.args.form.now c.args.codes.now c.args.sheet.now c.args.items.now c.args.i c.args.names.first c.args.names.count c.args.names.adjacent _
    c.read_item-item.ensures _ _ _ c.fits.ensures _ c.in-Short.is c.if-fits.false

pub returns-else-fits-2 : goal.returns-else-fits-2
returns-else-fits-2 c =
    long_apart c.args.form.now c.args.codes.now c.args.sheet.now c.args.items.now c.args.i c.args.names.first c.args.names.count c.args.names.adjacent _
    c.read_item-item.ensures _ _ _ c.fits-in-Long.ensures _ c.in-Long.is c.if-fits-2.false

pub part_bytes-requires : goal.part_bytes-requires
part_bytes-requires c = long_part _ _ _ c.requires.1 _ c.read_item-item.ensures _ _ _ c.in-Long.is

pub returns-then-fits : goal.returns-then-fits
returns-then-fits c =
    short_here c.args.form.now c.args.codes.now c.args.sheet.now c.args.items.now c.args.i c.args.names.first c.args.names.count c.args.names.adjacent _
    c.read_item-item.ensures _ _ _ c.fits.ensures _ c.in-Short.is c.if-fits.true c.requires.0 _ c.has_short.ensures

pub returns-then-fits-2 : goal.returns-then-fits-2
returns-then-fits-2 c =
    long_here c.args.form.now c.args.codes.now c.args.sheet.now c.args.items.now c.args.i c.args.names.first c.args.names.count c.args.names.adjacent _
    c.read_item-item.ensures _ _ _ c.fits-in-Long.ensures _ c.in-Long.is c.if-fits-2.true _ c.part_bytes.ensures _ c.has_long.ensures

pub returns-in-ArgWord : goal.returns-in-ArgWord
returns-in-ArgWord c =
    other_not c.args.form.now c.args.codes.now c.args.sheet.now c.args.items.now c.args.i c.args.names.first c.args.names.count c.args.names.adjacent _
    c.read_item-item.ensures
    (⊎_elim (λ p. rw p.1 (inl refl)) (⊎_elim (λ p. rw p.1 (inr (inl refl))) (λ p. rw p.1 (inr (inr refl)))) c.in-ArgWord.is)
