-- Only an option has a name. Assumes nothing.
use Rattle.std.proofs.Math.Path.{refl}
use mathlib.Core.Logic.{⊎_elim, inl, inr}
use Rattle.take_search.proofs.Items.{other_not}
use Rattle.take_search.proofs.is_named.Goals as goal

pub returns-in-ArgWord : goal.returns-in-ArgWord
returns-in-ArgWord c =
    other_not c.args.form.now c.args.codes.now c.args.sheet.now c.args.items.now c.args.i c.args.names.first c.args.names.count c.args.names.adjacent _
    c.read_item-item.ensures
    (⊎_elim (λ p. rw p.1 (inl refl)) (⊎_elim (λ p. rw p.1 (inr (inl refl))) (λ p. rw p.1 (inr (inr refl)))) c.in-ArgWord.is)
