-- By the kind of the first item. Assumes nothing.
use Rattle.std.proofs.Math.Path.{refl}
use mathlib.Core.Logic.{⊎_elim, inl, inr}
use Rattle.take_search.proofs.Items.{long_part}
use Rattle.take_once.proofs.Names.{named_short, named_long, named_not}
use Rattle.take_once.proofs.same_name.Goals as goal

pub is_long-requires : goal.is_long-requires
is_long-requires c = (c.requires.1, long_part _ _ _ c.requires.0 _ c.read_item-item.ensures _ _ _ c.in-Long.is)

pub returns-in-Short : goal.returns-in-Short
returns-in-Short c x y e d = named_short _ _ _ c.read_item-item.ensures x e y _ _ _ c.in-Short.is _ (c.is_short.ensures _ y d)

pub returns-in-Long : goal.returns-in-Long
returns-in-Long c x y e d = named_long _ _ _ c.read_item-item.ensures x e y _ _ _ c.in-Long.is _ (c.is_long.ensures y d)

pub returns-in-ArgWord : goal.returns-in-ArgWord
returns-in-ArgWord c x y e d = named_not _ _ _ c.read_item-item.ensures x e y
    (⊎_elim (λ p. rw p.1 (inl refl)) (⊎_elim (λ p. rw p.1 (inr (inl refl))) (λ p. rw p.1 (inr (inr refl)))) c.in-ArgWord.is)
