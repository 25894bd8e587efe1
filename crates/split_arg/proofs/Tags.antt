-- The tags of an Item that an arm for all other kinds leaves.
use Rattle.std.proofs.Common.{◌≡◌, ℕ, Bool, [], ◌∷◌, refl}
use mathlib.Core.Logic.{inl, inr}
use types.Run.{OneOf}
use denote.Enum.Declared.{tag_of}
use Rattle.split_arg.specs.declared.Part.{Part}
use Rattle.split_arg.specs.declared.Item.{Item}
use Rattle.split_arg.specs.declared.Item.TheVariants.{Short, Long, ArgWord, Word, PosWord}
use Rattle.split_arg.specs.contracts.Item as T

pub tags_not_short : (z : Item) → ((c : ℕ) → (a : Bool) → (t : Part) → z ≡ Short c a t → ⊥) → OneOf (1 ∷ 2 ∷ 3 ∷ 4 ∷ []) (tag_of T.the_type z)
tags_not_short (Short c a t) h = absurd (h c a t refl)
tags_not_short (Long n a t) h = inl refl
tags_not_short (ArgWord t) h = inr (inl refl)
tags_not_short (Word t) h = inr (inr (inl refl))
tags_not_short (PosWord t) h = inr (inr (inr refl))

pub tags_not_long : (z : Item) → ((n : Part) → (a : Bool) → (t : Part) → z ≡ Long n a t → ⊥) → OneOf (0 ∷ 2 ∷ 3 ∷ 4 ∷ []) (tag_of T.the_type z)
tags_not_long (Short c a t) h = inl refl
tags_not_long (Long n a t) h = absurd (h n a t refl)
tags_not_long (ArgWord t) h = inr (inl refl)
tags_not_long (Word t) h = inr (inr (inl refl))
tags_not_long (PosWord t) h = inr (inr (inr refl))

pub tags_not_word : (z : Item) → ((t : Part) → z ≡ Word t → ⊥) → OneOf (0 ∷ 1 ∷ 2 ∷ 4 ∷ []) (tag_of T.the_type z)
tags_not_word (Short c a t) h = inl refl
tags_not_word (Long n a t) h = inr (inl refl)
tags_not_word (ArgWord t) h = inr (inr (inl refl))
tags_not_word (Word t) h = absurd (h t refl)
tags_not_word (PosWord t) h = inr (inr (inr refl))
