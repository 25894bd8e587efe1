-- The offsets of a checked sheet are there. Assumes nothing.
use mathlib.Core.Path.{refl}
use mathlib.Core.Logic.{inl}
use Rattle.split_sheet.proofs.Arguments.{offset_there}
use Rattle.split_sheet.proofs.begin.Goals as goal

pub offset_at-requires : goal.offset_at-requires
offset_at-requires c = (inl refl, offset_there c.requires)
