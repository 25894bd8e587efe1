-- By what was taken. Assumes nothing.
use Rattle.eval_params.proofs.Places.{operand_place_lem}
use Rattle.eval_params.proofs.Laws.{positional_missing, positional_taken}
use Rattle.eval_params.proofs.eval_positional_from.Goals as goal

pub take_positional_word_from-taken-requires : goal.take_positional_word_from-taken-requires
take_positional_word_from-taken-requires c = (_, c.requires.1, c.requires.2)

pub placed-requires : goal.placed-requires
placed-requires c = (c.requires.0, operand_place_lem _ _ _ _ _ c.requires.1 _ _ (c.take_positional_word_from-taken.ensures _) _ c.in-Some.is)

pub returns-in-None : goal.returns-in-None
returns-in-None c = positional_missing _ _ _ _ _ _ _ _ _ (c.take_positional_word_from-taken.ensures _) _ c.in-None.is c.refused.ensures

pub returns-in-Some : goal.returns-in-Some
returns-in-Some c = positional_taken _ _ _ _ _ _ _ _ _ (c.take_positional_word_from-taken.ensures _) _ _ c.in-Some.is c.placed.ensures
