-- By the law of the span. Assumes nothing.
use mathlib.Core.Path.{refl}
use Rattle.state_value.proofs.Given.{span_ready, span_over}
use Rattle.state_value.proofs.adjacently_available_from.Goals as goal

pub span_end-end-requires : goal.span_end-end-requires
span_end-end-requires c = span_ready _ c.requires.0 _ _ refl c.requires.1

pub returns : goal.returns
returns c = span_over _ c.requires.0 _ _ _ refl c.span_end-end.ensures
