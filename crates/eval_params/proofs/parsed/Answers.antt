-- By what is asked for, and by what the text is read as. Assumes nothing.
use mathlib.Core.Path.{ap, ◌∙◌}
use Rattle.rules.specs.Eval.{number_of}
use Rattle.eval_params.proofs.Laws.{text_tells, number_tells, bad_tells}
use mathlib.Core.Bool.{not}
use Rattle.eval_params.proofs.parsed.Goals as goal

pub returns-then-not-numeric : goal.returns-then-not-numeric
returns-then-not-numeric c = text_tells _ _ _ _ (ap not c.if-not-numeric.true) _ c.value.ensures

pub returns-in-Some : goal.returns-in-Some
returns-in-Some c = number_tells _ _ _ _ (ap not c.if-not-numeric.false) c.parse.result (c.parse.ensures ∙ ap number_of c.text_bytes.ensures) _ c.in-Some.is _ c.value-in-Some.ensures

pub returns-in-None : goal.returns-in-None
returns-in-None c = bad_tells _ _ _ _ (ap not c.if-not-numeric.false) c.parse.result (c.parse.ensures ∙ ap number_of c.text_bytes.ensures) c.in-None.is _ c.refused.ensures
