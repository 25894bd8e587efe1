-- By the number of elements. Assumes nothing.
use mathlib.Core.Path.{◌∙◌, sym}
use Rattle.eval_structs.specs.Laws.{some_none, some_any}
use Rattle.eval_structs.proofs.parse_some.Goals as goal

pub returns-then-counted-eq0 : goal.returns-then-counted-eq0
returns-then-counted-eq0 c = λ catch run s vs h e. some_none catch run s vs h (e ∙ c.if-counted-eq0.true)

pub returns-else-counted-eq0 : goal.returns-else-counted-eq0
returns-else-counted-eq0 c = λ catch run s vs h e. some_any catch run s vs h (λ z. c.if-counted-eq0.false (sym e ∙ z))
