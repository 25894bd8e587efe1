-- Only a name of type 0 is tested. Assumes nothing.
use mathlib.Core.Bool.{not}
use mathlib.Core.Path.{ap, ◌∙◌}
use borrow.Author.Tests.{eq-eqb}
use Rattle.form_names.proofs.Records.{portable_other, portable_none, portable_one}
use Rattle.form_names.proofs.portable_name.Goals as goal

pub returns-then-x-ne0 : goal.returns-then-x-ne0
returns-then-x-ne0 c = search portable_other

pub returns-then-c-ne0 : goal.returns-then-c-ne0
returns-then-c-ne0 c = search portable_one

pub returns-else-c-ne0 : goal.returns-else-c-ne0
returns-else-c-ne0 c =
    ap not (eq-eqb _ _ c.if-c-ne0.false)
    ∙ portable_none _ _ c.if-x-ne0.false _ c.bytes.ensures _ c.character-c.ensures c.if-c-ne0.false
