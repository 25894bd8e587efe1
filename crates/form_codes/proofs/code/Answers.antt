-- By the type of the record. Assumes nothing.
use Rattle.form_codes.proofs.NameCodes.{code_other, code_short}
use Rattle.form_codes.proofs.code.Goals as goal

pub returns-then-x-ne0 : goal.returns-then-x-ne0
returns-then-x-ne0 c = search code_other

pub returns : goal.returns
returns c = search code_short
