-- Each type has its test. Assumes nothing.
use native.Mathlib.Omega.{arith}
use Rattle.form_names.proofs.Records.{type_short, type_long, type_text}
use Rattle.form_names.proofs.type_good.Goals as goal

pub returns-in-0 : goal.returns-in-0
returns-in-0 c = search type_short

pub returns-in-1 : goal.returns-in-1
returns-in-1 c = search type_long

pub returns-in_default : goal.returns-in_default
returns-in_default c = type_text c.args.kind c.args.s.now (λ e. omega arith) (λ e. omega arith)
