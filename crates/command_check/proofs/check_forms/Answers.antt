use mathlib.Core.Path.{refl}
use native.Mathlib.Omega.{arith}
use borrow.Author.Count.{below_none}
use Rattle.command_check.proofs.Steps.{few_entries, forms_pass, form_passes, form_fails}
use Rattle.command_check.proofs.check_forms.Goals as goal

pub entry_count-n-requires : goal.entry_count-n-requires
entry_count-n-requires c = (few_entries _ c.requires _ refl).2

pub loop-k-init : goal.loop-k-init
loop-k-init c = ((few_entries _ c.requires _ c.entry_count-n.ensures).1, λ cs e. below_none _)

pub returns-in-Err : goal.returns-in-Err
returns-in-Err c =
    form_fails _ _ _ c.command_form.ensures c.loop-k.invariant.1 c.requires (omega (arith, c.loop-k.invariant.0, c.loop-k-test.true)) _ c.in-Err.ensures

pub loop-k-preserved : goal.loop-k-preserved
loop-k-preserved c = (c.loop-k.invariant.0, form_passes _ _ _ c.command_form.ensures c.loop-k.invariant.1 c.in_default.ensures)

pub returns : goal.returns
returns c = search forms_pass
