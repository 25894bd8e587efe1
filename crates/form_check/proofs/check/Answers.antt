-- Each way out is one of the four refusals, in their order, or acceptance. Assumes nothing.
use mathlib.Core.Bool.{not}
use native.Mathlib.Omega.{arith}
use mathlib.Core.Path.{◌≡◌, refl, sym, ◌∙◌, ap}
use Rattle.form_check.proofs.Verdict.{check_length, check_names, check_nodes_bad, check_nodes_good}
use Rattle.form_layout.proofs.Sizes.{sized}
use Rattle.rules.specs.Reported.{told}
use Rattle.std.proofs.lemmas.Result.{err_from_is_err_and}
use Rattle.rules.specs.Codes.{check_code}
use Rattle.rules.specs.Accept.{check_form}
use Rattle.rules.proofs.ReportedLaws.{numbered}
use Rattle.form_check.proofs.check.Goals as goal

pub returns-then-not-length_good : goal.returns-then-not-length_good
returns-then-not-length_good c = check_length _ _ c.length_good.ensures (ap not c.if-not-length_good.true) _ (ap told c.from.ensures)

pub records_fault-fault-requires : goal.records_fault-fault-requires
records_fault-fault-requires c = sym c.length_good.ensures ∙ c.if-not-length_good.false

pub name_count-requires : goal.name_count-requires
name_count-requires c = (sized _ (sym c.length_good.ensures ∙ c.if-not-length_good.false)).counts.long

pub at-requires : goal.at-requires
at-requires c = omega (arith, c.name_count.ensures, sized _ (sym c.length_good.ensures ∙ c.if-not-length_good.false))

pub returns-then-fault-name_count : goal.returns-then-fault-name_count
returns-then-fault-name_count c =
    check_names _ _ c.length_good.ensures (ap not c.if-not-length_good.false) _ c.records_fault-fault.ensures _ c.name_count.ensures
    c.if-fault-name_count.true _ (ap told c.at.ensures)

pub check_nodes-requires : goal.check_nodes-requires
check_nodes-requires c = sym c.length_good.ensures ∙ c.if-not-length_good.false

pub returns-in_err-check_nodes : goal.returns-in_err-check_nodes
returns-in_err-check_nodes c =
    let p = err_from_is_err_and c.from_residual.result c.from_residual.ensures.1 in
    let bad : told c.in_err-check_nodes.field-0.0 ≡ check_code (check_form c.args.b.now) =
    check_nodes_bad _ _ c.length_good.ensures (ap not c.if-not-length_good.false) _ c.records_fault-fault.ensures _ c.name_count.ensures c.if-fault-name_count.false _ c.in_err-check_nodes.ensures
    (numbered c.in_err-check_nodes.field-0.0.refusal) in
    rw (p.1, p.2) bad

pub check_uses-requires : goal.check_uses-requires
check_uses-requires c = sym c.length_good.ensures ∙ c.if-not-length_good.false

pub returns : goal.returns
returns c =
    check_nodes_good _ _ c.length_good.ensures (ap not c.if-not-length_good.false) _ c.records_fault-fault.ensures _ c.name_count.ensures c.if-fault-name_count.false _ c.in_ok-check_nodes.ensures
    refl _ c.check_uses.ensures
