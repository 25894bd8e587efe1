use mathlib.Core.Path.{refl}
use Rattle.std.proofs.lemmas.Result.{err_from_is_err_and}
use Rattle.rules.proofs.GivenLaws.{check_eight, check_length}
use Rattle.rules.proofs.ReportedLaws.{numbered}
use Rattle.rules.specs.Calls.{call_kind}
use Rattle.rules.specs.Codes.{kind_code}
use Rattle.form_layout.proofs.Sizes.{node_below}
use Rattle.call_answers.proofs.Places.{check_small}
use Rattle.call_check.specs.Reader.{told, Tells}
use Rattle.call_check.proofs.Checks.{kind_refused, kind_past, kind_there}
use native.Mathlib.Omega.{arith}
use Rattle.std.specs.Prelude.{Err}
use Rattle.call_check.proofs.kind_number.Goals as goal

pub returns-in_err-check : goal.returns-in_err-check
returns-in_err-check c =
    let p = err_from_is_err_and c.from_residual.result c.from_residual.ensures.1 in
    let e = c.in_err-check.field-0.0 in
    let bad : Tells (told kind_code (call_kind c.args.form.now c.args.node)) (Err e) =
    (kind_refused _ _ _ c.in_err-check.ensures (numbered e.refusal), check_small _ _ c.in_err-check.ensures) in
    rw (p.1, p.2) bad

pub node_count-requires : goal.node_count-requires
node_count-requires c = check_eight _ _ c.in_ok-check.ensures refl

pub returns-then-node_count-node : goal.returns-then-node_count-node
returns-then-node_count-node c =
    rw c.from.ensures (kind_past _ _ _ c.in_ok-check.ensures refl _ c.node_count.ensures c.if-node_count-node.true, omega arith)

pub kind-requires : goal.kind-requires
kind-requires c = (check_length _ _ c.in_ok-check.ensures refl, node_below _ _ _ c.node_count.ensures c.if-node_count-node.false)

pub returns : goal.returns
returns c = (kind_there _ _ _ c.in_ok-check.ensures refl _ c.node_count.ensures c.if-node_count-node.false _ c.kind.ensures, tt)
