-- The tests in their order. Assumes nothing.
use mathlib.Core.Path.{refl}
use Rattle.std.specs.Prelude.{Err}
use Rattle.std.proofs.lemmas.Result.{err_from_is_err_and}
use Rattle.rules.specs.declared.Refusal.TheVariants.{ShortSlice, ShortList, BadItem, BadState, NotThere}
use Rattle.rules.proofs.GivenLaws.{check_eight}
use Rattle.rules.proofs.ReportedLaws.{numbered}
use Rattle.call_answers.proofs.Places.{check_small}
use Rattle.call_node.specs.Node.{Admits}
use Rattle.call_node.proofs.Tests.{refusing, form_refused, sheet_refused, items_short, answers_short, list_short, items_refused, state_refused, node_refused, all_passed}
use Rattle.call_node.proofs.admit.Goals as goal
use Rattle.call_node.proofs.admit.Goals.{then-items-lt-ITEM_WORDS-via-then-items-lt-ITEM_WORDS, then-items-lt-ITEM_WORDS-via-else-items-lt-ITEM_WORDS+then-answers-lt-ANSWER_WORDS}

pub returns-in_err-check : goal.returns-in_err-check
returns-in_err-check c =
    let p = err_from_is_err_and c.from_residual.result c.from_residual.ensures.1 in
    let a = c.args in
    let e = c.in_err-check.field-0.0 in
    let bad : Admits {A = Unit {0}} a.form.now a.sheet.now a.items.now a.answers.now a.list.now a.s a.node (Err e) =
    (form_refused _ _ _ _ _ _ _ _ c.in_err-check.ensures (numbered e.refusal), check_small _ _ c.in_err-check.ensures) in
    rw (p.1, p.2) bad

pub returns-in_err-check-2 : goal.returns-in_err-check-2
returns-in_err-check-2 c =
    let p = err_from_is_err_and c.from_residual-in_err-check-2.result c.from_residual-in_err-check-2.ensures.1 in
    let e = c.in_err-check-2.field-0.0 in
    let z = sheet_refused _ _ _ _ _ _ _ _ c.in_ok-check.ensures refl _ c.in_err-check-2.ensures (numbered e) in
    rw (p.1, p.2) (refusing _ _ _ _ _ _ _ e z)

pub returns-then-items-lt-ITEM_WORDS : goal.returns-then-items-lt-ITEM_WORDS
returns-then-items-lt-ITEM_WORDS c =
    rw c.from.ensures (refusing _ _ _ _ _ _ _ ShortSlice (elim c.then-items-lt-ITEM_WORDS.branch [
      | then-items-lt-ITEM_WORDS-via-then-items-lt-ITEM_WORDS w ↦
          items_short _ _ _ _ _ _ _ _ c.in_ok-check.ensures refl _ c.in_ok-check-2.ensures refl w.if-items-lt-ITEM_WORDS.true
      | then-items-lt-ITEM_WORDS-via-else-items-lt-ITEM_WORDS+then-answers-lt-ANSWER_WORDS w ↦
          answers_short _ _ _ _ _ _ _ _ c.in_ok-check.ensures refl _ c.in_ok-check-2.ensures refl w.if-items-lt-ITEM_WORDS.false w.if-answers-lt-ANSWER_WORDS.true
    ]))

pub returns-then-list-lt-MISSING_WORDS : goal.returns-then-list-lt-MISSING_WORDS
returns-then-list-lt-MISSING_WORDS c =
    rw c.from-then-list-lt-MISSING_WORDS.ensures (refusing _ _ _ _ _ _ _ ShortList
    (list_short _ _ _ _ _ _ _ _ c.in_ok-check.ensures refl _ c.in_ok-check-2.ensures refl
    c.if-items-lt-ITEM_WORDS.false c.if-answers-lt-ANSWER_WORDS.false c.if-list-lt-MISSING_WORDS.true))

pub returns-in_default : goal.returns-in_default
returns-in_default c =
    rw c.from-in_default.ensures (refusing _ _ _ _ _ _ _ BadItem
    (items_refused _ _ _ _ _ _ _ _ c.in_ok-check.ensures refl _ c.in_ok-check-2.ensures refl
    c.if-items-lt-ITEM_WORDS.false c.if-answers-lt-ANSWER_WORDS.false c.if-list-lt-MISSING_WORDS.false c.in_default.ensures))

pub field_count-fields-requires : goal.field_count-fields-requires
field_count-fields-requires c = check_eight _ _ c.in_ok-check.ensures refl

pub returns-then-not-good : goal.returns-then-not-good
returns-then-not-good c =
    rw c.from-then-not-good.ensures (refusing _ _ _ _ _ _ _ BadState
    (state_refused _ _ _ _ _ _ _ _ c.in_ok-check.ensures refl _ c.in_ok-check-2.ensures refl
    c.if-items-lt-ITEM_WORDS.false c.if-answers-lt-ANSWER_WORDS.false c.if-list-lt-MISSING_WORDS.false
    _ c.in-Some.ensures _ c.field_count-fields.ensures c.if-not-good.ensures))

pub node_count-requires : goal.node_count-requires
node_count-requires c = check_eight _ _ c.in_ok-check.ensures refl

pub returns-then-node_count-node : goal.returns-then-node_count-node
returns-then-node_count-node c =
    rw c.from-then-node_count-node.ensures (refusing _ _ _ _ _ _ _ NotThere
    (node_refused _ _ _ _ _ _ _ _ c.in_ok-check.ensures refl _ c.in_ok-check-2.ensures refl
    c.if-items-lt-ITEM_WORDS.false c.if-answers-lt-ANSWER_WORDS.false c.if-list-lt-MISSING_WORDS.false
    _ c.in-Some.ensures _ c.field_count-fields.ensures c.if-not-good.ensures _ c.node_count.ensures c.if-node_count-node.true))

pub returns : goal.returns
returns c =
    all_passed _ _ _ _ _ _ _ _ c.in_ok-check.ensures refl _ c.in_ok-check-2.ensures refl
    c.if-items-lt-ITEM_WORDS.false c.if-answers-lt-ANSWER_WORDS.false c.if-list-lt-MISSING_WORDS.false
    _ c.in-Some.ensures _ c.field_count-fields.ensures c.if-not-good.ensures _ c.node_count.ensures c.if-node_count-node.false
