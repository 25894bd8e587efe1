-- Each child was worked out, was known or is none; the table stays right. Assumes nothing.
use borrow.Author.Rules.{rules}
use mathlib.Core.Path.{refl, sym, ◌∙◌}
use native.Mathlib.Omega.{arith}
use Rattle.rules.specs.Form.{read_form}
use borrow.Author.Tests.{leb-true, leb-false}
use Rattle.form_layout.specs.Layout.{node_of}
use Rattle.form_layout.proofs.Sizes.{sized}
use Rattle.form_kinds.specs.Kinds.{child_q}
use Rattle.form_kinds.specs.Known.{ChildKnown}
use Rattle.form_kinds.proofs.Table.{worked, found, child, no_child, second_child, no_second, kept_same, kept_twice, leaf_is, inner_is, stored}
use Rattle.form_kinds.proofs.+fill.Goals.{then-p-k, then-codes-p-eq0, else-codes-p-eq0, else-p-k, then-eq+then-q-k, then-codes-q-eq0, else-codes-q-eq0, then-eq+else-q-k, else-eq}
use Rattle.form_kinds.proofs.+fill.Goals as goal

pub bounds-codes-k : goal.bounds-codes-k
bounds-codes-k t c = omega (arith, sized _ c.requires.good)

pub returns-then-is_leaf : goal.returns-then-is_leaf
returns-then-is_leaf t c =
    stored _ _ _ _ _ (omega (arith, sized _ c.requires.good)) c.requires.sound (kept_same _) c.requires.sound
    (c.leaf_code.ensures ∙ leaf_is _ _ _ c.node_at-x.ensures (leb-true _ _ (sym c.is_leaf.ensures ∙ c.if-is_leaf.true)))

pub bounds-codes-p : goal.bounds-codes-p
bounds-codes-p t c = omega (arith, sized _ c.requires.good)

pub bounds-codes-p-then-p-k : goal.bounds-codes-p-then-p-k
bounds-codes-p-then-p-k t c = omega (arith, sized _ c.requires.good)

pub bounds-codes-q : goal.bounds-codes-q
bounds-codes-q t c = omega (arith, sized _ c.requires.good)

pub bounds-codes-q-then-q-k : goal.bounds-codes-q-then-q-k
bounds-codes-q-then-q-k t c = omega (arith, sized _ c.requires.good)

pub bounds-codes-k-2 : goal.bounds-codes-k-2
bounds-codes-k-2 t c = omega (arith, sized _ c.requires.good)

pub returns : goal.returns
returns t c =
    let first : ChildKnown (read_form c.args.b.now) c.args.k c.node_at-x.result.p c.args.codes.now c.if-p-k.codes c.if-p-k.c =
    elim c.if-p-k.branch [
      | then-p-k w ↦ child _ _ _ _ _ _ _ w.codes-is w.if-p-k.true
          (elim w.if-codes-p-eq0.branch [
            | then-codes-p-eq0 v ↦ worked _ _ _ _ _ v.codes-is v.fill.ensures
            | else-codes-p-eq0 v ↦ found _ _ _ _ v.codes-is c.requires.sound v.if-codes-p-eq0.false
          ]) w.c-is
      | else-p-k w ↦ no_child _ _ _ _ _ _ w.codes-is w.if-p-k.false c.requires.sound w.c-is
    ] in
    let second : ChildKnown (read_form c.args.b.now) c.args.k (child_q (node_of c.node_at-x.result)) c.if-p-k.codes c.if-eq.codes c.if-eq.d =
    elim c.if-eq.branch [
      | then-eq+then-q-k w ↦ second_child _ _ _ _ _ _ (search rules)
          (child _ _ _ _ _ _ _ w.codes-is w.if-q-k.true
          (elim w.if-codes-q-eq0.branch [
            | then-codes-q-eq0 v ↦ worked _ _ _ _ _ v.codes-is v.fill-then-codes-q-eq0.ensures
            | else-codes-q-eq0 v ↦ found _ _ _ _ v.codes-is first.sound v.if-codes-q-eq0.false
          ]) w.d-is)
      | then-eq+else-q-k w ↦ second_child _ _ _ _ _ _ (search rules) (no_child _ _ _ _ _ _ w.codes-is w.if-q-k.false first.sound w.d-is)
      | else-eq w ↦ no_second _ _ _ _ _ _ (λ e. search rules) (omega (arith, sized _ c.requires.good)) w.codes-is first.sound w.d-is
    ] in
    stored _ _ _ _ _ (omega (arith, sized _ c.requires.good)) c.requires.sound (kept_twice _ _ _ first.kept second.kept) second.sound
    (c.inner_code.ensures ∙ inner_is _ _ _ c.node_at-x.ensures _ _ _ (leb-false _ _ (sym c.is_leaf.ensures ∙ c.if-is_leaf.false)) refl first.code second.code)
