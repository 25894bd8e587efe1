use mathlib.Core.Logic.{⊎_elim}
use mathlib.Core.Path.{refl, sym, ap, ◌∙◌}
use native.Mathlib.Omega.{arith}
use borrow.Author.Tests.{leb-true, leb-false}
use Rattle.form_layout.specs.Kinds.{kind_number}
use Rattle.form_layout.proofs.KindNumbers.{either, not_kind}
use Rattle.eval_missing.proofs.Nodes.{BegunNode, there, leaf_room, leaf_lists, other_lists, under_less, under_ready, under_lists}
use Rattle.eval_missing.proofs.Nodes.{sides_ready, first_kept, first_none, second_ready, choice_lists}
use Rattle.eval_missing.proofs.+list_node.Goals as goal
use Rattle.eval_missing.proofs.+list_node.Goals.{then-ends_missing, else-ends_missing}

pub node_at-x-requires : goal.node_at-x-requires
node_at-x-requires t c = there c.requires

pub put_entry-requires : goal.put_entry-requires
put_entry-requires t c = leaf_room c.requires _ c.node_at-x.ensures (leb-true _ _ (sym c.is_leaf.ensures ∙ c.if-is_leaf.true))

pub returns-then-is_leaf : goal.returns-then-is_leaf
returns-then-is_leaf t c = leaf_lists c.requires _ c.node_at-x.ensures (leb-true _ _ (sym c.is_leaf.ensures ∙ c.if-is_leaf.true)) c.put_entry.ensures

pub list_node-requires : goal.list_node-requires
list_node-requires t c = (omega (arith, under_less c.requires _ c.node_at-x.ensures (either _ _ _ c.in-Last.is)), under_ready c.requires _ c.node_at-x.ensures (either _ _ _ c.in-Last.is))

pub ends_missing-requires : goal.ends_missing-requires
ends_missing-requires t c = search (sides_ready c.requires _ c.node_at-x.ensures (ap kind_number c.in-Choice.is))

pub list_node-at-requires : goal.list_node-at-requires
list_node-at-requires t c =
    let both = sides_ready c.requires _ c.node_at-x.ensures (ap kind_number c.in-Choice.is) in
    (omega (arith, both.less, both.less₂), search both)

pub list_node-requires-in-Choice : goal.list_node-requires-in-Choice
list_node-requires-in-Choice t c =
    let begun : BegunNode c.args.line.now.form.now c.args.line.now.sheet.now c.args.line.now.items.now
    (record { node = c.node_at-x.result.p; at = c.args.field.at; mark = c.args.mark })
    c.args.marks.now c.args.p c.args.list.now c.if-ends_missing.list c.if-ends_missing.at =
    elim c.if-ends_missing.branch [
      | then-ends_missing w ↦
          first_kept c.requires _ c.node_at-x.ensures (ap kind_number c.in-Choice.is) c.ends_missing.ensures w.if-ends_missing.true
          (λ u g. w.list_node-at.ensures u g) w.list-is w.at-is
      | else-ends_missing w ↦
          first_none c.requires _ c.node_at-x.ensures (ap kind_number c.in-Choice.is) c.ends_missing.ensures w.if-ends_missing.false w.list-is w.at-is
    ] in (
      omega (arith, (sides_ready c.requires _ c.node_at-x.ensures (ap kind_number c.in-Choice.is)).less₂),
      second_ready c.requires _ c.node_at-x.ensures (ap kind_number c.in-Choice.is) begun,
    )

pub returns-in-Last : goal.returns-in-Last
returns-in-Last t c = under_lists c.requires _ c.node_at-x.ensures (either _ _ _ c.in-Last.is) c.list_node.ensures

pub returns-after-ends_missing : goal.returns-after-ends_missing
returns-after-ends_missing t c =
    let begun : BegunNode c.args.line.now.form.now c.args.line.now.sheet.now c.args.line.now.items.now
    (record { node = c.node_at-x.result.p; at = c.args.field.at; mark = c.args.mark })
    c.args.marks.now c.args.p c.args.list.now c.if-ends_missing.list c.if-ends_missing.at =
    elim c.if-ends_missing.branch [
      | then-ends_missing w ↦
          first_kept c.requires _ c.node_at-x.ensures (ap kind_number c.in-Choice.is) c.ends_missing.ensures w.if-ends_missing.true
          (λ u g. w.list_node-at.ensures u g) w.list-is w.at-is
      | else-ends_missing w ↦
          first_none c.requires _ c.node_at-x.ensures (ap kind_number c.in-Choice.is) c.ends_missing.ensures w.if-ends_missing.false w.list-is w.at-is
    ] in
    choice_lists c.requires _ c.node_at-x.ensures (ap kind_number c.in-Choice.is) begun c.list_node-in-Choice.ensures

pub returns-in_default : goal.returns-in_default
returns-in_default t c =
    other_lists c.requires _ c.node_at-x.ensures (leb-false _ _ (sym c.is_leaf.ensures ∙ c.if-is_leaf.false))
    (⊎_elim (not_kind _ 8 refl c.in_default.not-Last) (not_kind _ 11 refl c.in_default.not-Guard)) (not_kind _ 9 refl c.in_default.not-Choice)
