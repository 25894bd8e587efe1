use native.Mathlib.Omega.{arith}
use borrow.Author.Rules.{rules}
use Rattle.command_letters.proofs.Tables.{table_head, table_read, form_names, gathering_first, gathering_room, gathering_next, gathering_last}
use Rattle.command_letters.proofs.gather.Goals as goal

pub entry_count-k-end-requires : goal.entry_count-k-end-requires
entry_count-k-end-requires c = search table_head

pub loop-k-init : goal.loop-k-init
loop-k-init c = search gathering_first

pub command_form-form-requires : goal.command_form-form-requires
command_form-form-requires c = search (table_read, rules)

pub gather_form-counts-requires : goal.gather_form-counts-requires
gather_form-counts-requires c =
    let names = form_names _ c.requires.0 _ c.entry_count-k-end.ensures _ _ c.command_form-form.ensures (omega arith) in (
      names,
      gathering_room _ c.requires.0 _ _ _ _ _ c.loop-k.invariant.0 _ c.entry_count-k-end.ensures c.loop-k-test.true
          c.requires.1,
      gathering_room _ c.requires.0 _ _ _ _ _ c.loop-k.invariant.1 _ c.entry_count-k-end.ensures c.loop-k-test.true
          c.requires.2,
    )

pub loop-k-preserved : goal.loop-k-preserved
loop-k-preserved c = (
  gathering_next _ c.requires.0 _ _ _ _ _ c.loop-k.invariant.0 _ c.entry_count-k-end.ensures c.loop-k-test.true
      _ c.command_form-form.ensures _ _ c.gather_form-counts.ensures.inserted,
  gathering_next _ c.requires.0 _ _ _ _ _ c.loop-k.invariant.1 _ c.entry_count-k-end.ensures c.loop-k-test.true
      _ c.command_form-form.ensures _ _ c.gather_form-counts.ensures.inserted_2,
)

pub returns : goal.returns
returns c = search gathering_last
