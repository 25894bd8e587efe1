-- By the tests, then by the node. Assumes nothing.
use Rattle.call_form.proofs.Entries.{tests_accepted, key_inside, arg_refused, arg_none, arg_beyond, arg_some, tests_eight, mark_small}
use Rattle.rules.proofs.Fields.{mark_parsed}
use Rattle.call_form.proofs.take_arg.Goals as goal
use Rattle.call_form.proofs.take_arg.Goals.{then-key-ne2-via-then-key-ne2, then-key-ne2-via-else-key-ne2+then-field_count-field}

pub unchanged_at-requires : goal.unchanged_at-requires
unchanged_at-requires c = c.in-Err.ensures.small

pub returns-in-Err : goal.returns-in-Err
returns-in-Err c = arg_refused _ _ _ _ _ c.in-Err.ensures _ _ c.unchanged_at.ensures _

pub key_at-key-requires : goal.key_at-key-requires
key_at-key-requires c = tests_accepted _ _ _ _ c.in_default.ensures

pub returns-then-key-ne2 : goal.returns-then-key-ne2
returns-then-key-ne2 c =
    elim c.then-key-ne2.branch [
      | then-key-ne2-via-then-key-ne2 w ↦ search (arg_none, c.in_default.ensures)
      | then-key-ne2-via-else-key-ne2+then-field_count-field w ↦ search (arg_beyond, c.in_default.ensures)
    ]

pub field_count-requires : goal.field_count-requires
field_count-requires c = search (tests_eight, c.in_default.ensures)

pub field_mark-requires : goal.field_mark-requires
field_mark-requires c = search (mark_small, c.in_default.ensures)

pub arg_taken-requires : goal.arg_taken-requires
arg_taken-requires c = (c.in_default.ensures, search (key_inside, c.in_default.ensures), search mark_parsed)

pub returns : goal.returns
returns c = search (arg_some, c.in_default.ensures)
