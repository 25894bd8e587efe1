-- By the tests, then by the name record. Assumes nothing.
use Rattle.call_form.proofs.Entries.{tests_state, tests_accepted, cmd_refused, cmd_none, cmd_name, cmd_some}
use Rattle.call_form.proofs.take_cmd.Goals as goal

pub unchanged_at-requires : goal.unchanged_at-requires
unchanged_at-requires c = c.in-Err.ensures.small

pub returns-in-Err : goal.returns-in-Err
returns-in-Err c = cmd_refused _ _ _ _ _ c.in-Err.ensures _ _ c.unchanged_at.ensures

pub is_command-requires : goal.is_command-requires
is_command-requires c = tests_accepted _ _ _ _ c.in_default.ensures

pub returns-then-not-is_command : goal.returns-then-not-is_command
returns-then-not-is_command c = search (cmd_none, c.in_default.ensures)

pub name_bytes-requires : goal.name_bytes-requires
name_bytes-requires c = search (cmd_name, c.in_default.ensures)

pub cmd_taken-requires : goal.cmd_taken-requires
cmd_taken-requires c = (_, tests_state _ _ _ _ c.in_default.ensures)

pub returns : goal.returns
returns c = search (cmd_some, c.in_default.ensures)
