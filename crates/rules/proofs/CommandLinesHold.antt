-- The lines under a table of two commands hold, each computed by the definition.
use mathlib.Core.List.{map}
use mathlib.Core.Path.{◌≡◌, refl}
use Rattle.rules.specs.Outcome.{ok, ◌>>=◌}
use Rattle.rules.specs.Encode.{encode_sheet, encode_table}
use Rattle.rules.specs.Commands.{entry_count, offsets_good, table_entries, entry_names, entry_area, entry_area_at, entry_form_at, read_command, of_type, command_name_good, entry_good}
use Rattle.rules.specs.Commands.{table_in, forms_in, form_good, entry_at_fault, commands_in, table_letters, split_with, tried_names, candidates_of, candidates_from}
use Rattle.rules.specs.Commands.{try_names, narrowed, fields_at, run_chosen, run_table, command_report, run_commands}
use Rattle.rules.specs.CommandLines.{encode_entry, wear_entry, log_entry, wear_log, unformed, unnamed, line_reported, command_lines}
use Rattle.rules.proofs.Opened.{formats, forms, splitting, states, evaluation, running}

pub command_lines_lem :
    map (λ e. run_commands e.table (encode_sheet e.arguments) 1792 8240 192 >>= λ r. ok (line_reported e.table e.arguments r)) command_lines
    ≡ map ok command_lines
unfolding formats forms splitting states evaluation running ◌>>=◌ entry_count offsets_good table_entries entry_names entry_area
    entry_area_at entry_form_at read_command of_type command_name_good entry_good table_in forms_in form_good entry_at_fault commands_in
    table_letters split_with tried_names candidates_of candidates_from try_names narrowed fields_at run_chosen run_table
    command_report run_commands encode_entry encode_table wear_entry log_entry wear_log unformed unnamed line_reported command_lines
command_lines_lem = refl
