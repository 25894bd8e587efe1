-- What the theorems by computing open: every definition of the rules, by layer.
use mathlib.Core.Bool.{xor}
use mathlib.Core.List.{flatten}
use Rattle.utf8.specs.Utf8.{table, holds, fits, lead_bits, continued, scalar, decode_by, decode, decode_at}
use Rattle.utf8.specs.Utf8.{well_formed_after, well_formed}
use Rattle.wire.specs.Wire.{le, number_at, offset, area_start, area, never_fall, table_good, entry_of}
use Rattle.rules.specs.Base.{null, all, contains, same, occurrences, numbers, concat_map, first_fault, is_some, ◌>>?◌, minus}
use Rattle.rules.specs.Base.{write, slice_from, slice}
use Rattle.rules.specs.Outcome.{entry_words, list_words, ◌>>=◌, at, is_missing, can_catch, wrong_input, combine_with}
use Rattle.rules.specs.Value.{list_of, base_number, same_base, base_of, is_base, is_optional, is_list, has_kind, of_kind, bases_of}
use Rattle.rules.specs.Value.{word, size, answer_words, words, elements}
use Rattle.rules.specs.Sheet.{argument_count, sheet_area, sheet_good, sheet_fault, arguments}
use Rattle.rules.specs.Form.{node_count, field_count, name_count, area_length, counts_good, nodes_at, names_at, area_at, form_length}
use Rattle.rules.specs.Form.{form_end, read_node, read_name, read_form, name_bytes, one_character, type_good, name_good}
use Rattle.rules.specs.Form.{is_alphanumeric, portable_character, portable_name, portable}
use Rattle.rules.specs.Tree.{optional_kind, list_kind, count_kind, last_kind, shape_of, inner_base, same_kind, choice_kind}
use Rattle.rules.specs.Tree.{base_kind, kind_of, has_repeat, zeros, names_of, short_of, long_of, named_by, named_of, flag_of}
use Rattle.rules.specs.Tree.{argument_of, position_of, positional_of, fitting, repeat_of, fallback_value, fallback_of, guard_of}
use Rattle.rules.specs.Tree.{child_of, caught_of, choice_of, tree_of}
use Rattle.rules.specs.Accept.{length_good, trees_from, children_of, uses, used_once, trees_at, check_use, check_records}
use Rattle.rules.specs.Accept.{check_form, short_names, letters_for, letters_of, leaf_count}
use Rattle.rules.specs.Split.{dash, equals, before_equals, behind_equals, parts, split_long, short_body, split_short, behind_dash}
use Rattle.rules.specs.Split.{split_os_argument, cluster_from, pick_letter, look_up, disambiguate_short, flag_items, argument_items}
use Rattle.rules.specs.Split.{cluster_items, ambiguous_at, plain, cluster_group, short_group, long_group, parts_group, word_group}
use Rattle.rules.specs.Split.{split_argument, positionals, joined, split_from, items_of, record_words, bit, part_offset}
use Rattle.rules.specs.Split.{record_with, item_record, item_words, records_from}
use Rattle.rules.specs.State.{marker_mark, command_mark, field_mark, parsed, present, winner, construct, empty_state, in_scope, present_at, present_from, unused, get}
use Rattle.rules.specs.State.{find_in, find, first, used, remove, with_current, pick_from, pick_winner, conflicts}
use Rattle.rules.specs.State.{save_conflicts, conflict_at, conflict, count_present, set_scope, until_present, proposed}
use Rattle.rules.specs.State.{adjacent_scope, span, adjacently_available_from, match_short, match_long, position, same_name}
use Rattle.rules.specs.State.{before, only_once, used_below, mark_good, current_good, state_good}
use Rattle.rules.specs.Take.{took, contains_name, matches_arg, take_flag, value_text, take_value, take_arg, is_operand, is_pos_word}
use Rattle.rules.specs.Take.{text_of, operand, take_positional_word, command_text, is_command, take_command, take_cmd}
use Rattle.rules.specs.Eval.{ended, after, ◌then◌, visit, states_of, leaf, refuse_missing, shown_name, not_found, flag_value}
use Rattle.rules.specs.Eval.{eval_flag, is_digit, digits, unsigned, number_of, parse_text, argument_value, eval_argument}
use Rattle.rules.specs.Eval.{wrong_position, placed_value, positional_value, eval_positional, fewer, swallowed, parse_option}
use Rattle.rules.specs.Eval.{eval_optional, idle, repeat, repeated, eval_many, eval_some, eval_count, last_of, eval_last, side}
use Rattle.rules.specs.Eval.{picks_first, won, value_of, picked, chosen, eval_choice, eval_fallback, guarded, eval_guard, eval}
use Rattle.rules.specs.Given.{form_in, sheet_in, room_in, list_room_in, slice_in, input_in}
use Rattle.rules.specs.Run.{too_many, ambiguity, line_of, split, run_fields, left_over, run_all, run_line, padded}
use Rattle.rules.specs.Run.{refused_input, report_with, report, run}
use Rattle.rules.specs.Encode.{bytes_of, words_of, offsets_from, encode_sheet, encode_node, encode_name, encode_form}
use Rattle.rules.specs.Lines.{reported, entries, all_kinds}

unfoldable pub formats : Unit {0}
unfolding xor flatten table holds fits lead_bits continued scalar decode_by decode decode_at well_formed_after
    well_formed le number_at offset area_start area never_fall table_good entry_of null all contains same occurrences
    numbers concat_map first_fault is_some ◌>>?◌ minus write slice_from slice entry_words list_words ◌>>=◌ at is_missing
    can_catch wrong_input combine_with list_of base_number same_base base_of is_base is_optional is_list has_kind of_kind bases_of word size
    answer_words words elements argument_count sheet_area sheet_good sheet_fault arguments node_count field_count
    name_count area_length counts_good nodes_at names_at area_at form_length form_end read_node read_name read_form name_bytes
    one_character type_good name_good is_alphanumeric portable_character portable_name portable
formats = tt

unfoldable pub forms : Unit {0}
unfolding optional_kind list_kind count_kind last_kind shape_of inner_base same_kind choice_kind base_kind kind_of has_repeat zeros
    names_of short_of long_of named_by named_of flag_of argument_of position_of positional_of fitting repeat_of fallback_value
    fallback_of guard_of child_of caught_of choice_of tree_of length_good trees_from children_of uses used_once trees_at
    check_use check_records check_form short_names letters_for letters_of leaf_count
forms = tt

unfoldable pub splitting : Unit {0}
unfolding dash equals before_equals behind_equals parts split_long short_body split_short behind_dash split_os_argument
    cluster_from pick_letter look_up disambiguate_short flag_items argument_items cluster_items ambiguous_at plain
    cluster_group short_group long_group parts_group word_group split_argument positionals joined split_from items_of
    record_words bit part_offset record_with item_record item_words records_from
splitting = tt

unfoldable pub states : Unit {0}
unfolding marker_mark command_mark field_mark parsed present winner construct empty_state in_scope present_at present_from unused get find_in find first used
    remove with_current pick_from pick_winner conflicts save_conflicts conflict_at conflict count_present set_scope
    until_present proposed adjacent_scope span adjacently_available_from match_short match_long position same_name before
    only_once used_below mark_good current_good state_good took contains_name matches_arg take_flag value_text take_value take_arg
    is_operand is_pos_word text_of operand take_positional_word command_text is_command take_command take_cmd
states = tt

unfoldable pub evaluation : Unit {0}
unfolding ended after ◌then◌ visit states_of leaf refuse_missing shown_name not_found flag_value eval_flag is_digit digits
    unsigned number_of parse_text argument_value eval_argument wrong_position placed_value positional_value eval_positional
    fewer swallowed parse_option eval_optional idle repeat repeated eval_many eval_some eval_count last_of eval_last side
    picks_first won value_of picked chosen eval_choice eval_fallback guarded eval_guard eval
evaluation = tt

unfoldable pub running : Unit {0}
unfolding form_in sheet_in room_in list_room_in slice_in input_in too_many ambiguity line_of split run_fields left_over run_all
    run_line padded refused_input report_with report run bytes_of words_of offsets_from encode_sheet encode_node encode_name
    encode_form reported entries all_kinds
running = tt
