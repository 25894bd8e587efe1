-- By the outcome of the cluster (`Groups`). Assumes nothing.
use borrow.Author.Rules.{rules}
use Rattle.split_group.proofs.Groups.{name_good_lem, tail_all, flags_all, flags_argument, flags_ambiguous, rest_within, rest_fits}
use Rattle.split_group.proofs.Groups.{one_letter, unknown_letter_lem, all_flags_lem, ambiguous_letter_lem, argument_alone, argument_rest}
use Rattle.split_group.proofs.split_cluster.Goals as goal

pub disambiguate_short-requires : goal.disambiguate_short-requires
disambiguate_short-requires c = (search name_good_lem, search rules)

pub put_flags-requires : goal.put_flags-requires
put_flags-requires c = search (flags_all, tail_all)

pub overflow_add-rest : goal.overflow_add-rest
overflow_add-rest c = record { fits = search (rest_fits, tail_all) }

pub put_flags_one-requires : goal.put_flags_one-requires
put_flags_one-requires c = search (flags_argument, tail_all)

pub returns-then-rest-len : goal.returns-then-rest-len
returns-then-rest-len c = search (argument_alone, tail_all)

pub overflow_add-rest-in-Argument : goal.overflow_add-rest-in-Argument
overflow_add-rest-in-Argument c = record { fits = search (rest_fits, tail_all) }

pub text-requires : goal.text-requires
text-requires c = search (rest_within, tail_all)

pub put_flags_two-requires : goal.put_flags_two-requires
put_flags_two-requires c = search (flags_argument, tail_all)

pub put_flags_one-requires-in-Ambiguous : goal.put_flags_one-requires-in-Ambiguous
put_flags_one-requires-in-Ambiguous c = search (flags_ambiguous, tail_all)

pub returns-in-Single : goal.returns-in-Single
returns-in-Single c = search (one_letter, tail_all)

pub returns-in-AllFlags : goal.returns-in-AllFlags
returns-in-AllFlags c = search (all_flags_lem, tail_all)

pub returns-else-rest-len : goal.returns-else-rest-len
returns-else-rest-len c = search (argument_rest, tail_all)

pub returns-in-Withdrawn : goal.returns-in-Withdrawn
returns-in-Withdrawn c = search (unknown_letter_lem, tail_all)

pub returns-in-Ambiguous : goal.returns-in-Ambiguous
returns-in-Ambiguous c = search (ambiguous_letter_lem, tail_all)
