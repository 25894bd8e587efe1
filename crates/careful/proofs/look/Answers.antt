-- Whether the run was accepted, and then each way on. Assumes nothing.
use Rattle.careful.proofs.Answers.{looks_refused, run_line_lem, looks_clean, run_names, run_explains, looks_misread}
use borrow.Author.Rules.{rules}
use Rattle.careful.proofs.look.Goals as goal

pub returns-then-ran-ne0 : goal.returns-then-ran-ne0
returns-then-ran-ne0 c = search looks_refused

pub first_misread-place-requires : goal.first_misread-place-requires
first_misread-place-requires c = (search run_line_lem, search rules)

pub returns-then-place-count : goal.returns-then-place-count
returns-then-place-count c = search looks_clean

pub codes_of-codes-requires : goal.codes_of-codes-requires
codes_of-codes-requires c = search run_names

pub unknown_letter-letter-requires : goal.unknown_letter-letter-requires
unknown_letter-letter-requires c = search run_explains

pub returns : goal.returns
returns c = search looks_misread
