-- Whether the run was accepted, and then each way on. Assumes nothing.
use Rattle.careful_commands.proofs.Answers.{looks_refused, run_line_lem, looks_clean, run_place, looks_misread}
use borrow.Author.Rules.{rules}
use Rattle.careful_commands.proofs.look.Goals as goal

pub returns-then-reached-ne0 : goal.returns-then-reached-ne0
returns-then-reached-ne0 c = search looks_refused

pub first_misread-place-requires : goal.first_misread-place-requires
first_misread-place-requires c = (search run_line_lem, search rules)

pub returns-then-place-count : goal.returns-then-place-count
returns-then-place-count c = search looks_clean

pub word_letter-letter-requires : goal.word_letter-letter-requires
word_letter-letter-requires c = search run_place

pub returns : goal.returns
returns c = search looks_misread
