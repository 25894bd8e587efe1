-- By the length and the first two bytes. Assumes nothing.
use Rattle.split_args.proofs.Plain.{plain_short, plain_word, plain_dashed}
use Rattle.split_args.proofs.is_plain.Goals as goal

pub returns-in-45 : goal.returns-in-45
returns-in-45 c = search plain_dashed

pub returns-in_default : goal.returns-in_default
returns-in_default c = search (plain_short, plain_word)

pub returns-in_default-2 : goal.returns-in_default-2
returns-in_default-2 c = search (plain_short, plain_word)
