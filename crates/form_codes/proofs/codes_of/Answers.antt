-- By the law of `codes`. Assumes nothing.
use borrow.Author.Rules.{rules}
use Rattle.form_codes.proofs.NameCodes.{codes_room}
use Rattle.form_codes.proofs.codes_of.Goals as goal

pub codes-requires : goal.codes-requires
codes-requires c = search (rules, codes_room)
