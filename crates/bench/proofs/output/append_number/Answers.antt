-- The digits that io makes, at most 10. Assumes nothing.
use borrow.Author.Rules.{rules}
use Rattle.bench.proofs.Appending.{number_fits, number_appends}
use Rattle.bench.proofs.output.append_number.Goals as goal

pub append-requires : goal.append-requires
append-requires c = search number_fits

pub returns : goal.returns
returns c =
    number_appends _ _ _ _ c.from.ensures (search rules)
    c.decimal-k.ensures.in_bounds c.decimal-k.ensures.len
    c.decimal-k.ensures.digits _ _ _ _ c.append.ensures
