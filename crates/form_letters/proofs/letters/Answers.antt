use borrow.Author.Rules.{rules}
use Rattle.form_layout.proofs.Sizes.{names_long}
use Rattle.form_letters.proofs.Words.{written_first, written_next, written_last, flag_wanted, argument_wanted}
use Rattle.form_letters.proofs.letters.Goals as goal

pub name_count-count-requires : goal.name_count-count-requires
name_count-count-requires c = search (names_long, rules)

pub loop-k-init : goal.loop-k-init
loop-k-init c = search written_first

pub loop-k-preserved : goal.loop-k-preserved
loop-k-preserved c = (search (written_next, flag_wanted), search (written_next, argument_wanted))

pub returns : goal.returns
returns c = search written_last
