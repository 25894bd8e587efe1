use borrow.Author.Rules.{rules}
use Rattle.rules.specs.Commands.{entry_area}
use Rattle.command_layout.proofs.area_size.Goals as goal

pub returns : goal.returns
unfolding entry_area
returns c = search rules
