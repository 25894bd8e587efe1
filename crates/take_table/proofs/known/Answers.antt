-- A form with few names gets few owners. Assumes nothing.
use borrow.Author.Rules.{rules}
use Rattle.form_layout.proofs.Sizes.{names_long}
use Rattle.take_table.proofs.Owners.{cleared, all_cleared}
use Rattle.take_table.proofs.known.Goals as goal

pub name_count-names-requires : goal.name_count-names-requires
name_count-names-requires c = search (names_long, rules)

pub known_by-requires : goal.known_by-requires
known_by-requires c = search (cleared, rules)

pub known_by-requires-else-names-le-FEW_NAMES : goal.known_by-requires-else-names-le-FEW_NAMES
known_by-requires-else-names-le-FEW_NAMES c = search (all_cleared, rules)
