use borrow.Author.Rules.{rules}
use Rattle.form_layout.proofs.Sizes.{sized}
use Rattle.form_fields.proofs.Owners.{field_first, field_found, field_next, field_last}
use Rattle.form_fields.proofs.field_of.Goals as goal

pub field_count-count-requires : goal.field_count-count-requires
field_count-count-requires c = (sized _ c.requires).counts.long

pub loop-k-init : goal.loop-k-init
loop-k-init c = field_first _ _

pub returns-then-field_at-top : goal.returns-then-field_at-top
returns-then-field_at-top c = (search field_found, search rules)

pub loop-k-preserved : goal.loop-k-preserved
loop-k-preserved c = search field_next

pub returns : goal.returns
returns c = (search field_last, search rules)
