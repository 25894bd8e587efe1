use Rattle.form_layout.proofs.Sizes.{names_long}
use Rattle.form_codes.proofs.NameCodes.{filling_first, filling_next, filling_last}
use Rattle.form_codes.proofs.codes.Goals as goal

pub name_count-count-requires : goal.name_count-count-requires
name_count-count-requires c = names_long _ c.requires.0

pub loop-k-init : goal.loop-k-init
loop-k-init c = search filling_first

pub loop-k-preserved : goal.loop-k-preserved
loop-k-preserved c = search filling_next

pub returns : goal.returns
returns c = search filling_last
