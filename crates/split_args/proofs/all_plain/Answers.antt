use mathlib.Core.Path.{refl}
use native.Mathlib.Omega.{arith}
use Rattle.split_args.proofs.Sheets.{good_sheet}
use Rattle.split_args.proofs.Lines.{count_is}
use Rattle.split_args.proofs.Plain.{plain_entry, plain_not, plain_next, plain_all}
use Rattle.split_args.proofs.all_plain.Goals as goal

pub u16_at-n-requires : goal.u16_at-n-requires
u16_at-n-requires c = omega (arith, (good_sheet _ c.requires).two)

pub loop-k-init : goal.loop-k-init
loop-k-init c = record { same = refl; count = count_is _ _ c.u16_at-n.ensures }

pub entry-requires : goal.entry-requires
entry-requires c = search (plain_entry, good_sheet)

pub returns-then-not-is_plain : goal.returns-then-not-is_plain
returns-then-not-is_plain c = search (plain_not, good_sheet)

pub loop-k-preserved : goal.loop-k-preserved
loop-k-preserved c = search (plain_next, good_sheet)

pub returns : goal.returns
returns c = search (plain_all, good_sheet)
