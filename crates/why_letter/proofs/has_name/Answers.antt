-- Each test in its turn. Assumes nothing.
use Rattle.why_letter.proofs.Names.{name_short, name_plain, name_long, name_equals, name_utf8}
use Rattle.why_letter.proofs.has_name.Goals as goal
use Rattle.why_letter.proofs.has_name.Goals.{then-os-lt2-via-then-os-lt2, then-os-lt2-via-else-os-lt2+then-os-ne45, then-os-lt2-via-else-os-lt2+else-os-ne45+then-os-eq45}
use Rattle.why_letter.proofs.has_name.Goals.{then-os-lt2-via-else-os-lt2+else-os-ne45+else-os-eq45+then-has_equals}

pub returns-then-os-lt2 : goal.returns-then-os-lt2
returns-then-os-lt2 c = elim c.then-os-lt2.branch [
  | then-os-lt2-via-then-os-lt2 w ↦ name_short _ w.if-os-lt2.true
  | then-os-lt2-via-else-os-lt2+then-os-ne45 w ↦ name_plain _ w.if-os-lt2.false w.if-os-ne45.true
  | then-os-lt2-via-else-os-lt2+else-os-ne45+then-os-eq45 w ↦ name_long _ w.if-os-lt2.false w.if-os-ne45.false w.if-os-eq45.true
  | then-os-lt2-via-else-os-lt2+else-os-ne45+else-os-eq45+then-has_equals w ↦
      name_equals _ w.if-os-lt2.false w.if-os-ne45.false w.if-os-eq45.false _ w.has_equals.ensures w.if-has_equals.true
]

pub returns : goal.returns
returns c = search name_utf8
