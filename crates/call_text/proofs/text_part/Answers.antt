-- Each test in its turn (`Words`). Assumes nothing.
use mathlib.Core.Path.{refl}
use Rattle.rules.proofs.GivenLaws.{check_eight}
use Rattle.rules.proofs.ReportedLaws.{numbered}
use Rattle.call_answers.proofs.Places.{check_small}
use Rattle.call_text.proofs.Words.{form_refused, table_refuses, no_item, has_item, item_part_lem, no_record, has_record, record_part_lem}
use Rattle.call_text.proofs.text_part.Goals as goal

pub refused_at-requires : goal.refused_at-requires
refused_at-requires c = check_small _ _ c.in-Err.ensures

pub returns-in-Err : goal.returns-in-Err
returns-in-Err c = form_refused _ _ _ _ _ c.in-Err.ensures (numbered _) _ c.refused_at.ensures

pub returns-in-Err-given : goal.returns-in-Err-given
returns-in-Err-given c = table_refuses _ _ _ _ _ c.in_default.ensures refl _ c.in-Err-given.ensures _ c.refused.ensures

pub returns-then-count-n : goal.returns-then-count-n
returns-then-count-n c =
    no_item _ _ _ _ _ c.in_default.ensures refl _ c.in-Ok.ensures _ refl c.if-n-lt256.true c.if-count-n.true _ c.refused-then-count-n.ensures

pub item_part-requires : goal.item_part-requires
item_part-requires c = has_item _ _ _ _ _ c.in_default.ensures refl _ c.in-Ok.ensures _ refl c.if-n-lt256.true c.if-count-n.false

pub returns-then-n-lt256 : goal.returns-then-n-lt256
returns-then-n-lt256 c =
    item_part_lem _ _ _ _ _ c.in_default.ensures refl _ c.in-Ok.ensures _ refl c.if-n-lt256.true c.if-count-n.false _ c.item_part.ensures

pub name_count-requires : goal.name_count-requires
name_count-requires c = check_eight _ _ c.in_default.ensures refl

pub returns-then-name_count-k : goal.returns-then-name_count-k
returns-then-name_count-k c =
    no_record _ _ _ _ _ c.in_default.ensures refl _ c.in-Ok.ensures _ refl c.if-n-lt256.false _ c.name_count.ensures c.if-name_count-k.true _
    c.refused-then-name_count-k.ensures

pub record_part-requires : goal.record_part-requires
record_part-requires c =
    has_record _ _ _ _ _ c.in_default.ensures refl _ c.in-Ok.ensures _ refl c.if-n-lt256.false _ c.name_count.ensures c.if-name_count-k.false

pub returns : goal.returns
returns c =
    record_part_lem _ _ _ _ _ c.in_default.ensures refl _ c.in-Ok.ensures _ refl c.if-n-lt256.false _ c.name_count.ensures _ c.record_part.ensures
