-- Whether the record is an item, then the place, then the names. Assumes nothing.
use native.Mathlib.Omega.{arith}
use Rattle.call_find.proofs.Ends.{judge_bad, judge_kept, judge_unreached, judge_near, judge_names, judge_item, judge_found, judge_other}
use Rattle.std.proofs.Math.Path.{ap}
use mathlib.Core.Bool.{not}
use Rattle.call_find.proofs.judge.Goals as goal

pub returns-then-not-record_good : goal.returns-then-not-record_good
returns-then-not-record_good c = search judge_bad

pub returns-then-found-ne0 : goal.returns-then-found-ne0
returns-then-found-ne0 c = search judge_kept

pub returns-then-not-is_reached : goal.returns-then-not-is_reached
returns-then-not-is_reached c = search judge_unreached

pub matches-requires : goal.matches-requires
matches-requires c =
    let pre = c.requires in (
      judge_names _ _ _ _ _ _ _ pre _
          c.words_of-words.ensures _
          c.record_good.ensures (ap not c.if-not-record_good.false)
          c.if-found-ne0.false _ c.is_reached.ensures
          (ap not c.if-not-is_reached.false),
      judge_item _ _ _ _ _ _ _ pre _
          c.words_of-words.ensures _
          c.record_good.ensures (ap not c.if-not-record_good.false)
          c.if-found-ne0.false _ c.is_reached.ensures
          (ap not c.if-not-is_reached.false),
    )

pub overflow_add-result : goal.overflow_add-result
overflow_add-result c =
    record {
      fits = omega (
        arith,
        judge_near _ _ _ _ _ _ _
            c.requires _
            c.words_of-words.ensures _
            c.record_good.ensures
            (ap not c.if-not-record_good.false)
            c.if-found-ne0.false _
            c.is_reached.ensures (ap not c.if-not-is_reached.false),
      );
    }

pub returns-then-matches : goal.returns-then-matches
returns-then-matches c =
    judge_found _ _ _ _ _ _ _ c.requires _
    c.words_of-words.ensures _
    c.record_good.ensures
    (ap not c.if-not-record_good.false)
    c.if-found-ne0.false _
    c.is_reached.ensures (ap not c.if-not-is_reached.false) _
    c.matches.ensures c.if-matches.true

pub returns : goal.returns
returns c =
    judge_other _ _ _ _ _ _ _ c.requires _
    c.words_of-words.ensures _
    c.record_good.ensures
    (ap not c.if-not-record_good.false)
    c.if-found-ne0.false _
    c.is_reached.ensures (ap not c.if-not-is_reached.false) _
    c.matches.ensures c.if-matches.false
