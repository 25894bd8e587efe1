use Rattle.short_check.proofs.Legal.{byte_twice, byte_once, rest_is, all_once}
use Rattle.short_check.proofs.distinct.Goals as goal

pub returns-then-has : goal.returns-then-has
returns-then-has c = search (byte_twice, rest_is)

pub loop-i-preserved : goal.loop-i-preserved
loop-i-preserved c = search (byte_once, rest_is)

pub returns : goal.returns
returns c = search all_once
