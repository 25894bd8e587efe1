use native.Mathlib.Omega.{arith}
use Rattle.take_once.proofs.Names.{place_item, looking_first, looking_next, looking_hit, looking_last}
use Rattle.take_once.proofs.earlier.Goals as goal

pub loop-j-init : goal.loop-j-init
loop-j-init c = looking_first _ _ _

pub same_name-requires : goal.same_name-requires
same_name-requires c = (place_item _ _ _ _ c.requires (omega arith), place_item _ _ _ _ c.requires (omega (arith, c.loop-j.invariant.within)))

pub returns-then-same_name : goal.returns-then-same_name
returns-then-same_name c = looking_hit _ _ _ _ c.loop-j.invariant c.loop-j-test.true _ c.same_name.ensures c.if-same_name.true

pub loop-j-preserved : goal.loop-j-preserved
loop-j-preserved c = looking_next _ _ _ _ c.loop-j.invariant c.loop-j-test.true _ c.same_name.ensures c.if-same_name.false

pub returns : goal.returns
returns c = looking_last _ _ _ _ c.loop-j.invariant c.loop-j-test.false
