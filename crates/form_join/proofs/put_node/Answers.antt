-- Four numbers of two bytes, then two of four. Assumes nothing.
use native.Mathlib.Omega.{arith}
use Rattle.form_join.proofs.WrittenLaws.{node_put}
use Rattle.form_join.proofs.put_node.Goals as goal

pub number-requires : goal.number-requires
number-requires c = omega (arith, c.requires.within)

pub returns : goal.returns
returns c = search node_put
