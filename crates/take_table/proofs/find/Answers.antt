use mathlib.Core.Path.{◌∙◌, ◌≡◌}
use Rattle.std.proofs.Common.{rules}
use lib.ListN.{get_or}
use Prim.Native.Nat.{◌+◌}
use Rattle.take_search.proofs.Search.{first_sought}
use Rattle.take_table.proofs.Absent.{absent_sought}
use Rattle.take_table.specs.Bits.{bit_at}
use Rattle.take_table.proofs.find.Goals as goal

pub returns-then-is_absent : goal.returns-then-is_absent
returns-then-is_absent c = absent_sought _ _ _ c.is_absent.ensures c.if-is_absent.true _ _ _ c.requires.1

pub returns : goal.returns
returns c =
    λ area words test t.
    first_sought area words test _ _ c.requires.4 _ _ _ c.first_where.ensures
    (λ i b h s x e. let z : b ≡ bit_at (get_or c.args.table.now (i + 1) 0) c.args.node = search rules in z ∙ t.at i x h e)
