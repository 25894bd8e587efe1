use mathlib.Core.Bool.{false, true, false≢true}
use mathlib.Core.Path.{◌≡◌}
use Rattle.std.proofs.Common.{rules}
use Rattle.state_marks.proofs.Marks.{first_of_all}
use Rattle.state_marks.proofs.first_present.Goals as goal

pub returns : goal.returns
returns c = first_of_all _ _ _ _ c.requires.1 _ c.first_where.ensures (λ k s. let e : false ≡ true = search rules in false≢true e)
