-- The number of the node falls.
use Rattle.form_kinds.proofs.+fill.Given as goal

abbrev pub decreases-fill : goal.decreases-fill
decreases-fill l = l.k
