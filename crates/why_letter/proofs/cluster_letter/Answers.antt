-- By whether it has a name. Assumes nothing.
use Rattle.why_letter.proofs.Clusters.{cluster_none, name_begins, name_good_lem, cluster_short}
use borrow.Author.Rules.{rules}
use Rattle.why_letter.proofs.cluster_letter.Goals as goal

pub returns-then-not-has_name : goal.returns-then-not-has_name
returns-then-not-has_name c = search cluster_none

pub slice_bounds-first_unknown-count : goal.slice_bounds-first_unknown-count
slice_bounds-first_unknown-count c = search (name_begins, rules)

pub slice_bounds-first_unknown-start : goal.slice_bounds-first_unknown-start
slice_bounds-first_unknown-start c = search (name_begins, rules)

pub first_unknown-requires : goal.first_unknown-requires
first_unknown-requires c = search name_good_lem

pub returns : goal.returns
returns c = search cluster_short
