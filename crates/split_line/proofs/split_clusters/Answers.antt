use borrow.Author.Rules.{rules}
use Rattle.form_letters.proofs.Words.{letters_fit}
use Rattle.split_line.proofs.Lines.{splittable_names, scanned_letters, split_letters}
use Rattle.split_line.proofs.split_clusters.Goals as goal

pub letters-counts-requires : goal.letters-counts-requires
letters-counts-requires c = search splittable_names

pub slice_bounds-letters-end : goal.slice_bounds-letters-end
slice_bounds-letters-end c = search (letters_fit, splittable_names, rules)

pub slice_bounds-letters-end-2 : goal.slice_bounds-letters-end-2
slice_bounds-letters-end-2 c = search (letters_fit, splittable_names, rules)

pub construct-requires : goal.construct-requires
construct-requires c = (search rules, search scanned_letters)

pub returns : goal.returns
returns c = search split_letters
