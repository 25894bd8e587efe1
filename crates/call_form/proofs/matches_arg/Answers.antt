-- By the tests, then by the node and the place. Assumes nothing.
use Rattle.call_form.proofs.Entries.{tests_names, tests_accepted, key_inside, has_item, matches_refused, matches_none, matches_past, matches_some}
use Rattle.call_form.proofs.matches_arg.Goals as goal
use Rattle.call_form.proofs.matches_arg.Goals.{then-key-eq0-via-then-key-eq0, then-key-eq0-via-else-key-eq0+then-s-place}

pub refused_at-requires : goal.refused_at-requires
refused_at-requires c = c.in-Err.ensures.small

pub returns-in-Err : goal.returns-in-Err
returns-in-Err c = matches_refused _ _ _ _ _ c.in-Err.ensures _ _ _ c.refused_at.ensures

pub key_at-key-requires : goal.key_at-key-requires
key_at-key-requires c = tests_accepted _ _ _ _ c.in_default.ensures

pub returns-then-key-eq0 : goal.returns-then-key-eq0
returns-then-key-eq0 c =
    elim c.then-key-eq0.branch [
      | then-key-eq0-via-then-key-eq0 w ↦ search (matches_none, c.in_default.ensures)
      | then-key-eq0-via-else-key-eq0+then-s-place w ↦ search (matches_past, c.in_default.ensures)
    ]

pub matched-requires : goal.matched-requires
matched-requires c = (search (tests_names, c.in_default.ensures), search (key_inside, c.in_default.ensures), search (has_item, c.in_default.ensures))

pub returns : goal.returns
returns c = search (matches_some, c.in_default.ensures)
