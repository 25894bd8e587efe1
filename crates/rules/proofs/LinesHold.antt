-- The (P) lines hold, and the line on a form with all eleven kinds: each is computed by the definition that the run's contract cites.
use mathlib.Core.List.{map}
use mathlib.Core.Path.{◌≡◌, refl}
use Rattle.rules.specs.Outcome.{ok}
use Rattle.rules.specs.Run.{run}
use Rattle.rules.specs.Encode.{encode_sheet, encode_form}
use Rattle.rules.specs.Lines.{reported, entries, all_kinds}
use Rattle.rules.proofs.Opened.{formats, forms, splitting, states, evaluation, running}

pub lines : map (λ e. run (encode_form e.form) (encode_sheet e.arguments) 1792 8240 192) entries ≡ map (λ e. ok (reported e)) entries
unfolding formats forms splitting states evaluation running
lines = refl

pub all_kinds_lem : run (encode_form all_kinds.form) (encode_sheet all_kinds.arguments) 1792 8240 192 ≡ ok (reported all_kinds)
unfolding formats forms splitting states evaluation running
all_kinds_lem = refl
