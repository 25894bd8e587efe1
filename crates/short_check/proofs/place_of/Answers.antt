use mathlib.Core.Path.{◌≡◌}
use borrow.Author.Rules.{rules}
use borrow.Author.Tests.{tests}
use lib.Dec.{eqb}
use Rattle.std.specs.Prelude.{position}
use Rattle.std.proofs.lemmas.Iterator.{YieldsList-from_slice}
use Rattle.std.proofs.lemmas.Iterator.Search.{position_from_yields_List}
use Rattle.short_check.proofs.Letters.{place_found}
use Rattle.short_check.proofs.place_of.Goals as goal

pub returns : goal.returns
returns c =
    let found : c.position.result ≡ position (λ y. eqb y c.args.x) c.args.alphabet.now =
    position_from_yields_List (λ y. eqb y c.args.x) _ _ c.position.result c.position.ensures.ran (YieldsList-from_slice c.args.alphabet.now cc)
    (λ x b q k. search (rules, tests)) in
    place_found _ _ _ _ found c.unwrap_or.ensures
