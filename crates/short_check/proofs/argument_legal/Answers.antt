use mathlib.Core.Path.{◌≡◌}
use borrow.Author.Rules.{rules}
use borrow.Author.Tests.{tests}
use Rattle.std.specs.List.{list_all}
use Rattle.std.proofs.lemmas.Iterator.{YieldsList-from_slice}
use Rattle.std.proofs.lemmas.Iterator.Search.{all_from_yields_List}
use Rattle.rules.specs.Base.{contains}
use Rattle.short_check.proofs.Legal.{argument_long, argument_letters}
use Rattle.short_check.proofs.argument_legal.Goals as goal

pub returns-then-argument-le-ARGUMENT : goal.returns-then-argument-le-ARGUMENT
returns-then-argument-le-ARGUMENT c =
    let letters : c.all.result ≡ list_all (contains c.args.alphabet.now) c.args.argument.now =
    all_from_yields_List (contains c.args.alphabet.now) _ _ c.all.result c.all.ensures.ran (YieldsList-from_slice c.args.argument.now cc)
    (λ x b q k. search (rules, tests)) in
    argument_letters _ _ _ c.if-argument-le-ARGUMENT.true letters

pub returns-else-argument-le-ARGUMENT : goal.returns-else-argument-le-ARGUMENT
returns-else-argument-le-ARGUMENT c = search argument_long
