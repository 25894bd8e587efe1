-- Each name is asked for, up to the first that is not good. Assumes nothing.
use mathlib.Core.Bool.{true, false}
use mathlib.Core.List.{List}
use mathlib.Core.Path.{◌≡◌, refl}
use Prim.Native.Nat.{ℕ}
use native.Mathlib.Nat.{sub-zero}
use borrow.Author.Rules.{rules}
use borrow.Author.Tests.{tests}
use Rattle.std.proofs.lemmas.Iterator.{cases_from_all, YieldsList-from_range}
use Rattle.rules.specs.Form.{Name}
use Rattle.rules.specs.Commands.{read_command, command_name_good}
use Rattle.command_check.proofs.Steps.{Found, range_all, names_answered}
use Rattle.command_check.proofs.names_good.Goals as goal

pub returns : goal.returns
returns c =
    let e = c.args.entry.now in
    let n : ℕ = c.name_count-n.result in
    let area : List ℕ = c.area_of-area.result.now in
    let Yes : ℕ → Type 0 = Found (read_command e).names (λ (x : Name). true ≡ command_name_good area x) in
    let No : ℕ → Type 0 = Found (read_command e).names (λ (x : Name). false ≡ command_name_good area x) in
    names_answered e n c.name_count-n.ensures area c.area_of-area.ensures _
    (range_all n Yes No _
    (cases_from_all _ _ _ Yes No c.all.ensures.ran (YieldsList-from_range 0 n n refl (sub-zero n)) (λ x q k. search (rules, tests)) (λ x q k. search (rules, tests))))
