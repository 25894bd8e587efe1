-- A name whose kind is 1 is long. Assumes nothing.
use mathlib.Core.Path.{◌≡◌, refl}
use Prim.Native.Nat.{ℕ}
use native.Mathlib.Nat.{sub-zero}
use borrow.Author.Rules.{rules}
use borrow.Author.Tests.{tests}
use Rattle.std.proofs.lemmas.Iterator.{cases_from_any, YieldsList-from_range}
use Rattle.rules.specs.Form.{Name}
use Rattle.rules.specs.Commands.{read_command}
use Rattle.command_check.proofs.Steps.{Found, range_any, any_long}
use Rattle.command_check.proofs.has_long.Goals as goal

pub returns : goal.returns
returns c =
    let e = c.args.entry.now in
    let n : ℕ = c.name_count-n.result in
    let Yes : ℕ → Type 0 = Found (read_command e).names (λ (x : Name). x.type ≡ 1) in
    let No : ℕ → Type 0 = Found (read_command e).names (λ (x : Name). x.type ≡ 1 → ⊥) in
    any_long e n c.name_count-n.ensures _
    (range_any n Yes No _
    (cases_from_any _ _ _ Yes No c.any.ensures.ran (YieldsList-from_range 0 n n refl (sub-zero n)) (λ x q k. search (rules, tests)) (λ x q k. search (rules, tests))))
