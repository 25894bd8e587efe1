-- Each entry is asked for, up to the first that is not good. Assumes nothing.
use mathlib.Core.Bool.{true, false}
use mathlib.Core.Path.{◌≡◌, refl}
use Prim.Native.Nat.{ℕ}
use native.Mathlib.Nat.{sub-zero}
use native.Mathlib.Omega.{arith}
use borrow.Author.Rules.{rules}
use borrow.Author.Tests.{tests}
use Rattle.std.proofs.lemmas.Iterator.{cases_from_all, YieldsList-from_range}
use Rattle.wire.specs.Wire.{entry_of}
use Rattle.rules.specs.Commands.{entry_count, entry_good}
use Rattle.command_layout.proofs.Entries.{good_offsets}
use Rattle.command_check.proofs.Steps.{range_all, entries_answered}
use Rattle.command_check.proofs.entries_good.Goals as goal

pub entry_count-n-requires : goal.entry_count-n-requires
entry_count-n-requires c = omega (arith, good_offsets _ c.requires)

pub returns : goal.returns
returns c =
    let t = c.args.table.now in
    let n : ℕ = c.entry_count-n.result in
    let Yes : ℕ → Type 0 = λ k. true ≡ entry_good (entry_of 4 (entry_count t) t k) in
    let No : ℕ → Type 0 = λ k. false ≡ entry_good (entry_of 4 (entry_count t) t k) in
    entries_answered t n c.entry_count-n.ensures _
    (range_all n Yes No _
    (cases_from_all _ _ _ Yes No c.all.ensures.ran (YieldsList-from_range 0 n n refl (sub-zero n)) (λ x q k. search (rules, tests)) (λ x q k. search (rules, tests))))
