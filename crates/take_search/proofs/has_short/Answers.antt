use Rattle.std.proofs.Common.{sym, ◌∙◌, ◌≡◌, ℕ, ◌+◌, ◌-◌, arith}
use Rattle.take_search.proofs.NameLaws.{sifting_next, sifting_hit, sifting_last}
use Rattle.take_search.proofs.has_short.Goals as goal

-- as many codes as the slice has
span : (first count : ℕ) → first + count - first ≡ count
span first count = omega arith

pub returns-then-from-want : goal.returns-then-from-want
returns-then-from-want c =
    rw (← c.from-want.ensures) (rw (span c.args.first c.args.count) at
    (sifting_hit _ _ _ c.loop-code.invariant c.loop-code-test.true (sym c.from.ensures ∙ c.if-from-want.true)))

pub loop-code-preserved : goal.loop-code-preserved
loop-code-preserved c = sifting_next _ _ _ c.loop-code.invariant c.loop-code-test.true (λ e. c.if-from-want.false (c.from.ensures ∙ e))

pub returns : goal.returns
returns c = rw (← c.from-want.ensures) (rw (span c.args.first c.args.count) at (sifting_last _ _ _ c.loop-code.invariant c.loop-code-test.false))
