use mathlib.Core.Path.{sym, ◌∙◌}
use native.Mathlib.Omega.{arith}
use borrow.Author.Tests.{lt-ltb}
use Rattle.utf8.specs.Laws.{well_formed_ascii}
use Rattle.utf8.proofs.valid.Goals as goal

pub returns-then-greatest-lt128 : goal.returns-then-greatest-lt128
returns-then-greatest-lt128 c =
    lt-ltb _ _ c.if-greatest-lt128.true
    ∙ sym (well_formed_ascii _ (λ i l. omega (arith, c.greatest.ensures i l, c.if-greatest-lt128.true)))
