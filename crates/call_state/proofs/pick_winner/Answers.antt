-- By the laws of the calls on two states. Assumes nothing.
use Rattle.call_state.proofs.Entries.{both_fine, pick_bad, pick_some, pick_none}
use mathlib.Core.Path.{ap, ◌∙◌}
use mathlib.Core.Bool.{not}
use Prim.Native.Nat.{ℕ}
use Rattle.call_answers.specs.Answers.{coded, answer_with}
use Rattle.call_state.proofs.pick_winner.Goals.{in-Some, in-None}
use Rattle.call_state.proofs.pick_winner.Goals as goal

pub returns-then-not-both_good : goal.returns-then-not-both_good
returns-then-not-both_good c = search pick_bad

pub pick_winner-picked-requires : goal.pick_winner-picked-requires
pick_winner-picked-requires c = both_fine _ _ _ c.both_good.ensures (ap not c.if-not-both_good.false)

pub returns : goal.returns
returns c =
    let p = c.pick_winner-picked.ensures.picked in
    let good = ap not c.if-not-both_good.false in
    elim c.match-picked.branch [
      | in-Some w ↦
          pick_some _ _ _ c.both_good.ensures good _ p _ _ _ c.yes_no.ensures w.in-Some.is
          (c.answered.ensures ∙ ap (λ (k : ℕ). answer_with 0 0 (coded c.yes_no.result k 0)) w.place-is)
      | in-None w ↦
          pick_none _ _ _ c.both_good.ensures good _ p _ _ c.yes_no.ensures w.in-None.is
          (c.answered.ensures ∙ ap (λ (k : ℕ). answer_with 0 0 (coded c.yes_no.result k 0)) w.place-is)
    ]
