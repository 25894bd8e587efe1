-- By whether the letter is wanted and there. Assumes nothing.
use Rattle.form_letters.proofs.Words.{unwanted, letterless, one_letter}
use Rattle.form_letters.proofs.append.Goals.{then-not-wanted-via-then-not-wanted, then-not-wanted-via-else-not-wanted+then-code-eq0}
use Rattle.form_letters.proofs.append.Goals as goal

pub returns-then-not-wanted : goal.returns-then-not-wanted
returns-then-not-wanted c =
    elim c.then-not-wanted.branch [
      | then-not-wanted-via-then-not-wanted w ↦ unwanted _ _ _ _ w.if-not-wanted.true
      | then-not-wanted-via-else-not-wanted+then-code-eq0 w ↦ letterless _ _ _ _ w.if-not-wanted.false w.if-code-eq0.true
    ]

pub returns : goal.returns
returns c = search one_letter
