-- By how many letters there are. Assumes nothing.
use Prim.Native.Nat.{◌<◌}
use native.Mathlib.Omega.{arith}
use lib.ListN.{length}
use Rattle.short_check.proofs.Legal.{no_letter, many_letters, letters_good}
use Rattle.short_check.proofs.alphabet_good.Goals.{then-alphabet-ge1, else-alphabet-ge1}
use Rattle.short_check.proofs.alphabet_good.Goals as goal

pub returns-then-alphabet-le-LETTERS : goal.returns-then-alphabet-le-LETTERS
returns-then-alphabet-le-LETTERS c = search letters_good

pub returns-else-alphabet-le-LETTERS : goal.returns-else-alphabet-le-LETTERS
returns-else-alphabet-le-LETTERS c = elim c.if-alphabet-ge1.branch [
  | then-alphabet-ge1 w ↦ let many : 8 < length c.args.alphabet.now = omega arith in search many_letters
  | else-alphabet-ge1 w ↦ search no_letter
]
