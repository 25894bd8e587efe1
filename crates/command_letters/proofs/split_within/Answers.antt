-- By the letters of all forms, in two arrays of N words. Assumes nothing.
use Rattle.command_letters.proofs.Tables.{rising_letters, split_forms}
use Prim.Native.Nat.{ℕ}
use lib.ListN.{length-replicate}
use native.Mathlib.Omega.{arith}
use borrow.Author.Rules.{rules}
use Rattle.command_letters.proofs.split_within.Goals as goal

pub construct-requires : goal.construct-requires
construct-requires g c = (search rules, search rising_letters)

pub returns : goal.returns
returns g c = λ cs fs reads accepts. search split_forms

pub shared_whole_as_front-letters : goal.shared_whole_as_front-letters
shared_whole_as_front-letters g c = (omega (arith, c.gather-counts.ensures.gathered.holds.fits, length-replicate {A = ℕ} g.row.N 0), omega arith)

pub shared_whole_as_front-letters-2 : goal.shared_whole_as_front-letters-2
shared_whole_as_front-letters-2 g c = (omega (arith, c.gather-counts.ensures.gathered_2.holds.fits, length-replicate {A = ℕ} g.row.N 0), omega arith)

pub whole_as_slice-gather : goal.whole_as_slice-gather
whole_as_slice-gather g c = omega arith

pub whole_as_slice-gather-2 : goal.whole_as_slice-gather-2
whole_as_slice-gather-2 g c = omega arith
