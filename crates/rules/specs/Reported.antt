-- A refusal as the code hands it about: its name, and its place if it has one.
use Rattle.std.specs.Prelude.{ℕ, ◌+◌, Option, Some, None, Result, Ok, Err}
use Rattle.rules.specs.declared.Refused.{Refused}
use Rattle.rules.specs.declared.RefusedAt.{RefusedAt}
use Rattle.rules.specs.declared.Refusal.{Refusal}
use Rattle.rules.specs.declared.Refusal.TheVariants.{BadCounts, BadName, BadNode, BadUse, BadSheet, TooManyArguments, ShortSlice, TooManyItems}
use Rattle.rules.specs.declared.Refusal.TheVariants.{Ambiguous, BadTable, ShortList, BadBatch, BadAlphabet, NotShort, TooLarge, ShortOutput}
use Rattle.rules.specs.declared.Refusal.TheVariants.{Missing, NothingCounted, NoArgument, NotStrict, Strict, NotNumber, OutOfBounds, LeftOver}
use Rattle.rules.specs.declared.Refusal.TheVariants.{NotThere, BadState, BadItem, NoCommand, Misread}

-- the number of document 01
abbrev pub number_of : Refusal → ℕ
number_of BadCounts = 1
number_of BadName = 2
number_of BadNode = 3
number_of BadUse = 4
number_of BadSheet = 5
number_of TooManyArguments = 6
number_of ShortSlice = 7
number_of TooManyItems = 8
number_of Ambiguous = 9
number_of BadTable = 11
number_of ShortList = 14
number_of BadBatch = 15
number_of BadAlphabet = 16
number_of NotShort = 17
number_of TooLarge = 18
number_of ShortOutput = 19
number_of Missing = 20
number_of NothingCounted = 21
number_of NoArgument = 22
number_of NotStrict = 23
number_of Strict = 24
number_of NotNumber = 25
number_of OutOfBounds = 26
number_of LeftOver = 27
number_of NotThere = 28
number_of BadState = 29
number_of BadItem = 30
number_of NoCommand = 31
number_of Misread = 50

-- how a test ended: 0 if nothing is refused
abbrev pub tested : {A : Type 0} → Result A Refusal → ℕ
tested (Ok a) = 0
tested (Err e) = number_of e

-- a place is itself plus 1, or 0 for none
abbrev pub place_told : Option ℕ → ℕ
place_told None = 0
place_told (Some i) = i + 1

abbrev pub told : RefusedAt → Refused
told e = record { number = number_of e.refusal; place = place_told e.place }

-- how a check ended: number 0 if nothing is refused
abbrev pub reported : {A : Type 0} → Result A RefusedAt → Refused
reported (Ok a) = record { number = 0; place = 0 }
reported (Err e) = told e
