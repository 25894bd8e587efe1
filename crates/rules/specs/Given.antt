-- The tests before a call, in this order: 1 to 4, 6 and 5, 7, 14. A call makes those whose input it has.
use Rattle.std.proofs.Math.Option.{none}
use Rattle.std.specs.Prelude.{List, ℕ, leb, eqb, length}
use Rattle.std.specs.Prelude.{if◌then◌else◌}
use Rattle.rules.specs.Outcome.{Outcome, ok, refused, ◌>>=◌, refuse}
use Rattle.rules.specs.Sheet.{sheet_fault, sheet_area}
use Rattle.rules.specs.Accept.{Accepted, accepted, refused_at, check_form}

-- 1 to 4
unfoldable pub form_in : List ℕ → Outcome Accepted
form_in b = elim (check_form b) [ refused_at n k ↦ refused (refuse n k) | accepted a ↦ ok a ]

-- 6 and 5; the sheet's area
unfoldable pub sheet_in : List ℕ → Outcome (List ℕ)
sheet_in s = if eqb (sheet_fault s) 0 then ok (sheet_area s) else refused (refuse (sheet_fault s) none)

-- 7: a slice with fewer words than it must have, 1,792 for items and 8,240 for answers
unfoldable pub room_in : (least n : ℕ) → Outcome ℕ
room_in least n = if leb least n then ok n else refused (refuse 7 none)

-- the slice itself, where the call reads it
unfoldable pub slice_in : ℕ → List ℕ → Outcome (List ℕ)
slice_in least l = room_in least (length l) >>= λ _. ok l

-- 14: a list slice with fewer than 192 words
unfoldable pub list_room_in : ℕ → Outcome ℕ
list_room_in n = if leb 192 n then ok n else refused (refuse 14 none)

-- a run's and a split's: form, sheet, and the length of the item slice
unfoldable pub input_in : List ℕ → List ℕ → ℕ → Outcome Accepted
input_in form sheet n = form_in form >>= λ a. sheet_in sheet >>= λ _. room_in 1792 n >>= λ _. ok a
