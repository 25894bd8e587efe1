-- What holds of the step, and of all the steps from the empty sheet.
use Rattle.std.specs.Prelude.{true, false, not, ◌&&◌, List, [], ◌∷◌, ◌++◌, ◌⊎◌, ◌≡◌, ℕ, zero, suc, ◌+◌, ◌-◌, ◌^◌, ◌≤◌, ◌<◌, eqb, length, take, get_or, replicate}
use Rattle.std.proofs.Math.Option.{Option, some, none}
use Rattle.std.specs.Prelude.{if◌then◌else◌}
use Rattle.rules.specs.Base.{◌>>?◌}
use Rattle.rules.specs.Sheet.{arguments}
use Rattle.rules.specs.Encode.{encode_sheet}
use Rattle.rules.specs.Demands.{All, Bytes}
use Rattle.rules.specs.WellMade.{SheetMade}
use Rattle.rules_short.specs.Short.{comes_before, NextReport, next_sheet}

-- ---- the set, as facts
-- one to eight distinct bytes
pub record AlphabetMade (al : List ℕ) : Type 0 where
  pub least : 1 ≤ length al
  pub most : length al ≤ 8
  pub distinct : (i j : ℕ) → i < length al → j < length al → get_or al i 0 ≡ get_or al j 0 → i ≡ j

-- a byte of the alphabet, and its place there
pub record Letter (al : List ℕ) (b : ℕ) : Type 0 where
  pub place : ℕ
  pub below : place < length al
  pub here : get_or al place 0 ≡ b

pub record ArgumentShort (al os : List ℕ) : Type 0 where
  pub size : length os ≤ 4
  pub letters : All (Letter al) os

pub record ArgumentsShort (al : List ℕ) (args : List (List ℕ)) : Type 0 where
  pub count : length args ≤ 3
  pub each : All (ArgumentShort al) args

-- a legal sheet
pub record SheetShort (al s : List ℕ) : Type 0 where
  pub made : SheetMade s
  pub short : ArgumentsShort al (arguments s)

-- ---- the order
abbrev pub Precedes : (al s t : List ℕ) → Type 0
Precedes al s t = comes_before al (arguments s) (arguments t) ≡ true

-- a well-made sheet is told by its arguments: there is no other encoding of them
abbrev pub ToldByArguments : Type 0
ToldByArguments = (s t : List ℕ) → Bytes s → Bytes t → SheetMade s → SheetMade t → arguments s ≡ arguments t → s ≡ t

-- so the order is one of the legal sheets, and each of them has room in 22 bytes
pub record Ordered (al : List ℕ) : Type 0 where
  pub irreflexive : (s : List ℕ) → SheetShort al s → Precedes al s s → ⊥
  pub transitive :
      (s t u : List ℕ) → SheetShort al s → SheetShort al t → SheetShort al u → Precedes al s t → Precedes al t u → Precedes al s u
  pub total :
      (s t : List ℕ)
      → Bytes s
      → Bytes t
      → SheetShort al s
      → SheetShort al t
      → Precedes al s t ⊎ ((s ≡ t) ⊎ Precedes al t s)
  pub fits : (s : List ℕ) → SheetShort al s → length s ≤ 22

-- ---- one step
-- no sheet: length 0, and the whole output 0
pub record Cleared (n : ℕ) (r : NextReport) : Type 0 where
  pub length : r.length ≡ 0
  pub output : r.output ≡ replicate n 0

-- the next sheet, and 0 to the end of the output
pub record NextOf (al s : List ℕ) (n : ℕ) (r : NextReport) : Type 0 where
  pub sheet : List ℕ
  pub size : r.length ≡ length sheet
  pub fits : length sheet ≤ 22
  pub output : r.output ≡ sheet ++ replicate (n - length sheet) 0
  pub encoded : encode_sheet (arguments sheet) ≡ sheet
  pub bytes : Bytes al → Bytes sheet
  pub legal : SheetShort al sheet
  pub after : Precedes al s sheet
  pub between : (t : List ℕ) → SheetShort al t → Precedes al s t → Precedes al t sheet → ⊥

-- Every alphabet, sheet and output is answered with one of four numbers: 16, then 17, then 19, each just if its fact does not hold
pub record NextAnswered (al s : List ℕ) (n : ℕ) (r : NextReport) : Type 0 where
  pub number : (r.number ≡ 0) ⊎ ((r.number ≡ 16) ⊎ ((r.number ≡ 17) ⊎ (r.number ≡ 19)))
  pub place : r.place ≡ none
  pub alphabet : r.number ≡ 16 → AlphabetMade al → ⊥
  pub sheet : r.number ≡ 17 → AlphabetMade al × (SheetShort al s → ⊥)
  pub room : r.number ≡ 19 → AlphabetMade al × SheetShort al s × (n < 22)
  pub good : r.number ≡ 0 → AlphabetMade al × SheetShort al s × (22 ≤ n)
  pub refused : (r.number ≡ 0 → ⊥) → (r.last ≡ false) × Cleared n r
  pub next : r.number ≡ 0 → r.last ≡ false → NextOf al s n r
  -- the last: no other comes behind it
  pub last : r.last ≡ true → (r.number ≡ 0) × Cleared n r × ((t : List ℕ) → SheetShort al t → Precedes al s t → ⊥)

-- ---- how many there are
unfoldable pub sum_below : (ℕ → ℕ) → ℕ → ℕ
sum_below f zero = 0
sum_below f (suc n) = sum_below f n + f n

-- T, over an alphabet of a bytes: the arguments of up to four bytes
unfoldable pub argument_total : ℕ → ℕ
argument_total a = sum_below (λ k. a ^ k) 5

-- 1 + T + T² + T³: the sheets of up to three arguments
unfoldable pub sheet_total : ℕ → ℕ
sheet_total a = sum_below (λ n. argument_total a ^ n) 4

-- ---- all steps
-- the sheet that a report hands out
unfoldable pub sheet_of : NextReport → Option (List ℕ)
sheet_of r = if eqb r.number 0 && not r.last then some (take r.length r.output) else none

-- so many steps from the empty sheet, each into an output of n bytes
unfoldable pub steps : List ℕ → ℕ → ℕ → Option (List ℕ)
steps al n zero = some (0 ∷ 0 ∷ 0 ∷ 0 ∷ [])
steps al n (suc k) = steps al n k >>? λ s. sheet_of (next_sheet al s n)

pub record ReachedOnce (al : List ℕ) (n : ℕ) (s : List ℕ) : Type 0 where
  pub count : ℕ
  pub below : count < sheet_total (length al)
  pub reached : steps al n count ≡ some s
  pub once : (k : ℕ) → steps al n k ≡ some s → k ≡ count

pub record LegalAt (al : List ℕ) (n k : ℕ) : Type 0 where
  pub sheet : List ℕ
  pub reached : steps al n k ≡ some sheet
  pub legal : SheetShort al sheet

-- Each legal sheet is reached by exactly one count of steps, each count below the total reaches one, in their order, and no other does
pub record Walked (al : List ℕ) (n : ℕ) : Type 0 where
  pub every : (s : List ℕ) → Bytes s → SheetShort al s → ReachedOnce al n s
  pub legal : (k : ℕ) → k < sheet_total (length al) → LegalAt al n k
  pub past : (k : ℕ) → sheet_total (length al) ≤ k → steps al n k ≡ none
  pub order : (j k : ℕ) (s t : List ℕ) → steps al n j ≡ some s → steps al n k ≡ some t → j < k → Precedes al s t
