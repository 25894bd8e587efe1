-- The sheet: count n of arguments (0..256), n + 1 offsets, then the byte area (at most 32,768).
use Rattle.std.specs.Prelude.{Bool, ◌&&◌, List, map, ℕ, leb, ltb, length}
use Rattle.std.specs.Prelude.{if◌then◌else◌}
use Rattle.wire.specs.Wire.{number_at, area, table_good, entry_of}
use Rattle.rules.specs.Base.{numbers}

unfoldable pub argument_count : List ℕ → ℕ
argument_count s = number_at 2 s 0

unfoldable pub sheet_area : List ℕ → List ℕ
sheet_area s = area 2 (argument_count s) s

-- First offset 0, offsets never fall, the last equals the area's length, nothing follows
unfoldable pub sheet_good : List ℕ → Bool
sheet_good s = table_good 2 (argument_count s) s && leb (length (sheet_area s)) 32768

-- 0 if the sheet is well made. 6: more than 256 arguments, read before the offsets. 5: any other fault
unfoldable pub sheet_fault : List ℕ → ℕ
sheet_fault s =
    if ltb (length s) 2
    then 5
    else (if ltb 256 (argument_count s) then 6 else (if sheet_good s then 0 else 5))

unfoldable pub arguments : List ℕ → List (List ℕ)
arguments s = map (entry_of 2 (argument_count s) s) (numbers (argument_count s) 0)
