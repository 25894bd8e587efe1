-- A sheet is without fault exactly when it is well made, and its number is that of its fault.
use mathlib.Core.Bool.{Bool, true, false}
use mathlib.Core.List.{List}
use mathlib.Core.Path.{◌≡◌, refl}
use Prim.Native.Nat.{ℕ, ◌+◌, ◌*◌, ◌≤◌, ◌<◌}
use native.Mathlib.Omega.{arith}
use borrow.Author.Tests.{le-leb, le-ltb, ltb-true, ltb-false}
use lib.Dec.{ltb}
use lib.ListN.{length, length-drop}
use Rattle.std.specs.Prelude.{if◌then◌else◌}
use Rattle.wire.specs.Wire.{area_start, area}
use Rattle.wire.specs.Laws.{good_table, offset_rises}
use Rattle.rules.specs.Sheet.{argument_count, sheet_area, sheet_good, sheet_fault}
use Rattle.rules.specs.WellMade.{SheetMade}
use Rattle.rules.specs.Answered.{SheetFault, many_arguments, bad_sheet}
use Rattle.rules.proofs.Acceptance.{both}
use Rattle.rules.proofs.Formats.{made_table, good_sheet}

pub sheet_made : (s : List ℕ) → sheet_fault s ≡ 0 → SheetMade s
unfolding sheet_area area area_start
sheet_made s e =
    let g = good_sheet s e in
    let n = argument_count s in
    let t = good_table 2 n s g.table in
    let rest = length-drop (area_start 2 n) s in
    record {
      counted = g.long;
      count = omega (arith, g.few);
      offsets = omega (arith, t.long);
      area = omega (arith, g.fits);
      first = omega (arith, t.first);
      rising = λ k l. omega (arith, offset_rises 2 n s g.table k (k + 1) (omega arith) (omega arith));
      last = omega (arith, t.last);
    }

module _ (s : List ℕ) (w : SheetMade s) where
  made_good : sheet_good s ≡ true
  unfolding sheet_good sheet_area area area_start
  made_good =
      let n = argument_count s in
      let rest = length-drop (2 + 2 * (n + 1)) s in
      both (made_table 2 n s w.offsets w.first w.rising (omega (arith, w.offsets, w.last)))
      (le-leb (length (sheet_area s)) 32768 (omega (arith, w.area)))

  pub made_sheet : sheet_fault s ≡ 0
  unfolding sheet_fault
  made_sheet = rw (le-ltb (length s) 2 (omega (arith, w.counted)), le-ltb 256 (argument_count s) (omega (arith, w.count)), made_good)

  -- 2 + 2 × 257 + 32,768
  pub made_length : length s ≤ 33284
  unfolding sheet_area area area_start
  made_length = omega (arith, w.count, w.area, w.offsets, length-drop (area_start 2 (argument_count s)) s)

-- a sheet with a fault is at fault as its number says
pub sheet_fault_lem : (s : List ℕ) → 0 < sheet_fault s → SheetFault s (sheet_fault s)
unfolding sheet_fault
sheet_fault_lem s h = go (ltb (length s) 2) refl (ltb 256 (argument_count s)) refl (sheet_good s) refl h
  where
    made : SheetMade s → ⊥
    made w = omega (arith, h, made_sheet s w)

    go :
        (short : Bool)
        → ltb (length s) 2 ≡ short
        → (many : Bool)
        → ltb 256 (argument_count s) ≡ many
        → (good : Bool)
        → sheet_good s ≡ good
        → 0 < (if short then 5 else (if many then 6 else (if good then 0 else 5)))
        → SheetFault s (if short then 5 else (if many then 6 else (if good then 0 else 5)))
    go true p many q good r l = bad_sheet made (λ c. absurd (omega (arith, c, ltb-true (length s) 2 p)))
    go false p true q good r l = many_arguments (ltb-false (length s) 2 p) (ltb-true 256 (argument_count s) q)
    go false p false q true r l = absurd (omega (arith, l))
    go false p false q false r l = bad_sheet made (λ c. ltb-false 256 (argument_count s) q)
