-- A checked sheet's arguments: each is the entry that is handed out, and they lie in the area one behind the other.
use mathlib.Core.Path.{◌≡◌, refl, ◌∙◌, ap}
use mathlib.Core.Logic.{inl}
use mathlib.Core.List.{List, map}
use mathlib.Core.Option.{some}
use Prim.Native.Nat.{ℕ, zero, suc, ◌+◌, ◌-◌, ◌≤◌, ◌<◌}
use native.Mathlib.Nat.{zero-add}
use native.Mathlib.Omega.{arith}
use lib.ListN.{length, get_elem?, take, drop, length-drop}
use Rattle.wire.specs.Wire.{offset, area_start, area, entry_of, HasEntry}
use Rattle.wire.specs.Laws.{good_table, placed, entry_length, start_rises}
use Rattle.rules.specs.Base.{numbers}
use Rattle.rules.specs.Sheet.{argument_count, sheet_area, sheet_fault, arguments}
use Rattle.rules.proofs.Formats.{good_sheet}
use Rattle.split_sheet.specs.Checked.{HasArgument, HasOffset}

-- an element of the numbers from j on, mapped
numbered : {A : Type 0} (R : ℕ → A) (n j k : ℕ) → k < n → get_elem? (map R (numbers n j)) k ≡ some (R (j + k))
unfolding numbers
numbered R zero j k h = absurd (omega arith)
numbered R (suc n) j zero h = let e : j + 0 ≡ j = omega arith in rw e
numbered R (suc n) j (suc k) h =
    let e : j + suc k ≡ suc j + k = omega arith in
    rw e (numbered R n (suc j) k (omega arith))

-- argument k is the k-th
pub argument_at_lem : (s : List ℕ) (k : ℕ) → k < argument_count s → get_elem? (arguments s) k ≡ some (entry_of 2 (argument_count s) s k)
unfolding arguments
argument_at_lem s k h =
    let n = argument_count s in
    numbered (entry_of 2 n s) n 0 k h ∙ ap (λ (i : ℕ). some (entry_of 2 n s i)) (zero-add k)

pub has_entry : {s : List ℕ} {k n : ℕ} → HasArgument s k → n ≡ argument_count s → HasEntry 2 n s k
has_entry {s} {k} {n} h e =
    rw e (record { width = inl refl; good = (good_sheet s h.made).table; below = h.below })

-- an offset ends before the area begins
pub offset_there : {s : List ℕ} {k : ℕ} → HasOffset s k → area_start 2 k ≤ length s
offset_there {s} {k} h =
    let n = argument_count s in
    omega (arith, good_table 2 n s (good_sheet s h.made).table, start_rises 2 k n h.within)

-- where argument k lies: it is this part of the area, and the next one begins where it ends
pub record Lies (s : List ℕ) (k : ℕ) : Type 0 where
  pub part : entry_of 2 (argument_count s) s k ≡ take (offset 2 s (k + 1) - offset 2 s k) (drop (offset 2 s k) (sheet_area s))
  pub next : offset 2 s k + length (entry_of 2 (argument_count s) s k) ≡ offset 2 s (k + 1)
  pub inside : offset 2 s (k + 1) ≤ length (sheet_area s)

pub lies : {s : List ℕ} {k : ℕ} → HasArgument s k → Lies s k
unfolding entry_of sheet_area area
lies {s} {k} h =
    let n = argument_count s in
    let has = has_entry h refl in
    let p = placed has in
    record {
      part = refl;
      next = omega (arith, entry_length has);
      inside = omega (arith, length-drop (area_start 2 n) s);
    }

-- the first argument begins where the area does, and the last offset is the area's length
pub record EndsWithin (s : List ℕ) : Type 0 where
  pub first : offset 2 s 0 ≡ 0
  pub last : offset 2 s (argument_count s) ≡ length (sheet_area s)

pub ends : (s : List ℕ) → sheet_fault s ≡ 0 → EndsWithin s
unfolding sheet_area area
ends s e =
    let n = argument_count s in
    let table = good_table 2 n s (good_sheet s e).table in
    record { first = table.first; last = omega (arith, length-drop (area_start 2 n) s) }
