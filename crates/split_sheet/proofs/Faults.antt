-- Each way out of the check against the definition.
use mathlib.Core.Path.{◌≡◌, refl, sym, ◌∙◌}
use mathlib.Core.Bool.{Bool, true, false, not}
use mathlib.Core.List.{List}
use Prim.Native.Nat.{ℕ, ◌-◌, ◌≤◌, ◌<◌}
use native.Mathlib.Omega.{arith}
use lib.ListN.{length, length-drop}
use borrow.Author.Tests.{lt-ltb, le-ltb, le-leb, lt-leb}
use Rattle.wire.specs.Wire.{number_at, area_start, area, table_good}
use Rattle.wire.specs.Laws.{good_table}
use Rattle.rules.specs.Sheet.{argument_count, sheet_area, sheet_good, sheet_fault}

not-true : (t : Bool) → not t ≡ true → t ≡ false
not-true false e = refl
not-true true e = sym e

not-false : (t : Bool) → not t ≡ false → t ≡ true
not-false false e = sym e
not-false true e = refl

pub no_count : (s : List ℕ) → length s < 2 → 5 ≡ sheet_fault s
unfolding sheet_fault
no_count s h = rw (lt-ltb (length s) 2 h)

module _ (s : List ℕ) (long : 2 ≤ length s) (n : ℕ) (e : n ≡ number_at 2 s 0) where
  pub too_many_lem : 256 < n → 6 ≡ sheet_fault s
  unfolding sheet_fault argument_count
  too_many_lem h = rw (le-ltb (length s) 2 long, ← e, lt-ltb 256 n h)

  module _ (few : n ≤ 256) where
    module _ (t : Bool) (same : t ≡ table_good 2 n s) where
      pub bad_table : not t ≡ true → 5 ≡ sheet_fault s
      unfolding sheet_fault sheet_good argument_count
      bad_table h =
          let bad : table_good 2 n s ≡ false = sym same ∙ not-true t h in
          rw (le-ltb (length s) 2 long, ← e, le-ltb 256 n few, bad)

      module _ (whole : not t ≡ false) where
        table_made : table_good 2 n s ≡ true
        table_made = sym same ∙ not-false t whole

        module _ (start : ℕ) (p : start ≡ area_start 2 n) where
          pub area_there : start ≤ length s
          area_there = omega (arith, (good_table 2 n s table_made).long)

          pub too_long : 32768 < length s - start → 5 ≡ sheet_fault s
          unfolding sheet_fault sheet_good sheet_area area argument_count
          too_long h =
              rw (
                le-ltb (length s) 2 long,
                ← e,
                le-ltb 256 n few,
                table_made,
                length-drop (area_start 2 n) s,
                ← p,
                lt-leb (length s - start) 32768 h,
              )

          pub no_fault : length s - start ≤ 32768 → 0 ≡ sheet_fault s
          unfolding sheet_fault sheet_good sheet_area area argument_count
          no_fault h =
              rw (
                le-ltb (length s) 2 long,
                ← e,
                le-ltb 256 n few,
                table_made,
                length-drop (area_start 2 n) s,
                ← p,
                le-leb (length s - start) 32768 h,
              )
