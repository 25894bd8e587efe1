-- The bytes of a part: those of the sheet behind its table, as far as the sheet goes.
use mathlib.Core.Bool.{Bool, true, false}
use mathlib.Core.List.{List}
use mathlib.Core.Logic.{inl}
use mathlib.Core.Path.{◌≡◌, refl, sym, ap, ◌∙◌}
use Prim.Native.Nat.{ℕ, ◌+◌, ◌-◌, ◌≤◌, ◌<◌, min}
use native.Mathlib.Omega.{arith}
use lib.Dec.{leb}
use lib.ListN.{length, take, drop, length-drop, drop_of_length-le}
use lib.Seq.{take_all, drop-drop}
use borrow.Author.Tests.{leb-true, leb-false}
use Rattle.wire.specs.Wire.{area_start, area as wire_area}
use Rattle.wire.specs.Laws.{start_most}
use Rattle.rules.specs.Sheet.{argument_count, sheet_area, sheet_fault}
use Rattle.rules.proofs.Formats.{good_sheet}
use Rattle.split_arg.specs.declared.Part.{Part}
use Rattle.take_search.specs.Items.{part_bytes}

-- ---- what lies behind the end of a list

take_within : (n : ℕ) (l : List ℕ) → take (min n (length l)) l ≡ take n l
take_within n l = go (leb n (length l)) refl
  where
    go : (b : Bool) → leb n (length l) ≡ b → take (min n (length l)) l ≡ take n l
    go true e = let z : min n (length l) ≡ n = omega (arith, leb-true n (length l) e) in rw z
    go false e =
        let h = leb-false n (length l) e in
        take_all (min n (length l)) l (omega arith) ∙ sym (take_all n l (omega arith))

drop_within : (n : ℕ) (l : List ℕ) → drop (min n (length l)) l ≡ drop n l
drop_within n l = go (leb n (length l)) refl
  where
    go : (b : Bool) → leb n (length l) ≡ b → drop (min n (length l)) l ≡ drop n l
    go true e = let z : min n (length l) ≡ n = omega (arith, leb-true n (length l) e) in rw z
    go false e =
        let h = leb-false n (length l) e in
        drop_of_length-le l {i = min n (length l)} (omega arith) ∙ sym (drop_of_length-le l {i = n} (omega arith))

-- ---- a part of the sheet

module _ (s : List ℕ) (made : sheet_fault s ≡ 0) (n : ℕ) (en : n ≡ argument_count s) where
  pub start_small : area_start 2 n < 18446744073709551616
  start_small = omega (arith, start_most 2 n (inl refl), (good_sheet s made).few)

  module _ (a : ℕ) (ea : a ≡ area_start 2 n) where
    pub start_few : a ≤ 1030
    start_few = omega (arith, start_most 2 n (inl refl), (good_sheet s made).few)

    module _ (x : Part) (from : ℕ) (ef : from ≡ min (a + x.offset) (length s)) (to : ℕ) (et : to ≡ min (from + x.length) (length s)) where
      pub text_order : from ≤ to
      text_order = omega arith

      pub text_end : to ≤ length s
      text_end = omega arith

      pub text_bytes_are : take (to - from) (drop from s) ≡ part_bytes (sheet_area s) x
      unfolding part_bytes sheet_area wire_area
      text_bytes_are =
          let d : drop from s ≡ drop x.offset (drop (area_start 2 (argument_count s)) s) =
          ap (λ (k : ℕ). drop k s) ef ∙ drop_within (a + x.offset) s ∙ rw (drop-drop x.offset (area_start 2 (argument_count s)) s, ea, en) in
          let z : to - from ≡ min x.length (length (drop from s)) = omega (arith, length-drop from s) in
          ap (λ (k : ℕ). take k (drop from s)) z ∙ take_within x.length (drop from s) ∙ ap (take x.length) d
