-- The arguments of a good-sheet sheet, one after the other.
use mathlib.Core.Path.{◌≡◌, refl, ◌∙◌, ap}
use mathlib.Core.Bool.{Bool, true, false, and-eq-true_iff}
use mathlib.Core.Logic.{inl}
use mathlib.Core.List.{List, ◌∷◌, map}
use Prim.Native.Nat.{ℕ, zero, suc, ◌+◌, ◌≤◌, ◌<◌}
use native.Mathlib.Nat.{zero-add, add-zero, add-suc, suc-add}
use native.Mathlib.Numerals.{add-one}
use native.Mathlib.Omega.{arith}
use lib.Dec.{leb, ltb}
use lib.ListN.{length, drop, length-drop, length-map}
use borrow.Author.Tests.{ltb-false, leb-true}
use Rattle.std.specs.Prelude.{if◌then◌else◌}
use Rattle.wire.specs.Wire.{area, area_start, offset, table_good, entry_of, HasEntry}
use Rattle.wire.specs.Laws.{good_table, offset_rises, placed, entry_length}
use Rattle.rules.specs.Base.{numbers}
use Rattle.rules.specs.Sheet.{argument_count, sheet_area, sheet_good, sheet_fault, arguments}
use Rattle.split_group.specs.Groups.{ArgumentFits}

pub record GoodSheet (s : List ℕ) : Type 0 where
  pub two : 2 ≤ length s
  pub few : argument_count s ≤ 256
  pub good : table_good 2 (argument_count s) s ≡ true
  pub small : length (sheet_area s) ≤ 32768

pub good_sheet : (s : List ℕ) → sheet_fault s ≡ 0 → GoodSheet s
unfolding sheet_fault sheet_good
good_sheet s e = go (ltb (length s) 2) refl (ltb 256 (argument_count s)) refl (sheet_good s) refl e
  where
    go :
        (a : Bool)
        → ltb (length s) 2 ≡ a
        → (b : Bool)
        → ltb 256 (argument_count s) ≡ b
        → (c : Bool)
        → sheet_good s ≡ c
        → ◌≡◌ {A = ℕ} (if a then 5 else (if b then 6 else (if c then 0 else 5))) 0
        → GoodSheet s
    go true p b q c r e = absurd (omega arith)
    go false p true q c r e = absurd (omega arith)
    go false p false q false r e = absurd (omega arith)
    go false p false q true r e =
        let both = (and-eq-true_iff (table_good 2 (argument_count s) s) (leb (length (sheet_area s)) 32768)).0 r in
        record {
          two = ltb-false (length s) 2 p;
          few = ltb-false 256 (argument_count s) q;
          good = both.0;
          small = leb-true (length (sheet_area s)) 32768 both.1;
        }

-- the arguments from number k on
drop_numbers : {A : Type 0} (f : ℕ → A) (n j k : ℕ) → k < n → drop k (map f (numbers n j)) ≡ f (j + k) ∷ drop (suc k) (map f (numbers n j))
unfolding numbers
drop_numbers f zero j k h = absurd (omega arith)
drop_numbers f (suc n) j zero h = rw (add-zero j)
drop_numbers f (suc n) j (suc k) h = drop_numbers f n (suc j) k (omega arith) ∙ rw (suc-add j k, ← add-suc j k)

numbers_length : (n k : ℕ) → length (numbers n k) ≡ n
unfolding numbers
numbers_length zero k = refl
numbers_length (suc n) k = ap suc (numbers_length n (suc k))

pub arguments_length : (s : List ℕ) → length (arguments s) ≡ argument_count s
unfolding arguments
arguments_length s = length-map (numbers (argument_count s) 0) (entry_of 2 (argument_count s) s) ∙ numbers_length (argument_count s) 0

module _ (s : List ℕ) (h : GoodSheet s) (k : ℕ) (l : k < argument_count s) where
  pub has_entry : HasEntry 2 (argument_count s) s k
  has_entry = record { width = inl refl; good = h.good; below = l }

  pub argument_next : drop k (arguments s) ≡ entry_of 2 (argument_count s) s k ∷ drop (k + 1) (arguments s)
  unfolding arguments
  argument_next =
      drop_numbers (entry_of 2 (argument_count s) s) (argument_count s) 0 k l ∙ rw (zero-add k, add-one k)

  -- an argument ends where the next begins
  pub argument_end : offset 2 s k + length (entry_of 2 (argument_count s) s k) ≡ offset 2 s (k + 1)
  argument_end =
      let rising = (placed has_entry).rising in
      omega (arith, entry_length has_entry)

  pub argument_fits : (at : ℕ) → at ≤ 256 → ArgumentFits (entry_of 2 (argument_count s) s k) (offset 2 s k) at
  unfolding sheet_area area
  argument_fits at few =
      let g = good_table 2 (argument_count s) s h.good in
      let last = g.last in
      let small = h.small in
      record {
        small = omega (
          arith,
          argument_end,
          offset_rises 2 (argument_count s) s h.good (k + 1) (argument_count s) (omega arith) (omega arith),
          length-drop (area_start 2 (argument_count s)) s,
        );
        places = few;
      }

  -- where offset k stands
  pub offset_there : area_start 2 k ≤ length s
  offset_there = (placed has_entry).first
