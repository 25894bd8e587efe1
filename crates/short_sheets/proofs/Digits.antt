-- Digits counted up from the right.
use mathlib.Core.Path.{◌≡◌, refl, sym, ◌∙◌, ap}
use mathlib.Core.Bool.{true, false}
use mathlib.Core.List.{List, ◌∷◌, ◌++◌, append-nil}
use mathlib.Core.Option.{some, none}
use Prim.Native.Nat.{ℕ, suc, ◌+◌, ◌-◌, ◌≤◌, ◌<◌}
use native.Mathlib.Numerals.{add-one}
use native.Mathlib.Omega.{arith}
use lib.ListN.{length, get_or, set, take, drop, replicate, length-drop, length-set, take-append-drop, get_or-append}
use lib.Seq.{drop-cons, take-suc, take-length, drop-length, length-take-le, get_or-take, set_at, append_snoc}
use Rattle.rules.specs.Base.{is_some}
use Rattle.rules_short.specs.Short.{count_up}
use Rattle.rules_short.proofs.CountLaws.{Highest, count_highest, count_at}
use Rattle.short_sheets.specs.Steps.{or_zeros, counted, CountsUp}

-- the digits from i on were the highest, and are 0
pub record Carried (base : ℕ) (ds o : List ℕ) (i : ℕ) : Type 0 where
  pub within : i ≤ length ds
  pub same : o ≡ take i ds ++ replicate (length ds - i) 0
  pub highest : Highest base (drop i ds)
  pub long : length o ≡ length ds

pub carried_first : (base : ℕ) (ds : List ℕ) → Carried base ds ds (length ds)
carried_first base ds =
    let none_left : length ds - length ds ≡ 0 = omega arith in
    record {
      within = omega arith;
      same = rw (none_left, take-length ds) (sym (append-nil ds));
      highest = rw (drop-length ds) tt;
      long = refl;
    }

module _ (base : ℕ) (ds o : List ℕ) (i : ℕ) (z : Carried base ds o i) where
  abbrev zeros : List ℕ
  zeros = replicate (length ds - i) 0

  module _ (some_left : 0 < i) where
    within : i ≤ length ds
    within = z.within

    step : suc (i - 1) ≡ i
    step = omega arith

    below : i - 1 < length ds
    below = omega (arith, within)

    digit : get_or o (i - 1) 0 ≡ get_or ds (i - 1) 0
    digit =
        let front : i - 1 < length (take i ds) = rw (length-take-le i ds within) (omega arith) in
        rw z.same (get_or-append (take i ds) zeros 0 (i - 1) front ∙ get_or-take i ds (i - 1) 0 (omega arith))

    behind : drop (i - 1) ds ≡ get_or ds (i - 1) 0 ∷ drop i ds
    behind = drop-cons ds (i - 1) 0 below ∙ rw step

    opened : o ≡ take (i - 1) ds ++ get_or ds (i - 1) 0 ∷ zeros
    opened =
        z.same
        ∙ ap (λ (k : ℕ). take k ds ++ zeros) (sym step)
        ∙ rw (take-suc ds (i - 1) 0 below) (append_snoc (take (i - 1) ds) (get_or ds (i - 1) 0) zeros)

    stored : (x : ℕ) → set o (i - 1) x ≡ take (i - 1) ds ++ x ∷ zeros
    stored x =
        rw opened
        (set_at (take (i - 1) ds) (get_or ds (i - 1) 0) zeros x (i - 1) (length-take-le (i - 1) ds (omega arith)))

    pub carried_to : get_or o (i - 1) 0 < base - 1 → CountsUp base ds true (set o (i - 1) (get_or o (i - 1) 0 + 1))
    unfolding counted or_zeros is_some
    carried_to h =
        let d = get_or ds (i - 1) 0 in
        let up : count_up base ds ≡ some (take (i - 1) ds ++ suc d ∷ zeros) =
        ap (count_up base) (sym (take-append-drop (i - 1) ds) ∙ rw behind)
        ∙ count_at base (take (i - 1) ds) d (drop i ds) (omega (arith, digit)) z.highest
        ∙ rw (length-drop i ds) in
        record { found = rw up; digits = stored _ ∙ rw (digit, add-one d, up) }

    pub carried_on : base - 1 ≤ get_or o (i - 1) 0 → 1 ≤ base → Carried base ds (set o (i - 1) 0) (i - 1)
    carried_on h k =
        let more : length ds - (i - 1) ≡ suc (length ds - i) = omega (arith, within) in
        record {
          within = omega arith;
          same = stored 0 ∙ rw more;
          highest = rw behind (omega (arith, digit), z.highest);
          long = length-set o (i - 1) 0 ∙ z.long;
        }

  pub carried_all : i ≤ 0 → CountsUp base ds false o
  unfolding counted or_zeros is_some
  carried_all h =
      let none_left : i ≡ 0 = omega arith in
      let up : count_up base ds ≡ none = count_highest base ds (rw none_left at z.highest) in
      let all : length ds - 0 ≡ length ds = omega arith in
      let same : o ≡ replicate (length ds - 0) 0 = rw none_left at z.same in
      record { found = rw up; digits = same ∙ rw (all, up) }
