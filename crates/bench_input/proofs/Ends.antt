-- Where the form ends, by each of the ways that the code finds it.
use mathlib.Core.Bool.{Bool, true, false, ◌&&◌, and-false, and-true as and-true-right}
use mathlib.Core.List.{List, [], ◌∷◌}
use mathlib.Core.Path.{◌≡◌, refl, sym, ◌∙◌}
use Prim.Native.Nat.{ℕ, zero, suc, ◌+◌, ◌*◌, ◌≤◌, ◌<◌}
use native.Mathlib.Nat.{le_refl}
use native.Mathlib.Omega.{arith}
use lib.Dec.{leb, eqb}
use lib.ListN.{length, take, drop}
use lib.Seq.{take-take, length-take-le}
use borrow.Author.Tests.{le-leb, lt-leb, leb-true, eq-eqb}
use Rattle.std.specs.Prelude.{if◌then◌else◌}
use Rattle.wire.specs.Wire.{number_at}
use Rattle.rules.specs.Form.{node_count, field_count, name_count, area_length, counts_good, nodes_at, names_at, area_at, form_length, form_end}
use Rattle.rules.specs.Accept.{length_good}
use Rattle.rules.proofs.Acceptance.{and-true}
use Rattle.form_layout.proofs.Sizes.{too_short, from, from_drop}

part_take : (w i n : ℕ) (b : List ℕ) → i + w ≤ n → take w (drop i (take n b)) ≡ take w (drop i b)
part_take w zero n b h = take-take w n b (omega arith)
part_take w (suc i) zero b h = absurd (omega arith)
part_take w (suc i) (suc n) [] h = refl
part_take w (suc i) (suc n) (x ∷ b) h = part_take w i n b (omega arith)

number_take : (w i n : ℕ) (b : List ℕ) → i + w ≤ n → number_at w (take n b) i ≡ number_at w b i
unfolding number_at
number_take w i n b h = rw (part_take w i n b h)

module _ (b : List ℕ) where
  -- the counts stand in the first 8 bytes
  module _ (n : ℕ) (long : 8 ≤ n) (inside : n ≤ length b) where
    counts_take : counts_good (take n b) ≡ counts_good b
    unfolding counts_good node_count field_count name_count area_length
    counts_take =
        let whole : leb 8 (length b) ≡ true = le-leb 8 (length b) (omega arith) in
        rw (
          length-take-le n b inside,
          le-leb 8 n long,
          whole,
          number_take 2 0 n b (omega arith),
          number_take 2 2 n b (omega arith),
          number_take 2 4
              n b (omega arith),
          number_take 2 6 n b (omega arith),
        )

    length_take_same : form_length (take n b) ≡ form_length b
    unfolding form_length area_at names_at nodes_at node_count field_count name_count area_length
    length_take_same =
        rw (number_take 2 0 n b (omega arith), number_take 2 2 n b (omega arith), number_take 2 4 n b (omega arith), number_take 2 6 n b (omega arith))

  length_least : 8 ≤ form_length b
  unfolding form_length area_at names_at nodes_at
  length_least = omega arith

  pub length_sum :
      (n f m a : ℕ)
      → n ≡ number_at 2 b 0
      → f ≡ number_at 2 b 2
      → m ≡ number_at 2 b 4
      → a ≡ number_at 2 b 6
      → 8 + 2 * f + 16 * n + 6 * m + a ≡ form_length b
  unfolding form_length area_at names_at nodes_at node_count field_count name_count area_length
  length_sum n f m a en ef em ea = rw (en, ef, em, ea)

  -- the first bytes, as many as the counts say, have the right length where the counts are in limits
  pub front_good : (n : ℕ) → n ≡ form_length b → n ≤ length b → length_good (take n b) ≡ counts_good b
  unfolding length_good
  front_good n e h =
      let long : 8 ≤ n = omega (arith, length_least) in
      let same : eqb (form_length b) n ≡ true = eq-eqb (form_length b) n (sym e) in
      rw (counts_take n long h, length_take_same n long h, length-take-le n b h, same, and-true-right (counts_good b))

  -- ---- the ways out
  pub all_short : length b < 8 → length b ≡ form_end b
  unfolding form_end
  all_short h = rw (← too_short b h)

  pub all_cut : (n : ℕ) → n ≡ form_length b → length b < n → length b ≡ form_end b
  unfolding form_end
  all_cut n e h =
      let cut : leb (form_length b) (length b) ≡ false = lt-leb (form_length b) (length b) (omega arith) in
      rw (cut, and-false (counts_good b))

  module _ (n : ℕ) (e : n ≡ form_length b) (h : n ≤ length b) where
    fits : leb (form_length b) (length b) ≡ true
    fits = le-leb (form_length b) (length b) (omega arith)

    pub ends_there : (x : Bool) → x ≡ length_good (take n b) → x ≡ true → n ≡ form_end b
    unfolding form_end
    ends_there x g t = rw (fits, ← front_good n e h, ← g, t) e

    pub all_bad : (x : Bool) → x ≡ length_good (take n b) → x ≡ false → length b ≡ form_end b
    unfolding form_end
    all_bad x g t = rw (fits, ← front_good n e h, ← g, t)

  -- ---- the parts
  pub end_within : form_end b ≤ length b
  unfolding form_end
  end_within = go (counts_good b && leb (form_length b) (length b)) refl
    where
      go : (t : Bool) → (counts_good b && leb (form_length b) (length b)) ≡ t → (if t then form_length b else length b) ≤ length b
      go true e = leb-true (form_length b) (length b) (and-true (counts_good b) _ e).1
      go false e = le_refl (length b)

  module _ (n : ℕ) (e : n ≡ form_end b) where
    pub inside : n ≤ length b
    inside = omega (arith, end_within)

    pub front_length : n ≡ length (take n b)
    front_length = sym (length-take-le n b inside)

    pub front : take n b ≡ take (form_end b) b
    front = rw e

    pub rest : from n b ≡ drop (form_end b) b
    rest = from_drop n b ∙ rw e
