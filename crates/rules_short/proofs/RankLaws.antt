-- How many short arguments come before some: the order and the step, by that number.
use mathlib.Core.Bool.{Bool, true, false}
use mathlib.Core.List.{List, [], ◌∷◌, ◌++◌, flatten}
use mathlib.Core.Logic.{◌⊎◌, inl, inr}
use mathlib.Core.Path.{◌≡◌, refl, sym, ap, ap₂, ◌∙◌}
use Prim.Native.Nat.{ℕ, zero, suc, ◌+◌, ◌^◌, ◌≤◌, ◌<◌}
use native.Mathlib.Nat.{pow-zero, pow-suc, one-mul, mul-one}
use native.Mathlib.Omega.{arith}
use lib.Dec.{eqb, ltb}
use lib.ListN.{length, take, drop, length-append, length-map}
use lib.Pow.{pow-add}
use lib.Seq.{take_at, drop_at}
use borrow.Author.Tests.{ltb-false, lt-ltb, eqb-true, eqb-false}
use Rattle.std.specs.Prelude.{if◌then◌else◌}
use Rattle.rules.specs.Accept.{index_of}
use Rattle.rules_short.specs.Short.{lengths, places, order_key, lex_less, comes_before}
use Rattle.rules_short.specs.ShortAnswered.{sum_below, argument_total, sheet_total}
use Rattle.rules_short.proofs.CountLaws.{Below, weight, full, rank, rank_bound, rank_order}
use Rattle.rules_short.proofs.ShortLaws.{places_of_lem, InDigits, told_by_digits}

-- ---- the order of lists of numbers
-- one of the three
pub lex_cases : (xs ys : List ℕ) → (lex_less xs ys ≡ true) ⊎ ((xs ≡ ys) ⊎ (lex_less ys xs ≡ true))
unfolding lex_less
lex_cases [] [] = inr (inl refl)
lex_cases [] (y ∷ ys) = inl refl
lex_cases (x ∷ xs) [] = inr (inr refl)
lex_cases (x ∷ xs) (y ∷ ys) = go (eqb x y) refl (eqb y x) refl (lex_cases xs ys)
  where
    go :
        (b : Bool)
        → eqb x y ≡ b
        → (c : Bool)
        → eqb y x ≡ c
        → (lex_less xs ys ≡ true) ⊎ ((xs ≡ ys) ⊎ (lex_less ys xs ≡ true))
        → ((if b then lex_less xs ys else ltb x y) ≡ true)
        ⊎ ((x ∷ xs ≡ y ∷ ys) ⊎ ((if c then lex_less ys xs else ltb y x) ≡ true))
    go true e true f (inl h) = inl h
    go true e true f (inr (inl h)) = inr (inl (ap₂ (λ (z : ℕ) (zs : List ℕ). z ∷ zs) (eqb-true x y e) h))
    go true e true f (inr (inr h)) = inr (inr h)
    go true e false f h = absurd (eqb-false y x f (sym (eqb-true x y e)))
    go false e true f h = absurd (eqb-false x y e (sym (eqb-true y x f)))
    go false e false f h = less (ltb x y) refl
      where
        less : (b : Bool) → ltb x y ≡ b → (ltb x y ≡ true) ⊎ ((x ∷ xs ≡ y ∷ ys) ⊎ (ltb y x ≡ true))
        less true l = inl l
        less false l = inr (inr (lt-ltb y x (omega (arith, ltb-false x y l, eqb-false x y e))))

-- by the first parts, or, if these are the same, by the second
pub lex_split :
    (xs ys us vs : List ℕ)
    → length xs ≡ length ys
    → lex_less (xs ++ us) (ys ++ vs) ≡ true
    → (lex_less xs ys ≡ true) ⊎ ((xs ≡ ys) × (lex_less us vs ≡ true))
unfolding lex_less
lex_split [] [] us vs l e = inr (refl, e)
lex_split [] (y ∷ ys) us vs l e = absurd (omega arith)
lex_split (x ∷ xs) [] us vs l e = absurd (omega arith)
lex_split (x ∷ xs) (y ∷ ys) us vs l e = go (eqb x y) refl e (lex_split xs ys us vs (omega arith))
  where
    go :
        (b : Bool)
        → eqb x y ≡ b
        → (if b then lex_less (xs ++ us) (ys ++ vs) else ltb x y) ≡ true
        → (lex_less (xs ++ us) (ys ++ vs) ≡ true → (lex_less xs ys ≡ true) ⊎ ((xs ≡ ys) × (lex_less us vs ≡ true)))
        → ((if b then lex_less xs ys else ltb x y) ≡ true) ⊎ ((x ∷ xs ≡ y ∷ ys) × (lex_less us vs ≡ true))
    go true f h more = also (more h)
      where
        also :
            (lex_less xs ys ≡ true) ⊎ ((xs ≡ ys) × (lex_less us vs ≡ true))
            → (lex_less xs ys ≡ true) ⊎ ((x ∷ xs ≡ y ∷ ys) × (lex_less us vs ≡ true))
        also (inl a) = inl a
        also (inr (same, a)) = inr (ap₂ (λ (z : ℕ) (zs : List ℕ). z ∷ zs) (eqb-true x y f) same, a)
    go false f h more = inl h

append_parts : (xs ys us vs : List ℕ) → length xs ≡ length ys → xs ++ us ≡ ys ++ vs → (xs ≡ ys) × (us ≡ vs)
append_parts xs ys us vs l e = (
  sym (take_at xs us (length ys) l) ∙ ap (take (length ys)) e ∙ take_at ys vs (length ys) refl,
  sym (drop_at xs us (length ys) l) ∙ ap (drop (length ys)) e ∙ drop_at ys vs (length ys) refl,
)

-- ---- the weights
pub one_each : (n : ℕ) → sum_below (λ _. 1) n ≡ n
unfolding sum_below
one_each zero = refl
one_each (suc n) = omega (arith, one_each n)

pub one_weight : (ds : List ℕ) → weight (λ _. 1) ds ≡ 1
unfolding weight
one_weight [] = refl
one_weight (d ∷ ds) = omega (arith, one_weight ds)

pub power_weight : (a : ℕ) (args : List (List ℕ)) → weight (λ k. a ^ k) (lengths args) ≡ a ^ length (flatten args)
unfolding weight lengths flatten
power_weight a [] = sym (pow-zero a)
power_weight a (os ∷ args) = rw (power_weight a args, length-append os (flatten args)) (sym (pow-add a (length os) (length (flatten args))))

pub same_count : (xs ys : List (List ℕ)) → length xs ≡ length ys → length (lengths xs) ≡ length (lengths ys)
unfolding lengths
same_count xs ys c = length-map xs (λ (os : List ℕ). length os) ∙ c ∙ sym (length-map ys (λ (os : List ℕ). length os))

same_size : (xs ys : List (List ℕ)) → lengths xs ≡ lengths ys → length (flatten xs) ≡ length (flatten ys)
unfolding lengths flatten
same_size [] [] e = refl
same_size [] (y ∷ ys) e = absurd (omega (arith, ap length e))
same_size (x ∷ xs) [] e = absurd (omega (arith, ap length e))
same_size (x ∷ xs) (y ∷ ys) e =
    let here : length x ≡ length y = cc in
    let later : lengths xs ≡ lengths ys = cc in
    omega (arith, length-append x (flatten xs), length-append y (flatten ys), same_size xs ys later)

-- ---- how many come before
module _ (al : List ℕ) where
  abbrev a : ℕ
  a = length al

  -- by the argument count, by the lengths and by the places
  unfoldable pub count_rank : List (List ℕ) → ℕ
  count_rank args = rank (λ n. argument_total a ^ n) 4 (length args ∷ [])

  unfoldable pub lengths_rank : List (List ℕ) → ℕ
  lengths_rank args = rank (λ k. a ^ k) 5 (lengths args)

  unfoldable pub places_rank : List (List ℕ) → ℕ
  places_rank args = rank (λ _. 1) a (places al args)

  unfoldable pub sheet_rank : List (List ℕ) → ℕ
  sheet_rank args = count_rank args + lengths_rank args + places_rank args

  -- each fits into the weight of the one before
  pub record Fits (args : List (List ℕ)) : Type 0 where
    pub places : places_rank args + 1 ≤ a ^ length (flatten args)
    pub lengths : lengths_rank args + a ^ length (flatten args) ≤ argument_total a ^ length args
    pub count : count_rank args + argument_total a ^ length args ≤ sheet_total a

  pub places_full : (args : List (List ℕ)) → full (λ _. 1) a (length (places al args)) ≡ a ^ length (flatten args)
  unfolding full places
  places_full args = rw (one_each a, length-map (flatten args) (λ b. index_of b al))

  pub lengths_full : (args : List (List ℕ)) → full (λ k. a ^ k) 5 (length (lengths args)) ≡ argument_total a ^ length args
  unfolding full lengths argument_total
  lengths_full args = rw (length-map args (λ (os : List ℕ). length os))

  pub count_full : full (λ n. argument_total a ^ n) 4 1 ≡ sheet_total a
  unfolding full sheet_total
  count_full = let t = sum_below (λ n. argument_total a ^ n) 4 in pow-suc t 0 ∙ rw (pow-zero t) (one-mul t)

  pub count_weight : (n : ℕ) → weight (λ n. argument_total a ^ n) (n ∷ []) ≡ argument_total a ^ n
  unfolding weight
  count_weight n = mul-one (argument_total a ^ n)

  pub rank_fits : (args : List (List ℕ)) → InDigits al args → Fits args
  unfolding places_rank lengths_rank count_rank places
  rank_fits args h = record {
    places = omega (
      arith,
      rank_bound (λ _. 1) a (places al args) (places_of_lem al (flatten args) h.letters),
      one_weight (places al args),
      places_full args,
    );
    lengths = omega (arith, rank_bound (λ k. a ^ k) 5 (lengths args) h.sizes, power_weight a args, lengths_full args);
    count = omega (
      arith,
      rank_bound (λ n. argument_total a ^ n) 4 (length args ∷ []) (h.count, tt),
      count_weight (length args),
      count_full,
    );
  }

  pub rank_empty : sheet_rank [] ≡ 0
  unfolding sheet_rank count_rank lengths_rank places_rank rank places lengths flatten sum_below
  rank_empty = omega arith

  pub rank_below : (args : List (List ℕ)) → InDigits al args → sheet_rank args < sheet_total a
  unfolding sheet_rank
  rank_below args h = omega (arith, rank_fits args h)

  pub places_below : (args : List (List ℕ)) → InDigits al args → Below a (places al args)
  unfolding places
  places_below args h = places_of_lem al (flatten args) h.letters

  -- what comes before has a lower number
  module _ (xs ys : List (List ℕ)) (hx : InDigits al xs) (hy : InDigits al ys) where
    less_places : length xs ≡ length ys → lengths xs ≡ lengths ys → lex_less (places al xs) (places al ys) ≡ true → sheet_rank xs < sheet_rank ys
    unfolding sheet_rank count_rank lengths_rank places_rank places
    less_places c l e =
        let size : length (places al xs) ≡ length (places al ys) =
        length-map (flatten xs) (λ b. index_of b al) ∙ same_size xs ys l ∙ sym (length-map (flatten ys) (λ b. index_of b al)) in
        let less = rank_order (λ _. 1) a (places al xs) (places al ys) (places_below xs hx) (places_below ys hy) size e in
        rw (c, l) (omega (arith, one_weight (places al xs)))

    less_lengths : length xs ≡ length ys → lex_less (lengths xs) (lengths ys) ≡ true → sheet_rank xs < sheet_rank ys
    unfolding sheet_rank count_rank lengths_rank
    less_lengths c e =
        let size : length (lengths xs) ≡ length (lengths ys) = same_count xs ys c in
        let less = rank_order (λ k. a ^ k) 5 (lengths xs) (lengths ys) hx.sizes hy.sizes size e in
        let fits = (rank_fits xs hx).places in
        rw c (omega (arith, power_weight a xs))

    less_count : lex_less (length xs ∷ []) (length ys ∷ []) ≡ true → sheet_rank xs < sheet_rank ys
    unfolding sheet_rank count_rank
    less_count e =
        let less = rank_order (λ n. argument_total a ^ n) 4 (length xs ∷ []) (length ys ∷ []) (hx.count, tt) (hy.count, tt) refl e in
        omega (arith, count_weight (length xs), rank_fits xs hx)

    pub before_less : comes_before al xs ys ≡ true → sheet_rank xs < sheet_rank ys
    unfolding comes_before order_key
    before_less e = first (lex_split (length xs ∷ []) (length ys ∷ []) (lengths xs ++ places al xs) (lengths ys ++ places al ys) refl e)
      where
        second :
            length xs ≡ length ys
            → (lex_less (lengths xs) (lengths ys) ≡ true) ⊎ ((lengths xs ≡ lengths ys) × (lex_less (places al xs) (places al ys) ≡ true))
            → sheet_rank xs < sheet_rank ys
        second c (inl e) = less_lengths c e
        second c (inr (l, e)) = less_places c l e

        first :
            (lex_less (length xs ∷ []) (length ys ∷ []) ≡ true)
            ⊎ ((◌≡◌ {A = List ℕ} (length xs ∷ []) (length ys ∷ [])) × (lex_less (lengths xs ++ places al xs) (lengths ys ++ places al ys) ≡ true))
            → sheet_rank xs < sheet_rank ys
        first (inl e) = less_count e
        first (inr (c, e)) =
            let same : length xs ≡ length ys = cc in
            second same (lex_split (lengths xs) (lengths ys) (places al xs) (places al ys) (same_count xs ys same) e)

    -- one of the three, so a lower number comes before, and the same number is the same
    pub arguments_cases : (comes_before al xs ys ≡ true) ⊎ ((xs ≡ ys) ⊎ (comes_before al ys xs ≡ true))
    unfolding comes_before order_key
    arguments_cases = go (lex_cases (order_key al xs) (order_key al ys))
      where
        same : order_key al xs ≡ order_key al ys → xs ≡ ys
        same e =
            let (c, rest) = append_parts (length xs ∷ []) (length ys ∷ []) (lengths xs ++ places al xs) (lengths ys ++ places al ys) refl e in
            let count : length xs ≡ length ys = cc in
            let (l, p) = append_parts (lengths xs) (lengths ys) (places al xs) (places al ys) (same_count xs ys count) rest in
            told_by_digits al xs ys hx.letters hy.letters l p

        go :
            (lex_less (order_key al xs) (order_key al ys) ≡ true)
            ⊎ ((order_key al xs ≡ order_key al ys) ⊎ (lex_less (order_key al ys) (order_key al xs) ≡ true))
            → (comes_before al xs ys ≡ true) ⊎ ((xs ≡ ys) ⊎ (comes_before al ys xs ≡ true))
        go (inl e) = inl e
        go (inr (inl e)) = inr (inl (same e))
        go (inr (inr e)) = inr (inr e)

  module _ (xs ys : List (List ℕ)) (hx : InDigits al xs) (hy : InDigits al ys) where
    pub rank_same : sheet_rank xs ≡ sheet_rank ys → xs ≡ ys
    rank_same e = go (arguments_cases xs ys hx hy)
      where
        go : (comes_before al xs ys ≡ true) ⊎ ((xs ≡ ys) ⊎ (comes_before al ys xs ≡ true)) → xs ≡ ys
        go (inl b) = absurd (omega (arith, before_less xs ys hx hy b, e))
        go (inr (inl same)) = same
        go (inr (inr b)) = absurd (omega (arith, before_less ys xs hy hx b, e))

    pub less_before : sheet_rank xs < sheet_rank ys → comes_before al xs ys ≡ true
    less_before l = go (arguments_cases xs ys hx hy)
      where
        go : (comes_before al xs ys ≡ true) ⊎ ((xs ≡ ys) ⊎ (comes_before al ys xs ≡ true)) → comes_before al xs ys ≡ true
        go (inl b) = b
        go (inr (inl same)) = absurd (omega (arith, l, ap sheet_rank same))
        go (inr (inr b)) = absurd (omega (arith, l, before_less ys xs hy hx b))
