-- The step: to short arguments, with one more before them; and none exactly at the end.
use mathlib.Core.Bool.{Bool, true, false}
use mathlib.Core.List.{List, [], ◌∷◌, map, flatten}
use mathlib.Core.Option.{Option, some, none}
use mathlib.Core.Path.{◌≡◌, refl, sym, ap, ◌∙◌}
use Prim.Native.Nat.{ℕ, zero, suc, ◌+◌, ◌^◌, ◌<◌}
use native.Mathlib.Omega.{arith}
use lib.Dec.{ltb}
use lib.ListN.{length, replicate, length-map, length-replicate}
use borrow.Author.Tests.{ltb-true, ltb-false, lt-ltb, le-ltb}
use Rattle.std.specs.Prelude.{if◌then◌else◌}
use Rattle.rules.specs.Accept.{index_of}
use Rattle.rules.specs.Demands.{All}
use Rattle.rules_short.specs.Short.{lengths, places, count_up, parted, letter_at, next_arguments}
use Rattle.rules_short.specs.ShortAnswered.{AlphabetMade, Letter, argument_total, sheet_total}
use Rattle.rules_short.proofs.CountLaws.{Below, rank, rank_zeros, zeros_below, Counted, CountsTo, counts}
use Rattle.rules_short.proofs.ShortLaws.{place_letter, letter_at_lem, letters_of_lem, places_letters, parted_same, InDigits}
use Rattle.rules_short.proofs.ShortLaws.{alike, alike_lengths, alike_bytes, alike_empty}
use Rattle.rules_short.proofs.RankLaws.{one_weight, power_weight, count_rank, lengths_rank, places_rank, sheet_rank}
use Rattle.rules_short.proofs.RankLaws.{places_full, lengths_full, count_full, count_weight, places_below}

map_replicate : (f : ℕ → ℕ) (n x : ℕ) → map f (replicate n x) ≡ replicate n (f x)
map_replicate f zero x = refl
map_replicate f (suc n) x = ap (λ (l : List ℕ). f x ∷ l) (map_replicate f n x)

all_same : (P : ℕ → Type 0) (n x : ℕ) → P x → All P (replicate n x)
all_same P zero x p = tt
all_same P (suc n) x p = (p, all_same P n x p)

-- one digit below 4
count_up_lem : (n : ℕ) (b : Bool) → ltb n 3 ≡ b → count_up 4 (n ∷ []) ≡ (if b then some (suc n ∷ []) else none)
unfolding count_up
count_up_lem n true e = rw (lt-ltb (suc n) 4 (omega (arith, ltb-true n 3 e)))
count_up_lem n false e = rw (le-ltb (suc n) 4 (omega (arith, ltb-false n 3 e)))

counted_by : (xs ys : List (List ℕ)) → lengths xs ≡ lengths ys → length xs ≡ length ys
unfolding lengths
counted_by xs ys e = sym (length-map xs (λ (os : List ℕ). length os)) ∙ ap length e ∙ length-map ys (λ (os : List ℕ). length os)

module _ (al : List ℕ) (made : AlphabetMade al) where
  abbrev a : ℕ
  a = length al

  abbrev first : ℕ
  first = letter_at al 0

  -- ---- arguments of the first letter alone
  module _ (ns : List ℕ) where
    abbrev firsts : List (List ℕ)
    firsts = alike first ns

    firsts_count : length firsts ≡ length ns
    unfolding alike
    firsts_count = length-map ns (λ n. replicate n first)

    firsts_places : places al firsts ≡ replicate (length (flatten firsts)) 0
    unfolding places
    firsts_places =
        ap (map (λ b. index_of b al)) (alike_bytes first ns)
        ∙ map_replicate (λ b. index_of b al) (length (flatten firsts)) first
        ∙ ap (λ (k : ℕ). replicate (length (flatten firsts)) k) (place_letter al made 0 made.least)

    firsts_digits : length ns < 4 → Below 5 ns → InDigits al firsts
    firsts_digits few small = record {
      count = rw firsts_count few;
      sizes = rw (alike_lengths first ns) small;
      letters = rw (alike_bytes first ns) (all_same (Letter al) (length (flatten firsts)) first (letter_at_lem al made 0 made.least));
    }

    firsts_rank : sheet_rank al firsts ≡ rank (λ n. argument_total a ^ n) 4 (length ns ∷ []) + rank (λ k. a ^ k) 5 ns
    unfolding sheet_rank count_rank lengths_rank places_rank
    firsts_rank =
        rw (firsts_count, alike_lengths first ns, firsts_places, rank_zeros (λ _. 1) a (length (flatten firsts))) (omega arith)

  -- ---- the step
  pub record Follows (args xs : List (List ℕ)) : Type 0 where
    pub digits : InDigits al xs
    pub behind : sheet_rank al xs ≡ suc (sheet_rank al args)

  abbrev pub StepsTo : List (List ℕ) → Option (List (List ℕ)) → Type 0
  StepsTo args (some xs) = Follows args xs
  StepsTo args none = suc (sheet_rank al args) ≡ sheet_total a

  module _ (args : List (List ℕ)) (h : InDigits al args) where
    -- the bytes count up, and the lengths stay
    step_places :
        (ds : List ℕ)
        → Counted (λ _. 1) a (places al args) ds
        → Follows args (parted (lengths args) (map (letter_at al) ds))
    unfolding sheet_rank count_rank lengths_rank places_rank places
    step_places ds c =
        let xs = parted (lengths args) (map (letter_at al) ds) in
        let long : length (map (letter_at al) ds) ≡ length (flatten args) =
        length-map ds (letter_at al) ∙ c.size ∙ length-map (flatten args) (λ b. index_of b al) in
        let (bytes, sizes) = parted_same args (map (letter_at al) ds) long in
        let count : length xs ≡ length args = counted_by xs args sizes in
        let digits : places al xs ≡ ds = ap (map (λ b. index_of b al)) bytes ∙ places_letters al made ds c.below in
        record {
          digits = record {
            count = rw count h.count;
            sizes = rw sizes h.sizes;
            letters = rw bytes (letters_of_lem al made ds c.below);
          };
          behind = rw (count, sizes, digits, c.behind) (omega (arith, one_weight (places al args)));
        }

    -- the lengths count up, and every byte is the first letter
    step_lengths :
        (ns : List ℕ)
        → CountsTo (λ _. 1) a (places al args) none
        → Counted (λ k. a ^ k) 5 (lengths args) ns
        → Follows args (alike first ns)
    unfolding sheet_rank count_rank lengths_rank places_rank lengths
    step_lengths ns p c =
        let count : length ns ≡ length args = c.size ∙ length-map args (λ (os : List ℕ). length os) in
        record {
          digits = firsts_digits ns (rw count h.count) c.below;
          behind = firsts_rank ns ∙ rw (count, c.behind) (omega (arith, one_weight (places al args), places_full al args, power_weight a args));
        }

    -- one argument more, and all are empty
    step_count :
        CountsTo (λ _. 1) a (places al args) none
        → CountsTo (λ k. a ^ k) 5 (lengths args) none
        → Counted (λ n. argument_total a ^ n) 4 (length args ∷ []) (suc (length args) ∷ [])
        → Follows args (replicate (suc (length args)) [])
    unfolding sheet_rank count_rank lengths_rank places_rank
    step_count p l c =
        let n = suc (length args) in
        let count : length {A = ℕ} (replicate n 0) ≡ n = length-replicate n 0 in
        let empty : alike first (replicate n 0) ≡ replicate n [] = alike_empty first n in
        rw (← empty) (record {
          digits = firsts_digits (replicate n 0) (rw count c.below.0) (zeros_below 5 n (omega arith));
          behind = firsts_rank (replicate n 0)
              ∙ rw (count, rank_zeros (λ k. a ^ k) 5 n, c.behind)
              (omega (
                arith,
                one_weight (places al args),
                places_full al args,
                power_weight a args,
                lengths_full al args,
                count_weight al (length args),
              ));
        })

    abbrev Counts : Bool → Type 0
    Counts b = CountsTo (λ n. argument_total a ^ n) 4 (length args ∷ []) (if b then some (suc (length args) ∷ []) else none)

    -- no more
    step_none :
        CountsTo (λ _. 1) a (places al args) none
        → CountsTo (λ k. a ^ k) 5 (lengths args) none
        → CountsTo (λ n. argument_total a ^ n) 4 (length args ∷ []) none
        → suc (sheet_rank al args) ≡ sheet_total a
    unfolding sheet_rank count_rank lengths_rank places_rank
    step_none p l c =
        omega (
          arith,
          one_weight (places al args),
          places_full al args,
          power_weight a args,
          lengths_full al args,
          count_weight al (length args),
          count_full al,
        )

    pub next_ranked : StepsTo args (next_arguments al args)
    unfolding next_arguments alike
    next_ranked =
        go (count_up a (places al args)) (counts (λ _. 1) a (places al args) (places_below al args h))
        (count_up 5 (lengths args)) (counts (λ k. a ^ k) 5 (lengths args) h.sizes)
        (ltb (length args) 3) (counted (ltb (length args) 3) refl)
      where
        counted : (b : Bool) → ltb (length args) 3 ≡ b → Counts b
        counted b e = rw (count_up_lem (length args) b e) at (counts (λ n. argument_total a ^ n) 4 (length args ∷ []) (h.count, tt))

        go :
            (o : Option (List ℕ))
            → CountsTo (λ _. 1) a (places al args) o
            → (p : Option (List ℕ))
            → CountsTo (λ k. a ^ k) 5 (lengths args) p
            → (b : Bool)
            → Counts b
            → StepsTo args (elim o [
              | some ds ↦ some (parted (lengths args) (map (letter_at al) ds))
              | none ↦ elim p [
                | some ns ↦ some (map (λ n. replicate n (letter_at al 0)) ns)
                | none ↦ if b then some (replicate (suc (length args)) []) else none
              ]
            ])
        go (some ds) c p l b n = step_places ds c
        go none c (some ns) l b n = step_lengths ns c l
        go none c none l true n = step_count c l n
        go none c none l false n = step_none c l n
