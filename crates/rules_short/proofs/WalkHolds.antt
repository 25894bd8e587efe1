-- From the empty sheet the steps reach each legal sheet exactly once.
use mathlib.Core.Bool.{Bool, true, false}
use mathlib.Core.List.{List, [], flatten}
use mathlib.Core.Option.{Option, some, none, some-injective}
use mathlib.Core.Path.{◌≡◌, refl, sym, ap, ◌∙◌}
use Prim.Native.Nat.{ℕ, zero, suc, ◌-◌, ◌≤◌, ◌<◌}
use native.Mathlib.Omega.{arith}
use lib.Dec.{ltb}
use lib.ListN.{length, replicate}
use lib.Seq.{take-append_seam}
use borrow.Author.Tests.{ltb-true, ltb-false, le-ltb}
use Rattle.rules.specs.Base.{◌>>?◌, concat_map}
use Rattle.rules.specs.Sheet.{arguments}
use Rattle.rules.specs.Encode.{bytes_of, words_of, offsets_from, encode_sheet}
use Rattle.rules.specs.Run.{padded}
use Rattle.rules.specs.Demands.{Bytes}
use Rattle.rules.proofs.Formats.{encode_arguments}
use Rattle.rules.proofs.SheetLaws.{made_sheet}
use Rattle.rules.proofs.SplitLaws.{some≢none}
use Rattle.rules_short.specs.Short.{lengths, next_arguments, written, next_sheet}
use Rattle.rules_short.specs.ShortAnswered.{AlphabetMade, SheetShort, Precedes, sum_below, argument_total, sheet_total, sheet_of, steps, ReachedOnce, LegalAt, Walked}
use Rattle.rules_short.proofs.SetLaws.{alphabet_good_lem, sheet_legal_lem, encoded_arguments, encoded_legal}
use Rattle.rules_short.proofs.ShortLaws.{InDigits, short_digits, digits_short}
use Rattle.rules_short.proofs.RankLaws.{sheet_rank, rank_empty, rank_below, rank_same, less_before}
use Rattle.rules_short.proofs.NextLaws.{Follows, StepsTo, next_ranked}

pub totals : (sheet_total 1 ≡ 156) × (sheet_total 2 ≡ 30784) × (sheet_total 3 ≡ 1786324)
unfolding sheet_total argument_total sum_below
totals = (refl, refl, refl)

abbrev encoded : Option (List (List ℕ)) → Option (List ℕ)
encoded none = none
encoded (some xs) = some (encode_sheet xs)

module _ (al : List ℕ) (n : ℕ) (made : AlphabetMade al) (room : 22 ≤ n) where
  -- the sheet that the call hands out is that of the next arguments
  handed : (args : List (List ℕ)) → InDigits al args → sheet_of (next_sheet al (encode_sheet args) n) ≡ encoded (next_arguments al args)
  unfolding sheet_of next_sheet written padded
  handed args h =
      let short = digits_short al args h in
      rw (
        alphabet_good_lem al made,
        sheet_legal_lem al (encode_sheet args) (encoded_legal al args short),
        le-ltb n 22 room,
        encoded_arguments al args short,
      )
      (go (next_arguments al args))
    where
      go :
          (o : Option (List (List ℕ)))
          → sheet_of (elim o [ none ↦ written n 0 true [] | some xs ↦ written n 0 false (encode_sheet xs) ]) ≡ encoded o
      go none = refl
      go (some xs) = ap some (take-append_seam (encode_sheet xs) (replicate (n - length (encode_sheet xs)) 0))

  -- k steps reach the sheet that k come before
  record At (k : ℕ) : Type 0 where
    args : List (List ℕ)
    digits : InDigits al args
    before : sheet_rank al args ≡ k
    reached : steps al n k ≡ some (encode_sheet args)

  at_empty : At 0
  unfolding steps lengths flatten encode_sheet bytes_of words_of concat_map offsets_from
  at_empty = record {
    args = [];
    digits = record { count = omega arith; sizes = tt; letters = tt };
    before = rank_empty al;
    reached = refl;
  }

  -- one step on
  step : (k : ℕ) (x : At k) → steps al n (suc k) ≡ encoded (next_arguments al x.args)
  unfolding steps ◌>>?◌
  step k x = rw x.reached (handed x.args x.digits)

  walk : (k : ℕ) → k < sheet_total (length al) → At k
  walk zero h = at_empty
  walk (suc k) h = go (walk k (omega arith))
    where
      go : At k → At (suc k)
      go x = next (next_arguments al x.args) refl (next_ranked al made x.args x.digits)
        where
          next : (o : Option (List (List ℕ))) → next_arguments al x.args ≡ o → StepsTo al made x.args (next_arguments al x.args) → At (suc k)
          next none e s = let last : suc (sheet_rank al x.args) ≡ sheet_total (length al) = rw e at s in absurd (omega (arith, x.before, h))
          next (some xs) e s =
              let follows : Follows al made x.args xs = rw e at s in
              record {
                args = xs;
                digits = follows.digits;
                before = omega (arith, follows.behind, x.before);
                reached = step k x ∙ rw e;
              }

  past : (k : ℕ) → sheet_total (length al) ≤ k → steps al n k ≡ none
  unfolding steps ◌>>?◌
  past zero h = absurd (omega (arith, rank_below al at_empty.args at_empty.digits))
  past (suc k) h = go (ltb k (sheet_total (length al))) refl (past k)
    where
      last : (x : At k) (o : Option (List (List ℕ))) → next_arguments al x.args ≡ o → StepsTo al made x.args o → steps al n (suc k) ≡ none
      last x none e s = step k x ∙ rw e
      last x (some xs) e s = absurd (omega (arith, s.behind, x.before, h, rank_below al xs s.digits))

      go :
          (b : Bool)
          → ltb k (sheet_total (length al)) ≡ b
          → (sheet_total (length al) ≤ k → steps al n k ≡ none)
          → (steps al n k >>? λ s. sheet_of (next_sheet al s n)) ≡ none
      go true l more =
          let x = walk k (ltb-true k (sheet_total (length al)) l) in
          last x (next_arguments al x.args) refl (next_ranked al made x.args x.digits)
      go false l more = rw (more (ltb-false k (sheet_total (length al)) l))

  -- what k steps reach is legal, and k come before it
  record Reaches (k : ℕ) (s : List ℕ) : Type 0 where
    below : k < sheet_total (length al)
    digits : InDigits al (arguments s)
    before : sheet_rank al (arguments s) ≡ k

  reaches : (k : ℕ) (s : List ℕ) → steps al n k ≡ some s → Reaches k s
  reaches k s e = go (ltb k (sheet_total (length al))) refl
    where
      go : (b : Bool) → ltb k (sheet_total (length al)) ≡ b → Reaches k s
      go true l =
          let x = walk k (ltb-true k (sheet_total (length al)) l) in
          let same : encode_sheet x.args ≡ s = some-injective (encode_sheet x.args) s (sym x.reached ∙ e) in
          let back : arguments s ≡ x.args = ap arguments (sym same) ∙ encoded_arguments al x.args (digits_short al x.args x.digits) in
          record {
            below = ltb-true k (sheet_total (length al)) l;
            digits = rw back x.digits;
            before = rw back x.before;
          }
      go false l = absurd (some≢none (sym e ∙ past k (ltb-false k (sheet_total (length al)) l)))

  every : (s : List ℕ) → Bytes s → SheetShort al s → ReachedOnce al n s
  every s small legal =
      let args = arguments s in
      let digits = short_digits al args legal.short in
      let k = sheet_rank al args in
      let x = walk k (rank_below al args digits) in
      let same : x.args ≡ args = rank_same al x.args args x.digits digits x.before in
      record {
        count = k;
        below = rank_below al args digits;
        reached = x.reached ∙ ap some (ap encode_sheet same ∙ encode_arguments s small (made_sheet s legal.made));
        once = λ j e. sym (reaches j s e).before;
      }

  legal_at : (k : ℕ) → k < sheet_total (length al) → LegalAt al n k
  legal_at k h =
      let x = walk k h in
      record { sheet = encode_sheet x.args; reached = x.reached; legal = encoded_legal al x.args (digits_short al x.args x.digits) }

  order : (j k : ℕ) (s t : List ℕ) → steps al n j ≡ some s → steps al n k ≡ some t → j < k → Precedes al s t
  order j k s t p q h =
      let x = reaches j s p in
      let y = reaches k t q in
      less_before al (arguments s) (arguments t) x.digits y.digits (omega (arith, x.before, y.before))

  pub walked : Walked al n
  walked = record { every = every; legal = legal_at; past = past; order = order }
