-- Where no argument can be a cluster, splitting comes to the same under any letters.
use Rattle.std.specs.Prelude.{if◌then◌else◌}
use mathlib.Core.Path.{◌≡◌, refl, sym, ◌∙◌, ap}
use mathlib.Core.Bool.{Bool, true, false, not, ◌&&◌, ◌||◌, and-eq-true_iff, true≢false}
use mathlib.Core.List.{List, [], ◌∷◌}
use mathlib.Core.Option.{Option, some, none}
use Prim.Native.Nat.{ℕ, ◌+◌, ◌≤◌, ◌<◌}
use native.Mathlib.Omega.{arith}
use lib.Dec.{eqb}
use lib.ListN.{length, get_or, drop, drop_of_length-le}
use borrow.Author.Tests.{eq-eqb, ne_eqb, not-true, not-false}
use Rattle.utf8.specs.Utf8.{decode, decode_at, well_formed}
use Rattle.std.specs.Prelude.{Option as CodeOption, Some, None}
use Rattle.utf8.specs.declared.Char.{Char}
use Rattle.utf8.specs.Laws.{character}
use Rattle.wire.specs.Wire.{entry_of, HasEntry}
use Rattle.rules.specs.Base.{all, null, slice_from}
use Rattle.rules.specs.Outcome.{Outcome, ok, at, ◌>>=◌}
use Rattle.rules.specs.Accept.{Letters}
use Rattle.rules.specs.Sheet.{argument_count, arguments}
use Rattle.rules.specs.Split.{dash, short, long, Parts, before_equals, behind_equals, parts, split_long, split_short, behind_dash, split_os_argument, cluster_from, disambiguate_short, Group}
use Rattle.rules.specs.Split.{short_group, parts_group, word_group, split_argument, Split, split_from}
use Rattle.rules.specs.Run.{line_of}
use Rattle.rules.specs.Demands.{All}
use Rattle.rules.proofs.LetterLaws.{split_alike}
use Rattle.split_args.specs.declared.Ended.{Ended}
use Rattle.split_args.specs.Construct.{plain_argument, SplitEnds}
use Rattle.split_args.proofs.Sheets.{GoodSheet, arguments_length, has_entry, argument_next}

-- the group of an argument, from its parts
abbrev grouped : Letters → List ℕ → Outcome (Option Parts) → Outcome Group
grouped l os o = o >>= λ p. elim p [ none ↦ ok (word_group os) | some x ↦ parts_group l os x ]

abbrev after_dash : Bool → Bool → ℕ → List ℕ → Outcome (Option Parts)
after_dash first second b s = if first then (if second then ok (split_long s) else split_short b s) else ok none

module _ (l m : Letters) where
  long_name_lem : (os n : List ℕ) (v : Option (List ℕ)) → grouped l os (ok (parts long n v)) ≡ grouped m os (ok (parts long n v))
  unfolding parts parts_group ◌>>=◌
  long_name_lem os n v = go (well_formed n)
    where
      name : Bool → Outcome (Option Parts)
      name t = ok (if t then some (record { type = long; name = n; body = v }) else none)

      go : (t : Bool) → grouped l os (name t) ≡ grouped m os (name t)
      go true = refl
      go false = refl

  long_same : (os s : List ℕ) → grouped l os (ok (split_long s)) ≡ grouped m os (ok (split_long s))
  unfolding split_long ◌>>=◌
  long_same os s = go (behind_equals s) refl
    where
      go : (o : Option (List ℕ)) → behind_equals s ≡ o → grouped l os (ok (split_long s)) ≡ grouped m os (ok (split_long s))
      go (some v) e = rw (e, split_long) (long_name_lem os (before_equals s) (some v))
      go none e = rw (e, split_long) (empty (null s))
        where
          empty : (t : Bool) → grouped l os (ok (if t then none else parts long s none)) ≡ grouped m os (ok (if t then none else parts long s none))
          empty true = refl
          empty false = long_name_lem os s none

  -- a letter alone is Short, whatever it is
  letter_same : (os : List ℕ) (b : ℕ) → short_group l os (b ∷ []) none ≡ short_group m os (b ∷ []) none
  unfolding short_group cluster_from decode_at slice_from disambiguate_short null at ◌>>=◌
  letter_same os b = go (decode (b ∷ [])) refl
    where
      go : (d : CodeOption Char) → decode (b ∷ []) ≡ d → short_group l os (b ∷ []) none ≡ short_group m os (b ∷ []) none
      go None e = rw (e, cluster_from) refl
      go (Some c) e =
          let k = character (b ∷ []) 0 c e in
          let one : c.size ≡ 1 = omega (arith, k.some, k.within) in
          rw (e, one, cluster_from) refl

  one_byte : (os : List ℕ) (b : ℕ) → grouped l os (split_short b []) ≡ grouped m os (split_short b [])
  unfolding split_short behind_equals parts parts_group ◌>>=◌
  one_byte os b = go (well_formed (b ∷ []))
    where
      name : Bool → Outcome (Option Parts)
      name t = ok (if t then some (record { type = short; name = b ∷ []; body = none }) else none)

      go : (t : Bool) → grouped l os (name t) ≡ grouped m os (name t)
      go true = letter_same os b
      go false = refl

  plain_same : (os : List ℕ) → plain_argument os ≡ true → split_argument l os ≡ split_argument m os
  unfolding split_argument split_os_argument behind_dash plain_argument ◌>>=◌
  plain_same [] p = refl
  plain_same (a ∷ []) p = go (eqb a dash)
    where
      go : (t : Bool) → grouped l (a ∷ []) (if t then ok none else ok none) ≡ grouped m (a ∷ []) (if t then ok none else ok none)
      go true = refl
      go false = refl
  plain_same (a ∷ b ∷ []) p = go (eqb a dash) (eqb b dash)
    where
      go : (t u : Bool) → grouped l (a ∷ b ∷ []) (after_dash t u b []) ≡ grouped m (a ∷ b ∷ []) (after_dash t u b [])
      go false u = refl
      go true true = long_same (a ∷ b ∷ []) []
      go true false = one_byte (a ∷ b ∷ []) b
  plain_same (a ∷ b ∷ c ∷ s) p = go (eqb a dash) (eqb b dash) p
    where
      os : List ℕ
      os = a ∷ b ∷ c ∷ s

      go : (t u : Bool) → not t || u ≡ true → grouped l os (after_dash t u b (c ∷ s)) ≡ grouped m os (after_dash t u b (c ∷ s))
      go false u q = refl
      go true true q = long_same os (c ∷ s)
      go true false q = absurd (true≢false (sym q))

  all_same : (args : List (List ℕ)) → all plain_argument args ≡ true → All (λ (os : List ℕ). split_argument l os ≡ split_argument m os) args
  unfolding all
  all_same [] p = tt
  all_same (os ∷ rest) p =
      let both = (and-eq-true_iff (plain_argument os) (all plain_argument rest)).0 p in
      (plain_same os both.0, all_same rest both.1)

  -- what is split alike ends alike
  pub alike_ends :
      (s : List ℕ) (n : ℕ) (out : List ℕ) (r : Ended)
      → split_from l 0 (arguments s) ≡ split_from m 0 (arguments s)
      → SplitEnds l s n out r
      → SplitEnds m s n out r
  alike_ends s n out r e z = record {
    line = z.line;
    same = ap (λ (o : Outcome Split). o >>= line_of (arguments s)) (sym e) ∙ z.same;
    number = z.number;
    place = z.place;
    words = z.words;
    marked = z.marked;
    state = z.state;
  }

  pub plain_ends :
      (s : List ℕ) (n : ℕ) (out : List ℕ) (r : Ended) (t : Bool)
      → t ≡ all plain_argument (arguments s)
      → t ≡ true
      → SplitEnds l s n out r
      → SplitEnds m s n out r
  plain_ends s n out r t e p = alike_ends s n out r (split_alike l m 0 (arguments s) (all_same (arguments s) (sym e ∙ p)))

-- ---- `is_plain`
pub plain_short : (os : List ℕ) → length os < 3 → true ≡ plain_argument os
unfolding plain_argument
plain_short [] h = refl
plain_short (a ∷ []) h = refl
plain_short (a ∷ b ∷ []) h = refl
plain_short (a ∷ b ∷ c ∷ s) h = absurd (omega arith)

pub plain_word : (os : List ℕ) → 3 ≤ length os → (get_or os 0 0 ≡ 45 → ⊥) → true ≡ plain_argument os
unfolding plain_argument dash
plain_word [] h n = absurd (omega arith)
plain_word (a ∷ []) h n = absurd (omega arith)
plain_word (a ∷ b ∷ []) h n = absurd (omega arith)
plain_word (a ∷ b ∷ c ∷ s) h n = rw (ne_eqb a 45 n)

pub plain_dashed : (os : List ℕ) → 3 ≤ length os → get_or os 0 0 ≡ 45 → eqb (get_or os 1 0) 45 ≡ plain_argument os
unfolding plain_argument dash
plain_dashed [] h n = absurd (omega arith)
plain_dashed (a ∷ []) h n = absurd (omega arith)
plain_dashed (a ∷ b ∷ []) h n = absurd (omega arith)
plain_dashed (a ∷ b ∷ c ∷ s) h n = rw (eq-eqb a 45 n)

-- ---- `all_plain`
-- what is left decides
pub record Plain (s : List ℕ) (n k : ℕ) : Type 0 where
  pub same : all plain_argument (arguments s) ≡ all plain_argument (drop k (arguments s))
  pub count : n ≡ argument_count s

module _ (s : List ℕ) (n k : ℕ) (h : GoodSheet s) (z : Plain s n k) where
  pub plain_entry : k < n → HasEntry 2 n s k
  plain_entry t = rw z.count (has_entry s h k (omega (arith, z.count)))

  module _ (t : k < n) (os : List ℕ) (e : os ≡ entry_of 2 n s k) (g : Bool) (q : g ≡ plain_argument os) where
    step : all plain_argument (arguments s) ≡ (g && all plain_argument (drop (k + 1) (arguments s)))
    unfolding all
    step = z.same ∙ rw (argument_next s h k (omega (arith, t, z.count)), q, e, z.count)

    pub plain_not : not g ≡ true → false ≡ all plain_argument (arguments s)
    plain_not y = sym (step ∙ rw (not-true g y))

    pub plain_next : not g ≡ false → Plain s n (k + 1)
    plain_next y = record { same = step ∙ rw (not-false g y); count = z.count }

  pub plain_all : n ≤ k → true ≡ all plain_argument (arguments s)
  unfolding all
  plain_all t = sym (z.same ∙ rw (drop_of_length-le (arguments s) {i = k} (omega (arith, z.count, arguments_length s))))
