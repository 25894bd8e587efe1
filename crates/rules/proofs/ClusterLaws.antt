-- What is known of a cluster before its first item is written.
use Rattle.std.specs.Prelude.{if◌then◌else◌}
use mathlib.Core.Bool.{Bool, true, false}
use mathlib.Core.List.{List, [], ◌∷◌, ◌++◌, flatten}
use mathlib.Core.Option.{Option, some, none}
use mathlib.Core.Path.{◌≡◌, refl, sym, ap, ◌∙◌}
use Prim.Native.Nat.{ℕ, zero, suc, ◌+◌, ◌-◌, ◌%◌, ◌≤◌, ◌<◌}
use native.Mathlib.Omega.{arith, mod_fact}
use lib.Dec.{leb}
use lib.ListN.{length, length-append, length-drop, drop, replicate}
use borrow.Author.Tests.{eq-eqb, ne_eqb, le-leb, le-ltb, leb-true, leb-false}
use Rattle.utf8.specs.Utf8.{table, holds, fits, lead_bits, continued, scalar, decode_by, decode, well_formed}
use Rattle.std.specs.Prelude.{Option as CodeOption, Some, None}
use Rattle.utf8.specs.declared.Char.{Char}
use Rattle.rules.specs.Base.{null, same, slice_from}
use Rattle.rules.specs.Outcome.{Outcome, ok, refused, fault, at, ◌>>=◌, disambiguate_short207}
use Rattle.rules.specs.Sheet.{arguments}
use Rattle.rules.specs.Form.{Form}
use Rattle.rules.specs.Accept.{Letters, letters_of}
use Rattle.rules.specs.Split.{Word, dash, equals, Parts, short, parts, split_short, behind_dash, split_os_argument, behind_equals}
use Rattle.rules.specs.Split.{Letter, cluster_from, Cluster, single, all_flags, argument_letter, withdrawn, ambiguous, pick_letter, look_up}
use Rattle.rules.specs.Split.{disambiguate_short, flag_items, argument_items, cluster_items, ambiguous_at, plain, cluster_group, short_group}
use Rattle.rules.specs.Split.{parts_group, word_group, split_argument, Split, joined, split_from, items_of, records_from}
use Rattle.rules.specs.State.{construct}
use Rattle.rules.specs.Run.{ambiguity, line_of, split}
use Rattle.rules.specs.Demands.{All}
use Rattle.rules.specs.Clusters.{outcome_of, item_count, FlagsOnly, Unknown, EndsUnknown, OneWordMore, ClustersKnown}
use Rattle.rules.proofs.SplitLaws.{cluster_step, ok_injective, behind, items_behind, split_append}

-- ---- the count
flags_counted : (os : List ℕ) (cs : List ℕ) → length (flag_items os cs) ≡ length cs
unfolding flag_items
flags_counted os [] = refl
flags_counted os (c ∷ cs) = ap suc (flags_counted [] cs)

argument_counted : (os : List ℕ) (c : ℕ) (rest : List ℕ) → length (argument_items os c rest) ≡ (if null rest then 1 else 2)
unfolding argument_items null
argument_counted os c [] = refl
argument_counted os c (b ∷ rest) = refl

pub items_counted : (os : List ℕ) (c : Cluster) → length (cluster_items os c) ≡ item_count c
unfolding cluster_items item_count
items_counted os (single c) = refl
items_counted os (all_flags cs) = flags_counted os cs
items_counted os (argument_letter cs c rest) =
    rw (length-append (flag_items os cs) (argument_items os c rest), flags_counted os cs, argument_counted os c rest)
items_counted os (withdrawn k) = refl
items_counted os (ambiguous cs) = rw (length-append (flag_items os cs) (Word os ∷ []), flags_counted os cs)

pub group_known : (l : Letters) (os name : List ℕ) → short_group l os name none ≡ (outcome_of l name >>= λ c. ok (cluster_group os c))
unfolding short_group outcome_of ◌>>=◌
group_known l os name = go (cluster_from 0 0 name)
  where
    go :
        (o : Outcome (List Letter))
        → (o >>= λ ls. ok (cluster_group os (disambiguate_short l ls))) ≡ (o >>= (λ ls. ok (disambiguate_short l ls)) >>= λ c. ok (cluster_group os c))
    go (ok ls) = refl
    go (refused e) = refl
    go (fault e) = refl

-- ---- known letters, and then an unknown one
-- a letter that another one follows has a rest
past_end : (skip k : ℕ) (s : List ℕ) (ls : List Letter) → length s ≤ skip → cluster_from skip k s ≡ ok ls → ls ≡ []
unfolding cluster_from
past_end skip k [] ls h e = sym (ok_injective e)
past_end zero k (b ∷ s) ls h e = absurd (omega arith)
past_end (suc skip) k (b ∷ s) ls h e = past_end skip (suc k) s ls (omega arith) e

rest_there : (n : ℕ) (l : List ℕ) → n < length l → null (drop n l) ≡ false
unfolding null
rest_there n l h = go (drop n l) refl
  where
    go : (t : List ℕ) → drop n l ≡ t → null t ≡ false
    go [] e = let none_left : length (drop n l) ≡ 0 = ap length e in absurd (omega (arith, length-drop n l))
    go (b ∷ t) e = refl

module _ (b k : ℕ) (s : List ℕ) (x y : Letter) (ys : List Letter) where
  abbrev with_rest : ℕ → ℕ → Outcome (List Letter) → Option (List ℕ) → Outcome (List Letter)
  with_rest c n o r =
      at disambiguate_short207 r >>= λ rest. o >>= λ ls. ok (record { character = c; place = k; rest = rest } ∷ ls)

  character_rest :
      (c n : ℕ) (t : Bool)
      → leb n (length (b ∷ s)) ≡ t
      → (o : Outcome (List Letter))
      → cluster_from (n - 1) (suc k) s ≡ o
      → with_rest c n o (if t then some (drop n (b ∷ s)) else none) ≡ ok (x ∷ y ∷ ys)
      → null x.rest ≡ false
  unfolding at ◌>>=◌
  character_rest c n false h o q e = absurd (let z : ◌≡◌ {A = ℕ} 0 1 = cc in omega arith)
  character_rest c n true h (refused r) q e = absurd (let z : ◌≡◌ {A = ℕ} 0 1 = cc in omega arith)
  character_rest c n true h (fault f) q e = absurd (let z : ◌≡◌ {A = ℕ} 0 1 = cc in omega arith)
  character_rest c n true h (ok ls) q e = go (leb (length (b ∷ s)) n) refl
    where
      made : record { character = c; place = k; rest = drop n (b ∷ s) } ∷ ls ≡ x ∷ y ∷ ys
      made = ok_injective e

      go : (t : Bool) → leb (length (b ∷ s)) n ≡ t → null x.rest ≡ false
      go true g =
          let over = leb-true (length (b ∷ s)) n g in
          let ended = past_end (n - 1) (suc k) s ls (omega arith) q in
          absurd (let z : ◌≡◌ {A = ℕ} 0 1 = cc in omega arith)
      go false g =
          let same : x ≡ record { character = c; place = k; rest = drop n (b ∷ s) } = cc in
          ap (λ (w : Letter). null w.rest) same ∙ rest_there n (b ∷ s) (leb-false (length (b ∷ s)) n g)

  pub first_rest : cluster_from 0 k (b ∷ s) ≡ ok (x ∷ y ∷ ys) → null x.rest ≡ false
  unfolding cluster_from slice_from
  first_rest e = go (decode (b ∷ s)) refl
    where
      go : (d : CodeOption Char) → decode (b ∷ s) ≡ d → null x.rest ≡ false
      go None g = absurd (let bad = rw (g, cluster_from) at e in let z : ◌≡◌ {A = ℕ} 0 1 = cc in omega arith)
      go (Some c) g = character_rest c.value c.size (leb c.size (length (b ∷ s))) refl (cluster_from (c.size - 1) (suc k) s) refl (rw (g, cluster_from) at e)

pub known_passed :
    (l : Letters) (before : List ℕ) (known : List Letter) (u : Letter) (rest : List Letter)
    → All (λ (x : Letter). FlagsOnly l x.character) known
    → Unknown l u.character
    → look_up l before (known ++ (u ∷ rest)) ≡ withdrawn u.place
unfolding look_up pick_letter
known_passed l before [] u rest h nobody = rw (nobody.no_flag, nobody.no_argument)
known_passed l before (x ∷ known) u rest h nobody =
    rw (h.0.flag, h.0.no_argument) (known_passed l (before ++ (x.character ∷ [])) known u rest h.1 nobody)

module _ (l : Letters) (first : ℕ) (more : List ℕ) (u : Letter) (rest : List Letter) (nobody : Unknown l u.character) where
  unknown_withdrawn :
      (known : List Letter)
      → cluster_from 0 0 (first ∷ more) ≡ ok (known ++ (u ∷ rest))
      → 1 ≤ length known
      → All (λ (x : Letter). FlagsOnly l x.character) known
      → disambiguate_short l (known ++ (u ∷ rest)) ≡ withdrawn u.place
  unfolding disambiguate_short
  unknown_withdrawn [] e one h = absurd (omega arith)
  unknown_withdrawn (x ∷ []) e one h = rw (first_rest first 0 more x u rest e) (known_passed l [] (x ∷ []) u rest h nobody)
  unknown_withdrawn (x ∷ y ∷ known) e one h =
      rw (first_rest first 0 more x y (known ++ (u ∷ rest)) e) (known_passed l [] (x ∷ y ∷ known) u rest h nobody)

  module _ (no_dash : first ≡ dash → ⊥) (no_equals : behind_equals more ≡ none) where
    abbrev os : List ℕ
    os = dash ∷ first ∷ more

    plain_word : word_group os ≡ plain (Word os ∷ [])
    unfolding word_group same
    plain_word = rw (eq-eqb dash dash refl, ne_eqb first dash no_dash)

    abbrev named : Bool → Option Parts
    named t = if t then some (record { type = short; name = first ∷ more; body = none }) else none

    has_parts : split_os_argument os ≡ ok (named (well_formed (first ∷ more)))
    unfolding split_os_argument behind_dash split_short parts
    has_parts = rw (eq-eqb dash dash refl, ne_eqb first dash no_dash, no_equals, split_short)

    argument_word :
        (known : List Letter)
        → cluster_from 0 0 (first ∷ more) ≡ ok (known ++ (u ∷ rest))
        → 1 ≤ length known
        → All (λ (x : Letter). FlagsOnly l x.character) known
        → split_argument l os ≡ ok (plain (Word os ∷ []))
    unfolding split_argument parts_group short_group ◌>>=◌ cluster_group cluster_items ambiguous_at plain
    argument_word known e one h = rw has_parts (go (well_formed (first ∷ more)))
      where
        go : (t : Bool) → (elim (named t) [ none ↦ ok (word_group os) | some p ↦ parts_group l os p ]) ≡ ok (plain (Word os ∷ []))
        go true = rw (e, unknown_withdrawn known e one h)
        go false = ap ok plain_word

pub unknown_word : (l : Letters) (os : List ℕ) → EndsUnknown l os → split_argument l os ≡ ok (plain (Word os ∷ []))
unknown_word l os h =
    rw h.bytes
    (argument_word l h.first h.more h.unknown h.rest h.nobody h.no_dash h.no_equals h.known h.these h.one h.flags)

-- ---- on a line, behind the items of other arguments
module _ (l : Letters) (before : List (List ℕ)) (os : List ℕ) (x : Split) (h : EndsUnknown l os) where
  abbrev one_word : Split
  one_word = record { groups = (Word os ∷ []) ∷ []; marker = none; ambiguous = none }

  last_split : (k : ℕ) → split_from l k (os ∷ []) ≡ ok one_word
  unfolding split_from joined ◌>>=◌ plain
  last_split k = rw (unknown_word l os h)

  line_split :
      split_from l 0 before ≡ ok x
      → x.marker ≡ none
      → x.ambiguous ≡ none
      → split_from l 0 (before ++ (os ∷ [])) ≡ ok (behind x one_word)
  unfolding ◌>>=◌
  line_split e m a =
      split_append l 0 before (os ∷ []) x e (record { marker = m; ambiguous = a }) ∙ rw (last_split (0 + length (items_of x)))

  word_behind : items_of (behind x one_word) ≡ items_of x ++ (Word os ∷ [])
  unfolding items_of flatten
  word_behind = items_behind x one_word

pub last_place_lem :
    (f : Form) (s : List ℕ) (before : List (List ℕ)) (os : List ℕ) (x : Split)
    → arguments s ≡ before ++ (os ∷ [])
    → split_from (letters_of f) 0 before ≡ ok x
    → x.marker ≡ none
    → x.ambiguous ≡ none
    → length (items_of x) < 256
    → EndsUnknown (letters_of f) os
    → OneWordMore f s (items_of x) os
unfolding split line_of construct ambiguity behind ◌>>=◌
last_place_lem f s before os x args e m a few h =
    let l = letters_of f in
    let y = behind x (one_word l before os x h) in
    let items = word_behind l before os x h in
    let n : length (items_of y) ≡ length (items_of x) + 1 = ap length items ∙ length-append (items_of x) (Word os ∷ []) in
    record {
      line = record {
        refusal = none;
        items = items_of y;
        records = records_from 0 (before ++ (os ∷ [])) y.groups;
        state = record {
          marks = replicate (length (items_of y)) 0;
          remaining = length (items_of y);
          current = none;
          start = 0;
          end = length (items_of y);
        };
      };
      same = rw (args, line_split l before os x h e m a, le-ltb 256 (length (items_of y)) (omega arith));
      accepted = refl;
      items = items;
    }

-- ---- n times the same letter
ascii : (b : ℕ) (s : List ℕ) → b < 128 → decode (b ∷ s) ≡ Some (record { value = b; size = 1 })
unfolding decode decode_by table fits holds scalar continued lead_bits
ascii b s h = rw (le-leb 0 b (omega arith), le-leb b 127 (omega arith), let small : b % 128 ≡ b = omega (arith, mod_fact b 128) in small)

module _ (v x : ℕ) where
  abbrev name_of : ℕ → List ℕ
  name_of n = replicate n v ++ (x ∷ [])

  -- the letters v of a name, the first at a place, and x behind them
  letters_v : ℕ → ℕ → List Letter
  letters_v zero k = []
  letters_v (suc n) k = record { character = v; place = k; rest = name_of n } ∷ letters_v n (suc k)

  abbrev letter_x : ℕ → Letter
  letter_x k = record { character = x; place = k; rest = [] }

  these_letters : v < 128 → x < 128 → (n k : ℕ) → cluster_from 0 k (name_of n) ≡ ok (letters_v n k ++ (letter_x (k + n) ∷ []))
  unfolding letters_v cluster_from
  these_letters a b zero k =
      cluster_step k x (record { value = x; size = 1 }) [] [] (ascii x [] b) (omega arith) refl ∙ ap (λ (i : ℕ). ok (letter_x i ∷ [])) (omega arith)
  these_letters a b (suc n) k =
      cluster_step k v (record { value = v; size = 1 }) (name_of n) _ (ascii v (name_of n) a) (omega arith) (these_letters a b n (suc k))
      ∙ ap (λ (i : ℕ). ok (letters_v (suc n) k ++ (letter_x i ∷ []))) (omega arith)

  letters_long : (n k : ℕ) → length (letters_v n k) ≡ n
  unfolding letters_v
  letters_long zero k = refl
  letters_long (suc n) k = ap suc (letters_long n (suc k))

  letters_flags : (l : Letters) → FlagsOnly l v → (n k : ℕ) → All (λ (y : Letter). FlagsOnly l y.character) (letters_v n k)
  unfolding letters_v
  letters_flags l h zero k = tt
  letters_flags l h (suc n) k = (h, letters_flags l h n (suc k))

  no_equals_lem : (v ≡ equals → ⊥) → (x ≡ equals → ⊥) → (n : ℕ) → behind_equals (name_of n) ≡ none
  unfolding behind_equals
  no_equals_lem a b zero = rw (ne_eqb x equals b)
  no_equals_lem a b (suc n) = rw (ne_eqb v equals a) (no_equals_lem a b n)

pub thousand_letters :
    (l : Letters) (n v x : ℕ)
    → 1 ≤ n
    → (v < 128) × (x < 128)
    → (v ≡ dash → ⊥) × (v ≡ equals → ⊥) × (x ≡ equals → ⊥)
    → FlagsOnly l v
    → Unknown l x
    → EndsUnknown l (dash ∷ (replicate n v ++ (x ∷ [])))
thousand_letters l zero v x one small apart flags nobody = absurd (omega arith)
thousand_letters l (suc n) v x one small apart flags nobody = record {
  first = v;
  more = name_of v x n;
  bytes = refl;
  no_dash = apart.0;
  no_equals = no_equals_lem v x apart.1 apart.2 n;
  known = letters_v v x (suc n) 0;
  unknown = letter_x v x (0 + suc n);
  rest = [];
  these = these_letters v x small.0 small.1 (suc n) 0;
  one = rw (letters_long v x (suc n) 0) (omega arith);
  flags = letters_flags v x l flags (suc n) 0;
  nobody = nobody;
}

pub clusters_known : ClustersKnown
clusters_known = record {
  known = group_known;
  counted = items_counted;
  word = unknown_word;
  last_place = last_place_lem;
  thousand = thousand_letters;
}
