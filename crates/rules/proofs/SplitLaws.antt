-- Laws of splitting: it never panics, where the first `--` and an ambiguous letter stand, and how long the records are.
use Rattle.std.specs.Prelude.{if◌then◌else◌}
use mathlib.Core.Path.{◌≡◌, refl, sym, ◌∙◌, ap, ap₂}
use mathlib.Core.Bool.{Bool, true, false, and-eq-true_iff, false≢true}
use mathlib.Core.Logic.{◌⊎◌, inl, inr, ⊎_elim}
use mathlib.Core.List.{List, [], ◌∷◌, ◌++◌, flatten, append_assoc}
use mathlib.Core.Option.{Option, some, none, some-injective}
use Prim.Native.Nat.{ℕ, zero, suc, ◌+◌, ◌-◌, ◌*◌, ◌≤◌, ◌<◌}
use native.Mathlib.Nat.{zero-add, add-zero, add_assoc, le_refl}
use native.Mathlib.Omega.{arith}
use lib.Dec.{eqb, ltb}
use lib.ListN.{length, drop, length-append}
use borrow.Author.Tests.{eq-eqb, eqb-true, le-leb, lt-ltb, ltb-false}
use Rattle.utf8.specs.Utf8.{decode, decode_at, well_formed, well_formed_after}
use Rattle.utf8.specs.Laws.{character}
use Rattle.std.specs.Prelude.{Option as CodeOption, Some, None}
use Rattle.utf8.specs.declared.Char.{Char}
use Rattle.rules.specs.Base.{null, same, slice_from, concat_map}
use Rattle.rules.specs.Outcome.{Outcome, ok, refused, fault, ◌>>=◌, at, Refusal, refuse}
use Rattle.rules.specs.Sheet.{arguments}
use Rattle.rules.specs.Form.{Form}
use Rattle.rules.specs.Accept.{Letters, letters_of}
use Rattle.rules.specs.Split.{Item, Short, Long, ArgWord, Word, PosWord, dash, equals, short, long, Parts}
use Rattle.rules.specs.Split.{behind_equals, before_equals, parts, split_long, short_body, split_short, behind_dash, split_os_argument}
use Rattle.rules.specs.Split.{Letter, cluster_from, Cluster, single, all_flags, argument_letter, withdrawn, ambiguous}
use Rattle.rules.specs.Split.{disambiguate_short, flag_items, cluster_items, ambiguous_at}
use Rattle.rules.specs.Split.{Group, plain, cluster_group, short_group, long_group, parts_group, word_group, split_argument}
use Rattle.rules.specs.Split.{Split, positionals, joined, split_from, items_of, item_words, record_words, records_from}
use Rattle.rules.specs.State.{marker_mark, parsed}
use Rattle.rules.specs.Run.{Line, too_many, ambiguity, line_of, split}
use Rattle.rules.specs.Demands.{has_marker, places_left}
use Rattle.rules.specs.Sound.{Good}
use Rattle.rules.proofs.Places.{if_elim}
use Rattle.rules.proofs.StepLaws.{Within, Remains, construct_good}

-- ---- clusters

-- where well-formed bytes are left, a character begins, all of it is there, and what follows it is well-formed
pub letter_ok :
    (b : ℕ) (s : List ℕ)
    → well_formed_after 0 (b ∷ s) ≡ true
    → (c : Char) × (decode (b ∷ s) ≡ Some c) × (c.size ≤ length (b ∷ s)) × (well_formed_after (c.size - 1) s ≡ true)
unfolding well_formed_after decode_at
letter_ok b s w = go (decode (b ∷ s)) refl
  where
    go :
        (d : CodeOption Char)
        → decode (b ∷ s) ≡ d
        → (c : Char) × (decode (b ∷ s) ≡ Some c) × (c.size ≤ length (b ∷ s)) × (well_formed_after (c.size - 1) s ≡ true)
    go None e = absurd (false≢true (rw e at w))
    go (Some c) e = (c, e, rw zero-add at (character (b ∷ s) 0 c e).within, rw e at w)

pub cluster_step :
    (k b : ℕ) (c : Char) (s : List ℕ) (ls : List Letter)
    → decode (b ∷ s) ≡ Some c
    → c.size ≤ length (b ∷ s)
    → cluster_from (c.size - 1) (suc k) s ≡ ok ls
    → cluster_from 0 k (b ∷ s) ≡ ok (record { character = c.value; place = k; rest = drop c.size (b ∷ s) } ∷ ls)
unfolding cluster_from slice_from at ◌>>=◌
cluster_step k b c s ls e h r = rw (e, cluster_from, le-leb c.size (length (b ∷ s)) h, r)

pub cluster_ok : (skip k : ℕ) (s : List ℕ) → well_formed_after skip s ≡ true → (ls : List Letter) × (cluster_from skip k s ≡ ok ls)
unfolding well_formed_after cluster_from
cluster_ok skip k [] w = ([], refl)
cluster_ok (suc skip) k (b ∷ s) w = cluster_ok skip (suc k) s w
cluster_ok zero k (b ∷ s) w =
    let x = letter_ok b s w in
    let ls = cluster_ok (x.0.size - 1) (suc k) s x.3 in
    (_, cluster_step k b x.0 s ls.0 x.1 x.2 ls.1)

-- ---- one argument

pub some≢none : {A : Type 0} {a : A} → some a ≡ none → ⊥
some≢none e = let z : ◌≡◌ {A = ℕ} 0 1 = cc in omega arith

-- what stands before and behind the first `=` makes up the whole
pub equals_apart : (s v : List ℕ) → behind_equals s ≡ some v → before_equals s ++ (equals ∷ v) ≡ s
unfolding behind_equals before_equals
equals_apart [] v e = absurd (some≢none (sym e))
equals_apart (b ∷ s) v e = go (eqb b equals) refl (equals_apart s v)
  where
    go :
        (t : Bool)
        → eqb b equals ≡ t
        → (behind_equals s ≡ some v → before_equals s ++ (equals ∷ v) ≡ s)
        → before_equals (b ∷ s) ++ (equals ∷ v) ≡ b ∷ s
    go true h rest = let same : s ≡ v = some-injective s v (rw h at e) in rw (h, same, eqb-true b equals h)
    go false h rest = rw h (ap (λ (l : List ℕ). b ∷ l) (rest (rw h at e)))

-- the slice is there: with one byte of name the value is what is behind the `=`, with more all behind that byte
pub short_body_lem :
    (b : ℕ) (s v : List ℕ)
    → behind_equals s ≡ some v
    → short_body (b ∷ before_equals s) v ≡ ok (if null (before_equals s) then v else s)
unfolding short_body slice_from null at ◌>>=◌
short_body_lem b s v e = go (before_equals s) refl
  where
    go : (l : List ℕ) → before_equals s ≡ l → short_body (b ∷ before_equals s) v ≡ ok (if null (before_equals s) then v else s)
    go [] h = rw h
    go (x ∷ l) h =
        let n = suc (suc (length l)) in
        rw (h, lt-ltb 1 n (omega arith), le-leb 1 n (omega arith)) (ap ok (rw h at (equals_apart s v e)))

-- what `split_os_argument` can give: none, a long name, or a short name that is well-formed and not empty
module _
    (P : Outcome (Option Parts) → Type 0)
    (word : P (ok none))
    (longs : (n : List ℕ) (body : Option (List ℕ)) → P (ok (some (record { type = long; name = n; body = body }))))
    (shorts :
    (b : ℕ) (s : List ℕ) (body : Option (List ℕ))
    → well_formed (b ∷ s) ≡ true
    → P (ok (some (record { type = short; name = b ∷ s; body = body }))))
  where
    abbrev Given : Option Parts → Type 0
    Given x = P (ok x)

    long_parts : (n : List ℕ) (body : Option (List ℕ)) → Given (parts long n body)
    unfolding parts
    long_parts n body = if_elim Given (well_formed n) _ none (λ w. longs n body) (λ w. word)

    short_parts_lem : (b : ℕ) (s : List ℕ) (body : Option (List ℕ)) → Given (parts short (b ∷ s) body)
    unfolding parts
    short_parts_lem b s body = if_elim Given (well_formed (b ∷ s)) _ none (λ w. shorts b s body w) (λ w. word)

    long_cases : (s : List ℕ) → Given (split_long s)
    unfolding split_long
    long_cases s = go (behind_equals s) refl
      where
        go : (v : Option (List ℕ)) → behind_equals s ≡ v → Given (split_long s)
        go none e = rw (e, split_long) (if_elim Given (null s) none (parts long s none) (λ z. word) (λ z. long_parts s none))
        go (some v) e = rw (e, split_long) (long_parts (before_equals s) (some v))

    short_cases : (b : ℕ) (s : List ℕ) → P (split_short b s)
    unfolding split_short ◌>>=◌
    short_cases b s = go (behind_equals s) refl
      where
        go : (v : Option (List ℕ)) → behind_equals s ≡ v → P (split_short b s)
        go none e = rw (e, split_short) (short_parts_lem b s none)
        go (some v) e = rw (e, split_short, short_body_lem b s v e) (short_parts_lem b [] (some (if null (before_equals s) then v else s)))

    dash_cases : (s : List ℕ) → P (behind_dash s)
    unfolding behind_dash
    dash_cases [] = word
    dash_cases (b ∷ s) = if_elim P (eqb b dash) (ok (split_long s)) (split_short b s) (λ e. long_cases s) (λ e. short_cases b s)

    pub parts_cases : (os : List ℕ) → P (split_os_argument os)
    unfolding split_os_argument
    parts_cases [] = word
    parts_cases (b ∷ s) = if_elim P (eqb b dash) (behind_dash s) (ok none) (λ e. dash_cases s) (λ e. word)

pub same_true : (a b : List ℕ) → same a b ≡ true → a ≡ b
unfolding same
same_true [] [] e = refl
same_true [] (y ∷ b) e = absurd (false≢true e)
same_true (x ∷ a) [] e = absurd (false≢true e)
same_true (x ∷ a) (y ∷ b) e =
    let p = (and-eq-true_iff (eqb x y) (same a b)).0 e in
    ap₂ (λ (z : ℕ) (l : List ℕ). z ∷ l) (eqb-true x y p.0) (same_true a b p.1)

pub same_self : (l : List ℕ) → same l l ≡ true
unfolding same
same_self [] = refl
same_self (b ∷ l) = (and-eq-true_iff (eqb b b) (same l l)).1 (eq-eqb b b refl, same_self l)

-- the text `--`
abbrev pub dashes : List ℕ
dashes = dash ∷ dash ∷ []

-- where the Word of an ambiguous letter stands
abbrev pub AmbiguousBelow : ℕ → Option ℕ → Type 0
AmbiguousBelow n none = Unit {0}
AmbiguousBelow n (some i) = i < n

-- what splitting one argument gives
pub record Grouped (os : List ℕ) (is : Bool) (o : Outcome Group) : Type 0 where
  pub group : Group
  pub same : o ≡ ok group
  pub marker : group.marker ≡ is
  pub below : AmbiguousBelow (length group.items) group.ambiguous
  -- a marker is one item, and no letter of it is ambiguous
  pub one : is ≡ true → (group.items ≡ PosWord os ∷ []) × (group.ambiguous ≡ none)

flags_length : (os cs : List ℕ) → length (flag_items os cs) ≡ length cs
unfolding flag_items
flags_length os [] = refl
flags_length os (c ∷ cs) = ap suc (flags_length [] cs)

cluster_below : (os : List ℕ) (c : Cluster) → AmbiguousBelow (length (cluster_items os c)) (ambiguous_at c)
unfolding cluster_items ambiguous_at
cluster_below os (single c) = tt
cluster_below os (all_flags cs) = tt
cluster_below os (argument_letter cs c rest) = tt
cluster_below os (withdrawn k) = tt
cluster_below os (ambiguous cs) = omega (arith, length-append (flag_items os cs) (Word os ∷ []), flags_length os cs)

plain_grouped : (os : List ℕ) (is : List Item) → Grouped os false (ok (plain is))
unfolding plain
plain_grouped os is = record { group = plain is; same = refl; marker = refl; below = tt; one = λ e. absurd (false≢true e) }

short_grouped :
    (l : Letters) (os : List ℕ) (b : ℕ) (s : List ℕ) (body : Option (List ℕ))
    → well_formed (b ∷ s) ≡ true
    → Grouped os false (short_group l os (b ∷ s) body)
unfolding short_group cluster_group well_formed ◌>>=◌
short_grouped l os b s none w =
    let ls = cluster_ok 0 0 (b ∷ s) w in
    let c = disambiguate_short l ls.0 in
    record {
      group = cluster_group os c;
      same = rw ls.1;
      marker = refl;
      below = cluster_below os c;
      one = λ e. absurd (false≢true e);
    }
short_grouped l os b s (some v) w =
    let x = letter_ok b s w in
    rw (x.1, short_group) (plain_grouped os (Short x.0.value true os ∷ ArgWord v ∷ []))

long_grouped : (os n : List ℕ) (body : Option (List ℕ)) → Grouped os false (ok (long_group os n body))
unfolding long_group
long_grouped os n none = plain_grouped os (Long n false os ∷ [])
long_grouped os n (some v) = plain_grouped os (Long n true os ∷ ArgWord v ∷ [])

word_grouped : (os : List ℕ) → Grouped os (same os dashes) (ok (word_group os))
unfolding word_group
word_grouped os = go (same os dashes) refl
  where
    go : (t : Bool) → same os dashes ≡ t → Grouped os t (ok (word_group os))
    go true e = rw (e, word_group) (record { group = _; same = refl; marker = refl; below = tt; one = λ z. (refl, refl) })
    go false e = rw (e, word_group) (plain_grouped os (Word os ∷ []))

-- `--` has no parts
no_dashes : (os : List ℕ) (x : Parts) → split_os_argument os ≡ ok (some x) → same os dashes ≡ false
unfolding split_os_argument behind_dash split_long behind_equals null dash
no_dashes os x e = go (same os dashes) refl
  where
    go : (t : Bool) → same os dashes ≡ t → t ≡ false
    go false h = refl
    go true h = let z : split_os_argument dashes ≡ ok (some x) = rw (same_true os dashes h) at e in cc

pub argument_grouped : (l : Letters) (os : List ℕ) → Grouped os (same os dashes) (split_argument l os)
unfolding split_argument parts_group ◌>>=◌
argument_grouped l os = parts_cases Given (λ e. rw (e, split_argument) (word_grouped os)) longs shorts os refl
  where
    Given : Outcome (Option Parts) → Type 0
    Given x = split_os_argument os ≡ x → Grouped os (same os dashes) (split_argument l os)

    longs : (n : List ℕ) (body : Option (List ℕ)) → Given (ok (some (record { type = long; name = n; body = body })))
    longs n body e = rw (no_dashes os _ e, e, split_argument) (long_grouped os n body)

    shorts :
        (b : ℕ) (s : List ℕ) (body : Option (List ℕ))
        → well_formed (b ∷ s) ≡ true
        → Given (ok (some (record { type = short; name = b ∷ s; body = body })))
    shorts b s body w e = rw (no_dashes os _ e, e, split_argument) (short_grouped l os b s body w)

-- splitting an argument never panics
pub argument_splits : (l : Letters) (os : List ℕ) → (g : Group) × (split_argument l os ≡ ok g)
argument_splits l os = let g = argument_grouped l os in (g.group, g.same)

-- ---- all arguments

-- where the first `--` and an ambiguous letter stand, among n items whose first has place k
abbrev pub Ended : ℕ → ℕ → Bool → Option ℕ → Option ℕ → Type 0
Ended k n has none none = has ≡ false
Ended k n has (some i) none = (has ≡ true) × (k ≤ i) × (i < k + n)
Ended k n has none (some i) = (k ≤ i) × (i < k + n)
Ended k n has (some i) (some j) = ⊥

-- what splitting from place k on gives
pub record Splits (k : ℕ) (args : List (List ℕ)) (o : Outcome Split) : Type 0 where
  pub split : Split
  pub same : o ≡ ok split
  pub ended : Ended k (length (items_of split)) (has_marker args) split.marker split.ambiguous
  pub few : length split.groups ≤ length args
  pub whole : split.ambiguous ≡ none → length split.groups ≡ length args

positionals_length : (rest : List (List ℕ)) → length (positionals rest) ≡ length rest
unfolding positionals
positionals_length [] = refl
positionals_length (os ∷ rest) = ap suc (positionals_length rest)

-- the places of the others are among all places
ended_later :
    (k m n : ℕ) (has : Bool) (marker ambiguous : Option ℕ)
    → Ended (k + m) n has marker ambiguous
    → Ended k (m + n) has marker ambiguous
ended_later k m n has none none h = h
ended_later k m n has (some i) none h = (h.0, omega arith, omega arith)
ended_later k m n has none (some i) h = (omega arith, omega arith)
ended_later k m n has (some i) (some j) h = h

joined_splits :
    (k : ℕ) (os : List ℕ) (rest : List (List ℕ)) (is : List Item) (a : Option ℕ) (m : Bool) (others : Outcome Split)
    → AmbiguousBelow (length is) a
    → m ≡ same os dashes
    → (m ≡ true → is ≡ PosWord os ∷ [])
    → Splits (k + length is) rest others
    → Splits k (os ∷ rest) (joined k (record { items = is; ambiguous = a; marker = m }) rest others)
unfolding joined has_marker items_of flatten ◌>>=◌
joined_splits k os rest is (some i) m others below e one r = record {
  split = record { groups = is ∷ []; marker = none; ambiguous = some (k + i) };
  same = refl;
  ended = (omega arith, omega (arith, length-append is []));
  few = omega arith;
  whole = λ z. absurd (some≢none z);
}
joined_splits k os rest is none true others below e one r = record {
  split = record { groups = is ∷ positionals rest; marker = some k; ambiguous = none };
  same = refl;
  ended = (rw (← e), le_refl k, rw (one refl) (omega arith));
  few = omega (arith, positionals_length rest);
  whole = λ z. ap suc (positionals_length rest);
}
joined_splits k os rest is none false others below e one r =
    let x = r.split in
    record {
      split = record { groups = is ∷ x.groups; marker = x.marker; ambiguous = x.ambiguous };
      same = rw r.same;
      ended = rw (← e, length-append is (flatten x.groups))
          (ended_later k (length is) (length (flatten x.groups)) (has_marker rest) x.marker x.ambiguous r.ended);
      few = omega (arith, r.few);
      whole = λ z. ap suc (r.whole z);
    }

pub splits : (l : Letters) (k : ℕ) (args : List (List ℕ)) → Splits k args (split_from l k args)
unfolding split_from ◌>>=◌ has_marker items_of flatten
splits l k [] = record { split = _; same = refl; ended = refl; few = le_refl 0; whole = λ z. refl }
splits l k (os ∷ rest) =
    let g = argument_grouped l os in
    let is = g.group.items in
    rw g.same
    (joined_splits k os rest is g.group.ambiguous g.group.marker (split_from l (k + length is) rest)
    g.below g.marker (λ e. (g.one (sym g.marker ∙ e)).0) (splits l (k + length is) rest))

-- splitting never panics
pub split_ok : (l : Letters) (k : ℕ) (args : List (List ℕ)) → (x : Split) × (split_from l k args ≡ ok x)
split_ok l k args = let r = splits l k args in (r.split, r.same)

pub ok_injective : {A : Type 0} {a b : A} → ok a ≡ ok b → a ≡ b
ok_injective e = cc

module _ (l : Letters) (k : ℕ) (args : List (List ℕ)) (x : Split) (e : split_from l k args ≡ ok x) where
  split_is : (splits l k args).split ≡ x
  split_is = ok_injective (sym (splits l k args).same ∙ e)

  pub split_ended : Ended k (length (items_of x)) (has_marker args) x.marker x.ambiguous
  split_ended = rw split_is at (splits l k args).ended

  -- there is an argument for each group
  pub groups_few : length x.groups ≤ length args
  groups_few = rw split_is at (splits l k args).few

  pub groups_whole : x.ambiguous ≡ none → length x.groups ≡ length args
  groups_whole = rw split_is at (splits l k args).whole

-- the place of the first `--` among n items, where there is one
abbrev pub MarkerAt : ℕ → Bool → Option ℕ → Type 0
MarkerAt n has none = has ≡ false
MarkerAt n has (some i) = (has ≡ true) × (i < n)

pub marker_law :
    (l : Letters) (args : List (List ℕ)) (x : Split)
    → split_from l 0 args ≡ ok x
    → x.ambiguous ≡ none
    → MarkerAt (length (items_of x)) (has_marker args) x.marker
marker_law l args x e z = go x.marker x.ambiguous z (split_ended l 0 args x e)
  where
    go : (m a : Option ℕ) → a ≡ none → Ended 0 (length (items_of x)) (has_marker args) m a → MarkerAt (length (items_of x)) (has_marker args) m
    go none none z h = h
    go (some i) none z h = (h.0, omega arith)
    go none (some j) z h = absurd (some≢none z)
    go (some i) (some j) z h = absurd h

pub ambiguous_law :
    (l : Letters) (args : List (List ℕ)) (x : Split) (i : ℕ)
    → split_from l 0 args ≡ ok x
    → x.ambiguous ≡ some i
    → (x.marker ≡ none) × (i < length (items_of x))
ambiguous_law l args x i e z = go x.marker x.ambiguous z (split_ended l 0 args x e)
  where
    go : (m a : Option ℕ) → a ≡ some i → Ended 0 (length (items_of x)) (has_marker args) m a → (m ≡ none) × (i < length (items_of x))
    go m none z h = absurd (some≢none (sym z))
    go none (some j) z h = let same : j ≡ i = cc in (refl, omega arith)
    go (some k) (some j) z h = absurd h

-- ---- more arguments

-- one split behind another
unfoldable pub behind : Split → Split → Split
behind x y = record { groups = x.groups ++ y.groups; marker = y.marker; ambiguous = y.ambiguous }

pub flatten_append : {A : Type 0} (a b : List (List A)) → flatten (a ++ b) ≡ flatten a ++ flatten b
unfolding flatten
flatten_append [] b = refl
flatten_append (x ∷ a) b = rw (flatten_append a b) (sym (append_assoc x (flatten a) (flatten b)))

pub items_behind : (x y : Split) → items_of (behind x y) ≡ items_of x ++ items_of y
unfolding items_of behind
items_behind x y = flatten_append x.groups y.groups

-- no argument is `--`, and no letter is ambiguous
pub record Open (x : Split) : Type 0 where
  pub marker : x.marker ≡ none
  pub ambiguous : x.ambiguous ≡ none

-- the items of one more argument in front
front :
    (is : List Item) (y : Split) (o : Outcome Split)
    → (o >>= (λ z. ok (behind y z)) >>= λ s. ok (record { groups = is ∷ s.groups; marker = s.marker; ambiguous = s.ambiguous }))
    ≡ (o >>= λ z. ok (behind (record { groups = is ∷ y.groups; marker = y.marker; ambiguous = y.ambiguous }) z))
unfolding ◌>>=◌ behind
front is y (ok z) = refl
front is y (refused e) = refl
front is y (fault e) = refl

same_ok : {A : Type 0} (o : Outcome A) → o ≡ (o >>= λ a. ok a)
unfolding ◌>>=◌
same_ok (ok a) = refl
same_ok (refused e) = refl
same_ok (fault e) = refl

joined_append :
    (l : Letters) (k : ℕ) (rest more : List (List ℕ)) (is : List Item) (a : Option ℕ) (m : Bool) (others longer : Outcome Split) (x : Split)
    → joined k (record { items = is; ambiguous = a; marker = m }) rest others ≡ ok x
    → Open x
    → ((y : Split) → others ≡ ok y → Open y → longer ≡ (split_from l (k + length is + length (items_of y)) more >>= λ z. ok (behind y z)))
    → joined k (record { items = is; ambiguous = a; marker = m }) (rest ++ more) longer
    ≡ (split_from l (k + length (items_of x)) more >>= λ z. ok (behind x z))
unfolding joined ◌>>=◌ items_of flatten behind
joined_append l k rest more is (some i) m others longer x e free h =
    absurd (some≢none (ap (λ (y : Split). y.ambiguous) (ok_injective e) ∙ free.ambiguous))
joined_append l k rest more is none true others longer x e free h =
    absurd (some≢none (ap (λ (y : Split). y.marker) (ok_injective e) ∙ free.marker))
joined_append l k rest more is none false (refused r) longer x e free h = absurd (let z : ◌≡◌ {A = ℕ} 0 1 = cc in omega arith)
joined_append l k rest more is none false (fault r) longer x e free h = absurd (let z : ◌≡◌ {A = ℕ} 0 1 = cc in omega arith)
joined_append l k rest more is none false (ok y) longer x e free h =
    let same = ok_injective e in
    let f : Open (record { groups = is ∷ y.groups; marker = y.marker; ambiguous = y.ambiguous }) = rw (← same) at free in
    let longer = h y refl (record { marker = f.marker; ambiguous = f.ambiguous }) in
    rw (← same, longer, length-append is (flatten y.groups), ← add_assoc k (length is))
    (front is y (split_from l (k + length is + length (flatten y.groups)) more))

-- splitting more arguments goes on where the first ones end, if none of these is `--` and no letter is ambiguous
pub split_append :
    (l : Letters) (k : ℕ) (args more : List (List ℕ)) (x : Split)
    → split_from l k args ≡ ok x
    → Open x
    → split_from l k (args ++ more) ≡ (split_from l (k + length (items_of x)) more >>= λ y. ok (behind x y))
unfolding split_from ◌>>=◌ items_of flatten behind
split_append l k [] more x e free = rw (← ok_injective e, add-zero k) (same_ok (split_from l k more))
split_append l k (os ∷ rest) more x e free =
    let g = argument_grouped l os in
    let is = g.group.items in
    rw g.same
    (joined_append l k rest more is g.group.ambiguous g.group.marker
    (split_from l (k + length is) rest) (split_from l (k + length is) (rest ++ more)) x
    (rw g.same at e) free (λ y f o. split_append l (k + length is) rest more y f o))

-- ---- records

pub record_length : (begin end : ℕ) (x : Item) → length (item_words begin end x) ≡ 7
unfolding item_words record_words
record_length begin end x = refl

pub group_length : (begin end : ℕ) (is : List Item) → length (concat_map (item_words begin end) is) ≡ 7 * length is
unfolding concat_map
group_length begin end [] = refl
group_length begin end (x ∷ is) =
    let both = length-append (item_words begin end x) (concat_map (item_words begin end) is) in
    omega (arith, record_length begin end x, group_length begin end is)

pub records_from_length :
    (begin : ℕ) (args : List (List ℕ)) (gs : List (List Item))
    → length gs ≤ length args
    → length (records_from begin args gs) ≡ 7 * length (flatten gs)
unfolding records_from flatten
records_from_length begin args [] h = refl
records_from_length begin [] (g ∷ gs) h = absurd (omega arith)
records_from_length begin (os ∷ rest) (g ∷ gs) h =
    let end = begin + length os in
    omega (
      arith,
      length-append (concat_map (item_words begin end) g) (records_from end rest gs),
      group_length begin end g,
      records_from_length end rest gs (omega arith),
      length-append g (flatten gs),
    )

pub records_length :
    (l : Letters) (args : List (List ℕ)) (x : Split)
    → split_from l 0 args ≡ ok x
    → length (records_from 0 args x.groups) ≡ 7 * length (items_of x)
unfolding items_of
records_length l args x e = records_from_length 0 args x.groups (groups_few l 0 args x e)

-- ---- a line

-- a line that is not too long
pub record LineGood (args : List (List ℕ)) (l : Line) : Type 0 where
  pub few : length l.items ≤ 256
  pub good : Good (length l.items) l.state
  pub records : length l.records ≡ 7 * length l.items
  pub remaining : l.refusal ≡ none → l.state.remaining ≡ places_left args (length l.items)
  pub refusal : (e : Refusal) → l.refusal ≡ some e → (i : ℕ) × (e ≡ refuse 9 (some i)) × (i < length l.items)
  pub unparsed : (e : Refusal) → l.refusal ≡ some e → l.state.remaining ≡ length l.items

pub marker_below : (n : ℕ) (has : Bool) (m a : Option ℕ) → Ended 0 n has m a → Within n m
marker_below n has none none h = tt
marker_below n has (some i) none h = omega arith
marker_below n has none (some i) h = tt
marker_below n has (some i) (some j) h = absurd h

left_over_lem : (args : List (List ℕ)) (n r : ℕ) (m : Option ℕ) → MarkerAt n (has_marker args) m → Remains n m r → r ≡ places_left args n
unfolding places_left
left_over_lem args n r none h e = rw h e
left_over_lem args n r (some i) h e = rw h.0 (omega arith)

all_left : (n r : ℕ) (m : Option ℕ) → m ≡ none → Remains n m r → r ≡ n
all_left n r none z e = e
all_left n r (some i) z e = absurd (some≢none z)

pub ambiguity_none : (a : Option ℕ) → ambiguity a ≡ none → a ≡ none
unfolding ambiguity
ambiguity_none none e = refl
ambiguity_none (some i) e = absurd (some≢none e)

ambiguity_some : (a : Option ℕ) (e : Refusal) → ambiguity a ≡ some e → (i : ℕ) × (e ≡ refuse 9 (some i)) × (a ≡ some i)
unfolding ambiguity
ambiguity_some none e h = absurd (some≢none (sym h))
ambiguity_some (some i) e h = (i, cc, refl)

marker_parsed : parsed marker_mark ≡ true
unfolding parsed marker_mark
marker_parsed = refl

pub line_of_lem :
    (l : Letters) (args : List (List ℕ)) (x : Split)
    → split_from l 0 args ≡ ok x
    → (y : Line) × (line_of args x ≡ ok y) × ((y ≡ too_many) ⊎ LineGood args y)
unfolding line_of ◌>>=◌
line_of_lem l args x e = go (ltb 256 (length (items_of x))) refl
  where
    go : (t : Bool) → ltb 256 (length (items_of x)) ≡ t → (y : Line) × (line_of args x ≡ ok y) × ((y ≡ too_many) ⊎ LineGood args y)
    go true h = (too_many, rw h, inl refl)
    go false h =
        let n = length (items_of x) in
        let m = marker_below n (has_marker args) x.marker x.ambiguous (split_ended l 0 args x e) in
        let few : n ≤ 256 = ltb-false 256 n h in
        let c = construct_good marker_mark marker_parsed n x.marker few m in
        let y : Line = record {
          refusal = ambiguity x.ambiguous;
          items = items_of x;
          records = records_from 0 args x.groups;
          state = c.0;
        } in (
          y,
          rw (h, c.1),
          inr (record {
            few = few;
            good = c.2;
            records = records_length l args x e;
            remaining = λ z.
                left_over_lem args n c.0.remaining x.marker (marker_law l args x e (ambiguity_none x.ambiguous z)) c.3;
            refusal = λ r z. let w = ambiguity_some x.ambiguous r z in (w.0, w.1, (ambiguous_law l args x w.0 e w.2).1);
            unparsed = λ r z.
                let w = ambiguity_some x.ambiguous r z in
                all_left n c.0.remaining x.marker (ambiguous_law l args x w.0 e w.2).0 c.3;
          }),
        )

-- splitting a sheet under a form always gives a line
line_splits : (f : Form) (s : List ℕ) → (y : Line) × (split f s ≡ ok y) × ((y ≡ too_many) ⊎ LineGood (arguments s) y)
unfolding split ◌>>=◌
line_splits f s =
    let x = split_ok (letters_of f) 0 (arguments s) in
    rw x.1 (line_of_lem (letters_of f) (arguments s) x.0 x.1)

pub split_line : (f : Form) (s : List ℕ) → (l : Line) × (split f s ≡ ok l)
split_line f s = let y = line_splits f s in (y.0, y.1)

pub line_law : (f : Form) (s : List ℕ) (l : Line) → split f s ≡ ok l → (l ≡ too_many) ⊎ LineGood (arguments s) l
line_law f s l e =
    let y = line_splits f s in
    let same = ok_injective (sym y.1 ∙ e) in
    rw same at y.2

-- a line that is not refused
pub line_accepted : (f : Form) (s : List ℕ) (l : Line) → split f s ≡ ok l → l.refusal ≡ none → LineGood (arguments s) l
unfolding too_many
line_accepted f s l e z =
    ⊎_elim
    (λ (t : l ≡ too_many). absurd (some≢none (ap (λ (y : Line). y.refusal) (sym t) ∙ z)))
    (λ g. g)
    (line_law f s l e)

-- splitting refuses with 8 or 9
pub line_refusal :
    (f : Form) (s : List ℕ) (l : Line) (e : Refusal)
    → split f s ≡ ok l
    → l.refusal ≡ some e
    → (e.number ≡ 8) ⊎ (e.number ≡ 9)
unfolding too_many
line_refusal f s l e h z =
    ⊎_elim
    (λ (t : l ≡ too_many). let r : e ≡ refuse 8 none = cc in inl (rw r))
    (λ g. inr (rw (g.refusal e z).1))
    (line_law f s l h)
