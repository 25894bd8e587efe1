-- Which items are Words, and the arguments that splitting withdraws.
use mathlib.Core.Bool.{Bool, true, false, not, ◌||◌, false≢true}
use mathlib.Core.List.{List, [], ◌∷◌, ◌++◌, flatten, append-nil}
use mathlib.Core.Option.{Option, some, none, some-injective}
use mathlib.Core.Path.{◌≡◌, refl, sym, ap, ◌∙◌}
use Prim.Native.Nat.{ℕ, zero, suc, ◌+◌, ◌-◌, ◌≤◌, ◌<◌}
use native.Mathlib.Nat.{zero-add, suc-add}
use native.Mathlib.Omega.{arith}
use lib.Dec.{ltb}
use lib.ListN.{length, length-append, get_elem?, take}
use borrow.Author.Tests.{ltb-true, ltb-false}
use Rattle.utf8.specs.Utf8.{well_formed}
use Rattle.rules.specs.Base.{null, contains, same}
use Rattle.rules.specs.Outcome.{Outcome, ok, refused, fault, ◌>>=◌}
use Rattle.rules.specs.Accept.{Letters}
use Rattle.rules.specs.Split.{Item, Short, Long, ArgWord, Word, PosWord, short, long, Parts, split_os_argument}
use Rattle.rules.specs.Split.{Letter, Cluster, single, all_flags, argument_letter, withdrawn, ambiguous, pick_letter, look_up}
use Rattle.rules.specs.Split.{disambiguate_short, flag_items, argument_items, cluster_items, ambiguous_at, Group, plain, cluster_group, short_group}
use Rattle.rules.specs.Split.{long_group, parts_group, word_group, split_argument, Split, positionals, joined, split_from, items_of}
use Rattle.rules.specs.Demands.{All, has_marker}
use Rattle.rules.specs.Why.{argument_at}
use Rattle.rules.specs.WhyAnswered.{adjacent_short, behind_adjacent, Withdrawals}
use Rattle.rules.proofs.Places.{if_elim}
use Rattle.rules.proofs.SplitLaws.{letter_ok, cluster_ok, some≢none, parts_cases, same_true, dashes, argument_grouped, groups_few, ok_injective, same_self}
use Rattle.rules.proofs.Acceptance.{All-map}
use Rattle.rules.proofs.CommandLaws.{lookup_behind}
use Rattle.rules.proofs.ArgumentNames.{LetterOf, letters_of_lem, NameShape, short_parts, shape_parts, parts_shape}
use Rattle.rules.proofs.WithdrawLaws.{cluster_name, has_unknown, stopped, flags_withdrawn, plain_items, word_withdrawn, withdrawn_word}

-- ---- the items of one argument
module _ (l : Letters) (os : List ℕ) where
  -- behind an adjacent Short a Word is shorter than its argument; elsewhere it is all of it
  abbrev WordIs : List ℕ → Bool → Type 0
  WordIs t true = length t < length os
  WordIs t false = (t ≡ os) × (split_argument l os ≡ ok (plain (Word os ∷ [])))

  abbrev ItemIs : Item → Bool → Type 0
  ItemIs (Short c a t) b = Unit {0}
  ItemIs (Long n a t) b = Unit {0}
  ItemIs (ArgWord t) b = Unit {0}
  ItemIs (Word t) b = WordIs t b
  ItemIs (PosWord t) b = Unit {0}

  -- behind an item that is an adjacent Short or not; the last one is not
  abbrev ItemsAre : Bool → List Item → Type 0
  ItemsAre b [] = b ≡ false
  ItemsAre b (y ∷ is) = ItemIs y b × ItemsAre (adjacent_short y) is

  flags_are : (t cs : List ℕ) (is : List Item) → ItemsAre false is → ItemsAre false (flag_items t cs ++ is)
  unfolding flag_items adjacent_short
  flags_are t [] is h = h
  flags_are t (c ∷ cs) is h = (tt, flags_are [] cs is h)

  argument_are : (c : ℕ) (rest : List ℕ) → length rest < length os → ItemsAre false (argument_items os c rest)
  unfolding argument_items adjacent_short null
  argument_are c [] h = (tt, refl)
  argument_are c (b ∷ rest) h = (tt, (h, refl))

  -- the rest behind a letter of a name is shorter than the argument
  abbrev LetterBelow : Letter → Type 0
  LetterBelow x = length x.rest < length os

  letters_below : (name : List ℕ) → length name < length os → (ls : List Letter) → All (LetterOf name) ls → All LetterBelow ls
  letters_below name less ls h = All-map (LetterOf name) LetterBelow (λ x z. omega (arith, z.fewer)) ls h

  abbrev RestBelow : Cluster → Type 0
  RestBelow (single c) = Unit {0}
  RestBelow (all_flags cs) = Unit {0}
  RestBelow (argument_letter cs c rest) = length rest < length os
  RestBelow (withdrawn k) = Unit {0}
  RestBelow (ambiguous cs) = Unit {0}

  look_below : (before : List ℕ) (ls : List Letter) → All LetterBelow ls → RestBelow (look_up l before ls)
  unfolding look_up pick_letter
  look_below before [] h = tt
  look_below before (x ∷ ls) h =
      go (contains l.flags x.character) (contains l.arguments x.character) (look_below (before ++ (x.character ∷ [])) ls h.1)
    where
      go :
          (f a : Bool)
          → RestBelow (look_up l (before ++ (x.character ∷ [])) ls)
          → RestBelow (pick_letter f a
          (look_up l (before ++ (x.character ∷ [])) ls)
          (argument_letter before x.character x.rest)
          (withdrawn x.place)
          (ambiguous before))
      go true true later = tt
      go true false later = later
      go false true later = h.0
      go false false later = tt

  cluster_below : (ls : List Letter) → All LetterBelow ls → RestBelow (disambiguate_short l ls)
  unfolding disambiguate_short
  cluster_below [] h = tt
  cluster_below (x ∷ ls) h = if_elim RestBelow (null x.rest) (single x.character) (look_up l [] (x ∷ ls)) (λ z. tt) (λ z. look_below [] (x ∷ ls) h)

  cluster_are :
      (c : Cluster)
      → RestBelow c
      → split_argument l os ≡ ok (cluster_group os c)
      → ambiguous_at c ≡ none
      → ItemsAre false (cluster_items os c)
  unfolding cluster_group cluster_items ambiguous_at plain adjacent_short
  cluster_are (single c) h e a = (tt, refl)
  cluster_are (all_flags cs) h e a = rw (← append-nil (flag_items os cs)) (flags_are os cs [] refl)
  cluster_are (argument_letter cs c rest) h e a = flags_are os cs (argument_items os c rest) (argument_are c rest h)
  cluster_are (withdrawn k) h e a = ((refl, e), refl)
  cluster_are (ambiguous cs) h e a = absurd (some≢none a)

  -- and so with the items of an argument, if no letter is ambiguous
  abbrev GroupIs : Outcome Group → Type 0
  GroupIs (ok g) = split_argument l os ≡ ok g → g.ambiguous ≡ none → ItemsAre false g.items
  GroupIs (refused e) = Unit {0}
  GroupIs (fault e) = Unit {0}

  word_are : GroupIs (ok (word_group os))
  unfolding word_group plain adjacent_short
  word_are = if_elim (λ (g : Group). GroupIs (ok g)) (same os dashes) _ _ (λ h e a. (tt, refl)) (λ h e a. ((refl, e), refl))

  long_are : (n : List ℕ) (body : Option (List ℕ)) → GroupIs (ok (long_group os n body))
  unfolding long_group plain adjacent_short
  long_are n none e a = (tt, refl)
  long_are n (some v) e a = (tt, (tt, refl))

  short_are :
      (b : ℕ) (s : List ℕ) (body : Option (List ℕ))
      → well_formed (b ∷ s) ≡ true
      → (body ≡ none → length (b ∷ s) < length os)
      → GroupIs (short_group l os (b ∷ s) body)
  unfolding short_group cluster_group well_formed plain adjacent_short ◌>>=◌
  short_are b s none w h =
      let x = cluster_ok 0 0 (b ∷ s) w in
      let below = letters_below (b ∷ s) (h refl) x.0 (letters_of_lem (b ∷ s) x.0 w x.1) in
      rw x.1 (cluster_are (disambiguate_short l x.0) (cluster_below x.0 below))
  short_are b s (some v) w h = let x = letter_ok b s w in rw (x.1, short_group) (λ e a. (tt, (tt, refl)))

  name_below : (name : List ℕ) → NameShape os name → length name < length os
  name_below name h = let n = ap length h.all in let m = ap length h.bytes in omega arith

  group_are : GroupIs (split_argument l os)
  unfolding split_argument parts_group ◌>>=◌
  group_are = parts_cases Given (λ e. rw (e, split_argument) word_are) longs shorts os refl
    where
      Given : Outcome (Option Parts) → Type 0
      Given x = split_os_argument os ≡ x → GroupIs (split_argument l os)

      longs : (n : List ℕ) (body : Option (List ℕ)) → Given (ok (some (record { type = long; name = n; body = body })))
      longs n body e = rw (e, split_argument) (long_are n body)

      shorts :
          (b : ℕ) (s : List ℕ) (body : Option (List ℕ))
          → well_formed (b ∷ s) ≡ true
          → Given (ok (some (record { type = short; name = b ∷ s; body = body })))
      shorts b s body w e = rw (e, split_argument) (short_are b s body w (λ h. name_below (b ∷ s) (parts_shape os (b ∷ s) (rw h at e))))

-- ---- the arguments of a line
-- the items of one argument, and of the others behind it
pub record Cut (l : Letters) (k : ℕ) (os : List ℕ) (rest : List (List ℕ)) (x : Split) : Type 0 where
  pub group : Group
  pub split : split_argument l os ≡ ok group
  pub clear : group.ambiguous ≡ none
  pub others : List (List Item)
  pub groups : x.groups ≡ group.items ∷ others
  pub after : same os dashes ≡ true → others ≡ positionals rest
  pub before :
      same os dashes ≡ false
      → (y : Split) × (split_from l (k + length group.items) rest ≡ ok y) × (y.ambiguous ≡ none) × (others ≡ y.groups)

module _ (l : Letters) (k : ℕ) (os : List ℕ) (rest : List (List ℕ)) (x : Split) (clear : x.ambiguous ≡ none) where
  joined_cut :
      (is : List Item) (a : Option ℕ) (m : Bool) (others : Outcome Split)
      → split_argument l os ≡ ok (record { items = is; ambiguous = a; marker = m })
      → m ≡ same os dashes
      → split_from l (k + length is) rest ≡ others
      → joined k (record { items = is; ambiguous = a; marker = m }) rest others ≡ ok x
      → Cut l k os rest x
  unfolding joined ◌>>=◌
  joined_cut is (some i) m others g h o e = absurd (some≢none (ap (λ (y : Split). y.ambiguous) (ok_injective e) ∙ clear))
  joined_cut is none true others g h o e = record {
    group = _;
    split = g;
    clear = refl;
    others = positionals rest;
    groups = ap (λ (y : Split). y.groups) (sym (ok_injective e));
    after = λ z. refl;
    before = λ z. absurd (false≢true (sym z ∙ sym h));
  }
  joined_cut is none false (ok y) g h o e = record {
    group = _;
    split = g;
    clear = refl;
    others = y.groups;
    groups = ap (λ (z : Split). z.groups) (sym (ok_injective e));
    after = λ z. absurd (false≢true (h ∙ z));
    before = λ z. (y, o, ap (λ (z : Split). z.ambiguous) (ok_injective e) ∙ clear, refl);
  }
  joined_cut is none false (refused r) g h o e = absurd (let z : ◌≡◌ {A = ℕ} 0 1 = cc in omega arith)
  joined_cut is none false (fault r) g h o e = absurd (let z : ◌≡◌ {A = ℕ} 0 1 = cc in omega arith)

  pub cut : split_from l k (os ∷ rest) ≡ ok x → Cut l k os rest x
  unfolding split_from ◌>>=◌
  cut e =
      let g = argument_grouped l os in
      let is = g.group.items in
      joined_cut is g.group.ambiguous g.group.marker (split_from l (k + length is) rest) g.same g.marker refl (rw g.same at e)

-- so it is with the items of each argument
abbrev LineIs : Letters → List (List ℕ) → List (List Item) → Type 0
LineIs l [] [] = Unit {0}
LineIs l [] (g ∷ gs) = ⊥
LineIs l (os ∷ rest) [] = ⊥
LineIs l (os ∷ rest) (g ∷ gs) = ItemsAre l os false g × LineIs l rest gs

positionals_are : (l : Letters) (rest : List (List ℕ)) → LineIs l rest (positionals rest)
unfolding positionals adjacent_short
positionals_are l [] = tt
positionals_are l (os ∷ rest) = ((tt, refl), positionals_are l rest)

line_is : (l : Letters) (k : ℕ) (args : List (List ℕ)) (x : Split) → split_from l k args ≡ ok x → x.ambiguous ≡ none → LineIs l args x.groups
unfolding split_from
line_is l k [] x e clear = rw (← ok_injective e) tt
line_is l k (os ∷ rest) x e clear =
    let c = cut l k os rest x clear e in
    let items : ItemsAre l os false c.group.items = (rw c.split at (group_are l os)) c.split c.clear in
    rw c.groups (items, go c (same os dashes) refl (λ y. line_is l (k + length c.group.items) rest y))
  where
    go :
        (c : Cut l k os rest x) (t : Bool)
        → same os dashes ≡ t
        → ((y : Split) → split_from l (k + length c.group.items) rest ≡ ok y → y.ambiguous ≡ none → LineIs l rest y.groups)
        → LineIs l rest c.others
    go c true h later = rw (c.after h) (positionals_are l rest)
    go c false h later = let y = c.before h in rw y.3 (later y.0 y.1 y.2)

-- ---- the items of a line
-- as behind_adjacent, behind an item that is an adjacent Short or not
behind_from : Bool → List Item → ℕ → Bool
behind_from b is zero = b
behind_from b is (suc k) = behind_adjacent is (suc k)

behind_none : (is : List Item) (i : ℕ) → behind_from false is i ≡ behind_adjacent is i
unfolding behind_from behind_adjacent
behind_none is zero = refl
behind_none is (suc k) = refl

behind_step : (b : Bool) (y : Item) (is : List Item) (i : ℕ) → behind_from b (y ∷ is) (suc i) ≡ behind_from (adjacent_short y) is i
unfolding behind_from behind_adjacent
behind_step b y is zero = refl
behind_step b y is (suc k) = refl

module _ (l : Letters) (os : List ℕ) (more : List Item) where
  inside :
      (b : Bool) (is : List Item) (i : ℕ) (y : Item)
      → ItemsAre l os b is
      → i < length is
      → get_elem? (is ++ more) i ≡ some y
      → ItemIs l os y (behind_from b (is ++ more) i)
  unfolding behind_from
  inside b [] i y h k e = absurd (omega arith)
  inside b (x ∷ is) zero y h k e = rw (some-injective x y e) at h.0
  inside b (x ∷ is) (suc i) y h k e = rw (behind_step b x (is ++ more) i) (inside (adjacent_short x) is i y h.1 (omega arith) e)

  -- past these items nothing of them counts
  beyond : (b : Bool) (is : List Item) (j : ℕ) → ItemsAre l os b is → behind_from b (is ++ more) (length is + j) ≡ behind_from false more j
  beyond b [] j h = rw (zero-add j, h)
  beyond b (x ∷ is) j h = rw (suc-add (length is) j, behind_step b x (is ++ more) (length is + j)) (beyond (adjacent_short x) is j h.1)

  later :
      (is : List Item) (i : ℕ) (y : Item)
      → ItemsAre l os false is
      → length is ≤ i
      → get_elem? (is ++ more) i ≡ some y
      → (get_elem? more (i - length is) ≡ some y) × (behind_from false (is ++ more) i ≡ behind_from false more (i - length is))
  later is i y h over e =
      let j = i - length is in
      let back : length is + j ≡ i = omega arith in
      let there = sym (lookup_behind is more j) ∙ ap (get_elem? (is ++ more)) back ∙ e in
      (there, ap (behind_from false (is ++ more)) (sym back) ∙ beyond false is j h)

item_is :
    (l : Letters) (args : List (List ℕ)) (gs : List (List Item)) (i : ℕ) (os : List ℕ) (y : Item)
    → LineIs l args gs
    → get_elem? (flatten gs) i ≡ some y
    → argument_at args gs i ≡ some os
    → ItemIs l os y (behind_from false (flatten gs) i)
unfolding argument_at flatten
item_is l [] gs i os y h e a = absurd (some≢none (sym a))
item_is l (o ∷ rest) [] i os y h e a = absurd (some≢none (sym a))
item_is l (o ∷ rest) (g ∷ gs) i os y h e a =
    if_elim (λ (t : Option (List ℕ)). t ≡ some os → ItemIs l os y (behind_from false (g ++ flatten gs) i))
    (ltb i (length g)) (some o) (argument_at rest gs (i - length g))
    (λ t f. rw (some-injective o os f) at (inside l o (flatten gs) false g i y h.0 (ltb-true i (length g) t) e))
    (λ t f. let x = later l o (flatten gs) g i y h.0 (ltb-false i (length g) t) e in rw x.1 (item_is l rest gs _ os y h.1 x.0 f))
    a

argument_at_lem :
    (args : List (List ℕ)) (gs : List (List Item)) (i : ℕ)
    → length gs ≤ length args
    → i < length (flatten gs)
    → (os : List ℕ) × (argument_at args gs i ≡ some os)
unfolding argument_at flatten
argument_at_lem args [] i h k = absurd (omega arith)
argument_at_lem [] (g ∷ gs) i h k = absurd (omega arith)
argument_at_lem (os ∷ rest) (g ∷ gs) i h k =
    if_elim (λ (t : Option (List ℕ)). (o : List ℕ) × (t ≡ some o)) (ltb i (length g)) (some os) (argument_at rest gs (i - length g))
    (λ t. (os, refl))
    (λ t. argument_at_lem rest gs (i - length g) (omega arith) (omega (arith, ltb-false i (length g) t, length-append g (flatten gs))))

pub argument_there :
    (l : Letters) (args : List (List ℕ)) (x : Split) (i : ℕ)
    → split_from l 0 args ≡ ok x
    → x.ambiguous ≡ none
    → i < length (items_of x)
    → (os : List ℕ) × (argument_at args x.groups i ≡ some os)
unfolding items_of
argument_there l args x i e clear h = argument_at_lem args x.groups i (groups_few l 0 args x e) h

module _ (l : Letters) (args : List (List ℕ)) (x : Split) (i : ℕ) (t os : List ℕ) where
  word_at_lem :
      split_from l 0 args ≡ ok x
      → x.ambiguous ≡ none
      → get_elem? (items_of x) i ≡ some (Word t)
      → argument_at args x.groups i ≡ some os
      → WordIs l os t (behind_adjacent (items_of x) i)
  unfolding items_of
  word_at_lem e clear here a = rw (← behind_none (items_of x) i) (item_is l args x.groups i os (Word t) (line_is l 0 args x e clear) here a)

  -- the rest of a cluster is no whole argument, and it alone stands behind an adjacent Short
  pub rest_not_whole :
      split_from l 0 args ≡ ok x
      → x.ambiguous ≡ none
      → get_elem? (items_of x) i ≡ some (Word t)
      → argument_at args x.groups i ≡ some os
      → behind_adjacent (items_of x) i ≡ true
      → same t os ≡ false
  rest_not_whole e clear here a b = go (same t os) refl (rw b at (word_at_lem e clear here a))
    where
      go : (r : Bool) → same t os ≡ r → length t < length os → r ≡ false
      go true h less = let n = ap length (same_true t os h) in absurd (omega arith)
      go false h less = refl

  pub word_whole :
      split_from l 0 args ≡ ok x
      → x.ambiguous ≡ none
      → get_elem? (items_of x) i ≡ some (Word t)
      → argument_at args x.groups i ≡ some os
      → behind_adjacent (items_of x) i ≡ false
      → (t ≡ os) × (split_argument l os ≡ ok (plain (Word os ∷ [])))
  word_whole e clear here a b = rw b at (word_at_lem e clear here a)

-- ---- what is withdrawn
or_neither : (a b : Bool) → a || b ≡ false → (a ≡ false) × (b ≡ false)
or_neither true b e = absurd (false≢true (sym e))
or_neither false b e = (refl, e)

-- an argument before the first `--` is split by itself
pub group_there :
    (l : Letters) (k : ℕ) (args : List (List ℕ)) (x : Split) (j : ℕ) (os : List ℕ)
    → split_from l k args ≡ ok x
    → x.ambiguous ≡ none
    → get_elem? args j ≡ some os
    → has_marker (take j args) ≡ false
    → (g : Group) × (split_argument l os ≡ ok g) × (g.ambiguous ≡ none) × (get_elem? x.groups j ≡ some g.items)
unfolding has_marker
group_there l k [] x j os e clear a free = absurd (some≢none (sym a))
group_there l k (o ∷ rest) x zero os e clear a free =
    let c = cut l k o rest x clear e in
    (c.group, ap (split_argument l) (sym (some-injective o os a)) ∙ c.split, c.clear, ap (λ (gs : List (List Item)). get_elem? gs 0) c.groups)
group_there l k (o ∷ rest) x (suc j) os e clear a free =
    let c = cut l k o rest x clear e in
    let both = or_neither (same o dashes) (has_marker (take j rest)) free in
    let y = c.before both.0 in
    rw (c.groups, y.3) (group_there l (k + length c.group.items) rest y.0 j os y.1 y.2 a both.1)

-- and may be one Word
pub word_there :
    (l : Letters) (k : ℕ) (args : List (List ℕ)) (x : Split) (j : ℕ) (os : List ℕ)
    → split_from l k args ≡ ok x
    → x.ambiguous ≡ none
    → get_elem? args j ≡ some os
    → has_marker (take j args) ≡ false
    → split_argument l os ≡ ok (plain (Word os ∷ []))
    → get_elem? x.groups j ≡ some (Word os ∷ [])
word_there l k args x j os e clear a free w =
    let (g, split, _, there) = group_there l k args x j os e clear a free in
    there ∙ ap some (plain_items g (Word os ∷ []) (sym split ∙ w))

whole_word : (l : Letters) (os : List ℕ) (b : Bool) → WordIs l os os b → split_argument l os ≡ ok (plain (Word os ∷ []))
whole_word l os true h = absurd (omega arith)
whole_word l os false h = h.1

part_of :
    (l : Letters) (args : List (List ℕ)) (x : Split) (i : ℕ) (t os : List ℕ)
    → split_from l 0 args ≡ ok x
    → x.ambiguous ≡ none
    → get_elem? (items_of x) i ≡ some (Word t)
    → argument_at args x.groups i ≡ some os
    → (b : Bool)
    → behind_adjacent (items_of x) i ≡ b
    → same t os ≡ not b
part_of l args x i t os e clear here a true h = rest_not_whole l args x i t os e clear here a h
part_of l args x i t os e clear here a false h = let w : t ≡ os = (word_whole l args x i t os e clear here a h).0 in rw w (same_self os)

pub withdrawals : Withdrawals
withdrawals = record {
  withdraws = flags_withdrawn;
  exactly = λ l os w. (stopped l os w).flags;
  word = λ l args x k os e clear a free w. word_there l 0 args x k os e clear a free (withdrawn_word l os w);
  whole = λ l args x i os e clear here a.
      let word = whole_word l os (behind_adjacent (items_of x) i) (word_at_lem l args x i os os e clear here a) in (
        λ c h.
            let name = h.shape.first ∷ h.shape.more in
            word_withdrawn l os (short_parts name) word (shape_parts os name (cluster_name os h.letters h.shape)),
        λ w. let flags = (stopped l os w).flags in (flags.character, has_unknown l os flags),
      );
  part = λ l args x i t os e clear here a. part_of l args x i t os e clear here a (behind_adjacent (items_of x) i) refl;
}
