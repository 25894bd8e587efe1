-- The reason given for a place that is left over holds, and none before it does.
use mathlib.Core.Bool.{Bool, true, false, not, ◌&&◌, ◌||◌, true≢false, false≢true}
use mathlib.Core.List.{List, [], ◌∷◌, reverse}
use mathlib.Core.Logic.{◌⊎◌, inl, inr, ⊎_elim}
use mathlib.Core.Option.{Option, some, none, some-injective}
use mathlib.Core.Path.{◌≡◌, refl, sym, ap, ap₂, subst, ◌∙◌}
use Prim.Native.Nat.{ℕ, zero, suc, ◌+◌, ◌-◌, ◌≤◌, ◌<◌}
use native.Mathlib.Nat.{le_refl, not-suc-le-zero, le_of_suc-le-suc, eq-or-lt_of_le}
use native.Mathlib.Omega.{arith}
use borrow.Author.Tests.{eq-eqb, ne_eqb, eqb-true, eqb-false, le-leb, lt-leb, leb-true, leb-false, not-true}
use lib.Dec.{leb, eqb}
use lib.ListN.{length, take, get_elem?}
use Rattle.std.specs.Prelude.{if◌then◌else◌}
use Rattle.rules.specs.Base.{all, same, contains, minus, ◌>>?◌}
use Rattle.rules.specs.Outcome.{Outcome, ok, refused, fault, at, ◌>>=◌}
use Rattle.rules.specs.Sheet.{arguments}
use Rattle.rules.specs.Form.{Node, Form, read_form}
use Rattle.rules.specs.Tree.{Named, named_of}
use Rattle.rules.specs.Accept.{Letters, letters_of}
use Rattle.rules.specs.Split.{Item, Short, Long, ArgWord, Word, PosWord, Letter, cluster_from, items_of}
use Rattle.rules.specs.State.{marker_mark, parsed, present_at, winner, match_short, match_long, position, before, only_once}
use Rattle.rules.specs.Take.{matches_arg, is_operand}
use Rattle.rules.specs.Run.{Report, run}
use Rattle.rules.specs.Why.{Reason, lost_choice, given_earlier, key_used, unnamed, no_positional, unknown_letter, none_of_these, reason_code}
use Rattle.rules.specs.Why.{LeftPlace, line_items, winner_of, is_arg_word, used_before, names_item, is_name, is_unnamed, no_positionals}
use Rattle.rules.specs.Why.{argument_at, is_whole, dashed_name, cluster_letters, first_unknown, unknown_in, first_reason, reason_at}
use Rattle.rules.specs.Why.{left_place, refused_before, explain, why}
use Rattle.rules.specs.WhyAnswered.{same_named, LostTo, SameName, shorts, longs, GivenBefore, KeyIsUsed, NobodyNames, NobodyTakes}
use Rattle.rules.specs.WhyAnswered.{ClusterShape, UnknownBehind, KnownLetter, WordUnknown, ReasonHolds, WhyAnswered}
use Rattle.rules.proofs.Places.{if_elim, at_below}
use Rattle.rules.proofs.Acceptance.{if_some, if_not_some, bind_some, bind_is, and-true, both, lookup_inside, All-at, all_true}
use Rattle.rules.proofs.WellMadeLaws.{one_of_two}
use Rattle.rules.proofs.SplitLaws.{some≢none, same_true, ok_injective, same_self}
use Rattle.rules.proofs.FaultsTell.{same_number}
use Rattle.rules.proofs.Demand1Holds.{demand1}
use Rattle.rules.proofs.OnceLaws.{back_more, once_searches}
use Rattle.rules.proofs.ArgumentNames.{name_shape}
use Rattle.rules.proofs.WithdrawLaws.{at_least_two, unknown_cluster}
use Rattle.rules.proofs.WhyLaws.{LeftOver, left_over_lem, earlier_ok, marks_present}

-- ---- the first of the reasons whose tests tell them
-- what the tests answer
record Tests : Type 0 where
  winner : Option ℕ
  earlier : Option ℕ
  key : Bool
  name : Bool
  operand : Bool
  letter : Option ℕ

abbrev Told : Tests → Reason → Type 0
Told t (lost_choice w) = t.winner ≡ some w
Told t (given_earlier j) = t.earlier ≡ some j
Told t key_used = t.key ≡ true
Told t unnamed = t.name ≡ true
Told t no_positional = t.operand ≡ true
Told t (unknown_letter c) = t.letter ≡ some c
Told t none_of_these = Unit {0}

abbrev tests_of : LeftPlace → Item → Option ℕ → Tests
tests_of x y earlier = record {
  winner = winner_of x;
  earlier = earlier;
  key = is_arg_word y && used_before x.marks x.place;
  name = is_unnamed x.form y;
  operand = is_operand y && no_positionals x.form;
  letter = unknown_in x y;
}

-- what holds of a reason that a lookup gives, and of the one behind it
some_elim :
    (P : Reason → Type 0) (o : Option ℕ) (f : ℕ → Reason) (q : Reason)
    → ((k : ℕ) → o ≡ some k → P (f k))
    → (o ≡ none → P q)
    → P (elim o [ some k ↦ f k | none ↦ q ])
some_elim P (some k) f q h g = h k refl
some_elim P none f q h g = g refl

module _ (x : LeftPlace) (y : Item) (earlier : Option ℕ) where
  abbrev tests : Tests
  tests = tests_of x y earlier

  first_told : Told tests (first_reason x y earlier)
  unfolding first_reason
  first_told =
      some_elim (Told tests) (winner_of x) lost_choice _ (λ k h. h) (λ _.
      some_elim (Told tests) earlier given_earlier _ (λ k h. h) (λ _.
      if_elim (Told tests) tests.key key_used _ (λ h. h) (λ _.
      if_elim (Told tests) tests.name unnamed _ (λ h. h) (λ _.
      if_elim (Told tests) tests.operand no_positional _ (λ h. h) (λ _.
      some_elim (Told tests) (unknown_in x y) unknown_letter none_of_these (λ k h. h) (λ _. tt))))))

  -- what is told does not come before it
  module _ (n : ℕ) where
    abbrev Within : Reason → Type 0
    Within q = reason_code q ≤ n

    past_two :
        2 ≤ n
        → (q : Reason)
        → Within q
        → Within (elim (winner_of x) [ some k ↦ lost_choice k | none ↦ elim earlier [ some j ↦ given_earlier j | none ↦ q ] ])
    unfolding reason_code
    past_two h q g = some_elim Within (winner_of x) lost_choice _ (λ _ _. omega arith) (λ _. some_elim Within earlier given_earlier q (λ _ _. h) (λ _. g))

    past : (b : Bool) (p q : Reason) → Within p → Within q → Within (if b then p else q)
    past b p q h g = if_elim Within b p q (λ _. h) (λ _. g)

    past_three :
        5 ≤ n
        → (q : Reason)
        → Within q
        → Within (if tests.key then key_used else (if tests.name then unnamed else (if tests.operand then no_positional else q)))
    unfolding reason_code
    past_three h q g =
        past tests.key key_used _ (omega arith) (past tests.name unnamed _ (omega arith) (past tests.operand no_positional q h g))

  -- where a test tells, nothing behind it counts
  stops : (b : Bool) (p q : Reason) → b ≡ true → reason_code (if b then p else q) ≤ reason_code p
  stops b p q e = if_elim (Within (reason_code p)) b p q (λ _. le_refl (reason_code p)) (λ z. absurd (true≢false (sym e ∙ z)))

  stops_some :
      (o : Option ℕ) (f : ℕ → Reason) (q : Reason) (n k : ℕ)
      → ((j : ℕ) → reason_code (f j) ≤ n)
      → o ≡ some k
      → reason_code (elim o [ some k ↦ f k | none ↦ q ]) ≤ n
  stops_some o f q n k h e = some_elim (Within n) o f q (λ j _. h j) (λ z. absurd (some≢none (sym e ∙ z)))

  told_first : (p : Reason) → Told tests p → reason_code (first_reason x y earlier) ≤ reason_code p
  unfolding first_reason reason_code
  told_first (lost_choice w) e = stops_some (winner_of x) lost_choice _ 1 w (λ _. le_refl 1) e
  told_first (given_earlier j) e =
      some_elim (Within 2) (winner_of x) lost_choice _ (λ _ _. omega arith) (λ _. stops_some earlier given_earlier _ 2 j (λ _. le_refl 2) e)
  told_first key_used e = past_two 3 (omega arith) _ (stops tests.key key_used _ e)
  told_first unnamed e = past_two 4 (omega arith) _ (past 4 tests.key key_used _ (omega arith) (stops tests.name unnamed _ e))
  told_first no_positional e =
      past_two 5 (omega arith) _
      (past 5 tests.key key_used _ (omega arith) (past 5 tests.name unnamed _ (omega arith) (stops tests.operand no_positional _ e)))
  told_first (unknown_letter c) e =
      past_two 6 (omega arith) _ (past_three 6 (omega arith) _ (stops_some (unknown_in x y) unknown_letter none_of_these 6 c (λ _. le_refl 6) e))
  told_first none_of_these e =
      past_two 7 (omega arith) _
      (past_three 7 (omega arith) _ (some_elim (Within 7) (unknown_in x y) unknown_letter none_of_these (λ _ _. omega arith) (λ _. le_refl 7)))

-- ---- 1: a winner
lost_told : (x : LeftPlace) (w : ℕ) → winner_of x ≡ some w → LostTo x w
unfolding winner_of winner parsed minus
lost_told x w e =
    let (m, there, h) = bind_some (get_elem? x.marks x.place) winner e in
    let (low, rest) = if_not_some (leb marker_mark m) (minus m 2) h in
    let (two, left) = if_some (leb 2 m) (some (m - 2)) rest in
    let same = some-injective (m - 2) w left in
    let is : m ≡ 2 + w = omega (arith, leb-true 2 m two, same) in
    record { mark = there ∙ ap some is; conflict = omega (arith, leb-false marker_mark m low, is) }

lost_holds : (x : LeftPlace) (w : ℕ) → LostTo x w → winner_of x ≡ some w
unfolding winner_of winner parsed minus
lost_holds x w h =
    let back : 2 + w - 2 ≡ w = omega arith in
    bind_is (get_elem? x.marks x.place) winner h.mark ∙ rw (lt-leb marker_mark (2 + w) h.conflict, le-leb 2 (2 + w) (omega arith), back)

-- ---- 2: the same name
name_told : (y z : Item) → same_named y z ≡ true → SameName y z
unfolding same_named match_short match_long
name_told (Short c a t) (Short d b u) e = rw (eqb-true d c e) (shorts c a b t u)
name_told (Short c a t) (Long n b u) e = absurd (false≢true e)
name_told (Short c a t) (ArgWord u) e = absurd (false≢true e)
name_told (Short c a t) (Word u) e = absurd (false≢true e)
name_told (Short c a t) (PosWord u) e = absurd (false≢true e)
name_told (Long n a t) (Short d b u) e = absurd (false≢true e)
name_told (Long n a t) (Long m b u) e = rw (same_true m n e) (longs n a b t u)
name_told (Long n a t) (ArgWord u) e = absurd (false≢true e)
name_told (Long n a t) (Word u) e = absurd (false≢true e)
name_told (Long n a t) (PosWord u) e = absurd (false≢true e)
name_told (ArgWord t) z e = absurd (false≢true e)
name_told (Word t) z e = absurd (false≢true e)
name_told (PosWord t) z e = absurd (false≢true e)

name_holds : (y z : Item) → SameName y z → same_named y z ≡ true
unfolding same_named match_short match_long
name_holds y z (shorts c a b t u) = eq-eqb c c refl
name_holds y z (longs n a b t u) = same_self n

module _ (test : Item → Bool) (is : List Item) where
  -- the nearest place below i whose item passes
  record Nearest (i j : ℕ) : Type 0 where
    before : j < i
    item : Item
    there : get_elem? is j ≡ some item
    passes : test item ≡ true
    nearest : (k : ℕ) (z : Item) → j < k → k < i → get_elem? is k ≡ some z → test z ≡ false

  -- what a search back from place i, counted from k on, tells
  abbrev Searched : ℕ → ℕ → Option ℕ → Type 0
  Searched i k none = (j : ℕ) (z : Item) → j < i → get_elem? is j ≡ some z → test z ≡ false
  Searched i k (some d) = (j : ℕ) × (suc (d + j) ≡ k + i) × Nearest i j

  -- one more place that does not pass
  fails_more : (i : ℕ) (x : Item) (P : ℕ → Type 0) → get_elem? is i ≡ some x → test x ≡ false
      → ((j : ℕ) (z : Item) → P j → j < i → get_elem? is j ≡ some z → test z ≡ false)
      → (j : ℕ) (z : Item) → P j → j < suc i → get_elem? is j ≡ some z → test z ≡ false
  fails_more i x P at f h j z p l e =
      ⊎_elim (λ (s : j ≡ i). ap test (some-injective z x (sym e ∙ ap (get_elem? is) s ∙ at)) ∙ f) (λ (s : j < i). h j z p s e)
      (eq-or-lt_of_le (le_of_suc-le-suc l))

  search_step : (i k : ℕ) (x : Item) → get_elem? is i ≡ some x → (b : Bool) → test x ≡ b → (o : Option ℕ)
      → Searched i (suc k) o
      → Searched (suc i) k (if b then some k else o)
  search_step i k x at true p o h =
      (i, omega arith, record { before = omega arith; item = x; there = at; passes = p; nearest = λ m z a b e. absurd (omega (arith, a, b)) })
  search_step i k x at false p none h = λ j z l e. fails_more i x (λ _. Unit {0}) at p (λ j z _ l e. h j z l e) j z tt l e
  search_step i k x at false p (some d) h =
      let (j, sum, n) = h in (
        j,
        omega (arith, sum),
        record {
          before = omega (arith, n.before);
          item = n.item;
          there = n.there;
          passes = n.passes;
          nearest = λ m z a b e. fails_more i x (λ m. j < m) at p (λ m z a b e. n.nearest m z a b e) m z a b e;
        },
      )

  searched : (i k : ℕ) → i ≤ length is → Searched i k (position test k (reverse (take i is)))
  unfolding position
  searched zero k h = λ j z l e. absurd (not-suc-le-zero l)
  searched (suc i) k h =
      let (x, at) = at_below is i h in
      rw (back_more is i x at) (search_step i k x at (test x) refl (position test (suc k) (reverse (take i is))) (searched i (suc k) (omega arith)))

module _ (is : List Item) (i : ℕ) (y : Item) (here : get_elem? is i ≡ some y) where
  -- what the place that it tells is
  abbrev Earlier : Option ℕ → Type 0
  Earlier none = (j : ℕ) (z : Item) → j < i → get_elem? is j ≡ some z → SameName y z → ⊥
  Earlier (some j) = GivenBefore is i j

  no_name : (z : Item) → same_named y z ≡ false → SameName y z → ⊥
  no_name z f s = true≢false (sym (name_holds y z s) ∙ f)

  told_before : (found : Option ℕ) → Searched (same_named y) is i 0 found → (e : Option ℕ) → before i found ≡ ok e → Earlier e
  unfolding before at minus ◌>>?◌ ◌>>=◌
  told_before none h e q = subst Earlier (ok_injective q) (λ j z l t s. no_name z (h j z l t) s)
  told_before (some d) h e q =
      let (j, sum, n) = h in
      let back : i - d - 1 ≡ j = omega (arith, sum) in
      let told : some (i - d - 1) ≡ e = ok_injective (rw (le-leb d i (omega (arith, sum)), le-leb 1 (i - d) (omega (arith, sum))) at q) in
      subst Earlier (ap some (sym back) ∙ told)
      (record {
        before = n.before;
        here = y;
        item = here;
        other = n.item;
        there = n.there;
        same = name_told y n.item n.passes;
        nearest = λ k z a b t s. no_name z (n.nearest k z a b t) s;
      })

  once_told : (e : Option ℕ) → only_once is i ≡ ok e → Earlier e
  once_told e q =
      let l = lookup_inside is i y here in
      told_before _ (searched (same_named y) is i 0 (omega arith)) e (sym (once_searches is i y here) ∙ q)

  -- the nearest is one
  given_same : (j k : ℕ) → GivenBefore is i j → GivenBefore is i k → j ≡ k
  given_same j k g h =
      let same : g.here ≡ h.here = some-injective g.here h.here (sym g.item ∙ h.item) in
      same_number j k
      (λ l. g.nearest k h.other l h.before h.there (rw same h.same))
      (λ l. h.nearest j g.other l g.before g.there (rw (← same) g.same))

  once_holds : (e : Option ℕ) → only_once is i ≡ ok e → (j : ℕ) → GivenBefore is i j → e ≡ some j
  once_holds e q j g = go e (once_told e q)
    where
      go : (e : Option ℕ) → Earlier e → e ≡ some j
      go none h =
          let is : g.here ≡ y = some-injective g.here y (sym g.item ∙ here) in
          absurd (h j g.other g.before g.there (rw is at g.same))
      go (some k) h = ap some (given_same k j h g)

-- ---- 3: a key that is used
used_told : (marks : List ℕ) (i : ℕ) → used_before marks i ≡ true → (k : ℕ) × (m : ℕ) × (i ≡ suc k) × (get_elem? marks k ≡ some m) × (parsed m ≡ true)
unfolding used_before
used_told marks zero e = absurd (false≢true e)
used_told marks (suc k) e = go (get_elem? marks k) refl e
  where
    go : (o : Option ℕ) → get_elem? marks k ≡ o → elim o [ none ↦ false | some m ↦ parsed m ] ≡ true
        → (j : ℕ) × (m : ℕ) × (suc k ≡ suc j) × (get_elem? marks j ≡ some m) × (parsed m ≡ true)
    go none h e = absurd (false≢true e)
    go (some m) h e = (k, m, refl, h, e)

used_holds : (marks : List ℕ) (i k m : ℕ) → i ≡ suc k → get_elem? marks k ≡ some m → parsed m ≡ true → used_before marks i ≡ true
unfolding used_before
used_holds marks i k m e h used = rw (e, h, used_before) used

argword_told : (y : Item) → is_arg_word y ≡ true → (t : List ℕ) × (y ≡ ArgWord t)
unfolding is_arg_word
argword_told (Short c a t) e = absurd (false≢true e)
argword_told (Long n a t) e = absurd (false≢true e)
argword_told (ArgWord t) e = (t, refl)
argword_told (Word t) e = absurd (false≢true e)
argword_told (PosWord t) e = absurd (false≢true e)

-- ---- 4 and 5: no node
module _ {A : Type 0} (p : A → Bool) where
  none_told : (l : List A) → all (λ a. not (p a)) l ≡ true → (k : ℕ) (a : A) → get_elem? l k ≡ some a → p a ≡ false
  none_told l e k a h = not-true (p a) (All-at _ l k a (all_true (λ a. not (p a)) l e) h)

  none_holds : (l : List A) → ((k : ℕ) (a : A) → get_elem? l k ≡ some a → p a ≡ false) → all (λ a. not (p a)) l ≡ true
  unfolding all
  none_holds [] h = refl
  none_holds (a ∷ l) h = both (ap not (h 0 a refl)) (none_holds l (λ k b e. h (suc k) b e))

module _ (f : Form) (y : Item) (n : Node) where
  names_told : names_item f y n ≡ false → (m : Named) → (n.kind ≡ 1) ⊎ (n.kind ≡ 2) → named_of f n ≡ some m → matches_arg m false y ≡ false
  unfolding names_item contains
  names_told e m k named =
      let kind : contains (1 ∷ 2 ∷ []) n.kind ≡ true = ⊎_elim (λ (h : n.kind ≡ 1). rw h) (λ (h : n.kind ≡ 2). rw h) k in
      sym (ap₂ (λ (b : Bool) (o : Option Named). b && elim o [ none ↦ false | some m ↦ matches_arg m false y ]) kind named) ∙ e

  names_holds : ((m : Named) → (n.kind ≡ 1) ⊎ (n.kind ≡ 2) → named_of f n ≡ some m → matches_arg m false y ≡ false) → names_item f y n ≡ false
  unfolding names_item
  names_holds h = go (contains (1 ∷ 2 ∷ []) n.kind) refl (named_of f n) refl
    where
      go : (b : Bool) → contains (1 ∷ 2 ∷ []) n.kind ≡ b → (o : Option Named) → named_of f n ≡ o
          → (b && elim o [ none ↦ false | some m ↦ matches_arg m false y ]) ≡ false
      go false e o q = refl
      go true e none q = refl
      go true e (some m) q = h m (one_of_two 1 2 n.kind e) q

-- ---- 6: a letter that is unknown
whole_told : (y : Item) (os : List ℕ) → is_whole y os ≡ true → y ≡ Word os
unfolding is_whole
whole_told (Short c a t) os e = absurd (false≢true e)
whole_told (Long n a t) os e = absurd (false≢true e)
whole_told (ArgWord t) os e = absurd (false≢true e)
whole_told (Word t) os e = ap Word (same_true t os e)
whole_told (PosWord t) os e = absurd (false≢true e)

-- its letters
two_told : (o : Outcome (List Letter)) (ls : List Letter) → at_least_two o ≡ some ls → (o ≡ ok ls) × (2 ≤ length ls)
two_told (ok xs) ls e =
    let (two, same) = if_some (leb 2 (length xs)) (some xs) e in
    let is = some-injective xs ls same in
    (ap ok is, rw (← is) (leb-true 2 (length xs) two))
two_told (refused r) ls e = absurd (some≢none (sym e))
two_told (fault r) ls e = absurd (some≢none (sym e))

shape_told : (os : List ℕ) (ls : List Letter) → cluster_letters os ≡ some ls → ClusterShape os ls
unfolding cluster_letters
shape_told os ls e =
    let (name, named, h) = bind_some (dashed_name os) (λ name. at_least_two (cluster_from 0 0 name)) e in
    let b = name_shape os name named in
    let (these, two) = two_told (cluster_from 0 0 name) ls h in
    record {
      first = b.first;
      more = b.more;
      bytes = b.bytes;
      no_dash = b.no_dash;
      utf8 = b.utf8;
      no_equals = b.no_equals;
      these = rw (← b.all) these;
      two = two;
    }

module _ (l : Letters) where
  unknown_told : (ls : List Letter) (c : ℕ) → first_unknown l ls ≡ some c → UnknownBehind l (KnownLetter l) ls c
  unfolding first_unknown
  unknown_told [] c e = absurd (some≢none (sym e))
  unknown_told (x ∷ ls) c e = go (contains l.flags x.character) refl (contains l.arguments x.character) refl (unknown_told ls c) e
    where
      later : KnownLetter l x → UnknownBehind l (KnownLetter l) ls c → UnknownBehind l (KnownLetter l) (x ∷ ls) c
      later k u = record {
        known = x ∷ u.known;
        unknown = u.unknown;
        rest = u.rest;
        these = ap (λ (ls : List Letter). x ∷ ls) u.these;
        before = (k, u.before);
        nobody = u.nobody;
        letter = u.letter;
      }

      go :
          (f : Bool) → contains l.flags x.character ≡ f
          → (a : Bool) → contains l.arguments x.character ≡ a
          → (first_unknown l ls ≡ some c → UnknownBehind l (KnownLetter l) ls c)
          → (if f || a then first_unknown l ls else some x.character) ≡ some c
          → UnknownBehind l (KnownLetter l) (x ∷ ls) c
      go true p a q rest e = later (inl p) (rest e)
      go false p true q rest e = later (inr q) (rest e)
      go false p false q rest e = record {
        known = [];
        unknown = x;
        rest = ls;
        these = refl;
        before = tt;
        nobody = record { no_flag = p; no_argument = q };
        letter = some-injective x.character c e;
      }

-- ---- every reason of an item at its place
module _ (x : LeftPlace) (y : Item) (here : get_elem? (line_items x) x.place ≡ some y) where
  -- another lookup of it
  is_here : (z : Item) → get_elem? (line_items x) x.place ≡ some z → z ≡ y
  is_here z e = some-injective z y (sym e ∙ here)

  key_told : (is_arg_word y && used_before x.marks x.place) ≡ true → KeyIsUsed x
  key_told e =
      let (word, rest) = and-true (is_arg_word y) (used_before x.marks x.place) e in
      let (t, is) = argword_told y word in
      let (k, m, before, marked, used) = used_told x.marks x.place rest in
      record { text = t; item = here ∙ ap some is; key = k; before = before; mark = m; marked = marked; used = used }

  key_holds : KeyIsUsed x → (is_arg_word y && used_before x.marks x.place) ≡ true
  unfolding is_arg_word
  key_holds h =
      both (sym (ap is_arg_word (is_here (ArgWord h.text) h.item)))
      (used_holds x.marks x.place h.key h.mark h.before h.marked h.used)

  unnamed_told : is_unnamed x.form y ≡ true → NobodyNames x
  unfolding is_unnamed
  unnamed_told e =
      let (name, rest) = and-true (is_name y) _ e in
      record {
        here = y;
        item = here;
        name = name;
        nobody = λ k n m at kind named. names_told x.form y n (none_told (names_item x.form y) x.form.nodes rest k n at) m kind named;
      }

  unnamed_holds : NobodyNames x → is_unnamed x.form y ≡ true
  unfolding is_unnamed
  unnamed_holds h =
      let is = is_here h.here h.item in
      rw (← is)
      (both h.name (none_holds (names_item x.form h.here) x.form.nodes
      (λ k n at. names_holds x.form h.here n (λ m kind named. h.nobody k n m at kind named))))

  operand_told : (is_operand y && no_positionals x.form) ≡ true → NobodyTakes x
  unfolding no_positionals
  operand_told e =
      let (operand, rest) = and-true (is_operand y) _ e in
      record {
        here = y;
        item = here;
        operand = operand;
        nobody = λ k n at kind. eqb-false n.kind 3 (none_told (λ (n : Node). eqb n.kind 3) x.form.nodes rest k n at) kind;
      }

  operand_holds : NobodyTakes x → (is_operand y && no_positionals x.form) ≡ true
  unfolding no_positionals
  operand_holds h =
      both (sym (ap is_operand (is_here h.here h.item)) ∙ h.operand)
      (none_holds (λ (n : Node). eqb n.kind 3) x.form.nodes (λ k n at. ne_eqb n.kind 3 (h.nobody k n at)))

  letter_told : (c : ℕ) → unknown_in x y ≡ some c → WordUnknown x c
  unfolding unknown_in
  letter_told c e =
      let (os, at, h) = bind_some (argument_at x.arguments x.groups x.place) _ e in
      let (whole, rest) = if_some (is_whole y os) _ h in
      let (ls, shape, unknown) = bind_some (cluster_letters os) (first_unknown (letters_of x.form)) rest in
      record {
        text = os;
        item = here ∙ ap some (whole_told y os whole);
        whole = at;
        unknown = record { letters = ls; shape = shape_told os ls shape; unknown = unknown_told (letters_of x.form) ls c unknown };
      }

  letter_holds : (c : ℕ) → WordUnknown x c → unknown_in x y ≡ some c
  unfolding unknown_in is_whole
  letter_holds c h =
      bind_is (argument_at x.arguments x.groups x.place) _ h.whole
      ∙ rw (← is_here (Word h.text) h.item, same_self h.text) (unknown_cluster (letters_of x.form) h.text c h.unknown)

  module _ (earlier : Option ℕ) (once : only_once (line_items x) x.place ≡ ok earlier) where
    -- the tests tell a reason exactly if it holds
    told_holds : (p : Reason) → Told (tests_of x y earlier) p → ReasonHolds x p
    told_holds (lost_choice w) e = lost_told x w e
    told_holds (given_earlier j) e = subst (Earlier (line_items x) x.place y here) e (once_told (line_items x) x.place y here earlier once)
    told_holds key_used e = key_told e
    told_holds unnamed e = unnamed_told e
    told_holds no_positional e = operand_told e
    told_holds (unknown_letter c) e = letter_told c e
    told_holds none_of_these e = tt

    holds_told : (p : Reason) → ReasonHolds x p → Told (tests_of x y earlier) p
    holds_told (lost_choice w) h = lost_holds x w h
    holds_told (given_earlier j) h = once_holds (line_items x) x.place y here earlier once j h
    holds_told key_used h = key_holds h
    holds_told unnamed h = unnamed_holds h
    holds_told no_positional h = operand_holds h
    holds_told (unknown_letter c) h = letter_holds c h
    holds_told none_of_these h = tt

    reason_told : reason_at x ≡ ok (first_reason x y earlier)
    unfolding reason_at ◌>>=◌
    reason_told = rw (here, reason_at, once)

-- Where an item stands: a place with no item may still have a mark that tells a winner, and is given no reason
pub reason_first :
    (x : LeftPlace) (q : Reason)
    → x.place < length (line_items x)
    → reason_at x ≡ ok q
    → ReasonHolds x q × ((p : Reason) → reason_code p < reason_code q → ReasonHolds x p → ⊥)
reason_first x q below e =
    let (y, here) = at_below (line_items x) x.place below in
    let (earlier, once) = earlier_ok (line_items x) x.place below in
    let same : first_reason x y earlier ≡ q = ok_injective (sym (reason_told x y here earlier once) ∙ e) in
    let first = told_first x y earlier in
    rw (← same) (
      told_holds x y here earlier once (first_reason x y earlier) (first_told x y earlier),
      λ p l h. let g = first p (holds_told x y here earlier once p h) in omega (arith, l, g),
    )

-- ---- every input is answered
module _ (b s : List ℕ) (i ni na nl : ℕ) (r : Report) (ran : run b s ni na nl ≡ ok r) where
  explained : why b s i ni na nl ≡ explain b s i r
  unfolding why ◌>>=◌
  explained = rw ran

  -- a run that ended in 27 is not refused before
  not_before : r.number ≡ 27 → refused_before r.number ≡ false
  unfolding refused_before
  not_before n = rw n

  as_run_lem : refused_before r.number ≡ true → WhyAnswered b s i ni na nl
  unfolding explain
  as_run_lem e = record {
    answer = record { number = r.number; place = r.place; reason = none; ran = r };
    answered = explained ∙ rw e;
    ran = ran;
    as_run = λ _. record { number = refl; place = refl; reason = refl };
    not_left = λ f _. absurd (true≢false (sym e ∙ f));
    left = λ n _. absurd (true≢false (sym e ∙ not_before n));
  }

  module _ (e : refused_before r.number ≡ false) where
    not_left_lem : (eqb r.number 27 && present_at r.state.marks i) ≡ false → WhyAnswered b s i ni na nl
    unfolding explain
    not_left_lem f = record {
      answer = record { number = 28; place = none; reason = none; ran = r };
      answered = explained ∙ rw (e, f);
      ran = ran;
      as_run = λ h. absurd (true≢false (sym h ∙ e));
      not_left = λ _ _. record { number = refl; place = refl; reason = refl };
      left = λ n p. absurd (true≢false (sym (both (eq-eqb r.number 27 n) p) ∙ f));
    }

    module _ (n : r.number ≡ 27) (p : present_at r.state.marks i ≡ true) where
      abbrev over : LeftOver b s ni r
      over = left_over_lem b s ni na nl r ran n

      abbrev spot : LeftPlace
      spot = record { form = read_form b; arguments = arguments s; groups = over.given.groups; marks = r.state.marks; place = i }

      spot_found : left_place b s r i ≡ ok spot
      unfolding left_place ◌>>=◌
      spot_found = rw over.grouped

      -- there is an item for each mark
      spot_below : i < length (line_items spot)
      unfolding line_items items_of
      spot_below = omega (arith, marks_present r.state.marks i p, over.marks, ap length over.items)

      given_reason : (q : Reason) → reason_at spot ≡ ok q → WhyAnswered b s i ni na nl
      unfolding explain ◌>>=◌
      given_reason q h = let (holds, first) = reason_first spot q spot_below h in record {
        answer = record { number = 0; place = none; reason = some q; ran = r };
        answered = explained ∙ rw (e, eq-eqb r.number 27 n, p, spot_found, h);
        ran = ran;
        as_run = λ g. absurd (true≢false (sym g ∙ e));
        not_left = λ _ g. absurd (g (n, p));
        left = λ _ _. record {
          number = refl;
          place = refl;
          given = q;
          told = refl;
          spot = spot;
          found = spot_found;
          holds = holds;
          first = first;
        };
      }

      is_left_lem : WhyAnswered b s i ni na nl
      is_left_lem =
          let (y, here) = at_below (line_items spot) i spot_below in
          let (earlier, once) = earlier_ok (line_items spot) i spot_below in
          given_reason (first_reason spot y earlier) (reason_told spot y here earlier once)

    may_be_left : WhyAnswered b s i ni na nl
    may_be_left = go (eqb r.number 27 && present_at r.state.marks i) refl
      where
        go : (t : Bool) → (eqb r.number 27 && present_at r.state.marks i) ≡ t → WhyAnswered b s i ni na nl
        go true h = let (n, p) = and-true (eqb r.number 27) _ h in is_left_lem (eqb-true r.number 27 n) p
        go false h = not_left_lem h

  ran_answered : WhyAnswered b s i ni na nl
  ran_answered = go (refused_before r.number) refl
    where
      go : (t : Bool) → refused_before r.number ≡ t → WhyAnswered b s i ni na nl
      go true e = as_run_lem e
      go false e = may_be_left e

pub why_answered : (b s : List ℕ) (i ni na nl : ℕ) → WhyAnswered b s i ni na nl
why_answered b s i ni na nl = let d = demand1 b s ni na nl in ran_answered b s i ni na nl d.report d.answered
