-- Laws of the calls, for states that refusal 29 lets through.
use mathlib.Core.Path.{◌≡◌, refl, sym, ap, subst, ◌∙◌}
use mathlib.Core.Bool.{Bool, true, false, false≢true}
use mathlib.Core.List.{List, [], ◌∷◌, ◌++◌}
use mathlib.Core.Option.{some, none}
use Prim.Native.Nat.{ℕ, suc, ◌+◌, ◌-◌, ◌≤◌, ◌<◌}
use native.Mathlib.Omega.{arith}
use lib.ListN.{length, get_or, take, drop, get_elem?}
use lib.Seq.{length-take-le, drop-nil}
use borrow.Author.Tests.{eq-eqb, ne_eqb, lt-ltb, le-ltb, le-leb}
use Rattle.std.specs.Prelude.{Some, None}
use Rattle.std.specs.Prelude.{Option as Coded}
use Rattle.rules.specs.Base.{null, slice_from, ◌>>?◌}
use Rattle.rules.specs.Outcome.{Outcome, ok, ◌>>=◌, at}
use Rattle.rules.specs.Split.{Item}
use Rattle.rules.specs.State.{State, parsed, present_from, count_present, unused, winner, find_in, find, first, remove, pick_from, pick_winner, save_conflicts, conflicts, conflict_at}
use Rattle.rules.specs.State.{conflict, set_scope, until_present, proposed, adjacent_scope, adjacently_available_from}
use Rattle.rules.specs.Calls.{from_raw, to_raw, state_in}
use Rattle.rules.specs.Sound.{Good}
use Rattle.rules.specs.declared.State.{State as Raw}
use Rattle.rules.proofs.Places.{at_below, slice_below, count_from}
use Rattle.rules.proofs.StepLaws.{set_scope_good}
use Rattle.state_marks.specs.Lent.{raw_of, numbers_of, state_of, option_of, pick_of, first_or, Fine, FineState, Removed}
use Rattle.state_marks.specs.declared.Numbers.{Numbers}
use Rattle.state_marks.specs.declared.Picked.{Picked}
use Rattle.state_marks.proofs.Marks.{from_take, first_hit, first_within, first_none}
use Rattle.state_marks.proofs.Laws.{in_kept, kept_fine, fine_long, fine_unused, mark_at, raw_back, marked, marked_is, marked_fine, marked_whole}
use Rattle.state_value.specs.Options.{handed_over, range_of, place_below, Until, SpanEnd}

-- the state that a step gives, handed over
pub handed_ok : (o : Outcome State) (u : State) (r : Raw) → o ≡ ok u → to_raw u ≡ r → handed_over o ≡ ok r
unfolding handed_over ◌>>=◌
handed_ok o u r e f = rw e (ap ok f)

-- and for callers: the step has given a state
pub ok_handed : (o : Outcome State) (r : Raw) → handed_over o ≡ ok r → (u : State) × (o ≡ ok u) × (to_raw u ≡ r)
unfolding handed_over ◌>>=◌
ok_handed (Outcome.ok u) r e = (u, refl, cc)
ok_handed (Outcome.refused x) r e = absurd (let z : ◌≡◌ {A = ℕ} 0 1 = cc in omega arith)
ok_handed (Outcome.fault x) r e = absurd (let z : ◌≡◌ {A = ℕ} 0 1 = cc in omega arith)

ok_same : (a b : State) → ◌≡◌ {A = Outcome State} (ok a) (ok b) → a ≡ b
ok_same a b e = cc

-- for callers: what refusal 29 lets through
pub given_fine : (fields n : ℕ) (x : Raw) → state_in fields n x ≡ ok (from_raw x) → FineState x
given_fine fields n x g = kept_fine fields n x (in_kept fields n x g)

pub given_count : (fields n : ℕ) (x : Raw) → state_in fields n x ≡ ok (from_raw x) → x.count ≡ n
given_count fields n x g = (in_kept fields n x g).count

null_nil : (m : List ℕ) → null m ≡ true → m ≡ []
unfolding null
null_nil [] e = refl
null_nil (x ∷ m) e = absurd (false≢true e)

nothing : (k : ℕ) (m l : List ℕ) → m ≡ [] → until_present k m l ≡ none
unfolding until_present
nothing k m l e = rw e

-- with no items no place is present
adjacent_plain : (s t : State) → s.start ≤ length s.marks → s.start ≤ length t.marks
    → adjacent_scope s t ≡ ok (until_present s.start (drop s.start s.marks) (drop s.start t.marks) >>? proposed s)
unfolding adjacent_scope slice_from ◌>>=◌ ◌>>?◌ at
adjacent_plain s t h l = go (null s.marks) refl
  where
    gone : s.marks ≡ [] → until_present s.start (drop s.start s.marks) (drop s.start t.marks) ≡ none
    gone e = nothing s.start (drop s.start s.marks) _ (ap (drop s.start) e ∙ drop-nil s.start)

    go : (b : Bool) → null s.marks ≡ b
        → adjacent_scope s t ≡ ok (until_present s.start (drop s.start s.marks) (drop s.start t.marks) >>? proposed s)
    go true e = rw (e, gone (null_nil s.marks e))
    go false e = rw (e, le-leb _ _ h, le-leb _ _ l)

module _ (x : Raw) (fine : FineState x) where
  -- ---- `remove`

  pub remove_ready : (mark : ℕ) → parsed mark ≡ true → (p : Numbers) → p ≡ numbers_of x → Fine x.marks p × (parsed mark ≡ true)
  remove_ready mark told p e = (rw e fine, told)

  pub removed_over : (mark : ℕ) (p : Numbers) (i : ℕ) (m : List ℕ) (q : Numbers) (r : Raw)
      → length x.marks ≡ 256 → p ≡ numbers_of x → Removed mark x.marks p i m q → r ≡ raw_of m q
      → handed_over (remove mark (from_raw x) i) ≡ ok r
  unfolding state_of
  removed_over mark p i m q r long e d f =
      let s : remove mark (from_raw x) i ≡ ok (state_of m q) = rw e at d.same in
      handed_ok _ (state_of m q) r s (raw_back m q d.fine (d.long ∙ long) ∙ sym f)

  -- ---- two states

  module _ (y : Raw) (other : FineState y) (same_count : y.count ≡ x.count) where
    pub both_ready : (n : ℕ) → n ≡ x.count → (n ≤ length x.marks) × (n ≤ length y.marks) × (n ≤ 256)
    both_ready n e =
        let z = same_count in
        let a = fine_long x.marks (numbers_of x) fine in
        let b = fine_long y.marks (numbers_of y) other in
        let c = fine.small in
        (omega arith, omega arith, omega arith)

    pub winner_small : (w : ℕ) → w < x.count → w < 256
    winner_small w h = let s = fine.small in omega arith

    pub picked_over : (n : ℕ) (r : Picked) → n ≡ x.count → pick_of r ≡ pick_from 0 (take n x.marks) (take n y.marks)
        → pick_of r ≡ pick_winner (from_raw x) (from_raw y)
    unfolding pick_winner from_raw
    picked_over n r e f = rw (same_count, ← e) f

    pub saved_over : (n w : ℕ) (m : List ℕ) (p : Numbers) (r : Raw)
        → length x.marks ≡ 256 → w < x.count → n ≡ x.count
        → m ≡ conflicts w (take n x.marks) (take n y.marks) ++ drop n x.marks → p ≡ numbers_of x → r ≡ raw_of m p
        → r ≡ to_raw (save_conflicts (from_raw x) (from_raw y) w)
    unfolding state_of
    saved_over n w m p r long b e f c d =
        let q : Numbers = numbers_of x in
        let k : List ℕ = marked w x.count x.marks y.marks in
        let z : m ≡ k = rw e at f in
        let is : save_conflicts (from_raw x) (from_raw y) w ≡ state_of k q =
        marked_is x.marks y.marks q (numbers_of y) w fine same_count in
        let back : to_raw (state_of k q) ≡ raw_of k q =
        raw_back k q (marked_fine x.marks y.marks q (numbers_of y) w fine same_count b)
        (marked_whole x.marks y.marks q (numbers_of y) w fine same_count ∙ long) in
        d ∙ rw (z, c, is) (sym back)

    -- ---- `adjacent_scope`

    pub until_ready : (n a : ℕ) → n ≡ x.count → a ≡ x.start → (a ≤ n) × (n ≤ length x.marks) × (n ≤ length y.marks)
    until_ready n a e f =
        let b = both_ready n e in
        let o = fine.order in
        let i = fine.inside in
        (omega arith, b.0, b.1)

    module _ (n a r : ℕ) (e : n ≡ x.count) (f : a ≡ x.start) (u : Until x.marks y.marks a n r) where
      until_is : adjacent_scope (from_raw x) (from_raw y) ≡ ok (place_below n r >>? proposed (from_raw x))
      unfolding from_raw
      until_is =
          let z : y.count ≡ x.count = same_count in
          let b = both_ready x.count refl in
          let o = fine.order in
          let i = fine.inside in
          let s : length (take x.count x.marks) ≡ x.count = length-take-le x.count x.marks b.0 in
          let t : length (take y.count y.marks) ≡ y.count = length-take-le y.count y.marks (omega (arith, b.1)) in
          adjacent_plain (from_raw x) (from_raw y) (omega arith) (omega arith)
          ∙ rw (u.place, e, f, z)

      pub scope_none : r ≡ n → adjacent_scope (from_raw x) (from_raw y) ≡ ok none
      unfolding place_below ◌>>?◌
      scope_none h = until_is ∙ rw (le-ltb r n (omega arith))

      module _ (away : r ≡ n → ⊥) where
        below_count : r < n
        below_count = let w = u.within in omega arith

        pub scope_same : r ≡ x.end → adjacent_scope (from_raw x) (from_raw y) ≡ ok none
        unfolding place_below proposed from_raw ◌>>?◌
        scope_same h = until_is ∙ rw (lt-ltb r n below_count, eq-eqb r x.end h)

        pub scope_some : (r ≡ x.end → ⊥) → adjacent_scope (from_raw x) (from_raw y) ≡ ok (some (record { start = x.start; end = r }))
        unfolding place_below proposed from_raw ◌>>?◌
        scope_some h = until_is ∙ rw (lt-ltb r n below_count, ne_eqb r x.end h)

  -- ---- `set_scope`

  pub count_ready : (a b : ℕ) → b ≤ x.count → (b ≤ length x.marks) × (b ≤ 256)
  count_ready a b h =
      let l = fine_long x.marks (numbers_of x) fine in
      let s = fine.small in
      (omega arith, omega arith)

  module _ (a b k : ℕ) (long : length x.marks ≡ 256) (o : a ≤ b) (i : b ≤ x.count) (e : k ≡ count_present (take (b - a) (drop a x.marks))) where
    -- the present ones of the first marks are counted alike
    part_count : count_present (take (b - a) (drop a (take x.count x.marks))) ≡ k
    part_count =
        let l : x.count ≤ length x.marks = fine_long x.marks (numbers_of x) fine in
        let t : length (take x.count x.marks) ≡ x.count = length-take-le x.count x.marks l in
        count_from (take x.count x.marks) (b - a) a (omega arith)
        ∙ ap length (from_take x.marks x.count (b - a) a (omega arith))
        ∙ sym (e ∙ count_from x.marks (b - a) a (omega arith))

    scoped_is : set_scope (from_raw x) a b
        ≡ ok (state_of x.marks (record { count = x.count; remaining = k; current = x.current; start = a; end = b }))
    unfolding set_scope state_of from_raw ◌>>=◌ at
    scoped_is =
        let l : x.count ≤ length x.marks = fine_long x.marks (numbers_of x) fine in
        let t : length (take x.count x.marks) ≡ x.count = length-take-le x.count x.marks l in
        rw (slice_below a b (take x.count x.marks) o (omega arith), part_count)

    scoped_fine : Fine x.marks (record { count = x.count; remaining = k; current = x.current; start = a; end = b })
    unfolding state_of
    scoped_fine =
        let s = set_scope_good x.count (from_raw x) a b fine.good o i in
        let z : s.0 ≡ state_of x.marks (record { count = x.count; remaining = k; current = x.current; start = a; end = b }) =
        ok_same s.0 _ (sym s.1 ∙ scoped_is) in
        record {
          order = o;
          inside = i;
          small = fine.small;
          rest = fine.rest;
          good = subst (Good x.count) z s.2;
        }

    pub scoped_over : handed_over (set_scope (from_raw x) a b)
        ≡ ok (raw_of x.marks (record { count = x.count; remaining = k; current = x.current; start = a; end = b }))
    scoped_over = handed_ok _ _ _ scoped_is (raw_back x.marks _ scoped_fine long)

  -- ---- `adjacently_available_from`

  pub span_ready : (n a : ℕ) → n ≡ x.count → a ≤ x.count → (a ≤ n) × (n ≤ length x.marks)
  span_ready n a e h = let l = fine_long x.marks (numbers_of x) fine in (omega arith, omega arith)

  pub span_over : (n a r : ℕ) → n ≡ x.count → SpanEnd x.marks a n r
      → range_of (record { start = a; end = r }) ≡ adjacently_available_from (from_raw x) a
  unfolding adjacently_available_from from_raw
  span_over n a r e s = rw (s.place, e)

  -- ---- `conflict`

  pub first_ready : (a b : ℕ) → a ≡ x.start → b ≡ x.end → (a ≤ b) × (b ≤ length x.marks)
  first_ready a b e f =
      let l = fine_long x.marks (numbers_of x) fine in
      let o = fine.order in
      let i = fine.inside in
      (omega arith, omega arith)

  module _ (a b r : ℕ) (e : a ≡ x.start) (f : b ≡ x.end) (d : r ≡ first_or b (present_from x.marks (b - a) a)) where
    here : present_from x.marks (b - a) a ≡ unused (from_raw x)
    unfolding state_of
    here = rw (e, f) (sym (fine_unused x.marks (numbers_of x) fine))

    pub conflict_nowhere : r ≡ b → (items : List Item) → length items ≡ x.count → conflict items (from_raw x) ≡ ok none
    unfolding conflict first find find_in conflict_at ◌>>=◌
    conflict_nowhere h items l =
        let z : unused (from_raw x) ≡ [] = sym here ∙ first_none x.marks a b r (first_ready a b e f).0 d (omega arith) in
        rw z

    module _ (away : r ≡ b → ⊥) where
      below : r < b
      below = let w = first_within x.marks a b r (first_ready a b e f).0 d in omega arith

      -- the place that was found lies in scope
      pub place_below_lem : r < 256
      place_below_lem = let i = fine.inside in let s = fine.small in omega (arith, below)

      found : unused (from_raw x) ≡ r ∷ present_from x.marks (a + (b - a) - suc r) (suc r)
      found = sym here ∙ (first_hit x.marks a b r (first_ready a b e f).0 d below).rest

      mark_here : get_elem? (take x.count x.marks) r ≡ some (get_or x.marks r 0)
      mark_here =
          let i = fine.inside in
          mark_at x.marks x.count r (omega (arith, below)) (fine_long x.marks (numbers_of x) fine)

      module _ (k : Coded ℕ) (z : option_of k ≡ winner (get_or x.marks r 0)) (items : List Item) (l : length items ≡ x.count) where
        item_here : (y : Item) × (get_elem? items r ≡ some y)
        item_here = let i = fine.inside in at_below items r (omega (arith, below))

        pub conflict_absent : k ≡ None → conflict items (from_raw x) ≡ ok none
        unfolding conflict first find find_in conflict_at ◌>>=◌ at ◌>>?◌ from_raw
        conflict_absent h = rw (found, item_here.1, mark_here, ← z, h)

        pub conflict_there : (w : ℕ) → k ≡ Some w → conflict items (from_raw x) ≡ ok (some (record { place = r; winner = w }))
        unfolding conflict first find find_in conflict_at ◌>>=◌ at ◌>>?◌ from_raw
        conflict_there w h = rw (found, item_here.1, mark_here, ← z, h)
