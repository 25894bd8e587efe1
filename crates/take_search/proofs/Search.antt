-- Laws of the searches: what a search answers, and where it may begin.
use mathlib.Core.Path.{◌≡◌, refl, sym, ap, subst, ◌∙◌}
use mathlib.Core.Bool.{Bool, true, false, false≢true}
use mathlib.Core.List.{List, [], ◌∷◌}
use mathlib.Core.Logic.{◌⊎◌, inl, inr, ⊎_elim}
use mathlib.Core.Option.{some, none, some-injective}
use Prim.Native.Nat.{ℕ, zero, suc, ◌+◌, ◌-◌, ◌≤◌, ◌<◌}
use native.Mathlib.Nat.{eq-or-lt_of_le, le_refl}
use native.Mathlib.Omega.{arith}
use lib.ListN.{length, get_elem?}
use Rattle.std.specs.Prelude.{if◌then◌else◌}
use Rattle.rules.specs.Outcome.{ok, at, ◌>>=◌}
use Rattle.rules.specs.Split.{Item}
use Rattle.rules.specs.State.{Found, present_at, present_from, find_in}
use Rattle.rules.specs.Calls.{item_from}
use Rattle.rules.specs.Demands.{All}
use Rattle.rules.proofs.Acceptance.{lookup_some}
use Rattle.rules.proofs.Places.{from_each}
use Rattle.split_arg.specs.Items.{record_at}
use Rattle.state_marks.specs.Lent.{FirstWhere}
use Rattle.state_marks.proofs.Marks.{present_at_lem, from_hit, from_none}
use Rattle.take_search.specs.Search.{HasItem, HasItems, place_or, seek, Sought, Passed}

pub item_there : (s words marks : List ℕ) (from end i : ℕ) → HasItems s words marks from end → i < end → HasItem s words i
item_there s words marks from end i g h =
    let room = g.table.room in
    let within = g.inside in
    let x = lookup_some g.items i (omega arith) in
    record { made = g.made; room = omega arith; item = x.0; here = g.table.at i x.0 x.1 }

-- ---- what a search answers

-- the place is present, and its item passes the test
pub record Hits (is : List Item) (test : Item → Bool) (marks : List ℕ) (from end i : ℕ) : Type 0 where
  pub behind : from ≤ i
  pub below : i < end
  pub here : present_at marks i ≡ true
  pub item : Item
  pub there : get_elem? is i ≡ some item
  pub passes : test item ≡ true
  pub found : seek is test marks from end ≡ ok (some (record { place = i; item = item }))

-- a place that may be found
record Free (marks : List ℕ) (from end i : ℕ) : Type 0 where
  pub behind : from ≤ i
  pub below : i < end
  pub here : present_at marks i ≡ true

record HitsIn (is : List Item) (test : Item → Bool) (marks : List ℕ) (from end : ℕ) (l : List ℕ) : Type 0 where
  pub place : ℕ
  pub free : Free marks from end place
  pub item : Item
  pub there : get_elem? is place ≡ some item
  pub passes : test item ≡ true
  pub found : find_in is test l ≡ ok (some (record { place = place; item = item }))

hits_in : (is : List Item) (test : Item → Bool) (marks : List ℕ) (from end : ℕ) → end ≤ length is → (l : List ℕ) → All (Free marks from end) l
    → (find_in is test l ≡ ok none) ⊎ HitsIn is test marks from end l
unfolding find_in at ◌>>=◌
hits_in is test marks from end h [] f = inl refl
hits_in is test marks from end h (i ∷ l) f =
    let x = lookup_some is i (omega (arith, f.0.below)) in
    go x.0 x.1 (test x.0) refl (hits_in is test marks from end h l f.1)
  where
    go : (y : Item) → get_elem? is i ≡ some y → (t : Bool) → test y ≡ t
        → (find_in is test l ≡ ok none) ⊎ HitsIn is test marks from end l
        → (find_in is test (i ∷ l) ≡ ok none) ⊎ HitsIn is test marks from end (i ∷ l)
    go y e true t later = inr (record { place = i; free = f.0; item = y; there = e; passes = t; found = rw (e, t) })
    go y e false t later = ⊎_elim
        (λ n. inl (rw (e, t) n))
        (λ (k : HitsIn is test marks from end l).
        inr (record { place = k.place; free = k.free; item = k.item; there = k.there; passes = k.passes; found = rw (e, t) k.found }))
        later

hits_case : (is : List Item) (test : Item → Bool) (marks : List ℕ) (from end : ℕ) → end ≤ length is → from ≤ end
    → (seek is test marks from end ≡ ok none) ⊎ HitsIn is test marks from end (present_from marks (end - from) from)
hits_case is test marks from end h o =
    hits_in is test marks from end h (present_from marks (end - from) from)
    (from_each (Free marks from end) marks (end - from) from (λ i a b e. record { behind = a; below = omega arith; here = e }))

module _ (is : List Item) (test : Item → Bool) (marks : List ℕ) (from end r : ℕ) (h : end ≤ length is) (o : from ≤ end) (e : r ≡ place_or end (seek is test marks from end)) where
  pub nothing_found : end ≤ r → seek is test marks from end ≡ ok none
  nothing_found n = ⊎_elim
      (λ f. f)
      (λ f. absurd (omega (arith, e ∙ ap (place_or end) f.found, f.free.below)))
      (hits_case is test marks from end h o)

  pub something_found : r < end → Hits is test marks from end r
  something_found n = ⊎_elim
      (λ f. absurd (omega (arith, e ∙ ap (place_or end) f)))
      (λ f.
      let z : f.place ≡ r = sym (e ∙ ap (place_or end) f.found) in
      let k : Hits is test marks from end f.place = record {
        behind = f.free.behind;
        below = f.free.below;
        here = f.free.here;
        item = f.item;
        there = f.there;
        passes = f.passes;
        found = f.found;
      } in
      subst (Hits is test marks from end) z k)
      (hits_case is test marks from end h o)

-- ---- where a search may begin

-- no place of a..b is present with an item that passes the test
abbrev pub NoneIn : List Item → (Item → Bool) → List ℕ → ℕ → ℕ → Type 0
NoneIn is test marks a b = (k : ℕ) → a ≤ k → k < b → present_at marks k ≡ true → (x : Item) → get_elem? is k ≡ some x → test x ≡ false

module _ (is : List Item) (test : Item → Bool) (marks : List ℕ) where
  -- a place that is not present, or whose item fails, adds nothing
  find_past : (n a : ℕ) → a < length is → ((x : Item) → present_at marks a ≡ true → get_elem? is a ≡ some x → test x ≡ false)
      → find_in is test (present_from marks (suc n) a) ≡ find_in is test (present_from marks n (suc a))
  unfolding present_from find_in at ◌>>=◌
  find_past n a h f = go (present_at marks a) refl
    where
      go : (b : Bool) → present_at marks a ≡ b
          → find_in is test (if b then a ∷ present_from marks n (suc a) else present_from marks n (suc a))
          ≡ find_in is test (present_from marks n (suc a))
      go true e =
          let x = lookup_some is a h in
          let w : test x.0 ≡ false = f x.0 e x.1 in
          rw (x.1, w)
      go false e = refl

  find_behind : (d n a : ℕ) → a + d + n ≤ length is → NoneIn is test marks a (a + d)
      → find_in is test (present_from marks (d + n) a) ≡ find_in is test (present_from marks n (a + d))
  find_behind zero n a h f =
      let y : zero + n ≡ n = omega arith in
      let z : a + zero ≡ a = omega arith in
      rw (y, z)
  find_behind (suc d) n a h f =
      let y : suc d + n ≡ suc (d + n) = omega arith in
      let z : a + suc d ≡ suc a + d = omega arith in
      rw (y, z)
      (find_past (d + n) a (omega arith) (λ x p e. f a (omega arith) (omega arith) p x e)
      ∙ find_behind d n (suc a) (omega arith) (λ k l b. f k (omega arith) (omega arith)))

  -- before the place that is found none is
  pub found_first : (n a : ℕ) → a + n ≤ length is → (y : Found) → find_in is test (present_from marks n a) ≡ ok (some y)
      → NoneIn is test marks a y.place
  unfolding present_from find_in at ◌>>=◌
  found_first zero a h y e k l b p x g = let z : ◌≡◌ {A = ℕ} 0 1 = cc in absurd (omega arith)
  found_first (suc n) a h y e k l b p x g =
      go (present_at marks a) refl e (λ e l. found_first n (suc a) (omega arith) y e k l b p x g)
    where
      Later : Type 0
      Later = find_in is test (present_from marks n (suc a)) ≡ ok (some y) → suc a ≤ k → test x ≡ false

      -- the item at a place that is present
      here : (v : Item) → get_elem? is a ≡ some v → (t : Bool) → test v ≡ t
          → (if t then ok (some (record { place = a; item = v })) else find_in is test (present_from marks n (suc a))) ≡ ok (some y)
          → Later
          → test x ≡ false
      here v i true t e later =
          let w : a ≡ y.place = ap (place_or 0) e in
          absurd (omega arith)
      here v i false t e later =
          ⊎_elim
          (λ (z : a ≡ k).
          let u : get_elem? is a ≡ some x = rw z g in
          let w : v ≡ x = some-injective v x (sym i ∙ u) in
          rw (← w) t)
          (λ (z : a < k). later e z)
          (eq-or-lt_of_le l)

      go : (c : Bool) → present_at marks a ≡ c
          → find_in is test (if c then a ∷ present_from marks n (suc a) else present_from marks n (suc a)) ≡ ok (some y)
          → Later
          → test x ≡ false
      go true q e later =
          let v = lookup_some is a (omega arith) in
          here v.0 v.1 (test v.0) refl (rw v.1 at e) later
      go false q e later =
          ⊎_elim
          (λ (z : a ≡ k). absurd (false≢true (sym q ∙ rw z p)))
          (λ (z : a < k). later e z)
          (eq-or-lt_of_le l)

-- what a search from behind the places that were passed finds, the search of all finds
module _ (area words : List ℕ) (test : Item → Bool) (marks : List ℕ) (start from end r : ℕ) where
  pub sought_all : Passed area words test marks start from → start ≤ from → from ≤ end
      → Sought area words test marks from end r
      → Sought area words test marks start end r
  sought_all f o w sought is t l =
      let y : end - start ≡ from - start + (end - from) = omega arith in
      let z : start + (from - start) ≡ from = omega arith in
      let past : NoneIn is test marks start (start + (from - start)) = λ k a b p x e. f k a (omega arith) p x (t.at k x e) in
      let same = find_behind is test marks (from - start) (end - from) start (omega arith) past in
      let whole : seek is test marks start end ≡ seek is test marks from end = rw y (rw z at same) in
      sought is t l ∙ ap (place_or end) (sym whole)

-- what the code says of the item at a place
abbrev pub TestedAt : List ℕ → List ℕ → (Item → Bool) → ℕ → Bool → Type 0
TestedAt area words test i r = (x : Item) → item_from area (record_at words i) ≡ some x → r ≡ test x

module _ (area words : List ℕ) (test : Item → Bool) (marks : List ℕ) (end : ℕ) where
  pub sought_end : Sought area words test marks end end end
  unfolding find_in
  sought_end is t l = sym (rw (from_none marks end end (le_refl end)))

  -- the first place that is present and of which `true` is said, where what is said is the test of the item
  module _ (long : end ≤ length marks) (from r : ℕ) (says : ℕ → Bool → Type 0) (f : FirstWhere marks says from end r)
      (told : (i : ℕ) (b : Bool) → i < end → says i b → TestedAt area words test i b) where
    sought_here : r < end → Sought area words test marks r end r
    unfolding find_in at ◌>>=◌
    sought_here h is t l =
        let x = lookup_some is r (omega arith) in
        let p = f.here h in
        let w : test x.0 ≡ true = sym (told r true h p.1 x.0 (t.at r x.0 x.1)) in
        sym (rw (from_hit marks end r h long (sym (present_at_lem marks r (omega arith)) ∙ p.0), x.1, w))

    pub first_sought : Sought area words test marks from end r
    first_sought =
        sought_all area words test marks from r end r
        (λ k a b p x e. sym (told k false (omega (arith, f.within)) (f.before k a b p) x e)) f.behind f.within
        (⊎_elim
        (λ (e : r ≡ end). rw e sought_end)
        (λ (h : r < end). sought_here h)
        (eq-or-lt_of_le f.within))
