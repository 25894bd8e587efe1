-- The records one after the other: for the loop, and as the rules' search over the items that they are.
use mathlib.Core.Bool.{Bool, true, false, ◌&&◌, false≢true}
use mathlib.Core.List.{List, [], ◌∷◌, map}
use mathlib.Core.Logic.{⊎_elim}
use mathlib.Core.Option.{Option, some, none, none-ne-some}
use mathlib.Core.Path.{◌≡◌, refl, sym, ap, subst, ◌∙◌}
use Prim.Native.Nat.{ℕ, zero, suc, ◌+◌, ◌-◌, ◌≤◌, ◌<◌}
use native.Mathlib.Nat.{eq-or-lt_of_le, add-zero}
use native.Mathlib.Numerals.{add-one}
use native.Mathlib.Omega.{arith}
use lib.Dec.{eqb, ltb}
use lib.ListN.{length, get_or, drop, get_elem?, drop_of_length-le}
use lib.Seq.{drop-cons}
use borrow.Author.Tests.{eq-eqb, ne_eqb, eqb-true, eqb-false, lt-leb, le-leb, ltb-true, ltb-false, lt-ltb, le-ltb}
use Rattle.std.specs.Prelude.{if◌then◌else◌}
use Rattle.rules.specs.Base.{all, ◌>>?◌}
use Rattle.rules.specs.Outcome.{Outcome, ok, ◌>>=◌, at}
use Rattle.rules.specs.Sheet.{sheet_area}
use Rattle.rules.specs.Split.{Item}
use Rattle.rules.specs.State.{Found, present_at, present_from, find_in}
use Rattle.rules.specs.Tree.{zeros}
use Rattle.rules.specs.Calls.{item_from, trimmed, items_from}
use Rattle.rules.specs.declared.State.{State as Raw}
use Rattle.rules.proofs.Acceptance.{bind_some}
use Rattle.state_marks.proofs.Marks.{from_none}
use Rattle.call_find.specs.declared.ItemRecord.{ItemRecord}
use Rattle.call_find.specs.declared.Search.{Search}
use Rattle.call_find.specs.declared.Seen.{Seen}
use Rattle.call_find.specs.Records.{words_of, place_of}
use Rattle.call_find.specs.Scan.{StartReady, CanMatch, reached, marked, sought, judged, seen_to, turned, scan, place_from}

pub started_able : (form sheet : List ℕ) (k : ℕ) (g : Search) → StartReady form sheet k g → CanMatch form sheet g
started_able form sheet k g r = record { names = r.names; made = r.made; area = r.area }

-- ---- for the loop

marked_most : (test : Item → Bool) (i c : ℕ) (o : Option Item) → c ≤ i + 1 → marked test i c o ≤ i + 1 + 1
unfolding marked
marked_most test i c none h = omega arith
marked_most test i c (some y) h = go (eqb c 0) (test y)
  where
    go : (a b : Bool) → (if a then (if b then i + 2 else 0) else c) ≤ i + 1 + 1
    go true true = omega arith
    go true false = omega arith
    go false b = omega arith

module _ (form sheet : List ℕ) (s : Raw) (g : Search) where
  judged_most : (x : ItemRecord) (i c : ℕ) → c ≤ i + 1 → judged form sheet s g x i c ≤ i + 1 + 1
  unfolding judged
  judged_most x i c h = marked_most _ i c _ h

  module _ (x : ItemRecord) (i : ℕ) (c : Seen) where
    pub turned_zero : zeros (words_of x) ≡ true → turned form sheet s g x i c ≡ c
    unfolding turned
    turned_zero e = rw e

    module _ (e : zeros (words_of x) ≡ false) where
      pub turned_next : c.count ≡ i → turned form sheet s g x i c ≡ seen_to (judged form sheet s g x i c.found) (i + 1)
      unfolding turned
      turned_next h = rw (e, eq-eqb c.count i h)

      pub turned_hole : (c.count ≡ i → ⊥) → turned form sheet s g x i c ≡ seen_to 1 (i + 1)
      unfolding turned
      turned_hole h = rw (e, ne_eqb c.count i h)

    abbrev Near : Seen → Type 0
    Near d = d.found ≤ d.count + 1

    pub turned_most : Near c → Near (turned form sheet s g x i c)
    turned_most h = go (zeros (words_of x)) refl (eqb c.count i) refl
      where
        go : (a : Bool) → zeros (words_of x) ≡ a → (b : Bool) → eqb c.count i ≡ b → Near (turned form sheet s g x i c)
        go true e b k = subst Near (sym (turned_zero e)) h
        go false e true k =
            let z = eqb-true c.count i k in
            subst Near (sym (turned_next e z)) (judged_most x i c.found (omega arith))
        go false e false k = subst Near (sym (turned_hole e (eqb-false c.count i k))) (omega arith)

  pub scan_end : (xs : List ItemRecord) (i : ℕ) (c : Seen) → length xs ≤ i → scan form sheet s g (drop i xs) i c ≡ c
  unfolding scan
  scan_end xs i c h = rw (drop_of_length-le)

  pub scan_step : (xs : List ItemRecord) (i : ℕ) (c : Seen) (d : ItemRecord) → i < length xs
      → scan form sheet s g (drop i xs) i c ≡ scan form sheet s g (drop (i + 1) xs) (i + 1) (turned form sheet s g (get_or xs i d) i c)
  unfolding scan
  scan_step xs i c d h = rw (add-one, drop-cons xs i d)

-- ---- over items

module _ (s : Raw) (test : Item → Bool) where
  unfoldable pub over : List Item → ℕ → ℕ → ℕ
  over [] i c = c
  over (y ∷ ys) i c = over ys (suc i) (marked (λ z. reached s i && test z) i c (some y))

  over_stays : (ys : List Item) (i c : ℕ) → (c ≡ 0 → ⊥) → over ys i c ≡ c
  unfolding over marked
  over_stays [] i c h = refl
  over_stays (y ∷ ys) i c h = rw (ne_eqb c 0 h) (over_stays ys (suc i) c h)

  over_hit : (y : Item) (ys : List Item) (i : ℕ) → reached s i ≡ true → test y ≡ true → over (y ∷ ys) i 0 ≡ i + 2
  unfolding over marked
  over_hit y ys i a b = rw (a, b) (over_stays ys (suc i) (i + 2) (λ e. omega arith))

  over_unreached : (y : Item) (ys : List Item) (i : ℕ) → reached s i ≡ false → over (y ∷ ys) i 0 ≡ over ys (suc i) 0
  unfolding over marked
  over_unreached y ys i a = rw a

  over_other : (y : Item) (ys : List Item) (i : ℕ) → reached s i ≡ true → test y ≡ false → over (y ∷ ys) i 0 ≡ over ys (suc i) 0
  unfolding over marked
  over_other y ys i a b = rw (a, b)

  pub over_one : (ys : List Item) (i : ℕ) → over ys i 0 ≡ 1 → ⊥
  unfolding over
  over_one [] i e = omega (arith, e)
  over_one (y ∷ ys) i e = go (over_one ys (suc i)) (reached s i) refl (test y) refl
    where
      go : (over ys (suc i) 0 ≡ 1 → ⊥) → (a : Bool) → reached s i ≡ a → (b : Bool) → test y ≡ b → ⊥
      go later false p b q = later (sym (over_unreached y ys i p) ∙ e)
      go later true p true q = omega (arith, sym (over_hit y ys i p q) ∙ e)
      go later true p false q = later (sym (over_other y ys i p q) ∙ e)

-- ---- the records are these items, or one is none

none_one : (test : Item → Bool) (i c : ℕ) → marked test i c none ≡ 1
unfolding marked
none_one test i c = refl

some_one : (test : Item → Bool) (i : ℕ) (y : Item) → marked test i 1 (some y) ≡ 1
unfolding marked
some_one test i y = refl

-- ---- records that are all 0

kind_zero : (k : ℕ) (l : List ℕ) → zeros (k ∷ l) ≡ true → k ≡ 0
unfolding zeros all
kind_zero k l e = go (eqb 0 k) refl e
  where
    go : (b : Bool) → eqb 0 k ≡ b → (b && all (eqb 0) l) ≡ true → k ≡ 0
    go true h w = sym (eqb-true 0 k h)
    go false h w = absurd (false≢true w)

zero_none : (area : List ℕ) (x : ItemRecord) → zeros (words_of x) ≡ true → item_from area (words_of x) ≡ none
unfolding item_from
zero_none area x e = rw (kind_zero x.kind _ e)

module _ (r : List ℕ) (rs : List (List ℕ)) where
  trim_kept : zeros r ≡ false → trimmed (r ∷ rs) ≡ r ∷ trimmed rs
  unfolding trimmed
  trim_kept e = go (trimmed rs)
    where
      go : (ts : List (List ℕ)) → (elim ts [ [] ↦ if zeros r then [] else r ∷ [] | y ∷ ys ↦ r ∷ y ∷ ys ]) ≡ r ∷ ts
      go [] = rw e
      go (y ∷ ys) = refl

  trim_last : zeros r ≡ true → trimmed rs ≡ [] → trimmed (r ∷ rs) ≡ []
  unfolding trimmed
  trim_last e h = rw (h, e)

  trim_more : (y : List ℕ) (ys : List (List ℕ)) → trimmed rs ≡ y ∷ ys → trimmed (r ∷ rs) ≡ r ∷ y ∷ ys
  unfolding trimmed
  trim_more y ys h = rw h

not_nil : {A : Type 0} (x : A) (xs : List A) → x ∷ xs ≡ [] → ⊥
not_nil x xs e = let z : suc (length xs) ≡ 0 = ap length e in omega arith

module _ (form sheet : List ℕ) (s : Raw) (g : Search) where
  abbrev area : List ℕ
  area = sheet_area sheet

  judged_as : (x : ItemRecord) (i c : ℕ) (o : Option Item) → item_from area (words_of x) ≡ o
      → judged form sheet s g x i c ≡ marked (λ y. reached s i && sought form g y) i c o
  unfolding judged
  judged_as x i c o e = ap (marked (λ y. reached s i && sought form g y) i c) e

  judged_one : (x : ItemRecord) (i : ℕ) → judged form sheet s g x i 1 ≡ 1
  judged_one x i = go (item_from area (words_of x)) refl
    where
      still : (o : Option Item) → marked (λ y. reached s i && sought form g y) i 1 o ≡ 1
      still none = none_one _ i 1
      still (some y) = some_one _ i y

      go : (o : Option Item) → item_from area (words_of x) ≡ o → judged form sheet s g x i 1 ≡ 1
      go o e = judged_as x i 1 o e ∙ still o

  turned_one : (x : ItemRecord) (i : ℕ) (c : Seen) → c.found ≡ 1 → (turned form sheet s g x i c).found ≡ 1
  turned_one x i c h = go (zeros (words_of x)) refl (eqb c.count i) refl
    where
      go : (a : Bool) → zeros (words_of x) ≡ a → (b : Bool) → eqb c.count i ≡ b → (turned form sheet s g x i c).found ≡ 1
      go true e b k = ap (λ (d : Seen). d.found) (turned_zero form sheet s g x i c e) ∙ h
      go false e true k =
          ap (λ (d : Seen). d.found) (turned_next form sheet s g x i c e (eqb-true c.count i k))
          ∙ ap (judged form sheet s g x i) h ∙ judged_one x i
      go false e false k = ap (λ (d : Seen). d.found) (turned_hole form sheet s g x i c e (eqb-false c.count i k))

  scan_one : (xs : List ItemRecord) (i : ℕ) (c : Seen) → c.found ≡ 1 → (scan form sheet s g xs i c).found ≡ 1
  unfolding scan
  scan_one [] i c h = h
  scan_one (x ∷ xs) i c h = scan_one xs (suc i) (turned form sheet s g x i c) (turned_one x i c h)

  scan_zero : (xs : List ItemRecord) → trimmed (map words_of xs) ≡ [] → (i : ℕ) (c : Seen) → scan form sheet s g xs i c ≡ c
  unfolding scan
  scan_zero [] e i c = refl
  scan_zero (x ∷ xs) e i c = go (scan_zero xs) (zeros (words_of x)) refl (trimmed (map words_of xs)) refl
    where
      go : (trimmed (map words_of xs) ≡ [] → (i : ℕ) (c : Seen) → scan form sheet s g xs i c ≡ c)
          → (b : Bool) → zeros (words_of x) ≡ b → (ts : List (List ℕ)) → trimmed (map words_of xs) ≡ ts
          → scan form sheet s g xs (suc i) (turned form sheet s g x i c) ≡ c
      go later true h [] k = later k (suc i) _ ∙ turned_zero form sheet s g x i c h
      go later true h (y ∷ ys) k = absurd (not_nil _ _ (sym (trim_more (words_of x) (map words_of xs) y ys k) ∙ e))
      go later false h ts k = absurd (not_nil _ _ (sym (trim_kept (words_of x) (map words_of xs) h) ∙ e))

  -- a record behind one that is all 0
  scan_hole : (xs : List ItemRecord) (y : List ℕ) (ys : List (List ℕ)) → trimmed (map words_of xs) ≡ y ∷ ys
      → (i : ℕ) (c : Seen) → c.count < i → (scan form sheet s g xs i c).found ≡ 1
  unfolding scan trimmed
  scan_hole [] y ys e i c h = absurd (not_nil y ys (sym e))
  scan_hole (x ∷ xs) y ys e i c h = go (scan_hole xs) (zeros (words_of x)) refl (trimmed (map words_of xs)) refl
    where
      go : ((y : List ℕ) (ys : List (List ℕ)) → trimmed (map words_of xs) ≡ y ∷ ys → (i : ℕ) (c : Seen) → c.count < i → (scan form sheet s g xs i c).found ≡ 1)
          → (b : Bool) → zeros (words_of x) ≡ b → (ts : List (List ℕ)) → trimmed (map words_of xs) ≡ ts
          → (scan form sheet s g xs (suc i) (turned form sheet s g x i c)).found ≡ 1
      go later false k ts w = scan_one xs (suc i) _ (ap (λ (d : Seen). d.found) (turned_hole form sheet s g x i c k (λ n. omega arith)))
      go later true k [] w = absurd (not_nil y ys (sym e ∙ trim_last (words_of x) (map words_of xs) k w))
      go later true k (v ∷ vs) w =
          ap (λ (d : Seen). (scan form sheet s g xs (suc i) d).found) (turned_zero form sheet s g x i c k) ∙ later v vs w (suc i) c (omega arith)

  -- the records are these items, or one is none
  abbrev kept : List ItemRecord → Option (List Item)
  kept xs = items_from area (trimmed (map words_of xs))

  kept_next : (x : ItemRecord) (xs : List ItemRecord) → zeros (words_of x) ≡ false
      → kept (x ∷ xs) ≡ (item_from area (words_of x) >>? λ y. kept xs >>? λ ys. some (y ∷ ys))
  unfolding items_from
  kept_next x xs h = ap (items_from area) (trim_kept (words_of x) (map words_of xs) h)

  kept_none : (x : ItemRecord) (xs : List ItemRecord) (y : List ℕ) (ys : List (List ℕ)) → zeros (words_of x) ≡ true
      → trimmed (map words_of xs) ≡ y ∷ ys → kept (x ∷ xs) ≡ none
  unfolding items_from ◌>>?◌
  kept_none x xs y ys h k = ap (items_from area) (trim_more (words_of x) (map words_of xs) y ys k) ∙ rw (zero_none area x h)

  kept_nothing : (x : ItemRecord) (xs : List ItemRecord) → zeros (words_of x) ≡ true → trimmed (map words_of xs) ≡ [] → kept (x ∷ xs) ≡ some []
  unfolding items_from
  kept_nothing x xs h k = ap (items_from area) (trim_last (words_of x) (map words_of xs) h k)

  pub scan_items : (xs : List ItemRecord) (is : List Item) → kept xs ≡ some is
      → (i c : ℕ) → scan form sheet s g xs i (seen_to c i) ≡ seen_to (over s (sought form g) is i c) (i + length is)
  unfolding scan over items_from trimmed
  scan_items [] is e i c = let y : [] ≡ is = cc in rw (← y, add-zero i)
  scan_items (x ∷ xs) is e i c = go (scan_items xs) (zeros (words_of x)) refl (trimmed (map words_of xs)) refl
    where
      go : ((is : List Item) → kept xs ≡ some is → (i c : ℕ) → scan form sheet s g xs i (seen_to c i) ≡ seen_to (over s (sought form g) is i c) (i + length is))
          → (b : Bool) → zeros (words_of x) ≡ b → (ts : List (List ℕ)) → trimmed (map words_of xs) ≡ ts
          → scan form sheet s g xs (suc i) (turned form sheet s g x i (seen_to c i)) ≡ seen_to (over s (sought form g) is i c) (i + length is)
      go later true h [] k =
          let w : some [] ≡ some is = sym (kept_nothing x xs h k) ∙ e in
          let y : [] ≡ is = cc in
          scan_zero xs k (suc i) _ ∙ turned_zero form sheet s g x i (seen_to c i) h ∙ rw (← y, add-zero i)
      go later true h (y ∷ ys) k = absurd (none-ne-some is (sym (kept_none x xs y ys h k) ∙ e))
      go later false h ts k =
          let f = bind_some (item_from area (words_of x)) _ (sym (kept_next x xs h) ∙ e) in
          let p = bind_some (kept xs) _ f.2 in
          let w : some (f.0 ∷ p.0) ≡ some is = p.2 in
          let y : f.0 ∷ p.0 ≡ is = cc in
          let m : judged form sheet s g x i c ≡ marked (λ t. reached s i && sought form g t) i c (some f.0) = judged_as x i c (some f.0) f.1 in
          let n : i + suc (length p.0) ≡ suc i + length p.0 = omega arith in
          rw (← y, n)
          (ap (scan form sheet s g xs (suc i)) (turned_next form sheet s g x i (seen_to c i) h refl ∙ rw (add-one i, m))
          ∙ later p.0 p.1 (suc i) _)

  abbrev Bad : List ItemRecord → ℕ → Seen → Type 0
  Bad xs i c = (scan form sheet s g xs i c).found ≡ 1

  pub scan_bad : (xs : List ItemRecord) → kept xs ≡ none → (i c : ℕ) → Bad xs i (seen_to c i)
  unfolding scan items_from trimmed ◌>>?◌
  scan_bad [] e i c = absurd (none-ne-some [] (sym e))
  scan_bad (x ∷ xs) e i c = go (scan_bad xs) (zeros (words_of x)) refl (trimmed (map words_of xs)) refl (item_from area (words_of x)) refl
    where
      rest : (y : Item) (o : Option (List Item)) → kept xs ≡ o → (o >>? λ ys. some (y ∷ ys)) ≡ none → o ≡ none
      rest y none k n = refl
      rest y (some ys) k n = absurd (none-ne-some (y ∷ ys) (sym n))

      go : (kept xs ≡ none → (i c : ℕ) → Bad xs i (seen_to c i))
          → (b : Bool) → zeros (words_of x) ≡ b → (ts : List (List ℕ)) → trimmed (map words_of xs) ≡ ts
          → (o : Option Item) → item_from area (words_of x) ≡ o → Bad xs (suc i) (turned form sheet s g x i (seen_to c i))
      go later true h [] k o w = absurd (none-ne-some [] (sym e ∙ kept_nothing x xs h k))
      go later true h (y ∷ ys) k o w =
          subst (Bad xs (suc i)) (sym (turned_zero form sheet s g x i (seen_to c i) h)) (scan_hole xs y ys k (suc i) (seen_to c i) (omega arith))
      go later false h ts k none w =
          subst (Bad xs (suc i)) (sym (turned_next form sheet s g x i (seen_to c i) h refl)) (scan_one xs (suc i) _ (judged_as x i c none w ∙ none_one _ i c))
      go later false h ts k (some y) w =
          let n : (kept xs >>? λ ys. some (y ∷ ys)) ≡ none = rw w at (sym (kept_next x xs h) ∙ e) in
          subst (Bad xs (suc i)) (sym (turned_next form sheet s g x i (seen_to c i) h refl ∙ ap (seen_to (judged form sheet s g x i c)) (add-one i)))
          (later (rest y (kept xs) refl n) (suc i) _)

-- ---- as the rules search

drop_parts : {A : Type 0} (l : List A) (i : ℕ) (y : A) (ys : List A) → drop i l ≡ y ∷ ys
    → (i < length l) × (get_elem? l i ≡ some y) × (drop (suc i) l ≡ ys)
drop_parts [] zero y ys e = absurd (let z : 0 ≡ suc (length ys) = ap length e in omega arith)
drop_parts [] (suc i) y ys e = absurd (let z : 0 ≡ suc (length ys) = ap length e in omega arith)
drop_parts (x ∷ l) zero y ys e = (omega arith, cc, cc)
drop_parts (x ∷ l) (suc i) y ys e = let h = drop_parts l i y ys e in (omega (arith, h.0), h.1, h.2)

drop_nothing : {A : Type 0} (l : List A) (i : ℕ) → drop i l ≡ [] → length l ≤ i
drop_nothing [] i e = omega arith
drop_nothing (x ∷ l) zero e = absurd (let z : suc (length l) ≡ 0 = ap length e in omega arith)
drop_nothing (x ∷ l) (suc i) e = let h = drop_nothing l i e in omega arith

abbrev placed : Outcome (Option Found) → Outcome (Option ℕ)
placed o = o >>= λ f. ok (place_of f)

module _ (s : Raw) (test : Item → Bool) (is : List Item) (inside : s.end ≤ length is) where
  in_range : (i : ℕ) (p : Bool) → s.start ≤ i → i < s.end → present_at s.marks i ≡ p → reached s i ≡ p
  unfolding reached
  in_range i p a b e = rw (le-leb s.start i a, lt-ltb i s.end b) e

  before : (i : ℕ) → i < s.start → reached s i ≡ false
  unfolding reached
  before i h = rw (lt-leb s.start i h)

  behind : (i : ℕ) → s.start ≤ i → s.end ≤ i → reached s i ≡ false
  unfolding reached
  behind i a h = rw (le-leb s.start i a, le-ltb i s.end h)

  from_start : (ys : List Item) (i : ℕ) → drop i is ≡ ys → s.start ≤ i
      → placed (find_in is test (present_from s.marks (s.end - i) i)) ≡ ok (place_from (over s test ys i 0))
  unfolding find_in present_from over place_from place_of at ◌>>=◌
  from_start [] i e a =
      let h = drop_nothing is i e in
      rw (from_none s.marks s.end i (omega arith))
  from_start (y ∷ ys) i e a =
      let d = drop_parts is i y ys e in
      go d.1 (from_start ys (suc i) d.2 (omega arith)) (ltb i s.end) refl (present_at s.marks i) refl (test y) refl
    where
      go : get_elem? is i ≡ some y
          → placed (find_in is test (present_from s.marks (s.end - suc i) (suc i))) ≡ ok (place_from (over s test ys (suc i) 0))
          → (b : Bool) → ltb i s.end ≡ b → (p : Bool) → present_at s.marks i ≡ p → (t : Bool) → test y ≡ t
          → placed (find_in is test (present_from s.marks (s.end - i) i)) ≡ ok (place_from (over s test (y ∷ ys) i 0))
      go f later false b p q t w =
          let h : s.end ≤ i = ltb-false i s.end b in
          rw (over_unreached s test y ys i (behind i a h), from_none s.marks s.end i h) (sym (rw (from_none s.marks s.end (suc i) (omega arith))) ∙ later)
      go f later true b false q t w =
          let h : i < s.end = ltb-true i s.end b in
          let n : s.end - i ≡ suc (s.end - suc i) = omega arith in
          rw (over_unreached s test y ys i (in_range i false a h q), n, q) later
      go f later true b true q true w =
          let h : i < s.end = ltb-true i s.end b in
          let n : s.end - i ≡ suc (s.end - suc i) = omega arith in
          let m : i + 2 - 2 ≡ i = omega arith in
          rw (over_hit s test y ys i (in_range i true a h q) w, n, q, f, w, ne_eqb (i + 2) 0 (λ e. omega arith), m)
      go f later true b true q false w =
          let h : i < s.end = ltb-true i s.end b in
          let n : s.end - i ≡ suc (s.end - suc i) = omega arith in
          rw (over_other s test y ys i (in_range i true a h q) w, n, q, f, w) later

  from_here : (ys : List Item) (i : ℕ) → drop i is ≡ ys → i ≡ s.start
      → placed (find_in is test (present_from s.marks (s.end - s.start) s.start)) ≡ ok (place_from (over s test ys i 0))
  from_here ys i e z =
      ap (λ (k : ℕ). placed (find_in is test (present_from s.marks (s.end - k) k))) (sym z) ∙ from_start ys i e (omega arith)

  pub from_first : s.start ≤ s.end → (ys : List Item) (i : ℕ) → drop i is ≡ ys → i ≤ s.start
      → placed (find_in is test (present_from s.marks (s.end - s.start) s.start)) ≡ ok (place_from (over s test ys i 0))
  from_first o [] i e a = let l = drop_nothing is i e in from_here [] i e (omega arith)
  from_first o (y ∷ ys) i e a = ⊎_elim
      (from_here (y ∷ ys) i e)
      (λ (h : i < s.start).
      from_first o ys (suc i) (drop_parts is i y ys e).2 h ∙ ap (λ (c : ℕ). ok (place_from c)) (sym (over_unreached s test y ys i (before i h))))
      (eq-or-lt_of_le a)
