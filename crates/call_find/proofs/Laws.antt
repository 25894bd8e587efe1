-- The scan of the records is the rules' search over their items; and over the records of a table of words it is the search by
-- number.
use mathlib.Core.Bool.{Bool, true, false, ◌&&◌}
use mathlib.Core.List.{List, [], ◌∷◌, map}
use mathlib.Core.Logic.{◌⊎◌, inl, inr, ⊎_elim}
use mathlib.Core.Option.{Option, some, none}
use mathlib.Core.Path.{◌≡◌, refl, sym, ap, ◌∙◌}
use Prim.Native.Nat.{ℕ, suc, ◌+◌, ◌-◌, ◌*◌, ◌≤◌, zero-le}
use native.Mathlib.Nat.{zero-add}
use native.Mathlib.Omega.{arith}
use lib.Dec.{eqb, ltb}
use lib.ListN.{length, take, drop, get_elem?}
use lib.Seq.{drop-drop}
use borrow.Author.Tests.{eq-eqb, ne_eqb, eqb-true, eqb-false, ltb-true, ltb-false}
use Rattle.std.specs.Prelude.{if◌then◌else◌}
use Rattle.rules.specs.Base.{◌>>?◌}
use Rattle.rules.specs.Outcome.{Outcome, ok, refused, fault, refuse, Refusal, ◌>>=◌}
use Rattle.rules.specs.Codes.{place_code}
use Rattle.rules.specs.Sheet.{sheet_area, sheet_fault}
use Rattle.rules.specs.Split.{Item}
use Rattle.rules.specs.State.{Found, State, state_good, unused, present_from, find_in, find}
use Rattle.rules.specs.Tree.{zeros}
use Rattle.rules.specs.Accept.{Accepted, accepted, check_form}
use Rattle.rules.specs.Take.{matches_arg}
use Rattle.rules.specs.Calls.{Key, form_in, sheet_in, item_from, items_from, records_in, trimmed, state_in, from_raw, asked, key_of}
use Rattle.rules.specs.Reported.{number_of, place_told}
use Rattle.rules.specs.declared.RefusedAt.{RefusedAt}
use Rattle.rules.specs.declared.State.{State as Raw}
use Rattle.state_marks.proofs.Laws.{in_kept}
use Rattle.state_marks.proofs.Marks.{from_take}
use Rattle.take_search.specs.Items.{Table}
use Rattle.take_search.specs.Search.{seek, Sought}
use Rattle.take_search.proofs.Search.{nothing_found, something_found}
use Rattle.rules.proofs.GivenLaws.{form_passed}
use Rattle.call_form.specs.Keys.{rules_key}
use Rattle.call_answers.specs.Answers.{coded, answer_with, place_or_none, plain_answer}
use Rattle.call_answers.specs.declared.Answer.{Answer}
use Rattle.call_find.specs.declared.ItemRecord.{ItemRecord}
use Rattle.call_find.specs.declared.Search.{Search}
use Rattle.call_find.specs.declared.Seen.{Seen}
use Rattle.call_find.specs.Records.{words_of, items_or30, record_items, place_of, call_find}
use Rattle.call_find.specs.Scan.{StartRefused, StartReady, sought, seen_to, unseen, scan, place_from, ended, Finishes}
use Rattle.call_find.proofs.Scan.{over, over_one, scan_items, scan_bad, from_first}

-- ---- refused before the records

abbrev refusal_of : {A : Type 0} → Refusal → Outcome A → Refusal
refusal_of d (ok a) = d
refusal_of d (refused e) = e
refusal_of d (fault x) = d

goes_on : {A B C : Type 0} (e : Refusal) (o : Outcome A) (f : A → Outcome B) (g : A → Outcome C)
    → ((a : A) → f a ≡ refused e → g a ≡ refused e) → (o >>= f) ≡ refused e → (o >>= g) ≡ refused e
unfolding ◌>>=◌
goes_on e (ok a) f g k h = k a h
goes_on {A} {B} {C} e (refused d) f g k h = ap {B = Outcome C} refused (ap (refusal_of e) h)
goes_on e (fault x) f g k h = absurd (let z : ◌≡◌ {A = ℕ} 0 1 = cc in omega arith)

then_refused : {A B : Type 0} (e : Refusal) (o : Outcome A) (f : A → Outcome B) → o ≡ refused e → (o >>= f) ≡ refused e
unfolding ◌>>=◌
then_refused e o f h = rw h

-- ---- items, a state, a node

-- what the call does with a state and a node
abbrev searched : List Item → Option Key → State → Outcome (Option ℕ)
searched is m u = asked m >>= λ y. find is (matches_arg y.named y.adjacent) u >>= λ f. ok (place_of f)

module _ (form sheet : List ℕ) (xs : List ItemRecord) (x : Raw) (k : ℕ) (a : Accepted) (accepts : check_form form ≡ accepted a) (made : sheet_fault sheet ≡ 0) where
  opened : (o : Option (List Item)) → items_from (sheet_area sheet) (trimmed (map words_of xs)) ≡ o
      → call_find form sheet xs x k ≡ (items_or30 o >>= λ is. state_in (length a.fields) (length is) x >>= searched is (get_elem? a.trees k >>? key_of))
  unfolding call_find record_items sheet_in ◌>>=◌
  opened o e = form_passed form a _ accepts ∙ rw (eq-eqb (sheet_fault sheet) 0 made, e)

state_case : (fields n : ℕ) (x : Raw) → (state_in fields n x ≡ ok (from_raw x)) ⊎ (state_in fields n x ≡ refused (refuse 29 none))
unfolding state_in
state_case fields n x = go (eqb x.count n && zeros (drop x.count x.marks) && state_good fields n (from_raw x))
  where
    go : (b : Bool) → ((if b then ok (from_raw x) else refused (refuse 29 none)) ≡ ok (from_raw x)) ⊎ ((if b then ok (from_raw x) else refused (refuse 29 none)) ≡ refused (refuse 29 none))
    go true = inl refl
    go false = inr refl

module _ (fields n : ℕ) (x : Raw) (good : state_in fields n x ≡ ok (from_raw x)) where
  -- the present places of all 256 marks
  all_marks : unused (from_raw x) ≡ present_from x.marks (x.end - x.start) x.start
  unfolding unused from_raw
  all_marks =
      let g = in_kept fields n x good in
      from_take x.marks x.count (x.end - x.start) x.start (omega (arith, g.order, g.inside, g.count))

  find_all : (is : List Item) (test : Item → Bool) → find is test (from_raw x) ≡ seek is test x.marks x.start x.end
  unfolding find
  find_all is test = ap (find_in is test) all_marks

  find_scan : (is : List Item) (test : Item → Bool) → length is ≡ n → (find is test (from_raw x) >>= λ f. ok (place_of f)) ≡ ok (place_from (over x test is 0 0))
  find_scan is test l =
      let g = in_kept fields n x good in
      ap (λ (o : Outcome (Option Found)). o >>= λ f. ok (place_of f)) (find_all is test)
      ∙ from_first x test is (omega (arith, g.inside, l)) g.order is 0 refl zero-le

-- ---- for `find`

module _ (form sheet : List ℕ) (xs : List ItemRecord) (x : Raw) (k : ℕ) (g : Search) (y : StartReady form sheet k g) (c : Seen)
    (ec : c ≡ scan form sheet x g xs 0 unseen) where
  abbrev node : Option Key
  node = get_elem? y.result.trees k >>? key_of

  node_none : g.key.kind ≡ 0 → node ≡ none
  node_none w = y.key.any ∙ rw (eq-eqb g.key.kind 0 w)

  node_some : (g.key.kind ≡ 0 → ⊥) → node ≡ some (rules_key form g.key)
  node_some w = y.key.any ∙ rw (ne_eqb g.key.kind 0 w)

  ended_bad : c.found ≡ 1 → ended x c.count g c.found ≡ refused (refuse 30 none)
  unfolding ended
  ended_bad w = rw (eq-eqb c.found 1 w)

  ended_state : (c.found ≡ 1 → ⊥) → state_in g.fields c.count x ≡ refused (refuse 29 none) → ended x c.count g c.found ≡ refused (refuse 29 none)
  unfolding ended ◌>>=◌
  ended_state w e = rw (ne_eqb c.found 1 w, e)

  ended_node : (c.found ≡ 1 → ⊥) → state_in g.fields c.count x ≡ ok (from_raw x) → g.key.kind ≡ 0 → ended x c.count g c.found ≡ refused (refuse 28 none)
  unfolding ended ◌>>=◌
  ended_node w e v = rw (ne_eqb c.found 1 w, e, eq-eqb g.key.kind 0 v)

  ended_some : (c.found ≡ 1 → ⊥) → state_in g.fields c.count x ≡ ok (from_raw x) → (g.key.kind ≡ 0 → ⊥) → ended x c.count g c.found ≡ ok (place_from c.found)
  unfolding ended ◌>>=◌
  ended_some w e v = rw (ne_eqb c.found 1 w, e, ne_eqb g.key.kind 0 v)

  module _ (is : List Item) (e : items_from (sheet_area sheet) (trimmed (map words_of xs)) ≡ some is) where
    scanned : c ≡ seen_to (over x (sought form g) is 0 0) (length is)
    scanned = ec ∙ scan_items form sheet x g xs is e 0 0 ∙ rw (zero-add (length is))

    as_over : c.found ≡ over x (sought form g) is 0 0
    as_over = ap (λ (d : Seen). d.found) scanned

    not_one : c.found ≡ 1 → ⊥
    not_one w = over_one x (sought form g) is 0 (sym as_over ∙ w)

    long : length is ≡ c.count
    long = sym (ap (λ (d : Seen). d.count) scanned)

    call_is : call_find form sheet xs x k ≡ (state_in g.fields c.count x >>= searched is node)
    unfolding items_or30 ◌>>=◌
    call_is =
        opened form sheet xs x k y.result y.accepts y.made (some is) e
        ∙ ap (λ (m : ℕ). state_in m (length is) x >>= searched is node) (sym y.fields) ∙ ap (λ (m : ℕ). state_in g.fields m x >>= searched is node) long

    by_state : (state_in g.fields c.count x ≡ ok (from_raw x)) → (b : Bool) → eqb g.key.kind 0 ≡ b → call_find form sheet xs x k ≡ ended x c.count g c.found
    unfolding asked ◌>>=◌
    by_state h true w =
        let v = eqb-true g.key.kind 0 w in
        call_is ∙ rw (h, node_none v) (sym (ended_node not_one h v))
    by_state h false w =
        let v = eqb-false g.key.kind 0 w in
        call_is ∙ rw (h, node_some v) (find_scan g.fields c.count x h is (sought form g) long ∙ ap (λ (m : ℕ). ok (place_from m)) (sym as_over) ∙ sym (ended_some not_one h v))

    over_items : call_find form sheet xs x k ≡ ended x c.count g c.found
    unfolding ◌>>=◌
    over_items = ⊎_elim
        (λ (h : state_in g.fields c.count x ≡ ok (from_raw x)). by_state h (eqb g.key.kind 0) refl)
        (λ (h : state_in g.fields c.count x ≡ refused (refuse 29 none)). call_is ∙ rw h (sym (ended_state not_one h)))
        (state_case g.fields c.count x)

  call_ended : call_find form sheet xs x k ≡ ended x c.count g c.found
  unfolding items_or30 ◌>>=◌
  call_ended = go (items_from (sheet_area sheet) (trimmed (map words_of xs))) refl
    where
      go : (o : Option (List Item)) → items_from (sheet_area sheet) (trimmed (map words_of xs)) ≡ o → call_find form sheet xs x k ≡ ended x c.count g c.found
      go none e =
          opened form sheet xs x k y.result y.accepts y.made none e
          ∙ sym (ended_bad (ap (λ (d : Seen). d.found) ec ∙ scan_bad form sheet x g xs e 0 0))
      go (some is) e = over_items is e

pub stopped : (form sheet : List ℕ) (xs : List ItemRecord) (x : Raw) (k : ℕ) (e : RefusedAt) → StartRefused form sheet e
    → (r : Answer) → r ≡ answer_with (number_of e.refusal) (place_told e.place) (coded 0 0 0) → plain_answer place_or_none (call_find form sheet xs x k) ≡ some r
unfolding call_find plain_answer
stopped form sheet xs x k e b r h =
    let f : call_find form sheet xs x k ≡ refused b.refusal =
    goes_on b.refusal (form_in form) _ _ (λ a h. then_refused b.refusal (sheet_in sheet) _ h) b.same in
    let n : answer_with b.refusal.number (place_code b.refusal.place) (coded 0 0 0) ≡ r = sym (rw (← b.number, ← b.place) h) in
    ap (plain_answer place_or_none) f ∙ ap some n

pub found_by : (form sheet : List ℕ) (xs : List ItemRecord) (x : Raw) (k : ℕ) (g : Search) → StartReady form sheet k g
    → (c : Seen) → c ≡ scan form sheet x g xs 0 unseen → (r : Answer) → Finishes x g c r → plain_answer place_or_none (call_find form sheet xs x k) ≡ some r
found_by form sheet xs x k g st c ec r fin = ap (plain_answer place_or_none) (call_ended form sheet xs x k g st c ec) ∙ fin

-- ---- over a table of words

records_items : (area : List ℕ) (is : List Item) (words : List ℕ) → ((i : ℕ) (x : Item) → get_elem? is i ≡ some x → item_from area (take 7 (drop (7 * i) words)) ≡ some x)
    → items_from area (records_in (length is) words) ≡ some is
unfolding items_from records_in ◌>>?◌
records_items area [] words h = refl
records_items area (y ∷ is) words h =
    rw (
      h 0 y refl,
      records_items area is (drop 7 words) (λ i x e.
          let n : 7 * suc i ≡ 7 + 7 * i = omega arith in
          let d : drop (7 * suc i) words ≡ drop (7 * i) (drop 7 words) = rw n (sym (drop-drop (7 * i) 7 words)) in
          rw d at (h (suc i) x e)),
    )

-- the place that a search by number answered, if it is below the end
unfoldable pub place_below : ℕ → ℕ → Option ℕ
place_below r end = if ltb r end then some r else none

module _ (form sheet words : List ℕ) (is : List Item) (t : Table (sheet_area sheet) words is) (xs : List ItemRecord) (same : trimmed (map words_of xs) ≡ records_in (length is) words) where
  -- the records are the table's items
  pub table_items : items_from (sheet_area sheet) (trimmed (map words_of xs)) ≡ some is
  table_items = ap (items_from (sheet_area sheet)) same ∙ records_items (sheet_area sheet) is words t.at

  module _ (a : Accepted) (accepts : check_form form ≡ accepted a) (made : sheet_fault sheet ≡ 0) (x : Raw)
      (good : state_in (length a.fields) (length is) x ≡ ok (from_raw x)) (k : ℕ) (m : Key) (node : (get_elem? a.trees k >>? key_of) ≡ some m) where
    -- what `find_named` answers over the words is what the search over the records finds
    pub by_number : (r : ℕ) → Sought (sheet_area sheet) words (matches_arg m.named m.adjacent) x.marks x.start x.end r
        → call_find form sheet xs x k ≡ ok (place_below r x.end)
    unfolding items_or30 asked place_of place_below ◌>>=◌
    by_number r s =
        opened form sheet xs x k a accepts made (some is) table_items
        ∙ rw (good, node, find_all (length a.fields) (length is) x good is test) (go (ltb r x.end) refl)
      where
        test : Item → Bool
        test = matches_arg m.named m.adjacent

        kept : (x.start ≤ x.end) × (x.end ≤ length is)
        kept = let g = in_kept (length a.fields) (length is) x good in (g.order, g.inside)

        go : (b : Bool) → ltb r x.end ≡ b → (seek is test x.marks x.start x.end >>= λ f. ok (place_of f)) ≡ ok (if b then some r else none)
        go true e = rw (something_found is test x.marks x.start x.end r kept.1 kept.0 (s is t kept.1) (ltb-true r x.end e)).found
        go false e = rw (nothing_found is test x.marks x.start x.end r kept.1 kept.0 (s is t kept.1) (ltb-false r x.end e))
