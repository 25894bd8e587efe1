-- What a slice holds, and what a caller has of the input that was given.
use mathlib.Core.Path.{◌≡◌, refl, sym, ap, subst, ◌∙◌}
use mathlib.Core.Bool.{Bool, true, false, false≢true}
use mathlib.Core.List.{List, [], ◌∷◌}
use mathlib.Core.Logic.{inl}
use mathlib.Core.Option.{Option, some, none}
use Prim.Native.Nat.{ℕ, zero, suc, ◌-◌, ◌*◌, ◌/◌, ◌≤◌, ◌<◌}
use native.Mathlib.Omega.{arith}
use lib.ListN.{length, drop, get_elem?, length-drop}
use borrow.Author.Tests.{eq-eqb, ne_eqb, le-leb, lt-leb}
use Rattle.std.specs.Prelude.{if◌then◌else◌}
use Rattle.wire.specs.Wire.{area_start, area as wire_area}
use Rattle.wire.specs.Laws.{good_table, start_most}
use Rattle.rules.specs.Base.{is_some, ◌>>?◌}
use Rattle.rules.specs.Outcome.{Outcome, ok, refused, fault, refuse, Refusal, ◌>>=◌}
use Rattle.rules.specs.Sheet.{argument_count, sheet_area, sheet_fault}
use Rattle.rules.specs.Split.{Item}
use Rattle.rules.specs.State.{State}
use Rattle.rules.specs.Tree.{zeros}
use Rattle.rules.specs.Given.{room_in}
use Rattle.rules.specs.Calls.{item_from, records_in, whole_records, trimmed, items_from, items_in, sheet_in, slice_in, from_raw, state_in}
use Rattle.std.specs.Prelude.{Option as CodeOption, Some, None, Err}
use Rattle.std.specs.Option.{ok_or}
use Rattle.rules.specs.Reported.{number_of}
use Rattle.rules.specs.declared.Refusal.{Refusal as Name}
use Rattle.rules.specs.declared.Refusal.TheVariants.{BadItem}
use Rattle.rules.specs.declared.State.{State as Raw}
use Rattle.rules.proofs.Acceptance.{bind_some, lookup_some}
use Rattle.rules.proofs.Formats.{good_sheet}
use Rattle.split_arg.specs.Items.{record_at}
use Rattle.state_marks.proofs.Laws.{in_kept}
use Rattle.take_search.specs.Items.{Table}
use Rattle.take_search.proofs.Tables.{table_in_lem}
use Rattle.call_table.specs.Given.{Trims, Holds, Checks, items_given, HasTable, Gives, HasState, GivesState}

-- ---- the area

module _ (s : List ℕ) (made : sheet_fault s ≡ 0) (n : ℕ) (en : n ≡ argument_count s) where
  pub start_small : area_start 2 n < 18446744073709551616
  start_small = omega (arith, start_most 2 n (inl refl), (good_sheet s made).few)

  module _ (a : ℕ) (ea : a ≡ area_start 2 n) where
    at_start : area_start 2 (argument_count s) ≡ a
    at_start = rw (← en) (sym ea)

    pub start_within : a ≤ length s
    start_within = omega (arith, at_start, (good_table 2 (argument_count s) s (good_sheet s made).table).long)

    pub area_length_lem : length (sheet_area s) ≡ length s - a
    unfolding sheet_area wire_area
    area_length_lem = length-drop (area_start 2 (argument_count s)) s ∙ ap (λ (k : ℕ). length s - k) at_start

-- ---- the items

some_is : {A : Type 0} (o : Option A) → is_some o ≡ true → (a : A) × (o ≡ some a)
unfolding is_some
some_is none e = absurd (false≢true e)
some_is (some a) e = (a, refl)

none_is : {A : Type 0} (o : Option A) → is_some o ≡ false → o ≡ none
unfolding is_some
none_is none e = refl
none_is (some a) e = absurd (false≢true (sym e))

records_length : (n : ℕ) (l : List ℕ) → length (records_in n l) ≡ n
unfolding records_in
records_length zero l = refl
records_length (suc n) l = ap suc (records_length n (drop 7 l))

items_length : (area : List ℕ) (rs : List (List ℕ)) (is : List Item) → items_from area rs ≡ some is → length is ≡ length rs
unfolding items_from
items_length area [] is e = let z : [] ≡ is = cc in rw (← z)
items_length area (r ∷ rs) is e =
    let f = bind_some (item_from area r) _ e in
    let g = bind_some (items_from area rs) _ f.2 in
    let h : some (f.0 ∷ g.0) ≡ some is = g.2 in
    let z : f.0 ∷ g.0 ≡ is = cc in
    rw (← z) (ap suc (items_length area rs g.0 g.1))

module _ (area words : List ℕ) (n : ℕ) (t : Trims words n) where
  found_as : (b : Bool) → zeros (drop (7 * (length words / 7)) words) ≡ b → (o : Option (List Item)) → items_from area (records_in n words) ≡ o
      → (whole_records words >>? λ rs. items_from area (trimmed rs)) ≡ (if b then o else none)
  unfolding whole_records ◌>>?◌
  found_as b z o e = ap (λ (c : Bool). (if c then some (records_in (length words / 7) words) else none) >>? λ rs. items_from area (trimmed rs)) z ∙ go b
    where
      go : (c : Bool) → ((if c then some (records_in (length words / 7) words) else none) >>? λ rs. items_from area (trimmed rs)) ≡ (if c then o else none)
      go true = ap (items_from area) t.same ∙ e
      go false = refl

  read_as : (o : Option (List Item)) → (whole_records words >>? λ rs. items_from area (trimmed rs)) ≡ o
      → items_in area words ≡ (elim o [ none ↦ refused (refuse 30 none) | some is ↦ ok is ])
  unfolding items_in
  read_as o e = ap (λ (p : Option (List Item)). elim p as (λ _. Outcome (List Item)) [ none ↦ refused (refuse 30 none) | some is ↦ ok is ]) e

  module _ (b : Bool) (z : b ≡ zeros (drop (7 * (length words / 7)) words)) where
    pub holds : b ≡ true → is_some (items_from area (records_in n words)) ≡ true → Holds area words n
    holds h e =
        let f = some_is (items_from area (records_in n words)) e in
        let read : items_in area words ≡ ok f.0 = read_as (some f.0) (found_as true (sym z ∙ h) (some f.0) f.1) in
        record {
          items = f.0;
          read = read;
          count = items_length area (records_in n words) f.0 f.1 ∙ records_length n words;
          table = table_in_lem area words f.0 read;
        }

    pub holds_not : is_some (items_from area (records_in n words)) ≡ false → items_in area words ≡ refused (refuse 30 none)
    holds_not e = read_as none (found_as b (sym z) none (none_is (items_from area (records_in n words)) e) ∙ go b)
      where
        go : (c : Bool) → ◌≡◌ {A = Option (List Item)} (if c then none else none) none
        go true = refl
        go false = refl

    -- the words behind the records are not all 0
    pub checks_tail : b ≡ false → items_in area words ≡ refused (refuse 30 none)
    checks_tail h = read_as none (found_as false (sym z ∙ h) (items_from area (records_in n words)) refl)

-- ---- the input, in the order of its tests

module _ (s words : List ℕ) where
  pub given_fault : (sheet_fault s ≡ 0 → ⊥) → items_given s words ≡ refused (refuse (sheet_fault s) none)
  unfolding items_given sheet_in ◌>>=◌
  given_fault h = rw (ne_eqb (sheet_fault s) 0 h)

  pub given_short : sheet_fault s ≡ 0 → length words < 1792 → items_given s words ≡ refused (refuse 7 none)
  unfolding items_given sheet_in slice_in room_in ◌>>=◌
  given_short e h = rw (eq-eqb (sheet_fault s) 0 e, lt-leb 1792 (length words) h)

  pub given_long : sheet_fault s ≡ 0 → 1792 ≤ length words → items_given s words ≡ items_in (sheet_area s) words
  unfolding items_given sheet_in slice_in room_in ◌>>=◌
  given_long e h = rw (eq-eqb (sheet_fault s) 0 e, le-leb 1792 (length words) h)

  pub given_checked : sheet_fault s ≡ 0 → 1792 ≤ length words → (o : CodeOption ℕ) → Checks (sheet_area s) words o → Gives s words (ok_or o BadItem)
  given_checked e h (Some n) c = record { made = e; room = h; holds = c }
  given_checked e h None c = given_long e h ∙ c

  -- the items that were read
  pub items_given_lem : (n : ℕ) (t : HasTable s words n) → items_given s words ≡ ok t.holds.items
  items_given_lem n t = given_long t.made t.room ∙ t.holds.read

-- ---- with a state

bind_ok : {A B : Type 0} (o : Outcome A) (f : A → Outcome B) {a : A} → o ≡ ok a → (o >>= f) ≡ f a
unfolding ◌>>=◌
bind_ok o f e = rw e

bind_refused : {A B : Type 0} (o : Outcome A) (f : A → Outcome B) {x : Refusal} → o ≡ refused x → (o >>= f) ≡ refused x
unfolding ◌>>=◌
bind_refused o f e = rw e

module _ (fields : ℕ) (s words : List ℕ) (x : Raw) where
  pub state_fault : (e : Name) → Gives s words (Err e) → GivesState {A = Unit {0}} fields s words x (Err e)
  state_fault e g = bind_refused (items_given s words) _ g

  module _ (n : ℕ) (table : HasTable s words n) where
    pub state_bad : state_in fields n x ≡ refused (refuse 29 none) → (items_given s words >>= λ is. state_in fields (length is) x) ≡ refused (refuse 29 none)
    state_bad h = bind_ok (items_given s words) _ (items_given_lem s words n table) ∙ ap (λ (m : ℕ). state_in fields m x) table.holds.count ∙ h

    pub state_good_lem : state_in fields n x ≡ ok (from_raw x) → HasState fields s words x
    state_good_lem h =
        let z : n ≡ x.count = sym (in_kept fields n x h).count in
        record {
          table = subst (HasTable s words) z table;
          good = subst (λ (m : ℕ). state_in fields m x ≡ ok (from_raw x)) z h;
        }

-- ---- for callers: a call on items goes on with them, or is refused

-- the tests as they stand in a call
abbrev pub on_table : {B : Type 0} → List ℕ → List ℕ → (List Item → Outcome B) → Outcome B
on_table s words f = sheet_in s >>= λ area. slice_in 1792 words >>= λ l. items_in area l >>= f

bind_bind : {A B C : Type 0} (o : Outcome A) (f : A → Outcome B) (g : B → Outcome C) → (o >>= λ a. f a >>= g) ≡ (o >>= f >>= g)
unfolding ◌>>=◌
bind_bind (ok a) f g = refl
bind_bind (refused e) f g = refl
bind_bind (fault x) f g = refl

pub on_table_lem : {B : Type 0} (s words : List ℕ) (f : List Item → Outcome B) → on_table s words f ≡ (items_given s words >>= f)
unfolding items_given
on_table_lem s words f =
    ap (λ (h : List ℕ → Outcome _). sheet_in s >>= h) (λ i area. bind_bind (slice_in 1792 words) (λ l. items_in area l) f i)
    ∙ bind_bind (sheet_in s) (λ area. slice_in 1792 words >>= λ l. items_in area l) f

module _ {B : Type 0} (s words : List ℕ) (f : List Item → Outcome B) where
  pub table_refused : (e : Name) → Gives s words (Err e) → on_table s words f ≡ refused (refuse (number_of e) none)
  table_refused e g = on_table_lem s words f ∙ bind_refused (items_given s words) f g

  pub table_given : (n : ℕ) (t : HasTable s words n) → on_table s words f ≡ f t.holds.items
  table_given n t = on_table_lem s words f ∙ bind_ok (items_given s words) f (items_given_lem s words n t)

module _ {B : Type 0} (fields : ℕ) (s words : List ℕ) (x : Raw) (f : List Item → State → Outcome B) where
  pub state_refused : (n : ℕ) → (items_given s words >>= λ is. state_in fields (length is) x) ≡ refused (refuse n none)
      → on_table s words (λ is. state_in fields (length is) x >>= f is) ≡ refused (refuse n none)
  unfolding ◌>>=◌
  state_refused n g = on_table_lem s words _ ∙ go (items_given s words) g
    where
      go : (o : Outcome (List Item)) → (o >>= λ is. state_in fields (length is) x) ≡ refused (refuse n none)
          → (o >>= λ is. state_in fields (length is) x >>= f is) ≡ refused (refuse n none)
      go (ok is) e = bind_refused (state_in fields (length is) x) (f is) e
      go (refused d) e = cc
      go (fault d) e = absurd (let z : ◌≡◌ {A = ℕ} 0 1 = cc in omega arith)

  pub state_given : (h : HasState fields s words x) → on_table s words (λ is. state_in fields (length is) x >>= f is) ≡ f h.table.holds.items (from_raw x)
  state_given h =
      table_given s words _ x.count h.table
      ∙ bind_ok (state_in fields (length h.table.holds.items) x) (f h.table.holds.items)
      (ap (λ (n : ℕ). state_in fields n x) h.table.holds.count ∙ h.good)

-- the item at a place is the one of its record
pub item_at : (area words : List ℕ) (is : List Item) → Table area words is → (i : ℕ) → i < length is → item_from area (record_at words i) ≡ get_elem? is i
item_at area words is t i h =
    let x = lookup_some is i h in
    t.at i x.0 x.1 ∙ sym x.1
