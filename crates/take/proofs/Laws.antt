-- Laws of the takes.
use mathlib.Core.Path.{◌≡◌, refl, sym, ap, subst, ◌∙◌}
use mathlib.Core.Bool.{Bool, true, false, ◌&&◌}
use mathlib.Core.List.{List, [], ◌∷◌}
use mathlib.Core.Option.{Option, some, none}
use Prim.Native.Nat.{ℕ, suc, ◌+◌, ◌-◌, ◌*◌, ◌≤◌, ◌<◌}
use native.Mathlib.Numerals.{add-one}
use native.Mathlib.Omega.{arith}
use lib.Dec.{ltb}
use lib.ListN.{length, get_or, get_elem?}
use borrow.Author.Tests.{le-leb, ltb-true}
use types.Run.{OneOf}
use denote.Enum.Declared.{tag_of}
use Rattle.rules.specs.Outcome.{Outcome, ok, refused, fault, at, ◌>>=◌}
use Rattle.rules.specs.Tree.{Named}
use Rattle.rules.specs.Sheet.{sheet_area, sheet_fault}
use Rattle.rules.specs.Split as rules
use Rattle.rules.specs.State.{present, present_at, present_from, unused, in_scope, get, find_in, find, first, remove, with_current, current_good}
use Rattle.rules.specs.Take.{took, value_text, take_value, take_flag, take_arg, is_operand, operand, take_positional_word, is_command, take_command, take_cmd, matches_arg}
use Rattle.rules.specs.Calls.{from_raw, item_from}
use Rattle.rules.specs.Sound.{Good}
use Rattle.rules.proofs.Acceptance.{lookup_some}
use Rattle.rules.proofs.Places.{left}
use Rattle.rules.proofs.StepLaws.{current_good_lem}
use Rattle.rules.proofs.CodeLaws.{place_next}
use Rattle.rules.specs.Codes.{place_of}
use Rattle.split_arg.specs.declared.Part.{Part}
use Rattle.split_arg.specs.declared.Item.{Item}
use Rattle.split_arg.specs.declared.Item.TheVariants.{ArgWord, Word}
use Rattle.split_arg.specs.contracts.Item as T
use Rattle.split_arg.specs.Items.{record_at, item_of}
use Rattle.state_marks.specs.declared.Numbers.{Numbers}
use Rattle.state_marks.specs.Lent.{state_of, Fine, Removed, first_or}
use Rattle.state_marks.proofs.Laws.{fine_long, fine_unused, mark_at}
use Rattle.state_marks.proofs.Marks.{first_hit, first_none}
use Rattle.take_search.specs.Items.{Table, part_bytes, operand_kind}
use Rattle.take_search.specs.Search.{HasItem, HasItems, seek, Sought, Passed}
use Rattle.take_search.proofs.Items.{operand_said}
use Rattle.take_search.proofs.Search.{Hits, nothing_found, something_found, sought_all}
use Rattle.take_table.specs.Known.{TableTells}
use Rattle.take.specs.declared.Argument.{Argument}
use Rattle.std.specs.Prelude.{Some, None, Ok}
use Rattle.take_search.specs.States.{CanTake, Items, LeftState}
use Rattle.take_search.proofs.States.{left_same}
use Rattle.take.specs.Takes.{Skips, set_current, refused_at, free_below, text_part, strict_item, UsesBoth, TakesFlag, TakesArg, TakesPositional, TakesCmd}
use Rattle.take.proofs.Texts.{agrees, word_value, arg_word_value, no_value_lem}

-- ---- pieces

pub bind_assoc : {A B C : Type 0} (o : Outcome A) (f : A → Outcome B) (k : B → Outcome C) → (o >>= λ x. f x >>= k) ≡ ((o >>= f) >>= k)
unfolding ◌>>=◌
bind_assoc (ok x) f k = refl
bind_assoc (refused e) f k = refl
bind_assoc (fault e) f k = refl

pub free_inside : (m : List ℕ) (end i : ℕ) (f : Bool) → f ≡ free_below m end i → f ≡ true → i < end
unfolding free_below
free_inside m end i f ef w = ltb-true i end (left (ltb i end) (present (get_or m i 0)) (sym ef ∙ w))

pub bind_ok : {A B : Type 0} (o : Outcome A) (x : A) (k : A → Outcome B) → o ≡ ok x → (o >>= k) ≡ k x
unfolding ◌>>=◌
bind_ok o x k e = rw e

-- the first of some places is found
first_in : (is : List rules.Item) (i : ℕ) (l : List ℕ) (x : rules.Item) → get_elem? is i ≡ some x
    → find_in is (λ _. true) (i ∷ l) ≡ ok (some (record { place = i; item = x }))
unfolding find_in at ◌>>=◌
first_in is i l x e = rw e

-- `current` set to a place
pub current_set : (m : List ℕ) (p : Numbers) (i : ℕ) → with_current (some i) (state_of m p) ≡ state_of m (set_current (i + 1) p)
unfolding with_current state_of from_raw
current_set m p i = rw (place_next i)

pub current_none : (m : List ℕ) (p : Numbers) → with_current none (state_of m p) ≡ state_of m (set_current 0 p)
unfolding with_current state_of from_raw place_of
current_none m p = refl

module _ (m : List ℕ) (p : Numbers) (f : Fine m p) where
  pub set_fine : (i : ℕ) → i < p.count → Fine m (set_current (i + 1) p)
  set_fine i h = record {
    order = f.order;
    inside = f.inside;
    small = f.small;
    rest = f.rest;
    good = subst (Good p.count) (current_set m p i) (current_good_lem p.count (state_of m p) i f.good h);
  }

  pub here_fine : (i : ℕ) → i < p.count → (q : Numbers) → q ≡ set_current (i + 1) p → Fine m q
  here_fine i h q e = rw e (set_fine i h)

  pub none_fine : Fine m (set_current 0 p)
  unfolding state_of from_raw place_of current_good unused
  none_fine = record {
    order = f.order;
    inside = f.inside;
    small = f.small;
    rest = f.rest;
    good = record {
      small = f.small;
      long = f.good.long;
      order = f.good.order;
      inside = f.good.inside;
      marks = f.good.marks;
      current = refl;
      counted = f.good.counted;
    };
  }

pub left_removed : {mark : ℕ} {m : List ℕ} {p : Numbers} {i : ℕ} {m' : List ℕ} {q : Numbers} → Removed mark m p i m' q → LeftState m p m' q
left_removed r = record { count = r.count; long = r.long; fine = r.fine }

-- ---- key and value

module _ (mark : ℕ) (m : List ℕ) (p : Numbers) (key : ℕ) (at_value : Numbers) (set : at_value ≡ set_current (key + 1 + 1) p) where
  pub value_fine : Fine m p → key + 1 < p.count → Fine m at_value
  value_fine f h = rw set (set_fine m p f (key + 1) h)

  pub both_used : (m₁ : List ℕ) (q : Numbers) → Removed mark m at_value key m₁ q → (m₂ : List ℕ) (r : Numbers) → Removed mark m₁ q (key + 1) m₂ r
      → UsesBoth mark m p key m₂ r
  unfolding ◌>>=◌
  both_used m₁ q a m₂ r b =
      let s : with_current (some (suc key)) (state_of m p) ≡ state_of m at_value = rw (set, ← add-one key) (current_set m p (key + 1)) in
      let n : at_value.count ≡ p.count = ap (λ (x : Numbers). x.count) set in
      let u = b.same in
      record {
        same = rw (s, a.same, ← add-one key) u;
        left = record { count = b.count ∙ a.count ∙ n; long = b.long ∙ a.long; fine = b.fine };
      }

-- ---- where a search may begin

-- at the start of the scope nothing is skipped
pub skip_none : (area words : List ℕ) (test : rules.Item → Bool) (m : List ℕ) (p : Numbers) → Fine m p → (f : ℕ) → f ≡ p.start
    → Skips area words test m p f
skip_none area words test m p fine f e = record {
  order = omega arith;
  inside = omega (arith, fine.order);
  passed = λ k a b. absurd (omega arith);
}

-- ---- a take over items

module _ (mark : ℕ) (area words m : List ℕ) (p : Numbers) (g : CanTake area words m p mark) (a e : ℕ) (start : a ≡ p.start) (end : e ≡ p.end) where
  pub ready_order : a ≤ e
  ready_order = omega (arith, g.fine.order)

  pub ready_marked : e ≤ length m
  ready_marked = omega (arith, g.fine.inside, fine_long m p g.fine)

  pub ready_inside : (is : List rules.Item) → length is ≡ p.count → e ≤ length is
  ready_inside is l = omega (arith, g.fine.inside)

  pub ready_room : (i : ℕ) → i < e → 7 * i + 7 ≤ length words
  ready_room i h =
      let room = g.table.room in
      let l = ready_inside g.items g.same in
      omega arith

  pub ready_below : (i : ℕ) → i < e → i < p.count
  ready_below i h = omega (arith, g.fine.inside)

  pub ready_items : (s : List ℕ) → area ≡ sheet_area s → sheet_fault s ≡ 0 → (f : ℕ) → f ≤ p.end → HasItems s words m f e
  ready_items s es made f h = record {
    made = made;
    items = g.items;
    table = rw es at g.table;
    inside = ready_inside g.items g.same;
    order = omega arith;
    marked = ready_marked;
  }

  pub ready_item : (s : List ℕ) → area ≡ sheet_area s → sheet_fault s ≡ 0 → (i : ℕ) → i < e → HasItem s words i
  ready_item s es made i h =
      let l = ready_inside g.items g.same in
      let x = lookup_some g.items i (omega arith) in
      record { made = made; room = ready_room i h; item = x.0; here = subst (λ (l : List ℕ). item_from l (record_at words i) ≡ some x.0) es (g.table.at i x.0 x.1) }

  -- the unused places, as the code passes them
  places : unused (state_of m p) ≡ present_from m (e - a) a
  places = fine_unused m p g.fine ∙ sym (rw (start, end))

  found_by : (is : List rules.Item) (test : rules.Item → Bool) → find is test (state_of m p) ≡ seek is test m a e
  unfolding find
  found_by is test = ap (find_in is test) places

  module _ (test : rules.Item → Bool) (r : ℕ) (sought : Sought area words test m a e r) (is : List rules.Item) (t : Table area words is) (l : length is ≡ p.count) where
    find_nothing : e ≤ r → find is test (state_of m p) ≡ ok none
    find_nothing h = found_by is test ∙ nothing_found is test m a e r (ready_inside is l) ready_order (sought is t (ready_inside is l)) h

    find_hits : r < e → Hits is test m a e r
    find_hits h = something_found is test m a e r (ready_inside is l) ready_order (sought is t (ready_inside is l)) h

    find_something : (h : r < e) → find is test (state_of m p) ≡ ok (some (record { place = r; item = (find_hits h).item }))
    find_something h = found_by is test ∙ (find_hits h).found

  -- a search that skips places finds what the search of all does
  pub skip_sought : (test : rules.Item → Bool) (f : ℕ) → Skips area words test m p f → (r : ℕ) → Sought area words test m f e r
      → Sought area words test m a e r
  skip_sought test f k r sought =
      let o = k.order in
      let i = k.inside in
      sought_all area words test m a f e r (λ j l b. k.passed j (omega arith) b) (omega arith) (omega arith) sought

  -- a search of the scope, by its own numbers
  pub scope_sought : (test : rules.Item → Bool) (r : ℕ) → Sought area words test m a e r → Sought area words test m p.start p.end r
  scope_sought test r sought =
      subst (λ (k : ℕ). Sought area words test m p.start k r) end
      (subst (λ (k : ℕ). Sought area words test m k e r) start sought)

  pub sought_scope : (test : rules.Item → Bool) (r : ℕ) → Sought area words test m p.start p.end r → Sought area words test m a e r
  sought_scope test r sought =
      subst (λ (k : ℕ). Sought area words test m a k r) (sym end)
      (subst (λ (k : ℕ). Sought area words test m k p.end r) (sym start) sought)

  -- a search by the table of `known`
  pub known_sought : (table : List ℕ) (node from r : ℕ)
      → ((area words : List ℕ) (test : rules.Item → Bool) → TableTells table e node area words test → Sought area words test m from e r)
      → (test : rules.Item → Bool) → TableTells table p.end node area words test → Skips area words test m p from
      → Sought area words test m p.start p.end r
  known_sought table node from r found test says skips =
      scope_sought test r (skip_sought test from skips r (found area words test (rw end says)))

  -- ---- `take_flag`
  module _ (n : Named) (r : ℕ) (sought : Sought area words (matches_arg n false) m a e r) where
    pub flag_missing : e ≤ r → TakesFlag mark area words n m p m (record { found = false; numbers = p })
    unfolding take_flag ◌>>=◌
    flag_missing h = record {
      same = λ is t. rw (find_nothing (matches_arg n false) r sought is t.0 t.1 h);
      left = left_same m p g.fine;
    }

    pub flag_found : r < e → (m' : List ℕ) (q : Numbers) → Removed mark m p r m' q → TakesFlag mark area words n m p m' (record { found = true; numbers = q })
    unfolding take_flag ◌>>=◌
    flag_found h m' q d = record {
      same = λ is t. rw (find_something (matches_arg n false) r sought is t.0 t.1 h, d.same);
      left = left_removed d;
    }

  -- ---- `take_arg`
  -- a place behind the start is in scope and present as the code finds it
  scope_free : (i : ℕ) → a ≤ i → (in_scope (state_of m p) i && present_at (state_of m p).marks i) ≡ free_below m e i
  unfolding in_scope free_below state_of from_raw present_at
  scope_free i from = rw (le-leb p.start i (omega arith), ← end) (go (ltb i e) refl)
    where
      go : (b : Bool) → ltb i e ≡ b → (b && present_at (state_of m p).marks i) ≡ (b && present (get_or m i 0))
      go true h =
          let l : i < e = ltb-true i e h in
          rw (present_at, mark_at m p.count i (ready_below i l) (fine_long m p g.fine))
      go false h = refl

  module _ (is : List rules.Item) (t : Table area words is) (l : length is ≡ p.count) (i : ℕ) (from : a ≤ i) where
    get_none : free_below m e i ≡ false → get is (state_of m p) i ≡ none
    unfolding get
    get_none f = rw (scope_free i from ∙ f)

    get_some : i < e → free_below m e i ≡ true → (x : rules.Item) × (get is (state_of m p) i ≡ some x) × (item_from area (record_at words i) ≡ some x)
    unfolding get
    get_some h f =
        let k = ready_inside is l in
        let x = lookup_some is i (omega arith) in
        (x.0, rw (scope_free i from ∙ f) x.1, t.at i x.0 x.1)

  module _ (n : Named) (adjacent : Bool) (r : ℕ) (sought : Sought area words (matches_arg n adjacent) m a e r) where
    pub arg_missing : e ≤ r → TakesArg mark area words n adjacent m p m (record { value = Ok None; numbers = p })
    unfolding take_arg ◌>>=◌
    arg_missing h = record {
      same = λ is t. rw (find_nothing (matches_arg n adjacent) r sought is t.0 t.1 h);
      unchanged = tt;
      left = left_same m p g.fine;
    }

    module _ (h : r < e) where
      -- the key is found, and what stands behind it decides
      key_found : (is : List rules.Item) (t : Items area words p is) (o : Option (List ℕ)) → value_text (get is (state_of m p) (suc r)) ≡ o
          → take_arg mark is n adjacent (state_of m p) ≡ take_value mark (state_of m p) r o
      unfolding take_arg ◌>>=◌
      key_found is t o v = rw (find_something (matches_arg n adjacent) r sought is t.0 t.1 h, v)

      behind : (is : List rules.Item) (t : Items area words p is) → a ≤ suc r
      behind is t = omega (arith, (find_hits (matches_arg n adjacent) r sought is t.0 t.1 h).behind)

      refused_at_lem : ((is : List rules.Item) (t : Items area words p is) → value_text (get is (state_of m p) (suc r)) ≡ none)
          → TakesArg mark area words n adjacent m p m (refused_at r p)
      unfolding take_value
      refused_at_lem v = record {
        same = λ is t. key_found is t none (v is t);
        unchanged = (refl, refl);
        left = left_same m p g.fine;
      }

      pub no_place : (f : Bool) → f ≡ free_below m e (r + 1) → f ≡ false → (v : Argument) → v ≡ refused_at r p
          → TakesArg mark area words n adjacent m p m v
      unfolding value_text
      no_place f ef w v ev =
          let z : free_below m e (suc r) ≡ false = rw (← add-one r) (sym ef ∙ w) in
          rw ev (refused_at_lem (λ is t. rw (get_none is t.0 t.1 (suc r) (behind is t) z)))

      module _ (f : Bool) (ef : f ≡ free_below m e (r + 1)) (w : f ≡ true) where
        free_next : free_below m e (suc r) ≡ true
        free_next = rw (← add-one r) (sym ef ∙ w)

        next_below : r + 1 < e
        next_below = free_inside m e (r + 1) f ef w

        next_item : (is : List rules.Item) (t : Items area words p is)
            → (x : rules.Item) × (get is (state_of m p) (suc r) ≡ some x) × (item_from area (record_at words (r + 1)) ≡ some x)
        next_item is t =
            let b = next_below in
            let x = get_some is t.0 t.1 (suc r) (behind is t) (omega arith) free_next in
            (x.0, x.1, rw (add-one r) x.2)

        pub no_word : (item : Item) → item ≡ item_of (record_at words (r + 1)) → OneOf (0 ∷ 1 ∷ 4 ∷ []) (tag_of T.the_type item)
            → (v : Argument) → v ≡ refused_at r p → TakesArg mark area words n adjacent m p m v
        no_word item q k v ev =
            rw ev (refused_at_lem (λ is t. let x = next_item is t in rw x.1 (no_value_lem area _ x.0 x.2 item q k)))

        -- the item at the value's place is of one of two kinds
        value_taken : (t : Part) (m' : List ℕ) (left : Numbers) → UsesBoth mark m p r m' left
            → ((x : rules.Item) → item_from area (record_at words (r + 1)) ≡ some x → value_text (some x) ≡ some (part_bytes area t))
            → TakesArg mark area words n adjacent m p m' (record { value = Ok (Some (record { place = r + 1; text = t })); numbers = left })
        unfolding take_value
        value_taken t m' q u v = record {
          same = λ is i.
              let x = next_item is i in
              key_found is i (some (part_bytes area t)) (rw x.1 (v x.0 x.2))
              ∙ bind_assoc (remove mark (with_current (some (suc r)) (state_of m p)) r) _ _
              ∙ bind_ok _ (state_of m' q) _ u.same
              ∙ sym (ap (λ (k : ℕ). took (some (record { place = k; text = part_bytes area t })) (state_of m' q)) (add-one r));
          unchanged = tt;
          left = u.left;
        }

        module _ (item : Item) (q : item ≡ item_of (record_at words (r + 1))) (t : Part) (m' : List ℕ) (s : Numbers) (u : UsesBoth mark m p r m' s) where
          pub word_taken : item ≡ Word t → TakesArg mark area words n adjacent m p m' (record { value = Ok (Some (record { place = r + 1; text = t })); numbers = s })
          word_taken k = value_taken t m' s u (λ x e. word_value area _ x e item q t k)

          pub arg_word_taken : item ≡ ArgWord t → TakesArg mark area words n adjacent m p m' (record { value = Ok (Some (record { place = r + 1; text = t })); numbers = s })
          arg_word_taken k = value_taken t m' s u (λ x e. arg_word_value area _ x e item q t k)

  -- ---- `take_positional_word`
  module _ (r : ℕ) (sought : Sought area words is_operand m a e r) (is : List rules.Item) (t : Items area words p is) where
    operand_missing : e ≤ r → take_positional_word mark is (state_of m p) ≡ took none (state_of m p)
    unfolding take_positional_word ◌>>=◌
    operand_missing h = rw (find_nothing is_operand r sought is t.0 t.1 h)

    operand_taken : r < e → (here : Numbers) → here ≡ set_current (r + 1) p → (m' : List ℕ) (q : Numbers) → Removed mark m here r m' q
        → (item : Item) → item ≡ item_of (record_at words r)
        → take_positional_word mark is (state_of m p) ≡ took (some (record { place = r; strict = strict_item item; text = part_bytes area (text_part item) })) (state_of m' q)
    unfolding take_positional_word operand ◌>>=◌
    operand_taken h here set m' q d item ei =
        let x = find_hits is_operand r sought is t.0 t.1 h in
        let c : with_current (some r) (state_of m p) ≡ state_of m here = current_set m p r ∙ sym (ap (state_of m) set) in
        let k = agrees area (record_at words r) x.item (t.0.at r x.item x.there) item ei in
        rw (find_something is_operand r sought is t.0 t.1 h, c, d.same, k.strict, k.text)

  -- ---- `take_cmd`
  module _ (r : ℕ) (first_is : r ≡ first_or e (present_from m (e - a) a)) (is : List rules.Item) (t : Items area words p is) where
    first_nothing : e ≤ r → first is (state_of m p) ≡ ok none
    unfolding first find_in
    first_nothing h = found_by is (λ _. true) ∙ rw (first_none m a e r ready_order first_is h)

    first_something : r < e → (x : rules.Item) × (first is (state_of m p) ≡ ok (some (record { place = r; item = x }))) × (item_from area (record_at words r) ≡ some x)
    unfolding first
    first_something h =
        let k = ready_inside is t.1 in
        let x = lookup_some is r (omega arith) in
        (x.0, found_by is (λ _. true) ∙ ap (find_in is (λ _. true)) (first_hit m a e r ready_order first_is h).rest ∙ first_in is r _ x.0 x.1, t.0.at r x.0 x.1)

    command_missing : (word : List ℕ) → e ≤ r → take_cmd mark is word (state_of m p) ≡ took false (with_current none (state_of m p))
    unfolding take_cmd take_command is_command ◌>>=◌
    command_missing word h = rw (first_nothing h)

    module _ (word : List ℕ) (h : r < e) (c : Bool)
        (said : (x : rules.Item) → item_from area (record_at words r) ≡ some x → c ≡ is_command word (some (record { place = r; item = x }))) where
      command_other : c ≡ false → take_cmd mark is word (state_of m p) ≡ took false (with_current none (state_of m p))
      unfolding take_cmd take_command ◌>>=◌
      command_other z =
          let x = first_something h in
          let w : is_command word (some (record { place = r; item = x.0 })) ≡ false = sym (said x.0 x.2) ∙ z in
          rw (x.1, w)

      command_taken : c ≡ true → (m' : List ℕ) (q : Numbers) → Removed mark m p r m' q
          → take_cmd mark is word (state_of m p) ≡ took true (with_current (some r) (state_of m' q))
      unfolding take_cmd take_command ◌>>=◌
      command_taken z m' q d =
          let x = first_something h in
          let w : is_command word (some (record { place = r; item = x.0 })) ≡ true = sym (said x.0 x.2) ∙ z in
          rw (x.1, w, d.same)

-- ---- the records

module _ (mark : ℕ) (words m : List ℕ) (p : Numbers) (g : (area : List ℕ) × CanTake area words m p mark) (a e : ℕ) (start : a ≡ p.start) (end : e ≡ p.end) where
  -- the same state, over another area
  ready_of : (area : List ℕ) (is : List rules.Item) → Items area words p is → CanTake area words m p mark
  ready_of area is t = record { items = is; table = t.0; same = t.1; fine = g.1.fine; told = g.1.told }

  -- whether an item is an operand does not depend on the area
  pub operand_sought : (f : ℕ) → Skips g.0 words is_operand m p f → (r : ℕ) → ((area : List ℕ) → Sought area words is_operand m f e r)
      → (area : List ℕ) → Sought area words is_operand m a e r
  operand_sought f k r sought area =
      let o = k.order in
      let i = k.inside in
      sought_all area words is_operand m a f e r passed (omega arith) (omega arith) (sought area)
    where
      passed : Passed area words is_operand m a f
      passed j l b h x q =
          let o = k.inside in
          let y = lookup_some g.1.items j (omega (arith, g.1.same, g.1.fine.inside)) in
          let w = g.1.table.at j y.0 y.1 in
          let v = k.passed j (omega arith) b h y.0 w in
          let kind : Bool = operand_kind (get_or words (7 * j) 0) in
          sym (operand_said area words j kind refl x q) ∙ operand_said g.0 words j kind refl y.0 w ∙ v

  -- what is found is an operand by its kind
  pub operand_found : (r : ℕ) → ((area : List ℕ) → Sought area words is_operand m a e r) → r < e
      → operand_kind (get_or words (7 * r) 0) ≡ true
  operand_found r sought h =
      let t : Items g.0 words p g.1.items = (g.1.table, g.1.same) in
      let x = find_hits mark g.0 words m p g.1 a e start end is_operand r (sought g.0) g.1.items t.0 t.1 h in
      operand_said g.0 words r (operand_kind (get_or words (7 * r) 0)) refl x.item (t.0.at r x.item x.there) ∙ x.passes

  module _ (r : ℕ) (sought : (area : List ℕ) → Sought area words is_operand m a e r) where
    pub positional_missing : e ≤ r → (area : List ℕ) → TakesPositional mark area words m p m (record { operand = None; numbers = p })
    positional_missing h area = record {
      same = λ is t. operand_missing mark area words m p (ready_of area is t) a e start end r (sought area) is t h;
      left = left_same m p g.1.fine;
    }

    pub positional_taken : r < e → (here : Numbers) → here ≡ set_current (r + 1) p → (m' : List ℕ) (q : Numbers) → Removed mark m here r m' q
        → (b : Bool) → b ≡ strict_item (item_of (record_at words r)) → (t : Part) → t ≡ text_part (item_of (record_at words r))
        → (area : List ℕ) → TakesPositional mark area words m p m' (record { operand = Some (record { place = r; strict = b; text = t }); numbers = q })
    positional_taken h here set m' q d b eb t et area = record {
      same = λ is i. rw (eb, et) (operand_taken mark area words m p (ready_of area is i) a e start end r (sought area) is i h here set m' q d (item_of (record_at words r)) refl);
      left = record { count = d.count ∙ ap (λ (x : Numbers). x.count) set; long = d.long; fine = d.fine };
    }

module _ (mark : ℕ) (area words m : List ℕ) (p : Numbers) (g : CanTake area words m p mark) (a e : ℕ) (start : a ≡ p.start) (end : e ≡ p.end)
    (r : ℕ) (first_is : r ≡ first_or e (present_from m (e - a) a)) (word : List ℕ) where
  left_none : LeftState m p m (set_current 0 p)
  left_none = record { count = refl; long = refl; fine = none_fine m p g.fine }

  pub cmd_missing : e ≤ r → (q : Numbers) → q ≡ set_current 0 p → TakesCmd mark area words word m p m (record { found = false; numbers = q })
  cmd_missing h q eq = rw eq (record {
    same = λ is t. command_missing mark area words m p g a e start end r first_is is t word h ∙ ap (took false) (current_none m p);
    left = left_none;
  })

  module _ (h : r < e) (c : Bool)
      (said : (x : rules.Item) → item_from area (record_at words r) ≡ some x → c ≡ is_command word (some (record { place = r; item = x }))) where
    pub cmd_other : c ≡ false → (q : Numbers) → q ≡ set_current 0 p → TakesCmd mark area words word m p m (record { found = false; numbers = q })
    cmd_other z q eq = rw eq (record {
      same = λ is t. command_other mark area words m p g a e start end r first_is is t word h c said z ∙ ap (took false) (current_none m p);
      left = left_none;
    })

    pub cmd_taken : c ≡ true → (m' : List ℕ) (s : Numbers) → Removed mark m p r m' s → (q : Numbers) → q ≡ set_current (r + 1) s
        → TakesCmd mark area words word m p m' (record { found = true; numbers = q })
    cmd_taken z m' s d q eq = rw eq (record {
      same = λ is t. command_taken mark area words m p g a e start end r first_is is t word h c said z m' s d ∙ ap (took true) (current_set m' s r);
      left = record {
        count = d.count;
        long = d.long;
        fine = set_fine m' s d.fine r (omega (arith, ready_below mark area words m p g a e start end r h, d.count));
      };
    })
