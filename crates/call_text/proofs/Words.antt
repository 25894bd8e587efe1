-- What an answer word's text is, by each way that the tests end.
use mathlib.Core.Path.{◌≡◌, refl, sym, ap, subst, ◌∙◌}
use mathlib.Core.List.{List, []}
use mathlib.Core.Option.{Option, some, none}
use Prim.Native.Nat.{ℕ, ◌+◌, ◌-◌, ◌≤◌, ◌<◌}
use native.Mathlib.Omega.{arith}
use lib.Dec.{ltb}
use lib.ListN.{length, get_elem?, take, drop}
use borrow.Author.Tests.{eq-eqb, ne_eqb, lt-ltb, le-ltb}
use Rattle.std.specs.Prelude.{if◌then◌else◌}
use Rattle.rules.specs.Base.{◌>>?◌}
use Rattle.rules.specs.Outcome.{Outcome, ok, refused, Refusal, refuse, ◌>>=◌}
use Rattle.rules.specs.Form.{name_count, read_form}
use Rattle.rules.specs.Sheet.{sheet_area}
use Rattle.rules.specs.Split.{Item}
use Rattle.rules.specs.Take.{text_of}
use Rattle.rules.specs.Accept.{Checked, accepted, refused_at, Accepted, check_form}
use Rattle.rules.specs.Codes.{check_code, place_of}
use Rattle.rules.specs.Calls.{form_in, asked, item_from, record_text, call_text}
use Rattle.rules.specs.declared.Refused.{Refused}
use Rattle.rules.proofs.Acceptance.{lookup_some, accepted_form}
use Rattle.rules.proofs.CodeLaws.{place_code_lem, code_place}
use Rattle.split_arg.specs.Items.{record_at}
use Rattle.form_layout.specs.Layout.{HasName}
use Rattle.form_layout.proofs.Sizes.{names_length}
use Rattle.form_kinds.proofs.Steps.{lookup_none}
use Rattle.form_layout.proofs.Sizes.{has_name}
use Rattle.take_search.specs.Search.{HasItem}
use Rattle.call_table.specs.Given.{HasTable, Gives}
use Rattle.std.specs.Prelude.{Err}
use Rattle.rules.specs.Reported.{number_of}
use Rattle.rules.specs.declared.Refusal.{Refusal as Name}
use Rattle.rules.proofs.ReportedLaws.{numbered}
use Rattle.call_table.proofs.Laws.{on_table, table_refused, table_given}
use Rattle.rules.proofs.GivenLaws.{check_accepted, form_passed}
use Rattle.form_layout.proofs.Sizes.{check_names}
use Rattle.call_text.specs.declared.TextPart.{TextPart}
use Rattle.call_text.specs.Text.{text_says, TextOf, source_of, part_text, refused_part, item_part, record_part, call_part, part_told, PartOf, FindsText, TellsText}

-- what is asked for in the end
abbrev word_text : ℕ → Accepted → List Item → Option (List ℕ)
word_text w a is = if ltb w 256 then (get_elem? is w >>? λ x. some (text_of x)) else record_text a (w - 256)

abbrev word_part : List ℕ → List ℕ → List ℕ → ℕ → Accepted → List Item → Option TextPart
word_part b s words w a is = if ltb w 256 then (get_elem? is w >>? λ _. some (item_part s words w)) else record_part b a (w - 256)

abbrev refusal : ℕ → ℕ → Refusal
refusal number place = record { number = number; place = place_of place; missing = [] }

module _ (b s words : List ℕ) (w : ℕ) where
  -- the tests before it, whatever is asked for
  abbrev on_word : {A : Type 0} → (Accepted → List Item → Option A) → Outcome A
  on_word f = form_in b >>= λ a. on_table s words (λ is. asked (f a is))

  -- ---- a part for what the rules say
  part_refused : (number place : ℕ) → (number ≡ 0 → ⊥)
      → call_text b s words w ≡ refused (refusal number place)
      → call_part b s words w ≡ refused (refusal number place)
      → (x : TextPart) → x ≡ refused_part number place → PartOf b s words w x
  unfolding text_says part_text
  part_refused number place z said found x e = subst (PartOf b s words w) (sym e) (record {
    text = record {
      same = said ∙ rw (ne_eqb number 0 z);
      accepted = λ y. absurd (z y);
      refused = λ _. refl;
    };
    source = λ y. absurd (z y);
    inside = omega arith;
    nothing = λ _. refl;
    exact = ap part_told found ∙ ap (λ (c : ℕ). some (refused_part number c)) (code_place place);
  })

  part_told_lem : (l : List ℕ) (which : ℕ) (o : Option (List ℕ)) (p : Option TextPart) (x : TextPart)
      → call_text b s words w ≡ asked o
      → call_part b s words w ≡ asked p
      → source_of b s which ≡ l
      → which ≡ (if ltb w 256 then 0 else 1)
      → TellsText l which o p x
      → PartOf b s words w x
  unfolding asked place_of text_says part_text
  part_told_lem l which none p x said found el ew t = part_refused 28 0 (λ z. omega arith) said (found ∙ ap asked t.0) x t.1
  part_told_lem l which (some t) p x said found el ew f =
      let held : source_of b s x.source ≡ l = ap (source_of b s) f.source ∙ el in
      let same : part_text b s x ≡ t = ap (λ (m : List ℕ). take x.length (drop x.offset m)) held ∙ f.same in
      record {
        text = record {
          same = said ∙ rw (eq-eqb x.number 0 f.number) (ap {B = Outcome (List ℕ)} ok (sym same));
          accepted = λ _. f.place;
          refused = λ z. absurd (z f.number);
        };
        source = λ _. f.source ∙ ew;
        inside = rw held f.inside;
        nothing = λ z. absurd (z f.number);
        exact = ap part_told (found ∙ ap asked f.exact);
      }

  module _ (r : Refused) (e : r ≡ check_code (check_form b)) where
    -- 1 to 4
    form_stops : {A : Type 0} (f : Accepted → List Item → Option A) → (r.number ≡ 0 → ⊥)
        → on_word f ≡ refused (refusal r.number r.place)
    unfolding form_in ◌>>=◌
    form_stops f z = go (check_form b) refl
      where
        go : (c : Checked Accepted) → check_form b ≡ c → on_word f ≡ refused (refusal r.number r.place)
        go (accepted a) h = absurd (z (ap (λ (y : Refused). y.number) (e ∙ ap check_code h)))
        go (refused_at n k) h =
            let same = e ∙ ap check_code h in
            rw (h, form_in) (sym (ap (λ (y : Refused). refused (refusal y.number y.place)) same ∙ rw (place_code_lem k)))

    pub form_refused : (r.number ≡ 0 → ⊥) → (x : TextPart) → x ≡ refused_part r.number r.place → PartOf b s words w x
    unfolding call_text call_part
    form_refused z = part_refused r.number r.place z (form_stops (word_text w) z) (form_stops (word_part b s words w) z)

    module _ (z : r.number ≡ 0) where
      passed : (a : Accepted) × (check_form b ≡ accepted a)
      passed = check_accepted b r e z

      goes_on : {A : Type 0} (f : Accepted → List Item → Option A) → on_word f ≡ on_table s words (λ is. asked (f passed.0 is))
      goes_on f = form_passed b passed.0 (λ a. on_table s words (λ is. asked (f a is))) passed.1

      -- 6, 5, 7 and 30
      module _ (g : Name) (given : Gives s words (Err g)) where
        table_stops : {A : Type 0} (f : Accepted → List Item → Option A) → on_word f ≡ refused (refuse (number_of g) none)
        table_stops f = goes_on f ∙ table_refused s words (λ is. asked (f passed.0 is)) g given

        pub table_refuses : (x : TextPart) → x ≡ refused_part (number_of g) 0 → PartOf b s words w x
        unfolding call_text call_part place_of
        table_refuses = part_refused (number_of g) 0 (numbered g) (table_stops (word_text w)) (table_stops (word_part b s words w))

      module _ (count : ℕ) (table : HasTable s words count) where
        abbrev is : List Item
        is = table.holds.items

        table_gives : {A : Type 0} (f : Accepted → List Item → Option A) → on_word f ≡ asked (f passed.0 is)
        table_gives f = goes_on f ∙ table_given s words (λ is. asked (f passed.0 is)) count table

        text_asked : call_text b s words w ≡ asked (word_text w passed.0 is)
        unfolding call_text
        text_asked = table_gives (word_text w)

        part_asked : call_part b s words w ≡ asked (word_part b s words w passed.0 is)
        unfolding call_part
        part_asked = table_gives (word_part b s words w)

        module _ (n : ℕ) (en : n ≡ w) where
          module _ (below : n < 256) where
            text_by_item : call_text b s words w ≡ asked (get_elem? is n >>? λ x. some (text_of x))
            text_by_item = text_asked ∙ rw (lt-ltb w 256 (omega arith), en)

            part_by_item : call_part b s words w ≡ asked (get_elem? is n >>? λ _. some (item_part s words n))
            part_by_item = part_asked ∙ rw (lt-ltb w 256 (omega arith), en)

            from_sheet : (o : Option (List ℕ)) (p : Option TextPart) (x : TextPart)
                → (get_elem? is n >>? λ x. some (text_of x)) ≡ o
                → (get_elem? is n >>? λ _. some (item_part s words n)) ≡ p
                → TellsText s 0 o p x
                → PartOf b s words w x
            unfolding source_of
            from_sheet o p x k q t =
                part_told_lem s 0 o p x (text_by_item ∙ ap asked k) (part_by_item ∙ ap asked q) refl (rw (lt-ltb w 256 (omega arith))) t

            pub no_item : count ≤ n → (x : TextPart) → x ≡ refused_part 28 0 → PartOf b s words w x
            unfolding ◌>>?◌
            no_item h x q =
                let gone : get_elem? is n ≡ none = lookup_none is n (omega (arith, table.holds.count)) in
                from_sheet none none x (rw gone) (rw gone) (refl, q)

            module _ (h : n < count) where
              there : (y : Item) × (get_elem? is n ≡ some y)
              there = lookup_some is n (omega (arith, table.holds.count))

              here : item_from (sheet_area s) (record_at words n) ≡ some there.0
              here = table.holds.table.at n there.0 there.1

              pub has_item : HasItem s words n
              has_item = record {
                made = table.made;
                room = omega (arith, table.holds.table.room, table.holds.count);
                item = there.0;
                here = here;
              }

              pub item_part_lem : (x : TextPart)
                  → ((y : Item) → item_from (sheet_area s) (record_at words n) ≡ some y → FindsText s 0 (text_of y) (some (item_part s words n)) x)
                  → PartOf b s words w x
              unfolding ◌>>?◌
              item_part_lem x f =
                  from_sheet (some (text_of there.0)) (some (item_part s words n)) x (rw there.1) (rw there.1) (f there.0 here)

          module _ (above : 256 ≤ n) where
            from_form : (x : TextPart) → TellsText b 1 (record_text passed.0 (n - 256)) (record_part b passed.0 (n - 256)) x → PartOf b s words w x
            unfolding source_of
            from_form x t =
                part_told_lem b 1 (record_text passed.0 (n - 256)) (record_part b passed.0 (n - 256)) x
                (text_asked ∙ rw (le-ltb w 256 (omega arith), en)) (part_asked ∙ rw (le-ltb w 256 (omega arith), en)) refl (rw (le-ltb w 256 (omega arith))) t

            module _ (m : ℕ) (em : m ≡ name_count b) where
              pub no_record : m ≤ n - 256 → (x : TextPart) → x ≡ refused_part 28 0 → PartOf b s words w x
              unfolding record_text record_part ◌>>?◌
              no_record h x q =
                  let gone : get_elem? passed.0.form.names (n - 256) ≡ none =
                  rw (accepted_form b passed.0 passed.1) (lookup_none (read_form b).names (n - 256) (omega (arith, names_length b))) in
                  let none_there : record_text passed.0 (n - 256) ≡ none = rw gone in
                  from_form x (subst (λ (o : Option (List ℕ)). TellsText b 1 o (record_part b passed.0 (n - 256)) x) (sym none_there) (rw gone, q))

              pub has_record : n - 256 < m → HasName b (n - 256)
              has_record h = has_name b (check_names b r e z) (n - 256) m em h

              pub record_part_lem : (x : TextPart)
                  → ((a : Accepted) → a.form ≡ read_form b → TellsText b 1 (record_text a (n - 256)) (record_part b a (n - 256)) x)
                  → PartOf b s words w x
              record_part_lem x f = from_form x (f passed.0 (accepted_form b passed.0 passed.1))

-- ---- the text itself
module _ (b s words : List ℕ) (w : ℕ) (x : TextPart) (p : PartOf b s words w x) (from size : ℕ) (ef : from ≡ x.offset) (es : size ≡ x.length) where
  text_is : (l : List ℕ) → source_of b s x.source ≡ l → TextOf b s words w x.number x.place (take (from + size - from) (drop from l))
  unfolding part_text
  text_is l h =
      let z : from + size - from ≡ size = omega arith in
      rw (z, ef, es, ← h) p.text

  sheet_held : x.source ≡ 0 → source_of b s x.source ≡ s
  unfolding source_of
  sheet_held h = rw (eq-eqb x.source 0 h)

  form_held : (x.source ≡ 0 → ⊥) → source_of b s x.source ≡ b
  unfolding source_of
  form_held h = rw (ne_eqb x.source 0 h)

  pub sheet_fits : x.source ≡ 0 → from + size ≤ length s
  sheet_fits h = omega (arith, p.inside, ap length (sheet_held h))

  pub form_fits : (x.source ≡ 0 → ⊥) → from + size ≤ length b
  form_fits h = omega (arith, p.inside, ap length (form_held h))

  pub sheet_text : x.source ≡ 0 → TextOf b s words w x.number x.place (take (from + size - from) (drop from s))
  sheet_text h = text_is s (sheet_held h)

  pub form_text : (x.source ≡ 0 → ⊥) → TextOf b s words w x.number x.place (take (from + size - from) (drop from b))
  form_text h = text_is b (form_held h)
