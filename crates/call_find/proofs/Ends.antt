-- The start, one record and the end: each way out of their functions.
use mathlib.Core.Bool.{Bool, true, false, not, ◌&&◌, false≢true}
use mathlib.Core.List.{List, []}
use mathlib.Core.Option.{Option, some, none}
use mathlib.Core.Path.{◌≡◌, refl, sym, ap, ◌∙◌}
use Prim.Native.Nat.{ℕ, ◌+◌, ◌-◌, ◌≤◌, ◌<◌}
use native.Mathlib.Omega.{arith}
use lib.ListN.{length, get_or}
use borrow.Author.Tests.{eq-eqb, ne_eqb, lt-leb, le-leb, lt-ltb, le-ltb, not-true, not-false}
use Rattle.std.specs.Prelude.{if◌then◌else◌}
use Rattle.wire.specs.Wire.{area_start}
use Rattle.rules.specs.Base.{is_some}
use Rattle.rules.specs.Outcome.{ok, refused, refuse, ◌>>=◌}
use Rattle.rules.specs.Codes.{place_code, check_code}
use Rattle.rules.specs.Form.{field_count}
use Rattle.rules.specs.Sheet.{sheet_area, sheet_fault, argument_count}
use Rattle.rules.specs.Split.{Item}
use Rattle.rules.specs.Tree.{zeros}
use Rattle.rules.specs.State.{present, present_at}
use Rattle.rules.specs.Accept.{Checked as CheckedForm, Accepted, accepted, refused_at, check_form}
use Rattle.rules.specs.Take.{matches_arg}
use Rattle.rules.specs.Calls.{form_in, sheet_in, item_from, state_in, from_raw}
use Rattle.std.specs.Prelude.{None}
use Rattle.rules.specs.Reported.{number_of, told}
use Rattle.rules.specs.declared.Refusal.{Refusal as Name}
use Rattle.rules.specs.declared.Refused.{Refused}
use Rattle.rules.specs.declared.RefusedAt.{RefusedAt}
use Rattle.rules.proofs.ReportedLaws.{numbered}
use Rattle.call_answers.proofs.Places.{check_small}
use Rattle.rules.specs.declared.State.{State as Raw}
use Rattle.rules.proofs.Places.{present_below}
use Rattle.rules.proofs.Acceptance.{is_some_lem}
use Rattle.split_arg.specs.Items.{record_at}
use Rattle.state_marks.proofs.Laws.{in_kept}
use Rattle.state_marks.proofs.Marks.{present_at_lem}
use Rattle.form_layout.specs.Layout.{GoodNames}
use Rattle.form_codes.specs.Codes.{CodedNames, named_at}
use Rattle.take_search.specs.Search.{HasNames, HasItem}
use Rattle.rules.proofs.GivenLaws.{check_accepted, form_passed}
use Rattle.call_table.proofs.Laws.{area_length_lem}
use Rattle.call_form.specs.Keys.{Keyed}
use Rattle.call_form.specs.declared.Key.{Key}
use Rattle.call_form.proofs.Keys.{form_fields}
use Rattle.form_layout.proofs.Sizes.{accepted_names}
use Rattle.call_answers.specs.Answers.{coded, answer_with, place_or_none, plain_answer}
use Rattle.call_answers.specs.declared.Answer.{Answer}
use Rattle.call_find.specs.declared.ItemRecord.{ItemRecord}
use Rattle.call_find.specs.declared.Search.{Search}
use Rattle.call_find.specs.declared.Seen.{Seen}
use Rattle.call_find.specs.Records.{words_of}
use Rattle.call_find.specs.Scan.{StartRefused, StartReady, CanMatch, reached, ReachedAt, marked, sought, judged, seen_to, turned, place_from, ended, Finishes}
use Rattle.call_find.proofs.Scan.{turned_zero, turned_hole, turned_next}

-- ---- `is_reached`

past : (m : List ℕ) (i : ℕ) → length m ≤ i → present_at m i ≡ false
past m i h = go (present_at m i) refl
  where
    go : (b : Bool) → present_at m i ≡ b → present_at m i ≡ false
    go true e = absurd (let l = present_below m i e in omega arith)
    go false e = e

and-false : (a : Bool) → false ≡ (a && false)
and-false true = refl
and-false false = refl

module _ (s : Raw) (i a : ℕ) (ea : a ≡ s.start) where
  pub reached_before : i < a → ReachedAt s i false
  unfolding reached
  reached_before h = record { same = rw (← ea, lt-leb a i h); near = λ e. absurd (false≢true e) }

  module _ (ha : a ≤ i) (b : ℕ) (eb : b ≡ s.end) where
    pub reached_behind : b ≤ i → ReachedAt s i false
    unfolding reached
    reached_behind h = record { same = rw (← ea, ← eb, le-leb a i ha, le-ltb i b h); near = λ e. absurd (false≢true e) }

    module _ (hb : i < b) (long : length s.marks ≡ 256) where
      pub reached_past : 256 ≤ i → ReachedAt s i false
      unfolding reached
      reached_past h = record { same = rw (← ea, ← eb, le-leb a i ha, lt-ltb i b hb) (sym (past s.marks i (omega arith))); near = λ e. absurd (false≢true e) }

      pub reached_mark : i < 256 → (f : Bool) → f ≡ present (get_or s.marks i 0) → ReachedAt s i f
      unfolding reached
      reached_mark h f e = record {
        same = rw (← ea, ← eb, le-leb a i ha, lt-ltb i b hb) (e ∙ sym (present_at_lem s.marks i (omega arith)));
        near = λ e. h;
      }

-- ---- `started`

module _ (form sheet : List ℕ) where
  pub start_form : (r : RefusedAt) → told r ≡ check_code (check_form form) → StartRefused form sheet r
  unfolding form_in ◌>>=◌
  start_form r e = go (check_form form) refl
    where
      go : (c : CheckedForm Accepted) → check_form form ≡ c → StartRefused form sheet r
      go (accepted a) h = absurd (numbered r.refusal (ap (λ (y : Refused). y.number) (e ∙ ap check_code h)))
      go (refused_at n p) h =
          let same : told r ≡ record { number = n; place = place_code p } = e ∙ ap check_code h in
          record {
            refusal = record { number = n; place = p; missing = [] };
            same = rw (h, form_in) refl;
            number = ap (λ (y : Refused). y.number) same;
            place = ap (λ (y : Refused). y.place) same;
            small = check_small form (told r) e;
          }

  module _ (r : Refused) (e : r ≡ check_code (check_form form)) (z : r.number ≡ 0) where
    pub start_accepted : (a : Accepted) × (check_form form ≡ accepted a)
    start_accepted = check_accepted form r e z

    pub start_checked : GoodNames form
    start_checked = accepted_names form start_accepted.0 start_accepted.1

    pub start_sheet : (n : Name) → number_of n ≡ sheet_fault sheet → StartRefused form sheet (record { refusal = n; place = None })
    unfolding sheet_in
    start_sheet n f = record {
      refusal = refuse (number_of n) none;
      same = form_passed form start_accepted.0 (λ _. sheet_in sheet) start_accepted.1 ∙ rw (← f, ne_eqb (number_of n) 0 (numbered n));
      number = refl;
      place = refl;
      small = omega arith;
    }

    module _ (made : sheet_fault sheet ≡ 0) (fields : ℕ) (em : fields ≡ field_count form) (k : ℕ) (key : Key) (ek : Keyed form k key)
        (codes : List ℕ) (ec : CodedNames form codes) (count : ℕ) (en : count ≡ argument_count sheet) (a : ℕ) (ea : a ≡ area_start 2 count) where
      pub start_ready : StartReady form sheet k (record { area = length sheet - a; fields = fields; key = key; codes = codes })
      start_ready =
          let at = ek.at start_accepted.0 start_accepted.1 in
          record {
            result = start_accepted.0;
            accepts = start_accepted.1;
            fields = em ∙ form_fields form start_accepted.0 start_accepted.1;
            key = at;
            names = record { checked = start_checked; coded = ec; inside = at.inside };
            made = made;
            area = area_length_lem sheet made count en a ea;
          }

-- ---- `judge`

none_is : {A : Type 0} (o : Option A) → is_some o ≡ false → o ≡ none
unfolding is_some
none_is none e = refl
none_is (some a) e = absurd (false≢true (sym e))

module _ (form sheet : List ℕ) (s : Raw) (g : Search) (x : ItemRecord) (i c : ℕ) where
  module _ (a : CanMatch form sheet g) (w : List ℕ) (ew : w ≡ words_of x) (b : Bool)
      (said : (bytes : List ℕ) → length bytes ≡ g.area → b ≡ is_some (item_from bytes w)) where
    there : b ≡ is_some (item_from (sheet_area sheet) (words_of x))
    there = said (sheet_area sheet) a.area ∙ ap (λ (l : List ℕ). is_some (item_from (sheet_area sheet) l)) ew

    judged_as : (o : Option Item) → item_from (sheet_area sheet) (words_of x) ≡ o → marked (λ y. reached s i && sought form g y) i c o ≡ judged form sheet s g x i c
    unfolding judged
    judged_as o e = ap (marked (λ y. reached s i && sought form g y) i c) (sym e)

    pub judge_bad : not b ≡ true → 1 ≡ judged form sheet s g x i c
    unfolding marked
    judge_bad h = judged_as none (none_is _ (sym there ∙ not-true b h))

    module _ (t : not b ≡ false) where
      item : (y : Item) × (item_from (sheet_area sheet) (words_of x) ≡ some y)
      item = is_some_lem (item_from (sheet_area sheet) (words_of x)) (sym there ∙ not-false b t)

      pub judge_kept : (c ≡ 0 → ⊥) → c ≡ judged form sheet s g x i c
      unfolding marked
      judge_kept h = sym (rw (ne_eqb c 0 h)) ∙ judged_as (some item.0) item.1

      module _ (n : c ≡ 0) (r : Bool) (er : ReachedAt s i r) where
        pub judge_unreached : not r ≡ true → 0 ≡ judged form sheet s g x i c
        unfolding marked
        judge_unreached h =
            let e : reached s i ≡ false = sym er.same ∙ not-true r h in
            sym (rw (eq-eqb c 0 n, e)) ∙ judged_as (some item.0) item.1

        module _ (h : not r ≡ false) where
          pub judge_near : i < 256
          judge_near = er.near (not-false r h)

          pub judge_names : HasNames form g.codes g.key.names.first g.key.names.count
          judge_names = a.names

          here : item_from (sheet_area sheet) (record_at w 0) ≡ some item.0
          here = ap (λ (l : List ℕ). item_from (sheet_area sheet) (record_at l 0)) ew ∙ item.1

          pub judge_item : HasItem sheet w 0
          judge_item = record { made = a.made; room = omega (arith, ap length ew); item = item.0; here = here }

          module
              _
              (m : Bool) (em : (y : Item) → item_from (sheet_area sheet) (record_at w 0) ≡ some y → m ≡ matches_arg
              (named_at form g.key.names.first g.key.names.count) g.key.names.adjacent y) where
            same : (reached s i && sought form g item.0) ≡ m
            same =
                let e : reached s i ≡ true = sym er.same ∙ not-false r h in
                rw e (sym (em item.0 here))

            pub judge_found : m ≡ true → i + 2 ≡ judged form sheet s g x i c
            unfolding marked
            judge_found t = sym (rw (eq-eqb c 0 n, same, t)) ∙ judged_as (some item.0) item.1

            pub judge_other : m ≡ false → 0 ≡ judged form sheet s g x i c
            unfolding marked
            judge_other t = sym (rw (eq-eqb c 0 n, same, t)) ∙ judged_as (some item.0) item.1

-- ---- `turn`

module _ (form sheet : List ℕ) (s : Raw) (g : Search) (x : ItemRecord) (i : ℕ) (c : Seen) (w : List ℕ) (ew : w ≡ words_of x) (b : Bool) (eb : b ≡ zeros w) where
  as_zeros : zeros (words_of x) ≡ b
  as_zeros = ap zeros (sym ew) ∙ sym eb

  pub turn_zero : b ≡ true → c ≡ turned form sheet s g x i c
  turn_zero h = sym (turned_zero form sheet s g x i c (as_zeros ∙ h))

  module _ (h : b ≡ false) where
    pub turn_hole : (c.count ≡ i → ⊥) → seen_to 1 (i + 1) ≡ turned form sheet s g x i c
    turn_hole n = sym (turned_hole form sheet s g x i c (as_zeros ∙ h) n)

    pub turn_next : c.count ≡ i → (r : ℕ) → r ≡ judged form sheet s g x i c.found → seen_to r (i + 1) ≡ turned form sheet s g x i c
    turn_next n r e = ap (λ (d : ℕ). seen_to d (i + 1)) e ∙ sym (turned_next form sheet s g x i c (as_zeros ∙ h) n)

-- ---- `finish`

module _ (s : Raw) (g : Search) (d : Seen) (r : Answer) where
  abbrev n : ℕ
  n = d.count

  abbrev c : ℕ
  c = d.found

  by : plain_answer place_or_none (ended s n g c) ≡ some r → Finishes s g d r
  by e = e

  pub finish_bad : c ≡ 1 → r ≡ answer_with 30 0 (coded 0 0 0) → Finishes s g d r
  unfolding ended plain_answer
  finish_bad h e = by (rw (eq-eqb c 1 h) (ap some (sym e)))

  module _ (h : c ≡ 1 → ⊥) (b : Bool) (said : state_in g.fields n s ≡ (if b then ok (from_raw s) else refused (refuse 29 none))) where
    pub finish_state : not b ≡ true → r ≡ answer_with 29 0 (coded 0 0 0) → Finishes s g d r
    unfolding ended plain_answer ◌>>=◌
    finish_state t e = by (rw (ne_eqb c 1 h, said, not-true b t) (ap some (sym e)))

    module _ (t : not b ≡ false) where
      pub finish_near : n ≤ 256
      finish_near = (in_kept g.fields n s (said ∙ rw (not-false b t))).small

      pub finish_node : g.key.kind ≡ 0 → r ≡ answer_with 28 0 (coded 0 0 0) → Finishes s g d r
      unfolding ended plain_answer ◌>>=◌
      finish_node k e = by (rw (ne_eqb c 1 h, said, not-false b t, eq-eqb g.key.kind 0 k) (ap some (sym e)))

      module _ (k : g.key.kind ≡ 0 → ⊥) where
        pub finish_none : c ≡ 0 → r ≡ answer_with 0 0 (coded 0 0 0) → Finishes s g d r
        unfolding ended plain_answer place_from ◌>>=◌
        finish_none w e = by (rw (ne_eqb c 1 h, said, not-false b t, ne_eqb g.key.kind 0 k, eq-eqb c 0 w) (ap some (sym e)))

        module _ (w : c ≡ 0 → ⊥) where
          pub finish_narrow : c ≤ n + 1 → c - 2 ≤ 256
          finish_narrow l = let m = finish_near in omega arith

          pub finish_some : (v : ℕ) → v ≡ c - 2 → r ≡ answer_with 0 0 (coded 1 v 0) → Finishes s g d r
          unfolding ended plain_answer place_from ◌>>=◌
          finish_some v ev e = by (rw (ne_eqb c 1 h, said, not-false b t, ne_eqb g.key.kind 0 k, ne_eqb c 0 w, ← ev) (ap some (sym e)))
