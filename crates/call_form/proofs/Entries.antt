-- The entry points: refused by a test, refused with 28, or answered.
use mathlib.Core.Bool.{Bool, true, false, not, false≢true}
use mathlib.Core.List.{List}
use mathlib.Core.Option.{Option, some, none}
use mathlib.Core.Path.{◌≡◌, refl, sym, ap, ◌∙◌}
use Prim.Native.Nat.{ℕ, ◌+◌, ◌≤◌, ◌<◌}
use native.Mathlib.Omega.{arith}
use lib.ListN.{length, get_elem?}
use borrow.Author.Tests.{eq-eqb, ne_eqb, not-true, not-false}
use Rattle.rules.specs.Base.{is_some, ◌>>?◌}
use Rattle.rules.specs.Outcome.{Outcome, refused, ◌>>=◌, refuse}
use Rattle.rules.specs.Form.{field_count, name_count, read_form}
use Rattle.rules.specs.Sheet.{sheet_area}
use Rattle.rules.specs.Split.{Item}
use Rattle.rules.specs.State.{State, command_mark, field_mark}
use Rattle.rules.specs.Accept.{accepted, Accepted, check_form}
use Rattle.rules.specs.Take.{Took, took, matches_arg, take_flag, take_arg, take_cmd}
use Rattle.rules.specs.Calls.{from_raw, item_from, asked, mark_in, handed, on_form, flag_names, argument_key, key_of, call_matches, call_take_flag, call_take_arg, call_take_cmd}
use Rattle.rules.specs.Reported.{number_of, place_told}
use Rattle.rules.specs.declared.RefusedAt.{RefusedAt}
use Rattle.rules.specs.declared.State.{State as Raw}
use Rattle.rules.proofs.Acceptance.{lookup_some}
use Rattle.form_layout.specs.Layout.{HasName, name_bytes_at, GoodNames}
use Rattle.split_arg.specs.Items.{record_at}
use Rattle.state_marks.specs.Lent.{numbers_of}
use Rattle.take_search.specs.Items.{Table}
use Rattle.take_search.specs.Search.{HasItem}
use Rattle.take_search.specs.States.{Items}
use Rattle.call_answers.specs.Answers.{Coded, coded, coded_or0, yes_code, taken_code, answer_with, state_with, answer_of, state_answer_of}
use Rattle.call_answers.specs.declared.Answer.{Answer}
use Rattle.call_answers.specs.declared.StateAnswer.{StateAnswer}
use Rattle.call_table.specs.Given.{HasState}
use Rattle.rules.proofs.GivenLaws.{no_field, field_there}
use Rattle.call_form.specs.Given.{HasForm, given_in, Refuses}
use Rattle.call_form.specs.Keys.{key_names, rules_key, KeyAt, Keyed, command_at}
use Rattle.call_form.specs.Answered.{TakeAnswer, TestAnswer}
use Rattle.call_form.specs.declared.Key.{Key}
use Rattle.form_layout.proofs.Sizes.{sized, accepted_names}
use Rattle.call_form.proofs.Tests.{refused_state, refused_answer, passed}
use Rattle.call_form.proofs.Keys.{past, form_long, form_eight, form_fields, command_name_lem, command_word, has_name}

-- what a call asks of the form or of the items is there, or it is refused
asked_none : {A B : Type 0} (o : Option A) (g : A → Outcome B) → o ≡ none → (asked o >>= g) ≡ refused (refuse 28 none)
unfolding asked ◌>>=◌
asked_none o g e = rw e

asked_some : {A B : Type 0} (o : Option A) (g : A → Outcome B) (a : A) → o ≡ some a → (asked o >>= g) ≡ g a
unfolding asked ◌>>=◌
asked_some o g a e = rw e

marked_none : {B : Type 0} (n k : ℕ) (g : ℕ → Outcome B) → n ≤ k → (mark_in n k >>= g) ≡ refused (refuse 28 none)
unfolding ◌>>=◌
marked_none n k g h = rw (no_field n k h)

marked_some : {B : Type 0} (n k : ℕ) (g : ℕ → Outcome B) → k < n → (mark : ℕ) → mark ≡ field_mark k → (mark_in n k >>= g) ≡ g mark
unfolding ◌>>=◌
marked_some n k g h mark e = rw (field_there n k h, e)

is_none : {A : Type 0} (o : Option A) → is_some o ≡ false → o ≡ none
unfolding is_some
is_none none e = refl
is_none (some a) e = absurd (false≢true (sym e))

-- ---- refused by a test
module _ (form sheet words : List ℕ) (x : Raw) (r : RefusedAt) (t : Refuses (given_in form sheet words x) r) (k : ℕ) where
  module _ (y : StateAnswer) (h : y ≡ state_with (number_of r.refusal) (place_told r.place) (coded 0 0 0) x) where
    pub flag_refused : (j : ℕ) → state_answer_of yes_code (call_take_flag form sheet words x k j) ≡ some y
    unfolding call_take_flag
    flag_refused j = refused_state form sheet words x _ yes_code r t ∙ ap some (sym h)

    pub arg_refused : (j : ℕ) → state_answer_of taken_code (call_take_arg form sheet words x k j) ≡ some y
    unfolding call_take_arg
    arg_refused j = refused_state form sheet words x _ taken_code r t ∙ ap some (sym h)

    pub cmd_refused : state_answer_of yes_code (call_take_cmd form sheet words x k) ≡ some y
    unfolding call_take_cmd
    cmd_refused = refused_state form sheet words x _ yes_code r t ∙ ap some (sym h)

  pub matches_refused : (i : ℕ) (y : Answer) → y ≡ answer_with (number_of r.refusal) (place_told r.place) (coded 0 0 0) → answer_of yes_code (call_matches form sheet words x k i) ≡ some y
  unfolding call_matches
  matches_refused i y h = refused_answer form sheet words x _ yes_code r t ∙ ap some (sym h)

-- ---- past the tests
module _ (form sheet words : List ℕ) (x : Raw) (t : HasForm form sheet words x) where
  pub tests_state : HasState (length t.result.fields) sheet words x
  tests_state = t.state

  pub tests_accepted : (a : Accepted) × (check_form form ≡ accepted a)
  tests_accepted = (t.result, t.accepts)

  pub tests_eight : 8 ≤ length form
  tests_eight = form_eight form tests_accepted

  -- the mark of a field, as the code has it
  pub mark_small : (j fields : ℕ) → fields ≡ field_count form → j < fields → 512 + j < 65536
  mark_small j fields e h = omega (arith, (sized form (form_long form tests_accepted)).counts.fields.1)

  pub tests_names : GoodNames form
  tests_names = accepted_names form t.result t.accepts

  abbrev these : List Item
  these = t.state.table.holds.items

  table_here : Table (sheet_area sheet) words these
  table_here = t.state.table.holds.table

  count_here : length these ≡ x.count
  count_here = t.state.table.holds.count

  items_here : Items (sheet_area sheet) words (numbers_of x) these
  items_here = (table_here, count_here)

  module _ {A : Type 0} (f : Accepted → List Item → State → Outcome (Took A)) where
    done : {B : Type 0} (g : Outcome _ → B) (o : Outcome (Took A)) → f t.result these (from_raw x) ≡ o → g (on_form form sheet words x f) ≡ g (handed x o)
    done g o e = ap g (passed form sheet words x f t ∙ ap (handed x) e)

    none_state : (code : A → Coded) → f t.result these (from_raw x) ≡ refused (refuse 28 none)
        → (y : StateAnswer) → y ≡ state_with 28 0 (coded 0 0 0) x → state_answer_of code (on_form form sheet words x f) ≡ some y
    unfolding state_answer_of handed coded_or0
    none_state code e y h = done (state_answer_of code) _ e ∙ ap some (sym h)

    none_answer : (code : A → Coded) → f t.result these (from_raw x) ≡ refused (refuse 28 none)
        → (y : Answer) → y ≡ answer_with 28 0 (coded 0 0 0) → answer_of code (on_form form sheet words x f) ≡ some y
    unfolding answer_of handed coded_or0
    none_answer code e y h = done (answer_of code) _ e ∙ ap some (sym h)

  -- ---- nodes
  module _ (k : ℕ) (key : Key) (n : Keyed form k key) where
    here : KeyAt form t.result k key
    here = n.at t.result t.accepts

    pub key_inside : key.names.first + key.names.count ≤ name_count form
    key_inside = here.inside

    module _ (j : ℕ) (y : StateAnswer) where
      pub flag_none : (key.kind ≡ 1 → ⊥) → y ≡ state_with 28 0 (coded 0 0 0) x → state_answer_of yes_code (call_take_flag form sheet words x k j) ≡ some y
      unfolding call_take_flag
      flag_none w = none_state _ yes_code (asked_none _ _ (here.flag ∙ rw (ne_eqb key.kind 1 w))) y

      pub arg_none : (key.kind ≡ 2 → ⊥) → y ≡ state_with 28 0 (coded 0 0 0) x → state_answer_of taken_code (call_take_arg form sheet words x k j) ≡ some y
      unfolding call_take_arg
      arg_none w = none_state _ taken_code (asked_none _ _ (here.argument ∙ rw (ne_eqb key.kind 2 w))) y

      module _ (fields : ℕ) (count : fields ≡ field_count form) where
        of_form : fields ≡ length t.result.fields
        of_form = count ∙ form_fields form t.result t.accepts

        module _ (w : key.kind ≡ 1) where
          flag_names_lem : (get_elem? t.result.trees k >>? flag_names) ≡ some (key_names form key)
          flag_names_lem = here.flag ∙ rw (eq-eqb key.kind 1 w)

          pub flag_beyond : fields ≤ j → y ≡ state_with 28 0 (coded 0 0 0) x → state_answer_of yes_code (call_take_flag form sheet words x k j) ≡ some y
          unfolding call_take_flag
          flag_beyond h = none_state _ yes_code
              (asked_some _ _ (key_names form key) flag_names_lem ∙ marked_none _ j _ (omega (arith, h, of_form))) y

          pub flag_some : j < fields → (mark : ℕ) → mark ≡ field_mark j
              → TakeAnswer yes_code sheet words x (λ is. take_flag mark is (key_names form key) (from_raw x)) y
              → state_answer_of yes_code (call_take_flag form sheet words x k j) ≡ some y
          unfolding call_take_flag
          flag_some h mark e says =
              done _ (state_answer_of yes_code) _
              (asked_some _ _ (key_names form key) flag_names_lem ∙ marked_some _ j _ (omega (arith, h, of_form)) mark e)
              ∙ says.same these items_here

        module _ (w : key.kind ≡ 2) where
          argument_key_lem : (get_elem? t.result.trees k >>? argument_key) ≡ some (rules_key form key)
          argument_key_lem = here.argument ∙ rw (eq-eqb key.kind 2 w)

          pub arg_beyond : fields ≤ j → y ≡ state_with 28 0 (coded 0 0 0) x → state_answer_of taken_code (call_take_arg form sheet words x k j) ≡ some y
          unfolding call_take_arg
          arg_beyond h = none_state _ taken_code
              (asked_some _ _ (rules_key form key) argument_key_lem ∙ marked_none _ j _ (omega (arith, h, of_form))) y

          pub arg_some : j < fields → (mark : ℕ) → mark ≡ field_mark j
              → TakeAnswer taken_code sheet words x (λ is. take_arg mark is (key_names form key) key.names.adjacent (from_raw x)) y
              → state_answer_of taken_code (call_take_arg form sheet words x k j) ≡ some y
          unfolding call_take_arg
          arg_some h mark e says =
              done _ (state_answer_of taken_code) _
              (asked_some _ _ (rules_key form key) argument_key_lem ∙ marked_some _ j _ (omega (arith, h, of_form)) mark e)
              ∙ says.same these items_here

    module _ (i : ℕ) (y : Answer) where
      pub matches_none : key.kind ≡ 0 → y ≡ answer_with 28 0 (coded 0 0 0) → answer_of yes_code (call_matches form sheet words x k i) ≡ some y
      unfolding call_matches
      matches_none w = none_answer _ yes_code (asked_none _ _ (here.any ∙ rw (eq-eqb key.kind 0 w))) y

      module _ (w : key.kind ≡ 0 → ⊥) (c : ℕ) (e : c ≡ x.count) where
        key_some : (get_elem? t.result.trees k >>? key_of) ≡ some (rules_key form key)
        key_some = here.any ∙ rw (ne_eqb key.kind 0 w)

        pub matches_past : c ≤ i → y ≡ answer_with 28 0 (coded 0 0 0) → answer_of yes_code (call_matches form sheet words x k i) ≡ some y
        unfolding call_matches
        matches_past h = none_answer _ yes_code
            (asked_some _ _ (rules_key form key) key_some ∙ asked_none _ _ (past these i (omega (arith, h, e, count_here)))) y

        module _ (h : i < c) where
          item : (v : Item) × (get_elem? these i ≡ some v)
          item = lookup_some these i (omega (arith, h, e, count_here))

          from_here : item_from (sheet_area sheet) (record_at words i) ≡ some item.0
          from_here = table_here.at i item.0 item.1

          pub has_item : HasItem sheet words i
          has_item = record {
            made = t.state.table.made;
            room = omega (arith, h, e, count_here, table_here.room);
            item = item.0;
            here = from_here;
          }

          pub matches_some : TestAnswer sheet words i (matches_arg (key_names form key) key.names.adjacent) y
              → answer_of yes_code (call_matches form sheet words x k i) ≡ some y
          unfolding call_matches answer_of handed took coded_or0
          matches_some says =
              done _ (answer_of yes_code) _ (asked_some _ _ (rules_key form key) key_some ∙ asked_some _ _ item.0 item.1)
              ∙ ap some (sym (says.same item.0 from_here))

  -- ---- commands
  module _ (k : ℕ) (b : Bool) (e : b ≡ is_some (command_at form k)) where
    pub cmd_none : not b ≡ true → (y : StateAnswer) → y ≡ state_with 28 0 (coded 0 0 0) x → state_answer_of yes_code (call_take_cmd form sheet words x k) ≡ some y
    unfolding call_take_cmd
    cmd_none w = none_state _ yes_code (asked_none _ _ (command_name_lem form k t.result t.accepts ∙ is_none (command_at form k) (sym e ∙ not-true b w)))

    module _ (w : not b ≡ false) where
      pub cmd_there : is_some (command_at form k) ≡ true
      cmd_there = sym e ∙ not-false b w

      pub cmd_name : HasName form k
      cmd_name = has_name form k cmd_there t.result t.accepts

      pub cmd_some : (word : List ℕ) → name_bytes_at (read_form form) k ≡ some word → (y : StateAnswer) → TakeAnswer yes_code sheet words x (λ is. take_cmd command_mark is word (from_raw x)) y
          → state_answer_of yes_code (call_take_cmd form sheet words x k) ≡ some y
      unfolding call_take_cmd
      cmd_some word v y h =
          done _ (state_answer_of yes_code) _ (asked_some _ _ word (command_name_lem form k t.result t.accepts ∙ command_word form k cmd_there word v))
          ∙ h.same these items_here
