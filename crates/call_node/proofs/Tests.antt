-- The tests in their order: what each says, and the refusal where it fails.
use mathlib.Core.List.{List, [], ◌∷◌}
use mathlib.Core.Option.{Option, some, none}
use mathlib.Core.Path.{◌≡◌, refl, sym, ap, subst, ◌∙◌}
use Prim.Native.Nat.{ℕ, zero, suc, ◌≤◌, ◌<◌}
use native.Mathlib.Omega.{arith}
use lib.ListN.{length, get_elem?}
use borrow.Author.Tests.{eq-eqb, ne_eqb, le-leb, lt-leb}
use Rattle.rules.specs.Outcome.{ok, refused, ◌>>=◌, refuse}
use Rattle.rules.specs.Form.{Form, node_count, field_count}
use Rattle.rules.specs.Sheet.{sheet_area, sheet_fault}
use Rattle.rules.specs.Accept.{Checked, accepted, refused_at, Accepted, check_form}
use Rattle.rules.specs.Codes.{check_code, place_of}
use Rattle.rules.specs.Eval.{eval}
use Rattle.rules.specs.Given.{room_in, list_room_in}
use Rattle.rules.specs.Calls.{form_in, sheet_in, slice_in, items_in, state_in, from_raw, asked, eval_in}
use Rattle.std.specs.Prelude.{None, Err}
use Rattle.rules.specs.Reported.{number_of}
use Rattle.rules.specs.declared.Refusal.{Refusal as Name}
use Rattle.rules.specs.declared.Refused.{Refused}
use Rattle.rules.specs.declared.State.{State as Raw}
use Rattle.run_fields.proofs.Fields.{field_count_lem}
use Rattle.rules.proofs.Acceptance.{lookup_some, accepted_form, accepted_trees}
use Rattle.rules.proofs.GivenLaws.{check_accepted}
use Rattle.rules.proofs.CodeLaws.{place_code_lem}
use Rattle.eval_error.specs.Refusals.{refusal_of}
use Rattle.form_layout.proofs.Sizes.{nodes_length}
use Rattle.state_marks.proofs.Laws.{in_kept}
use Rattle.eval_told.proofs.NodeLaw.{at_tree}
use Rattle.call_table.specs.Given.{Holds}
use Rattle.call_node.specs.Node.{Admitted, Admits, node_mark}

past : {A : Type 0} (l : List A) (k : ℕ) → length l ≤ k → get_elem? l k ≡ none
past [] k h = refl
past (x ∷ l) zero h = absurd (omega arith)
past (x ∷ l) (suc k) h = past l k (omega arith)

module _ (b s words o l : List ℕ) (x : Raw) (k : ℕ) where
  -- a refusal at no place
  pub refusing : (n : Name) → eval_in b s words o l x k ≡ refused (refuse (number_of n) none)
      → Admits {A = Unit {0}} b s words o l x k (Err (record { refusal = n; place = None }))
  unfolding refusal_of place_of
  refusing n g = (g, omega arith)

  -- 1 to 4
  pub form_refused : (r : Refused) → r ≡ check_code (check_form b) → (r.number ≡ 0 → ⊥) → eval_in b s words o l x k ≡ refused (refusal_of r)
  unfolding eval_in form_in ◌>>=◌ refusal_of
  form_refused r e z = go (check_form b) refl
    where
      go : (c : Checked Accepted) → check_form b ≡ c → eval_in b s words o l x k ≡ refused (refusal_of r)
      go (accepted a) h = absurd (z (ap (λ (y : Refused). y.number) (e ∙ ap check_code h)))
      go (refused_at n i) h =
          let said : eval_in b s words o l x k ≡ refused (record { number = n; place = i; missing = [] }) = rw (h, form_in) in
          rw (e ∙ ap check_code h) (said ∙ ap (λ (p : Option ℕ). refused (record { number = n; place = p; missing = [] })) (sym (place_code_lem i)))

  module _ (r : Refused) (e : r ≡ check_code (check_form b)) (z : r.number ≡ 0) (f : ℕ) (ef : f ≡ sheet_fault s) where
    -- 6 and 5
    pub sheet_refused : (f ≡ 0 → ⊥) → eval_in b s words o l x k ≡ refused (refuse f none)
    unfolding eval_in form_in sheet_in ◌>>=◌
    sheet_refused h =
        let (a, y) = check_accepted b r e z in
        rw (y, form_in, ef, ne_eqb (sheet_fault s) 0 (λ i. h (ef ∙ i)))

    module _ (zf : f ≡ 0) where
      -- 7
      pub items_short : length words < 1792 → eval_in b s words o l x k ≡ refused (refuse 7 none)
      unfolding eval_in form_in sheet_in slice_in room_in ◌>>=◌
      items_short h =
          let (a, y) = check_accepted b r e z in
          rw (y, form_in, eq-eqb (sheet_fault s) 0 (sym ef ∙ zf), lt-leb 1792 (length words) h)

      module _ (long : 1792 ≤ length words) where
        pub answers_short : length o < 8240 → eval_in b s words o l x k ≡ refused (refuse 7 none)
        unfolding eval_in form_in sheet_in slice_in room_in ◌>>=◌
        answers_short h =
            let (a, y) = check_accepted b r e z in
            rw (y, form_in, eq-eqb (sheet_fault s) 0 (sym ef ∙ zf), le-leb 1792 (length words) long, lt-leb 8240 (length o) h)

        -- 14
        pub list_short : 8240 ≤ length o → length l < 192 → eval_in b s words o l x k ≡ refused (refuse 14 none)
        unfolding eval_in form_in sheet_in slice_in room_in list_room_in ◌>>=◌
        list_short room h =
            let (a, y) = check_accepted b r e z in
            rw (y, form_in, eq-eqb (sheet_fault s) 0 (sym ef ∙ zf), le-leb 1792 (length words) long, le-leb 8240 (length o) room, lt-leb 192 (length l) h)

        module _ (room : 8240 ≤ length o) (listable : 192 ≤ length l) where
          -- 30
          pub items_refused : items_in (sheet_area s) words ≡ refused (refuse 30 none) → eval_in b s words o l x k ≡ refused (refuse 30 none)
          unfolding eval_in form_in sheet_in slice_in room_in list_room_in ◌>>=◌
          items_refused h =
              let (a, y) = check_accepted b r e z in
              rw (y, form_in, eq-eqb (sheet_fault s) 0 (sym ef ∙ zf), le-leb 1792 (length words) long, le-leb 8240 (length o) room, le-leb 192 (length l) listable, h)

          module _ (count : ℕ) (holds : Holds (sheet_area s) words count) (u : ℕ) (eu : u ≡ field_count b) where
            -- 29
            pub state_refused : state_in u count x ≡ refused (refuse 29 none) → eval_in b s words o l x k ≡ refused (refuse 29 none)
            unfolding eval_in form_in sheet_in slice_in room_in list_room_in ◌>>=◌
            state_refused h =
                let (a, y) = check_accepted b r e z in
                let bad : state_in (length a.fields) count x ≡ refused (refuse 29 none) = rw (field_count_lem b a y, ← eu) h in
                rw (y, form_in, eq-eqb (sheet_fault s) 0 (sym ef ∙ zf), le-leb 1792 (length words) long, le-leb 8240 (length o) room, le-leb 192 (length l) listable, holds.read, holds.count, bad)

            module _ (fine : state_in u count x ≡ ok (from_raw x)) (n : ℕ) (en : n ≡ node_count b) where
              good : state_in (field_count b) count x ≡ ok (from_raw x)
              good = rw (← eu) fine

              -- 28
              pub node_refused : n ≤ k → eval_in b s words o l x k ≡ refused (refuse 28 none)
              unfolding eval_in form_in sheet_in slice_in room_in list_room_in asked ◌>>=◌
              node_refused h =
                  let (a, y) = check_accepted b r e z in
                  let all : length a.trees ≡ node_count b = accepted_trees b a y ∙ ap (λ (f : Form). length f.nodes) (accepted_form b a y) ∙ nodes_length b in
                  let none : get_elem? a.trees k ≡ none = past a.trees k (omega arith) in
                  let wide = le-leb 1792 (length words) long in
                  let enough = le-leb 8240 (length o) room in
                  rw (y, form_in, eq-eqb (sheet_fault s) 0 (sym ef ∙ zf), wide, enough, le-leb 192 (length l) listable, holds.read, holds.count, field_count_lem b a y, good, none)

              pub all_passed : k < n → Admitted b s words (length o) (length l) x k
              all_passed h =
                  let (a, y) = check_accepted b r e z in
                  let all : length a.trees ≡ node_count b = accepted_trees b a y ∙ ap (λ (f : Form). length f.nodes) (accepted_form b a y) ∙ nodes_length b in
                  let (u, v) = lookup_some a.trees k (omega arith) in
                  let same : count ≡ x.count = sym (in_kept (field_count b) count x good).count in
                  record {
                    result = a;
                    accepts = y;
                    made = sym ef ∙ zf;
                    wide = long;
                    room = room;
                    entries = listable;
                    holds = subst (Holds (sheet_area s) words) same holds;
                    good = subst (λ (m : ℕ). state_in (field_count b) m x ≡ ok (from_raw x)) same good;
                    tree = u;
                    node = at_tree b a y k ∙ v;
                  }

-- with every test passed the node is evaluated
pub admitted_runs :
    (b s words o l : List ℕ) (x : Raw) (k : ℕ) (i : Admitted b s words (length o) (length l) x k)
    → eval_in b s words o l x k ≡ ok (eval (node_mark b k) i.holds.items i.tree (from_raw x))
unfolding eval_in form_in sheet_in slice_in room_in list_room_in asked ◌>>=◌
admitted_runs b s words o l x k i =
    let stands : get_elem? i.result.trees k ≡ some i.tree = sym (at_tree b i.result i.accepts k) ∙ i.node in
    let wide = le-leb 1792 (length words) i.wide in
    let enough = le-leb 8240 (length o) i.room in
    let listable = le-leb 192 (length l) i.entries in
    let fields = field_count_lem b i.result i.accepts in
    let form = accepted_form b i.result i.accepts in
    rw (i.accepts, form_in, eq-eqb (sheet_fault s) 0 i.made, wide, enough, listable, i.holds.read, i.holds.count, fields, i.good, stands, form)
