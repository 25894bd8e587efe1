-- For callers: the field that was refused with 20, and what was missing.
use mathlib.Core.Bool.{true}
use mathlib.Core.List.{List, []}
use mathlib.Core.Option.{some}
use mathlib.Core.Path.{◌≡◌, refl, sym, ◌∙◌}
use Prim.Native.Nat.{ℕ, ◌+◌, ◌<◌}
use native.Mathlib.Omega.{arith}
use lib.ListN.{get_elem?}
use borrow.Author.Tests.{eq-eqb, ne_eqb}
use Rattle.rules.specs.Form.{field_count, read_form}
use Rattle.rules.specs.Sheet.{sheet_area}
use Rattle.rules.specs.Value.{Value}
use Rattle.rules.specs.Accept.{Accepted, accepted, check_form, length_good}
use Rattle.rules.specs.Split.{Item}
use Rattle.rules.specs.Eval.{Ran as Run}
use Rattle.rules.specs.Missing.{lacking}
use Rattle.rules.specs.State.{field_mark}
use Rattle.rules.proofs.Acceptance.{accepted_length}
use Rattle.state_marks.specs.declared.Numbers.{Numbers}
use Rattle.state_marks.specs.Lent.{state_of}
use Rattle.take_search.specs.States.{Items}
use Rattle.eval_shortcut.specs.Stands.{Standing}
use Rattle.run_fields.specs.declared.Reached.{Reached}
use Rattle.run_fields.specs.Line.{Starts, missing_of, RunTold}
use Rattle.run_fields.proofs.Fields.{FieldAt, field, field_stands, few_fields, field_count_lem, lacking_here}

module _ (b known s words m : List ℕ) (p : Numbers) (first : ℕ) (o : List ℕ) (start : Starts b known s words m p first o) where
  module _ (a : Accepted) (e : check_form b ≡ accepted a) (run : List Item → Run (List Value)) (m' o' : List ℕ) (r : Reached)
      (t : RunTold run first a.fields (sheet_area s) words m p m' o o' r) where
    -- the items of the state that is left are those of the state that was given
    pub left_items : (is : List Item) → Items (sheet_area s) words p is → Items (sheet_area s) words r.numbers is
    left_items is i = (i.0, i.1 ∙ sym t.left.count)

    -- nothing is missing but with 20
    pub none_missing : (r.number ≡ 20 → ⊥) → (is : List Item) → Items (sheet_area s) words p is → missing_of (run is) ≡ []
    none_missing z is i = t.lacks is i ∙ rw (ne_eqb r.number 20 z) refl

    module _ (z : r.number ≡ 20) where
      pub refused_good : length_good b ≡ true
      refused_good = accepted_length b a e

      pub refused_inside : r.field < field_count b
      refused_inside = omega (arith, t.inside z, field_count_lem b a e)

      -- the mark of the field fits in 16 bits
      pub refused_number : 512 + (first + r.field) < 65536
      refused_number = omega (arith, start.small, refused_inside, few_fields b a e)

      module _ (n : ℕ) (h : get_elem? (read_form b).fields r.field ≡ some n) where
        pub refused_stands : Standing b known s words m' r.numbers (field_mark (first + r.field)) n
        refused_stands = field_stands b known s words m p first o start m' r.numbers t.left r.field n h

        -- with the mark that the field's number has
        pub refused_marked : (u : ℕ) → u ≡ field_mark (first + r.field) → Standing b known s words m' r.numbers u n
        refused_marked u eu = rw eu refused_stands

        -- its tree
        pub refused_field : FieldAt b a.fields r.field n
        refused_field = field b a e r.field n h

        -- what was missing is what the tree lacks in the state that is left
        pub refused_missing : (is : List Item) → Items (sheet_area s) words p is
            → missing_of (run is) ≡ lacking (field_mark (first + r.field)) is refused_field.tree (state_of m' r.numbers)
        refused_missing is i =
            t.lacks is i ∙ rw (eq-eqb r.number 20 z) (lacking_here first is a.fields r.field refused_field.tree refused_field.here (state_of m' r.numbers))
