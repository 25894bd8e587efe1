-- From a line that was run to what is looked at: its records in the item slice, and as many as the state tells.
use mathlib.Core.List.{List}
use mathlib.Core.Path.{◌≡◌, refl, sym, ap, subst, ◌∙◌}
use Prim.Native.Nat.{ℕ}
use native.Mathlib.Omega.{arith}
use lib.ListN.{length}
use Rattle.rules.specs.Sheet.{sheet_area}
use Rattle.rules.specs.Accept.{Letters}
use Rattle.rules.specs.Split.{items_of}
use Rattle.rules.specs.Run.{Report, padded}
use Rattle.rules.specs.Calls.{to_raw}
use Rattle.rules.specs.declared.State.{State as Raw}
use Rattle.rules_careful.proofs.LooksLaws.{RanLine}
use Rattle.take_search.specs.Items.{Table}
use Rattle.run.proofs.Back.{line_table}
use Rattle.careful_words.specs.Looking.{LineIs, HasLine}

module _ (l : Letters) (s : List ℕ) (ni : ℕ) (r : Report) (o : RanLine l s ni r) where
  pub ran_line : LineIs s r.items (length (items_of o.given)) l o.given
  ran_line =
      let table = line_table l s o.line ni o.made o.splits o.free o.good o.room in
      record {
        splits = o.grouped;
        clear = o.clear;
        made = o.made;
        table =
            subst (λ (w : List ℕ). Table (sheet_area s) w (items_of o.given)) (sym o.records)
            (subst (Table (sheet_area s) (padded ni o.line.records)) o.items table);
        long = refl;
        few = omega (arith, o.good.few, ap length o.items);
      }

  -- with the items as they stand in the slice, and as many as the state tells
  module _ (is : List ℕ) (here : r.items ≡ is) (x : Raw) (told : x ≡ to_raw r.state) (count : ℕ) (c : count ≡ x.count) where
    count_is : length (items_of o.given) ≡ count
    unfolding to_raw
    count_is = sym (ap length o.items) ∙ sym o.marks ∙ sym (ap (λ (z : Raw). z.count) told) ∙ sym c

    pub ran_line_is : LineIs s is count l o.given
    ran_line_is = rw (here, count_is) at ran_line

    pub ran_line_asked : HasLine s is count
    ran_line_asked = record { letters = l; given = o.given; line = ran_line_is }
