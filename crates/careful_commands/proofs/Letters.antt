-- From the record of a word that is misread to its first letter that no option of any form has.
use mathlib.Core.Bool.{true≢false}
use mathlib.Core.List.{List, [], ◌∷◌}
use mathlib.Core.Option.{some}
use mathlib.Core.Path.{◌≡◌, sym, ap, ◌∙◌}
use Prim.Native.Nat.{ℕ, ◌+◌, ◌-◌, ◌*◌, ◌≤◌}
use native.Mathlib.Omega.{arith}
use lib.ListN.{length, take}
use types.Run.{OneOf}
use denote.Enum.Declared.{tag_of}
use Rattle.rules.specs.Base.{◌>>?◌, same}
use Rattle.rules.specs.Sheet.{sheet_area, arguments}
use Rattle.rules.specs.Split as rules
use Rattle.rules.specs.Split.{items_of}
use Rattle.rules.specs.Calls.{item_from}
use Rattle.rules.specs.Codes.{place_code}
use Rattle.rules.specs.Commands.{table_letters}
use Rattle.rules.specs.Why.{is_whole}
use Rattle.rules.proofs.Acceptance.{lookup_inside}
use Rattle.rules.proofs.SplitLaws.{same_self}
use Rattle.rules_careful.specs.Careful.{misread_letter}
use Rattle.rules_careful.proofs.LooksLines.{WholeWord, misread_whole}
use Rattle.split_arg.specs.Clusters.{letters}
use Rattle.split_arg.specs.declared.Part.{Part}
use Rattle.split_arg.specs.declared.Item.{Item}
use Rattle.split_arg.specs.declared.Item.TheVariants.{Word}
use Rattle.split_arg.specs.contracts.Item as T
use Rattle.split_arg.specs.Items.{record_at, item_of}
use Rattle.take_search.specs.Items.{part_bytes, HasPart}
use Rattle.take_search.proofs.Items.{is_word}
use Rattle.command_letters.specs.Gather.{Gathered}
use Rattle.command_letters.proofs.Tables.{same_as_table}
use Rattle.std.specs.Prelude.{Option as CodeOption, None}
use Rattle.why_letter.specs.Withdrawn.{ClusterTold}
use Rattle.why_letter.proofs.Laws.{none_small}
use Rattle.why_letter.proofs.Clusters.{told_same, other_not_whole}
use Rattle.careful.specs.Looked.{letter_code}
use Rattle.careful_commands.specs.Looked.{MisreadPlace, MisreadTold}

module _ (t s words : List ℕ) (i : ℕ) where
  whole : (p : MisreadPlace t s words i) → WholeWord (table_letters p.forms.forms) (arguments s) p.given i
  whole p = misread_whole (table_letters p.forms.forms) (arguments s) p.given p.line.splits p.line.clear i p.misread

  record_is : (p : MisreadPlace t s words i) → item_from (sheet_area s) (record_at words i) ≡ some (rules.Word (whole p).text)
  record_is p = p.line.table.at i (rules.Word (whole p).text) (whole p).item

  pub place_room : MisreadPlace t s words i → 7 * i + 7 ≤ length words
  place_room p =
      let inside = lookup_inside (items_of p.given) i (rules.Word (whole p).text) (whole p).item in
      omega (arith, p.line.table.room, inside)

  module _ (item : Item) (q : item ≡ item_of (record_at words i)) where
    -- it is a Word
    pub told_other : OneOf (0 ∷ 1 ∷ 2 ∷ 4 ∷ []) (tag_of T.the_type item) → MisreadTold t s words i None
    unfolding is_whole
    told_other k = record {
      letter = none_small;
      same = λ p. absurd (true≢false (sym (same_self (whole p).text)
          ∙ other_not_whole [] s words i item q k (rules.Word (whole p).text) (record_is p) (whole p).text));
    }

    module _ (x : Part) (d : item ≡ Word x) where
      pub place_part : MisreadPlace t s words i → HasPart s x
      place_part p = record { made = p.line.made; inside = (is_word _ _ (rules.Word (whole p).text) (record_is p) item q x d).1 }

      text_is : (p : MisreadPlace t s words i) → (whole p).text ≡ part_bytes (sheet_area s) x
      text_is p = let same = (is_word _ _ (rules.Word (whole p).text) (record_is p) item q x d).0 in cc

      pub told_word :
          (o f : List ℕ) (n : ℕ) (u a : List ℕ) (m : ℕ)
          → Gathered t 1 o f n
          → Gathered t 2 u a m
          → (os : List ℕ)
          → os ≡ part_bytes (sheet_area s) x
          → (r : CodeOption ℕ)
          → ClusterTold (letters (take (n - 0) f) (take (m - 0) a)) os r
          → MisreadTold t s words i r
      unfolding misread_letter letter_code ◌>>?◌
      told_word o f n u a m flags others os e r h = record {
        letter = h.letter;
        same = λ p.
            let l = table_letters p.forms.forms in
            let alike = same_as_table t o f n u a m flags others p.forms.commands p.forms.forms p.forms.reads p.forms.accepts in
            let w = whole p in
            let here : os ≡ w.text = e ∙ sym (text_is p) in
            let told : ClusterTold l w.text r = rw here at (told_same _ l alike os r h) in
            rw w.argument (ap place_code (sym (told.same w.word)));
      }
