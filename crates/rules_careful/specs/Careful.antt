-- A careful run. It is ours, and not the documents': as the run, but an argument that looks like options is not taken for a word.
use Rattle.std.specs.Prelude.{Bool, false, not, ◌&&◌, ℕ, ◌-◌, eqb, length}
use mathlib.Core.List.{List, [], ◌∷◌, flatten}
use Rattle.std.proofs.Math.Option.{Option, some, none}
use Rattle.std.proofs.Math.ListN.{get_elem?}
use Rattle.std.specs.Prelude.{if◌then◌else◌}
use Rattle.rules.specs.Base.{◌>>?◌, numbers, first_fault}
use Rattle.rules.specs.Outcome.{Outcome, ok, ◌>>=◌}
use Rattle.rules.specs.Sheet.{arguments}
use Rattle.rules.specs.Form.{read_form}
use Rattle.rules.specs.Accept.{Letters, letters_of}
use Rattle.rules.specs.Split.{Item, dash, split_from}
use Rattle.rules.specs.Run.{Report, padded, run}
use Rattle.rules.specs.Codes.{place_code}
use Rattle.rules.specs.Why.{argument_at, is_whole, cluster_letters, first_unknown}

-- begins with a dash, and is longer than `-`
unfoldable pub looks_like_options : List ℕ → Bool
looks_like_options [] = false
looks_like_options (b ∷ []) = false
looks_like_options (b ∷ c ∷ os) = eqb b dash

-- whether the item at a place is a Word, all of its argument, and looks so
unfoldable pub is_misread : List (List ℕ) → List (List Item) → ℕ → Bool
is_misread args groups i =
    elim (get_elem? (flatten groups) i) [
      | none ↦ false
      | some y ↦ elim (argument_at args groups i) [ none ↦ false | some os ↦ is_whole y os && looks_like_options os ]
    ]

-- the lowest such place from a place on
unfoldable pub first_misread : ℕ → List (List ℕ) → List (List Item) → Option ℕ
first_misread from args groups = first_fault (λ i. not (is_misread args groups i)) from (numbers (length (flatten groups) - from) from)

-- why it is a word: the first letter that no option has, plus 1; or 0, where its name is not UTF-8
unfoldable pub misread_letter : Letters → List (List ℕ) → List (List Item) → ℕ → ℕ
misread_letter l args groups i =
    place_code (argument_at args groups i >>? λ os. cluster_letters os >>? first_unknown l)

-- what is reported, and that letter
pub record CarefulReport : Type 0 where
  pub report : Report
  pub letter : ℕ

-- 50: items, state and tries as the run left them, no words, answers and list 0
unfoldable pub refused_word : (na nl : ℕ) → Report → ℕ → Report
refused_word na nl r i = record {
  number = 50;
  place = some i;
  tries = r.tries;
  words = [];
  state = r.state;
  items = r.items;
  answers = padded na [];
  list = padded nl [];
}

unfoldable pub look_at : Letters → ℕ → List (List ℕ) → List (List Item) → (na nl : ℕ) → Report → CarefulReport
look_at l from args groups na nl r =
    elim (first_misread from args groups) [
      | none ↦ record { report = r; letter = 0 }
      | some i ↦ record { report = refused_word na nl r i; letter = misread_letter l args groups i }
    ]

-- form bytes, sheet bytes, and the lengths of the item slice, the answer slice and the list slice
unfoldable pub careful : List ℕ → List ℕ → ℕ → ℕ → ℕ → Outcome CarefulReport
careful b s ni na nl =
    run b s ni na nl >>= λ r.
    if eqb r.number 0
    then (split_from (letters_of (read_form b)) 0 (arguments s) >>= λ x. ok (look_at (letters_of (read_form b)) 0 (arguments s) x.groups na nl r))
    else ok (record { report = r; letter = 0 })
