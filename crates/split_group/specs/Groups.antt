-- What the functions that split one argument leave: a group of items, and their records in the item slice.
use Rattle.std.specs.Prelude.{◌≡◌, true, false, List, [], ◌∷◌, ◌++◌, ◌⊎◌, ℕ, ◌+◌, ◌*◌, ◌^◌, ◌≤◌, ◌<◌, leb, length, take, drop, if◌then◌else◌, Option as CodeOption, Some, None}
use Rattle.std.proofs.Math.Option.{Option, some, none}
use Rattle.std.proofs.Math.ListN.{get_elem?}
use Rattle.std.proofs.lemmas.List.Edits.{sets}
use Rattle.utf8.specs.Utf8.{well_formed}
use Rattle.rules.specs.Base.{concat_map}
use Rattle.rules.specs.Outcome.{Outcome, ok, refused, fault}
use Rattle.rules.specs.Accept.{Letters}
use Rattle.rules.specs.Split.{Letter, cluster_from, item_words, short_group, Group as Meaning}
use Rattle.split_arg.specs.declared.Part.{Part}
use Rattle.split_arg.specs.declared.Item.TheVariants.{Short}
use Rattle.split_arg.specs.Clusters.{characters}
use Rattle.split_arg.specs.Items.{nothing, record_of}
use Rattle.split_group.specs.declared.Group.{Group}

-- the letters of a name; a name that is no UTF-8 has none
unfoldable pub letters_in : List ℕ → List Letter
letters_in name = elim (cluster_from 0 0 name) [ ok ls ↦ ls | refused e ↦ [] | fault x ↦ [] ]

abbrev pub first_letters : List ℕ → ℕ → List ℕ
first_letters name n = take n (characters (letters_in name))

-- the records of flags' letters: the first has a text, the others none
unfoldable pub flag_words : Part → List ℕ → List ℕ
flag_words text [] = []
flag_words text (c ∷ cs) = record_of (Short c false text) ++ flag_words nothing cs

-- n records from record `at` on, where 256 have room for them; else nothing
unfoldable pub stored : List ℕ → ℕ → ℕ → List ℕ → List ℕ
stored items at n words = if leb (at + n) 256 then sets items (7 * at) words else items

-- ---- what the functions are given
pub record ArgumentFits (os : List ℕ) (begin at : ℕ) : Type 0 where
  pub small : begin + length os < 2 ^ 32
  pub places : at ≤ 256

pub record ClusterIn (os : List ℕ) (begin at : ℕ) : Type 0 where
  pub fits : ArgumentFits os begin at
  pub some : 1 ≤ length os
  pub good : well_formed (drop 1 os) ≡ true

pub record ValueIn (os : List ℕ) (begin body at : ℕ) : Type 0 where
  pub fits : ArgumentFits os begin at
  pub two : 2 ≤ length os
  pub within : body ≤ length os
  pub good : well_formed (take 1 (drop 1 os)) ≡ true

-- the name has these letters
pub record Flags (name : List ℕ) (count at : ℕ) : Type 0 where
  pub good : well_formed name ≡ true
  pub few : count ≤ length (letters_in name)
  pub short : count ≤ length name
  pub places : at ≤ 256

-- ---- what they leave
pub record Puts (before : List ℕ) (at : ℕ) (after : List ℕ) (r : Group) (n : ℕ) (ambiguous : CodeOption ℕ) (words : List ℕ) : Type 0 where
  pub group : r ≡ record { count = n; ambiguous = ambiguous; marker = false }
  pub words≡ : after ≡ stored before at n words

-- which item it is, as the code has it
abbrev pub which : Option ℕ → CodeOption ℕ
which none = None
which (some i) = Some i

abbrev pub told : Meaning → Group
told g = record { count = length g.items; ambiguous = which g.ambiguous; marker = g.marker }

-- the group of an argument that begins at an offset of the area
pub record Makes (os : List ℕ) (begin at : ℕ) (before after : List ℕ) (r : Group) (o : Outcome Meaning) : Type 0 where
  pub group : Meaning
  pub same : o ≡ ok group
  pub told≡ : r ≡ told group
  pub words : after ≡ stored before at (length group.items) (concat_map (item_words begin (begin + length os)) group.items)

-- a letter with a value, whatever letters the form has
abbrev pub MakesValue : List ℕ → ℕ → ℕ → ℕ → List ℕ → List ℕ → Group → Type 0
MakesValue os begin body at before after r =
    (l : Letters) → Makes os begin at before after r (short_group l os (take 1 (drop 1 os)) (some (drop body os)))

-- ---- where they write
-- the words before the first of n items and behind the last are as they were
pub record Untouched (before after : List ℕ) (at n : ℕ) : Type 0 where
  pub long : length after ≡ length before
  pub outside : (k : ℕ) → (k < 7 * at) ⊎ (7 * (at + n) ≤ k) → get_elem? after k ≡ get_elem? before k
