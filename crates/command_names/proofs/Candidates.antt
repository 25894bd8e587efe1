-- The candidates of a table, one entry or one name at a time.
use mathlib.Core.Bool.{Bool, true, false}
use mathlib.Core.List.{List, [], ◌∷◌, ◌++◌, map, map-append, append-nil}
use mathlib.Core.Option.{some}
use mathlib.Core.Path.{◌≡◌, refl, ◌∙◌}
use Prim.Native.Nat.{ℕ, suc, ◌<◌}
use lib.Dec.{eqb}
use lib.ListN.{length, take, drop, get_elem?}
use borrow.Author.Tests.{eq-eqb, ne_eqb}
use Rattle.std.specs.Prelude.{if◌then◌else◌}
use Rattle.rules.specs.Base.{concat_map}
use Rattle.rules.specs.Form.{Name, name_bytes}
use Rattle.rules.specs.Commands.{Command, of_type, tried_names, Candidate, candidates_of, candidates_from}
use Rattle.rules.proofs.Places.{at_below, drop_below}
use Rattle.command_names.specs.Trying.{type_candidates}

abbrev candidate : ℕ → List ℕ → Candidate
candidate number w = record { word = w; entry = number }

module _ (t number : ℕ) (area : List ℕ) where
  abbrev named : Name → List (List ℕ)
  named x = if eqb x.type t then name_bytes area x ∷ [] else []

  abbrev one : Name → List Candidate
  one x = if eqb x.type t then candidate number (name_bytes area x) ∷ [] else []

  name_is : (x : Name) → map (candidate number) (named x) ≡ one x
  name_is x = go (eqb x.type t)
    where
      go : (b : Bool) → map (candidate number) (if b then name_bytes area x ∷ [] else []) ≡ (if b then candidate number (name_bytes area x) ∷ [] else [])
      go true = refl
      go false = refl

  names_are : (l : List Name) → map (candidate number) (concat_map named l) ≡ type_candidates t number area l
  unfolding type_candidates concat_map
  names_are [] = refl
  names_are (x ∷ l) = map-append (candidate number) (named x) (concat_map named l) ∙ rw (name_is x, names_are l)

  module _ (l : List Name) (k : ℕ) (x : Name) (here : get_elem? l k ≡ some x) where
    -- record k
    name_there : type_candidates t number area (take 1 (drop k l)) ≡ one x
    unfolding type_candidates concat_map
    name_there = rw (drop_below l k x here) (append-nil (one x))

    pub name_of_type : x.type ≡ t → type_candidates t number area (take 1 (drop k l)) ≡ candidate number (name_bytes area x) ∷ []
    name_of_type e = name_there ∙ rw (eq-eqb x.type t e)

    pub name_of_other : (x.type ≡ t → ⊥) → type_candidates t number area (take 1 (drop k l)) ≡ []
    name_of_other e = name_there ∙ rw (ne_eqb x.type t e)

    -- and those behind it
    names_next : type_candidates t number area (drop k l)
        ≡ type_candidates t number area (take 1 (drop k l)) ++ type_candidates t number area (drop (suc k) l)
    unfolding type_candidates concat_map
    names_next = rw (drop_below l k x here, append-nil (one x))

  pub type_next : (l : List Name) (k : ℕ) → k < length l
      → type_candidates t number area (drop k l)
      ≡ type_candidates t number area (take 1 (drop k l)) ++ type_candidates t number area (drop (suc k) l)
  type_next l k h = let (x, here) = at_below l k h in names_next l k x here

-- the long names, then the short ones
pub entry_both : (number : ℕ) (c : Command)
    → candidates_of number c ≡ type_candidates 1 number c.area c.names ++ type_candidates 0 number c.area c.names
unfolding candidates_of tried_names of_type
entry_both number c =
    map-append (candidate number) (of_type 1 c) (of_type 0 c)
    ∙ rw (names_are 1 number c.area c.names, names_are 0 number c.area c.names)

-- entry k, and those behind it
pub entries_next : (cs : List Command) (k : ℕ) (c : Command) → get_elem? cs k ≡ some c
    → candidates_from k (drop k cs) ≡ candidates_of k c ++ candidates_from (suc k) (drop (suc k) cs)
unfolding candidates_from
entries_next cs k c e = rw (drop_below cs k c e)
