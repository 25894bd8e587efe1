-- Each refusal has a number, which is not 0; and the place of a refused form is small.
use mathlib.Core.Bool.{Bool, true, false}
use mathlib.Core.List.{List}
use mathlib.Core.Option.{Option}
use mathlib.Core.Path.{◌≡◌, refl, ap, ◌∙◌}
use Prim.Native.Nat.{ℕ, suc, ◌≤◌, ◌<◌}
use native.Mathlib.Omega.{arith}
use lib.Dec.{ltb}
use borrow.Author.Tests.{ltb-true, ltb-false}
use lib.ListN.{length, length-map}
use Rattle.rules.specs.Base.{numbers}
use Rattle.rules.specs.Codes.{place_code, check_code}
use Rattle.rules.specs.Form.{name_count, node_count, read_form}
use Rattle.rules.specs.WellMade.{NodesMade}
use Rattle.rules.specs.Accept.{Checked, Accepted, accepted, refused_at, check_form}
use Rattle.rules.specs.Answered.{FormFault, bad_counts, bad_name, bad_node, bad_field, bad_use}
use Rattle.rules.proofs.Acceptance.{lookup_inside, numbers_length}
use Rattle.rules.proofs.WellMadeLaws.{check_fault, node_count_lem}
use Rattle.rules.specs.declared.Refused.{Refused}
use Rattle.rules.specs.declared.RefusedAt.{RefusedAt}
use Rattle.rules.specs.declared.Refusal.{Refusal}
use Rattle.rules.specs.declared.Refusal.TheVariants.{BadCounts, BadName, BadNode, BadUse, BadSheet, TooManyArguments, ShortSlice, TooManyItems}
use Rattle.rules.specs.declared.Refusal.TheVariants.{Ambiguous, BadTable, ShortList, BadBatch, BadAlphabet, NotShort, TooLarge, ShortOutput}
use Rattle.rules.specs.declared.Refusal.TheVariants.{Missing, NothingCounted, NoArgument, NotStrict, Strict, NotNumber, OutOfBounds, LeftOver}
use Rattle.rules.specs.declared.Refusal.TheVariants.{NotThere, BadState, BadItem, NoCommand, Misread}
use Rattle.rules.specs.Reported.{number_of, place_told, told}

pub numbered : (e : Refusal) → number_of e ≡ 0 → ⊥
numbered BadCounts h = omega arith
numbered BadName h = omega arith
numbered BadNode h = omega arith
numbered BadUse h = omega arith
numbered BadSheet h = omega arith
numbered TooManyArguments h = omega arith
numbered ShortSlice h = omega arith
numbered TooManyItems h = omega arith
numbered Ambiguous h = omega arith
numbered BadTable h = omega arith
numbered ShortList h = omega arith
numbered BadBatch h = omega arith
numbered BadAlphabet h = omega arith
numbered NotShort h = omega arith
numbered TooLarge h = omega arith
numbered ShortOutput h = omega arith
numbered Missing h = omega arith
numbered NothingCounted h = omega arith
numbered NoArgument h = omega arith
numbered NotStrict h = omega arith
numbered Strict h = omega arith
numbered NotNumber h = omega arith
numbered OutOfBounds h = omega arith
numbered LeftOver h = omega arith
numbered NotThere h = omega arith
numbered BadState h = omega arith
numbered BadItem h = omega arith
numbered NoCommand h = omega arith
numbered Misread h = omega arith

-- ---- places of a refused form
-- a node at fault is one of the nodes: from the count on, one more node changes nothing
node_below : (b : List ℕ) (k : ℕ) → NodesMade (read_form b) k → (NodesMade (read_form b) (suc k) → ⊥) → k < node_count b
node_below b k w bad = go (ltb k (node_count b)) refl
  where
    more : node_count b ≤ k → NodesMade (read_form b) (suc k)
    more h = record {
      kind = w.kind;
      repeats = w.repeats;
      each = λ j x l e. w.each j x (omega (arith, h, lookup_inside (read_form b).nodes j x e, node_count_lem b)) e;
    }

    go : (t : Bool) → ltb k (node_count b) ≡ t → k < node_count b
    go true h = ltb-true k (node_count b) h
    go false h = absurd (bad (more (ltb-false k (node_count b) h)))

name_count_lem : (b : List ℕ) → length (read_form b).names ≡ name_count b
unfolding read_form
name_count_lem b = length-map (numbers (name_count b) 0) _ ∙ numbers_length (name_count b) 0

fault_place : (b : List ℕ) (n : ℕ) (k : Option ℕ) → FormFault b n k → place_code k < 4294967296
fault_place b n k (bad_counts c) = omega arith
fault_place b n k (bad_name i m c a h d) =
    omega (arith, lookup_inside (read_form b).names i m h, name_count_lem b, c.names)
fault_place b n k (bad_node i c a l d) = omega (arith, node_below b i l d, c.nodes.1)
fault_place b n k (bad_field i j c a l h m) = omega arith
fault_place b n k (bad_use i c a l h m o d) = omega (arith, m, c.nodes.1)

pub check_place : (b : List ℕ) (e : RefusedAt) → told e ≡ check_code (check_form b) → place_told e.place < 4294967296
check_place b e h = go (check_form b) refl
  where
    go : (c : Checked Accepted) → check_form b ≡ c → place_told e.place < 4294967296
    go (accepted a) g = absurd (numbered e.refusal (ap (λ (r : Refused). r.number) (h ∙ ap check_code g)))
    go (refused_at n k) g =
        let same : place_told e.place ≡ place_code k = ap (λ (r : Refused). r.place) (h ∙ ap check_code g) in
        omega (arith, same, fault_place b n k (check_fault b n k g))
