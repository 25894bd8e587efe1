-- Document 02, request five: why a place was left over.
use Rattle.std.specs.Prelude.{Bool, true, false, not, ◌&&◌, ◌||◌, ℕ, zero, suc, ◌-◌, leb, eqb, ltb, length, if◌then◌else◌}
use mathlib.Core.List.{List, [], ◌∷◌, flatten}
use Rattle.std.proofs.Math.Option.{Option, some, none}
use Rattle.std.proofs.Math.ListN.{get_elem?}
use Rattle.utf8.specs.Utf8.{well_formed}
use Rattle.rules.specs.Base.{all, same, contains, is_some, ◌>>?◌}
use Rattle.rules.specs.Outcome.{Outcome, ok, refused, fault, ◌>>=◌}
use Rattle.rules.specs.Sheet.{arguments}
use Rattle.rules.specs.Form.{Node, Form, read_form}
use Rattle.rules.specs.Tree.{named_of}
use Rattle.rules.specs.Accept.{Letters, letters_of}
use Rattle.rules.specs.Split.{Item, Short, Long, ArgWord, Word, PosWord, dash, behind_equals, Letter, cluster_from, split_from}
use Rattle.rules.specs.State.{parsed, present_at, winner, only_once}
use Rattle.rules.specs.Take.{matches_arg, is_operand}
use Rattle.rules.specs.Run.{Report, run}

-- ---- the reasons, in their order
pub data Reason : Type 0 where
  -- it lost a choice to this place
  lost_choice : (winner : ℕ) → Reason
  -- it is a name given earlier too, at this place
  given_earlier : (earlier : ℕ) → Reason
  -- it is an ArgWord, and the place before it, its key, is used
  key_used : Reason
  -- it is a Short or Long that no node of the form names
  unnamed : Reason
  -- it is a Word or PosWord, and the form has no positional
  no_positional : Reason
  -- it is a Word that looks like a cluster, and this letter is unknown
  unknown_letter : (letter : ℕ) → Reason
  none_of_these : Reason

unfoldable pub reason_code : Reason → ℕ
reason_code (lost_choice w) = 1
reason_code (given_earlier j) = 2
reason_code key_used = 3
reason_code unnamed = 4
reason_code no_positional = 5
reason_code (unknown_letter c) = 6
reason_code none_of_these = 7

-- a place plus 1, or the character
unfoldable pub reason_detail : Reason → ℕ
reason_detail (lost_choice w) = suc w
reason_detail (given_earlier j) = suc j
reason_detail key_used = 0
reason_detail unnamed = 0
reason_detail no_positional = 0
reason_detail (unknown_letter c) = c
reason_detail none_of_these = 0

-- ---- what they speak of: form, sheet, items and state, and a place
pub record LeftPlace : Type 0 where
  pub form : Form
  pub arguments : List (List ℕ)
  -- the items, argument by argument
  pub groups : List (List Item)
  pub marks : List ℕ
  pub place : ℕ

unfoldable pub line_items : LeftPlace → List Item
line_items x = flatten x.groups

-- 1: the winner's place
unfoldable pub winner_of : LeftPlace → Option ℕ
winner_of x = get_elem? x.marks x.place >>? winner

-- 3
unfoldable pub is_arg_word : Item → Bool
is_arg_word (Short c a t) = false
is_arg_word (Long n a t) = false
is_arg_word (ArgWord t) = true
is_arg_word (Word t) = false
is_arg_word (PosWord t) = false

unfoldable pub used_before : List ℕ → ℕ → Bool
used_before marks zero = false
used_before marks (suc k) = elim (get_elem? marks k) [ none ↦ false | some m ↦ parsed m ]

-- 4: kind 1 is a flag, kind 2 an argument. Whether an argument is adjacent does not matter
unfoldable pub names_item : Form → Item → Node → Bool
names_item f y n =
    contains (1 ∷ 2 ∷ []) n.kind && elim (named_of f n) [ none ↦ false | some m ↦ matches_arg m false y ]

unfoldable pub is_name : Item → Bool
is_name (Short c a t) = true
is_name (Long n a t) = true
is_name (ArgWord t) = false
is_name (Word t) = false
is_name (PosWord t) = false

unfoldable pub is_unnamed : Form → Item → Bool
is_unnamed f y = is_name y && all (λ n. not (names_item f y n)) f.nodes

-- 5: kind 3 is a positional
unfoldable pub no_positionals : Form → Bool
no_positionals f = all (λ (n : Node). not (eqb n.kind 3)) f.nodes

-- 6: the argument that the item at a place is split from, and whether it is a Word that is all of it
unfoldable pub argument_at : List (List ℕ) → List (List Item) → ℕ → Option (List ℕ)
argument_at [] gs i = none
argument_at (os ∷ rest) [] i = none
argument_at (os ∷ rest) (g ∷ gs) i = if ltb i (length g) then some os else argument_at rest gs (i - length g)

unfoldable pub is_whole : Item → List ℕ → Bool
is_whole (Short c a t) os = false
is_whole (Long n a t) os = false
is_whole (ArgWord t) os = false
is_whole (Word t) os = same t os
is_whole (PosWord t) os = false

-- the name behind one dash: UTF-8, with no `=` behind its first byte
unfoldable pub dashed_name : List ℕ → Option (List ℕ)
dashed_name [] = none
dashed_name (d ∷ []) = none
dashed_name (d ∷ b ∷ s) =
    if eqb d dash && not (eqb b dash) && (well_formed (b ∷ s) && not (is_some (behind_equals s))) then some (b ∷ s) else none

-- its letters, if they are two or more
unfoldable pub cluster_letters : List ℕ → Option (List Letter)
cluster_letters os =
    dashed_name os >>? λ name.
    elim (cluster_from 0 0 name) [
      | ok ls ↦ if leb 2 (length ls) then some ls else none
      | refused e ↦ none
      | fault e ↦ none
    ]

unfoldable pub first_unknown : Letters → List Letter → Option ℕ
first_unknown l [] = none
first_unknown l (x ∷ xs) =
    if contains l.flags x.character || contains l.arguments x.character
    then first_unknown l xs
    else some x.character

unfoldable pub unknown_in : LeftPlace → Item → Option ℕ
unknown_in x y =
    argument_at x.arguments x.groups x.place >>? λ os.
    if is_whole y os then (cluster_letters os >>? first_unknown (letters_of x.form)) else none

-- ---- the first whose fact holds
unfoldable pub first_reason : LeftPlace → Item → (earlier : Option ℕ) → Reason
first_reason x y earlier =
    elim (winner_of x) [
      | some w ↦ lost_choice w
      | none ↦ elim earlier [
        | some j ↦ given_earlier j
        | none ↦ if is_arg_word y && used_before x.marks x.place then key_used else
            (if is_unnamed x.form y then unnamed else
            (if is_operand y && no_positionals x.form then no_positional else
            (elim (unknown_in x y) [ some c ↦ unknown_letter c | none ↦ none_of_these ])))
      ]
    ]

unfoldable pub reason_at : LeftPlace → Outcome Reason
reason_at x =
    elim (get_elem? (line_items x) x.place) [
      | none ↦ ok none_of_these
      | some y ↦ only_once (line_items x) x.place >>= λ earlier. ok (first_reason x y earlier)
    ]

-- ---- the call: what it answers, and what the run left
pub record Explained : Type 0 where
  pub number : ℕ
  pub place : Option ℕ
  pub reason : Option Reason
  pub ran : Report

unfoldable pub left_place : (form sheet : List ℕ) → Report → ℕ → Outcome LeftPlace
left_place b s r i =
    split_from (letters_of (read_form b)) 0 (arguments s) >>= λ x.
    ok (record {
      form = read_form b;
      arguments = arguments s;
      groups = x.groups;
      marks = r.state.marks;
      place = i;
    })

-- as the run with 1 to 9 and 14
unfoldable pub refused_before : ℕ → Bool
refused_before n = (leb 1 n && leb n 9) || eqb n 14

-- then 28: no such place, a place that is used, or a run that did not end in 27
unfoldable pub explain : (form sheet : List ℕ) → (place : ℕ) → Report → Outcome Explained
explain b s i r =
    if refused_before r.number
    then ok (record { number = r.number; place = r.place; reason = none; ran = r })
    else (if eqb r.number 27 && present_at r.state.marks i
    then (left_place b s r i >>= reason_at >>= λ x. ok (record { number = 0; place = none; reason = some x; ran = r }))
    else ok (record { number = 28; place = none; reason = none; ran = r }))

-- form bytes, sheet bytes, a place, and the lengths of the item slice, the answer slice and the list slice
unfoldable pub why : (form sheet : List ℕ) → (place ni na nl : ℕ) → Outcome Explained
why b s i ni na nl = run b s ni na nl >>= explain b s i
