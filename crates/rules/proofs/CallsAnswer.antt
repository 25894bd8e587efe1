-- Single calls on any input, forged states and items included: each is answered, with a number of its own, and refused
-- leaves what it was given.
use mathlib.Core.Bool.{Bool, true, false, ◌&&◌, ◌||◌, and-eq-true_iff, false≢true}
use mathlib.Core.List.{List, [], ◌∷◌, reverse}
use mathlib.Core.Logic.{◌⊎◌, inl, inr, ⊎_elim}
use mathlib.Core.Option.{Option, some, none, some-injective}
use mathlib.Core.Path.{◌≡◌, refl, sym, ap, ◌∙◌}
use Prim.Native.Nat.{ℕ, zero, suc, ◌+◌, ◌-◌, ◌≤◌, ◌<◌}
use native.Mathlib.Nat.{eq-or-lt_of_le}
use native.Mathlib.Omega.{arith}
use borrow.Author.Tests.{leb-true, ltb-true, ltb-false, le-leb, eq-eqb, ne_eqb, eqb-true, eqb-false}
use lib.Dec.{leb, ltb, eqb}
use lib.ListN.{length, get_elem?, take, drop, length-reverse}
use lib.Seq.{length-take-le}
use Rattle.std.specs.Prelude.{if◌then◌else◌}
use Rattle.rules.specs.Base.{null, all, contains, numbers, minus, slice, slice_from, ◌>>?◌}
use Rattle.rules.specs.Outcome.{Outcome, ok, refused, fault, ◌>>=◌, at, Refusal, refuse, is_missing}
use Rattle.rules.specs.Value.{Kind, Value, words}
use Rattle.rules.specs.Eval.{Ran, eval}
use Rattle.rules.specs.Sheet.{sheet_fault, sheet_area}
use Rattle.rules.specs.Form.{Form, read_form}
use Rattle.rules.specs.Tree.{Named, zeros, kind_of}
use Rattle.rules.specs.Accept.{Checked, accepted, refused_at, Accepted, check_form, field_of}
use Rattle.rules.specs.Split.{Item, Short, Long, ArgWord, Word, PosWord}
use Rattle.rules.specs.State.{State, Scope, Found, position, match_short, match_long, same_name, before, only_once, marker_mark, command_mark, field_mark, parsed, state_good, empty_state}
use Rattle.rules.specs.State.{first, conflict, remove, set_scope}
use Rattle.rules.specs.State.{adjacent_scope}
use Rattle.rules.specs.Take.{Took, took, Operand, is_command, take_command, take_arg, take_positional_word, take_cmd}
use Rattle.rules.specs.Given.{room_in, list_room_in}
use Rattle.rules.specs.Run.{Line, padded, split}
use Rattle.rules.specs.Calls.{call_remove, call_pick_winner, call_save_conflicts, call_set_scope, call_adjacent_scope, call_available_from, on_items, call_get, call_conflict, operand_or20}
use Rattle.rules.specs.Calls.{call_take_positional, call_only_once, on_form, key_of, flag_names, argument_key, command_name, call_matches, call_take_flag, call_take_arg, call_take_cmd}
use Rattle.rules.specs.Calls.{call_kind}
use Rattle.rules.specs.Calls.{call_portable, call_text}
use Rattle.rules.specs.Calls.{form_in, sheet_in, slice_in, items_from, trimmed, whole_records, items_in, from_raw, to_raw, most_fields, state_in, asked, place_in, mark_in, scope_in, handed}
use Rattle.rules.specs.Calls.{split_refused, split_report}
use Rattle.rules.specs.Calls.{call_split, evaluated_with, evaluated, unchanged, eval_in, call_eval}
use Rattle.rules.specs.declared.State.{State as Raw}
use Rattle.rules.specs.Sound.{Good, Sound}
use Rattle.rules.specs.Answered.{FormFault, bad_counts, bad_name, bad_node, bad_field, bad_use, SheetFault, many_arguments, bad_sheet, AtFault, bad_form, sheet_at_fault, short_slice}
use Rattle.rules.specs.Answered.{ItemsLeft}
use Rattle.rules.proofs.Fields.{field_parsed}
use Rattle.rules.specs.CallsAnswered.{OneOf, Answers, answers, refuses, Hands, EvalAnswers, SplitsLine, CallsAnswered}
use Rattle.rules.proofs.GivenLaws.{split_form, split_sheet, split_short_lem, split_goes}
use Rattle.rules.proofs.StepLaws.{test_good, first_found, remove_step, set_scope_good, flag_takes, arg_takes, positional_takes}
use Rattle.rules.proofs.Steps.{EndsOne}
use Rattle.rules.proofs.EvalSound.{eval_sound}
use Rattle.rules.proofs.Acceptance.{All-at, accepted_form, accepted_trees_sound}
use Rattle.rules.proofs.WellMadeLaws.{well_made, check_fault, check_numbers}
use Rattle.rules.proofs.SheetLaws.{sheet_made, sheet_fault_lem}
use Rattle.rules.proofs.InputFaults.{padded_nil, no_entries_listed, fault_small, cleared_left, bind_ok, line_fault, line_left}
use Rattle.rules.proofs.MissingLaws.{missing_told}
use Rattle.rules.proofs.SplitLaws.{ok_injective, some≢none, split_line}

-- ---- numbers
pub or_right : (a b : Bool) → b ≡ true → (a || b) ≡ true
or_right true b e = refl
or_right false b e = e

pub contains_more : (l m : List ℕ) (n : ℕ) → all (contains m) l ≡ true → contains l n ≡ true → contains m n ≡ true
unfolding all contains
contains_more [] m n h e = absurd (false≢true e)
contains_more (x ∷ l) m n h e =
    let p = (and-eq-true_iff (contains m x) (all (contains m) l)).0 h in
    go (eqb x n) refl (contains_more l m n p.1) e
  where
    go : (t : Bool) → eqb x n ≡ t → (contains l n ≡ true → contains m n ≡ true) → (t || contains l n) ≡ true → contains m n ≡ true
    go true g rest e = rw (eqb-true x n g) at ((and-eq-true_iff (contains m x) (all (contains m) l)).0 h).0
    go false g rest e = rest e

pub numbers_contain : (m j n : ℕ) → j ≤ n → n < j + m → contains (numbers m j) n ≡ true
unfolding numbers contains
numbers_contain zero j n l h = absurd (omega arith)
numbers_contain (suc m) j n l h =
    ⊎_elim (λ (e : j ≡ n). rw (eq-eqb j n e))
    (λ (e : j < n). or_right (eqb j n) _ (numbers_contain m (suc j) n (omega arith) (omega arith))) (eq-or-lt_of_le l)

-- ---- one thing after the other
bind_answers :
    {A B : Type 0} {l m : List ℕ} (o : Outcome A) (f : A → Outcome B)
    → Answers l o
    → all (contains m) l ≡ true
    → ((a : A) → o ≡ ok a → Answers m (f a))
    → Answers m (o >>= f)
unfolding ◌>>=◌
bind_answers o f (answers a) h g = g a refl
bind_answers {l = l} {m = m} o f (refuses e n) h g = refuses e (contains_more l m e.number h n)

more_answers : {A : Type 0} {l m : List ℕ} {o : Outcome A} → Answers l o → all (contains m) l ≡ true → Answers m o
more_answers (answers a) h = answers a
more_answers {l = l} {m = m} (refuses e n) h = refuses e (contains_more l m e.number h n)

handed_answers : {A : Type 0} {l : List ℕ} (x : Raw) (o : Outcome (Took A)) → Answers l o → Hands l x (handed x o)
unfolding handed
handed_answers x o (answers t) = record {
  called = record { number = 0; place = none; answer = some t.answer; state = to_raw t.state };
  answered = refl;
  number = inl (refl, (t.answer, refl));
}
handed_answers x o (refuses e n) = record {
  called = record { number = e.number; place = e.place; answer = none; state = x };
  answered = refl;
  number = inr (n, refl, refl);
}

if_answers : {A : Type 0} (n : ℕ) (t : Bool) (a : A) → Answers (n ∷ []) (if t then ok a else refused (refuse n none))
unfolding contains
if_answers n true a = answers a
if_answers n false a = refuses (refuse n none) (rw (eq-eqb n n refl))

some_answers : {A : Type 0} (n : ℕ) (o : Option A) → Answers {A = A} (n ∷ []) (elim o [ none ↦ refused (refuse n none) | some a ↦ ok a ])
unfolding contains
some_answers n none = refuses (refuse n none) (rw (eq-eqb n n refl))
some_answers n (some a) = answers a

-- ---- what a call is given
pub form_number : (b : List ℕ) (n : ℕ) (k : Option ℕ) → FormFault b n k → OneOf (1 ∷ 2 ∷ 3 ∷ 4 ∷ []) n
unfolding contains
form_number b n k (bad_counts c) = refl
form_number b n k (bad_name i m c a h d) = refl
form_number b n k (bad_node i c a l d) = refl
form_number b n k (bad_field i j c a l h m) = refl
form_number b n k (bad_use i c a l h m o d) = refl

form_answers : (b : List ℕ) → Answers (1 ∷ 2 ∷ 3 ∷ 4 ∷ []) (form_in b)
unfolding form_in
form_answers b = go (check_form b) refl
  where
    go : (c : Checked _) → check_form b ≡ c → Answers (1 ∷ 2 ∷ 3 ∷ 4 ∷ []) (form_in b)
    go (accepted a) e = rw (e, form_in) (answers a)
    go (refused_at n k) e = rw (e, form_in) (refuses _ (form_number b n k (check_fault b n k e)))

pub sheet_number : (s : List ℕ) (n : ℕ) → SheetFault s n → OneOf (6 ∷ 5 ∷ []) n
unfolding contains
sheet_number s n (many_arguments c h) = refl
sheet_number s n (bad_sheet m h) = refl

sheet_answers : (s : List ℕ) → Answers (6 ∷ 5 ∷ []) (sheet_in s)
unfolding sheet_in
sheet_answers s = go (eqb (sheet_fault s) 0) refl
  where
    go : (t : Bool) → eqb (sheet_fault s) 0 ≡ t → Answers (6 ∷ 5 ∷ []) (if t then ok (sheet_area s) else refused (refuse (sheet_fault s) none))
    go true e = answers (sheet_area s)
    go false e = refuses _ (sheet_number s (sheet_fault s) (sheet_fault_lem s (let z = eqb-false (sheet_fault s) 0 e in omega arith)))

slice_answers : (n : ℕ) (l : List ℕ) → Answers (7 ∷ []) (slice_in n l)
unfolding slice_in room_in all contains
slice_answers n l = bind_answers (room_in n (length l)) _ (if_answers 7 (leb n (length l)) (length l)) refl (λ _ _. answers l)

list_answers : (n : ℕ) → Answers (14 ∷ []) (list_room_in n)
unfolding list_room_in
list_answers n = if_answers 14 (leb 192 n) n

items_answers : (area l : List ℕ) → Answers (30 ∷ []) (items_in area l)
unfolding items_in
items_answers area l = some_answers 30 (whole_records l >>? λ rs. items_from area (trimmed rs))

state_answers : (fields n : ℕ) (x : Raw) → Answers (29 ∷ []) (state_in fields n x)
unfolding state_in
state_answers fields n x = if_answers 29 _ (from_raw x)

asked_answers : {A : Type 0} (o : Option A) → Answers (28 ∷ []) (asked o)
unfolding asked contains
asked_answers none = refuses (refuse 28 none) refl
asked_answers (some a) = answers a

place_answers : (n i : ℕ) → Answers (28 ∷ []) (place_in n i)
unfolding place_in
place_answers n i = if_answers 28 (ltb i n) i

mark_answers : (fields k : ℕ) → Answers (28 ∷ []) (mark_in fields k)
unfolding mark_in
mark_answers fields k = if_answers 28 (ltb k fields) (field_mark k)

scope_answers : (n a b : ℕ) → Answers (28 ∷ []) (scope_in n a b)
unfolding scope_in
scope_answers n a b = if_answers 28 (leb a b && leb b n) (record { start = a; end = b })

-- ---- what they let through
abbrev is_ok : {A : Type 0} → Outcome A → Bool
is_ok (ok a) = true
is_ok (refused e) = false
is_ok (fault x) = false

refused_not_ok : {A : Type 0} (e : Refusal) (a : A) → refused e ≡ ok a → ⊥
refused_not_ok e a h = false≢true (ap is_ok h)

pub if_ok : {A : Type 0} (t : Bool) (a b : A) (e : Refusal) → (if t then ok a else refused e) ≡ ok b → (t ≡ true) × (a ≡ b)
if_ok true a b e h = (refl, ok_injective h)
if_ok false a b e h = absurd (refused_not_ok e b h)

pub state_good_lem : (fields n : ℕ) (x : Raw) (s : State) → state_in fields n x ≡ ok s → Good n s
unfolding state_in
state_good_lem fields n x s h =
    let (t, e) = if_ok (eqb x.count n && zeros (drop x.count x.marks) && state_good fields n (from_raw x)) (from_raw x) s (refuse 29 none) h in
    let p = (and-eq-true_iff (eqb x.count n && zeros (drop x.count x.marks)) (state_good fields n (from_raw x))).0 t in
    rw (← e) (test_good fields n (from_raw x) p.1).0

pub command_parsed : parsed command_mark ≡ true
unfolding parsed marker_mark command_mark
command_parsed = refl

-- the mark of a field is parsed
told_parsed : (fields k mark : ℕ) → mark_in fields k ≡ ok mark → parsed mark ≡ true
unfolding mark_in
told_parsed fields k mark h = rw (← (if_ok (ltb k fields) (field_mark k) mark (refuse 28 none) h).1) (field_parsed k)

pub place_below_lem : (n i j : ℕ) → place_in n i ≡ ok j → i < n
unfolding place_in
place_below_lem n i j h = ltb-true i n (if_ok (ltb i n) i j (refuse 28 none) h).0

pub scope_inside : (n a b : ℕ) (c : Scope) → scope_in n a b ≡ ok c → (a ≤ b) × (b ≤ n)
unfolding scope_in
scope_inside n a b c h =
    let p = (and-eq-true_iff (leb a b) (leb b n)).0 (if_ok (leb a b && leb b n) (record { start = a; end = b }) c (refuse 28 none) h).0 in
    (leb-true a b p.0, leb-true b n p.1)

adjacent_none : (s t : State) → null s.marks ≡ true → Answers [] (adjacent_scope s t)
unfolding adjacent_scope
adjacent_none s t e = rw e (answers none)

adjacent_some : (s t : State) (a b : List ℕ) → null s.marks ≡ false → slice_from s.start s.marks ≡ some a → slice_from s.start t.marks ≡ some b → Answers [] (adjacent_scope s t)
unfolding adjacent_scope ◌>>=◌ at
adjacent_some s t a b e p q = rw (e, p, q) (answers _)

-- ---- what they call
ok_answers : {A : Type 0} {l : List ℕ} (o : Outcome A) (a : A) → o ≡ ok a → Answers l o
ok_answers o a e = rw e (answers a)

remove_answers : (k : ℕ) → parsed k ≡ true → (n : ℕ) (s : State) (i : ℕ) → Good n s → Answers [] (remove k s i)
remove_answers k p n s i g = let (u, e, st) = remove_step k p n s i g in ok_answers _ u e

scope_set : (n : ℕ) (s : State) (a b : ℕ) → Good n s → a ≤ b → b ≤ n → Answers [] (set_scope s a b)
scope_set n s a b g h k = let r = set_scope_good n s a b g h k in ok_answers _ r.0 r.1

slice_from_lem : (a : ℕ) (l : List ℕ) → a ≤ length l → (r : List ℕ) × (slice_from a l ≡ some r)
unfolding slice_from
slice_from_lem a l h = (drop a l, rw (le-leb a (length l) h))

adjacent_answers : (n : ℕ) (s t : State) → Good n s → Good n t → Answers [] (adjacent_scope s t)
unfolding adjacent_scope
adjacent_answers n s t g h = go (null s.marks) refl
  where
    ours : (r : List ℕ) × (slice_from s.start s.marks ≡ some r)
    ours = slice_from_lem s.start s.marks (omega (arith, g.long, g.order, g.inside))

    theirs : (r : List ℕ) × (slice_from s.start t.marks ≡ some r)
    theirs = slice_from_lem s.start t.marks (omega (arith, h.long, g.order, g.inside))

    go : (b : Bool) → null s.marks ≡ b → Answers [] (adjacent_scope s t)
    go true e = adjacent_none s t e
    go false e = adjacent_some s t ours.0 theirs.0 e ours.1 theirs.1

command_answers : (k : ℕ) → parsed k ≡ true → (is : List Item) (w : List ℕ) (s : State) → Good (length is) s → Answers [] (take_cmd k is w s)
unfolding take_cmd take_command took all
command_answers k p is w s g =
    bind_answers {l = []} (first is s) _ (ok_answers _ _ (first_found is s g).1) refl (λ x e. command_taken (if is_command w x then x else none))
  where
    command_taken : (x : Option Found) → Answers [] (take_command k s x)
    command_taken none = answers _
    command_taken (some x) = bind_answers (remove k s x.place) _ (remove_answers k p (length is) s x.place g) refl (λ u e. answers _)

conflict_answers : (is : List Item) (s : State) → Good (length is) s → Answers [] (conflict is s)
unfolding conflict ◌>>=◌
conflict_answers is s g = rw (first_found is s g).1 (answers _)

arg_answers : (k : ℕ) → parsed k ≡ true → (is : List Item) (m : Named) (adjacent : Bool) (s : State) → Good (length is) s
    → Answers (22 ∷ []) (take_arg k is m adjacent s)
unfolding contains
arg_answers k p is m adjacent s g =
    ⊎_elim (λ t. ok_answers _ t.0 t.1) (λ t. rw t.1 (refuses _ refl)) (arg_takes k p is m adjacent s g)

-- an earlier place is below
position_below : (test : Item → Bool) (k : ℕ) (l : List Item) (j : ℕ) → position test k l ≡ some j → j < k + length l
unfolding position
position_below test k [] j e = absurd (some≢none (sym e))
position_below test k (x ∷ l) j e = go (test x) (λ h. position_below test (suc k) l j h) e
  where
    go : (b : Bool) → (position test (suc k) l ≡ some j → j < suc k + length l) → (if b then some k else position test (suc k) l) ≡ some j → j < k + suc (length l)
    go true rest h = let z = some-injective k j h in omega arith
    go false rest h = let z = rest h in omega arith

same_below : (x : Item) (l : List Item) (j : ℕ) → same_name x l ≡ some j → j < length l
unfolding same_name
same_below (Short c a t) l j e = let z = position_below (match_short c) 0 l j e in omega arith
same_below (Long n a t) l j e = let z = position_below (match_long n) 0 l j e in omega arith
same_below (ArgWord t) l j e = absurd (some≢none (sym e))
same_below (Word t) l j e = absurd (some≢none (sym e))
same_below (PosWord t) l j e = absurd (some≢none (sym e))

before_answers : (i : ℕ) (o : Option ℕ) → ((j : ℕ) → o ≡ some j → j < i) → Answers [] (before i o)
unfolding before at minus ◌>>?◌ ◌>>=◌
before_answers i none h = answers none
before_answers i (some j) h =
    let l = h j refl in
    rw (le-leb j i (omega arith), le-leb 1 (i - j) (omega arith)) (answers _)

slice_some_of : {A : Type 0} (a b : ℕ) (l : List A) → a ≤ b → b ≤ length l → slice a b l ≡ some (take (b - a) (drop a l))
unfolding slice
slice_some_of a b l h k = rw (le-leb a b h, le-leb b (length l) k)

-- among the first i items, counted from the last
once_below : (is : List Item) (i : ℕ) → i ≤ length is → (j : ℕ) → (get_elem? is i >>? λ x. same_name x (reverse (take (i - 0) (drop 0 is)))) ≡ some j → j < i
unfolding ◌>>?◌
once_below is i h j = go (get_elem? is i)
  where
    few : length (reverse (take (i - 0) is)) ≡ i
    few = length-reverse (take (i - 0) is) ∙ length-take-le (i - 0) is (omega arith) ∙ omega arith

    go : (o : Option Item) → (o >>? λ x. same_name x (reverse (take (i - 0) (drop 0 is)))) ≡ some j → j < i
    go none e = absurd (some≢none (sym e))
    go (some x) e = let z = same_below x _ j e in omega (arith, z, few)

once_first : (is : List Item) (i : ℕ) → eqb i 0 ≡ true → Answers [] (only_once is i)
unfolding only_once
once_first is i e = rw e (answers none)

once_later : (is : List Item) (i : ℕ) → eqb i 0 ≡ false → (l : List Item) → slice 0 i is ≡ some l → Answers []
    (before i (get_elem? is i >>? λ x. same_name x (reverse l))) → Answers [] (only_once is i)
unfolding only_once at ◌>>=◌
once_later is i e l h a = rw (e, h) a

pub once_answers : (is : List Item) (i : ℕ) → i < length is → Answers [] (only_once is i)
unfolding only_once
once_answers is i h = go (eqb i 0) refl
  where
    earlier : slice 0 i is ≡ some (take (i - 0) (drop 0 is))
    earlier = slice_some_of 0 i is (omega arith) (omega arith)

    go : (b : Bool) → eqb i 0 ≡ b → Answers [] (only_once is i)
    go true e = once_first is i e
    go false e = once_later is i e _ earlier (before_answers i _ (once_below is i (omega arith)))

-- ---- the calls on a state alone
module _ (x : Raw) where
  -- a good state, and what follows
  on_state :
      {A : Type 0} {l : List ℕ} (f : State → Outcome (Took A))
      → all (contains l) (29 ∷ []) ≡ true
      → ((s : State) → Good x.count s → Answers l (f s))
      → Hands l x (handed x (state_in most_fields x.count x >>= f))
  on_state f n h = handed_answers x _ (bind_answers (state_in most_fields x.count x) f (state_answers most_fields x.count x) n
      (λ s e. h s (state_good_lem most_fields x.count x s e)))

  remove_called : (i k : ℕ) → Hands (29 ∷ 28 ∷ []) x (call_remove x i k)
  unfolding call_remove took all contains
  remove_called i k = on_state _ refl (λ s g. bind_answers (place_in x.count i) _ (place_answers x.count i) refl
      (λ _ _. bind_answers (mark_in most_fields k) _ (mark_answers most_fields k) refl
      (λ mark e. bind_answers (remove mark s i) _ (remove_answers mark (told_parsed most_fields k mark e) x.count s i g) refl (λ u _. answers _))))

  pick_called : (y : Raw) → Hands (29 ∷ []) x (call_pick_winner x y)
  unfolding call_pick_winner took all contains
  pick_called y = on_state _ refl (λ s g. bind_answers (state_in most_fields x.count y) _ (state_answers most_fields x.count y) refl (λ t _. answers _))

  conflicts_called : (y : Raw) (w : ℕ) → Hands (29 ∷ 28 ∷ []) x (call_save_conflicts x y w)
  unfolding call_save_conflicts took all contains
  conflicts_called y w = on_state _ refl (λ s g. bind_answers (state_in most_fields x.count y) _ (state_answers most_fields x.count y) refl
      (λ t _. bind_answers (place_in x.count w) _ (place_answers x.count w) refl (λ _ _. answers _)))

  scope_called : (a b : ℕ) → Hands (29 ∷ 28 ∷ []) x (call_set_scope x a b)
  unfolding call_set_scope took all contains
  scope_called a b = on_state _ refl (λ s g. bind_answers (scope_in x.count a b) _ (scope_answers x.count a b) refl
      (λ c e. let h = scope_inside x.count a b c e in
      bind_answers (set_scope s a b) _ (scope_set x.count s a b g h.0 h.1) refl (λ u _. answers _)))

  adjacent_called : (y : Raw) → Hands (29 ∷ []) x (call_adjacent_scope x y)
  unfolding call_adjacent_scope took all contains
  adjacent_called y = on_state _ refl (λ s g. bind_answers (state_in most_fields x.count y) _ (state_answers most_fields x.count y) refl
      (λ t e. bind_answers (adjacent_scope s t) _ (adjacent_answers x.count s t g (state_good_lem most_fields x.count y t e)) refl (λ _ _. answers _)))

  available_called : (a : ℕ) → Hands (29 ∷ 28 ∷ []) x (call_available_from x a)
  unfolding call_available_from took all contains
  available_called a = on_state _ refl
      (λ s g. bind_answers (place_in (suc x.count) a) _ (place_answers (suc x.count) a) refl (λ _ _. answers _))

-- ---- calls on items and a state
-- 6 and 5, 7, 30
abbrev Tested : List ℕ → Type 0
Tested l = (all (contains l) (6 ∷ 5 ∷ []) ≡ true) × (all (contains l) (7 ∷ []) ≡ true) × (all (contains l) (30 ∷ []) ≡ true)

module _ (sheet slice : List ℕ) where
  with_items :
      {A : Type 0} {l : List ℕ} (f : List Item → Outcome A)
      → Tested l
      → ((is : List Item) → Answers l (f is))
      → Answers l (sheet_in sheet >>= λ area. slice_in 1792 slice >>= λ w. items_in area w >>= f)
  with_items f t h =
      bind_answers (sheet_in sheet) _ (sheet_answers sheet) t.0
      (λ area _. bind_answers (slice_in 1792 slice) _ (slice_answers 1792 slice) t.1
      (λ w _. bind_answers (items_in area w) f (items_answers area w) t.2 (λ is _. h is)))

  module _ (x : Raw) where
    items_called :
        {A : Type 0} {l : List ℕ} (f : List Item → State → Outcome (Took A))
        → Tested l
        → all (contains l) (29 ∷ []) ≡ true
        → ((is : List Item) (s : State) → Good (length is) s → Answers l (f is s))
        → Hands l x (on_items sheet slice x f)
    unfolding on_items
    items_called f t n h = handed_answers x _
        (with_items _ t (λ is. bind_answers (state_in most_fields (length is) x) (f is) (state_answers most_fields (length is) x) n
        (λ s e. h is s (state_good_lem most_fields (length is) x s e))))

    get_called : (i : ℕ) → Hands (6 ∷ 5 ∷ 7 ∷ 30 ∷ 29 ∷ 28 ∷ []) x (call_get sheet slice x i)
    unfolding call_get took all contains
    get_called i = items_called _ (refl, refl, refl) refl
        (λ is s g. bind_answers (place_in (length is) i) _ (place_answers (length is) i) refl (λ _ _. answers _))

    conflict_called : Hands (6 ∷ 5 ∷ 7 ∷ 30 ∷ 29 ∷ []) x (call_conflict sheet slice x)
    unfolding call_conflict took all contains
    conflict_called = items_called _ (refl, refl, refl) refl
        (λ is s g. bind_answers (conflict is s) _ (conflict_answers is s g) refl (λ _ _. answers _))

    operand_answers : (t : Took (Option Operand)) → Answers (6 ∷ 5 ∷ 7 ∷ 30 ∷ 29 ∷ 28 ∷ 20 ∷ []) (operand_or20 t)
    unfolding operand_or20 took contains
    operand_answers t = go t.answer refl
      where
        go : (o : Option Operand) → t.answer ≡ o → Answers (6 ∷ 5 ∷ 7 ∷ 30 ∷ 29 ∷ 28 ∷ 20 ∷ []) (operand_or20 t)
        go none e = rw (e, operand_or20) (refuses _ refl)
        go (some o) e = rw (e, operand_or20) (answers _)

    positional_called : (k : ℕ) → Hands (6 ∷ 5 ∷ 7 ∷ 30 ∷ 29 ∷ 28 ∷ 20 ∷ []) x (call_take_positional sheet slice x k)
    unfolding call_take_positional all contains
    positional_called k = items_called _ (refl, refl, refl) refl (λ is s g.
        bind_answers (mark_in most_fields k) _ (mark_answers most_fields k) refl
        (λ mark e. let t = positional_takes mark (told_parsed most_fields k mark e) is s g in
        bind_answers {l = []} (take_positional_word mark is s) _ (ok_answers _ t.0 t.1) refl (λ u _. operand_answers u)))

    -- ---- calls with a form
    module _ (form : List ℕ) where
      form_called :
          {A : Type 0} {l : List ℕ} (f : Accepted → List Item → State → Outcome (Took A))
          → all (contains l) (1 ∷ 2 ∷ 3 ∷ 4 ∷ []) ≡ true
          → Tested l
          → all (contains l) (29 ∷ []) ≡ true
          → ((a : Accepted) (is : List Item) (s : State) → Good (length is) s → Answers l (f a is s))
          → Hands l x (on_form form sheet slice x f)
      unfolding on_form
      form_called f p t n h = handed_answers x _
          (bind_answers (form_in form) _ (form_answers form) p
          (λ a _. with_items _ t (λ is.
          bind_answers (state_in (length a.fields) (length is) x) (f a is) (state_answers (length a.fields) (length is) x) n
          (λ s e. h a is s (state_good_lem (length a.fields) (length is) x s e)))))

      matches_called : (k i : ℕ) → Hands (1 ∷ 2 ∷ 3 ∷ 4 ∷ 6 ∷ 5 ∷ 7 ∷ 30 ∷ 29 ∷ 28 ∷ []) x (call_matches form sheet slice x k i)
      unfolding call_matches took all contains
      matches_called k i = form_called _ refl (refl, refl, refl) refl
          (λ a is s g. bind_answers _ _ (asked_answers (get_elem? a.trees k >>? key_of)) refl
          (λ m _. bind_answers _ _ (asked_answers (get_elem? is i)) refl (λ y _. answers _)))

      flag_called : (k j : ℕ) → Hands (1 ∷ 2 ∷ 3 ∷ 4 ∷ 6 ∷ 5 ∷ 7 ∷ 30 ∷ 29 ∷ 28 ∷ []) x (call_take_flag form sheet slice x k j)
      unfolding call_take_flag all contains
      flag_called k j = form_called _ refl (refl, refl, refl) refl
          (λ a is s g. bind_answers _ _ (asked_answers (get_elem? a.trees k >>? flag_names)) refl
          (λ m _. bind_answers (mark_in (length a.fields) j) _ (mark_answers (length a.fields) j) refl
          (λ mark e. let t = flag_takes mark (told_parsed (length a.fields) j mark e) is m s g in ok_answers _ t.0 t.1)))

      arg_called : (k j : ℕ) → Hands (1 ∷ 2 ∷ 3 ∷ 4 ∷ 6 ∷ 5 ∷ 7 ∷ 30 ∷ 29 ∷ 28 ∷ 22 ∷ []) x (call_take_arg form sheet slice x k j)
      unfolding call_take_arg all contains
      arg_called k j = form_called _ refl (refl, refl, refl) refl
          (λ a is s g. bind_answers _ _ (asked_answers (get_elem? a.trees k >>? argument_key)) refl
          (λ m _. bind_answers (mark_in (length a.fields) j) _ (mark_answers (length a.fields) j) refl
          (λ mark e. more_answers (arg_answers mark (told_parsed (length a.fields) j mark e) is m.named m.adjacent s g) refl)))

      command_called : (k : ℕ) → Hands (1 ∷ 2 ∷ 3 ∷ 4 ∷ 6 ∷ 5 ∷ 7 ∷ 30 ∷ 29 ∷ 28 ∷ []) x (call_take_cmd form sheet slice x k)
      unfolding call_take_cmd all contains
      command_called k = form_called _ refl (refl, refl, refl) refl
          (λ a is s g. bind_answers _ _ (asked_answers (command_name a k)) refl (λ w _. more_answers (command_answers command_mark command_parsed is w s g) refl))

  -- ---- with no state
  once_called : (i : ℕ) → Answers (6 ∷ 5 ∷ 7 ∷ 30 ∷ 28 ∷ []) (call_only_once sheet slice i)
  unfolding call_only_once all contains
  once_called i = with_items _ (refl, refl, refl)
      (λ is. bind_answers (place_in (length is) i) _ (place_answers (length is) i) refl
      (λ j e. bind_answers (place_in 4294967296 i) _ (place_answers 4294967296 i) refl
      (λ _ _. more_answers (once_answers is i (place_below_lem (length is) i j e)) refl)))

  text_called : (form : List ℕ) (w : ℕ) → Answers (1 ∷ 2 ∷ 3 ∷ 4 ∷ 6 ∷ 5 ∷ 7 ∷ 30 ∷ 28 ∷ []) (call_text form sheet slice w)
  unfolding call_text all contains
  text_called form w =
      bind_answers (form_in form) _ (form_answers form) refl
      (λ a _. with_items _ (refl, refl, refl) (λ is. more_answers (asked_answers _) refl))

kind_called : (form : List ℕ) (k : ℕ) → Answers (1 ∷ 2 ∷ 3 ∷ 4 ∷ 28 ∷ []) (call_kind form k)
unfolding call_kind all contains
kind_called form k = bind_answers (form_in form) _ (form_answers form) refl (λ a _. more_answers (asked_answers _) refl)

portable_called : (form : List ℕ) → Answers (1 ∷ 2 ∷ 3 ∷ 4 ∷ []) (call_portable form)
unfolding call_portable all contains
portable_called form = bind_answers (form_in form) _ (form_answers form) refl (λ a _. answers _)

-- ---- `eval` of a node
-- before the evaluation, and of the evaluation
abbrev early : List ℕ
early = 1 ∷ 2 ∷ 3 ∷ 4 ∷ 6 ∷ 5 ∷ 7 ∷ 14 ∷ 30 ∷ 29 ∷ 28 ∷ []

abbrev late : List ℕ
late = 20 ∷ 21 ∷ 22 ∷ 23 ∷ 24 ∷ 25 ∷ 26 ∷ []

pub form_checked : (b : List ℕ) (a : Accepted) → form_in b ≡ ok a → check_form b ≡ accepted a
unfolding form_in
form_checked b a e = go (check_form b) refl
  where
    go : (c : Checked Accepted) → check_form b ≡ c → check_form b ≡ accepted a
    go (accepted d) h = h ∙ ap accepted (ok_injective (rw (h, form_in) at e))
    go (refused_at n k) h = absurd (refused_not_ok _ a (rw (h, form_in) at e))

pub asked_some : {A : Type 0} (o : Option A) (a : A) → asked o ≡ ok a → o ≡ some a
unfolding asked
asked_some none a e = absurd (refused_not_ok _ a e)
asked_some (some b) a e = ap some (ok_injective e)

ends_answers : (m : ℕ) (k : Option Kind) (o : Outcome Value) → EndsOne m k o → Answers late o
unfolding numbers
ends_answers m k (ok v) h = answers v
ends_answers m k (refused e) h = refuses e (numbers_contain 7 20 e.number h.0 (omega (arith, h.1)))
ends_answers m k (fault x) h = absurd h

module _ (form sheet slice buffer list : List ℕ) (x : Raw) (k : ℕ) where
  eval_in_lem : Answers early (eval_in form sheet slice buffer list x k)
  unfolding eval_in all contains
  eval_in_lem =
      bind_answers (form_in form) _ (form_answers form) refl
      (λ a _. bind_answers (sheet_in sheet) _ (sheet_answers sheet) refl
      (λ area _. bind_answers (slice_in 1792 slice) _ (slice_answers 1792 slice) refl
      (λ l _. bind_answers (slice_in 8240 buffer) _ (slice_answers 8240 buffer) refl
      (λ _ _. bind_answers (list_room_in (length list)) _ (list_answers (length list)) refl
      (λ _ _. bind_answers (items_in area l) _ (items_answers area l) refl
      (λ is _. bind_answers (state_in (length a.fields) (length is) x) _ (state_answers (length a.fields) (length is) x) refl
      (λ s _. bind_answers (asked (get_elem? a.trees k)) _ (asked_answers _) refl (λ t _. answers _))))))))

  -- how the evaluation ended, and that only 20 has entries
  eval_ended :
      (r : Ran Value)
      → eval_in form sheet slice buffer list x k ≡ ok r
      → Answers late r.outcome × ((e : Refusal) → r.outcome ≡ refused e → is_missing e ≡ false → e.missing ≡ [])
  unfolding eval_in
  eval_ended r e =
      let (a, p, e₁) = bind_ok (form_in form) _ r e in
      let (area, q, e₂) = bind_ok (sheet_in sheet) _ r e₁ in
      let (l, u, e₃) = bind_ok (slice_in 1792 slice) _ r e₂ in
      let (m, v, e₄) = bind_ok (slice_in 8240 buffer) _ r e₃ in
      let (n, y, e₅) = bind_ok (list_room_in (length list)) _ r e₄ in
      let (is, w, e₆) = bind_ok (items_in area l) _ r e₅ in
      let (s, h, e₇) = bind_ok (state_in (length a.fields) (length is) x) _ r e₆ in
      let (t, g, e₈) = bind_ok (asked (get_elem? a.trees k)) _ r e₇ in
      let z = All-at Sound a.trees k t (accepted_trees_sound form a (form_checked form a p)) (asked_some _ t g) in
      let field : ℕ = field_of a.form k in
      let mark : ℕ = field_mark field in
      let ends = (eval_sound mark (field_parsed field) is t z s (state_good_lem (length a.fields) (length is) x s h)).ends in
      let same = ok_injective e₈ in (
        rw same at (ends_answers (s.remaining + 1) (kind_of t) (eval mark is t s).outcome ends),
        λ d q. (missing_told.lacks mark is t s d (ap (λ (u : Ran Value). u.outcome) same ∙ q)).only,
      )

  evaluated_is :
      (r : Ran Value) (o : Outcome Value)
      → r.outcome ≡ o
      → Answers late o
      → ((e : Refusal) → o ≡ refused e → is_missing e ≡ false → e.missing ≡ [])
      → EvalAnswers x buffer list (evaluated (length buffer) (length list) r)
  unfolding evaluated evaluated_with is_missing
  evaluated_is r o e (answers v) only = record {
    evaluated = evaluated_with (length buffer) (length list) r 0 none (words v) [];
    answered = rw (e, evaluated);
    number = inl (refl, no_entries_listed (length list) [] refl);
  }
  evaluated_is r o e (refuses y n) only = record {
    evaluated = evaluated_with (length buffer) (length list) r y.number y.place [] y.missing;
    answered = rw (e, evaluated);
    number = inr (inl (
      n,
      refl,
      padded_nil (length buffer),
      λ h. no_entries_listed (length list) y.missing (only y refl (ne_eqb y.number 20 h)),
    ));
  }

  eval_called : EvalAnswers x buffer list (call_eval form sheet slice buffer list x k)
  unfolding call_eval unchanged
  eval_called = go (eval_in form sheet slice buffer list x k) refl eval_in_lem
    where
      go :
          (o : Outcome (Ran Value))
          → eval_in form sheet slice buffer list x k ≡ o
          → Answers early o
          → EvalAnswers x buffer list (call_eval form sheet slice buffer list x k)
      go o e (answers r) = rw (e, call_eval) (evaluated_is r r.outcome refl (eval_ended r e).0 (eval_ended r e).1)
      go o e (refuses y n) = record {
        evaluated = unchanged x buffer list y;
        answered = rw (e, call_eval);
        number = inr (inr (n, refl, refl, refl, refl, refl));
      }

-- ---- `split`
module _ (form sheet : List ℕ) (n : ℕ) where
  -- 1 to 7
  split_refused_lem :
      (m : ℕ) (k : Option ℕ)
      → AtFault form sheet n 8240 192 m k
      → (m ≡ 9 → ⊥)
      → call_split form sheet n ≡ ok (split_refused n m k)
      → SplitsLine form sheet n (call_split form sheet n)
  unfolding split_refused
  split_refused_lem m k h small e = record {
    splitting = split_refused n m k;
    answered = e;
    state = empty_state;
    handed = refl;
    number = inr (h, cleared_left form sheet n m small);
  }

  module _ (a : Accepted) (accepts : check_form form ≡ accepted a) where
    form_made : split a.form sheet ≡ split (read_form form) sheet
    form_made = ap (λ (f : Form). split f sheet) (accepted_form form a accepts)

    -- 0, 8 and 9
    line_split : (l : Line) → sheet_fault sheet ≡ 0 → 1792 ≤ n → split a.form sheet ≡ ok l → SplitsLine form sheet n (call_split form sheet n)
    unfolding split_report ◌>>=◌
    line_split l z long e = record {
      splitting = split_report n l;
      answered = split_goes form sheet n a accepts z long ∙ rw e;
      state = l.state;
      handed = refl;
      number = go l.refusal refl;
    }
      where
        Ends : Option Refusal → Type 0
        Ends o =
            (◌≡◌ {A = ℕ} (elim o [ none ↦ 0 | some e ↦ e.number ]) 0)
            ⊎ (AtFault form sheet n 8240 192 (elim o [ none ↦ 0 | some e ↦ e.number ]) (elim o [ none ↦ none | some e ↦ e.place ])
            × ItemsLeft form sheet n (elim o [ none ↦ 0 | some e ↦ e.number ]) (padded n l.records) l.state)

        go : (o : Option Refusal) → l.refusal ≡ o → Ends o
        go none u = inl refl
        go (some r) u =
            let splits = sym form_made ∙ e in
            inr (
              line_fault form sheet l r u splits n 8240 192 (well_made form a accepts) (sheet_made sheet z) long (omega arith) (omega arith),
              line_left form sheet l r u splits n,
            )

    accepted_split : SplitsLine form sheet n (call_split form sheet n)
    accepted_split = sheeted (ltb 0 (sheet_fault sheet)) refl
      where
        sliced : sheet_fault sheet ≡ 0 → (t : Bool) → ltb n 1792 ≡ t → SplitsLine form sheet n (call_split form sheet n)
        sliced z true e =
            split_refused_lem 7 none (short_slice (well_made form a accepts) (sheet_made sheet z) (inl (ltb-true n 1792 e))) (λ x. omega arith)
            (split_short_lem form sheet n a accepts z (ltb-true n 1792 e))
        sliced z false e = let (l, h) = split_line a.form sheet in line_split l z (ltb-false n 1792 e) h

        sheeted : (t : Bool) → ltb 0 (sheet_fault sheet) ≡ t → SplitsLine form sheet n (call_split form sheet n)
        sheeted true e =
            let x = sheet_fault_lem sheet (ltb-true 0 (sheet_fault sheet) e) in
            split_refused_lem (sheet_fault sheet) none (sheet_at_fault (sheet_fault sheet) (well_made form a accepts) x)
            (fault_small sheet (sheet_fault sheet) x)
            (split_sheet form sheet n a accepts (λ z. let h = ltb-true 0 (sheet_fault sheet) e in omega arith))
        sheeted false e = let z = ltb-false 0 (sheet_fault sheet) e in sliced (omega arith) (ltb n 1792) refl

  split_called : SplitsLine form sheet n (call_split form sheet n)
  split_called = go (check_form form) refl
    where
      go : (c : Checked Accepted) → check_form form ≡ c → SplitsLine form sheet n (call_split form sheet n)
      go (accepted a) e = accepted_split a e
      go (refused_at m k) e =
          let few = (check_numbers form m k e).1 in
          split_refused_lem m k (bad_form m k (check_fault form m k e)) (λ x. omega arith) (split_form form sheet n m k e)

-- ---- every single call
pub calls_answered : CallsAnswered
calls_answered = record {
  remove = remove_called;
  pick_winner = pick_called;
  save_conflicts = conflicts_called;
  set_scope = scope_called;
  adjacent_scope = adjacent_called;
  available_from = available_called;
  get = get_called;
  conflict = conflict_called;
  take_positional = positional_called;
  only_once = once_called;
  matches_arg = λ form sheet slice x k i. matches_called sheet slice x form k i;
  take_flag = λ form sheet slice x k. flag_called sheet slice x form k;
  take_arg = λ form sheet slice x k. arg_called sheet slice x form k;
  take_cmd = λ form sheet slice x k. command_called sheet slice x form k;
  eval = eval_called;
  kind = kind_called;
  portable = portable_called;
  text = λ form sheet slice w. text_called sheet slice form w;
  split = split_called;
}
