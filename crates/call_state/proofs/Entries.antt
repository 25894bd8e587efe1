-- Laws of the entry points: a refused call, an accepted one, and a law for each way out.
use mathlib.Core.Path.{◌≡◌, refl, sym, ap, ◌∙◌}
use mathlib.Core.Bool.{Bool, true, false, not, ◌&&◌}
use mathlib.Core.Logic.{◌⊎◌, inl, inr, ⊎_elim}
use mathlib.Core.Option.{some, none}
use Prim.Native.Nat.{ℕ, suc, ◌+◌, ◌≤◌, ◌<◌}
use native.Mathlib.Numerals.{add-one}
use native.Mathlib.Omega.{arith}
use lib.Dec.{leb, ltb}
use borrow.Author.Tests.{lt-ltb, le-ltb, le-leb, lt-leb, ltb-true, ltb-false, not-true, not-false}
use Rattle.std.specs.Prelude.{if◌then◌else◌, Option, Some, None}
use Rattle.rules.specs.Outcome.{Outcome, ok, refused, refuse, ◌>>=◌}
use Rattle.rules.specs.State.{State, field_mark, remove, set_scope, save_conflicts, pick_winner, adjacent_scope, adjacently_available_from}
use Rattle.rules.specs.Take.{Took, took}
use Rattle.rules.specs.Calls.{from_raw, to_raw, state_in, most_fields, place_in, scope_in, handed}
use Rattle.rules.specs.Calls.{call_remove, call_pick_winner, call_save_conflicts, call_set_scope, call_adjacent_scope, call_available_from}
use Rattle.rules.specs.declared.State.{State as Raw}
use Rattle.rules.proofs.GivenLaws.{no_field, field_there}
use Rattle.state_marks.specs.Lent.{FineState, pick_of}
use Rattle.state_marks.specs.declared.Picked.{Picked}
use Rattle.state_value.specs.Options.{handed_over, range_of, scope_of}
use Rattle.state_value.specs.declared.Scope.{Scope}
use Rattle.state_value.proofs.Given.{ok_handed, given_fine, given_count}
use Rattle.call_answers.specs.Answers.{Coded, coded, yes_no, yes_code, pick_code, scope_code, scope_or_none, coded_or0, answer_with, state_with, answer_of, state_answer_of}
use Rattle.call_answers.specs.declared.Answer.{Answer}
use Rattle.call_answers.specs.declared.StateAnswer.{StateAnswer}
use Rattle.call_state.specs.Entries.{both_in}

-- ---- refused and accepted

module _ {A : Type 0} (code : A → Coded) (x : Raw) (o : Outcome (Took A)) where
  refused_answer : (n : ℕ) → o ≡ refused (refuse n none) → (r : Answer) → r ≡ answer_with n 0 (coded 0 0 0) → answer_of code (handed x o) ≡ some r
  unfolding answer_of handed coded_or0
  refused_answer n e r f = rw (e, f)

  refused_state : (n : ℕ) → o ≡ refused (refuse n none) → (r : StateAnswer) → r ≡ state_with n 0 (coded 0 0 0) x → state_answer_of code (handed x o) ≡ some r
  unfolding state_answer_of handed coded_or0
  refused_state n e r f = rw (e, f)

  accepted_answer : (a : A) (s : State) → o ≡ took a s → (r : Answer) → r ≡ answer_with 0 0 (code a) → answer_of code (handed x o) ≡ some r
  unfolding answer_of handed coded_or0 took
  accepted_answer a s e r f = rw (e, f)

  accepted_state : (a : A) (s : State) → o ≡ took a s → (r : StateAnswer) → r ≡ state_with 0 0 (code a) (to_raw s) → state_answer_of code (handed x o) ≡ some r
  unfolding state_answer_of handed coded_or0 took
  accepted_state a s e r f = rw (e, f)

then_took : (o : Outcome State) (u : State) → o ≡ ok u → o >>= took true ≡ took true u
unfolding ◌>>=◌
then_took o u e = rw e

-- a step that gives a state
stepped : (x : Raw) (o : Outcome State) (y : Raw) → handed_over o ≡ ok y → (r : StateAnswer) → r ≡ state_with 0 0 (coded 1 0 0) y
    → state_answer_of yes_code (handed x (o >>= took true)) ≡ some r
stepped x o y h r f =
    let (u, e, z) = ok_handed o y h in
    accepted_state yes_code x (o >>= took true) true u (then_took o u e) r (rw z f)

-- ---- 29

-- the test that the code makes
abbrev pub Tested : Outcome State → Raw → Bool → Type 0
Tested o x b = o ≡ (if b then ok (from_raw x) else refused (refuse 29 none))

tested_good : (o : Outcome State) (x : Raw) (b : Bool) → Tested o x b → not b ≡ false → o ≡ ok (from_raw x)
tested_good o x b g h = g ∙ rw (not-false b h)

tested_bad : (o : Outcome State) (x : Raw) (b : Bool) → Tested o x b → not b ≡ true → o ≡ refused (refuse 29 none)
tested_bad o x b g h = g ∙ rw (not-true b h)

-- with the number of fields as the code has it
module _ (n : ℕ) (x : Raw) (b : Bool) (e : n ≡ x.count) (g : Tested (state_in 16 n x) x b) where
  in_good : not b ≡ false → state_in most_fields x.count x ≡ ok (from_raw x)
  unfolding most_fields
  in_good h = tested_good _ x b (rw e at g) h

  in_bad : not b ≡ true → state_in most_fields x.count x ≡ refused (refuse 29 none)
  unfolding most_fields
  in_bad h = tested_bad _ x b (rw e at g) h

  pub in_fine : not b ≡ false → FineState x
  in_fine h = given_fine most_fields x.count x (in_good h)

  -- ---- two states: the first decides, then the second
  module _ (y : Raw) where
    pub first_bad : not b ≡ true → Tested (both_in x y) y false
    unfolding both_in ◌>>=◌
    first_bad h = rw (in_bad h)

    pub second_decides : not b ≡ false → (c : Bool) → Tested (state_in 16 n y) y c → Tested (both_in x y) y c
    unfolding both_in most_fields ◌>>=◌
    second_decides h c k = rw (in_good h) (rw e at k)

-- 29 lets a state through as it is, or refuses it
if_cases : {A : Type 0} (b : Bool) (u v : A) → ((if b then u else v) ≡ u) ⊎ ((if b then u else v) ≡ v)
if_cases true u v = inl refl
if_cases false u v = inr refl

state_cases : (n : ℕ) (x : Raw) → (state_in most_fields n x ≡ ok (from_raw x)) ⊎ (state_in most_fields n x ≡ refused (refuse 29 none))
unfolding state_in
state_cases n x = if_cases _ _ _

-- ---- 28

module _ (n i : ℕ) where
  no_place : n ≤ i → place_in n i ≡ refused (refuse 28 none)
  unfolding place_in
  no_place h = rw (le-ltb i n h)

  place_there : i < n → place_in n i ≡ ok i
  unfolding place_in
  place_there h = rw (lt-ltb i n h)

and_no : (p : Bool) → p && false ≡ false
and_no true = refl
and_no false = refl

module _ (n a b : ℕ) where
  scope_falls : b < a → scope_in n a b ≡ refused (refuse 28 none)
  unfolding scope_in
  scope_falls h = rw (lt-leb a b h)

  scope_leaves : n < b → scope_in n a b ≡ refused (refuse 28 none)
  unfolding scope_in
  scope_leaves h = rw (lt-leb b n h, and_no (leb a b))

  scope_there : a ≤ b → b ≤ n → scope_in n a b ≡ ok (record { start = a; end = b })
  unfolding scope_in
  scope_there h l = rw (le-leb a b h, le-leb b n l)

-- ---- calls on one state

module _ (n : ℕ) (x : Raw) (b : Bool) (e : n ≡ x.count) (g : Tested (state_in 16 n x) x b) where
  module _ (bad : not b ≡ true) where
    pub remove_bad : (i k : ℕ) (r : StateAnswer) → r ≡ state_with 29 0 (coded 0 0 0) x → state_answer_of yes_code (call_remove x i k) ≡ some r
    unfolding call_remove ◌>>=◌
    remove_bad i k r f = refused_state yes_code x _ 29 (rw (in_bad n x b e g bad)) r f

    pub scope_bad : (i j : ℕ) (r : StateAnswer) → r ≡ state_with 29 0 (coded 0 0 0) x → state_answer_of yes_code (call_set_scope x i j) ≡ some r
    unfolding call_set_scope ◌>>=◌
    scope_bad i j r f = refused_state yes_code x _ 29 (rw (in_bad n x b e g bad)) r f

    pub available_bad : (i : ℕ) (r : Answer) → r ≡ answer_with 29 0 (coded 0 0 0) → answer_of scope_code (call_available_from x i) ≡ some r
    unfolding call_available_from ◌>>=◌
    available_bad i r f = refused_answer scope_code x _ 29 (rw (in_bad n x b e g bad)) r f

  module _ (good : not b ≡ false) where
    fine : state_in most_fields x.count x ≡ ok (from_raw x)
    fine = in_good n x b e g good

    module _ (m i k : ℕ) (same : m ≡ x.count) (r : StateAnswer) where
      pub remove_past : m ≤ i → r ≡ state_with 28 0 (coded 0 0 0) x → state_answer_of yes_code (call_remove x i k) ≡ some r
      unfolding call_remove ◌>>=◌
      remove_past h f = refused_state yes_code x _ 28 (rw (fine, no_place x.count i (omega arith))) r f

      module _ (h : i < m) where
        pub remove_beyond : 16 ≤ k → r ≡ state_with 28 0 (coded 0 0 0) x → state_answer_of yes_code (call_remove x i k) ≡ some r
        unfolding call_remove most_fields ◌>>=◌
        remove_beyond l f =
            refused_state yes_code x _ 28 (rw (fine, place_there x.count i (omega arith), no_field 16 k l)) r f

        pub remove_done : k < 16 → (mark : ℕ) → mark ≡ field_mark k → (y : Raw) → handed_over (remove mark (from_raw x) i) ≡ ok y
            → r ≡ state_with 0 0 (coded 1 0 0) y → state_answer_of yes_code (call_remove x i k) ≡ some r
        unfolding call_remove most_fields ◌>>=◌
        remove_done l mark em y d f =
            rw (fine, place_there x.count i (omega arith), field_there 16 k l, ← em) (stepped x (remove mark (from_raw x) i) y d r f)

    module _ (i j : ℕ) (r : StateAnswer) where
      pub falling : j < i → r ≡ state_with 28 0 (coded 0 0 0) x → state_answer_of yes_code (call_set_scope x i j) ≡ some r
      unfolding call_set_scope ◌>>=◌
      falling h f = refused_state yes_code x _ 28 (rw (fine, scope_falls x.count i j h)) r f

      pub leaving : ltb n j ≡ true → r ≡ state_with 28 0 (coded 0 0 0) x → state_answer_of yes_code (call_set_scope x i j) ≡ some r
      unfolding call_set_scope ◌>>=◌
      leaving h f = refused_state yes_code x _ 28 (rw (fine, scope_leaves x.count i j (omega (arith, ltb-true n j h)))) r f

      pub scope_done : (y : Raw) → i ≤ j → ltb n j ≡ false → handed_over (set_scope (from_raw x) i j) ≡ ok y
          → r ≡ state_with 0 0 (coded 1 0 0) y → state_answer_of yes_code (call_set_scope x i j) ≡ some r
      unfolding call_set_scope ◌>>=◌
      scope_done y h l d f =
          rw (fine, scope_there x.count i j h (omega (arith, ltb-false n j l))) (stepped x (set_scope (from_raw x) i j) y d r f)

    pub available_past : (i : ℕ) (r : Answer) → n < i → r ≡ answer_with 28 0 (coded 0 0 0) → answer_of scope_code (call_available_from x i) ≡ some r
    unfolding call_available_from ◌>>=◌
    available_past i r h f = refused_answer scope_code x _ 28 (rw (fine, no_place (suc x.count) i (omega arith))) r f

    pub available_done : (i : ℕ) (s : Scope) (r : Answer) → i ≤ n → range_of s ≡ adjacently_available_from (from_raw x) i
        → r ≡ answer_with 0 0 (coded 1 s.start s.end) → answer_of scope_code (call_available_from x i) ≡ some r
    unfolding call_available_from ◌>>=◌
    available_done i s r h d f =
        accepted_answer scope_code x _ (range_of s) (from_raw x) (rw (fine, place_there (suc x.count) i (omega arith), d)) r f

-- ---- calls on two states

module _ (x y : Raw) (b : Bool) (g : Tested (both_in x y) y b) where
  both_good : not b ≡ false → (state_in most_fields x.count x ≡ ok (from_raw x)) × (state_in most_fields x.count y ≡ ok (from_raw y))
  unfolding both_in ◌>>=◌
  both_good h = ⊎_elim
      (λ k. (k, rw k at (tested_good (both_in x y) y b g h)))
      (λ k. absurd (
      let z : refused (refuse 29 none) ≡ ok (from_raw y) = rw k at (tested_good (both_in x y) y b g h) in
      let o : ◌≡◌ {A = ℕ} 0 1 = cc in omega arith))
      (state_cases x.count x)

  pub both_fine : not b ≡ false → FineState x × FineState y × (y.count ≡ x.count)
  both_fine h =
      let (k, l) = both_good h in
      (given_fine most_fields x.count x k, given_fine most_fields x.count y l, given_count most_fields x.count y l)

  both_bad : {A : Type 0} → not b ≡ true → (f : State → State → Outcome A)
      → (state_in most_fields x.count x >>= λ s. state_in most_fields x.count y >>= λ t. f s t) ≡ refused (refuse 29 none)
  unfolding both_in ◌>>=◌
  both_bad h f = ⊎_elim
      (λ (k : state_in most_fields x.count x ≡ ok (from_raw x)).
      let z : state_in most_fields x.count y ≡ refused (refuse 29 none) = rw k at (tested_bad (both_in x y) y b g h) in
      rw (k, z))
      (λ k. rw k)
      (state_cases x.count x)

  module _ (bad : not b ≡ true) where
    pub pick_bad : (r : Answer) → r ≡ answer_with 29 0 (coded 0 0 0) → answer_of pick_code (call_pick_winner x y) ≡ some r
    unfolding call_pick_winner
    pick_bad r f = refused_answer pick_code x _ 29 (both_bad bad _) r f

    pub conflicts_bad : (w : ℕ) (r : StateAnswer) → r ≡ state_with 29 0 (coded 0 0 0) x → state_answer_of yes_code (call_save_conflicts x y w) ≡ some r
    unfolding call_save_conflicts
    conflicts_bad w r f = refused_state yes_code x _ 29 (both_bad bad _) r f

    pub adjacent_bad : (r : Answer) → r ≡ answer_with 29 0 (coded 0 0 0) → answer_of scope_or_none (call_adjacent_scope x y) ≡ some r
    unfolding call_adjacent_scope
    adjacent_bad r f = refused_answer scope_or_none x _ 29 (both_bad bad _) r f

  module _ (good : not b ≡ false) where
    module _ (p : Picked) (d : pick_of p ≡ pick_winner (from_raw x) (from_raw y)) (r : Answer) where
      pick_done : r ≡ answer_with 0 0 (pick_code (pick_of p)) → answer_of pick_code (call_pick_winner x y) ≡ some r
      unfolding call_pick_winner ◌>>=◌
      pick_done f = accepted_answer pick_code x _ (pick_of p) (from_raw x) (rw ((both_good good).0, (both_good good).1, d)) r f

      pub pick_some : (a i : ℕ) → a ≡ yes_no p.first → p.place ≡ Some i → r ≡ answer_with 0 0 (coded a (i + 1) 0)
          → answer_of pick_code (call_pick_winner x y) ≡ some r
      unfolding pick_of
      pick_some a i h k f = pick_done (f ∙ rw (h, k, add-one i))

      pub pick_none : (a : ℕ) → a ≡ yes_no p.first → p.place ≡ None → r ≡ answer_with 0 0 (coded a 0 0)
          → answer_of pick_code (call_pick_winner x y) ≡ some r
      unfolding pick_of
      pick_none a h k f = pick_done (f ∙ rw (h, k))

    module _ (n w : ℕ) (e : n ≡ x.count) (r : StateAnswer) where
      pub conflicts_past : n ≤ w → r ≡ state_with 28 0 (coded 0 0 0) x → state_answer_of yes_code (call_save_conflicts x y w) ≡ some r
      unfolding call_save_conflicts ◌>>=◌
      conflicts_past h f =
          refused_state yes_code x _ 28 (rw ((both_good good).0, (both_good good).1, no_place x.count w (omega arith))) r f

      pub conflicts_done : (z : Raw) → w < n → z ≡ to_raw (save_conflicts (from_raw x) (from_raw y) w) → r ≡ state_with 0 0 (coded 1 0 0) z
          → state_answer_of yes_code (call_save_conflicts x y w) ≡ some r
      unfolding call_save_conflicts ◌>>=◌
      conflicts_done z h d f =
          accepted_state yes_code x _ true (save_conflicts (from_raw x) (from_raw y) w)
          (rw ((both_good good).0, (both_good good).1, place_there x.count w (omega arith))) r (rw (← d) f)

    module _ (o : Option Scope) (r : Answer) (d : adjacent_scope (from_raw x) (from_raw y) ≡ ok (scope_of o)) where
      adjacent_done : r ≡ answer_with 0 0 (scope_or_none (scope_of o)) → answer_of scope_or_none (call_adjacent_scope x y) ≡ some r
      unfolding call_adjacent_scope ◌>>=◌
      adjacent_done f =
          accepted_answer scope_or_none x _ (scope_of o) (from_raw x) (rw ((both_good good).0, (both_good good).1, d)) r f

      pub adjacent_some : (s : Scope) → o ≡ Some s → r ≡ answer_with 0 0 (coded 1 s.start s.end) → answer_of scope_or_none (call_adjacent_scope x y) ≡ some r
      adjacent_some s k f = adjacent_done (f ∙ ap (λ (q : Option Scope). answer_with 0 0 (scope_or_none (scope_of q))) (sym k))

      pub adjacent_none : o ≡ None → r ≡ answer_with 0 0 (coded 0 0 0) → answer_of scope_or_none (call_adjacent_scope x y) ≡ some r
      adjacent_none k f = adjacent_done (f ∙ ap (λ (q : Option Scope). answer_with 0 0 (scope_or_none (scope_of q))) (sym k))
