-- What the call about values from nothing promises: of the repeats that it names, and of those that it does not.
use Rattle.std.specs.Prelude.{true, false, List, [], ◌∷◌, ◌≡◌, ℕ, ◌-◌, ◌≤◌, ◌<◌, length}
use Rattle.std.proofs.Math.Option.{some, none}
use Rattle.std.proofs.Math.ListN.{get_elem?}
use Rattle.std.specs.Prelude.{if◌then◌else◌}
use Rattle.rules.specs.Base.{contains}
use Rattle.rules.specs.Outcome.{Outcome, ok, refused, fault, Refusal, refuse}
use Rattle.rules.specs.Value.{Value, is_number, base, nil, cons, size}
use Rattle.rules.specs.Tree.{Tree, Flag, Argument, Positional, Optional, Many, Some, Count, Last, Choice, Fallback, Guard, has_repeat}
use Rattle.rules.specs.Sheet.{arguments}
use Rattle.rules.specs.Form.{Form}
use Rattle.rules.specs.Accept.{Accepted, accepted, check_form}
use Rattle.rules.specs.Split.{Item}
use Rattle.rules.specs.State.{State, field_mark, empty_state}
use Rattle.rules.specs.Eval.{Ran, eval}
use Rattle.rules.specs.Run.{Line, split}
use Rattle.rules.specs.Sound.{Good}
use Rattle.rules.specs.CallsAnswered.{Answers}
use Rattle.rules_careful.specs.Idle.{may_idle, is_idle_repeat, idle_repeats, call_idle}

-- ---- on the empty line
-- how a node of field j ends there: no items, and the state that such a line starts in
unfoldable pub on_nothing : ℕ → Tree → Outcome Value
on_nothing j t = (eval (field_mark j) [] t empty_state).outcome

-- a value, or a guard's refusal of it
abbrev pub ValueOr26 : Outcome Value → Type 0
ValueOr26 (ok v) = Unit {0}
ValueOr26 (refused e) = e.number ≡ 26
ValueOr26 (fault x) = ⊥

-- what a repeat makes of its child's value, or of its refusal
unfoldable pub made : (Value → Outcome Value) → (Refusal → Outcome Value) → Outcome Value → Outcome Value
made one other (ok v) = one v
made one other (refused e) = other e
made one other (fault x) = fault x

-- Exactly one element. If a guard refuses the value: 26, or with catch no element, which is 21 for `some`
abbrev pub OneFromNothing : ℕ → Tree → Type 0
OneFromNothing j (Flag n m w) = ⊥
OneFromNothing j (Argument n m b a) = ⊥
OneFromNothing j (Positional n p b) = ⊥
OneFromNothing j (Optional c t) = ⊥
OneFromNothing j (Many c t) =
    ValueOr26 (on_nothing j t)
    × (on_nothing j (Many c t) ≡ made (λ v. ok (cons v nil)) (λ e. if c then ok nil else refused e) (on_nothing j t))
OneFromNothing j (Some c t) =
    ValueOr26 (on_nothing j t)
    × (on_nothing j (Some c t) ≡ made (λ v. ok (cons v nil)) (λ e. if c then refused (refuse 21 none) else refused e) (on_nothing j t))
OneFromNothing j (Count t) = ValueOr26 (on_nothing j t) × (on_nothing j (Count t) ≡ made (λ v. ok (base (is_number 1))) refused (on_nothing j t))
OneFromNothing j (Last t) = ValueOr26 (on_nothing j t) × (on_nothing j (Last t) ≡ on_nothing j t)
OneFromNothing j (Choice t u) = ⊥
OneFromNothing j (Fallback v t) = ⊥
OneFromNothing j (Guard l h t) = ⊥

-- a refusal for what is missing
abbrev pub Missing20 : Outcome Value → Type 0
Missing20 (ok v) = ⊥
Missing20 (refused e) = e.number ≡ 20
Missing20 (fault x) = ⊥

-- No element: an empty list, a count of 0, 21 for `some`, and `last` is refused as its child is
abbrev pub NoneFromNothing : ℕ → Tree → Type 0
NoneFromNothing j (Flag n m w) = Unit {0}
NoneFromNothing j (Argument n m b a) = Unit {0}
NoneFromNothing j (Positional n p b) = Unit {0}
NoneFromNothing j (Optional c t) = Unit {0}
NoneFromNothing j (Many c t) = on_nothing j (Many c t) ≡ ok nil
NoneFromNothing j (Some c t) = on_nothing j (Some c t) ≡ refused (refuse 21 none)
NoneFromNothing j (Count t) = on_nothing j (Count t) ≡ ok (base (is_number 0))
NoneFromNothing j (Last t) = Missing20 (on_nothing j t) × (on_nothing j (Last t) ≡ on_nothing j t)
NoneFromNothing j (Choice t u) = Unit {0}
NoneFromNothing j (Fallback v t) = Unit {0}
NoneFromNothing j (Guard l h t) = Unit {0}

-- ---- in any good state
-- a success uses at least one place
abbrev pub UsesPlace : State → Ran Value → Type 0
UsesPlace s r = (v : Value) → r.outcome ≡ ok v → r.state.remaining < s.remaining

-- The length of a list, or a count, is at most remaining given less remaining left
abbrev pub AtMostUsed : Tree → State → Ran Value → Type 0
AtMostUsed (Flag n m w) s r = Unit {0}
AtMostUsed (Argument n m b a) s r = Unit {0}
AtMostUsed (Positional n p b) s r = Unit {0}
AtMostUsed (Optional c t) s r = Unit {0}
AtMostUsed (Many c t) s r = (v : Value) → r.outcome ≡ ok v → size v ≤ s.remaining - r.state.remaining
AtMostUsed (Some c t) s r = (v : Value) → r.outcome ≡ ok v → size v ≤ s.remaining - r.state.remaining
AtMostUsed (Count t) s r = (n : ℕ) → r.outcome ≡ ok (base (is_number n)) → n ≤ s.remaining - r.state.remaining
AtMostUsed (Last t) s r = Unit {0}
AtMostUsed (Choice t u) s r = Unit {0}
AtMostUsed (Fallback v t) s r = Unit {0}
AtMostUsed (Guard l h t) s r = Unit {0}

-- ---- the call
-- a sheet with no arguments, split under a form: no items, and the state above
pub record StartsEmpty (f : Form) (sheet : List ℕ) : Type 0 where
  pub line : Line
  pub splits : split f sheet ≡ ok line
  pub accepted : line.refusal ≡ none
  pub items : line.items ≡ []
  pub state : line.state ≡ empty_state

-- of an accepted form
pub record IdleNamed (a : Accepted) : Type 0 where
  pub starts : (sheet : List ℕ) → arguments sheet ≡ [] → StartsEmpty a.form sheet
  -- a node is named exactly if it is a repeat whose child may be idle
  pub names : (n : ℕ) (t : Tree) → get_elem? a.trees n ≡ some t → contains (idle_repeats a) n ≡ is_idle_repeat t
  -- on the empty line every node leaves the state as it was; with no repeat in it, it has a value, or 26, if it may be idle, else 20
  pub still : (j n : ℕ) (t : Tree) → get_elem? a.trees n ≡ some t → (eval (field_mark j) [] t empty_state).state ≡ empty_state
  pub idle : (j n : ℕ) (t : Tree) → get_elem? a.trees n ≡ some t → has_repeat t ≡ false → may_idle t ≡ true → ValueOr26 (on_nothing j t)
  pub missing : (j n : ℕ) (t : Tree) → get_elem? a.trees n ≡ some t → has_repeat t ≡ false → may_idle t ≡ false → Missing20 (on_nothing j t)
  -- so what is named has one element there, and any other repeat has none
  pub one : (j n : ℕ) (t : Tree) → get_elem? a.trees n ≡ some t → is_idle_repeat t ≡ true → OneFromNothing j t
  pub none : (j n : ℕ) (t : Tree) → get_elem? a.trees n ≡ some t → is_idle_repeat t ≡ false → NoneFromNothing j t
  -- every success of a node that may not be idle, and is no repeat nor has one beneath, uses a place
  pub uses :
      (j n : ℕ) (t : Tree)
      → get_elem? a.trees n ≡ some t
      → has_repeat t ≡ false
      → may_idle t ≡ false
      → (is : List Item) (s : State)
      → Good (length is) s
      → UsesPlace s (eval (field_mark j) is t s)
  -- so a repeat that is not named has no element from nothing
  pub bounded :
      (j n : ℕ) (t : Tree)
      → get_elem? a.trees n ≡ some t
      → is_idle_repeat t ≡ false
      → (is : List Item) (s : State)
      → Good (length is) s
      → AtMostUsed t s (eval (field_mark j) is t s)

pub record IdleAnswered (form : List ℕ) : Type 0 where
  -- an answer, or 1 to 4
  pub answers : Answers (1 ∷ 2 ∷ 3 ∷ 4 ∷ []) (call_idle form)
  pub named : (a : Accepted) → check_form form ≡ accepted a → IdleNamed a
