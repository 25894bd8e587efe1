-- Runs of any answer: what holds of `ended`, `after` and `_then_`.
use mathlib.Core.Bool.{Bool, true, false}
use mathlib.Core.List.{List, [], ◌∷◌}
use mathlib.Core.Path.{◌≡◌, refl}
use Prim.Native.Nat.{ℕ, ◌+◌, ◌≤◌}
use native.Mathlib.Nat.{add-le-add, le_trans}
use native.Mathlib.Omega.{arith}
use Rattle.std.specs.Prelude.{if◌then◌else◌}
use Rattle.rules.specs.Outcome.{Outcome, ok, refused, fault}
use Rattle.rules.specs.Value.{BaseValue}
use Rattle.rules.specs.State.{State}
use Rattle.rules.specs.Eval.{Ran, ended, after, ◌then◌}
use Rattle.rules.specs.Demands.{All}
use Rattle.rules.proofs.Acceptance.{All-append}
use Rattle.rules.proofs.Steps.{Step, Visited}
use Rattle.rules.proofs.StepLaws.{step_refl, step_trans}

-- a test, by what holds of either side
pub if_holds : {A : Type 0} (P : A → Type 0) (b : Bool) (x y : A) → (b ≡ true → P x) → (b ≡ false → P y) → P (if b then x else y)
if_holds P true x y p q = p refl
if_holds P false x y p q = q refl

-- ---- every element
pub all_weaker : {A : Type 0} (P Q : A → Type 0) (l : List A) → ((x : A) → P x → Q x) → All P l → All Q l
all_weaker P Q [] f p = tt
all_weaker P Q (x ∷ l) f p = (f x p.0, all_weaker P Q l f p.1)

-- ---- an answer that is as told, or a refusal from 20 up to the highest told
abbrev pub Fine : {A : Type 0} → ℕ → (A → Type 0) → Outcome A → Type 0
Fine highest P (ok v) = P v
Fine highest P (refused e) = (20 ≤ e.number) × (e.number ≤ highest)
Fine highest P (fault x) = ⊥

pub fine_weaker : {A : Type 0} (h l : ℕ) (P Q : A → Type 0) (o : Outcome A) → h ≤ l → ((v : A) → P v → Q v) → Fine h P o → Fine l Q o
fine_weaker h l P Q (ok v) e f p = f v p
fine_weaker h l P Q (refused x) e f p = (p.0, le_trans p.1 e)
fine_weaker h l P Q (fault x) e f p = p

-- a run over n items from a state, of at most c tries, where M is what base values mean
pub record Went {A : Type 0} (M : BaseValue → Type 0) (n highest : ℕ) (P : A → Type 0) (s : State) (c : ℕ) (r : Ran A) : Type 0 where
  pub step : Step n s r.state
  pub ends : Fine highest P r.outcome
  pub passed : All (Visited M n) r.trace
  pub cost : r.tries ≤ c

module _ {A : Type 0} {M : BaseValue → Type 0} {n : ℕ} {s : State} where
  pub went_weaker :
      {h l c : ℕ} {P Q : A → Type 0} {r : Ran A}
      → h ≤ l
      → ((v : A) → P v → Q v)
      → Went M n h P s c r
      → Went M n l Q s c r
  went_weaker {r} e f w =
      let ends = fine_weaker _ _ _ _ r.outcome e f w.ends in
      record { step = w.step; ends = ends; passed = w.passed; cost = w.cost }

  pub went_cost : {h c d : ℕ} {P : A → Type 0} {r : Ran A} → c ≤ d → Went M n h P s c r → Went M n h P s d r
  went_cost m w = record { step = w.step; ends = w.ends; passed = w.passed; cost = le_trans w.cost m }

  pub ended_went : {h : ℕ} {P : A → Type 0} (u : State) (o : Outcome A) → Step n s u → Fine h P o → Went M n h P s 0 (ended o u)
  unfolding ended
  ended_went u o t f = record { step = t; ends = f; passed = tt; cost = omega arith }

  -- what came before, from the same state
  pub after_went :
      {B : Type 0} {h c d : ℕ} {P : A → Type 0} (r : Ran B) (q : Ran A)
      → All (Visited M n) r.trace
      → r.tries ≤ c
      → Went M n h P s d q
      → Went M n h P s (c + d) (after r q)
  unfolding after
  after_went r q p k w =
      record {
        step = w.step;
        ends = w.ends;
        passed = All-append (Visited M n) r.trace q.trace p w.passed;
        cost = add-le-add k w.cost;
      }

  -- what came before, and an end
  pub after_ended :
      {B : Type 0} {h l c : ℕ} {P : A → Type 0} {Q : B → Type 0} {r : Ran B} (u : State) (o : Outcome A)
      → Went M n l Q s c r
      → Step n s u
      → Fine h P o
      → Went M n h P s c (after r (ended o u))
  after_ended {r} u o w t f = went_cost (omega arith) (after_went r (ended o u) w.passed w.cost (ended_went u o t f))

  -- the rest of a run, from the state that was left
  pub rest_went : {h c : ℕ} {P : A → Type 0} {u : State} {r : Ran A} → Step n s u → Went M n h P u c r → Went M n h P s c r
  rest_went t w = record { step = step_trans t w.step; ends = w.ends; passed = w.passed; cost = w.cost }

module _ {A B : Type 0} {M : BaseValue → Type 0} {n h c : ℕ} {P : A → Type 0} {Q : B → Type 0} {s : State} {r : Ran A} where
  pub then_went :
      {d : ℕ} (f : A → State → Ran B)
      → Went M n h P s c r
      → ((v : A) → P v → Went M n h Q r.state d (f v r.state))
      → Went M n h Q s (c + d) (r then f)
  unfolding ◌then◌
  then_went {d} f w k = after_went r _ w.passed w.cost (go r.outcome w.ends)
    where
      rest : Outcome A → Ran B
      rest o = elim o [
        | ok v ↦ f v r.state
        | refused e ↦ ended (refused e) r.state
        | fault x ↦ ended (fault x) r.state
      ]

      go : (o : Outcome A) → Fine h P o → Went M n h Q s d (rest o)
      go (ok v) e = rest_went w.step (k v e)
      go (refused x) e = went_cost (omega arith) (ended_went r.state (refused x) w.step e)
      go (fault x) e = absurd e

  -- the answer of a run turned into another
  pub then_ended :
      (f : A → State → Outcome B)
      → Went M n h P s c r
      → ((v : A) → P v → Fine h Q (f v r.state))
      → Went M n h Q s c (r then λ v u. ended (f v u) u)
  then_ended f w k =
      went_cost (omega arith)
      (then_went _ w (λ v p. ended_went r.state (f v r.state) (step_refl w.step.good) (k v p)))
