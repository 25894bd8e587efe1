-- Choice: from what holds of the runs of both sides to what holds of its own.
use mathlib.Core.Bool.{Bool, true, false, ◌&&◌, ◌||◌}
use mathlib.Core.Option.{none}
use mathlib.Core.Path.{◌≡◌}
use Prim.Native.Nat.{ℕ, ◌+◌, ◌*◌, ◌≤◌}
use native.Mathlib.Nat.{mul-add, le_refl}
use native.Mathlib.Omega.{arith}
use lib.Dec.{eqb}
use Rattle.std.specs.Prelude.{if◌then◌else◌}
use Rattle.rules.specs.Base.{is_some}
use Rattle.rules.specs.Outcome.{Outcome, ok, refused, fault, at, Refusal, is_missing, can_catch, wrong_input, combine_with}
use Rattle.rules.specs.Value.{BaseValue, Value}
use Rattle.rules.specs.Tree.{Tree, Choice, kind_of, has_repeat}
use Rattle.rules.specs.State.{State, Picked, pick_winner}
use Rattle.rules.specs.Eval.{Ran, ended, side, picks_first, value_of, picked, won, chosen, eval_choice}
use Rattle.rules.specs.Sound.{Good, leaves}
use Rattle.rules.proofs.Steps.{Step, most}
use Rattle.rules.proofs.StepLaws.{step_refl, won_first, won_second}
use Rattle.rules.proofs.Went.{if_holds, Fine, Went, went_cost, ended_went, after_went}
use Rattle.rules.proofs.KindLaws.{choice_kind_lem}
use Rattle.rules.proofs.Nodes.{Evaluated}

-- the tries of both sides
pub most_choice : (t u : Tree) (r : ℕ) → most t r + most u r ≤ most (Choice t u) r
unfolding most has_repeat leaves
most_choice t u r = go (has_repeat t) (has_repeat u)
  where
    more : (x : ℕ) → x ≤ (r + 2) * x
    more x = omega arith

    both : (r + 2) * (leaves t + leaves u) ≡ (r + 2) * leaves t + (r + 2) * leaves u
    both = mul-add (r + 2) (leaves t) (leaves u)

    go :
        (a b : Bool)
        → (if a then (r + 2) * leaves t else leaves t) + (if b then (r + 2) * leaves u else leaves u)
        ≤ (if a || b then (r + 2) * (leaves t + leaves u) else leaves t + leaves u)
    go true true = omega (arith, both)
    go true false = omega (arith, both, more (leaves u))
    go false true = omega (arith, both, more (leaves t))
    go false false = le_refl _

-- one refusal of the two
combine_fine :
    {A : Type 0} (P : A → Type 0) (e f : Refusal)
    → Fine 26 P (refused e)
    → Fine 26 P (refused f)
    → Fine 26 P (refused (combine_with e f))
unfolding combine_with
combine_fine P e f p q =
    if_holds (λ x. Fine 26 P (refused x)) (is_missing e) _ _
    (λ _. if_holds (λ x. Fine 26 P (refused x)) (is_missing f) _ _ (λ _. omega arith) (λ _. q))
    (λ _. if_holds (λ x. Fine 26 P (refused x)) (can_catch e) _ _ (λ _. q) (λ _. p))

-- a run, with this outcome
abbrev with_outcome : Ran Value → Outcome Value → Ran Value
with_outcome r o = record { outcome = o; state = r.state; tries = r.tries; trace = r.trace }

module _
    (M : BaseValue → Type 0) (n : ℕ) (P : Value → Type 0) (s : State) (a b : Ran Value)
    (g : Good n s) (x : Step n s a.state) (y : Step n s b.state)
  where
    abbrev by : Outcome Value → Outcome Value → Outcome Picked → Ran Value
    by oa ob o = elim o [
      | ok p ↦ picked (with_outcome a oa) (with_outcome b ob) p
      | refused e ↦ ended (refused e) s
      | fault x ↦ ended (fault x) s
    ]

    won_went : (v w : Value) → P v → P w → Went M n 26 P s 0 (by (ok v) (ok w) (ok (pick_winner a.state b.state)))
    unfolding picked value_of at
    won_went v w p q =
        if_holds (Went M n 26 P s 0) (pick_winner a.state b.state).first _ _
        (λ e. ended_went _ (ok v) (won_first n s a.state b.state g x y e) p)
        (λ e. ended_went _ (ok w) (won_second n s a.state b.state g x y e) q)

    -- nothing was used
    idle : State → Bool
    idle u = eqb s.remaining u.remaining

    chosen_went : (oa ob : Outcome Value) → Fine 26 P oa → Fine 26 P ob → Went M n 26 P s 0 (chosen s (with_outcome a oa) (with_outcome b ob))
    unfolding chosen picked picks_first value_of at side won idle
    chosen_went (ok v) (ok w) p q =
        if_holds (λ o. Went M n 26 P s 0 (by (ok v) (ok w) o)) (idle a.state && idle b.state) (side true none) _
        (λ _. ended_went a.state (ok v) x p)
        (λ _. won_went v w p q)
    chosen_went (ok v) (refused e) p q =
        if_holds (λ o. Went M n 26 P s 0 (by (ok v) (refused e) o)) (idle a.state && wrong_input e) (refused e) (side true none)
        (λ _. ended_went s (refused e) (step_refl g) q)
        (λ _. ended_went a.state (ok v) x p)
    chosen_went (ok v) (fault z) p q = absurd q
    chosen_went (refused e) (ok w) p q =
        if_holds (λ o. Went M n 26 P s 0 (by (refused e) (ok w) o)) (idle b.state && wrong_input e) (refused e) (side false none)
        (λ _. ended_went s (refused e) (step_refl g) p)
        (λ _. ended_went b.state (ok w) y q)
    chosen_went (refused e) (refused f) p q = ended_went s (refused (combine_with e f)) (step_refl g) (combine_fine P e f p q)
    chosen_went (refused e) (fault z) p q = absurd q
    chosen_went (fault z) o p q = absurd p

pub choice_went :
    {M : BaseValue → Type 0} {n c d : ℕ} {P : Value → Type 0} {s : State} {a b : Ran Value}
    → Good n s
    → Went M n 26 P s c a
    → Went M n 26 P s d b
    → Went M n 26 P s (c + d) (eval_choice s a b)
unfolding eval_choice
choice_went {M} {n} {c} {d} {P} {s} {a} {b} g x y =
    went_cost (omega arith)
    (after_went a _ x.passed x.cost
    (after_went b _ y.passed y.cost
    (chosen_went M n P s a b g x.step y.step a.outcome b.outcome x.ends y.ends)))

pub choice_sound :
    {M : BaseValue → Type 0} {n : ℕ} (t u : Tree) {s : State} {a b : Ran Value}
    → Good n s
    → is_some (kind_of (Choice t u)) ≡ true
    → Evaluated M n t s a
    → Evaluated M n u s b
    → Evaluated M n (Choice t u) s (eval_choice s a b)
unfolding kind_of
choice_sound t u {s} g e x y =
    let k = choice_kind_lem (kind_of t) (kind_of u) e in
    record { went = went_cost (most_choice t u s.remaining) (choice_went g (rw k.0 x.went) (rw (k.0, ← k.1) y.went)) }
