-- Repeats: from what holds of every run of the child to what holds of the loop, and of kinds 5 to 8.
use mathlib.Core.Bool.{Bool, true, false}
use mathlib.Core.List.{List, [], ◌∷◌}
use mathlib.Core.Option.{Option, some, none}
use mathlib.Core.Path.{◌≡◌, refl}
use Prim.Native.Nat.{ℕ, zero, suc, ◌+◌, ◌*◌, ◌≤◌, ◌<◌}
use native.Mathlib.Nat.{mul-le-mul_right, le_trans, le_refl}
use native.Mathlib.Omega.{arith}
use lib.ListN.{length}
use borrow.Author.Tests.{ltb-true}
use Rattle.std.specs.Prelude.{if◌then◌else◌}
use Rattle.rules.specs.Base.{is_some, null, ◌>>?◌}
use Rattle.rules.specs.Outcome.{Outcome, ok, refused, fault, refuse}
use Rattle.rules.specs.Value.{BaseValue, is_number, Value, base, list_of, size, of_kind, bases_of}
use Rattle.rules.specs.Tree.{Tree, Many, Some, Count, Last, kind_of, has_repeat, list_kind}
use Rattle.rules.specs.State.{State}
use Rattle.rules.specs.Eval.{Ran, ended, after, ◌then◌, fewer, swallowed, parse_option, idle, repeat, repeated, eval_many, eval_some, eval_count, last_of, eval_last}
use Rattle.rules.specs.Demands.{All}
use Rattle.rules.specs.Sound.{Good, leaves}
use Rattle.rules.proofs.Steps.{most}
use Rattle.rules.proofs.StepLaws.{step_refl}
use Rattle.rules.proofs.Went.{if_holds, all_weaker, Fine, Went, went_weaker, went_cost, ended_went, after_went, after_ended, rest_went, then_went, then_ended}
use Rattle.rules.proofs.KindLaws.{list_kind_lem, count_kind_lem, last_kind_lem, list_bases, size_list, inner_list}
use Rattle.rules.proofs.Nodes.{Fits, fits_more, Evaluated, Optioned, option_went}

-- at most b elements, all as told
abbrev pub Listed : (Value → Type 0) → ℕ → List Value → Type 0
Listed P b vs = All P vs × (length vs ≤ b)

-- where a value counts, fewer than b places remain
abbrev pub Ahead : State → Option ℕ → ℕ → Type 0
Ahead s len b = (l : ℕ) → l ≤ s.remaining → fewer l len ≡ true → l < b

ahead_first : (s : State) → Ahead s none (s.remaining + 1)
ahead_first s l h e = omega arith

ahead_next : (s : State) → Ahead s (some s.remaining) s.remaining
unfolding fewer
ahead_next s l h e = ltb-true l s.remaining e

-- ---- the loop, over any child that costs at most c from states with at most m places
module _
    (M : BaseValue → Type 0) (n : ℕ) (P : Value → Type 0) (c m : ℕ) (catch stops : Bool) (run : State → Ran Value)
    (child : (s : State) → Good n s → s.remaining ≤ m → Went M n 26 P s c (run s))
  where
    Loops : ℕ → Type 0
    Loops fuel =
        (len : Option ℕ) (s : State) (b : ℕ)
        → Good n s
        → s.remaining ≤ m
        → Ahead s len b
        → b < fuel
        → Went M n 26 (Listed P b) s ((b + 1) * c) (repeat catch stops fuel len run s)

    -- one turn, where the turns behind it are sound
    turn_went : (fuel : ℕ) → Loops fuel → Loops (suc fuel)
    unfolding Loops repeat
    turn_went fuel again len s b g h ahead enough =
        went_cost (omega arith) (then_went _ w turn)
      where
        p : Ran (Option Value)
        p = parse_option catch len s (run s)

        w : Went M n 26 (Optioned P len p.state) s c p
        w = option_went catch len (run s) g (child s g h)

        enough_left : (x : Value) → Optioned P len p.state (some x) → p.state.remaining < b
        enough_left x q = ahead p.state.remaining w.step.fewer q.1

        stop : (vs : List Value) → Listed P b vs → Went M n 26 (Listed P b) p.state (b * c) (ended (ok vs) p.state)
        stop vs q = went_cost (omega arith) (ended_went p.state (ok vs) (step_refl w.step.good) q)

        -- the turns behind it
        later : Ran (List Value)
        later = repeat catch stops fuel (some p.state.remaining) run p.state

        next :
            (x : Value)
            → Optioned P len p.state (some x)
            → Went M n 26 (Listed P b) p.state (b * c) (later then λ xs u. ended (ok (x ∷ xs)) u)
        next x q =
            let l = enough_left x q in
            let f = w.step.fewer in
            let left = p.state.remaining in
            went_cost (mul-le-mul_right c (omega arith))
            (then_ended (λ xs u. ok (x ∷ xs))
            (again (some left) p.state left w.step.good (omega arith) (ahead_next p.state) (omega arith))
            (λ xs z. ((q.0, z.0), omega (arith, z.1))))

        turn :
            (v : Option Value)
            → Optioned P len p.state v
            → Went M n 26 (Listed P b) p.state (b * c) (elim v [
              | none ↦ ended (ok []) p.state
              | some x ↦ if idle stops s p.state
                  then ended (ok (x ∷ [])) p.state
                  else (later then λ xs u. ended (ok (x ∷ xs)) u)
            ])
        turn none q = stop [] (tt, omega arith)
        turn (some x) q =
            if_holds (Went M n 26 (Listed P b) p.state (b * c)) (idle stops s p.state) _ _
            (λ _. stop (x ∷ []) ((q.0, tt), omega (arith, enough_left x q)))
            (λ _. next x q)

    loop_went : (fuel : ℕ) → Loops fuel
    unfolding Loops repeat
    loop_went zero = λ len s b g h ahead enough. absurd (omega arith)
    loop_went (suc fuel) = turn_went fuel (loop_went fuel)

    pub repeated_went :
        (s : State)
        → Good n s
        → s.remaining ≤ m
        → Went M n 26 (Listed P (s.remaining + 1)) s ((s.remaining + 2) * c) (repeated catch stops run s)
    unfolding Loops repeated
    repeated_went s g h =
        went_cost (mul-le-mul_right c (omega arith))
        (loop_went (s.remaining + 2) none s (s.remaining + 1) g h (ahead_first s) (omega arith))

-- ---- a loop that gave no element tried its child once
abbrev pub Empty : Outcome (List Value) → Type 0
Empty (ok []) = Unit {0}
Empty (ok (x ∷ xs)) = ⊥
Empty (refused e) = ⊥
Empty (fault x) = ⊥

option_tries : (catch : Bool) (len : Option ℕ) (s : State) (r : Ran Value) → (parse_option catch len s r).tries ≤ r.tries
unfolding parse_option after ended
option_tries catch len s r = go r.outcome
  where
    go :
        (o : Outcome Value)
        → (after {B = Option Value} r (elim o [
          | ok v ↦ ended (ok (if fewer r.state.remaining len then some v else none)) r.state
          | refused e ↦ if swallowed catch e s r.state then ended (ok none) s else ended (refused e) r.state
          | fault x ↦ ended (fault x) r.state
        ])).tries
        ≤ r.tries
    go (ok v) = omega arith
    go (refused e) =
        if_holds (λ (q : Ran (Option Value)). (after r q).tries ≤ r.tries) (swallowed catch e s r.state) _ _
        (λ _. omega arith)
        (λ _. omega arith)
    go (fault x) = omega arith

-- an element in front
cons_not_empty : (x : Value) (r : Ran (List Value)) → Empty (r then λ xs u. ended (ok (x ∷ xs)) u).outcome → ⊥
unfolding ◌then◌ after ended
cons_not_empty x r = go r.outcome
  where
    go :
        (o : Outcome (List Value))
        → Empty (after r (elim o [
          | ok xs ↦ ended (ok (x ∷ xs)) r.state
          | refused e ↦ ended (refused e) r.state
          | fault y ↦ ended (fault y) r.state
        ])).outcome
        → ⊥
    go (ok xs) e = e
    go (refused z) e = e
    go (fault z) e = e

module _ (f : Value → State → Ran (List Value)) (full : (x : Value) (u : State) → Empty (f x u).outcome → ⊥) where
  abbrev turned : Option Value → State → Ran (List Value)
  turned v u = elim v [ none ↦ ended (ok []) u | some x ↦ f x u ]

  empty_then : (p : Ran (Option Value)) → Empty (p then turned).outcome → (p then turned).tries ≤ p.tries
  unfolding ◌then◌ after ended
  empty_then p = go p.outcome
    where
      rest : Outcome (Option Value) → Ran (List Value)
      rest o = elim o [
        | ok v ↦ turned v p.state
        | refused e ↦ ended (refused e) p.state
        | fault y ↦ ended (fault y) p.state
      ]

      go : (o : Outcome (Option Value)) → Empty (rest o).outcome → (after p (rest o)).tries ≤ p.tries
      go (ok none) e = omega arith
      go (ok (some x)) e = absurd (full x p.state e)
      go (refused z) e = absurd e
      go (fault z) e = absurd e

loop_empty :
    (catch stops : Bool) (fuel : ℕ) (len : Option ℕ) (run : State → Ran Value) (s : State)
    → Empty (repeat catch stops fuel len run s).outcome
    → (repeat catch stops fuel len run s).tries ≤ (run s).tries
unfolding repeat ended
loop_empty catch stops zero len run s e = absurd e
loop_empty catch stops (suc fuel) len run s e =
    le_trans (empty_then f full (parse_option catch len s (run s)) e) (option_tries catch len s (run s))
  where
    f : Value → State → Ran (List Value)
    f x t =
        if idle stops s t
        then ended (ok (x ∷ [])) t
        else (repeat catch stops fuel (some t.remaining) run t then λ xs u. ended (ok (x ∷ xs)) u)

    full : (x : Value) (u : State) → Empty (f x u).outcome → ⊥
    full x u =
        if_holds (λ (q : Ran (List Value)). Empty q.outcome → ⊥) (idle stops s u) _ _ (λ _ e. e)
        (λ _. cons_not_empty x (repeat catch stops fuel (some u.remaining) run u))

-- ---- `last`
last_of_lem : (P : Value → Type 0) (x : Value) (xs : List Value) → All P (x ∷ xs) → (v : Value) × (last_of (x ∷ xs) ≡ some v) × P v
unfolding last_of
last_of_lem P x [] p = (x, refl, p.0)
last_of_lem P x (y ∷ ys) p =
    let z = last_of_lem P y ys p.1 in
    (z.0, rw z.1, z.2)

pub last_went :
    (M : BaseValue → Type 0) (n : ℕ) (P : Value → Type 0) (c : ℕ) (run : State → Ran Value) (s : State)
    → Good n s
    → ((u : State) → Good n u → u.remaining ≤ s.remaining → Went M n 26 P u c (run u))
    → Went M n 26 P s ((s.remaining + 2) * c) (eval_last run s)
unfolding eval_last ◌then◌ last_of repeated
last_went M n P c run s g child = go q.outcome w.ends once
  where
    most_tries : ℕ
    most_tries = (s.remaining + 2) * c

    q : Ran (List Value)
    q = repeated false true run s

    w : Went M n 26 (Listed P (s.remaining + 1)) s most_tries q
    w = repeated_went M n P c s.remaining false true run child s g (le_refl _)

    once : Empty q.outcome → q.tries ≤ c
    once e = le_trans (loop_empty false true (s.remaining + 2) none run s e) (child s g (le_refl _)).cost

    go :
        (o : Outcome (List Value))
        → Fine 26 (Listed P (s.remaining + 1)) o
        → (Empty o → q.tries ≤ c)
        → Went M n 26 P s most_tries (after q (elim o [
          | ok vs ↦ elim (last_of vs) [ none ↦ run q.state | some v ↦ ended (ok v) q.state ]
          | refused e ↦ ended (refused e) q.state
          | fault x ↦ ended (fault x) q.state
        ]))
    go (ok []) p k =
        went_cost (omega arith)
        (after_went q _ w.passed (k tt) (rest_went w.step (child q.state w.step.good w.step.fewer)))
    go (ok (x ∷ xs)) p k =
        let z = last_of_lem P x xs p.0 in
        rw z.1 (after_ended q.state (ok z.0) w w.step z.2)
    go (refused e) p k = after_ended q.state (refused e) w w.step p
    go (fault x) p k = absurd p

-- ---- kinds 5 to 8
module _
    {M : BaseValue → Type 0} {n : ℕ} {t : Tree} {s : State} {run : State → Ran Value}
    (g : Good n s)
    (flat : has_repeat t ≡ false)
    (child : (u : State) → Good n u → Evaluated M n t u (run u))
  where
    m : ℕ
    m = s.remaining + 1

    child_went : (u : State) → Good n u → u.remaining ≤ s.remaining → Went M n 26 (Fits M m (kind_of t)) u (leaves t) (run u)
    unfolding m most
    child_went u h l =
        went_cost (rw flat (le_refl (leaves t)))
        (went_weaker (omega arith) (fits_more M (u.remaining + 1) m (kind_of t) (omega arith)) (child u h).went)

    loop : (catch stops : Bool) → Went M n 26 (Listed (Fits M m (kind_of t)) m) s ((s.remaining + 2) * leaves t) (repeated catch stops run s)
    unfolding m
    loop catch stops = repeated_went M n (Fits M m (kind_of t)) (leaves t) s.remaining catch stops run child_went s g (le_refl _)

    list_fits :
        (vs : List Value)
        → is_some (kind_of t >>? list_kind) ≡ true
        → Listed (Fits M m (kind_of t)) m vs
        → Fits M m (kind_of t >>? list_kind) (list_of vs)
    list_fits vs e p =
        let kinds = all_weaker (Fits M m (kind_of t)) (λ v. of_kind (kind_of t) v ≡ true) vs (λ v f. f.0) p.0 in
        let means = all_weaker (Fits M m (kind_of t)) (λ v. All M (bases_of v)) vs (λ v f. f.3) p.0 in
        (list_kind_lem (kind_of t) vs e kinds, rw (size_list vs) p.1, rw (inner_list vs) (omega arith), list_bases M vs means)

    pub many_sound : (catch : Bool) → is_some (kind_of (Many catch t)) ≡ true → Evaluated M n (Many catch t) s (eval_many catch run s)
    unfolding m eval_many kind_of most has_repeat leaves
    many_sound catch e = record { went = then_ended (λ vs u. ok (list_of vs)) (loop catch false) (λ vs p. list_fits vs e p) }

    pub some_sound : (catch : Bool) → is_some (kind_of (Some catch t)) ≡ true → Evaluated M n (Some catch t) s (eval_some catch run s)
    unfolding m eval_some kind_of most has_repeat leaves
    some_sound catch e = record {
      went =
          then_ended (λ vs u. if null vs then refused (refuse 21 none) else ok (list_of vs)) (loop catch false)
          (λ vs p. if_holds (Fine 26 _) (null vs) (refused (refuse 21 none)) (ok (list_of vs)) (λ _. omega arith) (λ _. list_fits vs e p));
    }

    pub count_sound :
        ((k : ℕ) → k ≤ s.remaining + 1 → M (is_number k))
        → is_some (kind_of (Count t)) ≡ true
        → Evaluated M n (Count t) s (eval_count run s)
    unfolding m eval_count kind_of most has_repeat leaves size bases_of
    count_sound counts e = record {
      went =
          then_ended (λ vs u. ok (base (is_number (length vs)))) (loop false true)
          (λ vs p. (count_kind_lem (kind_of t) (length vs) e, omega arith, omega arith, (counts (length vs) p.1, tt)));
    }

    pub last_sound : is_some (kind_of (Last t)) ≡ true → Evaluated M n (Last t) s (eval_last run s)
    unfolding m kind_of most has_repeat leaves
    last_sound e = record { went = rw (last_kind_lem (kind_of t) e) (last_went M n (Fits M m (kind_of t)) (leaves t) run s g child_went) }
