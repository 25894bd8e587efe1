-- The rules' functions go by the decisions. First what a caller cites, then what the code's tests give.
use Rattle.std.specs.Prelude.{◌≡◌, Bool, ◌&&◌, ℕ, eqb, Some, None}
use Rattle.std.proofs.Math.Path.{refl, ap}
use Rattle.std.proofs.Common.{sym, ◌∙◌, ap₂, arith}
use Rattle.std.proofs.Math.Bool.{true, false}
use mathlib.Core.List.{List, [], ◌∷◌}
use Rattle.std.proofs.Math.Option.{Option, some, none}
use Rattle.std.proofs.Math.ListN.{length}
use borrow.Author.Tests.{ne_eqb}
use Rattle.std.specs.Prelude.{if◌then◌else◌}
use Rattle.rules.specs.Base.{null}
use Rattle.rules.specs.Outcome.{Spot, or_else305, or_else307, Outcome, ok, refused, fault, at, Refusal, refuse, is_missing, can_catch, wrong_input, combine_with}
use Rattle.rules.specs.Value.{BaseValue, Value, base, list_of}
use Rattle.rules.specs.State.{State, Picked, pick_winner}
use Rattle.rules.specs.Eval.{Ran, ended, after, ◌then◌, fewer, swallowed, parse_option, idle, repeated, eval_some, eval_fallback, side, picks_first, value_of, picked, won, chosen}
use Rattle.rules.specs.declared.Refused.{Refused}
use Rattle.eval_error.specs.Refusals.{refused_of, refusal_of, combine_forgets}
use Rattle.eval_structs.specs.declared.Counting.TheVariants.{Counted, Uncounted, Absent, PassedOn}
use Rattle.eval_structs.specs.declared.Fallback.TheVariants.{Own, Refusal as Passed}
use Rattle.eval_structs.specs.declared.Pick.{Pick}
use Rattle.eval_structs.specs.declared.Pick.TheVariants.{First, Second, Winner, Neither}
use Rattle.eval_structs.specs.Decisions.{with_remaining, counted_of, option_way, some_of, option_by, some_by, fallback_way, fallback_by, EndedBy, forgotten, pick_by, chosen_by}
use Rattle.eval_structs.specs.Decisions.{forgotten_ran}

-- ---- what was counted last
pub counted_none : counted_of None ≡ none
counted_none = refl

pub counted_some : (n : ℕ) → counted_of (Some n) ≡ some n
counted_some n = refl

-- ---- only `remaining` counts
pub idle_remaining : (stops : Bool) (s t : State) → idle stops s t ≡ idle stops (with_remaining s.remaining) (with_remaining t.remaining)
unfolding idle with_remaining
idle_remaining stops s t = refl

-- a run that ended so
abbrev ran : Ran Value → Outcome Value → Ran Value
ran r o = record { outcome = o; state = r.state; tries = r.tries; trace = r.trace }

-- ---- `parse_option`, after a success and after a refusal
module _ (catch : Bool) (len : Option ℕ) (s : State) (r : Ran Value) where
  pub option_ok :
      (v : Value)
      → r.outcome ≡ ok v
      → parse_option catch len s r ≡ option_by (option_way 0 catch s.remaining r.state.remaining len) s r
  unfolding parse_option option_way option_by some_of
  option_ok v h = rw h (go (fewer r.state.remaining len))
    where
      go :
          (t : Bool)
          → after (ran r (ok v)) (ended (ok (if t then some v else none)) r.state)
          ≡ option_by (if t then Counted else Uncounted) s (ran r (ok v))
      go true = refl
      go false = refl

  pub option_refused :
      (e : Refusal)
      → r.outcome ≡ refused e
      → (e.number ≡ 0 → ⊥)
      → parse_option catch len s r ≡ option_by (option_way e.number catch s.remaining r.state.remaining len) s r
  unfolding parse_option option_way option_by some_of swallowed wrong_input is_missing can_catch with_remaining
  option_refused e h n = rw (h, ne_eqb e.number 0 n) (go (swallowed catch e s r.state))
    where
      go :
          (t : Bool)
          → after (ran r (refused e)) (if t then ended (ok none) s else ended (refused e) r.state)
          ≡ option_by (if t then Absent else PassedOn) s (ran r (refused e))
      go true = refl
      go false = refl

-- ---- fallback, after a success and after a refusal
module _ (v : BaseValue) (s : State) (r : Ran Value) where
  pub fallback_ok : (w : Value) → r.outcome ≡ ok w → eval_fallback v s r ≡ fallback_by (fallback_way 0) v s r
  unfolding eval_fallback fallback_way fallback_by
  fallback_ok w h = rw h

  pub fallback_refused :
      (e : Refusal)
      → r.outcome ≡ refused e
      → (e.number ≡ 0 → ⊥)
      → eval_fallback v s r ≡ fallback_by (fallback_way e.number) v s r
  unfolding eval_fallback fallback_way fallback_by can_catch
  fallback_refused e h n = rw (h, ne_eqb e.number 0 n) (go (can_catch e))
    where
      go :
          (t : Bool)
          → after (ran r (refused e)) (ended (if t then ok (base v) else refused e) s)
          ≡ fallback_by (if t then Own else Passed) v s (ran r (refused e))
      go true = refl
      go false = refl

-- ---- "some"
then_alike :
    {A B : Type 0} (r : Ran A) (f g : A → State → Ran B) (a : A)
    → r.outcome ≡ ok a
    → f a r.state ≡ g a r.state
    → (r then f) ≡ (r then g)
unfolding ◌then◌ after
then_alike r f g a h e = rw h (ap (λ q. after r q) e)

module _
    (catch : Bool)
    (run : State → Ran Value)
    (s : State)
    (vs : List Value)
    (h : (repeated catch false run s).outcome ≡ ok vs)
  where
    abbrev given : Ran (List Value)
    given = repeated catch false run s

    pub some_none : length vs ≡ 0 → eval_some catch run s ≡ (given then some_by 21)
    unfolding eval_some some_by ended null
    some_none e = then_alike given _ (some_by 21) vs h (go vs e)
      where
        go :
            (ws : List Value)
            → length ws ≡ 0
            → ended (if null ws then refused (refuse 21 none) else ok (list_of ws)) given.state ≡ some_by 21 ws given.state
        go [] z = refl
        go (w ∷ ws) z = absurd (omega arith)

    pub some_any : (length vs ≡ 0 → ⊥) → eval_some catch run s ≡ (given then some_by 0)
    unfolding eval_some some_by ended null
    some_any e = then_alike given _ (some_by 0) vs h (go vs e)
      where
        go :
            (ws : List Value)
            → (length ws ≡ 0 → ⊥)
            → ended (if null ws then refused (refuse 21 none) else ok (list_of ws)) given.state ≡ some_by 0 ws given.state
        go [] z = absurd (z refl)
        go (w ∷ ws) z = refl

-- ---- choice, by what was picked
ended_forgets : (x : Spot) (o : Option Value) (t : State) → forgotten_ran (ended (at x o) t) ≡ ended (at x o) t
unfolding forgotten_ran forgotten ended at
ended_forgets x none t = refl
ended_forgets x (some v) t = refl

if_forgets :
    (t : Bool) (q r : Ran Value)
    → forgotten_ran q ≡ q
    → forgotten_ran r ≡ r
    → forgotten_ran (if t then q else r) ≡ (if t then q else r)
if_forgets true q r h k = h
if_forgets false q r h k = k

module _ (s : State) (a b : Ran Value) where
  by : Outcome Picked → Ran Value
  by o = elim o [ ok p ↦ picked a b p | refused e ↦ ended (refused e) s | fault x ↦ ended (fault x) s ]

  picked_forgets : (p : Picked) → forgotten_ran (picked a b p) ≡ picked a b p
  unfolding picked
  picked_forgets p =
      if_forgets p.first _ _ (ended_forgets or_else305 (value_of a.outcome) _) (ended_forgets or_else307 (value_of b.outcome) _)

  by_forgets : (o : Outcome Picked) → forgotten_ran (by o) ≡ by (forgotten o)
  unfolding by forgotten_ran forgotten ended
  by_forgets (ok p) = picked_forgets p
  by_forgets (refused e) = refl
  by_forgets (fault x) = refl

  by_pick : (r : Pick) → by (pick_by r a.state b.state) ≡ chosen_by r s a b
  unfolding by pick_by chosen_by picked side won
  by_pick First = refl
  by_pick Second = refl
  by_pick Winner = refl
  by_pick (Neither e) = refl

  pub chosen_by_lem :
      (r : Pick)
      → forgotten (picks_first s a.state b.state a.outcome b.outcome) ≡ pick_by r a.state b.state
      → forgotten_ran (chosen s a b) ≡ chosen_by r s a b
  unfolding chosen by
  chosen_by_lem r h = by_forgets (picks_first s a.state b.state a.outcome b.outcome) ∙ ap by h ∙ by_pick r

-- ---- choice, as the code tests
wrong_number : (e : Refusal) (x : Refused) → refused_of e ≡ x → wrong_input e ≡ wrong_input (refuse x.number none)
unfolding refused_of wrong_input
wrong_number e x h = ap (λ (y : Refused). wrong_input (refuse y.number none)) h

same : {k l m n : ℕ} → k ≡ m → l ≡ n → eqb k l ≡ eqb m n
same p q = ap₂ (λ (u v : ℕ). eqb u v) p q

module _ (o u : Outcome Value) (s a b : State) (x y : Refused) (given left-a left-b : ℕ) (r : Pick) where
  abbrev Picks : Type 0
  Picks =
      EndedBy o x
      → EndedBy u y
      → s.remaining ≡ given
      → a.remaining ≡ left-a
      → b.remaining ≡ left-b
      → forgotten (picks_first s a b o u) ≡ pick_by r a b

pub picks_two :
    (o u : Outcome Value) (s a b : State) (x y : Refused) (g l m : ℕ) (r : Pick)
    → x.number ≡ 0
    → y.number ≡ 0
    → r ≡ (if eqb g l && eqb g m then First else Winner)
    → Picks o u s a b x y g l m r
unfolding picks_first forgotten pick_by side
picks_two (ok v) (ok w') s a b x y g l m r z w i h k p q t = rw (i, same p q, same p t) (go (eqb g l && eqb g m))
  where
    go : (u : Bool) → forgotten (if u then side true none else ok (pick_winner a b)) ≡ pick_by (if u then First else Winner) a b
    go true = refl
    go false = refl
picks_two (ok v) (refused e) s a b x y g l m r z w i h k p q t = absurd (k.1 w)
picks_two (refused e) u s a b x y g l m r z w i h k p q t = absurd (h.1 z)
picks_two (ok v) (fault e) s a b x y g l m r z w i h k p q t = absurd k
picks_two (fault e) u s a b x y g l m r z w i h k p q t = absurd h

pub picks_first_lem :
    (o u : Outcome Value) (s a b : State) (x y : Refused) (g l m : ℕ) (r : Pick)
    → x.number ≡ 0
    → (y.number ≡ 0 → ⊥)
    → r ≡ (if eqb g l && wrong_input (refuse y.number none) then Neither y else First)
    → Picks o u s a b x y g l m r
unfolding picks_first forgotten pick_by side
picks_first_lem (ok v) (ok w') s a b x y g l m r z w i h k p q t = absurd (w k)
picks_first_lem (ok v) (refused e) s a b x y g l m r z w i h k p q t =
    rw (i, same p q, wrong_number e y k.0) (go (eqb g l && wrong_input (refuse y.number none)))
  where
    go : (u : Bool) → forgotten (if u then refused e else side true none) ≡ pick_by (if u then Neither y else First) a b
    go true = ap (λ (v : Refused). refused (refusal_of v)) k.0
    go false = refl
picks_first_lem (refused e) u s a b x y g l m r z w i h k p q t = absurd (h.1 z)
picks_first_lem (ok v) (fault e) s a b x y g l m r z w i h k p q t = absurd k
picks_first_lem (fault e) u s a b x y g l m r z w i h k p q t = absurd h

pub picks_second :
    (o u : Outcome Value) (s a b : State) (x y : Refused) (g l m : ℕ) (r : Pick)
    → (x.number ≡ 0 → ⊥)
    → y.number ≡ 0
    → r ≡ (if eqb g m && wrong_input (refuse x.number none) then Neither x else Second)
    → Picks o u s a b x y g l m r
unfolding picks_first forgotten pick_by side
picks_second (ok v) u s a b x y g l m r z w i h k p q t = absurd (z h)
picks_second (refused e) (ok w') s a b x y g l m r z w i h k p q t =
    rw (i, same p t, wrong_number e x h.0) (go (eqb g m && wrong_input (refuse x.number none)))
  where
    go : (u : Bool) → forgotten (if u then refused e else side false none) ≡ pick_by (if u then Neither x else Second) a b
    go true = ap (λ (v : Refused). refused (refusal_of v)) h.0
    go false = refl
picks_second (refused e) (refused f) s a b x y g l m r z w i h k p q t = absurd (k.1 w)
picks_second (refused e) (fault f) s a b x y g l m r z w i h k p q t = absurd k
picks_second (fault e) u s a b x y g l m r z w i h k p q t = absurd h

pub picks_neither :
    (o u : Outcome Value) (s a b : State) (x y : Refused) (g l m : ℕ) (c : Refused)
    → (x.number ≡ 0 → ⊥)
    → (y.number ≡ 0 → ⊥)
    → c ≡ refused_of (combine_with (refusal_of x) (refusal_of y))
    → Picks o u s a b x y g l m (Neither c)
unfolding picks_first forgotten pick_by
picks_neither (ok v) u s a b x y g l m c z w i h k p q t = absurd (z h)
picks_neither (refused e) (ok w') s a b x y g l m c z w i h k p q t = absurd (w k)
picks_neither (refused e) (refused f) s a b x y g l m c z w i h k p q t =
    ap (λ (v : Refused). refused (refusal_of v))
    (combine_forgets e f
    ∙ ap₂ (λ (v u : Refused). refused_of (combine_with (refusal_of v) (refusal_of u))) h.0 k.0
    ∙ sym i)
picks_neither (refused e) (fault f) s a b x y g l m c z w i h k p q t = absurd k
picks_neither (fault e) u s a b x y g l m c z w i h k p q t = absurd h
