-- Every run leaves each mark as it was, or in conflict, or with the mark of the node, and only where a place was present.
use mathlib.Core.Bool.{Bool, true, false, xor, ◌&&◌}
use mathlib.Core.List.{List, [], ◌∷◌}
use mathlib.Core.Logic.{◌⊎◌, inl, inr}
use mathlib.Core.Option.{Option, some, none, some-injective, none-ne-some}
use mathlib.Core.Path.{◌≡◌, refl, sym, ap, ◌∙◌, subst}
use Prim.Native.Nat.{ℕ, zero, suc, ◌+◌, ◌<◌}
use native.Mathlib.Omega.{arith}
use lib.Dec.{eqb}
use lib.ListN.{length, get_or, set, get_elem?, length-set}
use Rattle.std.specs.Prelude.{if◌then◌else◌}
use Rattle.rules.specs.Base.{minus, write}
use Rattle.rules.specs.Outcome.{Spot, Outcome, ok, refused, fault, ◌>>=◌, at, wrong_input, can_catch}
use Rattle.rules.specs.Outcome.{remove431, remove433, remove434}
use Rattle.rules.specs.Value.{Value, BaseValue, base}
use Rattle.rules.specs.Tree.{Named, Tree, Flag, Argument, Positional, Optional, Many, Some, Count, Last, Choice, Fallback, Guard}
use Rattle.rules.specs.Split.{Item}
use Rattle.rules.specs.State.{State, Found, Picked, field_mark, parsed, present, present_at, in_scope, get, find, used, remove, with_current, pick_from, pick_winner, conflicts}
use Rattle.rules.specs.State.{save_conflicts}
use Rattle.rules.specs.Take.{Took, Taken, Operand, took, matches_arg, take_flag, value_text, take_value, take_arg, is_operand, operand, take_positional_word}
use Rattle.rules.specs.Eval.{Ran, ended, after, ◌then◌, visit, leaf, flag_value, eval_flag, argument_value, eval_argument, positional_value, eval_positional, fewer, swallowed}
use Rattle.rules.specs.Eval.{parse_option, eval_optional, idle, repeat, repeated, eval_many, eval_some, eval_count, last_of, eval_last, side, picks_first, won, picked, chosen}
use Rattle.rules.specs.Eval.{eval_choice, eval_fallback, guarded, eval_guard, eval}
use Rattle.rules.specs.Run.{run_fields, run_all}
use Rattle.rules.specs.Marks.{Turned, Turns, OfFields}
use Rattle.rules.proofs.Places.{if_elim, left, mark_present, conflicts_length}

-- ---- one mark after the other
turned_again : (W : ℕ → Type 0) (n a b c : ℕ) → Turned W n a b → Turned W n b c → Turned W n a c
turned_again W n a b c (inl e) q = subst (λ (x : ℕ). Turned W n x c) e q
turned_again W n a b c (inr p) (inl e) = inr (p.0, subst (λ (x : ℕ). W x ⊎ ((w : ℕ) × (x ≡ 2 + w) × (w < n))) (sym e) p.1)
turned_again W n a b c (inr p) (inr q) = inr (p.0, q.1)

module _ {W : ℕ → Type 0} where
  pub turns_refl : {l : List ℕ} → Turns W l l
  turns_refl = record { long = refl; turned = λ i. inl refl }

  pub turns_trans : {l m o : List ℕ} → Turns W l m → Turns W m o → Turns W l o
  turns_trans a b = record { long = b.long ∙ a.long; turned = λ i. turned_again W _ _ _ _ (a.turned i) (rw a.long at (b.turned i)) }

pub turns_weaker : {W X : ℕ → Type 0} {l o : List ℕ} → ((m : ℕ) → W m → X m) → Turns W l o → Turns X l o
turns_weaker {W} {X} f t = record { long = t.long; turned = λ i. go _ _ _ (t.turned i) }
  where
    written : (n b : ℕ) → W b ⊎ ((w : ℕ) × (b ≡ 2 + w) × (w < n)) → X b ⊎ ((w : ℕ) × (b ≡ 2 + w) × (w < n))
    written n b (inl w) = inl (f b w)
    written n b (inr c) = inr c

    go : (n a b : ℕ) → Turned W n a b → Turned X n a b
    go n a b (inl e) = inl e
    go n a b (inr p) = inr (p.0, written n b p.1)

-- ---- what is left where an outcome is ok
abbrev pub Leaves : {A : Type 0} → (A → Type 0) → Outcome A → Type 0
Leaves P (ok a) = P a
Leaves P (refused e) = Unit {0}
Leaves P (fault x) = Unit {0}

pub bind_leaves :
    {A B : Type 0} (P : A → Type 0) (Q : B → Type 0) (o : Outcome A) (f : A → Outcome B)
    → Leaves P o
    → ((a : A) → P a → Leaves Q (f a))
    → Leaves Q (o >>= f)
unfolding ◌>>=◌
bind_leaves P Q (ok a) f h g = g a h
bind_leaves P Q (refused e) f h g = tt
bind_leaves P Q (fault x) f h g = tt

pub at_leaves : {A : Type 0} (spot : Spot) (o : Option A) → Leaves (λ a. o ≡ some a) (at spot o)
unfolding at
at_leaves spot none = tt
at_leaves spot (some a) = refl

pub any_leaves : {A : Type 0} (o : Outcome A) → Leaves (λ a. Unit {0}) o
any_leaves (ok a) = tt
any_leaves (refused e) = tt
any_leaves (fault x) = tt

pub same_leaves : {A : Type 0} (o : Outcome A) → Leaves (λ a. o ≡ ok a) o
same_leaves (ok a) = refl
same_leaves (refused e) = tt
same_leaves (fault x) = tt

-- ---- `remove`
-- what is written
pub write_set : (ms : List ℕ) (i x : ℕ) (l : List ℕ) → write ms i x ≡ some l → set ms i x ≡ l
unfolding write
write_set [] i x l e = absurd (none-ne-some l e)
write_set (m ∷ ms) zero x l e = some-injective _ l e
write_set (m ∷ ms) (suc i) x l e = go (write ms i x) (write_set ms i x) e
  where
    go :
        (o : Option (List ℕ))
        → ((r : List ℕ) → o ≡ some r → set ms i x ≡ r)
        → (elim o as (λ _. Option (List ℕ)) [ none ↦ none | some r ↦ some (m ∷ r) ]) ≡ some l
        → m ∷ set ms i x ≡ l
    go none rest e = absurd (none-ne-some l e)
    go (some r) rest e = ap (λ (k : List ℕ). m ∷ k) (rest r refl) ∙ some-injective _ l e

set_turned : (n k : ℕ) (ms : List ℕ) (i j : ℕ) → present_at ms i ≡ true → Turned (λ m. m ≡ k) n (get_or ms j 0) (get_or (set ms i k) j 0)
unfolding present_at
set_turned n k [] i j p = inl refl
set_turned n k (m ∷ ms) zero zero p = inr (p, inl refl)
set_turned n k (m ∷ ms) zero (suc j) p = inl refl
set_turned n k (m ∷ ms) (suc i) zero p = inl refl
set_turned n k (m ∷ ms) (suc i) (suc j) p = set_turned n k ms i j p

module _ (k : ℕ) where
  abbrev Own : State → State → Type 0
  Own s u = Turns (λ m. m ≡ k) s.marks u.marks

  used_turns :
      (s : State) (i m n : ℕ) (l : List ℕ)
      → get_elem? s.marks i ≡ some m
      → present m ≡ true
      → write s.marks i k ≡ some l
      → Own s (used s i l n)
  unfolding used
  used_turns s i m n l e p w =
      rw (← write_set s.marks i k l w) (record {
        long = length-set s.marks i k;
        turned = λ j. set_turned _ k s.marks i j (mark_present s.marks i m e ∙ p);
      })

  pub remove_turns : (s : State) (i : ℕ) → Leaves (Own s) (remove k s i)
  unfolding remove
  remove_turns s i =
      if_elim (Leaves (Own s)) (in_scope s i) _ _
      (λ _. bind_leaves _ _ (at remove431 (get_elem? s.marks i)) _ (at_leaves _ _)
      (λ m e. if_elim (Leaves (Own s)) (present m) _ _
      (λ p. bind_leaves _ _ (at remove433 (minus s.remaining 1)) _ (at_leaves _ _)
      (λ n _. bind_leaves _ _ (at remove434 (write s.marks i k)) _ (at_leaves _ _)
      (λ l w. used_turns s i m n l e p w)))
      (λ _. turns_refl)))
      (λ _. turns_refl)

  -- ---- the takes
  abbrev TookOwn : {A : Type 0} → State → Took A → Type 0
  TookOwn s t = Own s t.state

  removed_took : {A : Type 0} (s : State) (i : ℕ) (a : A) → Leaves (TookOwn s) (remove k s i >>= λ t. took a t)
  unfolding took
  removed_took s i a = bind_leaves _ _ (remove k s i) _ (remove_turns s i) (λ t h. h)

  module _ (is : List Item) (s : State) where
    pub flag_turns : (m : Named) → Leaves (TookOwn s) (take_flag k is m s)
    unfolding take_flag took
    flag_turns m = bind_leaves _ _ (find is (matches_arg m false) s) _ (any_leaves (find is (matches_arg m false) s)) (λ x _. go x)
      where
        go : (x : Option Found) → Leaves (TookOwn {A = Bool} s) (elim x [ none ↦ took false s | some f ↦ remove k s f.place >>= λ t. took true t ])
        go none = turns_refl
        go (some f) = removed_took s f.place true

    value_turns : (key : ℕ) (o : Option (List ℕ)) → Leaves (TookOwn s) (take_value k s key o)
    unfolding take_value took with_current
    value_turns key none = tt
    value_turns key (some t) =
        bind_leaves _ _ (remove k (with_current (some (suc key)) s) key) _ (remove_turns (with_current (some (suc key)) s) key)
        (λ u a. bind_leaves _ _ (remove k u (suc key)) _ (remove_turns u (suc key)) (λ v b. turns_trans a b))

    pub arg_turns : (m : Named) (adjacent : Bool) → Leaves (TookOwn s) (take_arg k is m adjacent s)
    unfolding take_arg took
    arg_turns m adjacent = bind_leaves _ _ (find is (matches_arg m adjacent) s) _ (any_leaves (find is (matches_arg m adjacent) s)) (λ x _. go x)
      where
        go :
            (x : Option Found)
            → Leaves (TookOwn {A = Option Taken} s) (elim x [ none ↦ took none s | some f ↦ take_value k s f.place (value_text (get is s (suc f.place))) ])
        go none = turns_refl
        go (some f) = value_turns f.place (value_text (get is s (suc f.place)))

    pub positional_turns : Leaves (TookOwn s) (take_positional_word k is s)
    unfolding take_positional_word took with_current
    positional_turns = bind_leaves _ _ (find is is_operand s) _ (any_leaves (find is is_operand s)) (λ x _. go x)
      where
        go :
            (x : Option Found)
            → Leaves (TookOwn {A = Option Operand} s) (elim x [
              | none ↦ took none s
              | some f ↦ remove k (with_current (some f.place) s) f.place >>= λ t. took (some (operand f)) t
            ])
        go none = turns_refl
        go (some f) = removed_took (with_current (some f.place) s) f.place (some (operand f))

-- ---- `save_conflicts`
conflicts_turned : (W : ℕ → Type 0) (n w : ℕ) → w < n → (ms ls : List ℕ) (i : ℕ) → Turned W n (get_or ms i 0) (get_or (conflicts w ms ls) i 0)
unfolding conflicts
conflicts_turned W n w h [] ls i = inl refl
conflicts_turned W n w h (m ∷ ms) [] i = inl refl
conflicts_turned W n w h (m ∷ ms) (l ∷ ls) zero =
    if_elim (λ (x : ℕ). Turned W n m x) (present m && parsed l) _ _
    (λ e. inr (left (present m) (parsed l) e, inr (w, refl, h)))
    (λ _. inl refl)
conflicts_turned W n w h (m ∷ ms) (l ∷ ls) (suc i) = conflicts_turned W n w h ms ls i

pub conflicts_turn : {W : ℕ → Type 0} (w : ℕ) (ms ls : List ℕ) → w < length ms → Turns W ms (conflicts w ms ls)
conflicts_turn {W} w ms ls h = record { long = conflicts_length w ms ls; turned = conflicts_turned W (length ms) w h ms ls }

-- ---- runs
module _ {W : ℕ → Type 0} where
  leaf_turns :
      {A : Type 0} (s : State) (o : Outcome (Took A)) (follows : A → State → Outcome Value)
      → Leaves (λ t. Turns W s.marks t.state.marks) o
      → Turns W s.marks (leaf s o follows).state.marks
  unfolding leaf
  leaf_turns s (ok t) follows h = h
  leaf_turns s (refused e) follows h = turns_refl
  leaf_turns s (fault x) follows h = turns_refl

  then_turns :
      {A B : Type 0} {l : List ℕ} (r : Ran A) (f : A → State → Ran B)
      → Turns W l r.state.marks
      → ((v : A) → Turns W r.state.marks (f v r.state).state.marks)
      → Turns W l (r then f).state.marks
  unfolding ◌then◌ after ended
  then_turns {A} {B} {l} r f h g = go r.outcome
    where
      rest : Outcome A → Ran B
      rest o = elim o [
        | ok v ↦ f v r.state
        | refused e ↦ ended (refused e) r.state
        | fault x ↦ ended (fault x) r.state
      ]

      go : (o : Outcome A) → Turns W l (rest o).state.marks
      go (ok v) = turns_trans h (g v)
      go (refused e) = h
      go (fault x) = h

  -- an end in the state that was left
  then_ends :
      {A B : Type 0} {l : List ℕ} (r : Ran A) (f : A → State → Outcome B)
      → Turns W l r.state.marks
      → Turns W l (r then λ v u. ended (f v u) u).state.marks
  unfolding ended
  then_ends r f h = then_turns r (λ v u. ended (f v u) u) h (λ v. turns_refl)

  option_turns :
      (catch : Bool) (len : Option ℕ) (s : State) (r : Ran Value)
      → Turns W s.marks r.state.marks
      → Turns W s.marks (parse_option catch len s r).state.marks
  unfolding parse_option after ended
  option_turns catch len s r h = go r.outcome
    where
      rest : Outcome Value → Ran (Option Value)
      rest o = elim o [
        | ok v ↦ ended (ok (if fewer r.state.remaining len then some v else none)) r.state
        | refused e ↦ if swallowed catch e s r.state then ended (ok none) s else ended (refused e) r.state
        | fault x ↦ ended (fault x) r.state
      ]

      go : (o : Outcome Value) → Turns W s.marks (rest o).state.marks
      go (ok v) = h
      go (refused e) =
          if_elim (λ (q : Ran (Option Value)). Turns W s.marks q.state.marks) (swallowed catch e s r.state) _ _
          (λ _. turns_refl)
          (λ _. h)
      go (fault x) = h

  -- ---- repeats
  module _ (catch stops : Bool) (run : State → Ran Value) (child : (u : State) → Turns W u.marks (run u).state.marks) where
    repeat_turns : (fuel : ℕ) (len : Option ℕ) (s : State) → Turns W s.marks (repeat catch stops fuel len run s).state.marks
    unfolding repeat ended
    repeat_turns zero len s = turns_refl
    repeat_turns (suc fuel) len s =
        then_turns p _ (option_turns catch len s (run s) (child s)) (λ v. go v (repeat_turns fuel (some p.state.remaining) p.state))
      where
        p : Ran (Option Value)
        p = parse_option catch len s (run s)

        later : Ran (List Value)
        later = repeat catch stops fuel (some p.state.remaining) run p.state

        go : (v : Option Value) → Turns W p.state.marks later.state.marks → Turns W p.state.marks (elim v as (λ _. Ran (List Value)) [
          | none ↦ ended (ok []) p.state
          | some x ↦ if idle stops s p.state
              then ended (ok (x ∷ [])) p.state
              else (later then λ xs u. ended (ok (x ∷ xs)) u)
        ]).state.marks
        go none h = turns_refl
        go (some x) h =
            if_elim (λ (q : Ran (List Value)). Turns W p.state.marks q.state.marks) (idle stops s p.state) _ _
            (λ _. turns_refl)
            (λ _. then_ends later (λ xs u. ok (x ∷ xs)) h)

    repeated_turns : (s : State) → Turns W s.marks (repeated catch stops run s).state.marks
    unfolding repeated
    repeated_turns s = repeat_turns (s.remaining + 2) none s

  last_turns :
      (run : State → Ran Value)
      → ((u : State) → Turns W u.marks (run u).state.marks)
      → (s : State)
      → Turns W s.marks (eval_last run s).state.marks
  unfolding eval_last ended
  last_turns run child s = then_turns p _ (repeated_turns false true run child s) (λ vs. go (last_of vs))
    where
      p : Ran (List Value)
      p = repeated false true run s

      go : (o : Option Value) → Turns W p.state.marks (elim o as (λ _. Ran Value) [ none ↦ run p.state | some v ↦ ended (ok v) p.state ]).state.marks
      go none = child p.state
      go (some v) = turns_refl

  -- ---- choice
  won_turns :
      {l : List ℕ} (a b : State) (o : Option ℕ)
      → ((w : ℕ) → o ≡ some w → w < length a.marks)
      → Turns W l a.marks
      → Turns W l (won a b o).marks
  unfolding won save_conflicts
  won_turns a b none below h = h
  won_turns a b (some w) below h = turns_trans h (conflicts_turn w a.marks b.marks (below w refl))

-- the place where two states differ is one of both
pick_below : (i : ℕ) (ms os : List ℕ) (w : ℕ) → (pick_from i ms os).place ≡ some w → (w < i + length ms) × (w < i + length os)
unfolding pick_from
pick_below i [] os w e = absurd (none-ne-some w e)
pick_below i (m ∷ ms) [] w e = absurd (none-ne-some w e)
pick_below i (m ∷ ms) (o ∷ os) w e = go (xor (parsed m) (parsed o)) e (pick_below (suc i) ms os w)
  where
    go :
        (b : Bool)
        → (if b then record { first = parsed m; place = some i } else pick_from (suc i) ms os).place ≡ some w
        → ((pick_from (suc i) ms os).place ≡ some w → (w < suc i + length ms) × (w < suc i + length os))
        → (w < i + suc (length ms)) × (w < i + suc (length os))
    go true e rest = let z = some-injective i w e in omega arith
    go false e rest = let h = rest e in omega arith

abbrev Below : State → State → Picked → Type 0
Below a b p = (w : ℕ) → p.place ≡ some w → (w < length a.marks) × (w < length b.marks)

side_below : (a b : State) (first : Bool) → Leaves (Below a b) (side first none)
unfolding side
side_below a b first w e = absurd (none-ne-some w e)

picks_below : (s a b : State) (o u : Outcome Value) → Leaves (Below a b) (picks_first s a b o u)
unfolding picks_first pick_winner
picks_below s a b (ok v) (ok w) =
    if_elim (Leaves (Below a b)) (eqb s.remaining a.remaining && eqb s.remaining b.remaining) _ _
    (λ _. side_below a b true)
    (λ _ w e. let h = pick_below 0 a.marks b.marks w e in omega arith)
picks_below s a b (ok v) (refused e) =
    if_elim (Leaves (Below a b)) (eqb s.remaining a.remaining && wrong_input e) (refused e) _ (λ _. tt) (λ _. side_below a b true)
picks_below s a b (refused e) (ok w) =
    if_elim (Leaves (Below a b)) (eqb s.remaining b.remaining && wrong_input e) (refused e) _ (λ _. tt) (λ _. side_below a b false)
picks_below s a b (refused e) (refused d) = tt
picks_below s a b (fault x) u = tt
picks_below s a b (ok v) (fault x) = tt
picks_below s a b (refused e) (fault x) = tt

module _ {W : ℕ → Type 0} where
  choice_turns :
      (s : State) (a b : Ran Value)
      → Turns W s.marks a.state.marks
      → Turns W s.marks b.state.marks
      → Turns W s.marks (eval_choice s a b).state.marks
  unfolding eval_choice after chosen picked ended
  choice_turns s a b h g = go (picks_first s a.state b.state oa ob) (picks_below s a.state b.state oa ob)
    where
      oa : Outcome Value
      oa = a.outcome

      ob : Outcome Value
      ob = b.outcome

      go :
          (o : Outcome Picked)
          → Leaves (Below a.state b.state) o
          → Turns W s.marks (elim o as (λ _. Ran Value) [ ok p ↦ picked a b p | refused e ↦ ended (refused e) s | fault x ↦ ended (fault x) s ]).state.marks
      go (ok p) below =
          if_elim (λ (q : Ran Value). Turns W s.marks q.state.marks) p.first _ _
          (λ _. won_turns a.state b.state p.place (λ w e. (below w e).0) h)
          (λ _. won_turns b.state a.state p.place (λ w e. (below w e).1) g)
      go (refused e) below = turns_refl
      go (fault x) below = turns_refl

  fallback_turns :
      (v : BaseValue) (s : State) (r : Ran Value)
      → Turns W s.marks r.state.marks
      → Turns W s.marks (eval_fallback v s r).state.marks
  unfolding eval_fallback after ended
  fallback_turns v s r h = go r.outcome
    where
      rest : Outcome Value → Ran Value
      rest o = elim o [
        | ok w ↦ ended (ok w) r.state
        | refused e ↦ ended (if can_catch e then ok (base v) else refused e) s
        | fault x ↦ ended (fault x) s
      ]

      go : (o : Outcome Value) → Turns W s.marks (rest o).state.marks
      go (ok w) = h
      go (refused e) = turns_refl
      go (fault x) = turns_refl

-- ---- every node
module _ (k : ℕ) (is : List Item) where
  pub eval_turns : (t : Tree) (s : State) → Turns (λ m. m ≡ k) s.marks (eval k is t s).state.marks
  unfolding eval visit eval_flag eval_argument eval_positional eval_optional eval_many eval_some eval_count eval_guard
  eval_turns (Flag n m w) s = leaf_turns s (take_flag k is m s) (flag_value n m w) (flag_turns k is s m)
  eval_turns (Argument n m b a) s = leaf_turns s (take_arg k is m a s) (argument_value n m b) (arg_turns k is s m a)
  eval_turns (Positional n p b) s = leaf_turns s (take_positional_word k is s) (positional_value n p b) (positional_turns k is s)
  eval_turns (Optional c t) s = then_ends (parse_option c none s (eval k is t s)) _ (option_turns c none s (eval k is t s) (eval_turns t s))
  eval_turns (Many c t) s = then_ends (repeated c false (eval k is t) s) _ (repeated_turns c false (eval k is t) (eval_turns t) s)
  eval_turns (Some c t) s = then_ends (repeated c false (eval k is t) s) _ (repeated_turns c false (eval k is t) (eval_turns t) s)
  eval_turns (Count t) s = then_ends (repeated false true (eval k is t) s) _ (repeated_turns false true (eval k is t) (eval_turns t) s)
  eval_turns (Last t) s = last_turns (eval k is t) (eval_turns t) s
  eval_turns (Choice t u) s = choice_turns s (eval k is t s) (eval k is u s) (eval_turns t s) (eval_turns u s)
  eval_turns (Fallback v t) s = fallback_turns v s (eval k is t s) (eval_turns t s)
  eval_turns (Guard l h t) s = then_ends (eval k is t s) (guarded l h) (eval_turns t s)

-- ---- the fields
first_of : (k n m : ℕ) → m ≡ field_mark k → OfFields k (suc n) m
first_of k n m e = let here : k ≡ k + 0 = omega arith in (0, e ∙ ap field_mark here, omega arith)

later_of : (k n m : ℕ) → OfFields (suc k) n m → OfFields k (suc n) m
later_of k n m x =
    let next : suc k + x.0 ≡ k + suc x.0 = omega arith in
    (suc x.0, x.1 ∙ ap field_mark next, omega (arith, x.2))

pub fields_turn :
    (k : ℕ) (is : List Item) (ts : List Tree) (s : State)
    → Turns (OfFields k (length ts)) s.marks (run_fields k is ts s).state.marks
unfolding run_fields ended
fields_turn k is [] s = turns_refl
fields_turn k is (t ∷ ts) s =
    let u = (eval (field_mark k) is t s).state in
    then_turns (eval (field_mark k) is t s) _ (turns_weaker (first_of k (length ts)) (eval_turns (field_mark k) is t s))
    (λ v. then_ends (run_fields (suc k) is ts u) (λ vs w. ok (v ∷ vs)) (turns_weaker (later_of k (length ts)) (fields_turn (suc k) is ts u)))

pub run_turns :
    (k : ℕ) (is : List Item) (ts : List Tree) (s : State)
    → Turns (OfFields k (length ts)) s.marks (run_all k is ts s).state.marks
unfolding run_all
run_turns k is ts s = then_ends (run_fields k is ts s) _ (fields_turn k is ts s)
