-- A repeat, turn by turn, from what its child tells.
use mathlib.Core.Bool.{Bool, true, false, false≢true}
use mathlib.Core.List.{List, [], ◌∷◌, ◌++◌, map}
use mathlib.Core.Option.{Option, some, none, some-injective, none-ne-some}
use mathlib.Core.Path.{◌≡◌, refl, sym, ◌∙◌, ap, ap₂}
use Prim.Native.Nat.{ℕ, zero, suc, ◌+◌}
use native.Mathlib.Omega.{arith}
use lib.Dec.{eqb}
use borrow.Author.Tests.{eq-eqb, eqb-true}
use Rattle.std.specs.Prelude.{if◌then◌else◌}
use Rattle.rules.specs.Outcome.{Outcome, ok, refused, fault, Refusal, refuse}
use Rattle.rules.specs.Value.{Value, words}
use Rattle.rules.specs.Codes.{place_code}
use Rattle.rules.specs.State.{State}
use Rattle.rules.specs.Eval.{Ran as Run, Visit, ended, after, ◌then◌, fewer, swallowed, parse_option, idle, repeat}
use Rattle.eval_structs.specs.declared.Counting.{Counting}
use Rattle.eval_structs.specs.declared.Counting.TheVariants.{Counted, Uncounted, Absent, PassedOn}
use Rattle.eval_structs.specs.Decisions.{with_remaining, option_way, option_by, some_of}
use Rattle.eval_structs.specs.Laws.{option_ok, option_refused}
use Rattle.eval_told.specs.Told.{Told, told, Numbered}
use Rattle.eval_told.specs.Lists.{told_list, prefixed}

-- ---- lists
add-zero : (n : ℕ) → n + 0 ≡ n
add-zero n = omega arith

pub append-nil : {A : Type 0} (l : List A) → l ++ [] ≡ l
append-nil [] = refl
append-nil (x ∷ l) = ap (λ t. x ∷ t) (append-nil l)

pub append_three : {A : Type 0} (l m k : List A) → l ++ (m ++ k) ≡ (l ++ m) ++ k
append_three [] m k = refl
append_three (x ∷ l) m k = ap (λ t. x ∷ t) (append_three l m k)

-- ---- from what is told to how the run ended
abbrev ran : Run Value → Outcome Value → Run Value
ran r o = record { outcome = o; state = r.state; tries = r.tries; trace = r.trace }

pub record Valued (r : Run Value) (x : Told) : Type 0 where
  pub value : Value
  pub outcome : r.outcome ≡ ok value
  pub words : words value ≡ x.words

pub record Denied (r : Run Value) (x : Told) : Type 0 where
  pub refusal : Refusal
  pub outcome : r.outcome ≡ refused refusal
  pub number : refusal.number ≡ x.number
  pub place : place_code refusal.place ≡ x.place

module _ (r : Run Value) (x : Told) (h : told r ≡ some x) where
  pub told_state : r.state ≡ x.state
  unfolding told
  told_state = go r.outcome h
    where
      go : (o : Outcome Value) → told (ran r o) ≡ some x → r.state ≡ x.state
      go (ok v) e = ap (λ (y : Told). y.state) (some-injective _ x e)
      go (refused v) e = ap (λ (y : Told). y.state) (some-injective _ x e)
      go (fault v) e = absurd (none-ne-some x e)

  pub told_tries : r.tries ≡ x.tries
  unfolding told
  told_tries = go r.outcome h
    where
      go : (o : Outcome Value) → told (ran r o) ≡ some x → r.tries ≡ x.tries
      go (ok v) e = ap (λ (y : Told). y.tries) (some-injective _ x e)
      go (refused v) e = ap (λ (y : Told). y.tries) (some-injective _ x e)
      go (fault v) e = absurd (none-ne-some x e)

  pub told_value : Numbered r.outcome → x.number ≡ 0 → Valued r x
  unfolding told
  told_value nb z = go r.outcome refl nb h
    where
      go : (o : Outcome Value) → r.outcome ≡ o → Numbered o → told (ran r o) ≡ some x → Valued r x
      go (ok v) q nb e = record { value = v; outcome = q; words = ap (λ (y : Told). y.words) (some-injective _ x e) }
      go (refused v) q nb e = absurd (nb (ap (λ (y : Told). y.number) (some-injective _ x e) ∙ z))
      go (fault v) q nb e = absurd (none-ne-some x e)

  pub told_denied : (x.number ≡ 0 → ⊥) → Denied r x
  unfolding told
  told_denied z = go r.outcome refl h
    where
      go : (o : Outcome Value) → r.outcome ≡ o → told (ran r o) ≡ some x → Denied r x
      go (ok v) q e = absurd (z (sym (ap (λ (y : Told). y.number) (some-injective _ x e))))
      go (refused v) q e =
          let s = some-injective _ x e in
          record { refusal = v; outcome = q; number = ap (λ (y : Told). y.number) s; place = ap (λ (y : Told). y.place) s }
      go (fault v) q e = absurd (none-ne-some x e)

-- ---- runs put together
module _ {A : Type 0} where
  pub run_same :
      {o p : Outcome A} {s t : State} {n m : ℕ} {k l : List Visit}
      → o ≡ p
      → s ≡ t
      → n ≡ m
      → k ≡ l
      → ◌≡◌ {A = Run A} (record { outcome = o; state = s; tries = n; trace = k }) (record { outcome = p; state = t; tries = m; trace = l })
  run_same a b c d = λ i. record { outcome = a i; state = b i; tries = c i; trace = d i }

pub prefixed_none : (r : Run (List Value)) → prefixed 0 [] [] r ≡ r
unfolding prefixed
prefixed_none r = go r.outcome
  where
    go :
        (o : Outcome (List Value))
        → prefixed 0 [] [] (record { outcome = o; state = r.state; tries = r.tries; trace = r.trace })
        ≡ record { outcome = o; state = r.state; tries = r.tries; trace = r.trace }
    go (ok vs) = run_same refl refl (omega arith) refl
    go (refused e) = run_same refl refl (omega arith) refl
    go (fault x) = run_same refl refl (omega arith) refl

-- a value in front of a run's values
in_front : (v : Value) (q : Run (List Value)) → (q then λ xs u. ended (ok (v ∷ xs)) u) ≡ prefixed 0 [] (v ∷ []) q
unfolding ◌then◌ after ended prefixed
in_front v q = go q.outcome
  where
    go :
        (o : Outcome (List Value))
        → ((record { outcome = o; state = q.state; tries = q.tries; trace = q.trace }) then λ xs u. ended (ok (v ∷ xs)) u)
        ≡ prefixed 0 [] (v ∷ []) (record { outcome = o; state = q.state; tries = q.tries; trace = q.trace })
    go (ok vs) = run_same refl refl (omega arith) (append-nil q.trace)
    go (refused e) = run_same refl refl (omega arith) (append-nil q.trace)
    go (fault x) = run_same refl refl (omega arith) (append-nil q.trace)

-- what came before a run that came after a child's
module _ (n : ℕ) (tr : List Visit) (vs : List Value) (k : ℕ) (t : List Visit) (ws : List Value) (q : Run (List Value)) where
  abbrev Behind : Run (List Value) → Run (List Value)
  Behind r = record { outcome = r.outcome; state = r.state; tries = (k + 0) + r.tries; trace = (t ++ []) ++ r.trace }

  prefixed_twice : prefixed n tr vs (Behind (prefixed 0 [] ws q)) ≡ prefixed (n + k) (tr ++ t) (vs ++ ws) q
  unfolding prefixed
  prefixed_twice = go q.outcome
    where
      traces : tr ++ ((t ++ []) ++ q.trace) ≡ (tr ++ t) ++ q.trace
      traces = ap (λ (l : List Visit). tr ++ (l ++ q.trace)) (append-nil t) ∙ append_three tr t q.trace

      go :
          (o : Outcome (List Value))
          → prefixed n tr vs (Behind (prefixed 0 [] ws (record { outcome = o; state = q.state; tries = q.tries; trace = q.trace })))
          ≡ prefixed (n + k) (tr ++ t) (vs ++ ws) (record { outcome = o; state = q.state; tries = q.tries; trace = q.trace })
      go (ok us) = run_same (ap (λ (l : List Value). ok l) (append_three vs ws us)) refl (omega arith) traces
      go (refused e) = run_same refl refl (omega arith) traces
      go (fault x) = run_same refl refl (omega arith) traces

-- ---- `parse_option`, by what the child tells
-- a success, or a refusal
is_success : Counting → Bool
is_success Counted = true
is_success Uncounted = true
is_success Absent = false
is_success PassedOn = false

way_number : (n : ℕ) (catch : Bool) (given left : ℕ) (len : Option ℕ) → is_success (option_way n catch given left len) ≡ eqb n 0
unfolding option_way is_success
way_number n catch given left len = go (eqb n 0) (fewer left len) (swallowed catch (refuse n none) (with_remaining given) (with_remaining left))
  where
    go :
        (a b c : Bool)
        → is_success (if a then (if b then Counted else Uncounted) else (if c then Absent else PassedOn)) ≡ a
    go true true c = refl
    go true false c = refl
    go false b true = refl
    go false b false = refl

pub counted_number : (n : ℕ) (catch : Bool) (given left : ℕ) (len : Option ℕ) → option_way n catch given left len ≡ Counted → n ≡ 0
unfolding is_success
counted_number n catch given left len e = eqb-true n 0 (sym (way_number n catch given left len) ∙ ap is_success e)

pub passed_number : (n : ℕ) (catch : Bool) (given left : ℕ) (len : Option ℕ) → option_way n catch given left len ≡ PassedOn → n ≡ 0 → ⊥
unfolding is_success
passed_number n catch given left len e z = false≢true (sym (ap is_success e) ∙ way_number n catch given left len ∙ eq-eqb n 0 z)

module _ (catch : Bool) (len : Option ℕ) (s : State) (r : Run Value) (x : Told) (h : told r ≡ some x) (nb : Numbered r.outcome) where
  abbrev pub Way : Counting → Type 0
  Way w = option_way x.number catch s.remaining x.state.remaining len ≡ w

  option_by_lem : (w : Counting) → Way w → parse_option catch len s r ≡ option_by w s r
  option_by_lem w e = go x.number refl
    where
      left : r.state.remaining ≡ x.state.remaining
      left = ap (λ (u : State). u.remaining) (told_state r x h)

      way : (k : ℕ) → k ≡ x.number → option_way k catch s.remaining r.state.remaining len ≡ w
      way k q = ap₂ (λ (a b : ℕ). option_way a catch s.remaining b len) q left ∙ e

      go : (n : ℕ) → x.number ≡ n → parse_option catch len s r ≡ option_by w s r
      go zero z =
          let v = told_value r x h nb z in
          option_ok catch len s r v.value v.outcome
          ∙ ap (λ (c : Counting). option_by c s r) (way 0 (sym z))
      go (suc n) z =
          let no : x.number ≡ 0 → ⊥ = λ y. omega arith in
          let d = told_denied r x h no in
          option_refused catch len s r d.refusal d.outcome (λ y. no (sym d.number ∙ y))
          ∙ ap (λ (c : Counting). option_by c s r) (way d.refusal.number d.number)

-- ---- a turn
module _
    (catch stops : Bool)
    (fuel : ℕ)
    (len : Option ℕ)
    (f : State → Run Value)
    (s : State)
    (x : Told)
    (h : told (f s) ≡ some x)
    (nb : Numbered (f s).outcome)
    (n : ℕ)
    (tr : List Visit)
    (vs : List Value)
  where
    abbrev Whole : Run (List Value)
    Whole = prefixed n tr vs (repeat catch stops (suc fuel) len f s)

    abbrev pub Went : List Value → Run (List Value) → Run (List Value)
    Went ws q = prefixed (n + x.tries) (tr ++ (f s).trace) ws q

    -- the values that were counted, and what follows
    abbrev next : Option Value → State → Run (List Value)
    next v t = elim v [
      | none ↦ ended (ok []) t
      | some y ↦ if idle stops s t
          then ended (ok (y ∷ [])) t
          else (repeat catch stops fuel (some t.remaining) f t then λ xs u. ended (ok (y ∷ xs)) u)
    ]

    turned : (w : Counting) → Way catch len s (f s) x h nb w → repeat catch stops (suc fuel) len f s ≡ (option_by w s (f s) then next)
    unfolding repeat
    turned w e = ap (λ (q : Run (Option Value)). q then next) (option_by_lem catch len s (f s) x h nb w e)

    settled :
        (us ws : List Value) (q : State → Run (List Value))
        → vs ++ us ≡ ws
        → prefixed (n + (f s).tries) (tr ++ (f s).trace) (vs ++ us) (q (f s).state) ≡ Went ws (q x.state)
    settled us ws q e =
        λ i. prefixed (n + told_tries (f s) x h i) (tr ++ (f s).trace) (e i) (q (told_state (f s) x h i))

    pub turn_uncounted : Way catch len s (f s) x h nb Uncounted → Whole ≡ Went vs (ended (ok []) x.state)
    unfolding option_by ◌then◌ after ended prefixed
    turn_uncounted e =
        ap (prefixed n tr vs) (turned Uncounted e)
        ∙ prefixed_twice n tr vs (f s).tries (f s).trace [] (ended (ok []) (f s).state)
        ∙ settled [] vs (λ t. ended (ok []) t) (append-nil vs)

    pub turn_absent : Way catch len s (f s) x h nb Absent → Whole ≡ Went vs (ended (ok []) s)
    unfolding option_by ◌then◌ after ended prefixed
    turn_absent e =
        ap (prefixed n tr vs) (turned Absent e)
        ∙ prefixed_twice n tr vs (f s).tries (f s).trace [] (ended (ok []) s)
        ∙ settled [] vs (λ t. ended (ok []) s) (append-nil vs)

    pub record PassesOn : Type 0 where
      pub refusal : Refusal
      pub number : refusal.number ≡ x.number
      pub place : place_code refusal.place ≡ x.place
      pub same : Whole ≡ Went vs (ended (refused refusal) x.state)

    passed_by :
        (e : Refusal)
        → (f s).outcome ≡ refused e
        → (option_by PassedOn s (f s) then next) ≡ Behind n tr vs (f s).tries (f s).trace [] (ended (refused e) (f s).state) (ended (refused e) (f s).state)
    unfolding option_by some_of ◌then◌ after ended
    passed_by e q = rw (q, some_of)

    pub turn_passed : Way catch len s (f s) x h nb PassedOn → PassesOn
    unfolding prefixed ended
    turn_passed e =
        let d = told_denied (f s) x h (passed_number x.number catch s.remaining x.state.remaining len e) in
        record {
          refusal = d.refusal;
          number = d.number;
          place = d.place;
          same =
              ap (prefixed n tr vs) (turned PassedOn e ∙ passed_by d.refusal d.outcome)
              ∙ prefixed_twice n tr vs (f s).tries (f s).trace [] (ended (refused d.refusal) (f s).state)
              ∙ settled [] vs (λ t. ended (refused d.refusal) t) (append-nil vs);
        }

    -- a success that counts: the value, and what follows
    pub record Counts (q : Run (List Value)) : Type 0 where
      pub value : Value
      pub words : words value ≡ x.words
      pub same : Whole ≡ Went (vs ++ (value ∷ [])) q

    counted_by :
        (v : Value)
        → (f s).outcome ≡ ok v
        → (option_by Counted s (f s) then next) ≡ Behind n tr vs (f s).tries (f s).trace [] (ended (ok []) s) (next (some v) (f s).state)
    unfolding option_by some_of ◌then◌ after ended
    counted_by v q = rw (q, some_of)

    counts : (q : State → Run (List Value)) → ((v : Value) → next (some v) (f s).state ≡ prefixed 0 [] (v ∷ []) (q (f s).state)) → Way catch len s
        (f s) x h nb Counted → Counts (q x.state)
    counts q rest e =
        let z = counted_number x.number catch s.remaining x.state.remaining len e in
        let d = told_value (f s) x h nb z in
        let v = d.value in
        record {
          value = v;
          words = d.words;
          same =
              ap (prefixed n tr vs) (turned Counted e ∙ counted_by v d.outcome ∙ ap (Behind n tr vs (f s).tries (f s).trace [] (ended (ok []) s)) (rest v))
              ∙ prefixed_twice n tr vs (f s).tries (f s).trace (v ∷ []) (q (f s).state)
              ∙ settled (v ∷ []) (vs ++ (v ∷ [])) q refl;
        }

    -- one of `count` and `last` that used nothing
    pub turn_idle : idle stops s x.state ≡ true → Way catch len s (f s) x h nb Counted → Counts (ended (ok []) x.state)
    unfolding prefixed ended
    turn_idle i e = counts (λ t. ended (ok []) t) (λ v. rest v) e
      where
        idles : idle stops s (f s).state ≡ true
        idles = ap (idle stops s) (told_state (f s) x h) ∙ i

        rest : (v : Value) → next (some v) (f s).state ≡ prefixed 0 [] (v ∷ []) (ended (ok []) (f s).state)
        rest v = rw idles

    pub turn_counted :
        idle stops s x.state ≡ false
        → Way catch len s (f s) x h nb Counted
        → Counts (repeat catch stops fuel (some x.state.remaining) f x.state)
    turn_counted i e = counts (λ t. repeat catch stops fuel (some t.remaining) f t) (λ v. rest v) e
      where
        idles : idle stops s (f s).state ≡ false
        idles = ap (idle stops s) (told_state (f s) x h) ∙ i

        rest : (v : Value) → next (some v) (f s).state ≡ prefixed 0 [] (v ∷ []) (repeat catch stops fuel (some (f s).state.remaining) f (f s).state)
        rest v = rw idles (in_front v (repeat catch stops fuel (some (f s).state.remaining) f (f s).state))

-- ---- how a repeat ends
pub list_ended :
    (n : ℕ) (tr : List Visit) (vs : List Value) (t : State)
    → told_list (prefixed n tr vs (ended (ok []) t)) ≡ some (record { number = 0; place = 0; tries = n; values = map words vs; state = t })
unfolding told_list prefixed ended
list_ended n tr vs t =
    λ i. some (record { number = 0; place = 0; tries = add-zero n i; values = map words (append-nil vs i); state = t })

pub list_refused :
    (n : ℕ) (tr : List Visit) (vs : List Value) (e : Refusal) (t : State)
    → told_list (prefixed n tr vs (ended (refused e) t))
    ≡ some (record { number = e.number; place = place_code e.place; tries = n; values = []; state = t })
unfolding told_list prefixed ended
list_refused n tr vs e t =
    λ i. some (record { number = e.number; place = place_code e.place; tries = add-zero n i; values = []; state = t })
