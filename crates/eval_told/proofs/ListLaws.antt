-- Many, some, count and last, from what their repeat tells.
use mathlib.Core.Bool.{Bool, true, false}
use mathlib.Core.List.{List, [], ◌∷◌, ◌++◌, map, flatten}
use mathlib.Core.Option.{some, none, some-injective, none-ne-some}
use mathlib.Core.Path.{◌≡◌, refl, sym, ◌∙◌, ap, ap₂, subst}
use Prim.Native.Nat.{ℕ, suc, ◌+◌}
use native.Mathlib.Omega.{arith}
use lib.ListN.{length}
use Rattle.std.specs.Prelude.{if◌then◌else◌}
use Rattle.rules.specs.Base.{null}
use Rattle.rules.specs.Outcome.{Outcome, ok, refused, fault, Refusal, refuse}
use Rattle.rules.specs.Value.{Value, base, is_number, list_of, word, words, elements, size}
use Rattle.rules.specs.Codes.{place_code}
use Rattle.rules.specs.State.{State}
use Rattle.rules.specs.Eval.{Ran as Run, ended, after, ◌then◌, repeated, eval_many, eval_some, eval_count, last_of, eval_last}
use Rattle.eval_told.specs.Told.{Told, told, Numbered}
use Rattle.eval_told.specs.Lists.{ToldList, told_list, last_words}

-- ---- the words of a list
size_of : (vs : List Value) → size (list_of vs) ≡ length vs
unfolding size list_of
size_of [] = refl
size_of (v ∷ vs) = ap suc (size_of vs)

elements_of : (vs : List Value) → elements (list_of vs) ≡ flatten (map words vs)
unfolding words elements list_of flatten
elements_of [] = refl
elements_of (v ∷ vs) = ap (λ (l : List ℕ). words v ++ l) (elements_of vs)

pub list_words_lem : (vs : List Value) → words (list_of vs) ≡ length vs ∷ flatten (map words vs)
unfolding words elements list_of flatten
list_words_lem [] = refl
list_words_lem (v ∷ vs) = ap₂ (λ (n : ℕ) (l : List ℕ). suc n ∷ (words v ++ l)) (size_of vs) (elements_of vs)

pub length_words : (vs : List Value) → length (map words vs) ≡ length vs
length_words [] = refl
length_words (v ∷ vs) = ap suc (length_words vs)

-- ---- from what a repeat tells to how it ended
abbrev ran : Run (List Value) → Outcome (List Value) → Run (List Value)
ran r o = record { outcome = o; state = r.state; tries = r.tries; trace = r.trace }

record Valued (r : Run (List Value)) (x : ToldList) : Type 0 where
  values : List Value
  outcome : r.outcome ≡ ok values
  words : map words values ≡ x.values

record Denied (r : Run (List Value)) (x : ToldList) : Type 0 where
  refusal : Refusal
  outcome : r.outcome ≡ refused refusal
  number : refusal.number ≡ x.number
  place : place_code refusal.place ≡ x.place

module _ (r : Run (List Value)) (x : ToldList) (h : told_list r ≡ some x) where
  list_state : r.state ≡ x.state
  unfolding told_list
  list_state = go r.outcome h
    where
      go : (o : Outcome (List Value)) → told_list (ran r o) ≡ some x → r.state ≡ x.state
      go (ok v) e = ap (λ (y : ToldList). y.state) (some-injective _ x e)
      go (refused v) e = ap (λ (y : ToldList). y.state) (some-injective _ x e)
      go (fault v) e = absurd (none-ne-some x e)

  list_tries : r.tries ≡ x.tries
  unfolding told_list
  list_tries = go r.outcome h
    where
      go : (o : Outcome (List Value)) → told_list (ran r o) ≡ some x → r.tries ≡ x.tries
      go (ok v) e = ap (λ (y : ToldList). y.tries) (some-injective _ x e)
      go (refused v) e = ap (λ (y : ToldList). y.tries) (some-injective _ x e)
      go (fault v) e = absurd (none-ne-some x e)

  list_value : Numbered r.outcome → x.number ≡ 0 → Valued r x
  unfolding told_list
  list_value nb z = go r.outcome refl nb h
    where
      go : (o : Outcome (List Value)) → r.outcome ≡ o → Numbered o → told_list (ran r o) ≡ some x → Valued r x
      go (ok v) q nb e = record { values = v; outcome = q; words = ap (λ (y : ToldList). y.values) (some-injective _ x e) }
      go (refused v) q nb e = absurd (nb (ap (λ (y : ToldList). y.number) (some-injective _ x e) ∙ z))
      go (fault v) q nb e = absurd (none-ne-some x e)

  list_denied_lem : (x.number ≡ 0 → ⊥) → Denied r x
  unfolding told_list
  list_denied_lem z = go r.outcome refl h
    where
      go : (o : Outcome (List Value)) → r.outcome ≡ o → told_list (ran r o) ≡ some x → Denied r x
      go (ok v) q e = absurd (z (sym (ap (λ (y : ToldList). y.number) (some-injective _ x e))))
      go (refused v) q e =
          let s = some-injective _ x e in
          record { refusal = v; outcome = q; number = ap (λ (y : ToldList). y.number) s; place = ap (λ (y : ToldList). y.place) s }
      go (fault v) q e = absurd (none-ne-some x e)

-- ---- a run that goes on from the values of a repeat
module _ (r : Run (List Value)) (g : List Value → State → Run Value) where
  pub then_refused :
      (e : Refusal)
      → r.outcome ≡ refused e
      → told (r then g)
      ≡ some (record { number = e.number; place = place_code e.place; tries = r.tries + 0; words = []; state = r.state })
  unfolding told ◌then◌ after ended
  then_refused e q =
      subst
      (λ (o : Outcome (List Value)). told (ran r o then g)
      ≡ some (record { number = e.number; place = place_code e.place; tries = r.tries + 0; words = []; state = r.state }))
      (sym q) refl

  pub then_values :
      (vs : List Value) (y : Told)
      → r.outcome ≡ ok vs
      → told (g vs r.state) ≡ some y
      → told (r then g)
      ≡ some (record { number = y.number; place = y.place; tries = r.tries + y.tries; words = y.words; state = y.state })
  unfolding told ◌then◌ after
  then_values vs y q e =
      subst
      (λ (o : Outcome (List Value)). told (ran r o then g)
      ≡ some (record { number = y.number; place = y.place; tries = r.tries + y.tries; words = y.words; state = y.state }))
      (sym q) (go (g vs r.state) e)
    where
      go :
          (u : Run Value)
          → told u ≡ some y
          → told (after r u)
          ≡ some (record { number = y.number; place = y.place; tries = r.tries + y.tries; words = y.words; state = y.state })
      go u e = by u.outcome e
        where
          by :
              (o : Outcome Value)
              → told (record { outcome = o; state = u.state; tries = u.tries; trace = u.trace }) ≡ some y
              → told (after r (record { outcome = o; state = u.state; tries = u.tries; trace = u.trace }))
              ≡ some (record { number = y.number; place = y.place; tries = r.tries + y.tries; words = y.words; state = y.state })
          by (ok v) e = let s = some-injective _ y e in
              λ i. some (record { number = (s i).number; place = (s i).place; tries = r.tries + (s i).tries; words = (s i).words; state = (s i).state })
          by (refused v) e = let s = some-injective _ y e in
              λ i. some (record { number = (s i).number; place = (s i).place; tries = r.tries + (s i).tries; words = (s i).words; state = (s i).state })
          by (fault v) e = absurd (none-ne-some y e)

-- ---- the four repeats
module _ (r : Run (List Value)) (x : ToldList) (h : told_list r ≡ some x) (nb : Numbered r.outcome) where
  -- a refusal is handed on
  pub list_refused_on :
      (g : List Value → State → Run Value)
      → (x.number ≡ 0 → ⊥)
      → told (r then g) ≡ some (record { number = x.number; place = x.place; tries = x.tries; words = []; state = x.state })
  list_refused_on g z =
      let d = list_denied_lem r x h z in
      then_refused r g d.refusal d.outcome
      ∙ (λ i. some (record { number = d.number i; place = d.place i; tries = tries i; words = []; state = list_state r x h i }))
    where
      tries : r.tries + 0 ≡ x.tries
      tries = let t = list_tries r x h in omega arith

  -- from the values to one value
  list_value_on :
      (g : List Value → Outcome Value) (w : List ℕ)
      → x.number ≡ 0
      → ((vs : List Value) → map words vs ≡ x.values → told (ended (g vs) x.state) ≡ some (record { number = 0; place = 0; tries = 0; words = w; state = x.state }))
      → told (r then λ vs t. ended (g vs) t) ≡ some (record { number = 0; place = 0; tries = x.tries; words = w; state = x.state })
  list_value_on g w z make =
      let d = list_value r x h nb z in
      then_values r (λ vs t. ended (g vs) t) d.values
      (record { number = 0; place = 0; tries = 0; words = w; state = r.state })
      d.outcome
      (subst (λ (t : State). told (ended (g d.values) t) ≡ some (record { number = 0; place = 0; tries = 0; words = w; state = t }))
      (sym (list_state r x h)) (make d.values d.words))
      ∙ (λ i. some (record { number = 0; place = 0; tries = tries i; words = w; state = list_state r x h i }))
    where
      tries : r.tries + 0 ≡ x.tries
      tries = let t = list_tries r x h in omega arith

-- what is told of a value, after a repeat
abbrev pub list_told : ToldList → List ℕ → Told
list_told x w = record { number = 0; place = 0; tries = x.tries; words = w; state = x.state }

-- of a repeat's refusal
abbrev pub list_denied : ToldList → Told
list_denied x = record { number = x.number; place = x.place; tries = x.tries; words = []; state = x.state }

module _ (f : State → Run Value) (s : State) (x : ToldList) where
  module _ (h : told_list (repeated false true f s) ≡ some x) (nb : Numbered (repeated false true f s).outcome) where
    pub count_value : x.number ≡ 0 → told (eval_count f s) ≡ some (list_told x (length x.values ∷ []))
    unfolding eval_count told ended words word
    count_value z =
        list_value_on (repeated false true f s) x h nb (λ vs. ok (base (is_number (length vs)))) (length x.values ∷ []) z
        (λ vs e. λ i. some (record { number = 0; place = 0; tries = 0; words = counted vs e i ∷ []; state = x.state }))
      where
        counted : (vs : List Value) → map words vs ≡ x.values → length vs ≡ length x.values
        counted vs e = sym (length_words vs) ∙ ap (λ (l : List (List ℕ)). length l) e

    pub count_refused : (x.number ≡ 0 → ⊥) → told (eval_count f s) ≡ some (list_denied x)
    unfolding eval_count
    count_refused z = list_refused_on (repeated false true f s) x h nb _ z

    pub last_refused : (x.number ≡ 0 → ⊥) → told (eval_last f s) ≡ some (list_denied x)
    unfolding eval_last
    last_refused z = list_refused_on (repeated false true f s) x h nb _ z

    -- no value: the child once more
    pub last_again :
        (y : Told)
        → x.number ≡ 0
        → length x.values ≡ 0
        → told (f x.state) ≡ some y
        → told (eval_last f s)
        ≡ some (record { number = y.number; place = y.place; tries = x.tries + y.tries; words = y.words; state = y.state })
    unfolding eval_last last_of
    last_again y z l e =
        let r = repeated false true f s in
        let d = list_value r x h nb z in
        then_values r _ d.values y d.outcome (go d.values (none_there d.values d.words))
        ∙ (λ i. some (record { number = y.number; place = y.place; tries = list_tries r x h i + y.tries; words = y.words; state = y.state }))
      where
        none_there : (vs : List Value) → map words vs ≡ x.values → length vs ≡ 0
        none_there vs q = sym (length_words vs) ∙ ap (λ (w : List (List ℕ)). length w) q ∙ l

        go :
            (vs : List Value)
            → length vs ≡ 0
            → told (elim (last_of vs) [ none ↦ f (repeated false true f s).state | some v ↦ ended (ok v) (repeated false true f s).state ]) ≡ some y
        go [] q = (subst (λ (t : State). told (f t) ≡ some y) (sym (list_state (repeated false true f s) x h)) e)
        go (v ∷ vs) q = absurd (omega arith)

    -- the last value
    last_there : (vs : List Value) → (length vs ≡ 0 → ⊥) → (v : Value) × (last_of vs ≡ some v) × (words v ≡ last_words (map words vs))
    unfolding last_of last_words
    last_there [] n = absurd (n refl)
    last_there (v ∷ []) n = (v, refl, refl)
    last_there (v ∷ (w ∷ vs)) n =
        let (u, e, q) = last_there (w ∷ vs) (λ z. absurd (omega arith)) in
        (u, rw (e, last_of), q)

    pub last_value_lem :
        x.number ≡ 0 → (length x.values ≡ 0 → ⊥) → told (eval_last f s) ≡ some (list_told x (last_words x.values))
    unfolding eval_last told ended last_of
    last_value_lem z l =
        let r = repeated false true f s in
        let d = list_value r x h nb z in
        let (v, e, q) = last_there d.values (λ n. l (ap (λ (w : List (List ℕ)). length w) (sym d.words) ∙ length_words d.values ∙ n)) in
        then_values r _ d.values (record { number = 0; place = 0; tries = 0; words = words v; state = r.state }) d.outcome (rw (e, last_of) refl)
        ∙ (λ i. some (record { number = 0; place = 0; tries = tries i; words = (q ∙ ap last_words d.words) i; state = list_state r x h i }))
      where
        tries : (repeated false true f s).tries + 0 ≡ x.tries
        tries = let t = list_tries (repeated false true f s) x h in omega arith

  module _ (catch : Bool) (h : told_list (repeated catch false f s) ≡ some x) (nb : Numbered (repeated catch false f s).outcome) where
    counted : (vs : List Value) → map words vs ≡ x.values → words (list_of vs) ≡ length x.values ∷ flatten x.values
    counted vs e =
        list_words_lem vs
        ∙ ap₂ (λ (n : ℕ) (l : List (List ℕ)). n ∷ flatten l) (sym (length_words vs) ∙ ap (λ (l : List (List ℕ)). length l) e) e

    pub many_value : x.number ≡ 0 → told (eval_many catch f s) ≡ some (list_told x (length x.values ∷ flatten x.values))
    unfolding eval_many told ended
    many_value z =
        list_value_on (repeated catch false f s) x h nb (λ vs. ok (list_of vs)) (length x.values ∷ flatten x.values) z
        (λ vs e. λ i. some (record { number = 0; place = 0; tries = 0; words = counted vs e i; state = x.state }))

    pub many_refused : (x.number ≡ 0 → ⊥) → told (eval_many catch f s) ≡ some (list_denied x)
    unfolding eval_many
    many_refused z = list_refused_on (repeated catch false f s) x h nb _ z

    pub some_refused : (x.number ≡ 0 → ⊥) → told (eval_some catch f s) ≡ some (list_denied x)
    unfolding eval_some
    some_refused z = list_refused_on (repeated catch false f s) x h nb _ z

    pub some_value :
        x.number ≡ 0
        → (length x.values ≡ 0 → ⊥)
        → told (eval_some catch f s) ≡ some (list_told x (length x.values ∷ flatten x.values))
    unfolding eval_some told ended null
    some_value z l =
        list_value_on (repeated catch false f s) x h nb (λ vs. if null vs then refused (refuse 21 none) else ok (list_of vs))
        (length x.values ∷ flatten x.values) z
        (λ vs e. go vs e)
      where
        go :
            (vs : List Value)
            → map words vs ≡ x.values
            → told (ended (if null vs then refused (refuse 21 none) else ok (list_of vs)) x.state)
            ≡ some (record { number = 0; place = 0; tries = 0; words = length x.values ∷ flatten x.values; state = x.state })
        go [] e = absurd (l (sym (ap (λ (w : List (List ℕ)). length w) e)))
        go (v ∷ vs) e = λ i. some (record { number = 0; place = 0; tries = 0; words = counted (v ∷ vs) e i; state = x.state })

    -- 21: no value
    pub some_none :
        x.number ≡ 0
        → length x.values ≡ 0
        → told (eval_some catch f s)
        ≡ some (record { number = 21; place = 0; tries = x.tries; words = []; state = x.state })
    unfolding eval_some told ended null
    some_none z l =
        let r = repeated catch false f s in
        let d = list_value r x h nb z in
        then_values r _ d.values (record { number = 21; place = 0; tries = 0; words = []; state = r.state }) d.outcome (go d.values d.words)
        ∙ (λ i. some (record { number = 21; place = 0; tries = tries i; words = []; state = list_state r x h i }))
      where
        tries : (repeated catch false f s).tries + 0 ≡ x.tries
        tries = let t = list_tries (repeated catch false f s) x h in omega arith

        go :
            (vs : List Value)
            → map words vs ≡ x.values
            → told (ended (if null vs then refused (refuse 21 none) else ok (list_of vs)) (repeated catch false f s).state)
            ≡ some (record { number = 21; place = 0; tries = 0; words = []; state = (repeated catch false f s).state })
        go [] e = refl
        go (v ∷ vs) e = absurd (more (ap (λ (w : List (List ℕ)). length w) e ∙ l))
          where
            more : suc (length (map words vs)) ≡ 0 → ⊥
            more z = omega arith
