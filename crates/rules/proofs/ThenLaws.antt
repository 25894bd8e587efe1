-- Laws of `_then_`, of traces, and of fields one after the other.
use mathlib.Core.List.{List, [], ◌∷◌, ◌++◌, append-nil, append_assoc}
use mathlib.Core.Path.{◌≡◌, refl, sym, ◌∙◌}
use Prim.Native.Nat.{ℕ, suc, ◌+◌, ◌*◌}
use native.Mathlib.Nat.{zero-add, add-zero, add_assoc}
use native.Mathlib.Omega.{arith}
use lib.ListN.{length}
use Rattle.rules.specs.Outcome.{Outcome, ok, refused, fault}
use Rattle.rules.specs.Tree.{Tree}
use Rattle.rules.specs.Split.{Item}
use Rattle.rules.specs.State.{State}
use Rattle.rules.specs.Eval.{Ran, Visit, ended, after, ◌then◌, states_of}
use Rattle.rules.specs.Run.{run_fields}

-- ---- the states of a trace
pub states_two : (l : List Visit) → length (states_of l) ≡ 2 * length l
unfolding states_of
states_two [] = refl
states_two (v ∷ l) = let e = states_two l in omega arith

-- ---- laws of `_then_`
pub then_first : {A B : Type 0} (v : A) (s : State) (f : A → State → Ran B) → (ended (ok v) s then f) ≡ f v s
unfolding ◌then◌ after ended
then_first v s f = λ i. record { outcome = (f v s).outcome; state = (f v s).state; tries = zero-add (f v s).tries i; trace = (f v s).trace }

pub then_last : {A : Type 0} (r : Ran A) → (r then λ v u. ended (ok v) u) ≡ r
unfolding ◌then◌ after ended
then_last {A} r = go r.outcome
  where
    whole : (o : Outcome A) → Ran A
    whole o = record { outcome = o; state = r.state; tries = r.tries; trace = r.trace }

    same : (o : Outcome A) → after r (ended o r.state) ≡ whole o
    same o = λ i. record { outcome = o; state = r.state; tries = add-zero r.tries i; trace = append-nil r.trace i }

    go : (o : Outcome A) → (whole o then λ v u. ended (ok v) u) ≡ whole o
    go (ok v) = same (ok v)
    go (refused e) = same (refused e)
    go (fault x) = same (fault x)

module _ {A B C : Type 0} where
  pub after_assoc : (r : Ran A) (q : Ran B) (x : Ran C) → after (after r q) x ≡ after r (after q x)
  unfolding after
  after_assoc r q x = λ i. record {
    outcome = x.outcome;
    state = x.state;
    tries = add_assoc r.tries q.tries x.tries i;
    trace = append_assoc r.trace q.trace x.trace i;
  }

  pub then_assoc : (r : Ran A) (f : A → State → Ran B) (g : B → State → Ran C) → ((r then f) then g) ≡ (r then λ v u. f v u then g)
  unfolding ◌then◌ after ended
  then_assoc r f g = go r.outcome
    where
      whole : (o : Outcome A) → Ran A
      whole o = record { outcome = o; state = r.state; tries = r.tries; trace = r.trace }

      next : Ran B → Ran C
      next q = elim q.outcome [
        | ok w ↦ g w q.state
        | refused e ↦ ended (refused e) q.state
        | fault x ↦ ended (fault x) q.state
      ]

      go : (o : Outcome A) → ((whole o then f) then g) ≡ (whole o then λ v u. f v u then g)
      go (ok v) = after_assoc r (f v r.state) (next (f v r.state))
      go (refused e) = after_assoc r (ended {A = B} (refused e) r.state) (ended (refused e) r.state)
      go (fault x) = after_assoc r (ended {A = B} (fault x) r.state) (ended (fault x) r.state)

-- fields one after the other
pub fields_append :
    (k : ℕ) (is : List Item) (ts us : List Tree) (s : State)
    → run_fields k is (ts ++ us) s
    ≡ (run_fields k is ts s then λ vs u. run_fields (k + length ts) is us u then λ ws w. ended (ok (vs ++ ws)) w)
unfolding run_fields
fields_append k is [] us s =
    let here : k + 0 ≡ k = omega arith in
    rw here (sym (then_first [] s (λ vs u. run_fields k is us u then λ ws w. ended (ok (vs ++ ws)) w) ∙ then_last (run_fields k is us s)))
fields_append k is (t ∷ ts) us s =
    let next : k + suc (length ts) ≡ suc k + length ts = omega arith in
    let ih :
    (u : State)
    → run_fields (suc k) is (ts ++ us) u
    ≡ (run_fields (suc k) is ts u then λ vs u. run_fields (suc k + length ts) is us u then λ ws w. ended (ok (vs ++ ws)) w) =
    fields_append (suc k) is ts us
    in
    rw next (simp (ih, then_assoc, then_first))
