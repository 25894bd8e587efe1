-- What a run tells, taken apart.
use mathlib.Core.List.{List, []}
use mathlib.Core.Option.{Option, some, some-injective, none-ne-some}
use mathlib.Core.Path.{◌≡◌, ap}
use Prim.Native.Nat.{ℕ}
use Rattle.rules.specs.Outcome.{Outcome, ok, refused, fault, Refusal}
use Rattle.rules.specs.Value.{Value, words}
use Rattle.rules.specs.Codes.{place_code}
use Rattle.rules.specs.State.{State}
use Rattle.rules.specs.Eval.{Ran as Run, Visit}
use Rattle.state_marks.specs.Lent.{state_of}
use Rattle.eval_told.specs.declared.Ran.{Ran}
use Rattle.eval_told.specs.Told.{Told, told, told_with}

-- a run, by its parts
abbrev pub run_of : Outcome Value → State → ℕ → List Visit → Run Value
run_of o t n l = record { outcome = o; state = t; tries = n; trace = l }

pub told_same :
    {n n' p p' t t' : ℕ} {w w' : List ℕ} {s s' : State}
    → n ≡ n'
    → p ≡ p'
    → t ≡ t'
    → w ≡ w'
    → s ≡ s'
    → ◌≡◌ {A = Option Told}
    (some (record { number = n; place = p; tries = t; words = w; state = s }))
    (some (record { number = n'; place = p'; tries = t'; words = w'; state = s' }))
told_same a b c d e = λ i. some (record { number = a i; place = b i; tries = c i; words = d i; state = e i })

module _ (ran : Ran) (m w : List ℕ) (t : State) (n : ℕ) (l : List Visit) where
  -- of a value
  pub record Value·told (v : Value) : Type 0 where
    pub number : 0 ≡ ran.number
    pub place : 0 ≡ ran.place
    pub tries : n ≡ ran.tries
    pub words : words v ≡ w
    pub state : t ≡ state_of m ran.numbers

  pub value_told : (v : Value) → told (run_of (ok v) t n l) ≡ some (told_with ran m w) → Value·told v
  unfolding told
  value_told v h =
      let e = some-injective _ _ h in
      record {
        number = ap (λ (x : Told). x.number) e;
        place = ap (λ (x : Told). x.place) e;
        tries = ap (λ (x : Told). x.tries) e;
        words = ap (λ (x : Told). x.words) e;
        state = ap (λ (x : Told). x.state) e;
      }

  -- of a refusal
  pub record Refusal·told (e : Refusal) : Type 0 where
    pub number : e.number ≡ ran.number
    pub place : place_code e.place ≡ ran.place
    pub tries : n ≡ ran.tries
    pub words : ◌≡◌ {A = List ℕ} [] w
    pub state : t ≡ state_of m ran.numbers

  pub refusal_told : (e : Refusal) → told (run_of (refused e) t n l) ≡ some (told_with ran m w) → Refusal·told e
  unfolding told
  refusal_told x h =
      let e = some-injective _ _ h in
      record {
        number = ap (λ (x : Told). x.number) e;
        place = ap (λ (x : Told). x.place) e;
        tries = ap (λ (x : Told). x.tries) e;
        words = ap (λ (x : Told). x.words) e;
        state = ap (λ (x : Told). x.state) e;
      }

  -- of either
  pub record Left·told : Type 0 where
    pub tries : n ≡ ran.tries
    pub state : t ≡ state_of m ran.numbers

  pub left_told : (o : Outcome Value) → told (run_of o t n l) ≡ some (told_with ran m w) → Left·told
  unfolding told
  left_told (ok v) h = let x = value_told v h in record { tries = x.tries; state = x.state }
  left_told (refused e) h = let x = refusal_told e h in record { tries = x.tries; state = x.state }
  left_told (fault x) h = absurd (none-ne-some _ h)
