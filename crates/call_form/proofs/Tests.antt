-- What the tests of the input say of a call.
use mathlib.Core.List.{List, []}
use mathlib.Core.Option.{some, none}
use mathlib.Core.Path.{◌≡◌, refl, ap, subst, ◌∙◌}
use Prim.Native.Nat.{ℕ}
use native.Mathlib.Omega.{arith}
use lib.ListN.{length}
use Rattle.rules.specs.Outcome.{Outcome, ok, refused, fault, ◌>>=◌, Refusal, refuse}
use Rattle.rules.specs.Form.{field_count}
use Rattle.rules.specs.Split.{Item}
use Rattle.rules.specs.State.{State}
use Rattle.rules.specs.Accept.{Checked as CheckedForm, accepted, refused_at, Accepted, check_form}
use Rattle.rules.specs.Codes.{place_code, check_code}
use Rattle.rules.specs.Take.{Took}
use Rattle.rules.specs.Calls.{form_in, state_in, from_raw, handed, on_form}
use Rattle.std.specs.Prelude.{None, Err}
use Rattle.rules.specs.Reported.{number_of, place_told, told}
use Rattle.rules.specs.declared.Refusal.{Refusal as Name}
use Rattle.rules.specs.declared.Refused.{Refused}
use Rattle.rules.specs.declared.RefusedAt.{RefusedAt}
use Rattle.rules.proofs.ReportedLaws.{numbered}
use Rattle.call_answers.proofs.Places.{check_small}
use Rattle.rules.specs.declared.State.{State as Raw}
use Rattle.call_answers.specs.Answers.{Coded, coded, coded_or0, answer_with, state_with, answer_of, state_answer_of}
use Rattle.rules.proofs.GivenLaws.{check_accepted, form_passed}
use Rattle.call_table.specs.Given.{items_given, HasState, GivesState}
use Rattle.call_table.proofs.Laws.{on_table, on_table_lem, state_given}
use Rattle.call_form.specs.Given.{HasForm, given_in, Refuses}
use Rattle.call_form.proofs.Keys.{form_fields}

-- ---- refused before the end
abbrev refusal_of : {A : Type 0} → Refusal → Outcome A → Refusal
refusal_of d (ok a) = d
refusal_of d (refused e) = e
refusal_of d (fault x) = d

abbrev Refused? : {A : Type 0} → Outcome A → Type 0
Refused? (ok a) = ⊥
Refused? (refused e) = Unit {0}
Refused? (fault x) = ⊥

is_refused : {A : Type 0} (o : Outcome A) (e : Refusal) → o ≡ refused e → Refused? o
is_refused o e h = rw h tt

module _ (e : Refusal) where
  -- what one test refuses, the next does not see
  goes_on : {A B C : Type 0} (o : Outcome A) (f : A → Outcome B) (g : A → Outcome C)
      → ((a : A) → f a ≡ refused e → g a ≡ refused e) → (o >>= f) ≡ refused e → (o >>= g) ≡ refused e
  unfolding ◌>>=◌
  goes_on (ok a) f g k h = k a h
  goes_on {A} {B} {C} (refused d) f g k h = ap {B = Outcome C} refused (ap (refusal_of e) h)
  goes_on (fault x) f g k h = absurd (is_refused (fault x) e h)

  then_refused : {A B : Type 0} (o : Outcome A) (f : A → Outcome B) → o ≡ refused e → (o >>= f) ≡ refused e
  unfolding ◌>>=◌
  then_refused o f h = rw h

  call_refused : {A : Type 0} (form sheet words : List ℕ) (x : Raw) (f : Accepted → List Item → State → Outcome (Took A))
      → given_in form sheet words x ≡ refused e → on_form form sheet words x f ≡ handed x (refused e)
  unfolding given_in on_form
  call_refused form sheet words x f h = ap (handed x)
      (goes_on (form_in form) _ _ (λ a k.
      on_table_lem sheet words _ ∙ goes_on (items_given sheet words) _ _ (λ is. then_refused (state_in (length a.fields) (length is) x) (f a is)) k) h)

-- ---- `given`
module _ (form sheet words : List ℕ) (x : Raw) where
  pub form_tests : (r : RefusedAt) → told r ≡ check_code (check_form form) → Refuses (given_in form sheet words x) r
  unfolding given_in form_in ◌>>=◌
  form_tests r e = go (check_form form) refl
    where
      go : (c : CheckedForm Accepted) → check_form form ≡ c → Refuses (given_in form sheet words x) r
      go (accepted a) h = absurd (numbered r.refusal (ap (λ (y : Refused). y.number) (e ∙ ap check_code h)))
      go (refused_at n k) h =
          let same : told r ≡ record { number = n; place = place_code k } = e ∙ ap check_code h in
          record {
            refusal = record { number = n; place = k; missing = [] };
            same = rw (h, form_in) refl;
            number = ap (λ (y : Refused). y.number) same;
            place = ap (λ (y : Refused). y.place) same;
            small = check_small form (told r) e;
          }

  module _ (r : Refused) (e : r ≡ check_code (check_form form)) (z : r.number ≡ 0) (fields : ℕ) (count : fields ≡ field_count form) where
    pub state_tests : HasState fields sheet words x → HasForm form sheet words x
    state_tests said =
        let (a, h) = check_accepted form r e z in
        record { result = a; accepts = h; state = subst (λ (k : ℕ). HasState k sheet words x) (count ∙ form_fields form a h) said }

    pub state_fails : (n : Name) → GivesState {A = Unit {0}} fields sheet words x (Err n)
        → Refuses (given_in form sheet words x) (record { refusal = n; place = None })
    unfolding given_in
    state_fails n said =
        let (a, h) = check_accepted form r e z in
        let g = subst (λ (k : ℕ). GivesState {A = Unit {0}} k sheet words x (Err n)) (count ∙ form_fields form a h) said in
        record {
          refusal = refuse (number_of n) none;
          same = form_passed form a (λ b. items_given sheet words >>= λ is. state_in (length b.fields) (length is) x) h ∙ g;
          number = refl;
          place = refl;
          small = omega arith;
        }

-- ---- a call that is refused, and one that goes on
module _ {A : Type 0} (form sheet words : List ℕ) (x : Raw) (f : Accepted → List Item → State → Outcome (Took A)) where
  module _ (code : A → Coded) (r : RefusedAt) (b : Refuses (given_in form sheet words x) r) where
    pub refused_state : state_answer_of code (on_form form sheet words x f) ≡ some (state_with (number_of r.refusal) (place_told r.place) (coded 0 0 0) x)
    unfolding state_answer_of handed coded_or0
    refused_state = rw (call_refused b.refusal form sheet words x f b.same, b.number, b.place) refl

    pub refused_answer : answer_of code (on_form form sheet words x f) ≡ some (answer_with (number_of r.refusal) (place_told r.place) (coded 0 0 0))
    unfolding answer_of handed coded_or0
    refused_answer = rw (call_refused b.refusal form sheet words x f b.same, b.number, b.place) refl

  pub passed : (g : HasForm form sheet words x) → on_form form sheet words x f ≡ handed x (f g.result g.state.table.holds.items (from_raw x))
  unfolding on_form
  passed g = ap (handed x)
      (form_passed form g.result (λ a. on_table sheet words (λ is. state_in (length a.fields) (length is) x >>= f a is)) g.accepts
      ∙ state_given (length g.result.fields) sheet words x (f g.result) g.state)
