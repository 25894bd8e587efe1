-- Candidates that were passed, none of them taken: what is still to be tried equals the whole.
use mathlib.Core.Bool.{true, false}
use mathlib.Core.List.{List, [], ◌∷◌, ◌++◌, append-nil, append_assoc}
use mathlib.Core.Option.{Option, some, none}
use mathlib.Core.Path.{◌≡◌, refl, sym, ap, ◌∙◌}
use Prim.Native.Nat.{ℕ, suc, ◌+◌, ◌-◌, ◌≤◌}
use native.Mathlib.Nat.{zero-add}
use native.Mathlib.Omega.{arith}
use Rattle.rules.specs.Outcome.{ok, ◌>>=◌}
use Rattle.rules.specs.Codes.{place_of}
use Rattle.rules.specs.Split.{Item}
use Rattle.rules.specs.State.{State, command_mark}
use Rattle.rules.specs.Take.{took, take_cmd}
use Rattle.rules.specs.Commands.{Command, Candidate, candidates_from, try_names}
use Rattle.rules.proofs.CodeLaws.{place_some}
use Rattle.state_marks.specs.declared.Numbers.{Numbers}
use Rattle.state_marks.specs.Lent.{state_of, Fine}
use Rattle.take_search.specs.States.{LeftState, Items}
use Rattle.take_search.proofs.States.{left_same, left_more}
use Rattle.command_names.specs.declared.Tried.{Tried}
use Rattle.command_names.specs.Trying.{none_taken, tried_behind, then_tries, Tries, TriesNames}

-- ---- one candidate
module _ (is : List Item) (n : ℕ) (c : Candidate) (rest : List Candidate) (s t : State) where
  pub try_taken : take_cmd command_mark is c.word s ≡ took true t
      → try_names is n (c ∷ rest) s ≡ ok (record { entry = some c.entry; comparisons = suc n; state = t })
  unfolding try_names took ◌>>=◌
  try_taken e = rw e

  pub try_passed : take_cmd command_mark is c.word s ≡ took false t → try_names is n (c ∷ rest) s ≡ try_names is (suc n) rest t
  unfolding try_names took ◌>>=◌
  try_passed e = rw e

-- ---- what follows
module _ (is : List Item) (n : ℕ) (rest : List Candidate) (m : List ℕ) (r : Tried) where
  pub then_on : place_of r.entry ≡ none → then_tries is n rest m r ≡ try_names is (n + r.comparisons) rest (state_of m r.numbers)
  unfolding then_tries
  then_on e = rw (e, then_tries)

  pub then_done : (k : ℕ) → place_of r.entry ≡ some k
      → then_tries is n rest m r ≡ ok (record { entry = some k; comparisons = n + r.comparisons; state = state_of m r.numbers })
  unfolding then_tries
  then_done k e = rw (e, then_tries)

-- n of the comparisons before are counted with it
then_behind : (is : List Item) (j n : ℕ) (rest : List Candidate) (m : List ℕ) (r : Tried) → then_tries is (j + n) rest m r ≡ then_tries is j rest m (tried_behind n r)
then_behind is j n rest m r = go (place_of r.entry) refl
  where
    sum : j + n + r.comparisons ≡ j + (n + r.comparisons)
    sum = omega arith

    go : (o : Option ℕ) → place_of r.entry ≡ o → then_tries is (j + n) rest m r ≡ then_tries is j rest m (tried_behind n r)
    go none e =
        then_on is (j + n) rest m r e
        ∙ ap (λ (x : ℕ). try_names is x rest (state_of m r.numbers)) sum
        ∙ sym (then_on is j rest m (tried_behind n r) e)
    go (some k) e =
        then_done is (j + n) rest m r k e
        ∙ ap (λ (x : ℕ). ok (record { entry = some k; comparisons = x; state = state_of m r.numbers })) sum
        ∙ sym (then_done is j rest m (tried_behind n r) k e)

-- ---- n comparisons, and these candidates are left
pub record Passed (area words : List ℕ) (cs left : List Candidate) (m : List ℕ) (p : Numbers) (n : ℕ) (m' : List ℕ) (q : Numbers) : Type 0 where
  pub same : (is : List Item) → Items area words p is → (j : ℕ) (rest : List Candidate)
      → try_names is j (cs ++ rest) (state_of m p) ≡ try_names is (j + n) (left ++ rest) (state_of m' q)
  pub state : LeftState m p m' q

module _ (area words : List ℕ) (cs : List Candidate) (m : List ℕ) (p : Numbers) where
  pub passed_none : (l : List Candidate) → cs ≡ l → Fine m p → Passed area words cs l m p 0 m p
  passed_none l e f = record {
    same = λ is i j rest.
        let z : j ≡ j + 0 = omega arith in
        λ k. try_names is (z k) (e k ++ rest) (state_of m p);
    state = left_same m p f;
  }

  module _ (left : List Candidate) (n : ℕ) (m' : List ℕ) (q : Numbers) (passed : Passed area words cs left m p n m' q) where
    items : (is : List Item) → Items area words p is → Items area words q is
    items is i = (i.0, i.1 ∙ sym passed.state.count)

    -- none is left
    pub passed_all : left ≡ [] → (most : ℕ) → n ≤ most → Tries area words cs most m p m' (none_taken n q)
    unfolding place_of
    passed_all e most few = record {
      same = λ is i j rest.
          passed.same is i j rest
          ∙ ap (λ (l : List Candidate). try_names is (j + n) (l ++ rest) (state_of m' q)) e
          ∙ sym (then_on is j rest m' (none_taken n q) refl);
      few = few;
      left = passed.state;
    }

    -- all that are left are tried
    pub passed_then : (most : ℕ) (m'' : List ℕ) (r : Tried) → Tries area words left most m' q m'' r
        → (all : ℕ) → n + r.comparisons ≤ all → Tries area words cs all m p m'' (tried_behind n r)
    passed_then most m'' r tried all few = record {
      same = λ is i j rest.
          passed.same is i j rest ∙ tried.same is (items is i) (j + n) rest ∙ then_behind is j n rest m'' r;
      few = few;
      left = left_more m p m' q m'' r.numbers passed.state tried.left;
    }

    -- the next of them are tried
    module _ (ds es : List Candidate) (e : left ≡ ds ++ es) (most : ℕ) (m'' : List ℕ) (r : Tried) (tried : Tries area words ds most m' q m'' r) where
      step : (is : List Item) → Items area words p is → (j : ℕ) (rest : List Candidate)
          → try_names is j (cs ++ rest) (state_of m p) ≡ then_tries is j (es ++ rest) m'' (tried_behind n r)
      step is i j rest =
          passed.same is i j rest
          ∙ ap (λ (l : List Candidate). try_names is (j + n) l (state_of m' q)) (ap (λ (l : List Candidate). l ++ rest) e ∙ append_assoc ds es rest)
          ∙ tried.same is (items is i) (j + n) (es ++ rest)
          ∙ then_behind is j n (es ++ rest) m'' r

      state_after : LeftState m p m'' r.numbers
      state_after = left_more m p m' q m'' r.numbers passed.state tried.left

      pub passed_more : r.entry ≡ 0 → Passed area words cs es m p (n + r.comparisons) m'' r.numbers
      unfolding place_of
      passed_more z = record {
        same = λ is i j rest. step is i j rest ∙ then_on is j (es ++ rest) m'' (tried_behind n r) (ap place_of z);
        state = state_after;
      }

      pub passed_taken : (r.entry ≡ 0 → ⊥) → (all : ℕ) → n + r.comparisons ≤ all → Tries area words cs all m p m'' (tried_behind n r)
      passed_taken z all few = record {
        same = λ is i j rest.
            let here = place_some r.entry z in
            step is i j rest
            ∙ then_done is j (es ++ rest) m'' (tried_behind n r) (r.entry - 1) here
            ∙ sym (then_done is j rest m'' (tried_behind n r) (r.entry - 1) here);
        few = few;
        left = state_after;
      }

-- no candidates
pub none_tried : (area words : List ℕ) (most : ℕ) (m : List ℕ) (p : Numbers) → Fine m p
    → Tries area words [] most m p m (none_taken 0 p)
none_tried area words most m p f = passed_all area words [] m p [] 0 m p (passed_none area words [] m p [] refl f) refl most (omega arith)

-- all candidates of a table, and nothing before or after them
pub tries_all : (area words : List ℕ) (cs : List Command) (most : ℕ) (m : List ℕ) (p : Numbers) (m' : List ℕ) (r : Tried)
    → Tries area words (candidates_from 0 cs) most m p m' r → TriesNames area words cs m p m' r
unfolding try_names
tries_all area words cs most m p m' r t = record {
  same = λ is i.
      ap (λ (l : List Candidate). try_names is 0 l (state_of m p)) (sym (append-nil (candidates_from 0 cs)))
      ∙ t.same is i 0 []
      ∙ go is (place_of r.entry) refl;
  left = t.left;
}
  where
    go : (is : List Item) (o : Option ℕ) → place_of r.entry ≡ o
        → then_tries is 0 [] m' r ≡ ok (record { entry = place_of r.entry; comparisons = r.comparisons; state = state_of m' r.numbers })
    go is none e = then_on is 0 [] m' r e ∙ rw (e, zero-add r.comparisons)
    go is (some k) e = then_done is 0 [] m' r k e ∙ rw (e, zero-add r.comparisons)
