-- 29 lets the states that are handed out through again, under the form.
use mathlib.Core.Bool.{Bool, true}
use mathlib.Core.List.{List, [], ◌∷◌}
use mathlib.Core.Logic.{inl, inr, ⊎_elim}
use mathlib.Core.Option.{Option, some, none}
use mathlib.Core.Path.{◌≡◌, refl, subst}
use Prim.Native.Nat.{ℕ, zero, suc, ◌+◌, ◌-◌, ◌<◌}
use native.Mathlib.Omega.{arith}
use lib.Dec.{ltb, eqb}
use lib.ListN.{length, get_or, replicate}
use lib.Seq.{take_at, drop_at}
use borrow.Author.Tests.{eq-eqb, lt-ltb}
use Rattle.rules.specs.Base.{all, minus, write}
use Rattle.rules.specs.Outcome.{Outcome, ok, refused, fault, ◌>>=◌, at, Refusal, construct390, construct391}
use Rattle.rules.specs.Sheet.{arguments}
use Rattle.rules.specs.Form.{Form}
use Rattle.rules.specs.Value.{Value}
use Rattle.rules.specs.Tree.{zeros}
use Rattle.rules.specs.Accept.{Accepted, accepted, check_form, letters_of}
use Rattle.rules.specs.Split.{split_from, items_of}
use Rattle.rules.specs.State.{State, marker_mark, field_mark, parsed, used_below, mark_good, current_good, state_good, construct, empty_state, unused, present_from}
use Rattle.rules.specs.Eval.{ended}
use Rattle.rules.specs.Given.{form_in, sheet_in, room_in, list_room_in, input_in}
use Rattle.rules.specs.Run.{padded, Line, too_many, line_of, split, run_all, run_line, Report, refused_input, report, report_with, run}
use Rattle.rules.specs.Calls.{from_raw, to_raw, state_in}
use Rattle.rules.specs.Sound.{Good}
use Rattle.rules.specs.Marks.{Turned, Turns, OfFields, Returns}
use Rattle.rules.proofs.Acceptance.{accepted_sound}
use Rattle.rules.proofs.CodeLaws.{place_code_lem}
use Rattle.rules.proofs.Places.{if_elim, both, left, right, used_good, conflict_good, all_set, all_replicate}
use Rattle.rules.proofs.StepLaws.{good_test, zero_good}
use Rattle.rules.proofs.Fields.{field_parsed, all_sound}
use Rattle.rules.proofs.SplitLaws.{LineGood, line_law, line_accepted}
use Rattle.rules.proofs.Turning.{Leaves, bind_leaves, at_leaves, any_leaves, same_leaves, write_set, run_turns}

-- ---- a state and how it is handed over
raw_back : (s : State) → from_raw (to_raw s) ≡ s
unfolding from_raw to_raw padded
raw_back s = λ i. record {
  marks = take_at s.marks (replicate (256 - length s.marks) 0) (length s.marks) refl i;
  remaining = s.remaining;
  current = place_code_lem s.current i;
  start = s.start;
  end = s.end;
}

pub good_returns : (fields : ℕ) (s : State) → state_good fields (length s.marks) s ≡ true → Returns fields s
unfolding state_in to_raw padded zeros
good_returns fields s h =
    let rest : List ℕ = replicate (256 - length s.marks) 0 in
    rw (raw_back s, h, eq-eqb (length s.marks) (length s.marks) refl, drop_at s.marks rest (length s.marks) refl, all_replicate (eqb 0) (256 - length s.marks) 0 refl)

-- ---- marks that are good under so many fields
abbrev pub GoodMarks : (fields n : ℕ) → List ℕ → Type 0
GoodMarks fields n l = all (mark_good (used_below fields) n) l ≡ true

pub marks_return : (fields n : ℕ) (s : State) → Good n s → GoodMarks fields n s.marks → Returns fields s
marks_return fields n s g h =
    good_returns fields s (rw g.long (good_test fields n s g h))

marker_used : (fields : ℕ) → used_below fields marker_mark ≡ true
unfolding used_below marker_mark field_mark parsed
marker_used fields = lt-ltb 510 (512 + fields) (omega arith)

pub field_used : (fields j : ℕ) → j < fields → used_below fields (field_mark j) ≡ true
unfolding used_below field_mark
field_used fields j h = both _ _ (field_parsed j) (lt-ltb (512 + j) (512 + fields) (omega arith))

fields_used : (fields m : ℕ) → OfFields 0 fields m → used_below fields m ≡ true
fields_used fields m x = let here : 0 + x.0 ≡ x.0 = omega arith in rw (x.1, here) (field_used fields x.0 x.2)

-- ---- every place of a list
all_at : (p : ℕ → Bool) (l : List ℕ) (i : ℕ) → all p l ≡ true → i < length l → p (get_or l i 0) ≡ true
unfolding all
all_at p [] i h k = absurd (omega arith)
all_at p (x ∷ l) zero h k = left (p x) (all p l) h
all_at p (x ∷ l) (suc i) h k = all_at p l i (right (p x) (all p l) h) (omega arith)

all_each : (p : ℕ → Bool) (l : List ℕ) → ((i : ℕ) → i < length l → p (get_or l i 0) ≡ true) → all p l ≡ true
unfolding all
all_each p [] h = refl
all_each p (x ∷ l) h = both (p x) (all p l) (h 0 (omega arith)) (all_each p l (λ i k. h (suc i) (omega arith)))

-- marks that turn stay good, if what is written is
module _ (W : ℕ → Type 0) (fields n : ℕ) (written : (m : ℕ) → W m → used_below fields m ≡ true) where
  turned_good : (m u : ℕ) → Turned W n m u → mark_good (used_below fields) n m ≡ true → mark_good (used_below fields) n u ≡ true
  turned_good m u (inl e) h = rw e h
  turned_good m u (inr p) h =
      ⊎_elim
      (λ (w : W u). used_good (used_below fields) n u (written u w))
      (λ (c : (w : ℕ) × (u ≡ 2 + w) × (w < n)). rw c.1 (conflict_good (used_below fields) n c.0 c.2))
      p.1

  pub turns_good : (given after : List ℕ) → length given ≡ n → Turns W given after → GoodMarks fields n given → GoodMarks fields n after
  turns_good given after e t h =
      all_each _ after
      (λ i k. turned_good (get_or given i 0) (get_or after i 0) (rw e at (t.turned i)) (all_at _ given i h (omega (arith, t.long))))

-- ---- a line that was split
construct_marks :
    (fields n : ℕ) (marker : Option ℕ)
    → Leaves (λ s. (m : ℕ) → GoodMarks fields m s.marks) (construct marker_mark n marker)
unfolding construct
construct_marks fields n none = λ m. all_replicate _ n 0 (zero_good (used_below fields) m)
construct_marks fields n (some i) =
    bind_leaves _ _ (at construct390 (write (replicate n 0) i marker_mark)) _ (at_leaves _ _)
    (λ l w. bind_leaves _ _ (at construct391 (minus n 1)) _ (at_leaves _ _)
    (λ _ _ m. rw (← write_set (replicate n 0) i marker_mark l w)
    (all_set _ (replicate n 0) i marker_mark (all_replicate _ n 0 (zero_good (used_below fields) m))
    (used_good (used_below fields) m marker_mark (marker_used fields)))))

line_marks : (fields : ℕ) (f : Form) (s : List ℕ) → Leaves (λ l. (m : ℕ) → GoodMarks fields m l.state.marks) (split f s)
unfolding split line_of too_many empty_state all
line_marks fields f s =
    bind_leaves _ _ (split_from (letters_of f) 0 (arguments s)) _ (any_leaves (split_from (letters_of f) 0 (arguments s)))
    (λ x _. if_elim (Leaves (λ l. (m : ℕ) → GoodMarks fields m l.state.marks)) (ltb 256 (length (items_of x))) _ _
    (λ _ m. refl)
    (λ _. bind_leaves _ _ (construct marker_mark (length (items_of x)) x.marker) _ (construct_marks fields (length (items_of x)) x.marker) (λ u h. h)))

pub empty_returns : (fields : ℕ) → Returns fields empty_state
unfolding state_good empty_state current_good unused present_from all
empty_returns fields = good_returns fields empty_state refl

module _ (b s : List ℕ) (a : Accepted) (form : check_form b ≡ accepted a) where
  abbrev few : ℕ
  few = length a.fields

  abbrev Reports : Outcome Report → Type 0
  Reports = Leaves (λ r. Returns few r.state)

  module _ (l : Line) (splits : split a.form s ≡ ok l) where
    given_marks : GoodMarks few (length l.items) l.state.marks
    given_marks = subst (Leaves (λ (l : Line). (m : ℕ) → GoodMarks few m l.state.marks)) splits (line_marks few a.form s) (length l.items)

    pub line_returns : Returns few l.state
    unfolding too_many
    line_returns =
        ⊎_elim
        (λ (t : l ≡ too_many). rw t (empty_returns few))
        (λ (g : LineGood (arguments s) l). marks_return few (length l.items) l.state g.good given_marks)
        (line_law a.form s l splits)

    -- the state that is reached
    reached_returns : l.refusal ≡ none → Returns few (run_all 0 l.items a.fields l.state).state
    reached_returns u =
        let good = (line_accepted a.form s l splits u).good in
        let step = (all_sound 0 l.items a.fields (accepted_sound b a form) l.state good).step in
        marks_return few (length l.items) _ step.good
        (turns_good (OfFields 0 few) few (length l.items) (fields_used few) l.state.marks _ good.long
        (run_turns 0 l.items a.fields l.state) given_marks)

    ran_returns : Returns few (run_line a.fields l).state
    unfolding run_line ended
    ran_returns = go l.refusal refl
      where
        go : (o : Option Refusal) → l.refusal ≡ o → Returns few (run_line a.fields l).state
        go none u = rw (u, run_line) (reached_returns u)
        go (some e) u = rw (u, run_line) line_returns

    report_returns : (ni na nl : ℕ) → Reports (report ni na nl l (run_line a.fields l))
    unfolding report report_with
    report_returns ni na nl = go (run_line a.fields l).outcome refl
      where
        go : (o : Outcome (List Value)) → (run_line a.fields l).outcome ≡ o → Reports (report ni na nl l (run_line a.fields l))
        go (ok vs) e = rw (e, report) ran_returns
        go (refused x) e = rw (e, report) ran_returns
        go (fault x) e = rw (e, report) tt

  pub form_given : Leaves (λ d. d ≡ a) (form_in b)
  unfolding form_in
  form_given = rw (form, form_in) refl

  pub input_given : (n : ℕ) → Leaves (λ d. d ≡ a) (input_in b s n)
  unfolding input_in
  input_given n =
      bind_leaves _ _ (form_in b) _ form_given
      (λ d e. bind_leaves _ _ (sheet_in s) _ (any_leaves (sheet_in s))
      (λ _ _. bind_leaves _ _ (room_in 1792 n) _ (any_leaves (room_in 1792 n)) (λ _ _. e)))

  run_leaves : (ni na nl : ℕ) → Reports (run b s ni na nl)
  unfolding run refused_input
  run_leaves ni na nl =
      go given (bind_leaves _ _ (input_in b s ni) _ (input_given ni)
      (λ d e. bind_leaves _ _ (room_in 8240 na) _ (any_leaves (room_in 8240 na))
      (λ _ _. bind_leaves _ _ (list_room_in nl) _ (any_leaves (list_room_in nl)) (λ _ _. e))))
    where
      given : Outcome Accepted
      given = input_in b s ni >>= λ a. room_in 8240 na >>= λ _. list_room_in nl >>= λ _. ok a

      go :
          (o : Outcome Accepted)
          → Leaves (λ d. d ≡ a) o
          → Reports (elim o [
            | ok a ↦ split a.form s >>= λ l. report ni na nl l (run_line a.fields l)
            | refused e ↦ ok (refused_input ni na nl e.number e.place)
            | fault x ↦ fault x
          ])
      go (ok d) e = rw e (bind_leaves _ _ (split a.form s) _ (same_leaves (split a.form s)) (λ l q. report_returns l q ni na nl))
      go (refused e) h = empty_returns few
      go (fault x) h = tt

-- what a run of an accepted form reports
pub run_returns :
    (b s : List ℕ) (a : Accepted)
    → check_form b ≡ accepted a
    → (ni na nl : ℕ) (r : Report)
    → run b s ni na nl ≡ ok r
    → Returns (length a.fields) r.state
run_returns b s a form ni na nl r e = subst (Leaves (λ (r : Report). Returns (length a.fields) r.state)) e (run_leaves b s a form ni na nl)
