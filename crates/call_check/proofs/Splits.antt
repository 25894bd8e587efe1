-- Splitting as an entry point: what a refusal leaves, and what the items and the state are.
use mathlib.Core.List.{List}
use mathlib.Core.Option.{Option, some, none}
use mathlib.Core.Path.{◌≡◌, refl, ap, ◌∙◌}
use Prim.Native.Nat.{ℕ, ◌≤◌, ◌<◌}
use native.Mathlib.Omega.{arith}
use lib.ListN.{length, replicate}
use lib.Seq.{sets}
use native.Mathlib.Nat.{sub-zero}
use Rattle.rules.specs.Outcome.{Outcome, ok, ◌>>=◌, Refusal}
use Rattle.rules.specs.Sheet.{sheet_fault}
use Rattle.rules.specs.Form.{read_form}
use Rattle.rules.specs.Accept.{Checked, accepted, refused_at, Accepted, check_form, letters_of}
use Rattle.rules.specs.Codes.{check_code, place_of}
use Rattle.rules.specs.Run.{Line, padded, split}
use Rattle.rules.specs.Calls.{to_raw, Splitting, split_refused, split_report, call_split}
use Rattle.rules.specs.declared.Refused.{Refused}
use Rattle.rules.specs.declared.State.{State as Raw}
use Rattle.split_args.proofs.States.{all_zero, empty_raw}
use Rattle.split_args.specs.declared.Ended.{Ended}
use Rattle.split_args.specs.Construct.{starting_state, SplitEnds, refusal_number, refusal_place}
use Rattle.rules.proofs.Acceptance.{accepted_form}
use Rattle.rules.proofs.CodeLaws.{place_code_lem}
use Rattle.rules.proofs.GivenLaws.{check_accepted, split_form, split_sheet, split_short_lem, split_goes}
use Rattle.std.specs.Prelude.{None, Err}
use Rattle.rules.specs.Reported.{number_of}
use Rattle.rules.specs.declared.Refusal.{Refusal as Name}
use Rattle.call_check.specs.Reader.{splitting_of, answer_of, SplitAnswers, Admits}
use Rattle.split_line.specs.Input.{Splittable}

pub refused_splitting :
    (l o : List ℕ) (number place : ℕ)
    → o ≡ sets l 0 (replicate (length l) 0)
    → SplitAnswers (ok (split_refused (length l) number (place_of place))) o (record { number = number; place = place; count = 0; marker = 0 })
unfolding splitting_of split_refused padded
refused_splitting l o number place e = record {
  same = rw (e ∙ all_zero l (length l) refl, empty_raw, sub-zero (length l)) refl;
  marked = record { few = omega arith; within = omega arith };
}

-- ---- what is refused
module _ (form sheet : List ℕ) (n : ℕ) (r : Refused) (e : r ≡ check_code (check_form form)) where
  pub form_refused : (r.number ≡ 0 → ⊥) → call_split form sheet n ≡ ok (split_refused n r.number (place_of r.place))
  form_refused z = go (check_form form) refl
    where
      go : (c : Checked Accepted) → check_form form ≡ c → call_split form sheet n ≡ ok (split_refused n r.number (place_of r.place))
      go (accepted a) g = absurd (z (ap (λ (y : Refused). y.number) (e ∙ ap check_code g)))
      go (refused_at m k) g =
          let same = e ∙ ap check_code g in
          rw (same, place_code_lem k) (split_form form sheet n m k g)

  module _ (z : r.number ≡ 0) where
    pub sheet_refused : (m : ℕ) → m ≡ sheet_fault sheet → (m ≡ 0 → ⊥) → call_split form sheet n ≡ ok (split_refused n m none)
    sheet_refused m f y =
        let (a, g) = check_accepted form r e z in
        rw f (split_sheet form sheet n a g (λ z. y (f ∙ z)))

    pub slice_refused : sheet_fault sheet ≡ 0 → n < 1792 → call_split form sheet n ≡ ok (split_refused n 7 none)
    slice_refused f k = let (a, g) = check_accepted form r e z in split_short_lem form sheet n a g f k

    pub splittable : sheet_fault sheet ≡ 0 → (items : List ℕ) → 1792 ≤ length items → Splittable form sheet items
    splittable f items k = let (a, g) = check_accepted form r e z in record { result = a; accepts = g; checked = f; room = k }

-- a refusal with no place
pub refused_with : (form sheet items : List ℕ) (e : Name) → call_split form sheet (length items) ≡ ok (split_refused (length items) (number_of e) none)
    → Admits {A = Unit {0}} form sheet items (Err (record { refusal = e; place = None }))
unfolding place_of
refused_with form sheet items e h = (h, omega arith)

-- ---- an accepted form and a checked sheet
split_is :
    (form sheet : List ℕ) (n : ℕ) (a : Accepted) (l : Line)
    → check_form form ≡ accepted a
    → sheet_fault sheet ≡ 0
    → 1792 ≤ n
    → split (read_form form) sheet ≡ ok l
    → call_split form sheet n ≡ ok (split_report n l)
unfolding ◌>>=◌
split_is form sheet n a l e f h g = split_goes form sheet n a e f h ∙ rw (accepted_form form a e, g)

reports :
    (n : ℕ) (l : Line) (r : Ended) (out : List ℕ)
    → r.number ≡ refusal_number l.refusal
    → r.place ≡ refusal_place l.refusal
    → starting_state r.count r.marker ≡ to_raw l.state
    → out ≡ padded n l.records
    → split_report n l ≡ splitting_of (answer_of r) out
unfolding split_report splitting_of place_of
reports n l r out a b c d = go l.refusal refl
  where
    go : (o : Option Refusal) → l.refusal ≡ o → split_report n l ≡ splitting_of (answer_of r) out
    go none e = rw (a, b, c, d, e, split_report) refl
    go (some x) e = rw (a, b, c, d, e, split_report, place_code_lem x.place) refl

pub split_answers :
    (form sheet items : List ℕ) (out : List ℕ) (r : Ended)
    → Splittable form sheet items
    → SplitEnds (letters_of (read_form form)) sheet (length items) out r
    → SplitAnswers (call_split form sheet (length items)) out r
unfolding split
split_answers form sheet items out r g c = record {
  same =
      split_is form sheet (length items) g.result c.line g.accepts g.checked g.room c.same
      ∙ ap ok (reports (length items) c.line r out c.number c.place c.state c.words);
  marked = c.marked;
}

-- the state that the items start in
pub split_state :
    (o : Outcome Splitting) (items : List ℕ) (r : Ended) (s : Raw)
    → SplitAnswers o items r
    → s ≡ starting_state r.count r.marker
    → o ≡ ok (splitting_of (record { number = r.number; place = r.place; state = s }) items)
split_state o items r s a e = a.same ∙ rw e
