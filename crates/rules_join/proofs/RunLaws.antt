-- The run of a joined form is the run of both: its fields, one after the other, on one state.
use mathlib.Core.List.{List, [], ◌∷◌, ◌++◌, map, map-append}
use mathlib.Core.Option.{Option, some, none}
use mathlib.Core.Path.{◌≡◌, refl, ap, ◌∙◌}
use Prim.Native.Nat.{ℕ, suc}
use native.Mathlib.Nat.{zero-add}
use Rattle.rules.specs.Outcome.{Outcome, ok, refused, fault, ◌>>=◌, Refusal}
use Rattle.rules.specs.Value.{Value}
use Rattle.rules.specs.Tree.{Tree, kind_of}
use Rattle.rules.specs.Accept.{Accepted, accepted, check_form, letters_of}
use Rattle.rules.specs.Split.{Item}
use Rattle.rules.specs.State.{State, field_mark}
use Rattle.rules.specs.Eval.{Ran, ended, eval}
use Rattle.rules.specs.Given.{sheet_in, room_in, list_room_in, input_in}
use Rattle.rules.specs.Run.{Line, split, run_fields, run_all, run_line, Report, refused_input, report, run}
use Rattle.rules.specs.Encode.{encode_form}
use Rattle.rules.proofs.GivenLaws.{form_passed}
use Rattle.rules.proofs.ThenLaws.{then_first, then_assoc, fields_append}
use Rattle.rules_join.specs.Join.{Moves, moves_behind, join_forms, move_tree, move_value, move_ran, move_outcome, letters_of_both, split_both, run_both, run_line_both, run_two}
use Rattle.rules_join.specs.JoinAnswered.{joined_accepted}
use Rattle.rules_join.proofs.TreeLaws.{kind_moved}
use Rattle.rules_join.proofs.MovedLaws.{then_moved, then_ends, eval_moved}

bind_assoc : {A B C : Type 0} (o : Outcome A) (f : A → Outcome B) (g : B → Outcome C) → ((o >>= f) >>= g) ≡ (o >>= λ x. f x >>= g)
unfolding ◌>>=◌
bind_assoc (ok x) f g = refl
bind_assoc (refused e) f g = refl
bind_assoc (fault e) f g = refl

-- ---- fields
pub fields_moved :
    (d : Moves) (k : ℕ) (is : List Item) (ts : List Tree) (s : State)
    → run_fields k is (map (move_tree d) ts) s ≡ move_ran d (map (move_value d)) (run_fields k is ts s)
unfolding run_fields ended move_ran move_outcome
fields_moved d k is [] s = refl
fields_moved d k is (t ∷ ts) s =
    rw (eval_moved d (field_mark k) is t s)
    (then_moved d (move_value d) (map (move_value d)) (eval (field_mark k) is t s) _ _
    (λ v u. rw (fields_moved d (suc k) is ts u) (then_ends d (map (move_value d)) (map (move_value d)) (run_fields (suc k) is ts u) _ _ (λ vs w. refl))))

pub kinds_moved : (d : Moves) (ts : List Tree) → map kind_of (map (move_tree d) ts) ≡ map kind_of ts
kinds_moved d [] = refl
kinds_moved d (t ∷ ts) = rw (kind_moved d t, kinds_moved d ts)

module _ (a b : Accepted) where
  pub both_moved :
      (is : List Item) (s : State) → run_all 0 is (a.fields ++ map (move_tree (moves_behind a.form)) b.fields) s ≡ run_both a b is s
  unfolding run_all run_both
  both_moved is s = simp (fields_append, then_assoc, then_first, zero-add, fields_moved)

  pub kinds_joined : map kind_of (joined_accepted a b).fields ≡ map kind_of a.fields ++ map kind_of b.fields
  unfolding joined_accepted
  kinds_joined = let d = moves_behind a.form in rw (map-append kind_of a.fields (map (move_tree d) b.fields), kinds_moved d b.fields)

  pub line_joined : (l : Line) → run_line (joined_accepted a b).fields l ≡ run_line_both a b l
  unfolding run_line run_line_both joined_accepted
  line_joined l = go l.refusal
    where
      unless : Ran (List Value) → Option Refusal → Ran (List Value)
      unless r o = elim o [ some e ↦ ended (refused e) l.state | none ↦ r ]

      go : (o : Option Refusal) → unless (run_all 0 l.items (joined_accepted a b).fields l.state) o ≡ unless (run_both a b l.items l.state) o
      go none = both_moved l.items l.state
      go (some e) = refl

  module _ (accepts : check_form (encode_form (join_forms a b)) ≡ accepted (joined_accepted a b)) (letters : letters_of (join_forms a b) ≡ letters_of_both a.form b.form) where
    -- the form check passed, the other tests are those of both
    tests_joined :
        (s : List ℕ) (ni na nl : ℕ)
        → (input_in (encode_form (join_forms a b)) s ni >>= λ x. room_in 8240 na >>= λ _. list_room_in nl >>= λ _. ok x)
        ≡ ((sheet_in s >>= λ _. room_in 1792 ni >>= λ _. room_in 8240 na >>= λ _. list_room_in nl) >>= λ _. ok (joined_accepted a b))
    unfolding input_in ◌>>=◌
    tests_joined s ni na nl = rw (form_passed (encode_form (join_forms a b)) (joined_accepted a b) _ accepts) (simp bind_assoc)

    split_joined : (s : List ℕ) → split (joined_accepted a b).form s ≡ split_both a.form b.form s
    unfolding split split_both joined_accepted
    split_joined s = rw letters

    pub run_joined : (s : List ℕ) (ni na nl : ℕ) → run (encode_form (join_forms a b)) s ni na nl ≡ run_two a b s ni na nl
    unfolding run run_two ◌>>=◌
    run_joined s ni na nl =
        ap one (tests_joined s ni na nl) ∙ go (sheet_in s >>= λ _. room_in 1792 ni >>= λ _. room_in 8240 na >>= λ _. list_room_in nl)
      where
        one : Outcome Accepted → Outcome Report
        one o = elim o [
          | ok x ↦ split x.form s >>= λ l. report ni na nl l (run_line x.fields l)
          | refused e ↦ ok (refused_input ni na nl e.number e.place)
          | fault x ↦ fault x
        ]

        two : Outcome ℕ → Outcome Report
        two o = elim o [
          | ok _ ↦ split_both a.form b.form s >>= λ l. report ni na nl l (run_line_both a b l)
          | refused e ↦ ok (refused_input ni na nl e.number e.place)
          | fault x ↦ fault x
        ]

        go : (o : Outcome ℕ) → one (o >>= λ _. ok (joined_accepted a b)) ≡ two o
        go (ok n) = simp (split_joined, line_joined)
        go (refused e) = refl
        go (fault x) = refl
