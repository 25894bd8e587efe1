-- The call about values from nothing: what it answers, and what holds of the nodes that it names and of the others.
use mathlib.Core.Bool.{Bool, true, false}
use mathlib.Core.List.{List, [], ◌∷◌, flatten}
use mathlib.Core.Option.{some, none, some-injective, none-ne-some}
use mathlib.Core.Path.{◌≡◌, refl, sym, ap, ◌∙◌, subst}
use Prim.Native.Nat.{ℕ, zero, suc, ◌+◌, ◌<◌}
use native.Mathlib.Nat.{zero-add}
use native.Mathlib.Omega.{arith}
use lib.ListN.{get_elem?}
use borrow.Author.Tests.{eq-eqb, ne_eqb}
use Rattle.std.specs.Prelude.{if◌then◌else◌}
use Rattle.rules.specs.Base.{contains}
use Rattle.rules.specs.Outcome.{Outcome, ok, ◌>>=◌}
use Rattle.rules.specs.Value.{Value}
use Rattle.rules.specs.Sheet.{arguments}
use Rattle.rules.specs.Form.{Form}
use Rattle.rules.specs.Tree.{Tree, has_repeat}
use Rattle.rules.specs.Accept.{Checked, accepted, refused_at, Accepted, check_form}
use Rattle.rules.specs.Split.{split_from, items_of, records_from}
use Rattle.rules.specs.State.{field_mark, construct, empty_state}
use Rattle.rules.specs.Given.{form_in}
use Rattle.rules.specs.Run.{line_of, ambiguity, split}
use Rattle.rules.specs.Sound.{Sound}
use Rattle.rules.specs.CallsAnswered.{Answers, answers, refuses}
use Rattle.rules.proofs.Acceptance.{All-at, accepted_trees_sound}
use Rattle.rules.proofs.EvalSound.{Flat}
use Rattle.rules.specs.Eval.{eval}
use Rattle.rules.proofs.Fields.{field_parsed}
use Rattle.rules.proofs.WellMadeLaws.{check_fault}
use Rattle.rules.proofs.CallsAnswer.{form_number}
use Rattle.rules_careful.specs.Idle.{is_idle_repeat, idle_from, idle_repeats, call_idle}
use Rattle.rules_careful.specs.IdleAnswered.{StartsEmpty, IdleNamed, IdleAnswered}
use Rattle.rules_careful.proofs.IdleNothing.{state_stays}
use Rattle.rules_careful.proofs.IdleOnce.{child_value, child_missing, one_from_nothing, none_from_nothing}
use Rattle.rules_careful.proofs.IdleUses.{Falls, idle_falls}
use Rattle.rules_careful.proofs.IdleCounts.{at_most_used}

-- ---- the numbers of the nodes
-- those behind a node have higher ones
none_below : (k : ℕ) (ts : List Tree) (n : ℕ) → n < k → contains (idle_from k ts) n ≡ false
unfolding idle_from contains
none_below k [] n h = refl
none_below k (t ∷ ts) n h = go (is_idle_repeat t) (none_below (suc k) ts n (omega arith))
  where
    go : (b : Bool) → contains (idle_from (suc k) ts) n ≡ false → contains (if b then k ∷ idle_from (suc k) ts else idle_from (suc k) ts) n ≡ false
    go true e = rw (ne_eqb k n (λ q. omega arith), e) refl
    go false e = e

found_at : (k : ℕ) (ts : List Tree) (m : ℕ) (t : Tree) → get_elem? ts m ≡ some t → contains (idle_from k ts) (k + m) ≡ is_idle_repeat t
unfolding idle_from contains
found_at k [] m t e = absurd (none-ne-some t e)
found_at k (u ∷ ts) zero t e =
    go (is_idle_repeat u) (none_below (suc k) ts (k + 0) (omega arith)) ∙ ap is_idle_repeat (some-injective u t e)
  where
    go : (b : Bool) → contains (idle_from (suc k) ts) (k + 0) ≡ false → contains (if b then k ∷ idle_from (suc k) ts else idle_from (suc k) ts) (k + 0) ≡ b
    go true h = rw (eq-eqb k (k + 0) (omega arith)) refl
    go false h = h
found_at k (u ∷ ts) (suc m) t e =
    let next : suc k + m ≡ k + suc m = omega arith in
    go (is_idle_repeat u) (subst (λ (n : ℕ). contains (idle_from (suc k) ts) n ≡ is_idle_repeat t) next (found_at (suc k) ts m t e))
  where
    go :
        (b : Bool)
        → contains (idle_from (suc k) ts) (k + suc m) ≡ is_idle_repeat t
        → contains (if b then k ∷ idle_from (suc k) ts else idle_from (suc k) ts) (k + suc m) ≡ is_idle_repeat t
    go true h = rw (ne_eqb k (k + suc m) (λ q. omega arith)) h
    go false h = h

-- ---- a sheet with no arguments
starts_empty : (f : Form) (sheet : List ℕ) → arguments sheet ≡ [] → StartsEmpty f sheet
unfolding split split_from line_of items_of flatten records_from construct ambiguity empty_state ◌>>=◌
starts_empty f sheet e = record {
  line = record { refusal = none; items = []; records = []; state = empty_state };
  splits = rw e refl;
  accepted = refl;
  items = refl;
  state = refl;
}

-- ---- an accepted form
falls_at : (s u : _) (o : Outcome Value) → Falls s u o → (v : Value) → o ≡ ok v → u.remaining < s.remaining
falls_at s u o h v e = subst (Falls s u) e h

module _ (form : List ℕ) (a : Accepted) (g : check_form form ≡ accepted a) where
  sound_at : (n : ℕ) (t : Tree) → get_elem? a.trees n ≡ some t → Sound t
  sound_at n t e = All-at Sound a.trees n t (accepted_trees_sound form a g) e

  flat_at : (n : ℕ) (t : Tree) → get_elem? a.trees n ≡ some t → has_repeat t ≡ false → Flat t
  flat_at n t e f = record { sound = sound_at n t e; flat = f }

  idle_named : IdleNamed a
  unfolding idle_repeats
  idle_named = record {
    starts = starts_empty a.form;
    names = λ n t e. ap (contains (idle_from 0 a.trees)) (sym (zero-add n)) ∙ found_at 0 a.trees n t e;
    still = λ j n t e. state_stays j t (sound_at n t e);
    idle = λ j n t e f i. child_value j t (flat_at n t e f) i;
    missing = λ j n t e f i. child_missing j t (flat_at n t e f) i;
    one = λ j n t e i. one_from_nothing j t (sound_at n t e) i;
    none = λ j n t e i. none_from_nothing j t (sound_at n t e) i;
    uses = λ j n t e f i is s h. falls_at s (eval (field_mark j) is t s).state _ (idle_falls (field_mark j) (field_parsed j) is t (sound_at n t e) f i s h);
    bounded = λ j n t e i is s h. at_most_used (field_mark j) (field_parsed j) is s h t (sound_at n t e) i;
  }

pub idle_answered : (form : List ℕ) → IdleAnswered form
unfolding call_idle form_in ◌>>=◌
idle_answered form = record { answers = go (check_form form) refl; named = idle_named form }
  where
    go : (c : Checked Accepted) → check_form form ≡ c → Answers (1 ∷ 2 ∷ 3 ∷ 4 ∷ []) (call_idle form)
    go (accepted a) e = rw (e, form_in) (answers _)
    go (refused_at n k) e = rw (e, form_in) (refuses _ (form_number form n k (check_fault form n k e)))
