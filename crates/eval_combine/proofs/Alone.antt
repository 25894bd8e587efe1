-- A choice of which one side is missing: that side's refusal is not for wrong input, so the other wins wherever it has a value.
use mathlib.Core.Option.{none}
use mathlib.Core.Bool.{Bool, true, false, ◌&&◌}
use mathlib.Core.List.{List}
use mathlib.Core.Path.{◌≡◌, refl, sym, ap, subst, ◌∙◌}
use Prim.Native.Nat.{ℕ, ◌+◌}
use native.Mathlib.Omega.{arith}
use lib.Dec.{eqb}
use borrow.Author.Tests.{eqb-true, eqb-false}
use Rattle.std.specs.Prelude.{if◌then◌else◌}
use Rattle.rules.specs.Base.{contains}
use Rattle.rules.specs.Outcome.{refuse, wrong_input, combine_with}
use Rattle.rules.specs.declared.Refused.{Refused}
use Rattle.state_marks.specs.declared.Numbers.{Numbers}
use Rattle.eval_error.specs.Refusals.{refused_of, refusal_of}
use Rattle.eval_structs.specs.declared.Pick.{Pick}
use Rattle.eval_structs.specs.declared.Pick.TheVariants.{First, Second, Neither}
use Rattle.eval_structs.specs.Laws.{picks_first_lem, picks_second, picks_neither}
use Rattle.eval_told.specs.declared.Ran.{Ran}
use Rattle.eval_told.specs.Results.{refusal_ran}
use Rattle.eval_combine.specs.Made.{missing_of, MarksUnchanged, Sides, ChoiceOf, ended_of, won_of}
use Rattle.eval_combine.specs.declared.Chosen.{Chosen}
use Rattle.eval_combine.specs.Unchanged.{combined, side_made, first_made, second_made}
use Rattle.eval_combine.proofs.Choices.{choice_first, choice_second, choice_neither}

-- how the missing side ended
abbrev missing : Refused
missing = record { number = 20; place = 0 }

not_wrong : (g l : ℕ) (k : Pick) → k ≡ (if eqb g l && wrong_input (refuse 20 none) then Neither missing else k)
unfolding wrong_input contains
not_wrong g l k = go (eqb g l)
  where
    go : (b : Bool) → k ≡ (if b && wrong_input (refuse 20 none) then Neither missing else k)
    go true = refl
    go false = refl

module _ (p : Numbers) (ran : Ran) (r : Ran) where
  abbrev First·made : Bool → Type 0
  First·made b =
      (before m : List ℕ)
      → Sides before p m ran before (missing_of p)
      → MarksUnchanged before m ran
      → ChoiceOf before p m ran before (missing_of p) m (record { ran = r; first = b })

  abbrev Second·made : Type 0
  Second·made =
      (before m : List ℕ)
      → Sides before p before (missing_of p) m ran
      → MarksUnchanged before m ran
      → ChoiceOf before p before (missing_of p) m ran m (record { ran = r; first = false })

  pub first_alone_won : ran.number ≡ 0 → r ≡ won_of (ran.tries + 1) ran → First·made true
  first_alone_won z w before m sides _ =
      choice_first before p m ran before (missing_of p) sides First (ended_of ran) missing refl refl
      (λ e f s a b. picks_first_lem e f s a b (ended_of ran) missing _ _ _ First z (λ n. omega arith) (not_wrong p.remaining ran.numbers.remaining First)) r refl w

  pub second_alone_won : ran.number ≡ 0 → r ≡ won_of (ran.tries + 1) ran → Second·made
  second_alone_won z w before m sides _ =
      choice_second before p before (missing_of p) m ran sides Second missing (ended_of ran) refl refl
      (λ e f s a b. picks_second e f s a b missing (ended_of ran) _ _ _ Second (λ n. omega arith) z (not_wrong p.remaining ran.numbers.remaining Second)) r refl
      (w ∙ ap (λ (t : ℕ). won_of t ran) (omega arith))

  module _ (z : ran.number ≡ 0 → ⊥) (u : Refused) (eu : u ≡ ended_of ran) (c : Refused)
      (w : r ≡ refusal_ran c.number c.place (ran.tries + 1) p) where
    numbered : u.number ≡ 0 → ⊥
    numbered n = z (sym (ap (λ (x : Refused). x.number) eu) ∙ n)

    pub first_alone_refused : c ≡ refused_of (combine_with (refusal_of u) (refusal_of missing)) → First·made false
    first_alone_refused h before m sides same =
        subst (λ (l : List ℕ). ChoiceOf before p m ran before (missing_of p) l (record { ran = r; first = false })) (sym (same z))
        (choice_neither before p m ran before (missing_of p) sides (Neither c) u missing eu refl
        (λ e f s a b. picks_neither e f s a b u missing _ _ _ c numbered (λ n. omega arith) h) r c refl w)

    pub second_alone_refused : c ≡ refused_of (combine_with (refusal_of missing) (refusal_of u)) → Second·made
    second_alone_refused h before m sides same =
        subst (λ (l : List ℕ). ChoiceOf before p before (missing_of p) m ran l (record { ran = r; first = false })) (sym (same z))
        (choice_neither before p before (missing_of p) m ran sides (Neither c) missing u refl eu
        (λ e f s a b. picks_neither e f s a b missing u _ _ _ c (λ n. omega arith) numbered h) r c refl
        (w ∙ ap (λ (t : ℕ). refusal_ran c.number c.place t p) (omega arith)))

-- ---- as a whole
module _ (p : Numbers) (ran : Ran) (before m : List ℕ) where
  pub first_whole :
      (r : Chosen)
      → r ≡ first_made p ran
      → Sides before p m ran before (missing_of p)
      → MarksUnchanged before m ran
      → ChoiceOf before p m ran before (missing_of p) m r
  unfolding first_made side_made combined
  first_whole r e sides same = go (eqb ran.number 0) refl
    where
      go : (b : Bool) → eqb ran.number 0 ≡ b → ChoiceOf before p m ran before (missing_of p) m r
      go true t = rw (e, t) (first_alone_won p ran _ (eqb-true ran.number 0 t) refl before m sides same)
      go false t =
          rw (e, t) (first_alone_refused p ran _ (eqb-false ran.number 0 t) (ended_of ran) refl _ refl refl before m sides same)

  pub second_whole :
      (r : Chosen)
      → r ≡ second_made p ran
      → Sides before p before (missing_of p) m ran
      → MarksUnchanged before m ran
      → ChoiceOf before p before (missing_of p) m ran m r
  unfolding second_made side_made combined
  second_whole r e sides same = go (eqb ran.number 0) refl
    where
      go : (b : Bool) → eqb ran.number 0 ≡ b → ChoiceOf before p before (missing_of p) m ran m r
      go true t = rw (e, t) (second_alone_won p ran _ (eqb-true ran.number 0 t) refl before m sides same)
      go false t =
          rw (e, t) (second_alone_refused p ran _ (eqb-false ran.number 0 t) (ended_of ran) refl _ refl refl before m sides same)
