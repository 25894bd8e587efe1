-- The careful run: what it accepts is read as it looks, and why it refuses a word.
use mathlib.Core.Bool.{Bool, true, false}
use mathlib.Core.List.{List}
use mathlib.Core.Logic.{inl, inr, ⊎_elim}
use mathlib.Core.Option.{Option, some, none}
use mathlib.Core.Path.{◌≡◌, refl, sym, subst, ◌∙◌}
use Prim.Native.Nat.{ℕ, ◌≤◌}
use native.Mathlib.Omega.{arith}
use borrow.Author.Tests.{eq-eqb, eqb-true, eqb-false}
use lib.Dec.{eqb}
use Rattle.rules.specs.Outcome.{ok, ◌>>=◌}
use Rattle.rules.specs.Sheet.{arguments}
use Rattle.rules.specs.Form.{read_form}
use Rattle.rules.specs.Accept.{Letters, letters_of}
use Rattle.rules.specs.Split.{Split, split_from}
use Rattle.rules.specs.Run.{Report, run}
use Rattle.rules.specs.Answered.{Ready, RunNumber}
use Rattle.rules_careful.specs.Careful.{first_misread, misread_letter, refused_word, look_at, careful}
use Rattle.rules_careful.specs.Looks.{ReadAsOptions, Looks}
use Rattle.rules.proofs.SplitLaws.{ok_injective}
use Rattle.rules.proofs.Demand1Holds.{demand1}
use Rattle.rules.proofs.MissingReported.{fault_range}
use Rattle.rules_careful.proofs.LooksLaws.{accepted_line}
use Rattle.rules_careful.proofs.LooksLines.{WordBefore, read_as, misread_report}

-- ---- the careful run
module _ (b s : List ℕ) (ni na nl : ℕ) where
  abbrev ran : Report
  ran = (demand1 b s ni na nl).report

  abbrev runs : run b s ni na nl ≡ ok ran
  runs = (demand1 b s ni na nl).answered

  -- a run has no number above 27
  run_small : ran.number ≤ 27
  run_small =
      ⊎_elim
      (λ (y : Ready b s ni na nl × RunNumber ran.number). ⊎_elim (λ (z : ran.number ≡ 0). omega (arith, z)) (λ z. z.1) y.1)
      (λ y. omega (arith, (fault_range b s ni na nl ran.number ran.place y.1).1))
      (demand1 b s ni na nl).number

  -- refused
  refused_looks : eqb ran.number 0 ≡ false → Looks b s ni na nl
  unfolding careful ◌>>=◌
  refused_looks h = record {
    report = ran;
    ran = runs;
    answer = record { report = ran; letter = 0 };
    answered = rw (runs, h);
    number = inr (refl, refl);
    accepted = λ z. absurd (eqb-false ran.number 0 h z);
    misread = λ z. absurd (omega (arith, run_small, z));
  }

  module _ (fine : ran.number ≡ 0) where
    abbrev given : Split
    given = (accepted_line b s ni na nl ran runs fine).line.given

    abbrev l : Letters
    l = letters_of (read_form b)

    splits : split_from l 0 (arguments s) ≡ ok given
    splits = (accepted_line b s ni na nl ran runs fine).line.grouped

    clear : given.ambiguous ≡ none
    clear = (accepted_line b s ni na nl ran runs fine).line.clear

    looked : careful b s ni na nl ≡ ok (look_at l 0 (arguments s) given.groups na nl ran)
    unfolding careful ◌>>=◌
    looked = rw (runs, eq-eqb ran.number 0 fine, splits)

    accepted_looks : first_misread 0 (arguments s) given.groups ≡ none → Looks b s ni na nl
    unfolding look_at
    accepted_looks h = record {
      report = ran;
      ran = runs;
      answer = record { report = ran; letter = 0 };
      answered = looked ∙ rw (h, look_at);
      number = inr (refl, refl);
      accepted = λ _ x e k os look.
          subst (λ (x : Split). ReadAsOptions x k) (ok_injective (sym splits ∙ e))
          (⊎_elim (λ (y : ReadAsOptions given k). y) (λ (y : WordBefore given 0 k os). absurd (omega (arith, y.before)))
          (read_as l (arguments s) given splits clear 0 h k os look));
      misread = λ z. absurd (omega (arith, fine, z));
    }

    misread_looks : (i : ℕ) → first_misread 0 (arguments s) given.groups ≡ some i → Looks b s ni na nl
    unfolding look_at refused_word
    misread_looks i h = record {
      report = ran;
      ran = runs;
      answer = record { report = refused_word na nl ran i; letter = misread_letter l (arguments s) given.groups i };
      answered = looked ∙ rw (h, look_at);
      number = inl refl;
      accepted = λ z. absurd (omega (arith, z));
      misread = λ _. misread_report l s given splits clear 0 na nl ran fine i h;
    }

    looked_looks : Looks b s ni na nl
    looked_looks = go (first_misread 0 (arguments s) given.groups) refl
      where
        go : (o : Option ℕ) → first_misread 0 (arguments s) given.groups ≡ o → Looks b s ni na nl
        go none h = accepted_looks h
        go (some i) h = misread_looks i h

pub looks : (b s : List ℕ) (ni na nl : ℕ) → Looks b s ni na nl
looks b s ni na nl = go (eqb (ran b s ni na nl).number 0) refl
  where
    go : (t : Bool) → eqb (ran b s ni na nl).number 0 ≡ t → Looks b s ni na nl
    go true h = looked_looks b s ni na nl (eqb-true _ 0 h)
    go false h = refused_looks b s ni na nl h
