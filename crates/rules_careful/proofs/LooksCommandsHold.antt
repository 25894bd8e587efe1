-- The careful run of a table: what it accepts is read as it looks, but for the command word, and why it refuses a word.
use mathlib.Core.Bool.{Bool, true, false, false≢true}
use mathlib.Core.List.{List}
use mathlib.Core.Logic.{◌⊎◌, inl, inr, ⊎_elim}
use mathlib.Core.Option.{Option, some, none}
use mathlib.Core.Path.{◌≡◌, refl, sym, ap, subst, ◌∙◌}
use Prim.Native.Nat.{ℕ}
use native.Mathlib.Omega.{arith}
use borrow.Author.Tests.{eq-eqb, eqb-true, eqb-false}
use lib.Dec.{eqb}
use lib.ListN.{get_elem?}
use Rattle.rules.specs.Base.{contains}
use Rattle.rules.specs.Outcome.{ok, ◌>>=◌}
use Rattle.rules.specs.Sheet.{arguments}
use Rattle.rules.specs.Accept.{Accepted, Letters}
use Rattle.rules.specs.Split.{Split, split_from, items_of}
use Rattle.rules.specs.Commands.{table_forms, table_letters, CommandReport, run_commands}
use Rattle.rules_careful.specs.Careful.{first_misread, misread_letter, refused_word, look_at}
use Rattle.rules_careful.specs.CarefulCommands.{looked_at, careful_commands}
use Rattle.rules_careful.specs.Looks.{LooksLike, ReadAsOptions}
use Rattle.rules_careful.specs.LooksCommands.{CommandWord, LooksCommands}
use Rattle.rules.proofs.SplitLaws.{ok_injective}
use Rattle.rules.proofs.CommandLaws.{commands_answered}
use Rattle.rules_careful.proofs.LooksLines.{WordBefore, read_as, misread_report}
use Rattle.rules_careful.proofs.LooksCommandLaws.{AcceptedTable, accepted_table}

module _ (t s : List ℕ) (ni na nl : ℕ) where
  abbrev ran : CommandReport
  ran = (commands_answered t s ni na nl).answer

  abbrev runs : run_commands t s ni na nl ≡ ok ran
  runs = (commands_answered t s ni na nl).answered

  -- a run's number is none of ours
  not_ours : ran.report.number ≡ 50 → ⊥
  unfolding contains
  not_ours z = absurd (false≢true (rw z at (commands_answered t s ni na nl).number))

  -- refused
  refused_looks : eqb ran.report.number 0 ≡ false → LooksCommands t s ni na nl
  unfolding careful_commands ◌>>=◌
  refused_looks h = record {
    report = ran;
    ran = runs;
    answer = record { report = ran; letter = 0 };
    answered = rw (runs, h);
    number = inr (refl, refl);
    accepted = λ z. absurd (eqb-false ran.report.number 0 h z);
    misread = λ z. absurd (not_ours z);
  }

  module _ (fine : ran.report.number ≡ 0) where
    over : AcceptedTable t s ni ran
    over = accepted_table t s ni na nl ran runs fine

    abbrev l : Letters
    l = table_letters over.forms

    abbrev given : Split
    given = over.line.given

    formed : table_forms t ≡ ok over.forms
    unfolding ◌>>=◌
    formed = rw over.tabled over.formed

    looked : careful_commands t s ni na nl ≡ ok (looked_at ran (look_at l 1 (arguments s) given.groups na nl ran.report))
    unfolding careful_commands ◌>>=◌
    looked = rw (runs, eq-eqb ran.report.number 0 fine, over.tabled, over.formed, over.line.grouped)

    -- of the places below 1 there is the command word's alone
    command_word : (k : ℕ) (os : List ℕ) → WordBefore given 1 k os → (k ≡ 0) × CommandWord t s ran os
    command_word k os w =
        let front : w.place ≡ 0 = omega (arith, w.before) in
        let item = sym (ap (get_elem? (items_of given)) front) ∙ w.item in
        (w.first front, subst (CommandWord t s ran) (over.text os item) over.command)

    accepted_looks : first_misread 1 (arguments s) given.groups ≡ none → LooksCommands t s ni na nl
    unfolding look_at looked_at
    accepted_looks h = record {
      report = ran;
      ran = runs;
      answer = record { report = ran; letter = 0 };
      answered = looked ∙ rw (h, look_at);
      number = inr (refl, refl);
      accepted = λ _ forms f x e k os look. read forms f x e k os look;
      misread = λ z. absurd (omega (arith, fine, z));
    }
      where
        read :
            (forms : List Accepted)
            → table_forms t ≡ ok forms
            → (x : Split)
            → split_from (table_letters forms) 0 (arguments s) ≡ ok x
            → (k : ℕ) (os : List ℕ)
            → LooksLike (arguments s) k os
            → ReadAsOptions x k ⊎ ((k ≡ 0) × CommandWord t s ran os)
        read forms f x e k os look =
            let same : over.forms ≡ forms = ok_injective (sym formed ∙ f) in
            let splits = sym over.line.grouped ∙ ap (λ (fs : List Accepted). split_from (table_letters fs) 0 (arguments s)) same ∙ e in
            ⊎_elim
            (λ (y : ReadAsOptions given k). inl (subst (λ (x : Split). ReadAsOptions x k) (ok_injective splits) y))
            (λ (y : WordBefore given 1 k os). inr (command_word k os y))
            (read_as l (arguments s) given over.line.grouped over.line.clear 1 h k os look)

    misread_looks : (i : ℕ) → first_misread 1 (arguments s) given.groups ≡ some i → LooksCommands t s ni na nl
    unfolding look_at looked_at refused_word
    misread_looks i h = record {
      report = ran;
      ran = runs;
      answer = looked_at ran (record { report = refused_word na nl ran.report i; letter = misread_letter l (arguments s) given.groups i });
      answered = looked ∙ rw (h, look_at);
      number = inl refl;
      accepted = λ z. absurd (omega (arith, z));
      misread = λ _. record {
        forms = over.forms;
        formed = formed;
        word = over.word;
        command = over.command;
        misread = misread_report l s given over.line.grouped over.line.clear 1 na nl ran.report fine i h;
        comparisons = refl;
        entry = refl;
      };
    }

    looked_looks : LooksCommands t s ni na nl
    looked_looks = go (first_misread 1 (arguments s) given.groups) refl
      where
        go : (o : Option ℕ) → first_misread 1 (arguments s) given.groups ≡ o → LooksCommands t s ni na nl
        go none h = accepted_looks h
        go (some i) h = misread_looks i h

-- table, sheet and lengths are any
pub looks_commands : (t s : List ℕ) (ni na nl : ℕ) → LooksCommands t s ni na nl
looks_commands t s ni na nl = go (eqb (ran t s ni na nl).report.number 0) refl
  where
    go : (b : Bool) → eqb (ran t s ni na nl).report.number 0 ≡ b → LooksCommands t s ni na nl
    go true h = looked_looks t s ni na nl (eqb-true _ 0 h)
    go false h = refused_looks t s ni na nl h
