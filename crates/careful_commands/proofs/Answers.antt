-- From what the run of a table hands back to what the careful run answers.
use mathlib.Core.Bool.{false}
use mathlib.Core.List.{List, []}
use mathlib.Core.Option.{Option, some, none, some-injective}
use mathlib.Core.Path.{◌≡◌, refl, sym, ap, ◌∙◌}
use Prim.Native.Nat.{ℕ, suc, ◌+◌}
use native.Mathlib.Omega.{arith}
use lib.Dec.{eqb}
use lib.ListN.{length, replicate}
use lib.Seq.{sets}
use borrow.Author.Tests.{eq-eqb, ne_eqb}
use Rattle.std.specs.Prelude.{if◌then◌else◌}
use Rattle.rules.specs.Outcome.{Outcome, ok, refused, fault, ◌>>=◌}
use Rattle.rules.specs.Sheet.{arguments}
use Rattle.rules.specs.Accept.{Letters}
use Rattle.rules.specs.Split.{Split}
use Rattle.rules.specs.Run.{padded}
use Rattle.rules.specs.Codes.{place_code}
use Rattle.rules.specs.Calls.{to_raw}
use Rattle.rules.specs.declared.State.{State as Raw}
use Rattle.rules.specs.Commands.{table_letters, CommandReport, run_commands}
use Rattle.rules.proofs.InputFaults.{padded_nil}
use Rattle.rules_careful.specs.Careful.{first_misread, misread_letter, refused_word, look_at}
use Rattle.rules_careful.specs.CarefulCommands.{looked_at, careful_commands}
use Rattle.rules_careful.proofs.LooksCommandLaws.{AcceptedTable, accepted_table, accepted_filled}
use Rattle.state_marks.specs.Lent.{raw_of}
use Rattle.split_args.proofs.States.{all_zero}
use Rattle.run.specs.Runner.{run_answer}
use Rattle.command_run.specs.declared.CommandAnswer.{CommandAnswer}
use Rattle.command_run.specs.declared.Commanded.{Commanded}
use Rattle.command_run.specs.Commanded.{Ended, commands_answer, commanded_as}
use Rattle.std.specs.Prelude.{Option as CodeOption}
use Rattle.careful_words.specs.Looking.{LineIs, HasLine, Finds}
use Rattle.careful_words.proofs.Laws.{found_misread}
use Rattle.careful.specs.declared.Looked.{Looked}
use Rattle.careful.specs.Looked.{letter_code, as_run}
use Rattle.careful.proofs.Lines.{ran_line_is, ran_line_asked}
use Rattle.careful_commands.specs.declared.CarefulCommandAnswer.{CarefulCommandAnswer}
use Rattle.careful_commands.specs.Looked.{MisreadPlace, MisreadTold, CanLookAtTable, CarefulEnded, careful_commands_answer, LooksAtTableRun}

-- ---- what is known of the rules' report from what the run hands back
record Told (o : Outcome CommandReport) (r : CommandAnswer) (is os ls : List ℕ) : Type 0 where
  report : CommandReport
  same : o ≡ ok report
  number : r.number ≡ report.report.number
  place : r.place ≡ place_code report.report.place
  tries : r.tries ≡ report.report.tries
  words : r.words ≡ length report.report.words
  comparisons : r.comparisons ≡ report.comparisons
  entry : r.entry ≡ place_code report.entry
  state : r.state ≡ to_raw report.report.state
  items : report.report.items ≡ is
  answers : report.report.answers ≡ os
  list : report.report.list ≡ ls

commands_told : (o : Outcome CommandReport) (r : CommandAnswer) (is os ls : List ℕ)
    → commands_answer o ≡ some (record { answer = r; items = is; answers = os; list = ls }) → Told o r is os ls
unfolding commands_answer run_answer
commands_told (refused e) r is os ls h = absurd (let z : ◌≡◌ {A = ℕ} 0 1 = cc in omega arith)
commands_told (fault e) r is os ls h = absurd (let z : ◌≡◌ {A = ℕ} 0 1 = cc in omega arith)
commands_told (ok x) r is os ls h =
    let e = some-injective _ _ h in
    record {
      report = x;
      same = refl;
      number = sym (ap (λ (z : Ended). z.answer.number) e);
      place = sym (ap (λ (z : Ended). z.answer.place) e);
      tries = sym (ap (λ (z : Ended). z.answer.tries) e);
      words = sym (ap (λ (z : Ended). z.answer.words) e);
      comparisons = sym (ap (λ (z : Ended). z.answer.comparisons) e);
      entry = sym (ap (λ (z : Ended). z.answer.entry) e);
      state = sym (ap (λ (z : Ended). z.answer.state) e);
      items = ap (λ (z : Ended). z.items) e;
      answers = ap (λ (z : Ended). z.answers) e;
      list = ap (λ (z : Ended). z.list) e;
    }

-- an answer and its slices, part by part
same_ended :
    {n m k l t u v w a b g h c d : ℕ} {x y : Raw} {i j p q e f : List ℕ}
    → n ≡ m → k ≡ l → t ≡ u → v ≡ w → a ≡ b → g ≡ h → c ≡ d → x ≡ y → i ≡ j → p ≡ q → e ≡ f
    → ◌≡◌ {A = Option CarefulEnded}
    (some (record {
      answer = record { number = n; place = k; tries = t; words = v; comparisons = a; entry = g; letter = c; state = x };
      items = i;
      answers = p;
      list = e;
    }))
    (some (record {
      answer = record { number = m; place = l; tries = u; words = w; comparisons = b; entry = h; letter = d; state = y };
      items = j;
      answers = q;
      list = f;
    }))
same_ended n k t v a g c x i p e = λ z. some (record {
  answer = record { number = n z; place = k z; tries = t z; words = v z; comparisons = a z; entry = g z; letter = c z; state = x z };
  items = i z;
  answers = p z;
  list = e z;
})

module _
    (t s : List ℕ) (ni na nl : ℕ) (r : CommandAnswer) (is os ls : List ℕ)
    (ran : commands_answer (run_commands t s ni na nl) ≡ some (record { answer = r; items = is; answers = os; list = ls }))
  where
    x : Told (run_commands t s ni na nl) r is os ls
    x = commands_told (run_commands t s ni na nl) r is os ls ran

    abbrev report : CommandReport
    report = x.report

    abbrev ended : CarefulCommandAnswer → List ℕ → Option CarefulEnded
    ended q a = some (record { answer = q; items = is; answers = a; list = ls })

    -- as the run ended
    abbrev unlooked : CarefulCommandAnswer
    unlooked = record {
      number = r.number;
      place = r.place;
      tries = r.tries;
      words = r.words;
      comparisons = r.comparisons;
      entry = r.entry;
      letter = 0;
      state = r.state;
    }

    as_ran : careful_commands_answer (ok (record { report = report; letter = 0 })) ≡ ended unlooked os
    unfolding careful_commands_answer
    as_ran =
        same_ended (sym x.number) (sym x.place) (sym x.tries) (sym x.words) (sym x.comparisons) (sym x.entry) refl (sym x.state)
        x.items x.answers x.list

    answer_refused : (r.number ≡ 0 → ⊥) → careful_commands_answer (careful_commands t s ni na nl) ≡ ended unlooked os
    unfolding careful_commands ◌>>=◌
    answer_refused n =
        let other : eqb report.report.number 0 ≡ false = ne_eqb report.report.number 0 (λ e. n (x.number ∙ e)) in
        let done : careful_commands t s ni na nl ≡ ok (record { report = report; letter = 0 }) = rw (x.same, other) in
        ap careful_commands_answer done ∙ as_ran

    module _ (n : r.number ≡ 0) where
      ended_well : report.report.number ≡ 0
      ended_well = sym x.number ∙ n

      over : AcceptedTable t s ni report
      over = accepted_table t s ni na nl report x.same ended_well

      abbrev l : Letters
      l = table_letters over.forms

      abbrev given : Split
      given = over.line.given

      module _ (count : ℕ) (c : count ≡ r.state.count) where
        line : LineIs s is count l given
        line = ran_line_is l s ni report.report over.line is x.items r.state x.state count c

        line_asked : HasLine s is count
        line_asked = ran_line_asked l s ni report.report over.line is x.items r.state x.state count c

        looked : (p : ℕ) → Finds s is 1 count p → (f : Option ℕ) → (if eqb p count then none else some p) ≡ f
            → careful_commands t s ni na nl ≡ ok (looked_at report (elim f [
              | none ↦ record { report = report.report; letter = 0 }
              | some i ↦ record { report = refused_word na nl report.report i; letter = misread_letter l (arguments s) given.groups i }
            ]))
        unfolding careful_commands look_at ◌>>=◌
        looked p h f e =
            let found : first_misread 1 (arguments s) given.groups ≡ f = h.same l given line ∙ e in
            rw (x.same, eq-eqb report.report.number 0 ended_well, over.tabled, over.formed, over.line.grouped, found, look_at)

        answer_clean : (p : ℕ) → Finds s is 1 count p → p ≡ count → careful_commands_answer (careful_commands t s ni na nl) ≡ ended unlooked os
        unfolding looked_at
        answer_clean p h e = ap careful_commands_answer (looked p h none (rw (eq-eqb p count e))) ∙ as_ran

        module _ (p : ℕ) (h : Finds s is 1 count p) (e : p ≡ count → ⊥) where
          found : first_misread 1 (arguments s) given.groups ≡ some p
          found = h.same l given line ∙ rw (ne_eqb p count e)

          abbrev place : MisreadPlace t s is p
          place = record {
            forms = record { commands = over.commands; reads = over.tabled; forms = over.forms; accepts = over.formed };
            given = given;
            count = count;
            line = line;
            misread = found_misread 1 (arguments s) given.groups p found;
          }

          answer_misread :
              (u : CodeOption ℕ)
              → MisreadTold t s is p u
              → (k : ℕ)
              → k ≡ letter_code u
              → (a : List ℕ)
              → a ≡ sets os 0 (replicate (length os) 0)
              → careful_commands_answer (careful_commands t s ni na nl)
              ≡ ended
              (record { number = 50; place = p + 1; tries = r.tries; words = 0; comparisons = r.comparisons; entry = r.entry; letter = k; state = r.state })
              a
          unfolding careful_commands_answer looked_at refused_word
          answer_misread u told k d a z =
              let (answers_long, unlisted) = accepted_filled t s ni na nl report x.same ended_well in
              let long : length os ≡ na = sym (ap length x.answers) ∙ answers_long in
              let cleared : padded na [] ≡ a = padded_nil na ∙ sym (z ∙ all_zero os (length os) refl ∙ ap (λ (j : ℕ). replicate j 0) long) in
              let listed : padded nl [] ≡ ls = padded_nil nl ∙ sym unlisted ∙ x.list in
              let lettered = told.same place ∙ sym d in
              let after : p + 1 ≡ suc p = omega arith in
              ap careful_commands_answer (looked p h (some p) (rw (ne_eqb p count e)))
              ∙ same_ended refl (sym after) (sym x.tries) refl (sym x.comparisons) (sym x.entry) lettered (sym x.state) x.items cleared listed

-- ---- the same of what was reached, whatever marks and list the run left
abbrev answer_of : Commanded → List ℕ → CommandAnswer
answer_of r m = record {
  number = r.reached.number;
  place = r.reached.place;
  tries = r.reached.tries;
  words = r.reached.words;
  comparisons = r.comparisons;
  entry = r.entry;
  state = raw_of m r.reached.numbers;
}

module _ (t s is os : List ℕ) (r : Commanded) where
  pub looks_refused : (r.reached.number ≡ 0 → ⊥) → (q : Looked) → q ≡ as_run r.reached → LooksAtTableRun t s is os r os q
  looks_refused n q d = rw d (record { same = λ ni na nl m ls ran. answer_refused t s ni na nl (answer_of r m) is os ls ran n })

  module _ (n : r.reached.number ≡ 0) (count : ℕ) (c : count ≡ r.reached.numbers.count) where
    pub run_line_lem : CanLookAtTable t s is os r → HasLine s is count
    run_line_lem x = line_asked t s x.items₀ x.answers₀ x.list₀ (answer_of r x.marks) is os x.list x.ran n count c

    module _ (p : ℕ) (h : Finds s is 1 count p) where
      pub looks_clean : p ≡ count → (q : Looked) → q ≡ as_run r.reached → LooksAtTableRun t s is os r os q
      looks_clean e q d = rw d (record { same = λ ni na nl m ls ran. answer_clean t s ni na nl (answer_of r m) is os ls ran n count c p h e })

      module _ (e : p ≡ count → ⊥) where
        pub run_place : CanLookAtTable t s is os r → MisreadPlace t s is p
        run_place x = place t s x.items₀ x.answers₀ x.list₀ (answer_of r x.marks) is os x.list x.ran n count c p h e

        pub looks_misread : (u : CodeOption ℕ) → MisreadTold t s is p u → (f : ℕ) → f ≡ 50 → (k : ℕ) → k ≡ letter_code u
            → (a : List ℕ) → a ≡ sets os 0 (replicate (length os) 0)
            → LooksAtTableRun t s is os r a (record { number = f; place = p + 1; words = 0; letter = k })
        looks_misread u told f g k d a z = rw g (record {
          same = λ ni na nl m ls ran. answer_misread t s ni na nl (answer_of r m) is os ls ran n count c p h e u told k d a z;
        })

-- ---- and with the state put together
pub run_looked :
    (t s is os after : List ℕ) (r : Commanded) (q : Looked)
    → LooksAtTableRun t s is os r after q
    → (ni na nl : ℕ) (m ls : List ℕ)
    → commands_answer (run_commands t s ni na nl) ≡ commanded_as r m is os ls
    → (x : Raw)
    → x ≡ raw_of m r.reached.numbers
    → careful_commands_answer (careful_commands t s ni na nl)
    ≡ some (record {
      answer = record {
        number = q.number;
        place = q.place;
        tries = r.reached.tries;
        words = q.words;
        comparisons = r.comparisons;
        entry = r.entry;
        letter = q.letter;
        state = x;
      };
      items = is;
      answers = after;
      list = ls;
    })
run_looked t s is os after r q seen ni na nl m ls ran x e = rw e (seen.same ni na nl m ls ran)

pub can_look :
    (t s is os : List ℕ) (r : Commanded) (ni na nl : ℕ) (m ls : List ℕ)
    → commands_answer (run_commands t s ni na nl) ≡ commanded_as r m is os ls
    → CanLookAtTable t s is os r
can_look t s is os r ni na nl m ls ran = record { items₀ = ni; answers₀ = na; list₀ = nl; marks = m; list = ls; ran = ran }
