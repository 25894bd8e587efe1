-- From what the run hands back to what the careful run answers.
use mathlib.Core.Bool.{false}
use mathlib.Core.List.{List, []}
use mathlib.Core.Option.{Option, some, none}
use mathlib.Core.Path.{◌≡◌, refl, sym, ap, ◌∙◌}
use Prim.Native.Nat.{ℕ, suc, ◌+◌, ◌<◌}
use native.Mathlib.Omega.{arith}
use lib.Dec.{eqb}
use lib.ListN.{length, replicate}
use lib.Seq.{sets}
use borrow.Author.Tests.{eq-eqb, ne_eqb}
use Rattle.std.specs.Prelude.{if◌then◌else◌}
use Rattle.rules.specs.Outcome.{ok, ◌>>=◌}
use Rattle.rules.specs.Sheet.{arguments}
use Rattle.rules.specs.Form.{read_form}
use Rattle.rules.specs.Accept.{letters_of}
use Rattle.rules.specs.Split.{items_of}
use Rattle.rules.specs.Run.{Report, padded, run}
use Rattle.rules.specs.Codes.{place_code}
use Rattle.rules.specs.declared.State.{State as Raw}
use Rattle.rules.specs.Why.{LeftPlace, line_items}
use Rattle.rules_careful.specs.Careful.{first_misread, misread_letter, refused_word, look_at, careful}
use Rattle.rules.proofs.Acceptance.{lookup_some}
use Rattle.rules.proofs.Demand1Holds.{demand1}
use Rattle.rules.proofs.InputFaults.{padded_nil}
use Rattle.rules.proofs.SplitLaws.{ok_injective}
use Rattle.rules_careful.proofs.LooksLaws.{AcceptedLine, accepted_line, accepted_list, misread_letter_lem}
use Rattle.split_args.proofs.States.{all_zero}
use Rattle.form_codes.specs.Codes.{CodedNames}
use Rattle.form_layout.specs.Layout.{GoodNames}
use Rattle.form_layout.proofs.Sizes.{accepted_names}
use Rattle.state_marks.specs.Lent.{raw_of}
use Rattle.run_fields.specs.declared.RunAnswer.{RunAnswer}
use Rattle.run_fields.specs.declared.Reached.{Reached}
use Rattle.run.specs.Runner.{run_answer, ended as reached, answer_of}
use Rattle.run.proofs.Told.{RunTold, run_told}
use Rattle.std.specs.Prelude.{Option as CodeOption}
use Rattle.why_letter.specs.Withdrawn.{LinePlace, CanExplain, UnknownTold}
use Rattle.careful.specs.declared.CarefulAnswer.{CarefulAnswer}
use Rattle.careful.specs.declared.Looked.{Looked}
use Rattle.careful_words.specs.Looking.{LineIs, HasLine, Finds}
use Rattle.careful_words.proofs.Laws.{found_misread}
use Rattle.careful.proofs.Lines.{ran_line_is, ran_line_asked}
use Rattle.careful.specs.Looked.{letter_code, as_run, CanLook, CarefulEnded, careful_answer, LooksAtRun}

-- an answer and its slices, part by part
same_ended :
    {n m k l t u v w c d : ℕ} {x y : Raw} {i j p q e f : List ℕ}
    → n ≡ m → k ≡ l → t ≡ u → v ≡ w → c ≡ d → x ≡ y → i ≡ j → p ≡ q → e ≡ f
    → ◌≡◌ {A = Option CarefulEnded}
    (some (record { answer = record { number = n; place = k; tries = t; words = v; letter = c; state = x }; items = i; answers = p; list = e }))
    (some (record { answer = record { number = m; place = l; tries = u; words = w; letter = d; state = y }; items = j; answers = q; list = f }))
same_ended n k t v c x i p e = λ z. some (record {
  answer = record { number = n z; place = k z; tries = t z; words = v z; letter = c z; state = x z };
  items = i z;
  answers = p z;
  list = e z;
})

module _ (b s : List ℕ) (ni na nl : ℕ) (r : RunAnswer) (is os ls : List ℕ) (ran : run_answer (run b s ni na nl) ≡ some (record { answer = r; items = is; answers = os; list = ls })) where
  x : RunTold (run b s ni na nl) r is os ls
  x = run_told (run b s ni na nl) r is os ls ran

  abbrev report : Report
  report = x.report

  abbrev ended : CarefulAnswer → List ℕ → Option CarefulEnded
  ended q a = some (record { answer = q; items = is; answers = a; list = ls })

  -- as the run ended
  abbrev unlooked : CarefulAnswer
  unlooked = record { number = r.number; place = r.place; tries = r.tries; words = r.words; letter = 0; state = r.state }

  as_ran : careful_answer (ok (record { report = report; letter = 0 })) ≡ ended unlooked os
  unfolding careful_answer
  as_ran = same_ended (sym x.number) (sym x.place) (sym x.tries) (sym x.words) refl (sym x.state) x.items x.answers x.list

  answer_refused : (r.number ≡ 0 → ⊥) → careful_answer (careful b s ni na nl) ≡ ended unlooked os
  unfolding careful ◌>>=◌
  answer_refused n =
      let other : eqb report.number 0 ≡ false = ne_eqb report.number 0 (λ e. n (x.number ∙ e)) in
      let done : careful b s ni na nl ≡ ok (record { report = report; letter = 0 }) = rw (x.same, other) in
      ap careful_answer done ∙ as_ran

  module _ (n : r.number ≡ 0) where
    ended_well : report.number ≡ 0
    ended_well = sym x.number ∙ n

    over : AcceptedLine b s ni report
    over = accepted_line b s ni na nl report x.same ended_well

    module _ (count : ℕ) (c : count ≡ r.state.count) where
      line : LineIs s is count (letters_of (read_form b)) over.line.given
      line = ran_line_is (letters_of (read_form b)) s ni report over.line is x.items r.state x.state count c

      line_asked : HasLine s is count
      line_asked = ran_line_asked (letters_of (read_form b)) s ni report over.line is x.items r.state x.state count c

      looked : (p : ℕ) → Finds s is 0 count p → (f : Option ℕ) → (if eqb p count then none else some p) ≡ f
          → careful b s ni na nl ≡ ok (elim f [
            | none ↦ record { report = report; letter = 0 }
            | some i ↦ record { report = refused_word na nl report i; letter = misread_letter (letters_of (read_form b)) (arguments s) over.line.given.groups i }
          ])
      unfolding careful look_at ◌>>=◌
      looked p h f e =
          let found : first_misread 0 (arguments s) over.line.given.groups ≡ f = h.same (letters_of (read_form b)) over.line.given line ∙ e in
          rw (x.same, eq-eqb report.number 0 ended_well, over.line.grouped, found, look_at)

      answer_clean : (p : ℕ) → Finds s is 0 count p → p ≡ count → careful_answer (careful b s ni na nl) ≡ ended unlooked os
      answer_clean p h e = ap careful_answer (looked p h none (rw (eq-eqb p count e))) ∙ as_ran

      module _ (p : ℕ) (h : Finds s is 0 count p) (e : p ≡ count → ⊥) where
        inside : p < count
        inside = omega (arith, h.within)

        misread_names : GoodNames b
        misread_names = accepted_names b over.result over.accepts

        abbrev spot : LeftPlace
        spot = record { form = read_form b; arguments = arguments s; groups = over.line.given.groups; marks = []; place = p }

        spot_line : LinePlace b s is p spot
        unfolding line_items items_of
        spot_line = record {
          form = refl;
          args = refl;
          given = over.line.given;
          splits = over.line.grouped;
          clear = over.line.clear;
          groups = refl;
          place = refl;
          made = over.line.made;
          table = line.table;
          below = omega (arith, inside, line.long);
        }

        misread_asked : (codes : List ℕ) → CodedNames b codes → CanExplain b codes s is p
        misread_asked codes k = record { result = over.result; accepts = over.accepts; coded = k; spot = spot; line = spot_line }

        found : first_misread 0 (arguments s) over.line.given.groups ≡ some p
        found = h.same (letters_of (read_form b)) over.line.given line ∙ rw (ne_eqb p count e)

        letter_is : (u : CodeOption ℕ) → UnknownTold b s is p u → misread_letter (letters_of (read_form b)) (arguments s) over.line.given.groups p ≡ letter_code u
        unfolding letter_code line_items
        letter_is u t =
            let y = lookup_some (line_items spot) p spot_line.below in
            misread_letter_lem b (arguments s) over.line.given.groups [] p y.0 y.1 (found_misread 0 (arguments s) over.line.given.groups p found)
            ∙ ap place_code (sym (t.same spot y.0 spot_line y.1))

        answer_misread : (u : CodeOption ℕ) → UnknownTold b s is p u → (k : ℕ) → k ≡ letter_code u → (a : List ℕ) → a ≡ sets os 0 (replicate (length os) 0)
            → careful_answer (careful b s ni na nl) ≡ ended (record { number = 50; place = p + 1; tries = r.tries; words = 0; letter = k; state = r.state }) a
        unfolding careful_answer refused_word
        answer_misread u t k d a z =
            let long : length os ≡ na = sym (ap length x.answers) ∙ answers_long in
            let cleared : padded na [] ≡ a = padded_nil na ∙ sym (z ∙ all_zero os (length os) refl ∙ ap (λ (j : ℕ). replicate j 0) long) in
            let listed : padded nl [] ≡ ls = sym (accepted_list b s ni na nl report x.same ended_well) ∙ x.list in
            let lettered = letter_is u t ∙ sym d in
            let after : p + 1 ≡ suc p = omega arith in
            ap careful_answer (looked p h (some p) (rw (ne_eqb p count e)))
            ∙ same_ended refl (sym after) (sym x.tries) refl lettered (sym x.state) x.items cleared listed
          where
            answers_long : length report.answers ≡ na
            answers_long =
                let d = demand1 b s ni na nl in
                let same : d.report ≡ report = ok_injective (sym d.answered ∙ x.same) in
                sym (ap (λ (y : Report). length y.answers) same) ∙ d.answers

-- ---- the same of what was reached, whatever marks and list the run left
module _ (b s is os : List ℕ) (r : Reached) where
  pub looks_refused : (r.number ≡ 0 → ⊥) → (q : Looked) → q ≡ as_run r → LooksAtRun b s is os r os q
  looks_refused n q d = rw d (record { same = λ ni na nl m ls ran. answer_refused b s ni na nl (answer_of r m) is os ls ran n })

  module _ (n : r.number ≡ 0) (count : ℕ) (c : count ≡ r.numbers.count) where
    pub run_line_lem : CanLook b s is os r → HasLine s is count
    run_line_lem x = line_asked b s x.items₀ x.answers₀ x.list₀ (answer_of r x.marks) is os x.list x.ran n count c

    module _ (p : ℕ) (h : Finds s is 0 count p) where
      pub looks_clean : p ≡ count → (q : Looked) → q ≡ as_run r → LooksAtRun b s is os r os q
      looks_clean e q d = rw d (record { same = λ ni na nl m ls ran. answer_clean b s ni na nl (answer_of r m) is os ls ran n count c p h e })

      module _ (e : p ≡ count → ⊥) where
        pub run_names : CanLook b s is os r → GoodNames b
        run_names x = misread_names b s x.items₀ x.answers₀ x.list₀ (answer_of r x.marks) is os x.list x.ran n count c p h e

        pub run_explains : CanLook b s is os r → (codes : List ℕ) → CodedNames b codes → CanExplain b codes s is p
        run_explains x =
            misread_asked b s x.items₀ x.answers₀ x.list₀ (answer_of r x.marks) is os x.list x.ran n count c p h e

        pub looks_misread : (u : CodeOption ℕ) → UnknownTold b s is p u → (f : ℕ) → f ≡ 50 → (k : ℕ) → k ≡ letter_code u
            → (a : List ℕ) → a ≡ sets os 0 (replicate (length os) 0)
            → LooksAtRun b s is os r a (record { number = f; place = p + 1; words = 0; letter = k })
        looks_misread u t f g k d a z = rw g (record {
          same = λ ni na nl m ls ran. answer_misread b s ni na nl (answer_of r m) is os ls ran n count c p h e u t k d a z;
        })

-- ---- and with the state put together
pub run_looked :
    (b s is os after : List ℕ) (r : Reached) (q : Looked)
    → LooksAtRun b s is os r after q
    → (ni na nl : ℕ) (m ls : List ℕ)
    → run_answer (run b s ni na nl) ≡ reached (answer_of r m) is os ls
    → (x : Raw)
    → x ≡ raw_of m r.numbers
    → careful_answer (careful b s ni na nl)
    ≡ some (record {
      answer = record { number = q.number; place = q.place; tries = r.tries; words = q.words; letter = q.letter; state = x };
      items = is;
      answers = after;
      list = ls;
    })
run_looked b s is os after r q t ni na nl m ls ran x e = rw e (t.same ni na nl m ls ran)

pub can_look : (b s is os : List ℕ) (r : Reached) (ni na nl : ℕ) (m ls : List ℕ) → run_answer (run b s ni na nl) ≡ reached (answer_of r m) is os ls → CanLook b s is os r
can_look b s is os r ni na nl m ls ran = record { items₀ = ni; answers₀ = na; list₀ = nl; marks = m; list = ls; ran = ran }
