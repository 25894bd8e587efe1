-- One sheet of a batch: the single run, with what is known of the form.
use mathlib.Core.List.{List, [], ◌∷◌}
use mathlib.Core.Option.{Option, some, some-injective}
use mathlib.Core.Path.{◌≡◌, refl, sym, ap, ◌∙◌}
use Prim.Native.Nat.{ℕ}
use lib.ListN.{length}
use Rattle.rules.specs.Outcome.{ok}
use Rattle.rules.specs.Codes.{check_code, place_of}
use Rattle.rules.specs.Form.{read_form}
use Rattle.rules.specs.Sheet.{arguments}
use Rattle.rules.specs.Accept.{Checked, Accepted, check_form, letters_of}
use Rattle.rules.specs.Run.{Report, refused_input, run}
use Rattle.rules.specs.Batch.{sheet_record}
use Rattle.rules.specs.declared.Refusal.{Refusal}
use Rattle.rules.specs.declared.RefusedAt.{RefusedAt}
use Rattle.rules.specs.Reported.{number_of, told}
use Rattle.rules.proofs.ReportedLaws.{numbered, check_place}
use Rattle.std.specs.Prelude.{None}
use Rattle.rules.proofs.BatchSteps.{run_answered}
use Rattle.split_arg.specs.Clusters.{letters}
use Rattle.split_args.specs.declared.Ended.{Ended as Split}
use Rattle.split_args.specs.Construct.{SplitEnds}
use Rattle.split_args.proofs.Plain.{alike_ends}
use Rattle.run_fields.specs.declared.Reached.{Reached}
use Rattle.run.specs.Runner.{Ended, run_answer, ended, answer_of, CheckedInput, LineFits, LineTested}
use Rattle.run.proofs.Runs.{form_refused, line_tested, input_refused}
use Rattle.batch_line.specs.Known.{FormKnown}
use Rattle.batch_line.specs.Reported.{SheetReported}

-- ---- a form that is known
module _ (form codes flags others : List ℕ) (f : FormKnown form codes flags others) where
  pub known_ends : (sheet : List ℕ) (n : ℕ) (out : List ℕ) (x : Split) → SplitEnds (letters flags others) sheet n out x
      → SplitEnds (letters_of (read_form form)) sheet n out x
  known_ends sheet n out x = alike_ends (letters flags others) (letters_of (read_form form)) sheet n out x (f.alike (arguments sheet))

  module _ (sheet i a l : List ℕ) where
    pub known_input : LineFits sheet (length i) (length a) (length l) → CheckedInput form sheet i a l
    known_input h = record {
      ready = record { result = f.result; accepts = f.accepts; checked = h.checked; room = h.items };
      space = h.answers;
      entries = h.list;
    }

  accepted_code : (check_code (check_form form)).number ≡ 0
  accepted_code = ap (λ (x : Checked Accepted). (check_code x).number) f.accepts

  -- a sheet or a slice at fault
  pub line_refused : (sheet : List ℕ) (ni na nl : ℕ) (e : Refusal) → LineTested sheet ni na nl (number_of e) → (f : RefusedAt)
      → f ≡ record { refusal = e; place = None } → (x : Option Ended)
      → run_answer (ok (refused_input ni na nl (told f).number (place_of (told f).place))) ≡ x → run_answer (run form sheet ni na nl) ≡ x
  line_refused sheet ni na nl e t f w x h =
      input_refused form sheet ni na nl (told f)
      (line_tested form sheet ni na nl (check_code (check_form form)) refl accepted_code (number_of e) t (told f) (ap told w))
      (numbered f.refusal) x h

-- ---- what is reported
answered_report : (form sheet : List ℕ) (ni na nl : ℕ) (e : Ended) → run_answer (run form sheet ni na nl) ≡ some e
    → (r : Report) × (run form sheet ni na nl ≡ ok r) × (run_answer (ok r) ≡ some e)
answered_report form sheet ni na nl e h =
    let (r, runs) = run_answered form sheet ni na nl in
    (r, runs, ap run_answer (sym runs) ∙ h)

module _ (form sheet i a l : List ℕ) (ni na nl : ℕ) (p : length i ≡ ni) (q : length a ≡ na) (s : length l ≡ nl) (r : Reached) (m : List ℕ) where
  pub reported : run_answer (run form sheet ni na nl) ≡ ended (answer_of r m) i a l → SheetReported form sheet i a l r
  unfolding run_answer sheet_record
  reported h =
      let (x, runs, same) = answered_report form sheet ni na nl _ h in
      let e = some-injective _ _ same in
      record {
        report = x;
        runs = rw (p, q, s) runs;
        words = λ j. (sym e j).answer.number ∷ (sym e j).answer.place ∷ (sym e j).answer.tries ∷ (sym e j).answer.words ∷ [];
        items = ap (λ (y : Ended). y.items) (sym e);
        answers = ap (λ (y : Ended). y.answers) (sym e);
        list = ap (λ (y : Ended). y.list) (sym e);
      }

-- a form at fault
pub form_reported :
    (form sheet : List ℕ) (e : RefusedAt)
    → told e ≡ check_code (check_form form)
    → (i a l : List ℕ) (ni na nl : ℕ)
    → length i ≡ ni
    → length a ≡ na
    → length l ≡ nl
    → (r : Reached) (m : List ℕ)
    → run_answer (ok (refused_input ni na nl (told e).number (place_of (told e).place))) ≡ ended (answer_of r m) i a l
    → SheetReported form sheet i a l r
form_reported form sheet e c i a l ni na nl u v w r m h =
    let z = numbered e.refusal in
    reported form sheet i a l ni na nl u v w r m
    (input_refused form sheet ni na nl (told e) (form_refused form sheet ni na nl (told e) c z (check_place form e c)) z _ h)
