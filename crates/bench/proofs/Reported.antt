-- The answer of a run, as the text that the rules lay down.
use mathlib.Core.List.{List, ◌++◌}
use mathlib.Core.Option.{Option, some-injective, none-ne-some}
use mathlib.Core.Path.{◌≡◌, refl, sym, ◌∙◌, ap}
use Prim.Native.Nat.{ℕ, ◌-◌, ◌≤◌}
use native.Mathlib.Omega.{arith}
use lib.ListN.{length, take, drop, replicate, length-append}
use lib.Seq.{take_at, length-take-le}
use Rattle.io.specs.Counts.{IsPrefixLen}
use Rattle.rules.specs.Base.{concat_map}
use Rattle.rules.specs.Outcome.{Outcome, ok, refused, fault, ◌>>=◌}
use Rattle.rules.specs.Value.{Value}
use Rattle.rules.specs.Form.{form_end}
use Rattle.rules.specs.Accept.{Accepted}
use Rattle.rules.specs.Eval.{Ran}
use Rattle.rules.specs.Run.{Line, Report, split, run_line, padded, refused_input, report_with, report, run}
use Rattle.rules.specs.Given.{room_in, list_room_in, input_in}
use Rattle.rules.specs.Bench.{first_line, word_line, bench_text, bench}
use Rattle.rules.specs.Codes.{place_of}
use Rattle.rules.proofs.CodeLaws.{place_code_lem}
use Rattle.run.specs.Runner.{Ended, run_answer, ended}
use Rattle.run_fields.specs.declared.RunAnswer.{RunAnswer}
use Rattle.bench.specs.Text.{Appends, line_text}
use Rattle.bench.proofs.Appending.{appends_more}

-- ---- the answer slice: the words, and behind them zeros
abbrev Padded : ℕ → Outcome Report → Type 0
Padded na (ok x) = x.answers ≡ padded na x.words
Padded na (refused e) = Unit {0}
Padded na (fault x) = Unit {0}

bind_padded : {A : Type 0} (na : ℕ) (o : Outcome A) (f : A → Outcome Report) → ((a : A) → Padded na (f a)) → Padded na (o >>= f)
unfolding ◌>>=◌
bind_padded na (ok a) f h = h a
bind_padded na (refused e) f h = tt
bind_padded na (fault x) f h = tt

module _ (ni na nl : ℕ) where
  refused_padded : (n : ℕ) (k : Option ℕ) → Padded na (ok (refused_input ni na nl n k))
  unfolding refused_input
  refused_padded n k = refl

  report_padded : (l : Line) (r : Ran (List Value)) → Padded na (report ni na nl l r)
  unfolding report report_with
  report_padded l r = go r.outcome refl
    where
      go : (o : Outcome (List Value)) → r.outcome ≡ o → Padded na (report ni na nl l r)
      go (ok vs) e = rw (e, report) refl
      go (refused x) e = rw (e, report) refl
      go (fault x) e = rw (e, report) tt

  run_padded : (b s : List ℕ) → Padded na (run b s ni na nl)
  unfolding run
  run_padded b s = go (input_in b s ni >>= λ a. room_in 8240 na >>= λ _. list_room_in nl >>= λ _. ok a) refl
    where
      go : (o : Outcome Accepted) → (input_in b s ni >>= λ a. room_in 8240 na >>= λ _. list_room_in nl >>= λ _. ok a) ≡ o → Padded na (run b s ni na nl)
      go (ok a) e = rw (e, run) (bind_padded na (split a.form s) _ (λ l. report_padded l (run_line a.fields l)))
      go (refused x) e = rw (e, run) (refused_padded x.number x.place)
      go (fault x) e = rw (e, run) tt

-- ---- a run and what it hands back
pub record Says (r : RunAnswer) (answers : List ℕ) (o : Outcome Report) : Type 0 where
  pub report : Report
  pub same : o ≡ ok report
  pub number : r.number ≡ report.number
  pub place : place_of r.place ≡ report.place
  pub tries : r.tries ≡ report.tries
  pub words : r.words ≡ length report.words
  pub slice : answers ≡ report.answers

says : (r : RunAnswer) (items answers list : List ℕ) (o : Outcome Report) → run_answer o ≡ ended r items answers list → Says r answers o
unfolding run_answer
says r items answers list (ok x) e =
    let same = some-injective _ _ e in
    record {
      report = x;
      same = refl;
      number = sym (ap (λ (y : Ended). y.answer.number) same);
      place = sym (ap (λ (y : Ended). place_of y.answer.place) same) ∙ place_code_lem x.place;
      tries = sym (ap (λ (y : Ended). y.answer.tries) same);
      words = sym (ap (λ (y : Ended). y.answer.words) same);
      slice = sym (ap (λ (y : Ended). y.answers) same);
    }
says r items answers list (refused x) e = absurd (none-ne-some _ e)
says r items answers list (fault x) e = absurd (none-ne-some _ e)

module _ (r : RunAnswer) (answers : List ℕ) (na : ℕ) (o : Outcome Report) (h : Says r answers o) (p : Padded na o) where
  there : answers ≡ h.report.words ++ replicate (na - length h.report.words) 0
  unfolding padded
  there = h.slice ∙ rw h.same at p

  pub words_few : length answers ≡ na → r.words ≤ na
  words_few l = omega (arith, h.words, l, ap length there, length-append h.report.words (replicate (na - length h.report.words) 0))

  pub words_there : take r.words answers ≡ h.report.words
  words_there = rw there (take_at h.report.words _ r.words (sym h.words))

  pub text_there :
      bench_text h.report
      ≡ line_text r.number (place_of r.place) r.tries r.words ++ concat_map word_line (take r.words answers)
  unfolding bench_text first_line line_text
  text_there = rw (h.number, h.place, h.tries, words_there, h.words)

module _ (b form sheet : List ℕ) (ni na nl : ℕ) (ef : form ≡ take (form_end b) b) (es : sheet ≡ drop (form_end b) b) (ei : ni ≡ 1792) (ea : na ≡ 8240)
    (el : nl ≡ 192) (r : RunAnswer) (items answers list : List ℕ) (same : run_answer (run form sheet ni na nl) ≡ ended r items answers list) where
  told : Says r answers (run form sheet ni na nl)
  told = says r items answers list (run form sheet ni na nl) same

  module _ (long : length answers ≡ na) (count : ℕ) (ec : count ≡ r.words) where
    pub few_words : count ≤ length answers
    few_words = omega (arith, words_few r answers na _ told (run_padded ni na nl form sheet) long)

    pub share_length : count ≡ length (take count answers)
    share_length = sym (length-take-le count answers few_words)

    pub words_most : length (take count answers) ≤ 8240
    words_most = omega (arith, share_length, few_words)

  bench_text_lem : bench b ≡ ok (line_text r.number (place_of r.place) r.tries r.words ++ concat_map word_line (take r.words answers))
  unfolding bench ◌>>=◌
  bench_text_lem =
      let whole : run (take (form_end b) b) (drop (form_end b) b) 1792 8240 192 ≡ run form sheet ni na nl = rw (ef, es, ei, ea, el) in
      rw (whole ∙ told.same, ◌>>=◌) (ap ok (text_there r answers na _ told (run_padded ni na nl form sheet)))

  pub bench_appends :
      (o o₁ : List ℕ) (e₁ : ℕ)
      → Appends o 0 o₁ e₁ (line_text r.number (place_of r.place) r.tries r.words)
      → (count : ℕ)
      → count ≡ r.words
      → (o₂ : List ℕ) (e₂ : ℕ)
      → Appends o₁ e₁ o₂ e₂ (concat_map word_line (take count answers))
      → IsPrefixLen e₂ o₂ × (bench b ≡ ok (take e₂ o₂))
  bench_appends o o₁ e₁ g count c o₂ e₂ h =
      let whole = appends_more o 0 o₁ e₁ _ g o₂ e₂ _ (rw c at h) in
      ((whole.inside, sym (length-take-le e₂ o₂ whole.inside)), bench_text_lem ∙ ap ok (sym whole.text))
