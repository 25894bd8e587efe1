-- What was compared is what the contracts say.
use mathlib.Core.Path.{◌≡◌, refl, subst}
use mathlib.Core.Bool.{Bool, cond}
use mathlib.Core.Logic.{inl}
use mathlib.Core.List.{List, [], ◌∷◌}
use Prim.Native.Nat.{ℕ, ◌+◌, ◌*◌, ◌≤◌, ◌<◌}
use native.Mathlib.Omega.{arith}
use borrow.Author.Count.{below_more}
use Rattle.wire.specs.Wire.{HasEntry}
use Rattle.utf8.specs.Utf8.{decode_at, well_formed}
use Rattle.std.specs.Prelude.{Option as CodeOption}
use Rattle.utf8.specs.declared.Char.{Char}
use Rattle.rules.specs.Outcome.{ok}
use Rattle.rules.specs.Sheet.{sheet_fault}
use Rattle.rules.specs.Accept.{check_form}
use Rattle.rules.specs.Codes.{check_code}
use Rattle.rules.specs.Calls.{call_split}
use Rattle.rules.specs.Run as Run
use Rattle.rules.specs.declared.Refused.{Refused}
use Rattle.run.specs.Runner.{run_answer, ended}
use Rattle.run_fields.specs.declared.RunAnswer.{RunAnswer}
use Rattle.call_check.specs.Reader.{sheet_code, splitting_of}
use Rattle.call_check.specs.declared.SplitAnswer.{SplitAnswer}
use Rattle.call_text.specs.Text.{TextOf}
use Rattle.replay.specs.Words.{Stands, AnswerAt}
use Rattle.replay.specs.Calls.{TextTold}
use Rattle.replay.specs.Cases.{character_words, utf8_words, both_words, check_words, SplitTold, WholeRunTold, OnItems, ItemTold}
use Rattle.replay.specs.declared.words.Head.{Head}
use Rattle.replay.specs.List.{HasCase, CaseTold}

pub utf8_told :
    (s b : List ℕ) (w : Bool)
    → w ≡ well_formed s
    → (valid : ℕ)
    → valid ≡ cond w 1 0
    → (d : CodeOption Char)
    → d ≡ decode_at s 0
    → (e : CodeOption Char)
    → d ≡ e
    → Stands b 0 (character_words valid e)
    → Stands b 0 (utf8_words s)
unfolding utf8_words
utf8_told s b w p valid q d r e h stands = rw (← p, ← q, ← r, h) stands

pub check_told :
    (form sheet b : List ℕ) (f s : Refused)
    → f ≡ check_code (check_form form)
    → s ≡ sheet_code (sheet_fault sheet)
    → Stands b 0 (both_words f s)
    → Stands b 0 (check_words form sheet)
unfolding check_words
check_told form sheet b f s p q stands =
    subst (λ (x : Refused). Stands b 0 (both_words x (sheet_code (sheet_fault sheet)))) p (subst (λ (x : Refused). Stands b 0 (both_words f x)) q stands)

pub text_told :
    (form sheet items : List ℕ) (word number place : ℕ) (part bytes b : List ℕ)
    → TextOf form sheet items word number place part
    → bytes ≡ part
    → Stands b 0 (number ∷ place ∷ [])
    → TextTold form sheet items word b bytes
text_told form sheet items word number place part bytes b says e same = record { number = number; place = place; says = rw e says; same = same }

module _ (form sheet : List ℕ) (ni : ℕ) (ei : 1792 ≡ ni) where
  pub run_told :
      (na : ℕ)
      → 8240 ≡ na
      → (nl : ℕ)
      → 192 ≡ nl
      → (answer : RunAnswer) (items answers list : List ℕ)
      → run_answer (Run.run form sheet ni na nl) ≡ ended answer items answers list
      → (b words : List ℕ)
      → AnswerAt b (answer.number ∷ answer.place ∷ answer.tries ∷ answer.words ∷ 0 ∷ 0 ∷ 0 ∷ []) answer.state
      → Stands words 0 answers
      → WholeRunTold form sheet b words
  run_told na ea nl el answer items answers list says b words same written =
      record { answer = answer; items = items; answers = answers; list = list; says = rw (ei, ea, el) says; same = same; written = written }

  module _ (split : SplitAnswer) (items : List ℕ) (splits : call_split form sheet ni ≡ ok (splitting_of split items)) (b words : List ℕ) where
    pub split_told : AnswerAt b (split.number ∷ split.place ∷ 0 ∷ 0 ∷ 0 ∷ 0 ∷ 0 ∷ []) split.state → Stands words 0 items → SplitTold form sheet b words
    split_told same written = record { answer = split; items = items; says = rw ei splits; same = same; written = written }

    pub item_told :
        (h : Head) (given second : List ℕ)
        → OnItems h form sheet items given second b words
        → ItemTold h form sheet given second b words
    item_told h given second told = record { split = split; items = items; splits = rw ei splits; told = told }

module _ (list : List ℕ) (n at : ℕ) where
  pub has_entry : HasCase list n at → (k : ℕ) → at ≤ k → k < at + 7 → HasEntry 2 n list k
  has_entry h k l m = record { width = inl refl; good = h.good; below = omega (arith, h.below) }

  pub case_more :
      (cases : ℕ)
      → at ≡ 7 * cases + 1
      → ((k : ℕ) → k < cases → CaseTold list n (7 * k + 1))
      → CaseTold list n at
      → (k : ℕ)
      → k < cases + 1
      → CaseTold list n (7 * k + 1)
  case_more cases e h told = below_more _ _ h (subst (CaseTold list n) e told)
