-- The answer of the call, refused and accepted.
use mathlib.Core.List.{List}
use mathlib.Core.Option.{some}
use mathlib.Core.Path.{◌≡◌, refl, sym, ap, ◌∙◌}
use Prim.Native.Nat.{ℕ}
use Rattle.rules.specs.Outcome.{ok, ◌>>=◌}
use Rattle.rules.specs.Accept.{Checked, accepted, refused_at, Accepted, check_form}
use Rattle.rules.specs.Codes.{check_code}
use Rattle.rules.specs.Given.{form_in}
use Rattle.rules.specs.Reported.{told}
use Rattle.rules.specs.declared.Refused.{Refused}
use Rattle.rules.specs.declared.RefusedAt.{RefusedAt}
use Rattle.rules.proofs.ReportedLaws.{numbered}
use Rattle.rules.proofs.GivenLaws.{check_accepted, form_passed}
use Rattle.rules_careful.specs.Idle.{idle_repeats, call_idle, bit_set}
use Rattle.form_idle.specs.Idles.{idle_answer}

-- by a struct that tells the refusal, as the check reports it
pub idle_refused :
    (b : List ℕ) (e : RefusedAt)
    → told e ≡ check_code (check_form b)
    → (r : Refused)
    → r ≡ told e
    → idle_answer (call_idle b) ≡ some (record { number = r.number; place = r.place; nodes = 0 })
unfolding call_idle form_in ◌>>=◌
idle_refused b e reported r same = go (check_form b) refl
  where
    go : (c : Checked Accepted) → check_form b ≡ c → idle_answer (call_idle b) ≡ some (record { number = r.number; place = r.place; nodes = 0 })
    go (accepted a) h = absurd (numbered e.refusal (ap (λ (x : Refused). x.number) (reported ∙ ap check_code h)))
    go (refused_at n k) h =
        let is = same ∙ reported ∙ ap check_code h in
        rw (h, form_in) (sym (ap (λ (x : Refused). some (record { number = x.number; place = x.place; nodes = 0 })) is))

pub idle_told :
    (b : List ℕ)
    → record { number = 0; place = 0 } ≡ check_code (check_form b)
    → (v : ℕ)
    → ((a : Accepted) → check_form b ≡ accepted a → v ≡ bit_set (idle_repeats a))
    → idle_answer (call_idle b) ≡ some (record { number = 0; place = 0; nodes = v })
unfolding call_idle
idle_told b reported v says =
    let (a, g) = check_accepted b _ reported refl in
    rw (form_passed b a (λ a. ok (idle_repeats a)) g, says a g)
