-- What a run leaves in the answer slice: its answer words, and then 0.
use mathlib.Core.List.{List}
use mathlib.Core.Path.{◌≡◌, refl, subst}
use Prim.Native.Nat.{ℕ}
use native.Mathlib.Omega.{arith}
use Rattle.rules.specs.Outcome.{Outcome, ok, refused, fault, ◌>>=◌}
use Rattle.rules.specs.Value.{Value}
use Rattle.rules.specs.Accept.{Accepted}
use Rattle.rules.specs.Eval.{Ran}
use Rattle.rules.specs.Given.{room_in, list_room_in, input_in}
use Rattle.rules.specs.Run.{Line, Report, padded, split, run_line, refused_input, report_with, report, run}
use Rattle.rules.proofs.SplitLaws.{ok_injective}
use Rattle.rules.proofs.InputFaults.{bind_ok}

abbrev Padded : ℕ → Report → Type 0
Padded na r = r.answers ≡ padded na r.words

reported_padded : (ni na nl : ℕ) (l : Line) (x : Ran (List Value)) (r : Report) → report ni na nl l x ≡ ok r → Padded na r
unfolding report report_with
reported_padded ni na nl l x r e = go x.outcome refl
  where
    go : (o : Outcome (List Value)) → x.outcome ≡ o → Padded na r
    go (ok vs) h = subst (Padded na) (ok_injective (rw (h, report) at e)) refl
    go (refused y) h = subst (Padded na) (ok_injective (rw (h, report) at e)) refl
    go (fault y) h = let f = rw (h, report) at e in absurd (let z : ◌≡◌ {A = ℕ} 0 1 = cc in omega arith)

pub run_padded : (b s : List ℕ) (ni na nl : ℕ) (r : Report) → run b s ni na nl ≡ ok r → r.answers ≡ padded na r.words
unfolding run refused_input
run_padded b s ni na nl r e = go (input_in b s ni >>= λ a. room_in 8240 na >>= λ _. list_room_in nl >>= λ _. ok a) refl
  where
    go : (o : Outcome Accepted) → (input_in b s ni >>= λ a. room_in 8240 na >>= λ _. list_room_in nl >>= λ _. ok a) ≡ o → Padded na r
    go (ok a) h =
        let (l, _, reported) = bind_ok (split a.form s) _ r (rw (h, run) at e) in
        reported_padded ni na nl l (run_line a.fields l) r reported
    go (refused x) h = subst (Padded na) (ok_injective (rw (h, run) at e)) refl
    go (fault x) h = let f = rw (h, run) at e in absurd (let z : ◌≡◌ {A = ℕ} 0 1 = cc in omega arith)
