-- What an evaluation tells is what the run inside it tells.
use mathlib.Core.Option.{Option}
use mathlib.Core.Path.{◌≡◌, refl}
use Prim.Native.Nat.{ℕ, ◌+◌}
use native.Mathlib.Omega.{arith}
use Rattle.rules.specs.Outcome.{Outcome, ok, refused, fault}
use Rattle.rules.specs.Value.{Kind, Value}
use Rattle.rules.specs.Tree.{Tree, kind_of}
use Rattle.rules.specs.State.{State}
use Rattle.rules.specs.Eval.{Ran as Run, visit}
use Rattle.rules.proofs.Steps.{EndsOne, Runs}
use Rattle.eval_told.specs.Told.{told, Numbered}

pub visit_told : (t : Tree) (s : State) (r : Run Value) → told (visit t s r) ≡ told r
unfolding visit told
visit_told t s r = refl

-- a sound evaluation's refusal has a number
ends_numbered : (m : ℕ) (k : Option Kind) (o : Outcome Value) → EndsOne m k o → Numbered o
ends_numbered m k (ok v) h = tt
ends_numbered m k (refused e) h = λ z. omega (arith, h.0)
ends_numbered m k (fault x) h = tt

pub runs_numbered : (n : ℕ) (t : Tree) (s : State) (r : Run Value) → Runs n t s r → Numbered r.outcome
runs_numbered n t s r w = ends_numbered (s.remaining + 1) (kind_of t) r.outcome w.ends
