-- States as they are handed over, and zeros.
use mathlib.Core.Bool.{true}
use mathlib.Core.Path.{◌≡◌, refl, sym, subst}
use Prim.Native.Nat.{ℕ, zero, suc, ◌-◌, ◌≤◌}
use native.Mathlib.Omega.{arith}
use lib.ListN.{length, get_or, replicate}
use lib.Seq.{take-append_seam, drop-append_seam}
use Rattle.rules.specs.Base.{all}
use Rattle.rules.specs.Tree.{zeros}
use Rattle.rules.specs.State.{State}
use Rattle.rules.specs.Run.{padded}
use Rattle.rules.specs.Calls.{from_raw, to_raw}
use Rattle.rules.specs.Sound.{Good}
use Rattle.rules.proofs.CodeLaws.{place_code_lem}
use Rattle.state_marks.specs.Lent.{numbers_of, state_of, Fine}

pub from_to : (s : State) → from_raw (to_raw s) ≡ s
unfolding from_raw to_raw padded
from_to s = λ i. record {
  marks = take-append_seam s.marks (replicate (256 - length s.marks) 0) i;
  remaining = s.remaining;
  current = place_code_lem s.current i;
  start = s.start;
  end = s.end;
}

zeros_replicate : (n : ℕ) → zeros (replicate n 0) ≡ true
unfolding zeros all
zeros_replicate zero = refl
zeros_replicate (suc n) = zeros_replicate n

pub zero_at : (n k : ℕ) → ◌≡◌ {A = ℕ} (get_or (replicate n 0) k 0) 0
zero_at zero k = refl
zero_at (suc n) zero = refl
zero_at (suc n) (suc k) = zero_at n k

-- a good state, as it is handed over
pub raw_fine : (n : ℕ) (s : State) → n ≤ 256 → Good n s → Fine (to_raw s).marks (numbers_of (to_raw s))
unfolding to_raw padded state_of
raw_fine n s h g =
    let same : n ≡ length s.marks = sym g.long in
    record {
      order = g.order;
      inside = omega (arith, g.inside);
      small = omega arith;
      rest = rw (drop-append_seam s.marks (replicate (256 - length s.marks) 0)) (zeros_replicate (256 - length s.marks));
      good = subst (λ (k : ℕ). Good k (from_raw (to_raw s))) same (subst (Good n) (sym (from_to s)) g);
    }
