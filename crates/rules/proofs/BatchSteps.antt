-- Steps of a batch: one sheet more is run, and its record and parts are written behind those before it.
use mathlib.Core.List.{List, [], ◌∷◌, ◌++◌, append_assoc}
use mathlib.Core.Option.{some, some-injective}
use mathlib.Core.Path.{◌≡◌, sym, ap, ◌∙◌}
use Prim.Native.Nat.{ℕ, zero, suc, ◌+◌, ◌*◌, ◌<◌}
use native.Mathlib.Nat.{mul-add, mul-one}
use native.Mathlib.Numerals.{add-one}
use native.Mathlib.Omega.{arith}
use lib.ListN.{length, take, drop, get_elem?}
use lib.Seq.{take_at, drop-append-add, drop-drop}
use Rattle.wire.specs.Wire.{entry_of}
use Rattle.rules.specs.Outcome.{ok, ◌>>=◌}
use Rattle.rules.specs.Run.{Report, run}
use Rattle.rules.specs.Batch.{sheet_count, batch_sheets, run_sheets}
use Rattle.rules.proofs.SplitLaws.{some≢none, ok_injective}
use Rattle.rules.proofs.Formats.{counted}
use Rattle.rules.proofs.Acceptance.{mapped_at}
use Rattle.rules.proofs.InputFaults.{bind_ok}
use Rattle.rules.proofs.Demand1Holds.{demand1}

-- ---- the sheets of a batch
pub sheet_at : (b : List ℕ) (k : ℕ) → k < sheet_count b → get_elem? (batch_sheets b) k ≡ some (entry_of 4 (sheet_count b) b k)
unfolding batch_sheets
sheet_at b k h = mapped_at (entry_of 4 (sheet_count b) b) (sheet_count b) k h

pub sheets_count : (b : List ℕ) → length (batch_sheets b) ≡ sheet_count b
unfolding batch_sheets
sheets_count b = counted (entry_of 4 (sheet_count b) b) (sheet_count b)

-- ---- the single calls
pub run_answered : (b s : List ℕ) (ni na nl : ℕ) → (r : Report) × (run b s ni na nl ≡ ok r)
run_answered b s ni na nl = let d = demand1 b s ni na nl in (d.report, d.answered)

-- the first sheet is run, and then the others
pub sheets_first :
    (form s : List ℕ) (ss : List (List ℕ)) (rs : List Report)
    → run_sheets form (s ∷ ss) ≡ ok rs
    → (r : Report) × (rest : List Report) × (run form s 1792 8240 192 ≡ ok r) × (run_sheets form ss ≡ ok rest) × (r ∷ rest ≡ rs)
unfolding run_sheets
sheets_first form s ss rs e =
    let (r, runs, others) = bind_ok (run form s 1792 8240 192) _ rs e in
    let (rest, h, same) = bind_ok (run_sheets form ss) _ rs others in
    (r, rest, runs, h, ok_injective same)

-- one sheet more is run behind the others
module _ (form s : List ℕ) (r : Report) (runs : run form s 1792 8240 192 ≡ ok r) where
  sheets_next :
      (ss : List (List ℕ)) (k : ℕ) (rs : List Report)
      → get_elem? ss k ≡ some s
      → run_sheets form (take k ss) ≡ ok rs
      → run_sheets form (take (suc k) ss) ≡ ok (rs ++ (r ∷ []))
  unfolding run_sheets ◌>>=◌
  sheets_next [] k rs h e = absurd (some≢none (sym h))
  sheets_next (x ∷ ss) zero rs h e = rw (some-injective x s h, runs, ← ok_injective e)
  sheets_next (x ∷ ss) (suc k) rs h e = go (sheets_first form x (take k ss) rs e) (λ rest. sheets_next ss k rest h)
    where
      go :
          (y : Report) × (rest : List Report) × (run form x 1792 8240 192 ≡ ok y) × (run_sheets form (take k ss) ≡ ok rest) × (y ∷ rest ≡ rs)
          → ((rest : List Report) → run_sheets form (take k ss) ≡ ok rest → run_sheets form (take (suc k) ss) ≡ ok (rest ++ (r ∷ [])))
          → run_sheets form (x ∷ take (suc k) ss) ≡ ok (rs ++ (r ∷ []))
      go (y, rest, p, q, same) later = rw (← same, p, later rest q)

pub sheets_more :
    (form : List ℕ) (ss : List (List ℕ)) (k : ℕ) (s : List ℕ) (rs : List Report) (r : Report)
    → get_elem? ss k ≡ some s
    → run_sheets form (take k ss) ≡ ok rs
    → run form s 1792 8240 192 ≡ ok r
    → run_sheets form (take (k + 1) ss) ≡ ok (rs ++ (r ∷ []))
sheets_more form ss k s rs r h e runs = rw (add-one k) (sheets_next form s r runs ss k rs h e)

-- ---- the slices
-- k parts of w words stand at the front of a slice that was o, and the next is written
pub part_written :
    (w k : ℕ) (p o q : List ℕ)
    → length p ≡ w * k
    → length q ≡ w
    → take (w * k) (p ++ drop (w * k) o) ++ (q ++ drop (w * k + w) (p ++ drop (w * k) o)) ≡ (p ++ q) ++ drop (w * (k + 1)) o
part_written w k p o q e l =
    let next : w * (k + 1) ≡ w * k + w = omega (arith, mul-add w k 1, mul-one w) in
    let rest : drop (w * k + w) (p ++ drop (w * k) o) ≡ drop (w * k + w) o =
    ap (λ (n : ℕ). drop (n + w) (p ++ drop (w * k) o)) (sym e) ∙ drop-append-add p (drop (w * k) o) w ∙ drop-drop w (w * k) o in
    rw (take_at p (drop (w * k) o) (w * k) e, rest, next) (sym (append_assoc p q (drop (w * k + w) o)))
