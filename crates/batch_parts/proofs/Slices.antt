-- A record that is written, and slices that are cleared.
use mathlib.Core.List.{List, ◌++◌, append_assoc, append-nil}
use mathlib.Core.Path.{◌≡◌, refl, ap, ◌∙◌}
use Prim.Native.Nat.{ℕ, suc, ◌+◌, ◌-◌, ◌*◌, ◌≤◌, ◌<◌}
use native.Mathlib.Omega.{arith}
use lib.ListN.{length, take, drop, set, replicate, length-append, length-replicate}
use lib.Seq.{sets, sets-eq, drop_at, length-take-le, drop-length}
use Rattle.run_fields.specs.declared.Reached.{Reached}
use Rattle.batch_parts.specs.Parts.{PartFits, Replaced, cleared_past, reached_words}

-- word j of a part lies in the slice, also after others were written
pub part_inside : (w k : ℕ) (o : List ℕ) → PartFits w k o → (j : ℕ) → j < w → (n : ℕ) → n ≡ length o → w * k + j < n
part_inside w k o h j l n e = omega (arith, h.room)

-- a record is written word by word
pub record_replaced : (k : ℕ) (r : Reached) (o o' : List ℕ) → PartFits 4 k o
    → o' ≡ set (set (set (set o (4 * k) r.number) (4 * k + 1) r.place) (4 * k + 2) r.tries) (4 * k + 3) r.words
    → Replaced 4 k (reached_words r) o o'
record_replaced k r o o' h e =
    let one : 4 * k + 1 ≡ suc (4 * k) = omega arith in
    let two : 4 * k + 2 ≡ suc (suc (4 * k)) = omega arith in
    let three : 4 * k + 3 ≡ suc (suc (suc (4 * k))) = omega arith in
    record {
      long = refl;
      words =
          (rw (one, two, three) at e)
          ∙ sets-eq (reached_words r) o (4 * k) h.room ∙ append_assoc (take (4 * k) o) (reached_words r) (drop (4 * k + 4) o);
    }

module _ (n : ℕ) (o : List ℕ) (h : n ≤ length o) where
  pub past_cleared : (o' : List ℕ) → o' ≡ sets o n (replicate (length o - n) 0) → o' ≡ cleared_past n o
  past_cleared o' e =
      let zeros = replicate {A = ℕ} (length o - n) 0 in
      let many : length zeros ≡ length o - n = length-replicate (length o - n) 0 in
      let all : n + length zeros ≡ length o = omega (arith, many) in
      e
      ∙ sets-eq zeros o n (omega (arith, many))
      ∙ ap (λ (z : List ℕ). take n o ++ zeros ++ z) (ap (λ (k : ℕ). drop k o) all ∙ drop-length o)
      ∙ append-nil (take n o ++ zeros)

  pub cleared_long : length (cleared_past n o) ≡ length o
  cleared_long =
      let a = length-append (take n o) (replicate {A = ℕ} (length o - n) 0) in
      let b : length (replicate {A = ℕ} (length o - n) 0) ≡ length o - n = length-replicate (length o - n) 0 in
      omega (arith, a, b, length-take-le n o h)

  pub cleared_rest : drop n (cleared_past n o) ≡ replicate (length o - n) 0
  cleared_rest = drop_at (take n o) (replicate (length o - n) 0) n (length-take-le n o h)
