-- The elements of a list stored one after the other, as far as there is room.
use mathlib.Core.Path.{◌≡◌, refl, sym, ◌∙◌, ap}
use mathlib.Core.List.{List, [], ◌∷◌, ◌++◌, append_assoc}
use Prim.Native.Nat.{ℕ, zero, suc, ◌+◌, ◌-◌, ◌≤◌, ◌<◌, min}
use native.Mathlib.Nat.{add-zero, add-suc, suc-add}
use native.Mathlib.Numerals.{add-one}
use native.Mathlib.Omega.{arith}
use lib.ListN.{length, get_or, set, take, drop, replicate, length-set, length-replicate, length-drop, replicate-append-replicate}
use lib.Seq.{sets, sets-eq, set_out, take-suc, take_all, length-take-le, drop-drop}
use borrow.Rule.Slice.PartMut.{put_mid}
use Rattle.std.proofs.lemmas.List.{take-replicate}
use Rattle.std.proofs.lemmas.Grind.{take-set_at}

module _ {A : Type 0} where
  sets_append : (v w o : List A) (i : ℕ) → sets o i (v ++ w) ≡ sets (sets o i v) (i + length v) w
  sets_append [] w o i = rw add-zero
  sets_append (x ∷ v) w o i = sets_append v w (set o i x) (suc i) ∙ rw (suc-add, ← add-suc)

  -- stores past the end change nothing
  pub sets_out : (v o : List A) (i : ℕ) → length o ≤ i → sets o i v ≡ o
  sets_out [] o i h = refl
  sets_out (x ∷ v) o i h = rw (set_out o i x h) (sets_out v o (suc i) (omega arith))

  -- so those for which there is room are all
  pub sets_room : (v o : List A) (i n : ℕ) → min (length v) (length o - i) ≤ n → sets o i (take n v) ≡ sets o i v
  sets_room [] o i zero h = refl
  sets_room [] o i (suc n) h = refl
  sets_room (x ∷ v) o i zero h = sym (sets_out (x ∷ v) o i (omega arith))
  sets_room (x ∷ v) o i (suc n) h = sets_room v (set o i x) (suc i) n (omega (arith, length-set o i x))

  pub none_stored : (o v : List A) (at : ℕ) → length o ≤ at → o ≡ sets o at v
  none_stored o v at h = sym (sets_out v o at h)

  -- a part that becomes the first n of them, for which there is room
  pub part_stored :
      (o v part : List A) (at n : ℕ)
      → at < length o
      → n ≡ min (length v) (length o - at)
      → part ≡ take n v
      → put_mid at (at + n - at) o part ≡ sets o at v
  part_stored o v part at n h room e =
      let size : at + n - at ≡ n = omega arith in
      let long : length (take n v) ≡ n = length-take-le n v (omega arith) in
      let fits : at + length (take n v) ≤ length o = omega arith in
      rw (size, e, ← sets_room v o at n (omega arith))
      (sym (sets-eq (take n v) o at fits ∙ rw (long, ← drop-drop n at o) (append_assoc (take at o) (take n v) (drop n (drop at o)))))

  pub filled_next :
      (part : List A) (i n : ℕ) (x : A)
      → take i part ≡ replicate i x
      → length part ≡ n
      → i < n
      → take (i + 1) (set part i x) ≡ replicate (i + 1) x
  filled_next part i n x e long h = take-set_at part i (i + 1) x refl (omega arith) ∙ rw e (replicate-append-replicate i 1 x)

  pub filled_last :
      (o part : List A) (at count n i : ℕ) (x : A)
      → at < length o
      → n ≡ min count (length o - at)
      → length part ≡ length (take (at + n - at) (drop at o))
      → take i part ≡ replicate i x
      → i ≤ length (take (at + n - at) (drop at o))
      → length (take (at + n - at) (drop at o)) ≤ i
      → put_mid at (at + n - at) o part ≡ sets o at (replicate count x)
  filled_last o part at count n i x h room long e l m =
      let size : length (take (at + n - at) (drop at o)) ≡ n =
      length-take-le (at + n - at) (drop at o) (omega (arith, length-drop at o)) ∙ omega arith in
      let i_is : i ≡ n = omega arith in
      let whole : part ≡ replicate n x = sym (take_all n part (omega arith)) ∙ (rw i_is at e) in
      part_stored o (replicate count x) part at n h (rw (length-replicate count x) room) (whole ∙ sym (take-replicate n count x (omega arith)))

-- o is o₀ with the first i words of v stored from `at` on
pub record Stored (o₀ : List ℕ) (at : ℕ) (v : List ℕ) (n : ℕ) (o : List ℕ) (i : ℕ) : Type 0 where
  pub within : i ≤ n
  pub same : o ≡ sets o₀ at (take i v)
  pub long : length o ≡ length o₀

pub stored_first : (o : List ℕ) (at : ℕ) (v : List ℕ) (n : ℕ) → Stored o at v n o 0
stored_first o at v n = record { within = omega arith; same = refl; long = refl }

module _ (o₀ : List ℕ) (at : ℕ) (v : List ℕ) (n : ℕ) (o : List ℕ) (i : ℕ) (room : n ≡ min (length v) (length o₀ - at)) (z : Stored o₀ at v n o i) where
  pub stored_next : (x : ℕ) → x ≡ get_or v i 0 → i < n → Stored o₀ at v n (set o (at + i) x) (i + 1)
  stored_next x e h =
      record {
        within = omega arith;
        same =
            rw (z.same, add-one i, take-suc v i 0 (omega arith), e)
            (ap (λ (k : ℕ). set (sets o₀ at (take i v)) (at + k) (get_or v i 0)) (sym (length-take-le i v (omega arith)))
            ∙ sym (sets_append (take i v) (get_or v i 0 ∷ []) o₀ at));
        long = length-set o (at + i) x ∙ z.long;
      }

  pub stored_last : n ≤ i → o ≡ sets o₀ at v
  stored_last h = z.same ∙ sets_room v o₀ at i (omega arith)
