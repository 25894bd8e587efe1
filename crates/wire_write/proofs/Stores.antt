-- Numbers and zeros stored to a slice.
use mathlib.Core.Path.{◌≡◌, ◌∙◌}
use mathlib.Core.List.{List, [], ◌∷◌, ◌++◌, append-nil}
use Prim.Native.Nat.{ℕ, suc, ◌+◌, ◌-◌, ◌/◌, ◌%◌, ◌≤◌, ◌<◌, min}
use native.Mathlib.Numerals.{add-one}
use native.Mathlib.Omega.{arith}
use lib.ListN.{length, set, take, drop, replicate, length-set, length-replicate, drop_of_length-le}
use lib.Seq.{sets, sets-eq, take_all}
use Rattle.std.proofs.lemmas.List.{take-replicate}
use Rattle.wire.proofs.Stores.{sets_room}
use Rattle.rules.specs.Encode.{bytes_of}

pub two_bytes : (o : List ℕ) (at n x y : ℕ) → x ≡ n % 256 → y ≡ n / 256 % 256 → set (set o at x) (at + 1) y ≡ sets o at (bytes_of 2 n)
unfolding bytes_of
two_bytes o at n x y p q = rw (p, q, add-one at)

pub four_bytes :
    (o o' o'' : List ℕ) (at n : ℕ)
    → o' ≡ sets o at (bytes_of 2 n)
    → o'' ≡ sets o' (at + 2) (bytes_of 2 (n / 65536))
    → o'' ≡ sets o at (bytes_of 4 n)
unfolding bytes_of
four_bytes o o' o'' at n p q =
    let third : n / 65536 ≡ n / 256 / 256 = omega arith in
    let place : at + 2 ≡ suc (suc at) = omega arith in
    rw (q, p, third, place)

-- a byte stored at a place leaves the next one there
pub still_there : (o : List ℕ) (at x : ℕ) → at + 2 ≤ length o → at + 1 < length (set o at x)
still_there o at x h = omega (arith, length-set o at x)

-- ---- zeros from a place to the end

-- stores up to the end leave what stands before them
sets_end : (vs o : List ℕ) (at : ℕ) → length vs ≡ length o - at → sets o at vs ≡ take at o ++ vs
sets_end [] o at h = rw (append-nil (take at o), take_all at o (omega arith))
sets_end (x ∷ vs) o at h =
    let behind : drop (at + suc (length vs)) o ≡ [] = drop_of_length-le o {i = at + suc (length vs)} (omega arith) in
    rw (sets-eq (x ∷ vs) o at (omega arith), behind) (append-nil (take at o ++ (x ∷ vs)))

-- as many zeros as the whole has are enough
pub zeros_end : (o o' : List ℕ) (at : ℕ) → o' ≡ sets o at (replicate (length o) 0) → o' ≡ take at o ++ replicate (length o - at) 0
zeros_end o o' at e =
    let fewer : take (length o - at) (replicate {A = ℕ} (length o) 0) ≡ replicate (length o - at) 0 =
    take-replicate (length o - at) (length o) 0 (omega arith) in
    let most : min (length (replicate {A = ℕ} (length o) 0)) (length o - at) ≤ length o - at = omega arith in
    e
    ∙ rw (← sets_room (replicate (length o) 0) o at (length o - at) most, fewer)
    (sets_end (replicate (length o - at) 0) o at (length-replicate {A = ℕ} (length o - at) 0))
