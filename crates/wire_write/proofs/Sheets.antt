-- A sheet, argument by argument: what stands after each, and that after the last it is the whole sheet.
use mathlib.Core.Path.{◌≡◌, refl, sym, ◌∙◌, ap}
use mathlib.Core.List.{List, [], ◌∷◌, ◌++◌, flatten, append_assoc, append-nil}
use Prim.Native.Nat.{ℕ, suc, ◌+◌, ◌-◌, ◌*◌, ◌≤◌, ◌<◌}
use native.Mathlib.Nat.{zero-add}
use native.Mathlib.Omega.{arith}
use lib.ListN.{length, take, replicate, length-append, length-replicate, replicate-append-replicate}
use lib.Seq.{sets, sets-eq, take_at, drop_at}
use Rattle.wire.specs.Wire.{area_start}
use Rattle.rules.specs.Base.{concat_map}
use Rattle.rules.specs.Run.{padded}
use Rattle.rules.specs.Encode.{bytes_of, words_of, offsets_from, encode_sheet}
use Rattle.rules.proofs.Formats.{bytes_length, all_length}
use Rattle.rules.proofs.ConcatLaws.{concat_more}
use Rattle.wire_write.specs.Written.{sheet_so_far, with_argument, CanBegin, CanPut}

-- as many bytes over others
between : (p q r v : List ℕ) (i : ℕ) → length p ≡ i → length q ≡ length v → sets (p ++ (q ++ r)) i v ≡ p ++ (v ++ r)
between p q r v i e f =
    let whole : p ++ (q ++ r) ≡ p ++ q ++ r = sym (append_assoc p q r) in
    let fits : i + length v ≤ length (p ++ (q ++ r)) = simp length-append (omega arith) in
    let behind : length (p ++ q) ≡ i + length v = simp length-append (omega arith) in
    sets-eq v (p ++ (q ++ r)) i fits
    ∙ rw (take_at p (q ++ r) i e, whole, drop_at (p ++ q) r (i + length v) behind, append_assoc p v r)

zeros_parted : (a b n : ℕ) → n ≡ a + b → replicate {A = ℕ} n 0 ≡ replicate a 0 ++ replicate b 0
zeros_parted a b n e = ap (λ (m : ℕ). replicate {A = ℕ} m 0) e ∙ sym (replicate-append-replicate a b 0)

-- ---- one argument more

offsets_count : (begin : ℕ) (args : List (List ℕ)) → length (offsets_from begin args) ≡ suc (length args)
unfolding offsets_from
offsets_count begin [] = refl
offsets_count begin (os ∷ rest) = ap suc (offsets_count (begin + length os) rest)

module _ (b : List ℕ) where
  offsets_more :
      (begin : ℕ) (args : List (List ℕ))
      → offsets_from begin (args ++ (b ∷ [])) ≡ offsets_from begin args ++ ((begin + (length (flatten args) + length b)) ∷ [])
  unfolding offsets_from flatten
  offsets_more begin [] = rw (zero-add (length b))
  offsets_more begin (os ∷ rest) =
      let end : begin + length os + (length (flatten rest) + length b) ≡ begin + (length (os ++ flatten rest) + length b) =
      simp length-append (omega arith) in
      rw (offsets_more (begin + length os) rest, end)

  pub flatten_more : (args : List (List ℕ)) → flatten (args ++ (b ∷ [])) ≡ flatten args ++ b
  unfolding flatten
  flatten_more [] = append-nil b
  flatten_more (os ∷ rest) = rw (flatten_more rest) (sym (append_assoc os (flatten rest) b))

-- ---- a sheet of n arguments, some of which are written

front : ℕ → List (List ℕ) → List ℕ
front n args = bytes_of 2 n ++ words_of 2 (offsets_from 0 args)

first_front : (n : ℕ) → front n [] ≡ bytes_of 2 n ++ replicate 2 0
unfolding front words_of concat_map offsets_from bytes_of
first_front n = refl

module _ (n : ℕ) (args : List (List ℕ)) where
  front_length : length (front n args) ≡ 2 + 2 * (length args + 1)
  unfolding front words_of
  front_length =
      let words = all_length (bytes_of 2) 2 (bytes_length 2) (offsets_from 0 args) in
      omega (arith, length-append (bytes_of 2 n) (concat_map (bytes_of 2) (offsets_from 0 args)), bytes_length 2 n, words, offsets_count 0 args)

  front_more : (b : List ℕ) → front n (args ++ (b ∷ [])) ≡ front n args ++ bytes_of 2 (length (flatten args) + length b)
  unfolding front words_of
  front_more b =
      rw (offsets_more b 0 args, zero-add (length (flatten args) + length b), concat_more (bytes_of 2) (offsets_from 0 args) (length (flatten args) + length b))
      (sym (append_assoc (bytes_of 2 n) (concat_map (bytes_of 2) (offsets_from 0 args)) (bytes_of 2 (length (flatten args) + length b))))

  so_far_parts : sheet_so_far n args ≡ front n args ++ (replicate (2 * (n - length args)) 0 ++ flatten args)
  unfolding sheet_so_far front
  so_far_parts = simp append_assoc

  pub so_far_length : length args ≤ n → length (sheet_so_far n args) ≡ area_start 2 n + length (flatten args)
  unfolding area_start
  so_far_length few =
      let zeros = length-replicate {A = ℕ} (2 * (n - length args)) 0 in
      ap length so_far_parts ∙ simp length-append (omega (arith, front_length))

  -- once all are written it is the sheet
  pub all_written : length args ≡ n → sheet_so_far n args ≡ encode_sheet args
  unfolding sheet_so_far encode_sheet
  all_written e =
      let none : n - length args ≡ 0 = omega arith in
      rw (none, e)

-- ---- in a slice of `size` bytes

module _ (size n : ℕ) where
  opened :
      (args : List (List ℕ))
      → length args ≤ n
      → padded size (sheet_so_far n args)
      ≡ front n args ++ (replicate (2 * (n - length args)) 0 ++ (flatten args ++ replicate (size - (area_start 2 n + length (flatten args))) 0))
  unfolding padded
  opened args few = rw (so_far_length n args few, so_far_parts n args) (simp append_assoc)

  pub none_written : area_start 2 n ≤ size → sets (replicate size 0) 0 (bytes_of 2 n) ≡ padded size (sheet_so_far n [])
  unfolding area_start flatten
  none_written h =
      let room = size - (2 + 2 * (n + 1) + 0) in
      let cleared : replicate {A = ℕ} size 0 ≡ replicate 2 0 ++ replicate (size - 2) 0 = zeros_parted 2 (size - 2) size (omega arith) in
      let offsets : replicate {A = ℕ} (size - 2) 0 ≡ replicate 2 0 ++ replicate (2 * (n - 0) + room) 0 =
      zeros_parted 2 (2 * (n - 0) + room) (size - 2) (omega arith) in
      rw cleared
      (between [] (replicate 2 0) (replicate (size - 2) 0) (bytes_of 2 n) 0 refl (sym (bytes_length 2 n))
      ∙ rw (opened [] (omega arith), offsets, zeros_parted (2 * (n - 0)) room (2 * (n - 0) + room) refl, first_front n) (simp append_assoc))

  module _ (args : List (List ℕ)) (b : List ℕ) (below : length args < n) (room : area_start 2 n + (length (flatten args) + length b) ≤ size) where
    abbrev end : ℕ
    end = length (flatten args) + length b

    -- the offsets that are still 0 behind the next one
    abbrev zeros : List ℕ
    zeros = replicate (2 * (n - suc (length args))) 0

    abbrev rest : List ℕ
    rest = replicate (size - (area_start 2 n + end)) 0

    parts_before :
        padded size (sheet_so_far n args)
        ≡ front n args ++ (replicate 2 0 ++ (zeros ++ (flatten args ++ (replicate (length b) 0 ++ rest))))
    parts_before =
        let offsets : 2 * (n - length args) ≡ 2 + 2 * (n - suc (length args)) = omega arith in
        let behind : size - (area_start 2 n + length (flatten args)) ≡ length b + (size - (area_start 2 n + end)) = omega arith in
        opened args (omega arith)
        ∙ rw (
          zeros_parted 2 (2 * (n - suc (length args))) (2 * (n - length args)) offsets,
          zeros_parted (length b) (size - (area_start 2 n + end)) (size - (area_start 2 n + length (flatten args))) behind,
        )

    parts_after :
        padded size (sheet_so_far n (args ++ (b ∷ [])))
        ≡ front n args ++ bytes_of 2 end ++ (zeros ++ (flatten args ++ b ++ rest))
    parts_after =
        let count : length (args ++ (b ∷ [])) ≡ suc (length args) = simp length-append (omega arith) in
        let long : length (flatten args ++ b) ≡ end = length-append (flatten args) b in
        opened (args ++ (b ∷ [])) (omega arith)
        ∙ rw (front_more n args b, flatten_more b args, count, long)

    -- up to where the argument begins
    abbrev before : List ℕ
    before = front n args ++ (bytes_of 2 end ++ (zeros ++ flatten args))

    before_length : length before ≡ area_start 2 n + length (flatten args)
    unfolding area_start
    before_length =
        let long = length-replicate {A = ℕ} (2 * (n - suc (length args))) 0 in
        simp length-append (omega (arith, front_length n args, bytes_length 2 end))

    offset_written :
        sets (padded size (sheet_so_far n args)) (2 + 2 * (length args + 1)) (bytes_of 2 end)
        ≡ before ++ (replicate (length b) 0 ++ rest)
    offset_written =
        rw parts_before
        (between (front n args) (replicate 2 0) _ (bytes_of 2 end) _ (front_length n args) (sym (bytes_length 2 end))
        ∙ simp append_assoc)

    pub argument_written :
        with_argument n (length args) (length (flatten args)) b (padded size (sheet_so_far n args))
        ≡ padded size (sheet_so_far n (args ++ (b ∷ [])))
    unfolding with_argument
    argument_written =
        rw offset_written
        (between before (replicate (length b) 0) rest b _ before_length (length-replicate {A = ℕ} (length b) 0)
        ∙ simp append_assoc (simp append_assoc at (sym parts_after)))

-- ---- the two functions

module _ (o o' : List ℕ) (n : ℕ) (cleared : o' ≡ take 0 o ++ replicate (length o - 0) 0) (can : CanBegin o n) where
  pub count_fits : 0 + 2 ≤ length o'
  unfolding area_start
  count_fits =
      let long = length-replicate {A = ℕ} (length o - 0) 0 in
      let room = can.room in
      rw cleared (omega arith)

  pub sheet_begun : (o'' : List ℕ) → o'' ≡ sets o' 0 (bytes_of 2 n) → o'' ≡ padded (length o) (sheet_so_far n [])
  sheet_begun o'' put =
      let all : length o - 0 ≡ length o = omega arith in
      put ∙ rw (cleared, all) (none_written (length o) n can.room)

module _ (o : List ℕ) (n k at : ℕ) (b : List ℕ) (can : CanPut o n k at b) where
  pub offset_fits : 2 + 2 * (k + 1) + 2 ≤ length o
  unfolding area_start
  offset_fits = let room = can.room in let below = can.below in omega arith

  pub argument_put :
      (o' o'' : List ℕ) (s : ℕ)
      → o' ≡ sets o (2 + 2 * (k + 1)) (bytes_of 2 (at + length b))
      → s ≡ area_start 2 n
      → o'' ≡ sets o' (s + at) b
      → o'' ≡ with_argument n k at b o
  unfolding with_argument
  argument_put o' o'' s offset start bytes = rw (bytes, offset, start)
