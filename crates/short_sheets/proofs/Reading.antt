-- Places and lengths that are read, each stored in its turn.
use mathlib.Core.Path.{◌≡◌, refl, sym, ◌∙◌, ap}
use mathlib.Core.List.{List, [], ◌∷◌, map}
use mathlib.Core.Option.{some, none-ne-some, some-injective}
use Prim.Native.Nat.{ℕ, zero, suc, ◌+◌, ◌≤◌, ◌<◌}
use native.Mathlib.Nat.{zero-add}
use native.Mathlib.Omega.{arith}
use lib.ListN.{length, get_or, get_elem?, set, length-map}
use lib.Seq.{sets}
use Rattle.wire.specs.Wire.{entry_of}
use Rattle.wire.proofs.Stores.{Stored, stored_next, stored_last}
use Rattle.rules.specs.Accept.{index_of}
use Rattle.rules.specs.Sheet.{argument_count, arguments}
use Rattle.rules.proofs.Acceptance.{All-at}
use Rattle.rules.proofs.Formats.{counted}
use Rattle.rules_short.specs.Short.{lengths}
use Rattle.split_sheet.specs.Checked.{HasArgument}
use Rattle.split_sheet.proofs.Arguments.{argument_at_lem}
use Rattle.short_check.proofs.Letters.{place_most}
use Rattle.short_sheets.specs.Steps.{places_in, LettersIn, ShortSheet}

-- one more of the words of a list that has room from the start on
stored_more :
    (o₀ v : List ℕ) (n : ℕ) (o : List ℕ) (i x : ℕ)
    → n ≡ length v
    → n ≤ length o₀
    → Stored o₀ 0 v n o i
    → x ≡ get_or v i 0
    → i < n
    → Stored o₀ 0 v n (set o i x) (i + 1)
stored_more o₀ v n o i x e room z same h =
    rw (zero-add i) at (stored_next o₀ 0 v n o i (omega arith) z x same h)

-- ---- places

pub get_d_mapped : (f : ℕ → ℕ) (l : List ℕ) (i : ℕ) → i < length l → get_or (map f l) i 0 ≡ f (get_or l i 0)
get_d_mapped f [] i h = absurd (omega arith)
get_d_mapped f (x ∷ l) zero h = refl
get_d_mapped f (x ∷ l) (suc i) h = get_d_mapped f l i (omega arith)

pub place_narrow : (al area ds : List ℕ) (x y : ℕ) → LettersIn al area ds → y ≡ index_of x al → y < 256
place_narrow al area ds x y has e = omega (arith, has.few, place_most x al)

places_length : (al area : List ℕ) → length (places_in al area) ≡ length area
unfolding places_in
places_length al area = length-map area (λ b. index_of b al)

module _ (al area ds o : List ℕ) (i : ℕ) (has : LettersIn al area ds) (z : Stored ds 0 (places_in al area) (length area) o i) where
  pub place_stored : (y x : ℕ) → y ≡ index_of (get_or area i 0) al → x ≡ y → i < length area → Stored ds 0 (places_in al area) (length area) (set o i x) (i + 1)
  unfolding places_in
  place_stored y x e f h =
      stored_more ds (places_in al area) (length area) o i x (sym (places_length al area)) has.room z
      (f ∙ e ∙ sym (get_d_mapped (λ b. index_of b al) area i h)) h

  pub places_stored : length area ≤ i → o ≡ sets ds 0 (places_in al area)
  places_stored h =
      stored_last ds 0 (places_in al area) (length area) o i (omega (arith, has.room, places_length al area)) z h

-- ---- lengths

get_d_length : (l : List (List ℕ)) (k : ℕ) (os : List ℕ) → get_elem? l k ≡ some os → get_or (map length l) k 0 ≡ length os
get_d_length [] k os e = absurd (none-ne-some os e)
get_d_length (x ∷ l) zero os e = ap length (some-injective x os e)
get_d_length (x ∷ l) (suc k) os e = get_d_length l k os e

module _ (s ns : List ℕ) (has : ShortSheet s ns) (n : ℕ) (count : n ≡ argument_count s) where
  pub argument_there : (k : ℕ) → k < n → HasArgument s k
  argument_there k h = record { made = has.made; below = omega arith }

  all_there : length (lengths (arguments s)) ≡ n
  unfolding lengths arguments
  all_there =
      length-map (arguments s) length ∙ counted (entry_of 2 (argument_count s) s) (argument_count s) ∙ sym count

  room : n ≤ length ns
  unfolding lengths
  room = omega (arith, has.room, length-map (arguments s) length, all_there)

  pub lengths_stored :
      (o : List ℕ) (k : ℕ) → Stored ns 0 (lengths (arguments s)) n o k → n ≤ k → o ≡ sets ns 0 (lengths (arguments s))
  lengths_stored o k z h = stored_last ns 0 (lengths (arguments s)) n o k (omega (arith, all_there, room)) z h

  pub length_there : (o : List ℕ) (k : ℕ) → Stored ns 0 (lengths (arguments s)) n o k → k < n → k < length o
  length_there o k z h = omega (arith, z.long, room)

  module _ (k : ℕ) (h : k < n) (os : List ℕ) (part : os ≡ entry_of 2 (argument_count s) s k) where
    here : get_elem? (arguments s) k ≡ some os
    here = argument_at_lem s k (omega arith) ∙ ap some (sym part)

    pub length_narrow : length os < 256
    length_narrow = omega (arith, All-at (λ (x : List ℕ). length x ≤ 4) (arguments s) k os has.short here)

    pub length_stored :
        (o : List ℕ) (x : ℕ)
        → Stored ns 0 (lengths (arguments s)) n o k
        → x ≡ length os
        → Stored ns 0 (lengths (arguments s)) n (set o k x) (k + 1)
    unfolding lengths
    length_stored o x z e =
        stored_more ns (lengths (arguments s)) n o k x (sym all_there) room z (e ∙ sym (get_d_length (arguments s) k os here)) h
