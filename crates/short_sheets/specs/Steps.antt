-- A short sheet as digits: what is asked of them, how they are counted up, and what is written and answered.
use Rattle.std.specs.Prelude.{◌≡◌, Bool, List, [], ◌∷◌, ◌++◌, map, ℕ, ◌+◌, ◌≤◌, ◌<◌, length, take, drop, replicate}
use Rattle.std.proofs.Math.Option.{Option, some, none}
use Rattle.std.specs.Prelude.{if◌then◌else◌}
use Rattle.wire.specs.Wire.{area_start}
use Rattle.rules.specs.Accept.{index_of}
use Rattle.rules.specs.Base.{is_some}
use Rattle.rules.specs.Run.{padded}
use Rattle.rules.specs.Sheet.{sheet_fault, arguments}
use Rattle.rules.specs.Encode.{encode_sheet}
use Rattle.rules.specs.Demands.{All}
use Rattle.rules_short.specs.Short.{count_up}

-- ---- what is read

-- each byte as its place in the alphabet
unfoldable pub places_in : List ℕ → List ℕ → List ℕ
places_in al os = map (λ b. index_of b al) os

pub record LettersIn (al area places : List ℕ) : Type 0 where
  pub few : length al ≤ 8
  pub room : length area ≤ length places

pub record ShortSheet (s lengths : List ℕ) : Type 0 where
  pub made : sheet_fault s ≡ 0
  pub short : All (λ (os : List ℕ). length os ≤ 4) (arguments s)
  pub room : length (arguments s) ≤ length lengths

-- ---- counting up

-- digits if there are some, else as many zeros
unfoldable pub or_zeros : ℕ → Option (List ℕ) → List ℕ
or_zeros n none = replicate n 0
or_zeros n (some es) = es

unfoldable pub counted : ℕ → List ℕ → List ℕ
counted base ds = or_zeros (length ds) (count_up base ds)

pub record CountsUp (base : ℕ) (ds : List ℕ) (r : Bool) (es : List ℕ) : Type 0 where
  pub found : r ≡ is_some (count_up base ds)
  pub digits : es ≡ counted base ds

-- the lengths go on after the last places, the number of arguments after the last lengths
unfoldable pub next_lengths : ℕ → List ℕ → List ℕ → List ℕ
next_lengths base ns ds = if is_some (count_up base ds) then ns else counted 5 ns

unfoldable pub next_count : ℕ → List ℕ → List ℕ → ℕ
next_count base ns ds = if is_some (count_up base ds) then length ns else (if is_some (count_up 5 ns) then length ns else length ns + 1)

pub record CanCount (base n size : ℕ) (ns ds : List ℕ) : Type 0 where
  pub base_some : 1 ≤ base
  pub few : n ≤ 3
  pub lengths : n ≤ length ns
  pub places : size ≤ length ds

-- the first lengths and places are counted up, the others stay
pub record Counts (base n size : ℕ) (ns ds : List ℕ) (r : ℕ) (ns' ds' : List ℕ) : Type 0 where
  pub count : r ≡ next_count base (take n ns) (take size ds)
  pub lengths : ns' ≡ next_lengths base (take n ns) (take size ds) ++ drop n ns
  pub places : ds' ≡ counted base (take size ds) ++ drop size ds

-- ---- what is written

pub record PlacesIn (al places : List ℕ) : Type 0 where
  pub below : All (λ (k : ℕ). k < length al) places

unfoldable pub total : List ℕ → ℕ
total [] = 0
total (n ∷ ns) = n + total ns

-- these lengths, cut from an area, into an output of some size
pub record CanWrite (size : ℕ) (ns area : List ℕ) : Type 0 where
  pub few : length ns < 65536
  pub short : total ns < 65536
  pub within : total ns ≤ length area
  pub room : area_start 2 (length ns) + total ns ≤ size

pub record WritesSheet (size : ℕ) (args : List (List ℕ)) (r : ℕ) (o : List ℕ) : Type 0 where
  pub long : r ≡ length (encode_sheet args)
  pub small : r < 4294967296
  pub output : o ≡ padded size (encode_sheet args)
