-- Little-endian numbers of a list of bytes, and the counted offset table.
use Rattle.std.specs.Prelude.{Bool, true, ◌&&◌, ◌⊎◌, List, [], ◌∷◌, ◌≡◌, ℕ, zero, suc, ◌+◌, ◌-◌, ◌*◌, ◌<◌, leb, eqb, length, take, drop}

-- the little-endian value of bytes
unfoldable pub le : List ℕ → ℕ
le [] = 0
le (x ∷ b) = x + 256 * le b

-- the number of w bytes at byte i
unfoldable pub number_at : ℕ → List ℕ → ℕ → ℕ
number_at w b i = le (take w (drop i b))

-- A counted offset table: a count n of two bytes, n + 1 offsets of w bytes each, and the area, which reaches to the end.
-- Entry k is the part of the area from offset k up to offset k + 1.
abbrev pub Width : ℕ → Type 0
Width w = (w ≡ 2) ⊎ (w ≡ 4)

unfoldable pub offset : ℕ → List ℕ → ℕ → ℕ
offset w b k = number_at w b (2 + w * k)

unfoldable pub area_start : ℕ → ℕ → ℕ
area_start w n = 2 + w * (n + 1)

unfoldable pub area : ℕ → ℕ → List ℕ → List ℕ
area w n b = drop (area_start w n) b

-- none of the offsets 1 to n is below the one before it
unfoldable pub never_fall : ℕ → List ℕ → ℕ → Bool
never_fall w b zero = true
never_fall w b (suc k) = never_fall w b k && leb (offset w b k) (offset w b (suc k))

-- the offsets are all there, the first is 0, they never fall, and the last is the area's length
unfoldable pub table_good : ℕ → ℕ → List ℕ → Bool
table_good w n b =
    leb (area_start w n) (length b)
    && eqb (offset w b 0) 0
    && never_fall w b n
    && eqb (offset w b n) (length (area w n b))

unfoldable pub entry_of : ℕ → ℕ → List ℕ → ℕ → List ℕ
entry_of w n b k = take (offset w b (k + 1) - offset w b k) (drop (offset w b k) (area w n b))

-- a good table of n entries, of which k is one
pub record HasEntry (w n : ℕ) (b : List ℕ) (k : ℕ) : Type 0 where
  pub width : Width w
  pub good : table_good w n b ≡ true
  pub below : k < n
