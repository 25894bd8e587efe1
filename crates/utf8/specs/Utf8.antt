-- UTF-8, from the Unicode Standard, section 3.9: well-formed byte sequences (Table 3-7) and the scalar value that each encodes (Table 3-6).
use Rattle.std.specs.Prelude.{if◌then◌else◌}
use Rattle.std.specs.Prelude.{Bool, true, false, ◌&&◌, Option, Some, None, List, [], ◌∷◌, ℕ, zero, suc, ◌+◌, ◌-◌, ◌*◌, ◌%◌, ◌^◌, leb, length, get_or, take, drop}
use Rattle.utf8.specs.declared.Char.{Char}

infix 68 ◌to◌
-- a range of bytes, both ends in it
pub data Range : Type 0 where
  ◌to◌ : ℕ → ℕ → Range

-- Table 3-7, row by row: the range of each byte of a sequence
unfoldable pub table : List (List Range)
table =
    (0x00 to 0x7F ∷ [])
    ∷ (0xC2 to 0xDF ∷ 0x80 to 0xBF ∷ [])
    ∷ (0xE0 to 0xE0 ∷ 0xA0 to 0xBF ∷ 0x80 to 0xBF ∷ [])
    ∷ (0xE1 to 0xEC ∷ 0x80 to 0xBF ∷ 0x80 to 0xBF ∷ [])
    ∷ (0xED to 0xED ∷ 0x80 to 0x9F ∷ 0x80 to 0xBF ∷ [])
    ∷ (0xEE to 0xEF ∷ 0x80 to 0xBF ∷ 0x80 to 0xBF ∷ [])
    ∷ (0xF0 to 0xF0 ∷ 0x90 to 0xBF ∷ 0x80 to 0xBF ∷ 0x80 to 0xBF ∷ [])
    ∷ (0xF1 to 0xF3 ∷ 0x80 to 0xBF ∷ 0x80 to 0xBF ∷ 0x80 to 0xBF ∷ [])
    ∷ (0xF4 to 0xF4 ∷ 0x80 to 0x8F ∷ 0x80 to 0xBF ∷ 0x80 to 0xBF ∷ [])
    ∷ []

unfoldable pub holds : Range → ℕ → Bool
holds (lo to hi) b = leb lo b && leb b hi

-- each range of the row holds the byte at its place; no row fits where bytes are missing
unfoldable pub fits : List Range → List ℕ → Bool
fits [] s = true
fits (r ∷ rs) [] = false
fits (r ∷ rs) (b ∷ s) = holds r b && fits rs s

-- Table 3-6: 0xxxxxxx, 110yyyyy, 1110zzzz, 11110uuu. How many bits of the first byte count, in a sequence of 1, 2, 3 and 4 bytes
unfoldable pub lead_bits : List ℕ
lead_bits = 7 ∷ 5 ∷ 4 ∷ 3 ∷ []

-- Table 3-6: 10xxxxxx. Each further byte adds its low six bits
unfoldable pub continued : ℕ → List ℕ → ℕ
continued v [] = v
continued v (b ∷ s) = continued (v * 64 + b % 64) s

-- the scalar value of one sequence
unfoldable pub scalar : List ℕ → ℕ
scalar [] = 0
scalar (b ∷ s) = continued (b % 2 ^ get_or lead_bits (length s) 0) s

-- the first row that fits gives the character and its size in bytes
unfoldable pub decode_by : List (List Range) → List ℕ → Option Char
decode_by [] s = None
decode_by (row ∷ rows) s =
    if fits row s then Some (record { value = scalar (take (length row) s); size = length row }) else decode_by rows s

-- the character that a list of bytes begins with
unfoldable pub decode : List ℕ → Option Char
decode s = decode_by table s

-- the character at a place: none at the end or past it
unfoldable pub decode_at : List ℕ → ℕ → Option Char
decode_at s at = decode (drop at s)

-- of a character's size, where there is a character
abbrev pub if_char : Option Char → (ℕ → Bool) → Bool
if_char (Some c) rest = rest c.size
if_char None rest = false

-- A list is well-formed if it is empty, or if it begins with a character and what follows that is well-formed.
-- `skip` counts the bytes of the last character that are still to be passed over.
unfoldable pub well_formed_after : ℕ → List ℕ → Bool
well_formed_after skip [] = true
well_formed_after (suc skip) (b ∷ s) = well_formed_after skip s
well_formed_after zero (b ∷ s) = if_char (decode (b ∷ s)) (λ size. well_formed_after (size - 1) s)

unfoldable pub well_formed : List ℕ → Bool
well_formed s = well_formed_after 0 s
