-- The Standard's own examples, computed by the definition: D92 of section 3.9, and the ill-formed sequences named beside it.
use mathlib.Core.Path.{◌≡◌, refl}
use mathlib.Core.Bool.{true, false}
use mathlib.Core.List.{List, [], ◌∷◌}
use Prim.Native.Nat.{ℕ}
use Rattle.std.specs.Prelude.{Some, None}
use Rattle.utf8.specs.Utf8.{table, holds, fits, lead_bits, continued, scalar, decode_by, decode, decode_at, well_formed_after, well_formed}

-- <004D, 0430, 4E8C, 10302>
sequence : List ℕ
sequence = 0x4D ∷ 0xD0 ∷ 0xB0 ∷ 0xE4 ∷ 0xBA ∷ 0x8C ∷ 0xF0 ∷ 0x90 ∷ 0x8C ∷ 0x82 ∷ []

characters :
    (decode_at sequence 0 ≡ Some (record { value = 0x4D; size = 1 }))
    × (decode_at sequence 1 ≡ Some (record { value = 0x430; size = 2 }))
    × (decode_at sequence 3 ≡ Some (record { value = 0x4E8C; size = 3 }))
    × (decode_at sequence 6 ≡ Some (record { value = 0x10302; size = 4 }))
    × (decode_at sequence 10 ≡ None)
    × (well_formed sequence ≡ true)
unfolding sequence decode_at decode decode_by table fits holds scalar continued lead_bits well_formed well_formed_after
characters = (refl, refl, refl, refl, refl, refl)

-- overlong forms, a surrogate, a value above 0x10FFFF, a sequence cut short
ill_formed :
    (well_formed (0xC0 ∷ 0xAF ∷ []) ≡ false)
    × (well_formed (0xE0 ∷ 0x9F ∷ 0x80 ∷ []) ≡ false)
    × (well_formed (0xED ∷ 0xA0 ∷ 0x80 ∷ []) ≡ false)
    × (well_formed (0xF4 ∷ 0x90 ∷ 0x80 ∷ 0x80 ∷ []) ≡ false)
    × (well_formed (0x41 ∷ 0xE4 ∷ 0xBA ∷ []) ≡ false)
unfolding decode decode_by table fits holds scalar continued lead_bits well_formed well_formed_after
ill_formed = (refl, refl, refl, refl, refl)
