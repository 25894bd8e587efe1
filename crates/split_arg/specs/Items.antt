-- Items of the code, as records of seven words and as items of bytes.
use Rattle.std.specs.Prelude.{Bool, false, List, [], ◌∷◌, ℕ, ◌+◌, ◌*◌, eqb, get_or, take, drop}
use Rattle.std.proofs.Math.Option.{Option, some}
use Rattle.std.specs.Prelude.{if◌then◌else◌}
use Rattle.rules.specs.Base.{◌>>?◌}
use Rattle.rules.specs.Calls.{part_in}
use Rattle.rules.specs.Split.{bit}
use Rattle.rules.specs.Split as rules
use Rattle.split_arg.specs.declared.Part.{Part}
use Rattle.split_arg.specs.declared.Item.{Item}
use Rattle.split_arg.specs.declared.Item.TheVariants.{Short, Long, ArgWord, Word, PosWord}

abbrev pub bit_of : Bool → ℕ
bit_of b = bit b

-- an empty part has offset 0
unfoldable pub part_of : ℕ → ℕ → Part
part_of offset size = if eqb size 0 then record { offset = 0; length = 0 } else record { offset = offset; length = size }

abbrev pub nothing : Part
nothing = record { offset = 0; length = 0 }

abbrev pub record_words : ℕ → Bool → ℕ → Part → Part → List ℕ
record_words kind adjacent letter name text =
    kind ∷ bit adjacent ∷ letter ∷ name.offset ∷ name.length ∷ text.offset ∷ text.length ∷ []

abbrev pub record_of : Item → List ℕ
record_of (Short c a t) = record_words 1 a c nothing t
record_of (Long n a t) = record_words 2 a 0 n t
record_of (ArgWord t) = record_words 3 false 0 nothing t
record_of (Word t) = record_words 4 false 0 nothing t
record_of (PosWord t) = record_words 5 false 0 nothing t

abbrev pub record_at : List ℕ → ℕ → List ℕ
record_at items at = take 7 (drop (7 * at) items)

abbrev pub part_at : List ℕ → ℕ → Part
part_at r k = record { offset = get_or r k 0; length = get_or r (k + 1) 0 }

-- the item of a record
unfoldable pub item_of : List ℕ → Item
item_of r =
    if eqb (get_or r 0 0) 1 then Short (get_or r 2 0) (eqb (get_or r 1 0) 1) (part_at r 5) else
    (if eqb (get_or r 0 0) 2 then Long (part_at r 3) (eqb (get_or r 1 0) 1) (part_at r 5) else
    (if eqb (get_or r 0 0) 3 then ArgWord (part_at r 5) else
    (if eqb (get_or r 0 0) 4 then Word (part_at r 5) else PosWord (part_at r 5))))

-- the item of bytes that an item stands for in an area
abbrev pub in_area : List ℕ → Item → Option rules.Item
in_area area (Short c a t) = part_in area t.offset t.length >>? λ x. some (rules.Short c a x)
in_area area (Long n a t) =
    part_in area n.offset n.length >>? λ y. part_in area t.offset t.length >>? λ x. some (rules.Long y a x)
in_area area (ArgWord t) = part_in area t.offset t.length >>? λ x. some (rules.ArgWord x)
in_area area (Word t) = part_in area t.offset t.length >>? λ x. some (rules.Word x)
in_area area (PosWord t) = part_in area t.offset t.length >>? λ x. some (rules.PosWord x)
