-- Splitting: from arguments to items.
use Rattle.std.specs.Prelude.{Bool, true, false, ℕ, zero, suc, ◌+◌, ◌-◌, eqb, ltb, length, if◌then◌else◌, Some, None}
use mathlib.Core.List.{List, [], ◌∷◌, ◌++◌, flatten}
use Rattle.std.proofs.Math.Option.{Option, some, none}
use Rattle.utf8.specs.Utf8.{decode, well_formed}
use Rattle.rules.specs.Base.{null, contains, same, slice_from, concat_map}
use Rattle.rules.specs.Outcome.{Outcome, ok, fault, panic, ◌>>=◌, at, split_os_argument185, disambiguate_short207, construct361}
use Rattle.rules.specs.Accept.{Letters}

-- The Rust's Arg, preprocessed command line argument. The last part of Short and Long is the text for messages.
pub data Item : Type 0 where
  Short : (character : ℕ) → (adjacent : Bool) → (text : List ℕ) → Item
  Long : (name : List ℕ) → (adjacent : Bool) → (text : List ℕ) → Item
  ArgWord Word PosWord : (text : List ℕ) → Item

-- ---- `split_os_argument`
unfoldable pub dash : ℕ
dash = 45

unfoldable pub equals : ℕ
equals = 61

pub data ArgType : Type 0 where
  short long : ArgType

-- the name of an argument, and what follows its `=`
pub record Parts : Type 0 where
  pub type : ArgType
  pub name : List ℕ
  pub body : Option (List ℕ)

-- what stands before the first `=`, and what behind it
unfoldable pub before_equals : List ℕ → List ℕ
before_equals [] = []
before_equals (b ∷ s) = if eqb b equals then [] else b ∷ before_equals s

unfoldable pub behind_equals : List ℕ → Option (List ℕ)
behind_equals [] = none
behind_equals (b ∷ s) = if eqb b equals then some s else behind_equals s

-- A name that isn't UTF-8 makes the whole argument a Word
unfoldable pub parts : ArgType → List ℕ → Option (List ℕ) → Option Parts
parts t n b = if well_formed n then some (record { type = t; name = n; body = b }) else none

-- `--NAME`, `--NAME=V`: the name may be empty only with `=`
unfoldable pub split_long : List ℕ → Option Parts
split_long s =
    elim (behind_equals s) [
      | none ↦ if null s then none else parts long s none
      | some v ↦ parts long (before_equals s) (some v)
    ]

-- The byte after the dash belongs to the name. The first later `=` ends it: with one byte of name the rest is the value,
-- with more the name is the first byte alone, and the value all after it
unfoldable pub short_body : List ℕ → List ℕ → Outcome (List ℕ)
short_body n v =
    if ltb 1 (length n) then (at split_os_argument185 (slice_from 1 n) >>= λ s. ok (s ++ (equals ∷ v))) else ok v

unfoldable pub split_short : ℕ → List ℕ → Outcome (Option Parts)
split_short b s =
    elim (behind_equals s) [
      | none ↦ ok (parts short (b ∷ s) none)
      | some v ↦ short_body (b ∷ before_equals s) v >>= λ body. ok (parts short (b ∷ []) (some body))
    ]

unfoldable pub behind_dash : List ℕ → Outcome (Option Parts)
behind_dash [] = ok none
behind_dash (b ∷ s) = if eqb b dash then ok (split_long s) else split_short b s

unfoldable pub split_os_argument : List ℕ → Outcome (Option Parts)
split_os_argument [] = ok none
split_os_argument (b ∷ s) = if eqb b dash then behind_dash s else ok none

-- ---- `disambiguate_short`
-- A letter of a cluster: its character, its place in bytes, and the rest behind it
pub record Letter : Type 0 where
  pub character : ℕ
  pub place : ℕ
  pub rest : List ℕ

-- `skip` counts the bytes of the last character that are still to be passed over
unfoldable pub cluster_from : ℕ → ℕ → List ℕ → Outcome (List Letter)
cluster_from skip k [] = ok []
cluster_from (suc skip) k (b ∷ s) = cluster_from skip (suc k) s
cluster_from zero k (b ∷ s) =
    elim (decode (b ∷ s)) [
      | None ↦ fault (panic disambiguate_short207)
      | Some c ↦ at disambiguate_short207 (slice_from c.size (b ∷ s)) >>= λ rest.
          cluster_from (c.size - 1) (suc k) s >>= λ ls.
          ok (record { character = c.value; place = k; rest = rest } ∷ ls)
    ]

-- The outcome of a cluster, known before anything is written. Each holds the flags' letters before it.
pub data Cluster : Type 0 where
  -- a letter alone, always Short
  single : (letter : ℕ) → Cluster
  all_flags : (flags : List ℕ) → Cluster
  argument_letter : (flags : List ℕ) → (letter : ℕ) → (rest : List ℕ) → Cluster
  -- where the first unknown letter stands, in bytes
  withdrawn : (place : ℕ) → Cluster
  ambiguous : (flags : List ℕ) → Cluster

unfoldable pub pick_letter : Bool → Bool → Cluster → Cluster → Cluster → Cluster → Cluster
pick_letter true false flag argument neither both = flag
pick_letter false true flag argument neither both = argument
pick_letter false false flag argument neither both = neither
pick_letter true true flag argument neither both = both

-- each letter is looked up among the letters of flags and of arguments
unfoldable pub look_up : Letters → List ℕ → List Letter → Cluster
look_up l before [] = all_flags before
look_up l before (x ∷ xs) =
    pick_letter (contains l.flags x.character) (contains l.arguments x.character)
    (look_up l (before ++ (x.character ∷ [])) xs)
    (argument_letter before x.character x.rest)
    (withdrawn x.place)
    (ambiguous before)

unfoldable pub disambiguate_short : Letters → List Letter → Cluster
disambiguate_short l [] = all_flags []
disambiguate_short l (x ∷ xs) = if null x.rest then single x.character else look_up l [] (x ∷ xs)

-- the text of a flag is the whole argument for the first letter and empty after
unfoldable pub flag_items : List ℕ → List ℕ → List Item
flag_items os [] = []
flag_items os (c ∷ cs) = Short c false os ∷ flag_items [] cs

-- a non-empty rest makes the argument's letter adjacent and follows as Word
unfoldable pub argument_items : List ℕ → ℕ → List ℕ → List Item
argument_items os c rest = if null rest then Short c false os ∷ [] else Short c true os ∷ Word rest ∷ []

unfoldable pub cluster_items : List ℕ → Cluster → List Item
cluster_items os (single c) = Short c false os ∷ []
cluster_items os (all_flags cs) = flag_items os cs
cluster_items os (argument_letter cs c rest) = flag_items os cs ++ argument_items os c rest
cluster_items os (withdrawn k) = Word os ∷ []
cluster_items os (ambiguous cs) = flag_items os cs ++ (Word os ∷ [])

-- which of the items is the Word of an ambiguous letter
unfoldable pub ambiguous_at : Cluster → Option ℕ
ambiguous_at (single c) = none
ambiguous_at (all_flags cs) = none
ambiguous_at (argument_letter cs c rest) = none
ambiguous_at (withdrawn k) = none
ambiguous_at (ambiguous cs) = some (length cs)

-- ---- `construct`
-- the items of one argument; which of them is the Word of an ambiguous letter; whether it is the first `--`
pub record Group : Type 0 where
  pub items : List Item
  pub ambiguous : Option ℕ
  pub marker : Bool

unfoldable pub plain : List Item → Group
plain l = record { items = l; ambiguous = none; marker = false }

unfoldable pub cluster_group : List ℕ → Cluster → Group
cluster_group os c = record { items = cluster_items os c; ambiguous = ambiguous_at c; marker = false }

unfoldable pub short_group : Letters → List ℕ → List ℕ → Option (List ℕ) → Outcome Group
short_group l os n none = cluster_from 0 0 n >>= λ ls. ok (cluster_group os (disambiguate_short l ls))
short_group l os n (some v) =
    elim (decode n) [ None ↦ fault (panic construct361) | Some c ↦ ok (plain (Short c.value true os ∷ ArgWord v ∷ [])) ]

unfoldable pub long_group : List ℕ → List ℕ → Option (List ℕ) → Group
long_group os n none = plain (Long n false os ∷ [])
long_group os n (some v) = plain (Long n true os ∷ ArgWord v ∷ [])

unfoldable pub parts_group : Letters → List ℕ → Parts → Outcome Group
parts_group l os x =
    elim x.type [ short ↦ short_group l os x.name x.body | long ↦ ok (long_group os x.name x.body) ]

unfoldable pub word_group : List ℕ → Group
word_group os =
    if same os (dash ∷ dash ∷ []) then record { items = PosWord os ∷ []; ambiguous = none; marker = true } else plain (Word os ∷ [])

unfoldable pub split_argument : Letters → List ℕ → Outcome Group
split_argument l os = split_os_argument os >>= λ p. elim p [ none ↦ ok (word_group os) | some x ↦ parts_group l os x ]

-- What splitting gives: the items of each argument it read, the place of the first `--`, and the place of the Word of an
-- ambiguous letter, behind whose argument nothing is split
pub record Split : Type 0 where
  pub groups : List (List Item)
  pub marker : Option ℕ
  pub ambiguous : Option ℕ

-- After the first `--` all is PosWord
unfoldable pub positionals : List (List ℕ) → List (List Item)
positionals [] = []
positionals (os ∷ rest) = (PosWord os ∷ []) ∷ positionals rest

-- one argument whose first item gets place k, and the others
unfoldable pub joined : ℕ → Group → List (List ℕ) → Outcome Split → Outcome Split
joined k g rest others =
    elim g.ambiguous [
      | some i ↦ ok (record { groups = g.items ∷ []; marker = none; ambiguous = some (k + i) })
      | none ↦ if g.marker
          then ok (record { groups = g.items ∷ positionals rest; marker = some k; ambiguous = none })
          else (others >>= λ s. ok (record { groups = g.items ∷ s.groups; marker = s.marker; ambiguous = s.ambiguous }))
    ]

unfoldable pub split_from : Letters → ℕ → List (List ℕ) → Outcome Split
split_from l k [] = ok (record { groups = []; marker = none; ambiguous = none })
split_from l k (os ∷ rest) =
    split_argument l os >>= λ g. joined k g rest (split_from l (k + length g.items) rest)

unfoldable pub items_of : Split → List Item
items_of s = flatten s.groups

-- ---- item records
-- Seven u32. Unused ones are 0
pub record ItemRecord : Type 0 where
  pub kind : ℕ
  pub adjacent : ℕ
  pub character : ℕ
  pub name_offset : ℕ
  pub name_length : ℕ
  pub text_offset : ℕ
  pub text_length : ℕ

unfoldable pub record_words : ItemRecord → List ℕ
record_words r =
    r.kind ∷ r.adjacent ∷ r.character ∷ r.name_offset ∷ r.name_length ∷ r.text_offset ∷ r.text_length ∷ []

unfoldable pub bit : Bool → ℕ
bit b = if b then 1 else 0

-- an empty part has offset 0
unfoldable pub part_offset : ℕ → ℕ → ℕ
part_offset offset size = if eqb size 0 then 0 else offset

-- an argument begins and ends at these offsets of the area: a name stands behind its two dashes, a text is the end of it
unfoldable pub record_with : ℕ → ℕ → (kind adjacent character : ℕ) → (name text : List ℕ) → ItemRecord
record_with begin end kind adjacent character n t = record {
  kind = kind;
  adjacent = adjacent;
  character = character;
  name_offset = part_offset (begin + 2) (length n);
  name_length = length n;
  text_offset = part_offset (end - length t) (length t);
  text_length = length t;
}

-- only Short has a character, only Long a name
unfoldable pub item_record : ℕ → ℕ → Item → ItemRecord
item_record begin end (Short c a t) = record_with begin end 1 (bit a) c [] t
item_record begin end (Long n a t) = record_with begin end 2 (bit a) 0 n t
item_record begin end (ArgWord t) = record_with begin end 3 0 0 [] t
item_record begin end (Word t) = record_with begin end 4 0 0 [] t
item_record begin end (PosWord t) = record_with begin end 5 0 0 [] t

unfoldable pub item_words : ℕ → ℕ → Item → List ℕ
item_words begin end x = record_words (item_record begin end x)

-- the records of the groups, the first of whose arguments begins at an offset
unfoldable pub records_from : ℕ → List (List ℕ) → List (List Item) → List ℕ
records_from begin arguments [] = []
records_from begin [] (g ∷ gs) = []
records_from begin (os ∷ rest) (g ∷ gs) =
    concat_map (item_words begin (begin + length os)) g ++ records_from (begin + length os) rest gs
