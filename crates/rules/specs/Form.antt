-- The form: header of counts, field numbers, nodes of 16 bytes, names of 6 bytes, the area.
use Rattle.std.specs.Prelude.{Bool, true, false, not, ◌&&◌, ◌||◌, List, map, ℕ, ◌+◌, ◌*◌, leb, eqb, length, take, drop, if◌then◌else◌, Some, None}
use Rattle.std.proofs.Math.Option.{Option, some, none}
use Rattle.utf8.specs.Utf8.{decode, well_formed}
use Rattle.wire.specs.Wire.{number_at}
use Rattle.rules.specs.Base.{all, is_some, numbers}

pub record Node : Type 0 where
  pub kind : ℕ
  pub p : ℕ
  pub q : ℕ
  pub r : ℕ
  pub lo : ℕ
  pub hi : ℕ

pub record Name : Type 0 where
  pub type : ℕ
  pub offset : ℕ
  pub size : ℕ

pub record Form : Type 0 where
  pub fields : List ℕ
  pub nodes : List Node
  pub names : List Name
  pub area : List ℕ

-- The header: nodes n (1..64), fields f (1..16), names m (0..128), area a (0..4,096)
unfoldable pub node_count : List ℕ → ℕ
node_count b = number_at 2 b 0

unfoldable pub field_count : List ℕ → ℕ
field_count b = number_at 2 b 2

unfoldable pub name_count : List ℕ → ℕ
name_count b = number_at 2 b 4

unfoldable pub area_length : List ℕ → ℕ
area_length b = number_at 2 b 6

unfoldable pub counts_good : List ℕ → Bool
counts_good b =
    leb 8 (length b)
    && (leb 1 (node_count b) && leb (node_count b) 64)
    && (leb 1 (field_count b) && leb (field_count b) 16)
    && leb (name_count b) 128
    && leb (area_length b) 4096

-- where the nodes, the names and the area begin, and where the form ends
unfoldable pub nodes_at : List ℕ → ℕ
nodes_at b = 8 + 2 * field_count b

unfoldable pub names_at : List ℕ → ℕ
names_at b = nodes_at b + 16 * node_count b

unfoldable pub area_at : List ℕ → ℕ
area_at b = names_at b + 6 * name_count b

unfoldable pub form_length : List ℕ → ℕ
form_length b = area_at b + area_length b

-- `bench`'s joined input: one shorter than its form, or with counts out of limits, is all form
unfoldable pub form_end : List ℕ → ℕ
form_end b = if counts_good b && leb (form_length b) (length b) then form_length b else length b

unfoldable pub read_node : List ℕ → ℕ → Node
read_node b i = record {
  kind = number_at 2 b i;
  p = number_at 2 b (i + 2);
  q = number_at 2 b (i + 4);
  r = number_at 2 b (i + 6);
  lo = number_at 4 b (i + 8);
  hi = number_at 4 b (i + 12);
}

unfoldable pub read_name : List ℕ → ℕ → Name
read_name b i = record { type = number_at 2 b i; offset = number_at 2 b (i + 2); size = number_at 2 b (i + 4) }

unfoldable pub read_form : List ℕ → Form
read_form b = record {
  fields = map (λ k. number_at 2 b (8 + 2 * k)) (numbers (field_count b) 0);
  nodes = map (λ k. read_node b (nodes_at b + 16 * k)) (numbers (node_count b) 0);
  names = map (λ k. read_name b (names_at b + 6 * k)) (numbers (name_count b) 0);
  area = drop (area_at b) b;
}

-- ---- names
unfoldable pub name_bytes : List ℕ → Name → List ℕ
name_bytes a x = take x.size (drop x.offset a)

-- the one character that the bytes are
unfoldable pub one_character : List ℕ → Option ℕ
one_character s = elim (decode s) [ None ↦ none | Some c ↦ if eqb c.size (length s) then some c.value else none ]

-- types: 0 short (exactly one UTF-8 character), 1 long (UTF-8, may be empty), 2 text (arbitrary bytes)
unfoldable pub type_good : ℕ → List ℕ → Bool
type_good t s =
    if eqb t 0 then is_some (one_character s) else (if eqb t 1 then well_formed s else eqb t 2)

unfoldable pub name_good : List ℕ → Name → Bool
name_good a x = leb (x.offset + x.size) (length a) && type_good x.type (name_bytes a x)

-- The portable mark: every name record of type 0 is one of 0..9, A..Z, a..z, and none is W
unfoldable pub is_alphanumeric : ℕ → Bool
is_alphanumeric c = (leb 48 c && leb c 57) || ((leb 65 c && leb c 90) || (leb 97 c && leb c 122))

-- W is reserved for vendor options
unfoldable pub portable_character : ℕ → Bool
portable_character c = is_alphanumeric c && not (eqb c 87)

unfoldable pub portable_name : List ℕ → Name → Bool
portable_name a x =
    if eqb x.type 0 then elim (one_character (name_bytes a x)) [ none ↦ false | some c ↦ portable_character c ] else true

unfoldable pub portable : Form → Bool
portable f = all (portable_name f.area) f.names
