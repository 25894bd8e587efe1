-- Which forms and sheets are well made: document 01's rules for each, one fact each, in its words.
use Rattle.std.specs.Prelude.{Bool, true, false, ◌||◌, List, [], ◌∷◌, ◌⊎◌, ◌≡◌, ℕ, ◌+◌, ◌*◌, ◌≤◌, ◌<◌, length, take, drop}
use Rattle.std.proofs.Math.Option.{some}
use Rattle.std.proofs.Math.ListN.{get_elem?}
use Rattle.utf8.specs.Utf8.{well_formed}
use Rattle.wire.specs.Wire.{offset}
use Rattle.rules.specs.Base.{occurrences}
use Rattle.rules.specs.Value.{Base, yes_no, text, number, Kind, one}
use Rattle.rules.specs.Sheet.{argument_count, sheet_area}
use Rattle.rules.specs.Form.{Node, Name, Form, node_count, field_count, name_count, area_length, read_form, name_bytes, one_character}
use Rattle.rules.specs.Tree.{optional_kind, list_kind, count_kind, last_kind, choice_kind}
use Rattle.rules.specs.Accept.{uses}
use Rattle.rules.specs.Demands.{All}

-- A name record, over the area: type, offset, length
pub record NameMade (area : List ℕ) (m : Name) : Type 0 where
  pub type : m.type ≤ 2
  pub inside : m.offset + m.size ≤ length area
  -- 0 short (exactly one UTF-8 character)
  pub short : m.type ≡ 0 → (c : ℕ) × (one_character (name_bytes area m) ≡ some c)
  -- 1 long (UTF-8, may be empty); 2 text (arbitrary bytes)
  pub long : m.type ≡ 1 → well_formed (name_bytes area m) ≡ true

-- Flags and arguments have one name or more, all short or long: names p.., q of them
pub record NamesMade (f : Form) (x : Node) : Type 0 where
  pub more : 1 ≤ x.q
  pub inside : x.p + x.q ≤ length f.names
  pub types : All (λ (m : Name). m.type ≤ 1) (take x.q (drop x.p f.names))

-- Numbers a node doesn't use are 0
abbrev pub Unused : List ℕ → Type 0
Unused l = All (λ (n : ℕ). n ≡ 0) l

-- A yes/no fallback has lo 0 or 1, a text one a name of type 2
abbrev pub FallbackMade : Form → Node → Base → Type 0
FallbackMade f x yes_no = (x.lo ≤ 1) × Unused (x.r ∷ x.hi ∷ [])
FallbackMade f x text = ((m : Name) × (get_elem? f.names x.r ≡ some m) × (m.type ≡ 2)) × Unused (x.lo ∷ x.hi ∷ [])
FallbackMade f x number = Unused (x.r ∷ x.hi ∷ [])

-- Node k of a form, by the rows of the table. `kind` is the kind of each node, worked out from the kinds of its children;
-- `repeats` says of each whether it or a node beneath it at any depth is of kind 5 to 8. Children have lower numbers than their node
pub data NodeMade (f : Form) (kind : ℕ → Kind) (repeats : ℕ → Bool) (k : ℕ) (x : Node) : Type 0 where
  -- 1 flag: names p.., q of them; r 0 required, 1 switch
  flag_row :
      x.kind ≡ 1 → NamesMade f x → x.r ≤ 1 → Unused (x.lo ∷ x.hi ∷ [])
      → kind k ≡ one yes_no → repeats k ≡ false
      → NodeMade f kind repeats k x
  -- 2 argument: names p.., q; r 0 text, 2 number, plus 1 if adjacent
  argument_row :
      x.kind ≡ 2 → NamesMade f x → Unused (x.lo ∷ x.hi ∷ [])
      → ((x.r ≤ 1) × (kind k ≡ one text)) ⊎ ((2 ≤ x.r) × (x.r ≤ 3) × (kind k ≡ one number)) → repeats k ≡ false
      → NodeMade f kind repeats k x
  -- 3 positional: p 0 unrestricted, 1 strict, 2 non-strict; r 0 text, 2 number
  positional_row :
      x.kind ≡ 3 → x.p ≤ 2 → Unused (x.q ∷ x.lo ∷ x.hi ∷ [])
      → ((x.r ≡ 0) × (kind k ≡ one text)) ⊎ ((x.r ≡ 2) × (kind k ≡ one number)) → repeats k ≡ false
      → NodeMade f kind repeats k x
  -- 4 optional: child p; r catch 0/1. Takes a base value or a list of base values
  optional_row :
      x.kind ≡ 4 → x.p < k → x.r ≤ 1 → Unused (x.q ∷ x.lo ∷ x.hi ∷ [])
      → optional_kind (kind x.p) ≡ some (kind k) → repeats k ≡ repeats x.p
      → NodeMade f kind repeats k x
  -- 5, 6 many, some: child p; r catch 0/1. Kinds 5 to 8 take a base or optional base; no kind 5 to 8 is beneath another
  list_row :
      (x.kind ≡ 5) ⊎ (x.kind ≡ 6) → x.p < k → x.r ≤ 1 → Unused (x.q ∷ x.lo ∷ x.hi ∷ [])
      → list_kind (kind x.p) ≡ some (kind k) → repeats x.p ≡ false → repeats k ≡ true
      → NodeMade f kind repeats k x
  -- 7 count: child p; a number
  count_row :
      x.kind ≡ 7 → x.p < k → Unused (x.q ∷ x.r ∷ x.lo ∷ x.hi ∷ [])
      → count_kind (kind x.p) ≡ some (kind k) → repeats x.p ≡ false → repeats k ≡ true
      → NodeMade f kind repeats k x
  -- 8 last: child p; the child's kind
  last_row :
      x.kind ≡ 8 → x.p < k → Unused (x.q ∷ x.r ∷ x.lo ∷ x.hi ∷ [])
      → last_kind (kind x.p) ≡ some (kind k) → repeats x.p ≡ false → repeats k ≡ true
      → NodeMade f kind repeats k x
  -- 9 choice: children p, q; the same for both
  choice_row :
      x.kind ≡ 9 → x.p < k → x.q < k → Unused (x.r ∷ x.lo ∷ x.hi ∷ [])
      → choice_kind (kind x.p) (kind x.q) ≡ some (kind k) → repeats k ≡ (repeats x.p || repeats x.q)
      → NodeMade f kind repeats k x
  -- 10 fallback: child p, a base; lo, or name r if text
  fallback_row :
      (b : Base) → x.kind ≡ 10 → x.p < k → x.q ≡ 0 → FallbackMade f x b
      → kind x.p ≡ one b → kind k ≡ one b → repeats k ≡ repeats x.p
      → NodeMade f kind repeats k x
  -- 11 guard: child p, a number; lo ≤ hi
  guard_row :
      x.kind ≡ 11 → x.p < k → Unused (x.q ∷ x.r ∷ []) → x.lo ≤ x.hi
      → kind x.p ≡ one number → kind k ≡ one number → repeats k ≡ repeats x.p
      → NodeMade f kind repeats k x

-- the first n nodes, with one kind and one answer about repeats for each of them
pub record NodesMade (f : Form) (n : ℕ) : Type 0 where
  pub kind : ℕ → Kind
  pub repeats : ℕ → Bool
  pub each : (k : ℕ) (x : Node) → k < n → get_elem? f.nodes k ≡ some x → NodeMade f kind repeats k x

-- Counts and length of a form
pub record CountsMade (b : List ℕ) : Type 0 where
  -- nodes n (1..64), fields f (1..16), names m (0..128), area a (0..4,096)
  pub nodes : (1 ≤ node_count b) × (node_count b ≤ 64)
  pub fields : (1 ≤ field_count b) × (field_count b ≤ 16)
  pub names : name_count b ≤ 128
  pub area : area_length b ≤ 4096
  -- length exactly 8 + 2f + 16n + 6m + a
  pub exact : length b ≡ 8 + 2 * field_count b + 16 * node_count b + 6 * name_count b + area_length b

pub record WellMade (b : List ℕ) : Type 0 where
  pub counts : CountsMade b
  -- every name record, and every node
  pub name_records : All (NameMade (read_form b).area) (read_form b).names
  pub node_records : NodesMade (read_form b) (node_count b)
  -- every field is a node; each node is used exactly once, as child or field
  pub field_numbers : All (λ (k : ℕ). k < node_count b) (read_form b).fields
  pub used_once : (k : ℕ) → k < node_count b → occurrences k (uses (read_form b)) ≡ 1

-- A sheet: count n of arguments, n + 1 offsets of two bytes, then the byte area, which reaches to the end
pub record SheetMade (s : List ℕ) : Type 0 where
  -- the count is there: 0..256 arguments
  pub counted : 2 ≤ length s
  pub count : argument_count s ≤ 256
  -- n + 1 offsets are there, then the byte area (at most 32,768)
  pub offsets : 2 + 2 * (argument_count s + 1) ≤ length s
  pub area : length (sheet_area s) ≤ 32768
  -- first offset 0, offsets never fall
  pub first : offset 2 s 0 ≡ 0
  pub rising : (k : ℕ) → k < argument_count s → offset 2 s k ≤ offset 2 s (k + 1)
  -- the last equals the area's length, nothing follows
  pub last : offset 2 s (argument_count s) ≡ length (sheet_area s)
