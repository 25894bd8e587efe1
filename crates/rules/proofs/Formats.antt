-- The formats of the sheet, of the batch and of the form: reading what was written, and writing what was read.
use mathlib.Core.Path.{◌≡◌, refl, sym, ◌∙◌, ap, ap₂}
use mathlib.Core.Bool.{Bool, true, false, ◌&&◌}
use mathlib.Core.Logic.{inl}
use mathlib.Core.List.{List, [], ◌∷◌, ◌++◌, map, flatten, append_assoc}
use Prim.Native.Nat.{ℕ, zero, suc, ◌+◌, ◌-◌, ◌*◌, ◌/◌, ◌%◌, ◌^◌, ◌≤◌, ◌<◌}
use native.Mathlib.Nat.{zero-add, add-zero, add_assoc, mul-zero, mul-suc, pow-succ', le_refl}
use native.Mathlib.Numerals.{add-one}
use native.Mathlib.Omega.{arith}
use lib.Dec.{leb, ltb, lit<}
use borrow.Author.Tests.{le-leb, le-ltb, eq-eqb, leb-true, ltb-false, eqb-true}
use lib.ListN.{length, take, drop, length-append, length-drop, length-map, take-append-drop}
use lib.Seq.{take_at, drop_at, take-append_seam, take-length, drop-append-add, take-add, drop-drop, get_or-drop}
use Rattle.std.specs.Prelude.{if◌then◌else◌}
use Rattle.wire.specs.Wire.{le, number_at, offset, area_start, area, never_fall, table_good, entry_of, HasEntry}
use Rattle.wire.specs.Laws.{number_bound, rises_more, GoodTable, good_table, offset_rises, placed, entry_length}
use Rattle.rules.specs.Base.{numbers, concat_map}
use Rattle.rules.specs.Sheet.{argument_count, sheet_area, sheet_good, sheet_fault, arguments}
use Rattle.rules.specs.Form.{Node, Name, Form, read_node, read_name, read_form}
use Rattle.rules.specs.Form.{node_count, field_count, name_count, area_length, counts_good, nodes_at, names_at, area_at, form_length}
use Rattle.rules.specs.Accept.{length_good}
use Rattle.rules.specs.Batch.{sheet_count, batch_good, batch_sheets}
use Rattle.rules.specs.Encode.{bytes_of, words_of, offsets_from, encode_sheet, encode_table, encode_node, encode_name, encode_form}
use Rattle.rules.specs.Demands.{All, Bytes}
use Rattle.rules.proofs.Places.{left, right}

-- ---- numbers

pub bytes_length : (w n : ℕ) → length (bytes_of w n) ≡ w
unfolding bytes_of
bytes_length zero n = refl
bytes_length (suc w) n = ap suc (bytes_length w (n / 256))

-- a number is read from its bytes
pub le_bytes : (w n : ℕ) → n < 256 ^ w → le (bytes_of w n) ≡ n
unfolding bytes_of le
le_bytes zero n h = let z : n < 1 = h in omega arith
le_bytes (suc w) n h =
    let small : n / 256 < 256 ^ w = omega (arith, pow-succ' 256 w) in
    omega (arith, le_bytes w (n / 256) small)

-- bytes are those of the number that is read from them
pub bytes_le : (w : ℕ) (b : List ℕ) → Bytes b → w ≤ length b → bytes_of w (le (take w b)) ≡ take w b
unfolding bytes_of le
bytes_le zero b small h = refl
bytes_le (suc w) [] small h = absurd (omega arith)
bytes_le (suc w) (x ∷ b) small h =
    let n = le (take w b) in
    let low : (x + 256 * n) % 256 ≡ x = omega (arith, small 0) in
    let high : (x + 256 * n) / 256 ≡ n = omega (arith, small 0) in
    rw (low, high, bytes_le w b (λ k. small (suc k)) (omega arith))

module _ (b : List ℕ) (small : Bytes b) where
  pub bytes_drop : (i : ℕ) → Bytes (drop i b)
  bytes_drop i k = rw (get_or-drop i b k 0) (small (i + k))

  pub bytes_number : (w i : ℕ) → i + w ≤ length b → bytes_of w (number_at w b i) ≡ take w (drop i b)
  unfolding number_at
  bytes_number w i h = bytes_le w (drop i b) (bytes_drop i) (omega (arith, length-drop i b))

-- a number behind other bytes
pub number_first : (w : ℕ) (pre b : List ℕ) (i : ℕ) → length pre ≡ i → number_at w (pre ++ b) i ≡ le (take w b)
unfolding number_at
number_first w pre b i e = rw (drop_at pre b i e)

pub number_behind : (w : ℕ) (pre b : List ℕ) (i d : ℕ) → length pre ≡ i → number_at w (pre ++ b) (i + d) ≡ le (take w (drop d b))
unfolding number_at
number_behind w pre b i d e = rw (← e, drop-append-add pre b d)

-- ---- records of one size, one after the other

numbers_length : (n k : ℕ) → length (numbers n k) ≡ n
unfolding numbers
numbers_length zero k = refl
numbers_length (suc n) k = ap suc (numbers_length n (suc k))

pub counted : {A : Type 0} (R : ℕ → A) (n : ℕ) → length (map R (numbers n 0)) ≡ n
counted R n = length-map (numbers n 0) R ∙ numbers_length n 0

all_numbers : {A : Type 0} (P : A → Type 0) (R : ℕ → A) → ((k : ℕ) → P (R k)) → (n j : ℕ) → All P (map R (numbers n j))
unfolding numbers
all_numbers P R h zero j = tt
all_numbers P R h (suc n) j = (h j, all_numbers P R h n (suc j))

module _ {A : Type 0} (enc : A → List ℕ) (size : ℕ) (long : (x : A) → length (enc x) ≡ size) where
  pub all_length : (xs : List A) → length (concat_map enc xs) ≡ size * length xs
  unfolding concat_map
  all_length [] = sym (mul-zero size)
  all_length (x ∷ xs) = omega (arith, length-append (enc x) (concat_map enc xs), long x, all_length xs)

  -- what was written is read
  read_all :
      (R : List ℕ → ℕ → A) (P : A → Type 0)
      → ((pre post : List ℕ) (i : ℕ) (x : A) → P x → length pre ≡ i → R (pre ++ (enc x ++ post)) i ≡ x)
      → (xs : List A) (b pre post : List ℕ) (base j : ℕ)
      → All P xs
      → b ≡ pre ++ (concat_map enc xs ++ post)
      → length pre ≡ base + size * j
      → map (λ k. R b (base + size * k)) (numbers (length xs) j) ≡ xs
  unfolding concat_map numbers
  read_all R P here [] b pre post base j p e l = refl
  read_all R P here (x ∷ xs) b pre post base j p e l =
      let rest = concat_map enc xs in
      let first : b ≡ pre ++ (enc x ++ (rest ++ post)) = e ∙ ap (λ (t : List ℕ). pre ++ t) (append_assoc (enc x) rest post) in
      let next : b ≡ pre ++ enc x ++ (rest ++ post) = first ∙ sym (append_assoc pre (enc x) (rest ++ post)) in
      ap₂ (λ (y : A) (ys : List A). y ∷ ys)
      (ap (λ (t : List ℕ). R t (base + size * j)) first ∙ here pre (rest ++ post) (base + size * j) x p.0 l)
      (read_all R P here xs b (pre ++ enc x) post base (suc j) p.1 next
      (omega (arith, length-append pre (enc x), long x, mul-suc size j)))

-- what was read is written
write_all :
    {A : Type 0} (enc : A → List ℕ) (size : ℕ) (R : List ℕ → ℕ → A) (b : List ℕ)
    → ((i : ℕ) → i + size ≤ length b → enc (R b i) ≡ take size (drop i b))
    → (n base j : ℕ)
    → base + size * j + size * n ≤ length b
    → concat_map enc (map (λ k. R b (base + size * k)) (numbers n j)) ≡ take (size * n) (drop (base + size * j) b)
unfolding concat_map numbers
write_all enc size R b back zero base j h = rw (mul-zero size)
write_all enc size R b back (suc n) base j h =
    let i = base + size * j in
    let here : i + size ≤ length b = omega (arith, mul-suc size n) in
    let step : base + size * suc j ≡ i + size = omega (arith, mul-suc size j) in
    let more : size * suc n ≡ size + size * n = omega (arith, mul-suc size n) in
    let later = write_all enc size R b back n base (suc j) (omega (arith, mul-suc size n)) in
    rw (back i here, later, step, more, take-add size (size * n) (drop i b), drop-drop size i b)

-- a part and what follows it
part_join : {A : Type 0} (i n : ℕ) (b : List A) → take n (drop i b) ++ drop (i + n) b ≡ drop i b
part_join i n b = rw (← drop-drop n i b) (take-append-drop n (drop i b))

module _ (b : List ℕ) where
  records_back :
      {A : Type 0} (enc : A → List ℕ) (size : ℕ) (R : List ℕ → ℕ → A)
      → ((i : ℕ) → i + size ≤ length b → enc (R b i) ≡ take size (drop i b))
      → (n base : ℕ)
      → base + size * n ≤ length b
      → concat_map enc (map (λ k. R b (base + size * k)) (numbers n 0)) ≡ take (size * n) (drop base b)
  records_back enc size R back n base h =
      let start : base + size * 0 ≡ base = omega arith in
      rw start at (write_all enc size R b back n base 0 (omega arith))

  -- numbers of w bytes
  words_back :
      (w n i : ℕ)
      → Bytes b
      → i + w * n ≤ length b
      → words_of w (map (λ k. number_at w b (i + w * k)) (numbers n 0)) ≡ take (w * n) (drop i b)
  unfolding words_of
  words_back w n i small h = records_back (bytes_of w) w (number_at w) (λ j l. bytes_number b small w j l) n i h

-- ---- the form

-- numbers of two and of four bytes
abbrev pub Small : ℕ → Type 0
Small n = n < 65536

abbrev pub Wide : ℕ → Type 0
Wide n = n < 4294967296

pub record NodeSmall (x : Node) : Type 0 where
  pub kind : Small x.kind
  pub p : Small x.p
  pub q : Small x.q
  pub r : Small x.r
  pub lo : Wide x.lo
  pub hi : Wide x.hi

pub record NameSmall (x : Name) : Type 0 where
  pub type : Small x.type
  pub offset : Small x.offset
  pub size : Small x.size

-- a form whose counts and numbers are within the limits
pub record InLimits (f : Form) : Type 0 where
  pub nodes : (1 ≤ length f.nodes) × (length f.nodes ≤ 64)
  pub fields : (1 ≤ length f.fields) × (length f.fields ≤ 16)
  pub names : length f.names ≤ 128
  pub area : length f.area ≤ 4096
  pub field_numbers_lem : All Small f.fields
  pub node_numbers : All NodeSmall f.nodes
  pub name_numbers : All NameSmall f.names

node_length : (x : Node) → length (encode_node x) ≡ 16
unfolding encode_node words_of concat_map bytes_of
node_length x = refl

name_length_lem : (x : Name) → length (encode_name x) ≡ 6
unfolding encode_name words_of concat_map bytes_of
name_length_lem x = refl

number_here : (w : ℕ) (pre post : List ℕ) (i n : ℕ) → n < 256 ^ w → length pre ≡ i → number_at w (pre ++ (bytes_of w n ++ post)) i ≡ n
number_here w pre post i n h e =
    number_first w pre (bytes_of w n ++ post) i e ∙ ap le (take_at (bytes_of w n) post w (bytes_length w n)) ∙ le_bytes w n h

name_here : (pre post : List ℕ) (i : ℕ) (x : Name) → NameSmall x → length pre ≡ i → read_name (pre ++ (encode_name x ++ post)) i ≡ x
unfolding read_name encode_name words_of concat_map bytes_of
name_here pre post i x s e =
    let b = encode_name x ++ post in
    let p : number_at 2 (pre ++ b) i ≡ x.type = number_first 2 pre b i e ∙ le_bytes 2 x.type s.type in
    let q : number_at 2 (pre ++ b) (i + 2) ≡ x.offset = number_behind 2 pre b i 2 e ∙ le_bytes 2 x.offset s.offset in
    let r : number_at 2 (pre ++ b) (i + 4) ≡ x.size = number_behind 2 pre b i 4 e ∙ le_bytes 2 x.size s.size in
    λ k. record { type = p k; offset = q k; size = r k }

node_here : (pre post : List ℕ) (i : ℕ) (x : Node) → NodeSmall x → length pre ≡ i → read_node (pre ++ (encode_node x ++ post)) i ≡ x
unfolding read_node encode_node words_of concat_map bytes_of
node_here pre post i x s e =
    let b = encode_node x ++ post in
    let kind : number_at 2 (pre ++ b) i ≡ x.kind = number_first 2 pre b i e ∙ le_bytes 2 x.kind s.kind in
    let p : number_at 2 (pre ++ b) (i + 2) ≡ x.p = number_behind 2 pre b i 2 e ∙ le_bytes 2 x.p s.p in
    let q : number_at 2 (pre ++ b) (i + 4) ≡ x.q = number_behind 2 pre b i 4 e ∙ le_bytes 2 x.q s.q in
    let r : number_at 2 (pre ++ b) (i + 6) ≡ x.r = number_behind 2 pre b i 6 e ∙ le_bytes 2 x.r s.r in
    let lo : number_at 4 (pre ++ b) (i + 8) ≡ x.lo = number_behind 4 pre b i 8 e ∙ le_bytes 4 x.lo s.lo in
    let hi : number_at 4 (pre ++ b) (i + 12) ≡ x.hi = number_behind 4 pre b i 12 e ∙ le_bytes 4 x.hi s.hi in
    λ k. record { kind = kind k; p = p k; q = q k; r = r k; lo = lo k; hi = hi k }

-- the bytes of a form within the limits
module _ (f : Form) (within : InLimits f) where
  bytes : List ℕ
  bytes = encode_form f

  header : List ℕ
  header = words_of 2 (length f.nodes ∷ length f.fields ∷ length f.names ∷ length f.area ∷ [])

  front_nodes : List ℕ
  front_nodes = header ++ words_of 2 f.fields

  front_names : List ℕ
  front_names = front_nodes ++ concat_map encode_node f.nodes

  front_area : List ℕ
  front_area = front_names ++ concat_map encode_name f.names

  header_length : length header ≡ 8
  unfolding header words_of concat_map bytes_of
  header_length = refl

  nodes_from : length front_nodes ≡ 8 + 2 * length f.fields
  unfolding front_nodes words_of
  nodes_from =
      let fields = concat_map (bytes_of 2) f.fields in
      omega (arith, length-append header fields, header_length, all_length (bytes_of 2) 2 (bytes_length 2) f.fields)

  names_from_lem : length front_names ≡ 8 + 2 * length f.fields + 16 * length f.nodes
  unfolding front_names
  names_from_lem =
      let nodes = concat_map encode_node f.nodes in
      omega (arith, length-append front_nodes nodes, nodes_from, all_length encode_node 16 node_length f.nodes)

  area_from : length front_area ≡ 8 + 2 * length f.fields + 16 * length f.nodes + 6 * length f.names
  unfolding front_area
  area_from =
      let names = concat_map encode_name f.names in
      omega (arith, length-append front_names names, names_from_lem, all_length encode_name 6 name_length_lem f.names)

  -- the same bytes, parted where the nodes, the names and the area begin
  at_fields :
      bytes
      ≡ header ++ (concat_map (bytes_of 2) f.fields ++ (concat_map encode_node f.nodes ++ (concat_map encode_name f.names ++ f.area)))
  unfolding bytes header encode_form words_of
  at_fields = refl

  at_nodes : bytes ≡ front_nodes ++ (concat_map encode_node f.nodes ++ (concat_map encode_name f.names ++ f.area))
  unfolding bytes header front_nodes encode_form
  at_nodes = sym (append_assoc header (words_of 2 f.fields) _)

  at_names : bytes ≡ front_names ++ (concat_map encode_name f.names ++ f.area)
  unfolding front_names
  at_names = at_nodes ∙ sym (append_assoc front_nodes (concat_map encode_node f.nodes) _)

  at_area : bytes ≡ front_area ++ f.area
  unfolding front_area
  at_area = at_names ∙ sym (append_assoc front_names (concat_map encode_name f.names) _)

  -- the counts
  nodes_count : node_count bytes ≡ length f.nodes
  unfolding node_count number_at bytes encode_form words_of concat_map bytes_of
  nodes_count = le_bytes 2 (length f.nodes) (omega (arith, within.nodes.1))

  fields_count : field_count bytes ≡ length f.fields
  unfolding field_count number_at bytes encode_form words_of concat_map bytes_of
  fields_count = le_bytes 2 (length f.fields) (omega (arith, within.fields.1))

  names_count : name_count bytes ≡ length f.names
  unfolding name_count number_at bytes encode_form words_of concat_map bytes_of
  names_count = le_bytes 2 (length f.names) (omega (arith, within.names))

  area_count : area_length bytes ≡ length f.area
  unfolding area_length number_at bytes encode_form words_of concat_map bytes_of
  area_count = le_bytes 2 (length f.area) (omega (arith, within.area))

  nodes_at_lem : nodes_at bytes ≡ 8 + 2 * length f.fields
  unfolding nodes_at
  nodes_at_lem = rw fields_count

  names_at_lem : names_at bytes ≡ 8 + 2 * length f.fields + 16 * length f.nodes
  unfolding names_at
  names_at_lem = rw (nodes_at_lem, nodes_count)

  area_at_lem : area_at bytes ≡ 8 + 2 * length f.fields + 16 * length f.nodes + 6 * length f.names
  unfolding area_at
  area_at_lem = rw (names_at_lem, names_count)

  form_length_lem : form_length bytes ≡ length bytes
  unfolding form_length
  form_length_lem = rw (area_at_lem, area_count) (omega (arith, ap length at_area ∙ length-append front_area f.area, area_from))

  counts_good_lem : counts_good bytes ≡ true
  unfolding counts_good
  counts_good_lem =
      let long : 8 ≤ length bytes = omega (arith, ap length at_area ∙ length-append front_area f.area, area_from) in
      rw (
        nodes_count,
        fields_count,
        names_count,
        area_count,
        le-leb 8 (length bytes) long,
        le-leb 1 (length f.nodes) within.nodes.0,
        le-leb (length f.nodes) 64 within.nodes.1,
        le-leb 1 (length f.fields) within.fields.0,
        le-leb (length f.fields) 16 within.fields.1,
        le-leb (length f.names) 128 within.names,
      )
      (le-leb (length f.area) 4096 within.area)

  -- what is read
  fields_read : map (λ k. number_at 2 bytes (8 + 2 * k)) (numbers (field_count bytes) 0) ≡ f.fields
  fields_read =
      rw fields_count
      (read_all (bytes_of 2) 2 (bytes_length 2) (number_at 2) Small (λ pre post i n h e. number_here 2 pre post i n h e)
      f.fields bytes header _ 8 0 within.field_numbers_lem at_fields header_length)

  nodes_read : map (λ k. read_node bytes (nodes_at bytes + 16 * k)) (numbers (node_count bytes) 0) ≡ f.nodes
  nodes_read =
      rw nodes_count
      (read_all encode_node 16 node_length read_node NodeSmall node_here
      f.nodes bytes front_nodes _ (nodes_at bytes) 0 within.node_numbers at_nodes (omega (arith, nodes_from, nodes_at_lem)))

  names_read : map (λ k. read_name bytes (names_at bytes + 6 * k)) (numbers (name_count bytes) 0) ≡ f.names
  names_read =
      rw names_count
      (read_all encode_name 6 name_length_lem read_name NameSmall name_here
      f.names bytes front_names _ (names_at bytes) 0 within.name_numbers at_names (omega (arith, names_from_lem, names_at_lem)))

  area_read : drop (area_at bytes) bytes ≡ f.area
  area_read = ap (λ (t : List ℕ). drop (area_at bytes) t) at_area ∙ drop_at front_area f.area (area_at bytes) (area_from ∙ sym area_at_lem)

  pub read_encode : (length_good (encode_form f) ≡ true) × (read_form (encode_form f) ≡ f)
  unfolding length_good read_form bytes
  read_encode = (
    rw counts_good_lem (eq-eqb (form_length bytes) (length bytes) form_length_lem),
    λ k. record { fields = fields_read k; nodes = nodes_read k; names = names_read k; area = area_read k },
  )

-- what the test of a form's length and counts says
pub record FormGood (b : List ℕ) : Type 0 where
  pub long : 8 ≤ length b
  pub nodes : (1 ≤ node_count b) × (node_count b ≤ 64)
  pub fields : (1 ≤ field_count b) × (field_count b ≤ 16)
  pub names : name_count b ≤ 128
  pub area : area_length b ≤ 4096
  pub whole : form_length b ≡ length b

pub good_form : (b : List ℕ) → length_good b ≡ true → FormGood b
unfolding length_good counts_good
good_form b good =
    let long = leb 8 (length b) in
    let n = leb 1 (node_count b) in
    let n' = leb (node_count b) 64 in
    let f = leb 1 (field_count b) in
    let f' = leb (field_count b) 16 in
    let m = leb (name_count b) 128 in
    let a = leb (area_length b) 4096 in
    let three = long && (n && n') && (f && f') in
    let counts : three && m && a ≡ true = left (counts_good b) _ good in
    let p = left (three && m) a counts in
    let q = left three m p in
    let nodes = right long (n && n') (left (long && (n && n')) (f && f') q) in
    let fields = right (long && (n && n')) (f && f') q in
    record {
      long = leb-true 8 (length b) (left long (n && n') (left (long && (n && n')) (f && f') q));
      nodes = (leb-true 1 (node_count b) (left n n' nodes), leb-true (node_count b) 64 (right n n' nodes));
      fields = (leb-true 1 (field_count b) (left f f' fields), leb-true (field_count b) 16 (right f f' fields));
      names = leb-true (name_count b) 128 (right three m p);
      area = leb-true (area_length b) 4096 (right (three && m) a counts);
      whole = eqb-true (form_length b) (length b) (right (counts_good b) _ good);
    }

-- bytes that are read as a form
module _ (b : List ℕ) (small : Bytes b) where
  node_back : (i : ℕ) → i + 16 ≤ length b → encode_node (read_node b i) ≡ take 16 (drop i b)
  unfolding encode_node read_node numbers
  node_back i h =
      let x = words_back b 2 4 i small (omega arith) in
      let y = words_back b 4 2 (i + 8) small (omega arith) in
      ap₂ (λ (s t : List ℕ). s ++ t) (rw (add-zero i) at x) (rw (add-zero (i + 8), add_assoc i 8 4) at y)
      ∙ rw (← drop-drop 8 i b) (sym (take-add 8 8 (drop i b)))

  name_back : (i : ℕ) → i + 6 ≤ length b → encode_name (read_name b i) ≡ take 6 (drop i b)
  unfolding encode_name read_name numbers
  name_back i h = rw (add-zero i) at (words_back b 2 3 i small (omega arith))

  header_back : 8 ≤ length b → words_of 2 (node_count b ∷ field_count b ∷ name_count b ∷ area_length b ∷ []) ≡ take 8 b
  unfolding node_count field_count name_count area_length numbers
  header_back h = words_back b 2 4 0 small h

  module _ (good : length_good b ≡ true) where
    form_long : 8 ≤ length b
    form_long = (good_form b good).long

    form_end_lem : area_at b + area_length b ≡ length b
    unfolding form_length
    form_end_lem = (good_form b good).whole

    -- each part of the bytes written, with all that follows it
    fields_on : words_of 2 (read_form b).fields ++ drop (nodes_at b) b ≡ drop 8 b
    unfolding read_form nodes_at names_at area_at
    fields_on = rw (words_back b 2 (field_count b) 8 small (omega (arith, form_end_lem))) (part_join 8 (2 * field_count b) b)

    nodes_on : concat_map encode_node (read_form b).nodes ++ drop (names_at b) b ≡ drop (nodes_at b) b
    unfolding read_form names_at area_at
    nodes_on =
        rw (records_back b encode_node 16 read_node node_back (node_count b) (nodes_at b) (omega (arith, form_end_lem)))
        (part_join (nodes_at b) (16 * node_count b) b)

    names_on : concat_map encode_name (read_form b).names ++ drop (area_at b) b ≡ drop (names_at b) b
    unfolding read_form area_at
    names_on =
        rw (records_back b encode_name 6 read_name name_back (name_count b) (names_at b) (omega (arith, form_end_lem)))
        (part_join (names_at b) (6 * name_count b) b)

    -- the counts of what is read are those of the header
    fields_read_count : length (read_form b).fields ≡ field_count b
    unfolding read_form
    fields_read_count = counted (λ k. number_at 2 b (8 + 2 * k)) (field_count b)

    nodes_read_count : length (read_form b).nodes ≡ node_count b
    unfolding read_form
    nodes_read_count = counted (λ k. read_node b (nodes_at b + 16 * k)) (node_count b)

    names_read_count : length (read_form b).names ≡ name_count b
    unfolding read_form
    names_read_count = counted (λ k. read_name b (names_at b + 6 * k)) (name_count b)

    area_read_count : length (read_form b).area ≡ area_length b
    unfolding read_form
    area_read_count = omega (arith, length-drop (area_at b) b, form_end_lem)

    area_is : (read_form b).area ≡ drop (area_at b) b
    unfolding read_form
    area_is = refl

    -- what is read is within the limits
    pub read_within : InLimits (read_form b)
    unfolding read_form read_node read_name
    read_within =
        let g = good_form b good in
        let two : (i : ℕ) → Small (number_at 2 b i) = λ i. number_bound 2 b i small in
        let four : (i : ℕ) → Wide (number_at 4 b i) = λ i. number_bound 4 b i small in
        record {
          nodes = rw nodes_read_count g.nodes;
          fields = rw fields_read_count g.fields;
          names = rw names_read_count g.names;
          area = rw area_read_count g.area;
          field_numbers_lem = all_numbers Small (λ k. number_at 2 b (8 + 2 * k)) (λ k. two _) (field_count b) 0;
          node_numbers = all_numbers NodeSmall (λ k. read_node b (nodes_at b + 16 * k))
              (λ k. record { kind = two _; p = two _; q = two _; r = two _; lo = four _; hi = four _ }) (node_count b) 0;
          name_numbers = all_numbers NameSmall (λ k. read_name b (names_at b + 6 * k))
              (λ k. record { type = two _; offset = two _; size = two _ }) (name_count b) 0;
        }

    pub encode_read : encode_form (read_form b) ≡ b
    unfolding encode_form
    encode_read =
        rw (
          nodes_read_count,
          fields_read_count,
          names_read_count,
          area_read_count,
          header_back form_long,
          area_is,
          names_on,
          nodes_on,
          fields_on,
        )
        (take-append-drop 8 b)

-- ---- the sheet and the batch

-- O gives, from j on, the offsets of some arguments
abbrev Follows : (ℕ → ℕ) → ℕ → ℕ → List (List ℕ) → Type 0
Follows O j begin [] = O j ≡ begin
Follows O j begin (os ∷ rest) = (O j ≡ begin) × Follows O (suc j) (begin + length os) rest

module _ (O : ℕ → ℕ) where
  follows :
      (j begin : ℕ) (args : List (List ℕ))
      → map O (numbers (length (offsets_from begin args)) j) ≡ offsets_from begin args
      → Follows O j begin args
  unfolding offsets_from numbers
  follows j begin [] e = cc
  follows j begin (os ∷ rest) e = (cc, follows (suc j) (begin + length os) rest cc)

  follows_first : (j begin : ℕ) (args : List (List ℕ)) → Follows O j begin args → O j ≡ begin
  follows_first j begin [] h = h
  follows_first j begin (os ∷ rest) h = h.0

  follows_last : (j begin : ℕ) (args : List (List ℕ)) → Follows O j begin args → O (j + length args) ≡ begin + length (flatten args)
  unfolding flatten
  follows_last j begin [] h = rw (add-zero j) (omega arith)
  follows_last j begin (os ∷ rest) h =
      let step : j + suc (length rest) ≡ suc j + length rest = omega arith in
      rw (step, length-append os (flatten rest)) (omega (arith, follows_last (suc j) (begin + length os) rest h.1))

  follows_rise : (j begin : ℕ) (args : List (List ℕ)) → Follows O j begin args → (k : ℕ) → k < length args → O (j + k) ≤ O (suc (j + k))
  follows_rise j begin [] h k l = absurd (omega arith)
  follows_rise j begin (os ∷ rest) h zero l = rw (add-zero j) (omega (arith, follows_first (suc j) (begin + length os) rest h.1))
  follows_rise j begin (os ∷ rest) h (suc k) l =
      let step : j + suc k ≡ suc j + k = omega arith in
      rw step (follows_rise (suc j) (begin + length os) rest h.1 k (omega arith))

  -- the entries are the arguments
  follows_entries :
      (area pre : List ℕ) (j begin : ℕ) (args : List (List ℕ))
      → Follows O j begin args
      → area ≡ pre ++ flatten args
      → length pre ≡ begin
      → map (λ k. take (O (k + 1) - O k) (drop (O k) area)) (numbers (length args) j) ≡ args
  unfolding flatten numbers
  follows_entries area pre j begin [] h e l = refl
  follows_entries area pre j begin (os ∷ rest) h e l =
      let next : O (j + 1) ≡ begin + length os = rw (add-one j) (follows_first (suc j) (begin + length os) rest h.1) in
      let size : O (j + 1) - O j ≡ length os = omega (arith, h.0) in
      let entry : take (O (j + 1) - O j) (drop (O j) area) ≡ os =
      rw (size, h.0, e, drop_at pre (os ++ flatten rest) begin l) (take-append_seam os (flatten rest)) in
      ap₂ (λ (x : List ℕ) (xs : List (List ℕ)). x ∷ xs) entry
      (follows_entries area (pre ++ os) (suc j) (begin + length os) rest h.1
      (e ∙ sym (append_assoc pre os (flatten rest))) (omega (arith, length-append pre os)))

never_falls : (w : ℕ) (b : List ℕ) (n : ℕ) → ((k : ℕ) → k < n → offset w b k ≤ offset w b (k + 1)) → never_fall w b n ≡ true
unfolding never_fall
never_falls w b zero h = refl
never_falls w b (suc n) h = rw (add-one n) at (rises_more w b n (never_falls w b n (λ k l. h k (omega arith))) (h n (le_refl (suc n))))

-- the converse of `good_table`
pub made_table :
    (w n : ℕ) (b : List ℕ)
    → area_start w n ≤ length b
    → offset w b 0 ≡ 0
    → ((k : ℕ) → k < n → offset w b k ≤ offset w b (k + 1))
    → area_start w n + offset w b n ≡ length b
    → table_good w n b ≡ true
unfolding table_good area
made_table w n b long first rising last =
    rw (le-leb (area_start w n) (length b) long, eq-eqb (offset w b 0) 0 first, never_falls w b n rising)
    (eq-eqb (offset w b n) (length (drop (area_start w n) b)) (omega (arith, length-drop (area_start w n) b)))

offsets_length : (begin : ℕ) (args : List (List ℕ)) → length (offsets_from begin args) ≡ suc (length args)
unfolding offsets_from
offsets_length begin [] = refl
offsets_length begin (os ∷ rest) = ap suc (offsets_length (begin + length os) rest)

offsets_below : (m begin : ℕ) (es : List (List ℕ)) → begin + length (flatten es) < m → All (λ (n : ℕ). n < m) (offsets_from begin es)
unfolding offsets_from flatten
offsets_below m begin [] h = (omega arith, tt)
offsets_below m begin (os ∷ rest) h =
    let more = length-append os (flatten rest) in
    (omega arith, offsets_below m (begin + length os) rest (omega arith))

-- the bytes of entries that a count of two bytes and offsets of w bytes can tell
module _ (w : ℕ) (es : List (List ℕ)) (few : length es < 65536) (fits : length (flatten es) < 256 ^ w) where
  front : List ℕ
  front = bytes_of 2 (length es) ++ words_of w (offsets_from 0 es)

  front_length : length front ≡ area_start w (length es)
  unfolding front words_of area_start
  front_length =
      let more : suc (length es) ≡ length es + 1 = omega arith in
      length-append (bytes_of 2 (length es)) (concat_map (bytes_of w) (offsets_from 0 es))
      ∙ rw (bytes_length 2 (length es), all_length (bytes_of w) w (bytes_length w) (offsets_from 0 es), offsets_length 0 es, more)

  abbrev written : List ℕ
  written = bytes_of 2 (length es) ++ (words_of w (offsets_from 0 es) ++ flatten es)

  parted : written ≡ front ++ flatten es
  unfolding front
  parted = sym (append_assoc (bytes_of 2 (length es)) (words_of w (offsets_from 0 es)) (flatten es))

  written_length : length written ≡ area_start w (length es) + length (flatten es)
  written_length = ap length parted ∙ length-append front (flatten es) ∙ rw front_length

  written_count : number_at 2 written 0 ≡ length es
  unfolding number_at bytes_of
  written_count = le_bytes 2 (length es) few

  written_area : area w (length es) written ≡ flatten es
  unfolding area
  written_area = ap (λ (t : List ℕ). drop (area_start w (length es)) t) parted ∙ drop_at front (flatten es) _ front_length

  written_offsets : Follows (offset w written) 0 0 es
  unfolding offset words_of
  written_offsets =
      follows (offset w written) 0 0 es
      (read_all (bytes_of w) w (bytes_length w) (number_at w) (λ n. n < 256 ^ w) (number_here w)
      (offsets_from 0 es) written (bytes_of 2 (length es)) (flatten es) 2 0 (offsets_below (256 ^ w) 0 es (omega (arith, fits))) refl
      (bytes_length 2 (length es) ∙ rw (mul-zero w)))

  table_good_lem : table_good w (length es) written ≡ true
  table_good_lem =
      let n = length es in
      let O = offset w written in
      let first = follows_first O 0 0 es written_offsets in
      let last : O n ≡ length (flatten es) = ap O (sym (zero-add n)) ∙ follows_last O 0 0 es written_offsets ∙ zero-add (length (flatten es)) in
      let rise : (k : ℕ) → k < n → O k ≤ O (k + 1) = λ k h. rw (zero-add k, ← add-one k) at (follows_rise O 0 0 es written_offsets k h) in
      made_table w n written (omega (arith, written_length)) first rise (omega (arith, written_length))

  entries_read : map (entry_of w (length es) written) (numbers (length es) 0) ≡ es
  unfolding entry_of
  entries_read = follows_entries (offset w written) (area w (length es) written) [] 0 0 es written_offsets written_area refl

-- arguments within the limits
pub arguments_encode :
    (args : List (List ℕ))
    → length args ≤ 256
    → length (flatten args) ≤ 32768
    → (sheet_fault (encode_sheet args) ≡ 0) × (arguments (encode_sheet args) ≡ args)
unfolding sheet_fault sheet_good sheet_area arguments argument_count encode_sheet area_start
arguments_encode args few fits =
    let many : length args < 65536 = omega arith in
    let wide : length (flatten args) < 256 ^ 2 = omega arith in
    let s = written 2 args many wide in
    let count = written_count 2 args many wide in (
      rw (
        le-ltb (length s) 2 (omega (arith, written_length 2 args many wide)),
        count,
        le-ltb 256 (length args) few,
        table_good_lem 2 args many wide,
        written_area 2 args many wide,
        le-leb (length (flatten args)) 32768 fits,
      ),
      rw count (entries_read 2 args many wide),
    )

-- at most 32 sheets of less than 2^32 bytes together are a batch
pub batch_read :
    (ss : List (List ℕ))
    → length ss ≤ 32
    → length (flatten ss) < 4294967296
    → (batch_good (encode_table ss) ≡ true) × (batch_sheets (encode_table ss) ≡ ss)
unfolding batch_good batch_sheets sheet_count encode_table
batch_read ss few fits =
    let many : length ss < 65536 = omega arith in
    let count = written_count 4 ss many fits in
    (rw (count, le-leb (length ss) 32 few, table_good_lem 4 ss many fits), rw count (entries_read 4 ss many fits))

-- a sheet without a fault
pub record SheetGood (s : List ℕ) : Type 0 where
  pub long : 2 ≤ length s
  pub few : argument_count s ≤ 256
  pub table : table_good 2 (argument_count s) s ≡ true
  pub fits : length (sheet_area s) ≤ 32768

pub good_sheet : (s : List ℕ) → sheet_fault s ≡ 0 → SheetGood s
unfolding sheet_fault sheet_good
good_sheet s e = go (ltb (length s) 2) (ltb 256 (argument_count s)) (sheet_good s) refl refl refl e
  where
    go :
        (short many good : Bool)
        → ltb (length s) 2 ≡ short
        → ltb 256 (argument_count s) ≡ many
        → sheet_good s ≡ good
        → ◌≡◌ {A = ℕ} (if short then 5 else (if many then 6 else (if good then 0 else 5))) 0
        → SheetGood s
    go true many good p q r e = absurd (omega arith)
    go false true good p q r e = absurd (omega arith)
    go false false false p q r e = absurd (omega arith)
    go false false true p q r e =
        let table = table_good 2 (argument_count s) s in
        let fits = leb (length (sheet_area s)) 32768 in
        record {
          long = ltb-false (length s) 2 p;
          few = ltb-false 256 (argument_count s) q;
          table = left table fits r;
          fits = leb-true (length (sheet_area s)) 32768 (right table fits r);
        }

module _ (s : List ℕ) (g : SheetGood s) where
  abbrev count : ℕ
  count = argument_count s

  abbrev begins : ℕ → ℕ
  begins k = offset 2 s k

  has : (k : ℕ) → k < count → HasEntry 2 count s k
  has k h = record { width = inl refl; good = g.table; below = h }

  entry_end : (k : ℕ) → k < count → begins k + length (entry_of 2 count s k) ≡ begins (suc k)
  entry_end k h = rw (← add-one k, entry_length (has k h)) (omega (arith, (placed (has k h)).rising))

  rises : (j k : ℕ) → j ≤ k → k ≤ count → begins j ≤ begins k
  rises = offset_rises 2 count s g.table

  offsets_back : (m j : ℕ) → j + m ≤ count → offsets_from (begins j) (map (entry_of 2 count s) (numbers m j)) ≡ map begins (numbers (suc m) j)
  unfolding offsets_from numbers
  offsets_back zero j h = refl
  offsets_back (suc m) j h = rw (entry_end j (omega arith), offsets_back m (suc j) (omega arith))

  -- the arguments from one on, one after the other, are a part of the area
  entries_back :
      (m j : ℕ)
      → j + m ≤ count
      → flatten (map (entry_of 2 count s) (numbers m j)) ≡ take (begins (j + m) - begins j) (drop (begins j) (sheet_area s))
  unfolding flatten numbers entry_of sheet_area
  entries_back zero j h =
      let none : begins (j + 0) - begins j ≡ 0 = rw (add-zero j) (omega arith) in
      rw none
  entries_back (suc m) j h =
      let d = begins (j + 1) - begins j in
      let e = begins (suc j + m) - begins (suc j) in
      let step : j + suc m ≡ suc j + m = omega arith in
      let up = rises j (suc j) (omega arith) (omega arith) in
      let on = rises (suc j) (suc j + m) (omega arith) (omega arith) in
      let one : begins (j + 1) ≡ begins (suc j) = ap begins (add-one j) in
      let next : begins (suc j) ≡ begins j + d = omega arith in
      let size : begins (j + suc m) - begins j ≡ d + e = rw step (omega arith) in
      let a = sheet_area s in
      rw (entries_back m (suc j) (omega arith), size, take-add d e (drop (begins j) a), drop-drop d (begins j) a, next)

  table : GoodTable 2 count s
  table = good_table 2 count s g.table

  area_back : flatten (arguments s) ≡ sheet_area s
  unfolding arguments sheet_area area
  area_back =
      let a = drop (area_start 2 count) s in
      let first : begins 0 ≡ 0 = table.first in
      let last : begins (0 + count) ≡ length a =
      ap begins (zero-add count) ∙ omega (arith, table.last, length-drop (area_start 2 count) s) in
      let size : begins (0 + count) - begins 0 ≡ length a = omega arith in
      entries_back count 0 (omega arith) ∙ rw (size, first) (take-length a)

  arguments_count : length (arguments s) ≡ count
  unfolding arguments
  arguments_count = counted (entry_of 2 count s) count

  arguments_offsets : offsets_from 0 (arguments s) ≡ map begins (numbers (suc count) 0)
  unfolding arguments
  arguments_offsets = rw table.first at (offsets_back count 0 (omega arith))

  count_back : Bytes s → bytes_of 2 count ≡ take 2 s
  unfolding argument_count
  count_back small = bytes_number s small 2 0 g.long

  sheet_back : Bytes s → encode_sheet (arguments s) ≡ s
  unfolding encode_sheet sheet_area area area_start offset
  sheet_back small =
      let start : 2 + 2 * (count + 1) ≡ 2 + 2 * suc count = omega arith in
      rw (
        arguments_count,
        arguments_offsets,
        area_back,
        start,
        words_back s 2 (suc count) 2 small (omega (arith, table.long)),
        part_join 2 (2 * suc count) s,
        count_back small,
      )
      (take-append-drop 2 s)

-- every argument lies inside the area, and nothing of the area lies outside the arguments
pub arguments_area : (s : List ℕ) → sheet_fault s ≡ 0 → flatten (arguments s) ≡ sheet_area s
arguments_area s e = area_back s (good_sheet s e)

-- the arguments that are read are within the limits
pub arguments_within : (s : List ℕ) → sheet_fault s ≡ 0 → (length (arguments s) ≤ 256) × (length (flatten (arguments s)) ≤ 32768)
arguments_within s e =
    let g = good_sheet s e in
    (rw (arguments_count s g) g.few, rw (arguments_area s e) g.fits)

pub encode_arguments : (s : List ℕ) → Bytes s → sheet_fault s ≡ 0 → encode_sheet (arguments s) ≡ s
encode_arguments s small e = sheet_back s (good_sheet s e) small

-- ---- every byte is below 256

bytes_nil : Bytes []
bytes_nil k = lit< tt

bytes_cons : (x : ℕ) (b : List ℕ) → x < 256 → Bytes b → Bytes (x ∷ b)
bytes_cons x b h small zero = h
bytes_cons x b h small (suc k) = small k

bytes_append : (a b : List ℕ) → Bytes a → Bytes b → Bytes (a ++ b)
bytes_append [] b p q = q
bytes_append (x ∷ a) b p q = bytes_cons x (a ++ b) (p 0) (bytes_append a b (λ k. p (suc k)) q)

pub bytes_take : (n : ℕ) (b : List ℕ) → Bytes b → Bytes (take n b)
bytes_take zero b small = bytes_nil
bytes_take (suc n) [] small = bytes_nil
bytes_take (suc n) (x ∷ b) small = bytes_cons x (take n b) (small 0) (bytes_take n b (λ k. small (suc k)))

bytes_flatten : (l : List (List ℕ)) → All Bytes l → Bytes (flatten l)
unfolding flatten
bytes_flatten [] h = bytes_nil
bytes_flatten (b ∷ l) h = bytes_append b (flatten l) h.0 (bytes_flatten l h.1)

number_bytes : (w n : ℕ) → Bytes (bytes_of w n)
unfolding bytes_of
number_bytes zero n = bytes_nil
number_bytes (suc w) n = bytes_cons (n % 256) (bytes_of w (n / 256)) (omega arith) (number_bytes w (n / 256))

all_bytes : {A : Type 0} (enc : A → List ℕ) → ((x : A) → Bytes (enc x)) → (xs : List A) → Bytes (concat_map enc xs)
unfolding concat_map
all_bytes enc h [] = bytes_nil
all_bytes enc h (x ∷ xs) = bytes_append (enc x) (concat_map enc xs) (h x) (all_bytes enc h xs)

words_bytes : (w : ℕ) (ns : List ℕ) → Bytes (words_of w ns)
unfolding words_of
words_bytes w = all_bytes (bytes_of w) (number_bytes w)

-- of what is written
pub sheet_bytes : (args : List (List ℕ)) → All Bytes args → Bytes (encode_sheet args)
unfolding encode_sheet
sheet_bytes args h =
    bytes_append (bytes_of 2 (length args)) _ (number_bytes 2 (length args))
    (bytes_append (words_of 2 (offsets_from 0 args)) (flatten args) (words_bytes 2 (offsets_from 0 args)) (bytes_flatten args h))

pub form_bytes : (f : Form) → Bytes f.area → Bytes (encode_form f)
unfolding encode_form encode_node encode_name
form_bytes f h =
    bytes_append (words_of 2 _) _ (words_bytes 2 _)
    (bytes_append (words_of 2 f.fields) _ (words_bytes 2 f.fields)
    (bytes_append (concat_map encode_node f.nodes) _ (all_bytes encode_node node_bytes f.nodes)
    (bytes_append (concat_map encode_name f.names) f.area (all_bytes encode_name (λ x. words_bytes 2 _) f.names) h)))
  where
    node_bytes : (x : Node) → Bytes (encode_node x)
    node_bytes x = bytes_append (words_of 2 _) (words_of 4 _) (words_bytes 2 _) (words_bytes 4 _)

-- and of what is read
pub arguments_bytes : (s : List ℕ) → Bytes s → All Bytes (arguments s)
unfolding arguments entry_of area
arguments_bytes s small = all_numbers Bytes (entry_of 2 n s) entry n 0
  where
    n : ℕ
    n = argument_count s

    behind : (k : ℕ) → Bytes (drop (offset 2 s k) (area 2 n s))
    behind k = bytes_drop (area 2 n s) (bytes_drop s small (area_start 2 n)) (offset 2 s k)

    entry : (k : ℕ) → Bytes (entry_of 2 n s k)
    entry k = bytes_take (offset 2 s (k + 1) - offset 2 s k) (drop (offset 2 s k) (area 2 n s)) (behind k)

pub area_bytes : (b : List ℕ) → Bytes b → Bytes (read_form b).area
unfolding read_form
area_bytes b small = bytes_drop b small (area_at b)
