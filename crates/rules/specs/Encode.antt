-- The bytes of a sheet, of a table and of a form, as documents 01 and 02 lay them out: the converse of reading them.
use mathlib.Core.List.{List, [], ◌∷◌, ◌++◌, flatten}
use Rattle.std.specs.Prelude.{ℕ, zero, suc, ◌+◌, ◌/◌, ◌%◌, length}
use Rattle.rules.specs.Base.{concat_map}
use Rattle.rules.specs.Form.{Node, Name, Form}

-- a number as w bytes, little-endian
unfoldable pub bytes_of : ℕ → ℕ → List ℕ
bytes_of zero n = []
bytes_of (suc w) n = n % 256 ∷ bytes_of w (n / 256)

unfoldable pub words_of : ℕ → List ℕ → List ℕ
words_of w ns = concat_map (bytes_of w) ns

-- where each argument begins, the first at an offset, and where the last one ends
unfoldable pub offsets_from : ℕ → List (List ℕ) → List ℕ
offsets_from begin [] = begin ∷ []
offsets_from begin (os ∷ rest) = begin ∷ offsets_from (begin + length os) rest

-- count of arguments, offsets, the byte area
unfoldable pub encode_sheet : List (List ℕ) → List ℕ
encode_sheet args = bytes_of 2 (length args) ++ (words_of 2 (offsets_from 0 args) ++ flatten args)

-- the same with offsets of four bytes: a table of commands, a batch of sheets
unfoldable pub encode_table : List (List ℕ) → List ℕ
encode_table es = bytes_of 2 (length es) ++ (words_of 4 (offsets_from 0 es) ++ flatten es)

-- kind, p, q, r, then u32 lo, hi
unfoldable pub encode_node : Node → List ℕ
encode_node x = words_of 2 (x.kind ∷ x.p ∷ x.q ∷ x.r ∷ []) ++ words_of 4 (x.lo ∷ x.hi ∷ [])

-- type, offset, length
unfoldable pub encode_name : Name → List ℕ
encode_name x = words_of 2 (x.type ∷ x.offset ∷ x.size ∷ [])

-- header of counts, field numbers, nodes, names, the area
unfoldable pub encode_form : Form → List ℕ
encode_form f =
    words_of 2 (length f.nodes ∷ length f.fields ∷ length f.names ∷ length f.area ∷ [])
    ++ (words_of 2 f.fields
    ++ (concat_map encode_node f.nodes
    ++ (concat_map encode_name f.names
    ++ f.area)))
