-- Parts of the joined form, written one behind the other.
use Rattle.std.specs.Prelude.{Bool, true, ◌&&◌, List, [], ◌∷◌, ◌++◌, ◌≡◌, ℕ, ◌+◌, ◌≤◌, leb, length}
use Rattle.std.proofs.lemmas.List.Edits.{sets}
use Rattle.rules.specs.Base.{concat_map}
use Rattle.rules.specs.Form.{node_count, field_count, name_count, area_length, read_form}
use Rattle.rules.specs.Accept.{length_good}
use Rattle.rules.specs.Encode.{words_of, encode_node, encode_name}
use Rattle.rules_join.specs.Join.{moves_behind}
use Rattle.form_names.specs.Names.{name_of}
use Rattle.form_names.specs.declared.Name as names
use Rattle.form_layout.specs.Layout.{node_of}
use Rattle.form_layout.specs.declared.Node as nodes
use Rattle.form_join.specs.declared.Moves as declared
use Rattle.form_join.specs.declared.Counts.{Counts}
use Rattle.form_join.specs.Moved.{SmallMoves, FormPasses, NodeWithin, NameWithin, moved_fields, moved_nodes, moved_names}

-- bytes from a place on, and where they end
pub record WritesPart (o : List ℕ) (at : ℕ) (bytes : List ℕ) (r : ℕ) (o' : List ℕ) : Type 0 where
  pub output : o' ≡ sets o at bytes
  pub end : r ≡ at + length bytes

pub record CanPutNode (o : List ℕ) (at : ℕ) (x : nodes.Node) : Type 0 where
  pub room : at + 16 ≤ length o
  pub within : NodeWithin 256 (node_of x)

pub record CanPutName (o : List ℕ) (at : ℕ) (x : names.Name) : Type 0 where
  pub room : at + 6 ≤ length o
  pub within : NameWithin 8192 (name_of x)

-- a part of some size, of a form that moves by d, into an output of n bytes
pub record CanWritePart (n at size : ℕ) (b : List ℕ) (d : declared.Moves) : Type 0 where
  pub passes : FormPasses b
  pub moves : SmallMoves d
  pub room : at + size ≤ n

-- two forms and an output that are in all limits
pub record CanJoin (x y : List ℕ) (n : ℕ) : Type 0 where
  pub first : FormPasses x
  pub second : FormPasses y
  pub nodes : node_count x + node_count y ≤ 64
  pub fields : field_count x + field_count y ≤ 16
  pub names : name_count x + name_count y ≤ 128
  pub area : area_length x + area_length y ≤ 4096
  pub room : 5928 ≤ n

-- a part that begins at `most` at the latest
pub record CanJoinAt (most : ℕ) (x y : List ℕ) (n at : ℕ) : Type 0 where
  pub both : CanJoin x y n
  pub early : at ≤ most

-- a part of some size, in such an output
pub record CanJoinPart (n at size : ℕ) (x y : List ℕ) : Type 0 where
  pub both : CanJoin x y n
  pub room : at + size ≤ n

-- both forms' part, which ends at `most` at the latest
pub record WritesBoth (most : ℕ) (o : List ℕ) (at : ℕ) (bytes : List ℕ) (r : ℕ) (o' : List ℕ) : Type 0 where
  pub writes : WritesPart o at bytes r o'
  pub early : r ≤ most

-- ---- the counts

pub record BothGood (x y : List ℕ) : Type 0 where
  pub first : length_good x ≡ true
  pub second : length_good y ≡ true

abbrev pub counts_of : List ℕ → List ℕ → Counts
counts_of x y = record {
  nodes = node_count x + node_count y;
  fields = field_count x + field_count y;
  names = name_count x + name_count y;
  area = area_length x + area_length y;
}

-- whether counts and an output of n bytes are in all limits
unfoldable pub fitting : Counts → ℕ → Bool
fitting c n =
    (leb c.nodes 64 && (leb c.fields 16 && (leb c.names 128 && leb c.area 4096))) && leb 5928 n

pub record CanPutCounts (n : ℕ) (c : Counts) : Type 0 where
  pub nodes : c.nodes ≤ 64
  pub fields : c.fields ≤ 16
  pub names : c.names ≤ 128
  pub area : c.area ≤ 4096
  pub room : 8 ≤ n

unfoldable pub count_bytes : Counts → List ℕ
count_bytes c = words_of 2 (c.nodes ∷ c.fields ∷ c.names ∷ c.area ∷ [])

-- ---- the parts

unfoldable pub joined_fields : List ℕ → List ℕ → List ℕ
joined_fields x y = words_of 2 ((read_form x).fields ++ moved_fields (moves_behind (read_form x)) y)

unfoldable pub joined_nodes : List ℕ → List ℕ → List ℕ
joined_nodes x y = concat_map encode_node ((read_form x).nodes ++ moved_nodes (moves_behind (read_form x)) y)

unfoldable pub joined_names : List ℕ → List ℕ → List ℕ
joined_names x y = concat_map encode_name ((read_form x).names ++ moved_names (moves_behind (read_form x)) y)

unfoldable pub joined_area : List ℕ → List ℕ → List ℕ
joined_area x y = (read_form x).area ++ (read_form y).area

-- counts and fields; names and area
unfoldable pub joined_head : List ℕ → List ℕ → List ℕ
joined_head x y = count_bytes (counts_of x y) ++ joined_fields x y

unfoldable pub joined_tail : List ℕ → List ℕ → List ℕ
joined_tail x y = joined_names x y ++ joined_area x y

unfoldable pub joined_bytes : List ℕ → List ℕ → List ℕ
joined_bytes x y = joined_head x y ++ (joined_nodes x y ++ joined_tail x y)
