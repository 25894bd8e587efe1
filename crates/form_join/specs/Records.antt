-- Records of one kind, each by its bytes, all of one size.
use Rattle.std.specs.Prelude.{List, map, ◌≡◌, ℕ, ◌+◌, ◌≤◌, ◌<◌, length}
use Rattle.std.proofs.Math.Option.{some}
use Rattle.std.proofs.Math.ListN.{get_elem?}
use Rattle.std.proofs.lemmas.List.Edits.{sets}
use Rattle.rules.specs.Base.{concat_map}
use Rattle.rules.specs.Encode.{bytes_of, encode_node, encode_name}
use Rattle.rules_join.specs.Join.{Moves}
use Rattle.form_join.specs.declared.Moves as declared
use Rattle.form_join.specs.Moved.{SmallMoves, FormPasses, moved_fields, moved_nodes, moved_names}

-- one behind the other
abbrev pub joined_up : List (List ℕ) → List ℕ
joined_up l = concat_map (λ (w : List ℕ). w) l

-- so many, of this size each
pub record Sized (size n : ℕ) (l : List (List ℕ)) : Type 0 where
  pub many : length l ≡ n
  pub each : (k : ℕ) (w : List ℕ) → get_elem? l k ≡ some w → length w ≡ size

-- one of so many records of a form that moves by d, into an output of n bytes
pub record CanPutMoved (n at size many k : ℕ) (b : List ℕ) (d : declared.Moves) : Type 0 where
  pub passes : FormPasses b
  pub moves : SmallMoves d
  pub below : k < many
  pub room : at + size ≤ n

-- element k of a list, from a place on
pub record PutsRecord (l : List (List ℕ)) (k : ℕ) (o : List ℕ) (at : ℕ) (o' : List ℕ) : Type 0 where
  pub bytes : List ℕ
  pub here : get_elem? l k ≡ some bytes
  pub output : o' ≡ sets o at bytes

abbrev pub field_bytes : Moves → List ℕ → List (List ℕ)
field_bytes d b = map (bytes_of 2) (moved_fields d b)

abbrev pub node_bytes : Moves → List ℕ → List (List ℕ)
node_bytes d b = map encode_node (moved_nodes d b)

abbrev pub name_bytes : Moves → List ℕ → List (List ℕ)
name_bytes d b = map encode_name (moved_names d b)
