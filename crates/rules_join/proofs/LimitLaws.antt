-- The limits of a form, and the length of its bytes.
use mathlib.Core.Bool.{true}
use mathlib.Core.List.{[], ◌∷◌, ◌++◌}
use mathlib.Core.Path.{◌≡◌, refl}
use Prim.Native.Nat.{◌+◌, ◌*◌, ◌≤◌}
use native.Mathlib.Omega.{arith}
use lib.Dec.{leb}
use lib.ListN.{length, length-append}
use borrow.Author.Tests.{le-leb, leb-true}
use Rattle.rules.specs.Base.{concat_map}
use Rattle.rules.specs.Form.{Node, Name, Form}
use Rattle.rules.specs.Encode.{bytes_of, words_of, encode_node, encode_name, encode_form}
use Rattle.rules.proofs.Acceptance.{and-true}
use Rattle.rules.proofs.Formats.{bytes_length, all_length}
use Rattle.rules_join.specs.Join.{in_limits}
use Rattle.rules_join.specs.JoinAnswered.{LimitsKept}

-- ---- the test of the limits says what it should
module _ (f : Form) where
  pub kept_limits : LimitsKept f → in_limits f ≡ true
  unfolding in_limits
  kept_limits h = rw (le-leb _ 64 h.nodes, le-leb _ 16 h.fields, le-leb _ 128 h.names) (le-leb _ 4096 h.area)

  pub limits_kept : in_limits f ≡ true → LimitsKept f
  unfolding in_limits
  limits_kept e =
      let (nodes, rest) = and-true (leb (length f.nodes) 64) _ e in
      let (fields, more) = and-true (leb (length f.fields) 16) _ rest in
      let (names, area) = and-true (leb (length f.names) 128) _ more in
      record {
        nodes = leb-true _ 64 nodes;
        fields = leb-true _ 16 fields;
        names = leb-true _ 128 names;
        area = leb-true _ 4096 area;
      }

  -- ---- the length of its bytes
  node_length : (x : Node) → length (encode_node x) ≡ 16
  unfolding encode_node words_of concat_map bytes_of
  node_length x = refl

  name_length_lem : (x : Name) → length (encode_name x) ≡ 6
  unfolding encode_name words_of concat_map bytes_of
  name_length_lem x = refl

  pub encode_length : length (encode_form f) ≡ 8 + 2 * length f.fields + 16 * length f.nodes + 6 * length f.names + length f.area
  unfolding encode_form words_of
  encode_length =
      let header = length f.nodes ∷ length f.fields ∷ length f.names ∷ length f.area ∷ [] in
      let fields = concat_map (bytes_of 2) f.fields in
      let nodes = concat_map encode_node f.nodes in
      let names = concat_map encode_name f.names in
      omega (
        arith,
        length-append (concat_map (bytes_of 2) header) (fields ++ (nodes ++ (names ++ f.area))),
        length-append fields (nodes ++ (names ++ f.area)),
        length-append nodes (names ++ f.area),
        length-append names f.area,
        all_length (bytes_of 2) 2 (bytes_length 2) header,
        all_length (bytes_of 2) 2 (bytes_length 2) f.fields,
        all_length encode_node 16 node_length f.nodes,
        all_length encode_name 6 name_length_lem f.names,
      )

  pub encode_fits : LimitsKept f → length (encode_form f) ≤ 5928
  encode_fits h = omega (arith, encode_length)
