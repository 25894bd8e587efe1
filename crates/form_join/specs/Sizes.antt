-- The records of each kind, all of one size: what `Record` asks of its impls.
use mathlib.Core.List.{List, [], ◌∷◌, map}
use mathlib.Core.Option.{some, some-injective, none-ne-some}
use mathlib.Core.Path.{◌≡◌, refl, sym, ap, ◌∙◌}
use Prim.Native.Nat.{ℕ, zero, suc}
use native.Mathlib.Omega.{arith}
use lib.ListN.{length, get_elem?, length-map}
use Rattle.rules.specs.Base.{concat_map}
use Rattle.rules.specs.Form.{Node, Name, node_count, field_count, name_count, read_form}
use Rattle.rules.specs.Tree.{Tree}
use Rattle.rules.specs.Accept.{Accepted, accepted, check_form}
use Rattle.rules.specs.Encode.{bytes_of, words_of, encode_node, encode_name}
use Rattle.rules.proofs.Acceptance.{accepted_form, accepted_trees}
use Rattle.rules.proofs.Formats.{bytes_length}
use Rattle.rules_join.specs.Join.{Moves, move_nodes}
use Rattle.form_layout.proofs.Sizes.{fields_length, nodes_length, names_length}
use Rattle.form_join.specs.Moved.{FormPasses, moved_fields, moved_nodes, moved_names}
use Rattle.form_join.specs.Records.{Sized, field_bytes, node_bytes, name_bytes}

-- ---- how many there are

pub moved_accepted : (d : Moves) (b : List ℕ) (a : Accepted) → check_form b ≡ accepted a → moved_nodes d b ≡ move_nodes d a.trees a.form.nodes
unfolding moved_nodes
moved_accepted d b a e = rw (e, moved_nodes)

nodes_many : (d : Moves) (ts : List Tree) (xs : List Node) → length ts ≡ length xs → length (move_nodes d ts xs) ≡ length xs
unfolding move_nodes
nodes_many d [] [] e = refl
nodes_many d [] (x ∷ xs) e = absurd (omega arith)
nodes_many d (t ∷ ts) [] e = absurd (omega arith)
nodes_many d (t ∷ ts) (x ∷ xs) e = ap suc (nodes_many d ts xs (omega arith))

module _ (d : Moves) (b : List ℕ) where
  pub moved_nodes_lem : FormPasses b → length (moved_nodes d b) ≡ node_count b
  moved_nodes_lem p =
      let a = p.form in
      let e = p.accepts in
      rw (moved_accepted d b a e) (nodes_many d a.trees a.form.nodes (accepted_trees b a e) ∙ rw (accepted_form b a e) (nodes_length b))

  pub moved_fields_lem : length (moved_fields d b) ≡ field_count b
  unfolding moved_fields
  moved_fields_lem = length-map (read_form b).fields _ ∙ fields_length b

  pub moved_names_lem : length (moved_names d b) ≡ name_count b
  unfolding moved_names
  moved_names_lem = length-map (read_form b).names _ ∙ names_length b

-- ---- how long each is

pub node_length : (x : Node) → length (encode_node x) ≡ 16
unfolding encode_node words_of concat_map bytes_of
node_length x = refl

pub name_length_lem : (x : Name) → length (encode_name x) ≡ 6
unfolding encode_name words_of concat_map bytes_of
name_length_lem x = refl

module _ {A : Type 0} (f : A → List ℕ) (size : ℕ) (long : (x : A) → length (f x) ≡ size) where
  map_each : (l : List A) (k : ℕ) (w : List ℕ) → get_elem? (map f l) k ≡ some w → length w ≡ size
  map_each [] k w e = absurd (none-ne-some w e)
  map_each (x ∷ l) zero w e = ap length (sym (some-injective (f x) w e)) ∙ long x
  map_each (x ∷ l) (suc k) w e = map_each l k w e

  map_sized : (l : List A) (n : ℕ) → length l ≡ n → Sized size n (map f l)
  map_sized l n e = record { many = length-map l f ∙ e; each = map_each l }

pub fields_sized : (d : Moves) (b : List ℕ) → FormPasses b → Sized 2 (field_count b) (field_bytes d b)
fields_sized d b p = map_sized (bytes_of 2) 2 (bytes_length 2) (moved_fields d b) (field_count b) (moved_fields_lem d b)

pub nodes_sized : (d : Moves) (b : List ℕ) → FormPasses b → Sized 16 (node_count b) (node_bytes d b)
nodes_sized d b p = map_sized encode_node 16 node_length (moved_nodes d b) (node_count b) (moved_nodes_lem d b p)

pub names_sized : (d : Moves) (b : List ℕ) → FormPasses b → Sized 6 (name_count b) (name_bytes d b)
names_sized d b p = map_sized encode_name 6 name_length_lem (moved_names d b) (name_count b) (moved_names_lem d b)
