-- Both forms: the first's part, and the second's moved behind it.
use mathlib.Core.List.{List, ◌++◌, map, map-append}
use mathlib.Core.Path.{◌≡◌, sym, ap, ◌∙◌}
use Prim.Native.Nat.{ℕ, ◌+◌, ◌*◌, ◌≤◌, ◌<◌}
use native.Mathlib.Nat.{mul-add, mul-le-mul_left}
use native.Mathlib.Omega.{arith}
use lib.ListN.{length, length-append}
use lib.Seq.{sets, length-sets}
use Rattle.rules.specs.Base.{concat_map}
use Rattle.rules.specs.Form.{node_count, field_count, name_count, area_length, read_form}
use Rattle.rules.specs.Encode.{bytes_of, words_of, encode_node, encode_name}
use Rattle.rules.proofs.ConcatLaws.{concat_append, concat_map_lem}
use Rattle.rules_join.specs.Join.{Moves, moves_behind}
use Rattle.form_layout.proofs.Sizes.{sized}
use Rattle.form_join.specs.declared.Moves as declared
use Rattle.form_join.specs.declared.Counts.{Counts}
use Rattle.form_join.specs.Moved.{moves_of, SmallMoves, MovesPast, FormPasses, nowhere, moved_fields, moved_names, moved_nodes}
use Rattle.form_join.specs.Written.{WritesPart, CanWritePart, CanJoin, CanJoinAt, CanJoinPart, WritesBoth, BothGood, counts_of, CanPutCounts, count_bytes}
use Rattle.form_join.specs.Written.{joined_fields, joined_nodes, joined_names, joined_area, joined_head, joined_tail, joined_bytes}
use Rattle.form_join.proofs.MovedLaws.{good_eight, area_length_lem, nodes_same, fields_same, names_same}
use Rattle.form_join.specs.Sizes.{fields_sized, nodes_sized, names_sized}
use Rattle.form_join.specs.Records.{joined_up, Sized, field_bytes, node_bytes, name_bytes}
use Rattle.form_join.proofs.WrittenLaws.{writes_both, sized_length, counts_end}

abbrev Stays : declared.Moves → Type 0
Stays s = s ≡ record { nodes = 0; names = 0; area = 0 }

stay_small : (s : declared.Moves) → Stays s → SmallMoves s
stay_small s e = rw e (record { nodes = omega arith; names = omega arith; area = omega arith })

-- ---- the records of one kind, of the first and then of the second
module _
    (size : ℕ) (many : List ℕ → ℕ) (moved : Moves → List ℕ → List (List ℕ))
    (all : (d : Moves) (b : List ℕ) → FormPasses b → Sized size (many b) (moved d b))
    (x y o : List ℕ) (at : ℕ) (can : CanJoinPart (length o) at (size * many x + size * many y) x y)
  where
    pub first_fit : (s : declared.Moves) → Stays s → CanWritePart (length o) at (size * many x) x s
    first_fit s e = record { passes = can.both.first; moves = stay_small s e; room = omega (arith, can.room) }

    module _ (o' : List ℕ) (m : ℕ) (s d : declared.Moves) (past : MovesPast x d) (v : WritesPart o at (joined_up (moved (moves_of s) x)) m o') where
      pub second_fit : CanWritePart (length o') m (size * many y) y d
      second_fit =
          let first = joined_up (moved (moves_of s) x) in
          let long : length first ≡ size * many x = sized_length size (many x) (moved (moves_of s) x) (all (moves_of s) x can.both.first) in
          let same : length o' ≡ length o = ap length v.output ∙ length-sets o at first in
          record { passes = can.both.second; moves = past.small; room = omega (arith, v.end, can.room) }

      pub both_written :
          (o'' : List ℕ) (r : ℕ)
          → Stays s
          → WritesPart o' m (joined_up (moved (moves_of d) y)) r o''
          → WritesPart o at (joined_up (moved nowhere x ++ moved (moves_behind (read_form x)) y)) r o''
      both_written o'' r es w =
          let first : moved (moves_of s) x ≡ moved nowhere x = rw es in
          let joined = concat_append (λ (w : List ℕ). w) (moved nowhere x) (moved (moves_behind (read_form x)) y) in
          rw (joined, ← first, ← past.same) (writes_both o o' o'' at m r _ _ v w)

-- how much the records of both are, at most `most` of them
part_size : (size n m most : ℕ) → n + m ≤ most → size * n + size * m ≤ size * most
part_size size n m most few = omega (arith, mul-le-mul_left size few, mul-add size n m)

-- ---- fields, nodes, names
module _ {A : Type 0} (enc : A → List ℕ) (part : Moves → List ℕ → List A) where
  -- by the codes of each
  coded : (x y : List ℕ) (l : List A) → part nowhere x ≡ l
      → joined_up (map enc (part nowhere x) ++ map enc (part (moves_behind (read_form x)) y)) ≡ concat_map enc (l ++ part (moves_behind (read_form x)) y)
  coded x y l same =
      ap joined_up (sym (map-append enc (part nowhere x) (part (moves_behind (read_form x)) y)))
      ∙ concat_map_lem (λ (w : List ℕ). w) enc (part nowhere x ++ part (moves_behind (read_form x)) y)
      ∙ rw same

-- there is room for them
module _ (x y : List ℕ) (n at : ℕ) where
  pub fields_room : CanJoinAt 8 x y n at → CanJoinPart n at (2 * field_count x + 2 * field_count y) x y
  fields_room can = record {
    both = can.both;
    room = omega (arith, part_size 2 (field_count x) (field_count y) 16 can.both.fields, can.early, can.both.room);
  }

  pub nodes_room : CanJoinAt 40 x y n at → CanJoinPart n at (16 * node_count x + 16 * node_count y) x y
  nodes_room can = record {
    both = can.both;
    room = omega (arith, part_size 16 (node_count x) (node_count y) 64 can.both.nodes, can.early, can.both.room);
  }

  pub names_room : CanJoinAt 1064 x y n at → CanJoinPart n at (6 * name_count x + 6 * name_count y) x y
  names_room can = record {
    both = can.both;
    room = omega (arith, part_size 6 (name_count x) (name_count y) 128 can.both.names, can.early, can.both.room);
  }

-- written one behind the other they end early enough
module _ (x y o o' : List ℕ) (at r n : ℕ) (can : CanJoin x y n) where
  abbrev both_of : (Moves → List ℕ → List (List ℕ)) → List (List ℕ)
  both_of moved = moved nowhere x ++ moved (moves_behind (read_form x)) y

  both_long : (size : ℕ) (many : List ℕ → ℕ) (moved : Moves → List ℕ → List (List ℕ))
      → ((d : Moves) (b : List ℕ) → FormPasses b → Sized size (many b) (moved d b))
      → length (joined_up (both_of moved)) ≡ size * many x + size * many y
  both_long size many moved all =
      ap length (concat_append (λ (w : List ℕ). w) (moved nowhere x) (moved (moves_behind (read_form x)) y))
      ∙ length-append (joined_up (moved nowhere x)) (joined_up (moved (moves_behind (read_form x)) y))
      ∙ rw (sized_length size (many x) (moved nowhere x) (all nowhere x can.first), sized_length size (many y) (moved (moves_behind (read_form x)) y) (all (moves_behind (read_form x)) y can.second))

  pub fields_part : at ≤ 8 → WritesPart o at (joined_up (both_of field_bytes)) r o' → WritesBoth 40 o at (joined_fields x y) r o'
  unfolding words_of joined_fields
  fields_part early w = record {
    writes = rw (coded (bytes_of 2) moved_fields x y (read_form x).fields (fields_same x)) at w;
    early = omega (arith, w.end, both_long 2 field_count field_bytes fields_sized, part_size 2 (field_count x) (field_count y) 16 can.fields);
  }

  pub nodes_part : at ≤ 40 → WritesPart o at (joined_up (both_of node_bytes)) r o' → WritesBoth 1064 o at (joined_nodes x y) r o'
  unfolding joined_nodes
  nodes_part early w = record {
    writes = rw (coded encode_node moved_nodes x y (read_form x).nodes (nodes_same x can.first)) at w;
    early = omega (arith, w.end, both_long 16 node_count node_bytes nodes_sized, part_size 16 (node_count x) (node_count y) 64 can.nodes);
  }

  pub names_part : at ≤ 1064 → WritesPart o at (joined_up (both_of name_bytes)) r o' → WritesBoth 1832 o at (joined_names x y) r o'
  unfolding joined_names
  names_part early w = record {
    writes = rw (coded encode_name moved_names x y (read_form x).names (names_same x)) at w;
    early = omega (arith, w.end, both_long 6 name_count name_bytes names_sized, part_size 6 (name_count x) (name_count y) 128 can.names);
  }

module _ (x y o : List ℕ) (at : ℕ) where
  -- ---- the areas
  module _ (n : ℕ) (can : CanJoinAt 1832 x y n at) where
    pub area_first_fits : at ≤ 5928
    area_first_fits = omega (arith, can.early)

    module _ (o' : List ℕ) (m : ℕ) (v : WritesPart o at (read_form x).area m o') where
      pub area_second_fits : m ≤ 5928
      area_second_fits = omega (arith, v.end, area_length_lem x can.both.first.good, can.both.area, can.early)

      pub both_areas : (o'' : List ℕ) (r : ℕ) → WritesPart o' m (read_form y).area r o'' → WritesBoth 5928 o at (joined_area x y) r o''
      unfolding joined_area
      both_areas o'' r w =
          let sizes = length-append (read_form x).area (read_form y).area in
          let all = writes_both o o' o'' at m r (read_form x).area (read_form y).area v w in
          record {
            writes = all;
            early = omega (arith, all.end, area_length_lem x can.both.first.good, area_length_lem y can.both.second.good, can.both.area, can.early);
          }

-- ---- one part behind the other
module _ (x y : List ℕ) where
  pub head_written :
      (o o' o'' : List ℕ) (c : Counts) (r : ℕ)
      → c ≡ counts_of x y
      → o' ≡ sets o 0 (count_bytes c)
      → WritesBoth 40 o' 8 (joined_fields x y) r o''
      → WritesBoth 40 o 0 (joined_head x y) r o''
  unfolding joined_head
  head_written o o' o'' c r ec put w =
      let counts : WritesPart o 0 (count_bytes (counts_of x y)) 8 o' = record { output = rw ec at put; end = counts_end (counts_of x y) } in
      record { writes = writes_both o o' o'' 0 8 r _ _ counts w.writes; early = w.early }

  pub tail_written :
      (o o' o'' : List ℕ) (at m r : ℕ)
      → WritesBoth 1832 o at (joined_names x y) m o'
      → WritesBoth 5928 o' m (joined_area x y) r o''
      → WritesBoth 5928 o at (joined_tail x y) r o''
  unfolding joined_tail
  tail_written o o' o'' at m r v w = record { writes = writes_both o o' o'' at m r _ _ v.writes w.writes; early = w.early }

  pub form_written :
      (o o₁ o₂ o₃ : List ℕ) (f m r : ℕ)
      → WritesBoth 40 o 0 (joined_head x y) f o₁
      → WritesBoth 1064 o₁ f (joined_nodes x y) m o₂
      → WritesBoth 5928 o₂ m (joined_tail x y) r o₃
      → WritesBoth 5928 o 0 (joined_bytes x y) r o₃
  unfolding joined_bytes
  form_written o o₁ o₂ o₃ f m r head nodes tail = record {
    writes = writes_both o o₁ o₃ 0 f r _ _ head.writes (writes_both o₁ o₂ o₃ f m r _ _ nodes.writes tail.writes);
    early = tail.early;
  }

-- each part begins where the one before ends
pub joins_on :
    (x y : List ℕ) (n : ℕ) (can : CanJoin x y n) (most : ℕ) (o o' w : List ℕ) (at r : ℕ)
    → length o ≡ n
    → WritesBoth most o at w r o'
    → CanJoinAt most x y (length o') r
joins_on x y n can most o o' w at r e written =
    let long : length o' ≡ n = ap length written.writes.output ∙ length-sets o at w ∙ e in
    record { both = rw long can; early = written.early }

pub counts_fit : (x y : List ℕ) (n : ℕ) → CanJoin x y n → (c : Counts) → c ≡ counts_of x y → CanPutCounts n c
counts_fit x y n can c e =
    rw e (record { nodes = can.nodes; fields = can.fields; names = can.names; area = can.area; room = omega (arith, can.room) })

pub fields_fit : (x y o : List ℕ) → CanJoin x y (length o) → (o' w : List ℕ) → o' ≡ sets o 0 w → CanJoinAt 8 x y (length o') 8
fields_fit x y o can o' w e =
    let long : length o' ≡ length o = ap length e ∙ length-sets o 0 w in
    record { both = rw long can; early = omega arith }

-- ---- the counts of both

module _ (x y : List ℕ) (g : BothGood x y) where
  pub first_eight : 8 ≤ length x
  first_eight = good_eight x g.first

  pub second_eight : 8 ≤ length y
  second_eight = good_eight y g.second

  module _ (n m : ℕ) where
    pub nodes_sum : n ≡ node_count x → m ≡ node_count y → n + m < 18446744073709551616
    nodes_sum e f = omega (arith, (sized x g.first).counts.nodes, (sized y g.second).counts.nodes)

    pub fields_sum : n ≡ field_count x → m ≡ field_count y → n + m < 18446744073709551616
    fields_sum e f = omega (arith, (sized x g.first).counts.fields, (sized y g.second).counts.fields)

    pub names_sum : n ≡ name_count x → m ≡ name_count y → n + m < 18446744073709551616
    names_sum e f = omega (arith, (sized x g.first).counts.names, (sized y g.second).counts.names)

    pub area_sum : n ≡ area_length x → m ≡ area_length y → n + m < 18446744073709551616
    area_sum e f = omega (arith, (sized x g.first).counts.area, (sized y g.second).counts.area)

pub counts_same :
    (x y : List ℕ) (n n' f f' m m' a a' : ℕ)
    → n ≡ node_count x
    → n' ≡ node_count y
    → f ≡ field_count x
    → f' ≡ field_count y
    → m ≡ name_count x
    → m' ≡ name_count y
    → a ≡ area_length x
    → a' ≡ area_length y
    → ◌≡◌ {A = Counts} (record { nodes = n + n'; fields = f + f'; names = m + m'; area = a + a' }) (counts_of x y)
counts_same x y n n' f f' m m' a a' en en' ef ef' em em' ea ea' = rw (en, en', ef, ef', em, em', ea, ea')
