-- What is answered: the tests, and the report of a join.
use mathlib.Core.Bool.{Bool, true, false, ◌&&◌}
use mathlib.Core.List.{List, ◌++◌, map, append_assoc}
use mathlib.Core.Path.{◌≡◌, refl, sym, ap, ◌∙◌}
use Prim.Native.Nat.{ℕ, ◌+◌, ◌-◌, ◌≤◌, ◌<◌}
use native.Mathlib.Nat.{zero-add}
use native.Mathlib.Omega.{arith}
use lib.Dec.{leb}
use lib.ListN.{length, take, drop, replicate, length-append, length-replicate, replicate-append-replicate}
use lib.Seq.{sets, sets-eq, drop_at}
use borrow.Author.Tests.{le-leb, lt-leb, leb-true}
use Rattle.rules.specs.Form.{node_count, field_count, name_count, area_length, read_form}
use Rattle.rules.specs.Accept.{Checked, accepted, refused_at, Accepted, check_form}
use Rattle.rules.specs.Codes.{place_code, check_code}
use Rattle.rules.specs.Encode.{encode_form}
use Rattle.rules.specs.Run.{padded}
use Rattle.rules.specs.Reported.{number_of, place_told, told}
use Rattle.rules.specs.declared.Refused.{Refused}
use Rattle.rules.specs.declared.RefusedAt.{RefusedAt}
use Rattle.rules.proofs.ReportedLaws.{numbered}
use Rattle.rules.proofs.Acceptance.{and-true, accepted_form}
use Rattle.rules.proofs.GivenLaws.{check_accepted, check_length}
use Rattle.rules_join.specs.Join.{Moves, moves_behind, move_name, move_nodes, join_by, join_forms, joined, not_joined, in_limits, join_into, join}
use Rattle.form_layout.proofs.Sizes.{fields_length, nodes_length, names_length}
use Rattle.form_join.specs.declared.Counts.{Counts}
use Rattle.form_join.specs.declared.Joined.{Joined}
use Rattle.form_join.specs.Moved.{FormPasses, moved_fields, moved_names, moved_nodes}
use Rattle.form_join.specs.Written.{WritesBoth, CanJoin, BothGood, counts_of, fitting, count_bytes, joined_fields, joined_nodes, joined_names, joined_area, joined_head, joined_tail}
use Rattle.form_join.specs.Written.{joined_bytes}
use Rattle.form_join.specs.Answers.{answered, ReportsJoin, Refuses, Fills, BothPass}
use Rattle.form_join.specs.Sizes.{moved_accepted, moved_nodes_lem, moved_fields_lem, moved_names_lem}
use Rattle.form_join.proofs.MovedLaws.{area_length_lem}

-- ---- the limits

module _ (c : Counts) (n : ℕ) where
  pub many_nodes : 64 < c.nodes → false ≡ fitting c n
  unfolding fitting
  many_nodes h = rw (lt-leb c.nodes 64 h)

  module _ (nodes : c.nodes ≤ 64) where
    pub many_fields : 16 < c.fields → false ≡ fitting c n
    unfolding fitting
    many_fields h = rw (le-leb c.nodes 64 nodes, lt-leb c.fields 16 h)

    module _ (fields : c.fields ≤ 16) where
      pub many_names : 128 < c.names → false ≡ fitting c n
      unfolding fitting
      many_names h = rw (le-leb c.nodes 64 nodes, le-leb c.fields 16 fields, lt-leb c.names 128 h)

      module _ (names : c.names ≤ 128) where
        pub long_area : 4096 < c.area → false ≡ fitting c n
        unfolding fitting
        long_area h = rw (le-leb c.nodes 64 nodes, le-leb c.fields 16 fields, le-leb c.names 128 names, lt-leb c.area 4096 h)

        pub room_left : c.area ≤ 4096 → leb 5928 n ≡ fitting c n
        unfolding fitting
        room_left h = rw (le-leb c.nodes 64 nodes, le-leb c.fields 16 fields, le-leb c.names 128 names, le-leb c.area 4096 h)

pub both_good : (x y : List ℕ) → BothPass x y → BothGood x y
both_good x y p = record { first = p.first.good; second = p.second.good }

module _ (x y : List ℕ) (n : ℕ) (p : BothPass x y) (c : Counts) (ec : c ≡ counts_of x y) (t : Bool) (et : t ≡ fitting c n) where
  pub can_join : t ≡ true → CanJoin x y n
  unfolding fitting
  can_join z =
      let d = counts_of x y in
      let yes : fitting d n ≡ true = sym (et ∙ ap (λ (e : Counts). fitting e n) ec) ∙ z in
      let w = and-true (leb d.nodes 64 && (leb d.fields 16 && (leb d.names 128 && leb d.area 4096))) (leb 5928 n) yes in
      let nodes = and-true (leb d.nodes 64) (leb d.fields 16 && (leb d.names 128 && leb d.area 4096)) w.0 in
      let fields = and-true (leb d.fields 16) (leb d.names 128 && leb d.area 4096) nodes.1 in
      let names = and-true (leb d.names 128) (leb d.area 4096) fields.1 in
      record {
        first = p.first;
        second = p.second;
        nodes = leb-true d.nodes 64 nodes.0;
        fields = leb-true d.fields 16 fields.0;
        names = leb-true d.names 128 names.0;
        area = leb-true d.area 4096 names.1;
        room = leb-true 5928 n w.1;
      }

-- bytes over zeros
filled : (w : List ℕ) (n : ℕ) → length w ≤ n → sets (replicate n 0) 0 w ≡ padded n w
unfolding padded
filled w n h =
    let parts : replicate {A = ℕ} n 0 ≡ replicate (length w) 0 ++ replicate (n - length w) 0 =
    (let whole : n ≡ length w + (n - length w) = omega arith in ap (λ (m : ℕ). replicate {A = ℕ} m 0) whole)
    ∙ sym (replicate-append-replicate (length w) (n - length w) 0) in
    let behind : drop (0 + length w) (replicate {A = ℕ} n 0) ≡ replicate (n - length w) 0 =
    rw (zero-add (length w), parts) (drop_at (replicate (length w) 0) _ (length w) (length-replicate {A = ℕ} (length w) 0)) in
    sets-eq w (replicate n 0) 0 (omega (arith, length-replicate {A = ℕ} n 0)) ∙ rw behind

-- ---- the joined form

module _ (x y : List ℕ) (p : BothPass x y) where
  abbrev a : Accepted
  a = p.first.form

  abbrev b : Accepted
  b = p.second.form

  first_form : a.form ≡ read_form x
  first_form = accepted_form x a p.first.accepts

  second_form : b.form ≡ read_form y
  second_form = accepted_form y b p.second.accepts

  abbrev past : Moves
  past = moves_behind (read_form x)

  -- its parts, read from the bytes of both
  form_parts :
      join_forms a b
      ≡ record {
        fields = (read_form x).fields ++ moved_fields past y;
        nodes = (read_form x).nodes ++ moved_nodes past y;
        names = (read_form x).names ++ moved_names past y;
        area = (read_form x).area ++ (read_form y).area;
      }
  unfolding join_forms join_by moved_fields moved_names
  form_parts =
      rw (moved_accepted past y b p.second.accepts)
      (λ i. record {
        fields = (first_form i).fields ++ map (λ k. (moves_behind (first_form i)).nodes + k) (second_form i).fields;
        nodes = (first_form i).nodes ++ move_nodes (moves_behind (first_form i)) b.trees b.form.nodes;
        names = (first_form i).names ++ map (move_name (moves_behind (first_form i))) (second_form i).names;
        area = (first_form i).area ++ (second_form i).area;
      })

  nodes_count : length ((read_form x).nodes ++ moved_nodes past y) ≡ node_count x + node_count y
  nodes_count = length-append (read_form x).nodes (moved_nodes past y) ∙ rw (nodes_length x, moved_nodes_lem past y p.second)

  fields_count : length ((read_form x).fields ++ moved_fields past y) ≡ field_count x + field_count y
  fields_count = length-append (read_form x).fields (moved_fields past y) ∙ rw (fields_length x, moved_fields_lem past y)

  names_count : length ((read_form x).names ++ moved_names past y) ≡ name_count x + name_count y
  names_count = length-append (read_form x).names (moved_names past y) ∙ rw (names_length x, moved_names_lem past y)

  area_count : length ((read_form x).area ++ (read_form y).area) ≡ area_length x + area_length y
  area_count = length-append (read_form x).area (read_form y).area ∙ rw (area_length_lem x p.first.good, area_length_lem y p.second.good)

  form_bytes : joined_bytes x y ≡ encode_form (join_forms a b)
  unfolding joined_bytes joined_head joined_tail encode_form count_bytes joined_fields joined_nodes joined_names joined_area
  form_bytes =
      append_assoc (count_bytes (counts_of x y)) (joined_fields x y) (joined_nodes x y ++ joined_tail x y)
      ∙ rw (form_parts, nodes_count, fields_count, names_count, area_count)

  limits_same : (n : ℕ) → (in_limits (join_forms a b) && leb 5928 n) ≡ fitting (counts_of x y) n
  unfolding in_limits fitting
  limits_same n = rw (form_parts, nodes_count, fields_count, names_count, area_count)

  join_opened : (n : ℕ) → join x y n ≡ join_into n (join_forms a b)
  unfolding join
  join_opened n = rw (p.first.accepts, join, p.second.accepts, join)

  module _ (n : ℕ) (c : Counts) (ec : c ≡ counts_of x y) (t : Bool) (et : t ≡ fitting c n) where
    tested : t ≡ (in_limits (join_forms a b) && leb 5928 n)
    tested = et ∙ rw ec (sym (limits_same n))

    pub large_reported : t ≡ false → (r : Joined) (o : List ℕ) → Refuses 18 0 0 n r o → ReportsJoin (join x y n) r o
    unfolding join_into not_joined
    large_reported z r o f =
        let no : (in_limits (join_forms a b) && leb 5928 n) ≡ false = sym tested ∙ z in
        rw (join_opened n, no) (record { answer = f.answer; output = f.output })

    pub joined_reported : t ≡ true → (r : Joined) (o : List ℕ) → Fills n (joined_bytes x y) r o → ReportsJoin (join x y n) r o
    unfolding join_into joined
    joined_reported z r o f =
        let yes : (in_limits (join_forms a b) && leb 5928 n) ≡ true = sym tested ∙ z in
        rw (join_opened n, yes, ← form_bytes) (record { answer = f.answer; output = f.output })

-- ---- what is written

pub cleared_room : (x y o o' : List ℕ) → CanJoin x y (length o) → o' ≡ take 0 o ++ replicate (length o - 0) 0 → CanJoin x y (length o')
cleared_room x y o o' can cleared =
    let all : length o - 0 ≡ length o = omega arith in
    rw (cleared, length-replicate {A = ℕ} (length o - 0) 0, all) can

pub joined_filled :
    (x y o o' o'' : List ℕ) (r : ℕ)
    → CanJoin x y (length o)
    → o' ≡ take 0 o ++ replicate (length o - 0) 0
    → WritesBoth 5928 o' 0 (joined_bytes x y) r o''
    → Fills (length o) (joined_bytes x y) (answered 0 0 r 0) o''
joined_filled x y o o' o'' r can cleared w =
    let bytes = joined_bytes x y in
    let size : r ≡ length bytes = w.writes.end ∙ zero-add (length bytes) in
    let all : length o - 0 ≡ length o = omega arith in
    let zeros : o' ≡ replicate (length o) 0 = cleared ∙ rw all in
    record {
      answer = rw size;
      output = w.writes.output ∙ rw zeros (filled bytes (length o) (omega (arith, w.early, can.room)));
    }

-- ---- the form check of each

pub passes : (b : List ℕ) → record { number = 0; place = 0 } ≡ check_code (check_form b) → FormPasses b
passes b e = let (a, h) = check_accepted b _ e refl in record { form = a; accepts = h; good = check_length b _ e refl }

pub both_pass :
    (x y : List ℕ)
    → record { number = 0; place = 0 } ≡ check_code (check_form x)
    → record { number = 0; place = 0 } ≡ check_code (check_form y)
    → BothPass x y
both_pass x y e f = record { first = passes x e; second = passes y f }

module _ (x y : List ℕ) (n : ℕ) where
  pub first_reported :
      (e : RefusedAt)
      → told e ≡ check_code (check_form x)
      → (r : Joined) (o : List ℕ)
      → Refuses (number_of e.refusal) (place_told e.place) 1 n r o
      → ReportsJoin (join x y n) r o
  unfolding join not_joined
  first_reported e is r o f = go (check_form x) refl
    where
      go : (c : Checked Accepted) → check_form x ≡ c → ReportsJoin (join x y n) r o
      go (accepted a) h = absurd (numbered e.refusal (ap (λ (s : Refused). s.number) (is ∙ ap check_code h)))
      go (refused_at k i) h =
          let same : told e ≡ record { number = k; place = place_code i } = is ∙ ap check_code h in
          rw (h, join) (record { answer = f.answer ∙ ap (λ (s : Refused). answered s.number s.place 0 1) same; output = f.output })

  pub second_reported :
      record { number = 0; place = 0 } ≡ check_code (check_form x)
      → (e : RefusedAt)
      → told e ≡ check_code (check_form y)
      → (r : Joined) (o : List ℕ)
      → Refuses (number_of e.refusal) (place_told e.place) 2 n r o
      → ReportsJoin (join x y n) r o
  unfolding join not_joined
  second_reported z e is r o f = go (check_form y) refl
    where
      first : FormPasses x
      first = passes x z

      go : (c : Checked Accepted) → check_form y ≡ c → ReportsJoin (join x y n) r o
      go (accepted b) h = absurd (numbered e.refusal (ap (λ (s : Refused). s.number) (is ∙ ap check_code h)))
      go (refused_at k i) h =
          let same : told e ≡ record { number = k; place = place_code i } = is ∙ ap check_code h in
          rw (first.accepts, join, h, join) (record { answer = f.answer ∙ ap (λ (s : Refused). answered s.number s.place 0 2) same; output = f.output })

-- nothing is written
pub refused_cleared :
    (e : RefusedAt) (r : Refused)
    → r ≡ told e
    → (form : ℕ) (o o' : List ℕ)
    → o' ≡ take 0 o ++ replicate (length o - 0) 0
    → Refuses (number_of e.refusal) (place_told e.place) form (length o) (answered r.number r.place 0 form) o'
unfolding padded
refused_cleared e r same form o o' cleared = record { answer = ap (λ (s : Refused). answered s.number s.place 0 form) same; output = cleared }
