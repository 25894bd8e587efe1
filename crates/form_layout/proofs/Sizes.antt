-- What the length and the counts of a form say, and what stands at a number.
use mathlib.Core.Bool.{true, false, ◌&&◌}
use mathlib.Core.List.{List}
use mathlib.Core.Option.{some}
use mathlib.Core.Path.{◌≡◌, refl, sym, ◌∙◌, ap}
use Prim.Native.Nat.{ℕ, ◌+◌, ◌-◌, ◌*◌, ◌≤◌, ◌<◌}
use native.Mathlib.Nat.{add_assoc}
use native.Mathlib.Omega.{arith}
use lib.Dec.{leb, eqb}
use lib.ListN.{length, take, drop, get_elem?, length-map, length-drop}
use lib.Seq.{drop-drop, take_all}
use borrow.Author.Tests.{lt-leb, leb-true, eqb-true}
use Rattle.wire.specs.Wire.{number_at}
use Rattle.rules.specs.Base.{numbers}
use Rattle.rules.specs.Form.{Name, node_count, field_count, name_count, area_length, counts_good, nodes_at, names_at, area_at, form_length, read_node, read_name, read_form, name_bytes}
use Rattle.rules.specs.Form.{name_good}
use Rattle.rules.specs.Accept.{length_good, Accepted, accepted, check_form}
use Rattle.rules.specs.Codes.{check_code}
use Rattle.rules.specs.declared.Refused.{Refused}
use Rattle.rules.proofs.Acceptance.{and-true, numbers_length, mapped_at, no_fault, good_no_fault, All-at, accepted_length, accepted_passed}
use Rattle.rules.proofs.GivenLaws.{check_accepted}
use Rattle.form_names.specs.Names.{name_of}
use Rattle.form_names.specs.declared.Name as names
use Rattle.form_layout.specs.declared.Kind.{Kind}
use Rattle.form_layout.specs.Kinds.{kind_number}
use Rattle.form_layout.specs.Layout.{node_of, GoodNames, HasName, name_bytes_at}

pub record CountBounds (b : List ℕ) : Type 0 where
  pub long : 8 ≤ length b
  pub nodes : (1 ≤ node_count b) × (node_count b ≤ 64)
  pub fields : (1 ≤ field_count b) × (field_count b ≤ 16)
  pub names : name_count b ≤ 128
  pub area : area_length b ≤ 4096
  pub nodes_at_lem : nodes_at b ≡ 8 + 2 * field_count b
  pub names_at_lem : names_at b ≡ nodes_at b + 16 * node_count b
  pub area_at_lem : area_at b ≡ names_at b + 6 * name_count b

both_within : (lo n hi : ℕ) → (leb lo n && leb n hi) ≡ true → (lo ≤ n) × (n ≤ hi)
both_within lo n hi e = let p = and-true (leb lo n) (leb n hi) e in (leb-true lo n p.0, leb-true n hi p.1)

pub counted : (b : List ℕ) → counts_good b ≡ true → CountBounds b
unfolding counts_good nodes_at names_at area_at
counted b e =
    let long = leb 8 (length b) in
    let n = leb 1 (node_count b) && leb (node_count b) 64 in
    let f = leb 1 (field_count b) && leb (field_count b) 16 in
    let m = leb (name_count b) 128 in
    let p = and-true (long && n && f && m) (leb (area_length b) 4096) e in
    let q = and-true (long && n && f) m p.0 in
    let r = and-true (long && n) f q.0 in
    let s = and-true long n r.0 in
    record {
      long = leb-true 8 (length b) s.0;
      nodes = both_within 1 (node_count b) 64 s.1;
      fields = both_within 1 (field_count b) 16 r.1;
      names = leb-true (name_count b) 128 q.1;
      area = leb-true (area_length b) 4096 p.1;
      nodes_at_lem = refl;
      names_at_lem = refl;
      area_at_lem = refl;
    }

pub length_counts : (b : List ℕ) → length_good b ≡ true → counts_good b ≡ true
unfolding length_good
length_counts b e = (and-true (counts_good b) (eqb (form_length b) (length b)) e).0

pub record FormSized (b : List ℕ) : Type 0 where
  pub counts : CountBounds b
  pub whole : area_at b + area_length b ≡ length b

pub sized : (b : List ℕ) → length_good b ≡ true → FormSized b
unfolding length_good form_length
sized b e = record {
  counts = counted b (length_counts b e);
  whole = eqb-true (area_at b + area_length b) (length b) (and-true (counts_good b) (eqb (form_length b) (length b)) e).1;
}

-- ---- a form that is too short
pub too_short : (b : List ℕ) → length b < 8 → false ≡ counts_good b
unfolding counts_good
too_short b h = rw (lt-leb 8 (length b) h)

-- ---- what stands at a number
-- the slice from a place on
abbrev pub from : ℕ → List ℕ → List ℕ
from at b = take (length b - at) (drop at b)

pub from_drop : (at : ℕ) (b : List ℕ) → from at b ≡ drop at b
from_drop at b = take_all (length b - at) (drop at b) (omega (arith, length-drop at b))

number_drop : (w : ℕ) (b : List ℕ) (i j : ℕ) → number_at w (drop i b) j ≡ number_at w b (i + j)
unfolding number_at
number_drop w b i j = rw (drop-drop j i b)

pub record_drop : (b : List ℕ) (i j : ℕ) → read_name (drop i b) j ≡ read_name b (i + j)
unfolding read_name
record_drop b i j = λ n. record {
  type = number_drop 2 b i j n;
  offset = (number_drop 2 b i (j + 2) ∙ ap (number_at 2 b) (sym (add_assoc i j 2))) n;
  size = (number_drop 2 b i (j + 4) ∙ ap (number_at 2 b) (sym (add_assoc i j 4))) n;
}

module _ (b : List ℕ) (k : ℕ) where
  pub field_there : (x : ℕ) → k < field_count b → x ≡ number_at 2 b (8 + 2 * k) → get_elem? (read_form b).fields k ≡ some x
  unfolding read_form
  field_there x h e = mapped_at (λ k. number_at 2 b (8 + 2 * k)) (field_count b) k h ∙ ap some (sym e)

  pub node_there :
      (at word p q r lo hi : ℕ) (kind : Kind)
      → k < node_count b
      → at ≡ nodes_at b
      → word ≡ number_at 2 b (at + 16 * k)
      → kind_number kind ≡ word
      → p ≡ number_at 2 b (at + 16 * k + 2)
      → q ≡ number_at 2 b (at + 16 * k + 4)
      → r ≡ number_at 2 b (at + 16 * k + 6)
      → lo ≡ number_at 4 b (at + 16 * k + 8)
      → hi ≡ number_at 4 b (at + 16 * k + 12)
      → get_elem? (read_form b).nodes k ≡ some (node_of (record { kind = kind; p = p; q = q; r = r; lo = lo; hi = hi }))
  unfolding read_form read_node
  node_there at word p q r lo hi kind h e ew ek ep eq er el eh =
      mapped_at (λ k. read_node b (nodes_at b + 16 * k)) (node_count b) k h ∙ rw (ek, ew, ep, eq, er, el, eh, e)

  pub name_there :
      (at : ℕ) (x : names.Name)
      → k < name_count b
      → at ≡ names_at b
      → name_of x ≡ read_name (from at b) (6 * k)
      → get_elem? (read_form b).names k ≡ some (name_of x)
  unfolding read_form
  name_there at x h e ex =
      mapped_at (λ k. read_name b (names_at b + 6 * k)) (name_count b) k h ∙ ap some (sym (ex ∙ rw (from_drop at b, e) (record_drop b (names_at b) (6 * k))))

-- how many there are
module _ (b : List ℕ) where
  pub fields_length : length (read_form b).fields ≡ field_count b
  unfolding read_form
  fields_length = length-map (numbers (field_count b) 0) _ ∙ numbers_length (field_count b) 0

  pub nodes_length : length (read_form b).nodes ≡ node_count b
  unfolding read_form
  nodes_length = length-map (numbers (node_count b) 0) _ ∙ numbers_length (node_count b) 0

  pub names_length : length (read_form b).names ≡ name_count b
  unfolding read_form
  names_length = length-map (numbers (name_count b) 0) _ ∙ numbers_length (name_count b) 0

-- ---- nodes
pub node_below : (b : List ℕ) (k n : ℕ) → n ≡ node_count b → k < n → k < node_count b
node_below b k n e h = omega arith

-- ---- good names
pub accepted_names : (b : List ℕ) (a : Accepted) → check_form b ≡ accepted a → GoodNames b
accepted_names b a e = record { good = accepted_length b a e; names = good_no_fault _ 0 _ (accepted_passed b a e).names }

pub check_names : (b : List ℕ) (r : Refused) → r ≡ check_code (check_form b) → r.number ≡ 0 → GoodNames b
check_names b r e z = let (a, h) = check_accepted b r e z in accepted_names b a h

module _ (b : List ℕ) (g : GoodNames b) where
  pub names_long : 8 ≤ length b
  names_long = (sized b g.good).counts.long

  pub names_few : name_count b ≤ 128
  names_few = (sized b g.good).counts.names

  pub has_name : (k m : ℕ) → m ≡ name_count b → k < m → HasName b k
  has_name k m e h = record { good = g.good; names = g.names; below = omega arith }

-- ---- the bytes of a good name
module _ (b : List ℕ) (k : ℕ) (h : HasName b k) (x : names.Name) (e : get_elem? (read_form b).names k ≡ some (name_of x)) (at : ℕ) (a : at ≡ area_at b) where
  pub name_fits : x.offset + x.size ≤ length (from at b)
  unfolding read_form name_good
  name_fits =
      let area = (read_form b).area in
      let all = no_fault (name_good area) 0 (read_form b).names h.names in
      let g : name_good area (name_of x) ≡ true = All-at (λ (m : Name). name_good area m ≡ true) (read_form b).names k (name_of x) all e in
      rw (from_drop at b, a) (leb-true (x.offset + x.size) (length (drop (area_at b) b)) (and-true (leb (x.offset + x.size) (length (drop (area_at b) b))) _ g).0)

  pub bytes_there : (s : List ℕ) → s ≡ name_bytes (from at b) (name_of x) → name_bytes_at (read_form b) k ≡ some s
  unfolding name_bytes_at read_form
  bytes_there s r = rw (e, name_bytes_at, r, from_drop at b, a)
