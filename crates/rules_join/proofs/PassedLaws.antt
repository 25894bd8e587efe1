-- A form that passes every test and is in all limits is accepted from its bytes.
use mathlib.Core.List.{List, [], ◌∷◌}
use mathlib.Core.Logic.{⊎_elim}
use mathlib.Core.Option.{some, none}
use mathlib.Core.Path.{◌≡◌, sym, ap, ◌∙◌}
use Prim.Native.Nat.{ℕ, suc, ◌≤◌, ◌<◌}
use native.Mathlib.Omega.{arith}
use lib.Dec.{leb}
use lib.ListN.{length, get_elem?}
use mathlib.Core.Bool.{◌&&◌}
use Rattle.rules.specs.Value.{yes_no, text, number, Kind, one, optional, list, list_of_optional, optional_list, BaseValue}
use Rattle.rules.specs.Form.{Node, Name, Form, read_form, name_good}
use Rattle.rules.specs.Tree.{Tree, zeros, fallback_value}
use Rattle.rules.specs.Accept.{Accepted, accepted, refused_at, length_good, check_use, check_records, check_form}
use Rattle.rules.specs.Encode.{encode_form}
use Rattle.rules.specs.Demands.{All}
use Rattle.rules.proofs.Acceptance.{if_true, if_some, and-true, bind_some, zeros_unused, lookup_inside, All-map, names_some, NameGood, good_no_fault}
use Rattle.rules.proofs.Acceptance.{Made, flag_made, argument_made, positional_made, optional_made, many_made, some_made, count_made, last_made, choice_made, fallback_made, guard_made}
use Rattle.rules.proofs.Acceptance.{TreesAt, trees_made, Passed}
use Rattle.rules.proofs.Formats.{Small, Wide, NodeSmall, NameSmall, InLimits, read_encode}
use Rattle.rules.proofs.SplitLaws.{some≢none}
use Rattle.rules.proofs.Uses.{fields_inside}
use Rattle.rules.proofs.WellMadeLaws.{name_made, one_of_two}
use Rattle.rules_join.specs.JoinAnswered.{LimitsKept}
use Rattle.rules_join.proofs.UseJoin.{trees_long}

-- ---- every number of a node that is made fits its bytes, if the bounds do
pub record Bounds (x : Node) : Type 0 where
  pub lo : Wide x.lo
  pub hi : Wide x.hi

small_by : (x : Node) → Bounds x → x.kind ≤ 11 → x.p ≤ 128 → x.q ≤ 128 → x.r ≤ 128 → NodeSmall x
small_by x w k p q r = record { kind = omega arith; p = omega arith; q = omega arith; r = omega arith; lo = w.lo; hi = w.hi }

module _ (f : Form) (ts : List Tree) (k : ℕ) (x : Node) (few : length ts ≤ 64) (names : length f.names ≤ 128) (w : Bounds x) where
  value_small : (κ : Kind) (v : BaseValue) → fallback_value f x κ ≡ some v → x.r ≤ 128
  unfolding fallback_value
  value_small (one yes_no) v e =
      let (t, _) = if_some (leb x.lo 1 && zeros (x.r ∷ x.hi ∷ [])) _ e in
      let u = zeros_unused (x.r ∷ x.hi ∷ []) (and-true (leb x.lo 1) _ t).1 in
      omega arith
  value_small (one text) v e =
      let (m, h, _) = bind_some (get_elem? f.names x.r) _ e in
      let l = lookup_inside f.names x.r m h in
      omega arith
  value_small (one number) v e =
      let (t, _) = if_some (zeros (x.r ∷ x.hi ∷ [])) _ e in
      let u = zeros_unused (x.r ∷ x.hi ∷ []) t in
      omega arith
  value_small (optional β) v e = absurd (some≢none (sym e))
  value_small (list β) v e = absurd (some≢none (sym e))
  value_small (list_of_optional β) v e = absurd (some≢none (sym e))
  value_small (optional_list β) v e = absurd (some≢none (sym e))

  child_small : (i : ℕ) (c : Tree) → get_elem? ts i ≡ some c → i ≤ 128
  child_small i c h = omega (arith, lookup_inside ts i c h)

  made_small : (t : Tree) → Made f ts k x t → NodeSmall x
  made_small t (flag_made l z r u n) =
      let s = (names_some f x l n).inside in small_by x w (omega arith) (omega arith) (omega arith) (omega arith)
  made_small t (argument_made l z r u n) =
      let s = (names_some f x l n).inside in small_by x w (omega arith) (omega arith) (omega arith) (omega arith)
  made_small t (positional_made z p r u) =
      small_by x w (omega arith) (omega arith) (omega arith) (⊎_elim (λ (e : x.r ≡ 0). omega arith) (λ (e : x.r ≡ 2). omega arith) (one_of_two 0 2 x.r r))
  made_small t (optional_made β c z r u h e) = small_by x w (omega arith) (child_small x.p c h.1) (omega arith) (omega arith)
  made_small t (many_made β c z r u h m e) = small_by x w (omega arith) (child_small x.p c h.1) (omega arith) (omega arith)
  made_small t (some_made β c z r u h m e) = small_by x w (omega arith) (child_small x.p c h.1) (omega arith) (omega arith)
  made_small t (count_made c z u h m e) = small_by x w (omega arith) (child_small x.p c h.1) (omega arith) (omega arith)
  made_small t (last_made c z u h m e) = small_by x w (omega arith) (child_small x.p c h.1) (omega arith) (omega arith)
  made_small t (choice_made c d z u h g e) =
      small_by x w (omega arith) (child_small x.p c h.1) (child_small x.q d g.1) (omega arith)
  made_small t (fallback_made c κ v z u h g y e) = small_by x w (omega arith) (child_small x.p c h.1) (omega arith) (value_small κ v y)
  made_small t (guard_made c z u h l e) = small_by x w (omega arith) (child_small x.p c h.1) (omega arith) (omega arith)

module _ (f : Form) (ts : List Tree) (few : length ts ≤ 64) (names : length f.names ≤ 128) where
  nodes_small : (k : ℕ) (xs : List Node) → All Bounds xs → TreesAt f ts k xs → All NodeSmall xs
  nodes_small k [] w h = tt
  nodes_small k (x ∷ xs) w h = (made_small f ts k x few names w.0 h.0.tree h.0.made, nodes_small (suc k) xs w.1 h.1)

-- ---- a form that passes
module _ (f : Form) (a : Accepted) (p : Passed f a) where
  pub passed_limits : LimitsKept f → 1 ≤ length f.nodes → 1 ≤ length f.fields → All Bounds f.nodes → InLimits f
  passed_limits h n m w =
      let long = trees_long f a p in
      let few : length a.trees ≤ 64 = omega arith in
      record {
        nodes = (n, h.nodes);
        fields = (m, h.fields);
        names = h.names;
        area = h.area;
        field_numbers_lem = All-map (λ (k : ℕ). k < length a.trees) Small (λ k l. omega arith) f.fields
            (fields_inside a.trees f.fields a.fields p.fields);
        node_numbers = nodes_small f a.trees few h.names 0 f.nodes w (trees_made f [] f.nodes a.trees p.trees);
        name_numbers = All-map (NameGood f.area) NameSmall (λ m g. name_small m h.area g) f.names p.names;
      }
    where
      name_small : (m : Name) → length f.area ≤ 4096 → NameGood f.area m → NameSmall m
      name_small m l g = let s = name_made f.area m g in record { type = omega arith; offset = omega arith; size = omega arith }

  passed_use : check_use f a.trees ≡ accepted a
  unfolding check_use
  passed_use =
      let made : Form → Accepted = λ g. record { form = g; trees = a.trees; fields = a.fields } in
      rw (p.fields, p.once, check_use) (ap (λ (g : Form). accepted (made g)) (sym p.form))

  passed_records : check_records f ≡ accepted a
  unfolding check_records
  passed_records = rw (good_no_fault (name_good f.area) 0 f.names p.names, p.trees, check_records) passed_use

  pub passed_accepted : InLimits f → check_form (encode_form f) ≡ accepted a
  unfolding check_form
  passed_accepted within =
      let (long, read) = read_encode f within in
      if_true (length_good (encode_form f)) (check_records (read_form (encode_form f))) (refused_at 1 none) long ∙ ap check_records read ∙ passed_records
