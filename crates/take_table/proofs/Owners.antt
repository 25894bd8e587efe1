-- The owners of the name records, node by node.
use mathlib.Core.Path.{◌≡◌, refl, sym, ap, ◌∙◌}
use mathlib.Core.Bool.{Bool, true, false, ◌&&◌, ◌||◌, or-false, and-true, and-false}
use mathlib.Core.List.{List}
use mathlib.Core.Logic.{◌⊎◌, ⊎_elim}
use mathlib.Core.Option.{some, some-injective}
use Prim.Native.Nat.{ℕ, ◌+◌, ◌≤◌, ◌<◌, min}
use native.Mathlib.Nat.{eq-or-lt_of_le}
use native.Mathlib.Omega.{arith}
use lib.Dec.{eqb, leb, ltb}
use lib.ListN.{length, get_or, get_elem?, replicate, length-replicate, get_or-replicate}
use borrow.Author.Tests.{eq-eqb, ne_eqb, lt-ltb, le-ltb, leb-true, leb-false, ltb-true, ltb-false}
use Rattle.rules.specs.Form.{Node, node_count, name_count, read_form}
use Rattle.rules.specs.Accept.{length_good}
use Rattle.rules.proofs.Acceptance.{lookup_inside}
use Rattle.form_layout.specs.declared.Node as layout
use Rattle.form_layout.specs.Kinds.{kind_number}
use Rattle.form_layout.specs.Layout.{node_of, GoodNames}
use Rattle.form_layout.proofs.Sizes.{nodes_length, sized}
use Rattle.form_letters.specs.Classes.{MarkedBits}
use Rattle.take_table.specs.Bits.{bit_at}
use Rattle.take_table.specs.Known.{is_named, is_adjacent, SetOf}
use Rattle.take_table.specs.Owners.{owns, NoOwners, Owners, Added, is_loose}
use Rattle.take_table.proofs.Bits.{bit_or_lem, bit_none, three_ways}

-- ---- one node

or_itself : (a b : Bool) → (a || b) ≡ (a || (b && true))
or_itself a b = ap (λ (v : Bool). a || v) (sym (and-true b))

module _ (x : layout.Node) (n count : ℕ) (t : List ℕ) where
  pub unmarked : (kind_number x.kind ≡ 1 → ⊥) → (kind_number x.kind ≡ 2 → ⊥) → Added (node_of x) n count t t
  unfolding owns is_named
  unmarked f g = record {
    long = refl;
    at = λ k h m. sym (rw (ne_eqb (kind_number x.kind) 1 f, ne_eqb (kind_number x.kind) 2 g, and-false (eqb m n)) (or-false (bit_at (get_or t k 0) m)));
  }

  is_named_lem : (kind_number x.kind ≡ 1) ⊎ (kind_number x.kind ≡ 2) → is_named (node_of x) ≡ true
  unfolding is_named
  is_named_lem = ⊎_elim (λ e. rw e) (λ e. rw e)

  pub marked : (kind_number x.kind ≡ 1) ⊎ (kind_number x.kind ≡ 2) → (set : ℕ) → ((m : ℕ) → bit_at set m ≡ eqb m n)
      → (end : ℕ) → end ≡ min (x.p + x.q) count → (t' : List ℕ) → MarkedBits set x.p end t t' → Added (node_of x) n count t t'
  unfolding owns
  marked named set s end e t' z = record { long = z.long; at = λ k h m. go k h m (leb x.p k) (ltb k (x.p + x.q)) refl refl }
    where
      kind : is_named (node_of x) ≡ true
      kind = is_named_lem named

      out : (k m : ℕ) → (leb x.p k && ltb k (x.p + x.q)) ≡ false → (x.p ≤ k → k < end → ⊥)
          → bit_at (get_or t' k 0) m ≡ (bit_at (get_or t k 0) m || (eqb m n && owns (node_of x) k))
      out k m b o = rw (z.outside k o, kind, b, and-false (eqb m n)) (sym (or-false (bit_at (get_or t k 0) m)))

      go : (k : ℕ) → k < count → (m : ℕ) (a b : Bool) → leb x.p k ≡ a → ltb k (x.p + x.q) ≡ b
          → bit_at (get_or t' k 0) m ≡ (bit_at (get_or t k 0) m || (eqb m n && owns (node_of x) k))
      go k h m true true ea eb =
          let l = leb-true x.p k ea in
          let r = ltb-true k (x.p + x.q) eb in
          rw (z.inside k l (omega arith), bit_or_lem (get_or t k 0) set m, s m, kind, ea, eb) (or_itself (bit_at (get_or t k 0) m) (eqb m n))
      go k h m true false ea eb =
          let r = ltb-false k (x.p + x.q) eb in
          out k m (rw (ea, eb)) (λ u v. omega arith)
      go k h m false b ea eb =
          let l = leb-false x.p k ea in
          out k m (rw ea) (λ u v. omega arith)

-- ---- adjacent arguments

module _ (x : layout.Node) where
  module _ (set n : ℕ) (a : Bool) (e : a ≡ is_adjacent (node_of x)) where
    pub stays_out : a ≡ true → (m : ℕ) → bit_at set m ≡ (bit_at set m || (eqb m n && is_loose (node_of x)))
    unfolding is_loose
    stays_out h m = rw (← e, h, and-false (eqb m n)) (sym (or-false (bit_at set m)))

    pub goes_in : a ≡ false → (u : ℕ) → ((m : ℕ) → bit_at u m ≡ eqb m n)
        → (r : ℕ) → ((m : ℕ) → bit_at r m ≡ (bit_at set m || bit_at u m))
        → (m : ℕ) → bit_at r m ≡ (bit_at set m || (eqb m n && is_loose (node_of x)))
    unfolding is_loose
    goes_in h u s r w m = w m ∙ rw (s m, ← e, h) (or_itself (bit_at set m) (eqb m n))

-- ---- all nodes

-- of the first n nodes, those that pass a test
abbrev Upto : List ℕ → ℕ → (Node → Bool) → ℕ → Type 0
Upto b n test set = (k : ℕ) (y : Node) → get_elem? (read_form b).nodes k ≡ some y → bit_at set k ≡ (ltb k n && test y)

module _ (b : List ℕ) (test : Node → Bool) where
  upto_first : Upto b 0 test 0
  upto_first k y e = rw (bit_none k, le-ltb k 0 (omega arith))

  upto_next : (n set : ℕ) → Upto b n test set → (x : Node) → get_elem? (read_form b).nodes n ≡ some x
      → (set' : ℕ) → ((m : ℕ) → bit_at set' m ≡ (bit_at set m || (eqb m n && test x))) → Upto b (n + 1) test set'
  upto_next n set z x s set' more k y e = more k ∙ rw (z k y e) (⊎_elim before (λ r. ⊎_elim here behind r) (three_ways k n))
    where
      before : k < n → ((ltb k n && test y) || (eqb k n && test x)) ≡ (ltb k (n + 1) && test y)
      before h = rw (lt-ltb k n h, ne_eqb k n (λ q. omega arith), lt-ltb k (n + 1) (omega arith)) (or-false (test y))

      here : k ≡ n → ((ltb k n && test y) || (eqb k n && test x)) ≡ (ltb k (n + 1) && test y)
      here h =
          let w : x ≡ y = some-injective x y (sym s ∙ ap (get_elem? (read_form b).nodes) (sym h) ∙ e) in
          rw (le-ltb k n (omega arith), eq-eqb k n h, lt-ltb k (n + 1) (omega arith), w)

      behind : n < k → ((ltb k n && test y) || (eqb k n && test x)) ≡ (ltb k (n + 1) && test y)
      behind h = rw (le-ltb k n (omega arith), ne_eqb k n (λ q. omega arith), le-ltb k (n + 1) (omega arith))

  upto_last : (n set : ℕ) → node_count b ≤ n → Upto b n test set → SetOf b test set
  upto_last n set h z k y e =
      z k y e ∙ rw (lt-ltb k n (omega (arith, lookup_inside (read_form b).nodes k y e, nodes_length b)))

pub record Adding (b : List ℕ) (count size : ℕ) (table : List ℕ) (set n : ℕ) : Type 0 where
  pub nodes : node_count b ≤ 64
  pub room : count ≤ size
  pub long : length table ≡ size
  pub at : (k : ℕ) → k < count → Upto b n (λ x. owns x k) (get_or table k 0)
  pub loose : Upto b n is_loose set

-- words that are 0, as many as an array has
pub cleared : (count : ℕ) (t : List ℕ) (n : ℕ) → t ≡ replicate n 0 → count ≤ n → NoOwners count t
cleared count t n e h =
    let l : length t ≡ n = ap length e ∙ length-replicate {A = ℕ} n 0 in
    record { long = omega arith; zeros = rw l e }

pub all_cleared : (b : List ℕ) → GoodNames b → (count : ℕ) → count ≡ name_count b → (t : List ℕ) → t ≡ replicate 128 0 → NoOwners count t
all_cleared b g count e t q = cleared count t 128 q (omega (arith, e, (sized b g.good).counts.names))

pub adding_first : (b : List ℕ) → length_good b ≡ true → (count : ℕ) (t : List ℕ) → NoOwners count t → Adding b count (length t) t 0 0
adding_first b g count t q =
    let l = q.long in
    record {
      nodes = (sized b g).counts.nodes.1;
      room = l;
      long = refl;
      at = λ k h.
          let z : get_or t k 0 ≡ 0 = ap (λ (w : List ℕ). get_or w k 0) q.zeros ∙ get_or-replicate {A = ℕ} (length t) k 0 0 (omega arith) in
          rw z (upto_first b (λ x. owns x k));
      loose = upto_first b is_loose;
    }

module _ (b : List ℕ) (count size : ℕ) (t : List ℕ) (set n end : ℕ) (z : Adding b count size t set n) (ee : end ≡ node_count b) where
  pub adding_next : n < end → (x : layout.Node) → get_elem? (read_form b).nodes n ≡ some (node_of x)
      → (t' : List ℕ) → Added (node_of x) n count t t'
      → (set' : ℕ) → ((m : ℕ) → bit_at set' m ≡ (bit_at set m || (eqb m n && is_loose (node_of x))))
      → Adding b count size t' set' (n + 1)
  adding_next h x e t' a set' more = record {
    nodes = z.nodes;
    room = z.room;
    long = a.long ∙ z.long;
    at = λ k l. upto_next b (λ y. owns y k) n (get_or t k 0) (z.at k l) (node_of x) e (get_or t' k 0) (a.at k l);
    loose = upto_next b is_loose n set z.loose (node_of x) e set' more;
  }

  pub owners_made : end ≤ n → Owners b count t
  owners_made h = record {
    long = rw z.long z.room;
    at = λ k l. upto_last b (λ x. owns x k) n (get_or t k 0) (omega arith) (z.at k l);
  }

  pub loose_made : end ≤ n → SetOf b is_loose set
  loose_made h = upto_last b is_loose n set (omega arith) z.loose
