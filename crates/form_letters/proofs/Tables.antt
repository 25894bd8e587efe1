-- The table of classes: a bit set from one record to another, and so node by node.
use mathlib.Core.Path.{◌≡◌, refl, sym, ap, ap₂, ◌∙◌}
use mathlib.Core.Bool.{Bool, true, false, ◌&&◌, ◌||◌, or-false, or_assoc, and-false, and_assoc}
use mathlib.Core.List.{List, [], ◌∷◌, ◌++◌}
use mathlib.Core.Logic.{◌⊎◌, inl, inr, ⊎_elim}
use mathlib.Core.Option.{some}
use Prim.Native.Nat.{ℕ, zero, suc, ◌+◌, ◌≤◌, ◌<◌, min, max}
use native.Mathlib.Nat.{eq-or-lt_of_le}
use native.Mathlib.Numerals.{add-one}
use native.Mathlib.Omega.{arith}
use lib.Bits.{bit_or}
use lib.Dec.{eqb, leb, ltb}
use lib.ListN.{length, get_or, get_elem?, set, take, replicate, length-set, get_or-replicate}
use lib.Seq.{get_or-set_same, get_or-set_other, take_all}
use borrow.Author.Tests.{ne_eqb, leb-true, leb-false, ltb-true, ltb-false}
use Rattle.rules.specs.Form.{Node, node_count, name_count, read_form}
use Rattle.rules.specs.Accept.{length_good}
use Rattle.form_layout.specs.declared.Node as layout
use Rattle.form_layout.specs.Kinds.{kind_number}
use Rattle.form_layout.specs.Layout.{node_of}
use Rattle.form_layout.proofs.Sizes.{nodes_length, sized}
use Rattle.form_letters.specs.Classes.{names_record, bits, class_of, Classed, MarkedBits}

-- ---- the loop of `mark`

pub record Marking (bit first end : ℕ) (t₀ t : List ℕ) (k : ℕ) : Type 0 where
  pub low : first ≤ k
  pub high : k ≤ max first end
  pub done : MarkedBits bit first k t₀ t

pub marking_first : (bit first end : ℕ) (t : List ℕ) → Marking bit first end t t first
marking_first bit first end t = record {
  low = omega arith;
  high = omega arith;
  done = record { long = refl; inside = λ k h g. absurd (omega arith); outside = λ k h. refl };
}

module _ (bit first end : ℕ) (t₀ t : List ℕ) (k : ℕ) (z : Marking bit first end t₀ t k) where
  pub marking_next : k < end → end ≤ length t₀ → Marking bit first end t₀ (set t k (bit_or (get_or t k 0) bit)) (k + 1)
  marking_next h room =
      let v = bit_or (get_or t k 0) bit in
      let l = z.done.long in
      let low = z.low in
      let high = z.high in
      let still : get_or t k 0 ≡ get_or t₀ k 0 = z.done.outside k (λ g f. omega arith) in
      record {
        low = omega arith;
        high = omega arith;
        done = record {
          long = length-set t k v ∙ l;
          inside = λ j g f. ⊎_elim
              (λ e. rw e (get_or-set_same t k v 0 (omega arith) ∙ ap (λ (x : ℕ). bit_or x bit) still))
              (λ f. get_or-set_other t k j v 0 (λ e. omega arith) ∙ z.done.inside j g f)
              (eq-or-lt_of_le {n = j} {m = k} (omega arith));
          outside = λ j out.
              get_or-set_other t k j v 0 (λ e. out (omega arith) (omega arith))
              ∙ z.done.outside j (λ g f. out g (omega arith));
        };
      }

  pub marking_last : end ≤ k → MarkedBits bit first end t₀ t
  marking_last h =
      let high = z.high in
      record {
        long = z.done.long;
        inside = λ j g f. z.done.inside j g (omega arith);
        outside = λ j out. z.done.outside j (λ g f. out g (omega arith));
      }

-- ---- one node more

-- whether a node is of a kind and has name record k
abbrev named_by : Node → ℕ → ℕ → Bool
named_by x kind k = eqb x.kind kind && leb x.p k && ltb k (x.p + x.q)

named_more : (xs : List Node) (x : Node) (kind k : ℕ) → names_record (xs ++ (x ∷ [])) kind k ≡ (names_record xs kind k || named_by x kind k)
unfolding names_record
named_more [] x kind k = or-false (named_by x kind k)
named_more (y ∷ xs) x kind k =
    rw (named_more xs x kind k) (sym (or_assoc (named_by y kind k) (names_record xs kind k) (named_by x kind k)))

flag_bit : (a b : Bool) → bits (a || true) (b || false) ≡ bit_or (bits a b) 1
unfolding bits
flag_bit true true = refl
flag_bit true false = refl
flag_bit false true = refl
flag_bit false false = refl

argument_bit : (a b : Bool) → bits (a || false) (b || true) ≡ bit_or (bits a b) 2
unfolding bits
argument_bit true true = refl
argument_bit true false = refl
argument_bit false true = refl
argument_bit false false = refl

module _ (xs : List Node) (x : Node) (k : ℕ) where
  class_more : class_of (xs ++ (x ∷ [])) k ≡ bits (names_record xs 1 k || named_by x 1 k) (names_record xs 2 k || named_by x 2 k)
  unfolding class_of
  class_more = ap₂ bits (named_more xs x 1 k) (named_more xs x 2 k)

  class_same : named_by x 1 k ≡ false → named_by x 2 k ≡ false → class_of (xs ++ (x ∷ [])) k ≡ class_of xs k
  unfolding class_of
  class_same f g = class_more ∙ rw (f, g, or-false (names_record xs 1 k), or-false (names_record xs 2 k))

  class_other : (x.kind ≡ 1 → ⊥) → (x.kind ≡ 2 → ⊥) → class_of (xs ++ (x ∷ [])) k ≡ class_of xs k
  class_other f g = class_same (rw (ne_eqb x.kind 1 f)) (rw (ne_eqb x.kind 2 g))

  class_outside : (leb x.p k && ltb k (x.p + x.q)) ≡ false → class_of (xs ++ (x ∷ [])) k ≡ class_of xs k
  class_outside e = class_same (still 1) (still 2)
    where
      still : (kind : ℕ) → named_by x kind k ≡ false
      still kind = and_assoc (eqb x.kind kind) (leb x.p k) (ltb k (x.p + x.q)) ∙ rw e (and-false (eqb x.kind kind))

  class_inside : (x.kind ≡ 1) ⊎ (x.kind ≡ 2) → leb x.p k ≡ true → ltb k (x.p + x.q) ≡ true
      → class_of (xs ++ (x ∷ [])) k ≡ bit_or (class_of xs k) x.kind
  unfolding class_of
  class_inside (inl e) f g = class_more ∙ rw (e, f, g) (flag_bit (names_record xs 1 k) (names_record xs 2 k))
  class_inside (inr e) f g = class_more ∙ rw (e, f, g) (argument_bit (names_record xs 1 k) (names_record xs 2 k))

module _ (x : layout.Node) (count : ℕ) (t : List ℕ) where
  abbrev Noted : List ℕ → Type 0
  Noted t' = (xs : List Node) → Classed xs count t → Classed (xs ++ (node_of x ∷ [])) count t'

  pub unnoted : (kind_number x.kind ≡ 1 → ⊥) → (kind_number x.kind ≡ 2 → ⊥) → Noted t
  unnoted f g xs z = record {
    few = z.few;
    long = z.long;
    at = λ k h. z.at k h ∙ sym (class_other xs (node_of x) k f g);
  }

  pub noted : (kind_number x.kind ≡ 1) ⊎ (kind_number x.kind ≡ 2) → (end : ℕ) → end ≡ min (x.p + x.q) count → (t' : List ℕ)
      → MarkedBits (kind_number x.kind) x.p end t t' → Noted t'
  noted kind end e t' m xs z = record { few = z.few; long = m.long ∙ z.long; at = at }
    where
      out : (k : ℕ) → k < count → (leb x.p k && ltb k (x.p + x.q)) ≡ false → (x.p ≤ k → k < end → ⊥)
          → get_or t' k 0 ≡ class_of (xs ++ (node_of x ∷ [])) k
      out k h b n = m.outside k n ∙ z.at k h ∙ sym (class_outside xs (node_of x) k b)

      go : (k : ℕ) → k < count → (a b : Bool) → leb x.p k ≡ a → ltb k (x.p + x.q) ≡ b
          → get_or t' k 0 ≡ class_of (xs ++ (node_of x ∷ [])) k
      go k h true true ea eb =
          let l = leb-true x.p k ea in
          let r = ltb-true k (x.p + x.q) eb in
          m.inside k l (omega arith) ∙ ap (λ (c : ℕ). bit_or c (kind_number x.kind)) (z.at k h) ∙ sym (class_inside xs (node_of x) k kind ea eb)
      go k h true false ea eb =
          let r = ltb-false k (x.p + x.q) eb in
          out k h (rw (ea, eb)) (λ u v. omega arith)
      go k h false b ea eb =
          let l = leb-false x.p k ea in
          out k h (rw ea) (λ u v. omega arith)

      at : (k : ℕ) → k < count → get_or t' k 0 ≡ class_of (xs ++ (node_of x ∷ [])) k
      at k h = go k h (leb x.p k) (ltb k (x.p + x.q)) refl refl

-- ---- all nodes

take_more : {A : Type 0} (l : List A) (i : ℕ) (x : A) → get_elem? l i ≡ some x → take (suc i) l ≡ take i l ++ (x ∷ [])
take_more [] i x e = absurd (let z : ◌≡◌ {A = ℕ} 0 1 = cc in omega arith)
take_more (y ∷ l) zero x e = let z : y ≡ x = cc in rw z
take_more (y ∷ l) (suc i) x e = ap (λ (r : List _). y ∷ r) (take_more l i x e)

-- the loop of `mark_nodes`
pub record Noting (b : List ℕ) (count : ℕ) (t : List ℕ) (i : ℕ) : Type 0 where
  pub within : i ≤ node_count b
  pub done : Classed (take i (read_form b).nodes) count t

module _ (b : List ℕ) (good : length_good b ≡ true) (count : ℕ) (ec : count ≡ name_count b) where
  pub noting_first : (t : List ℕ) → t ≡ replicate 128 0 → Noting b count t 0
  unfolding class_of names_record bits
  noting_first t e =
      let few = (sized b good).counts.names in
      record {
        within = omega arith;
        done = record { few = omega arith; long = rw e; at = λ k h. rw e (get_or-replicate 128 k 0 0 (omega arith)) };
      }

  module _ (t : List ℕ) (i n : ℕ) (en : n ≡ node_count b) (z : Noting b count t i) where
    pub noting_next : i < n → (x : layout.Node) → get_elem? (read_form b).nodes i ≡ some (node_of x) → (t' : List ℕ)
        → ((xs : List Node) → Classed xs count t → Classed (xs ++ (node_of x ∷ [])) count t') → Noting b count t' (i + 1)
    noting_next h x e t' noted = record {
      within = omega arith;
      done = rw (add-one i, take_more (read_form b).nodes i (node_of x) e) (noted (take i (read_form b).nodes) z.done);
    }

    pub noting_last : n ≤ i → Classed (read_form b).nodes count t
    noting_last h = rw (take_all i (read_form b).nodes (omega (arith, nodes_length b))) at z.done
