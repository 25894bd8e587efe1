-- Parts written one behind the other.
use mathlib.Core.Bool.{true}
use mathlib.Core.List.{List, [], ◌∷◌, ◌++◌}
use mathlib.Core.Option.{some, some-injective, none-ne-some}
use mathlib.Core.Path.{◌≡◌, refl, sym, ap, ◌∙◌}
use Prim.Native.Nat.{ℕ, zero, suc, ◌+◌, ◌*◌, ◌≤◌, ◌<◌}
use native.Mathlib.Nat.{add-zero, add-suc, suc-add, add_assoc, mul-zero, mul-suc}
use native.Mathlib.Numerals.{add-one}
use native.Mathlib.Omega.{arith}
use lib.ListN.{length, get_elem?, set, take, length-append}
use lib.Seq.{sets, length-sets, take_all}
use Rattle.rules.specs.Base.{concat_map}
use Rattle.rules.specs.Form.{area_length, area_at, read_form}
use Rattle.rules.specs.Accept.{length_good}
use Rattle.rules.specs.Encode.{bytes_of, words_of, encode_node, encode_name}
use Rattle.rules.proofs.ConcatLaws.{concat_more}
use Rattle.form_names.specs.Names.{name_of}
use Rattle.form_names.specs.declared.Name as names
use Rattle.form_layout.specs.Layout.{node_of}
use Rattle.form_layout.specs.declared.Node as nodes
use Rattle.form_layout.proofs.Sizes.{from, from_drop, sized}
use Rattle.form_join.specs.declared.Counts.{Counts}
use Rattle.form_join.specs.Written.{WritesPart, count_bytes}
use Rattle.form_join.specs.Records.{joined_up, Sized, PutsRecord}
use Rattle.form_join.proofs.MovedLaws.{area_length_lem}

-- ---- stores

sets_append : (v w o : List ℕ) (i : ℕ) → sets o i (v ++ w) ≡ sets (sets o i v) (i + length v) w
sets_append [] w o i = rw add-zero
sets_append (x ∷ v) w o i = sets_append v w (set o i x) (suc i) ∙ rw (suc-add, ← add-suc)

-- one part behind another
pub writes_both :
    (o o' o'' : List ℕ) (at m r : ℕ) (v w : List ℕ)
    → WritesPart o at v m o'
    → WritesPart o' m w r o''
    → WritesPart o at (v ++ w) r o''
writes_both o o' o'' at m r v w a b = record {
  output = b.output ∙ rw (a.output, a.end) (sym (sets_append v w o at));
  end = b.end ∙ rw (a.end, length-append v w) (add_assoc at (length v) (length w));
}

-- ---- a record, number by number

pub name_put :
    (o o₁ o₂ o₃ : List ℕ) (at : ℕ) (x : names.Name)
    → o₁ ≡ sets o at (bytes_of 2 x.kind)
    → o₂ ≡ sets o₁ (at + 2) (bytes_of 2 x.offset)
    → o₃ ≡ sets o₂ (at + 4) (bytes_of 2 x.size)
    → o₃ ≡ sets o at (encode_name (name_of x))
unfolding encode_name words_of concat_map bytes_of
name_put o o₁ o₂ o₃ at x p q r =
    let two : at + 2 ≡ suc (suc at) = omega arith in
    let four : at + 4 ≡ suc (suc (suc (suc at))) = omega arith in
    rw (r, q, p, two, four)

pub words_put :
    (o o₁ o₂ o₃ o₄ : List ℕ) (at a b c d : ℕ)
    → o₁ ≡ sets o at (bytes_of 2 a)
    → o₂ ≡ sets o₁ (at + 2) (bytes_of 2 b)
    → o₃ ≡ sets o₂ (at + 4) (bytes_of 2 c)
    → o₄ ≡ sets o₃ (at + 6) (bytes_of 2 d)
    → o₄ ≡ sets o at (words_of 2 (a ∷ b ∷ c ∷ d ∷ []))
unfolding words_of concat_map bytes_of
words_put o o₁ o₂ o₃ o₄ at a b c d p q r s =
    let two : at + 2 ≡ suc (suc at) = omega arith in
    let four : at + 4 ≡ suc (suc (suc (suc at))) = omega arith in
    let six : at + 6 ≡ suc (suc (suc (suc (suc (suc at))))) = omega arith in
    rw (s, r, q, p, two, four, six)

pub node_put :
    (o o₁ o₂ o₃ : List ℕ) (at : ℕ) (x : nodes.Node) (kind : ℕ)
    → kind ≡ (node_of x).kind
    → o₁ ≡ sets o at (words_of 2 (kind ∷ x.p ∷ x.q ∷ x.r ∷ []))
    → o₂ ≡ sets o₁ (at + 8) (bytes_of 4 x.lo)
    → o₃ ≡ sets o₂ (at + 12) (bytes_of 4 x.hi)
    → o₃ ≡ sets o at (encode_node (node_of x))
unfolding encode_node words_of concat_map bytes_of
node_put o o₁ o₂ o₃ at x kind k p q r =
    let eight : at + 8 ≡ suc (suc (suc (suc (suc (suc (suc (suc at))))))) = omega arith in
    let twelve : at + 12 ≡ suc (suc (suc (suc (suc (suc (suc (suc (suc (suc (suc (suc at))))))))))) = omega arith in
    rw (r, q, p, k, eight, twelve)

pub counts_put : (o o' : List ℕ) (c : Counts) → o' ≡ sets o 0 (words_of 2 (c.nodes ∷ c.fields ∷ c.names ∷ c.area ∷ [])) → o' ≡ sets o 0 (count_bytes c)
unfolding count_bytes
counts_put o o' c put = put

pub counts_end : (c : Counts) → 8 ≡ 0 + length (count_bytes c)
unfolding count_bytes words_of concat_map bytes_of
counts_end c = refl

-- ---- a loop that writes records of one size, one behind the other

take_more : {A : Type 0} (xs : List A) (k : ℕ) (x : A) → get_elem? xs k ≡ some x → take (suc k) xs ≡ take k xs ++ (x ∷ [])
take_more [] k x e = absurd (none-ne-some x e)
take_more (y ∷ xs) zero x e = ap (λ (z : _). z ∷ []) (some-injective y x e)
take_more {A = A} (y ∷ xs) (suc k) x e = ap (λ (l : List A). y ∷ l) (take_more xs k x e)

sized_tail : (size n : ℕ) (w : List ℕ) (l : List (List ℕ)) → Sized size (suc n) (w ∷ l) → Sized size n l
sized_tail size n w l z = record { many = omega (arith, z.many); each = λ k. z.each (suc k) }

-- the first k are as long as k are, and so all are
sized_take : (size n : ℕ) (l : List (List ℕ)) → Sized size n l → (k : ℕ) → k ≤ n → length (joined_up (take k l)) ≡ size * k
unfolding concat_map
sized_take size n [] z k h = let none : k ≡ 0 = omega (arith, z.many) in rw (none, mul-zero)
sized_take size n (w ∷ l) z zero h = rw mul-zero
sized_take size zero (w ∷ l) z (suc k) h = absurd (omega arith)
sized_take size (suc n) (w ∷ l) z (suc k) h =
    omega (arith, length-append w (joined_up (take k l)), z.each 0 w refl, sized_take size n l (sized_tail size n w l z) k (omega arith), mul-suc size k)

pub sized_length : (size n : ℕ) (l : List (List ℕ)) → Sized size n l → length (joined_up l) ≡ size * n
sized_length size n l z = rw (← take_all n l (omega (arith, z.many))) (sized_take size n l z n (omega arith))

module _ (xs : List (List ℕ)) (o₀ : List ℕ) (at : ℕ) where
  -- the first k are written
  pub record Done (o : List ℕ) (k : ℕ) : Type 0 where
    pub same : o ≡ sets o₀ at (joined_up (take k xs))
    pub long : length o ≡ length o₀

  pub done_first : Done o₀ 0
  unfolding concat_map
  done_first = record { same = refl; long = refl }

  module _ (size n : ℕ) (all : Sized size n xs) (o : List ℕ) (k : ℕ) (z : Done o k) where
    pub done_next : k < n → (o' : List ℕ) → PutsRecord xs k o (at + size * k) o' → Done o' (k + 1)
    done_next h o' put =
        let before = sized_take size n xs all k (omega arith) in
        record {
          same =
              put.output
              ∙ rw (z.same, ← before, add-one k, take_more xs k put.bytes put.here, concat_more (λ (w : List ℕ). w) (take k xs) put.bytes)
              (sym (sets_append (joined_up (take k xs)) put.bytes o₀ at));
          long = ap length put.output ∙ length-sets o (at + size * k) put.bytes ∙ z.long;
        }

    pub done_last : n ≤ k → WritesPart o₀ at (joined_up xs) (at + size * n) o
    done_last h = record {
      output = z.same ∙ rw (take_all k xs (omega (arith, all.many)));
      end = rw (sized_length size n xs all);
    }

-- ---- the area

pub area_start_lem : (b : List ℕ) (s : ℕ) → length_good b ≡ true → s ≡ area_at b → s ≤ length b
area_start_lem b s g e = omega (arith, (sized b g).whole)

pub area_end : (b : List ℕ) (at n : ℕ) → length_good b ≡ true → at ≤ 5928 → n ≡ area_length b → at + n < 18446744073709551616
area_end b at n g h e = omega (arith, (sized b g).counts.area)

module _ (o o' : List ℕ) (at : ℕ) (b : List ℕ) (g : length_good b ≡ true) where
  pub area_written : (s n : ℕ) → s ≡ area_at b → o' ≡ sets o at (from s b) → n ≡ area_length b → WritesPart o at (read_form b).area (at + n) o'
  unfolding read_form
  area_written s n e put en = record {
    output = put ∙ rw (from_drop s b, e);
    end = rw (area_length_lem b g, en);
  }
