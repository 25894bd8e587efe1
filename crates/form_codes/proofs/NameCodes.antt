-- Laws of the codes of a form's names.
use mathlib.Core.Path.{◌≡◌, refl, sym, ap, ◌∙◌}
use mathlib.Core.Bool.{Bool, true, false, or-false}
use mathlib.Core.List.{List, [], ◌∷◌, map}
use mathlib.Core.Option.{Option, some, none}
use Prim.Native.Nat.{ℕ, zero, suc, ◌+◌, ◌-◌, ◌≤◌, ◌<◌, min}
use native.Mathlib.Nat.{zero-add}
use native.Mathlib.Numerals.{add-one}
use native.Mathlib.Omega.{arith}
use lib.Dec.{eqb, eqb-zero-suc, eqb-suc-suc}
use lib.ListN.{length, get_or, take, drop, set, get_elem?, replicate, length-map, length-replicate}
use lib.Seq.{sets, length-sets, sets-eq, take_at, get_or-take}
use borrow.Author.Tests.{eq-eqb, ne_eqb}
use Rattle.std.specs.Prelude.{if◌then◌else◌}
use Rattle.wire.proofs.Stores.{Stored, stored_first, stored_next, stored_last}
use Rattle.rules.specs.Base.{contains, concat_map}
use Rattle.rules.specs.Codes.{place_code}
use Rattle.rules.specs.Form.{Node, Name, name_count, read_form, name_bytes, one_character}
use Rattle.rules.specs.Tree.{Named, short_of, names_of, named_of, named_by}
use Rattle.rules.proofs.Acceptance.{bind_some, names_some}
use Rattle.rules.proofs.ContainsLaws.{contains_append}
use Rattle.form_names.specs.Names.{name_of}
use Rattle.form_names.specs.declared.Name as declared
use Rattle.form_layout.specs.Layout.{name_bytes_at, GoodNames}
use Rattle.form_layout.proofs.Sizes.{names_length, names_few}
use Rattle.form_codes.specs.Codes.{code_of, codes_of, CodedNames, WroteCodes, names_from, named_at}

-- ---- lists

pub map_at : {A B : Type 0} (f : A → B) (l : List A) (k : ℕ) (x : A) → get_elem? l k ≡ some x → get_elem? (map f l) k ≡ some (f x)
map_at f [] k x e = let z : ◌≡◌ {A = ℕ} 0 1 = cc in absurd (omega arith)
map_at f (y ∷ l) zero x e = let z : y ≡ x = cc in rw z
map_at f (y ∷ l) (suc k) x e = map_at f l k x e

map_take : {A B : Type 0} (f : A → B) (n : ℕ) (l : List A) → take n (map f l) ≡ map f (take n l)
map_take f zero l = refl
map_take f (suc n) [] = refl
map_take f (suc n) (x ∷ l) = ap (λ (r : List _). f x ∷ r) (map_take f n l)

map_drop : {A B : Type 0} (f : A → B) (n : ℕ) (l : List A) → drop n (map f l) ≡ map f (drop n l)
map_drop f zero l = refl
map_drop f (suc n) [] = refl
map_drop f (suc n) (x ∷ l) = map_drop f n l

-- a part of the front of a list
take_drop_front : {A : Type 0} (n m k : ℕ) (l : List A) → m + k ≤ n → take k (drop m (take n l)) ≡ take k (drop m l)
take_drop_front n zero zero l h = refl
take_drop_front zero zero (suc k) l h = absurd (omega arith)
take_drop_front (suc n) zero (suc k) [] h = refl
take_drop_front (suc n) zero (suc k) (x ∷ l) h = ap (λ (r : List _). x ∷ r) (take_drop_front n zero k l (omega arith))
take_drop_front zero (suc m) k l h = absurd (omega arith)
take_drop_front (suc n) (suc m) k [] h = refl
take_drop_front (suc n) (suc m) k (x ∷ l) h = take_drop_front n m k l (omega arith)

pub get_d_of : (l : List ℕ) (i x : ℕ) → get_elem? l i ≡ some x → get_or l i 0 ≡ x
get_d_of [] i x e = let z : ◌≡◌ {A = ℕ} 0 1 = cc in absurd (omega arith)
get_d_of (y ∷ l) zero x e = cc
get_d_of (y ∷ l) (suc i) x e = get_d_of l i x e

-- ---- codes

module _ (b : List ℕ) (k : ℕ) (x : declared.Name) (e : get_elem? (read_form b).names k ≡ some (name_of x)) where
  pub code_other : (x.kind ≡ 0 → ⊥) → get_elem? (codes_of (read_form b)) k ≡ some 0
  unfolding codes_of code_of
  code_other h = map_at (code_of (read_form b).area) (read_form b).names k (name_of x) e ∙ rw (ne_eqb x.kind 0 h)

  pub code_short : x.kind ≡ 0 → (s : List ℕ) → name_bytes_at (read_form b) k ≡ some s → (r : ℕ) → r ≡ place_code (one_character s)
      → get_elem? (codes_of (read_form b)) k ≡ some r
  unfolding codes_of code_of name_bytes_at
  code_short h s t r q =
      let z : some (name_bytes (read_form b).area (name_of x)) ≡ some s = rw (e, name_bytes_at) at t in
      let w : name_bytes (read_form b).area (name_of x) ≡ s = cc in
      map_at (code_of (read_form b).area) (read_form b).names k (name_of x) e ∙ rw (eq-eqb x.kind 0 h, w, q)

codes_length : (b : List ℕ) → length (codes_of (read_form b)) ≡ name_count b
unfolding codes_of
codes_length b = length-map (read_form b).names _ ∙ names_length b

-- the loop of `codes`
abbrev pub StoringCodes : List ℕ → List ℕ → ℕ → List ℕ → ℕ → Type 0
StoringCodes b out₀ n out k = Stored out₀ 0 (codes_of (read_form b)) n out k

pub filling_first : (b out : List ℕ) (n : ℕ) → StoringCodes b out n out 0
filling_first b out n = stored_first out 0 (codes_of (read_form b)) n

module _ (b out₀ : List ℕ) (n : ℕ) (out : List ℕ) (k : ℕ) (few : n ≡ name_count b) (room : name_count b ≤ length out₀) (z : StoringCodes b out₀ n out k) where
  all_fit : n ≡ min (length (codes_of (read_form b))) (length out₀ - 0)
  all_fit = let l = codes_length b in omega arith

  pub filling_next : (x : ℕ) → get_elem? (codes_of (read_form b)) k ≡ some x → k < n → StoringCodes b out₀ n (set out k x) (k + 1)
  filling_next x e h =
      let next = stored_next out₀ 0 (codes_of (read_form b)) n out k all_fit z x (sym (get_d_of (codes_of (read_form b)) k x e)) h in
      let w : 0 + k ≡ k = zero-add k in
      rw w at next

  pub filling_last : n ≤ k → WroteCodes b out₀ out
  filling_last h =
      let v = codes_of (read_form b) in
      let l = codes_length b in
      let s : out ≡ sets out₀ 0 v = stored_last out₀ 0 v n out k all_fit z h in
      let whole = length-sets out₀ 0 v in
      record {
        same = s;
        coded = record {
          long = omega (arith, ap length s);
          same = rw (s, sets-eq v out₀ 0 (omega arith)) (take_at v _ (name_count b) l);
        };
      }

-- the code that a table has of a name
pub code_at : (b codes : List ℕ) (k : ℕ) (x : Name) → CodedNames b codes → k < name_count b → get_elem? (read_form b).names k ≡ some x
    → get_or codes k 0 ≡ code_of (read_form b).area x
unfolding codes_of
code_at b codes k x z h e =
    sym (get_or-take (name_count b) codes k 0 h)
    ∙ rw z.same (get_d_of (codes_of (read_form b)) k _ (map_at (code_of (read_form b).area) (read_form b).names k x e))

-- ---- short names

short_shape : (t : Bool) (o : Option ℕ) (c : ℕ)
    → contains (if t then (elim o [ none ↦ [] | some d ↦ d ∷ [] ]) else []) c ≡ eqb (if t then place_code o else 0) (suc c)
unfolding contains
short_shape true none c = sym (eqb-zero-suc c)
short_shape true (some d) c = or-false (eqb d c) ∙ sym (eqb-suc-suc d c)
short_shape false o c = sym (eqb-zero-suc c)

pub short_code : (area : List ℕ) (x : Name) (c : ℕ) → contains (short_of area x) c ≡ eqb (code_of area x) (suc c)
unfolding short_of code_of
short_code area x c = short_shape (eqb x.type 0) (one_character (name_bytes area x)) c

shorts_codes : (area : List ℕ) (l : List Name) (c : ℕ) → contains (concat_map (short_of area) l) c ≡ contains (map (code_of area) l) (suc c)
unfolding concat_map contains
shorts_codes area [] c = refl
shorts_codes area (x ∷ l) c =
    contains_append (short_of area x) (concat_map (short_of area) l) c ∙ rw (short_code area x c, shorts_codes area l c)

-- the codes of a table decide
pub shorts_table : (b table : List ℕ) (first count c : ℕ) → CodedNames b table → first + count ≤ name_count b
    → contains (named_at b first count).shorts c ≡ contains (take count (drop first table)) (c + 1)
unfolding named_at named_by names_from codes_of
shorts_table b table first count c z h =
    let f = read_form b in
    shorts_codes f.area (take count (drop first f.names)) c
    ∙ rw (add-one c, ← take_drop_front (name_count b) first count table h, z.same)
    (ap (λ (l : List ℕ). contains l (suc c))
    (sym (ap (take count) (map_drop (code_of f.area) first f.names) ∙ map_take (code_of f.area) count (drop first f.names))))

-- ---- names

pub named_at_lem : (b : List ℕ) (x : Node) (n : Named) → named_of (read_form b) x ≡ some n
    → (n ≡ named_at b x.p x.q) × (x.p + x.q ≤ name_count b)
unfolding named_of named_at names_from
named_at_lem b x n e =
    let f = read_form b in
    let l = bind_some (names_of f x) _ e in
    let s = names_some f x l.0 l.1 in
    let k : some (named_by f.area l.0) ≡ some n = l.2 in
    let z : named_by f.area l.0 ≡ n = cc in
    let room = s.inside in
    (sym z ∙ ap (named_by f.area) (sym s.part), omega (arith, names_length b))

-- a table of 128 words has room
pub codes_room : (b w : List ℕ) → GoodNames b → w ≡ replicate 128 0 → name_count b ≤ length w
codes_room b w g z = omega (arith, names_few b g, ap length z ∙ length-replicate {A = ℕ} 128 0)
