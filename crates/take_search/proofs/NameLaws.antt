-- The loops that look up a name.
use mathlib.Core.Path.{◌≡◌, refl, sym, ap, ◌∙◌}
use mathlib.Core.Bool.{Bool, true, false, ◌&&◌, ◌||◌, or-false}
use Rattle.std.specs.Str.{bytes_eq}
use mathlib.Core.List.{List, [], ◌∷◌}
use mathlib.Core.Option.{some}
use Prim.Native.Nat.{ℕ, zero, suc, ◌+◌, ◌-◌, ◌≤◌, ◌<◌}
use native.Mathlib.Nat.{not-suc-le-zero, le_of_suc-le-suc}
use native.Mathlib.Numerals.{add-one}
use native.Mathlib.Omega.{arith}
use lib.Dec.{eqb}
use lib.ListN.{length, get_or, take, drop, get_elem?, drop_of_length-le}
use lib.Seq.{drop-cons}
use borrow.Author.Tests.{eq-eqb, ne_eqb}
use Rattle.rules.specs.Base.{contains, same, concat_map}
use Rattle.rules.specs.Form.{Name, name_count, read_form, name_bytes}
use Rattle.rules.specs.Tree.{long_of, named_by}
use Rattle.rules.specs.Take.{contains_name}
use Rattle.rules.proofs.Acceptance.{lookup_some}
use Rattle.rules.proofs.Places.{drop_below}
use Rattle.rules.proofs.ContainsLaws.{names_append}
use Rattle.form_names.specs.Names.{name_of}
use Rattle.form_names.specs.declared.Name as declared
use Rattle.form_layout.specs.Layout.{name_bytes_at}
use Rattle.form_layout.proofs.Sizes.{names_length}
use Rattle.form_codes.specs.Codes.{names_from, named_at}

-- ---- lists

pub at_get_d : (l : List ℕ) (i : ℕ) → i < length l → get_elem? l i ≡ some (get_or l i 0)
at_get_d [] i h = absurd (not-suc-le-zero h)
at_get_d (x ∷ l) zero h = refl
at_get_d (x ∷ l) (suc i) h = at_get_d l i (le_of_suc-le-suc h)

-- what a loop from k up to `end` has yet to look at
abbrev pub window : {A : Type 0} → List A → ℕ → ℕ → List A
window l k end = take (end - k) (drop k l)

window_step : {A : Type 0} (l : List A) (k end : ℕ) (x : A) → k < end → get_elem? l k ≡ some x → window l k end ≡ x ∷ window l (k + 1) end
window_step l k end x h e = let z : end - k ≡ suc (end - suc k) = omega arith in rw (z, add-one k, drop_below l k x e)

window_end : {A : Type 0} (l : List A) (k end : ℕ) → end ≤ k → window l k end ≡ []
window_end l k end h = let z : end - k ≡ 0 = omega arith in rw z

-- ---- short names

-- the loop of `has_short`: what is left decides
pub record Sifting (l : List ℕ) (want k : ℕ) : Type 0 where
  pub same : contains (drop k l) want ≡ contains l want

module _ (l : List ℕ) (want k : ℕ) (z : Sifting l want k) where
  pub sifting_next : k < length l → (get_or l k 0 ≡ want → ⊥) → Sifting l want (k + 1)
  unfolding contains
  sifting_next h n = record { same = sym (rw (add-one, drop-cons l k 0 h, ne_eqb (get_or l k 0) want n)) ∙ z.same }

  pub sifting_hit : k < length l → get_or l k 0 ≡ want → true ≡ contains l want
  unfolding contains
  sifting_hit h n = sym (rw (drop-cons l k 0 h, eq-eqb (get_or l k 0) want n)) ∙ z.same

  pub sifting_last : length l ≤ k → false ≡ contains l want
  unfolding contains
  sifting_last h = sym (rw (drop_of_length-le l h)) ∙ z.same

-- ---- bytes

-- `==` of two slices is the rules' test
pub bytes_same : (a b : List ℕ) → bytes_eq a b ≡ same a b
unfolding same
bytes_same [] [] = refl
bytes_same [] (y ∷ b) = refl
bytes_same (x ∷ a) [] = refl
bytes_same (x ∷ a) (y ∷ b) = ap (λ (t : Bool). eqb x y && t) (bytes_same a b)

-- ---- long names

module _ (b : List ℕ) (k : ℕ) (x : declared.Name) (e : get_elem? (read_form b).names k ≡ some (name_of x)) (name : List ℕ) where
  abbrev IsLong : Bool → Type 0
  IsLong r = (y : Name) → get_elem? (read_form b).names k ≡ some y → r ≡ contains_name (long_of (read_form b).area y) name

  pub not_long_lem : (x.kind ≡ 1 → ⊥) → IsLong (eqb x.kind 1)
  unfolding long_of contains_name
  not_long_lem h y f = let w : name_of x ≡ y = cc in rw (← w, ne_eqb x.kind 1 h)

  pub long_same : x.kind ≡ 1 → (s : List ℕ) → name_bytes_at (read_form b) k ≡ some s → (r : Bool) → r ≡ bytes_eq s name → IsLong r
  unfolding long_of contains_name name_bytes_at
  long_same h s t r q y f =
      let w : name_of x ≡ y = cc in
      let z : some (name_bytes (read_form b).area (name_of x)) ≡ some s = rw (e, name_bytes_at) at t in
      let v : name_bytes (read_form b).area (name_of x) ≡ s = cc in
      rw (← w, eq-eqb x.kind 1 h, v, or-false (same s name)) (q ∙ bytes_same s name)

-- the long names yet to be looked at
abbrev longs : List ℕ → List Name → List (List ℕ)
longs area l = concat_map (long_of area) l

-- the loop of `has_long`
pub record Scanning (b name : List ℕ) (first count end k : ℕ) : Type 0 where
  pub within : k ≤ end
  pub same : contains_name (longs (read_form b).area (window (read_form b).names k end)) name ≡ contains_name (named_at b first count).longs name

pub scanning_first : (b name : List ℕ) (first count end : ℕ) → end ≡ first + count → Scanning b name first count end first
unfolding named_at named_by names_from
scanning_first b name first count end e =
    let z : end - first ≡ count = omega arith in
    record { within = omega arith; same = rw z }

module _ (b name : List ℕ) (first count end k : ℕ) (room : first + count ≤ name_count b) (ee : end ≡ first + count) (z : Scanning b name first count end k) where
  scanned : k < end → (r : Bool)
      → ((y : Name) → get_elem? (read_form b).names k ≡ some y → r ≡ contains_name (long_of (read_form b).area y) name)
      → (r || contains_name (longs (read_form b).area (window (read_form b).names (k + 1) end)) name) ≡ contains_name (named_at b first count).longs name
  unfolding concat_map
  scanned h r said =
      let l = names_length b in
      let x = lookup_some (read_form b).names k (omega arith) in
      rw (said x.0 x.1)
      (sym (names_append (long_of (read_form b).area x.0) _ name)
      ∙ sym (rw (window_step (read_form b).names k end x.0 h x.1)) ∙ z.same)

  pub scanning_next : k < end → (r : Bool)
      → ((y : Name) → get_elem? (read_form b).names k ≡ some y → r ≡ contains_name (long_of (read_form b).area y) name)
      → r ≡ false → Scanning b name first count end (k + 1)
  scanning_next h r said n = record { within = omega arith; same = sym (rw n) ∙ scanned h r said }

  pub scanning_hit : k < end → (r : Bool)
      → ((y : Name) → get_elem? (read_form b).names k ≡ some y → r ≡ contains_name (long_of (read_form b).area y) name)
      → r ≡ true → true ≡ contains_name (named_at b first count).longs name
  scanning_hit h r said n = sym (rw n) ∙ scanned h r said

  pub scanning_last : end ≤ k → false ≡ contains_name (named_at b first count).longs name
  unfolding contains_name concat_map
  scanning_last h = sym (rw (window_end (read_form b).names k end h)) ∙ z.same
