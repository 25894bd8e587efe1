-- The steps of the functions on name records.
use mathlib.Core.Bool.{Bool, true, false, not, and-true, and-false, or-false}
use mathlib.Core.List.{List}
use mathlib.Core.Option.{Option, some, none}
use mathlib.Core.Path.{◌≡◌, refl, sym, ◌∙◌, ap}
use Prim.Native.Nat.{ℕ, suc, ◌+◌, ◌-◌, ◌*◌, ◌≤◌, ◌<◌}
use native.Mathlib.Omega.{arith}
use lib.Dec.{leb, eqb}
use lib.ListN.{length, get_or, take, drop}
use borrow.Author.Tests.{eq-eqb, ne_eqb, le-leb, lt-leb, not-true, not-false}
use borrow.Author.Count.{below_more}
use Rattle.utf8.specs.Utf8.{decode_at, well_formed}
use Rattle.utf8.specs.Laws.{decode_ascii}
use Rattle.std.specs.Prelude.{Option as CodeOption, Some, None}
use Rattle.utf8.specs.declared.Char.{Char}
use Rattle.wire.specs.Wire.{number_at}
use Rattle.rules.specs.Base.{first_fault, numbers, is_some}
use Rattle.rules.specs.Codes.{place_code}
use Rattle.rules.specs.Form.{read_name, one_character, name_bytes, type_good, name_good, is_alphanumeric, portable_character, portable_name}
use Rattle.form_names.specs.declared.Name as declared
use Rattle.form_names.specs.Names.{name_of, names_in, fault_or}
use Rattle.form_names.proofs.Faults.{fault_map, fault_here, fault_nowhere}

pub record_read :
    (b : List ℕ) (k t o s : ℕ)
    → t ≡ number_at 2 b (6 * k)
    → o ≡ number_at 2 b (6 * k + 2)
    → s ≡ number_at 2 b (6 * k + 4)
    → name_of (record { kind = t; offset = o; size = s }) ≡ read_name b (6 * k)
unfolding read_name
record_read b k t o s p q r = λ i. record { type = p i; offset = q i; size = r i }

pub bytes_part : (area : List ℕ) (x : declared.Name) → take (x.offset + x.size - x.offset) (drop x.offset area) ≡ name_bytes area (name_of x)
unfolding name_bytes
bytes_part area x = let e : x.offset + x.size - x.offset ≡ x.size = omega arith in rw e

module _ (s : List ℕ) (d : CodeOption Char) (c : Char) (e : d ≡ decode_at s 0) (k : d ≡ Some c) where
  pub character_one : c.size ≡ length s → c.value + 1 ≡ place_code (one_character s)
  unfolding one_character decode_at
  character_one h = rw (← e, k, one_character, eq-eqb c.size (length s) h) (omega arith)

  pub character_more : (c.size ≡ length s → ⊥) → 0 ≡ place_code (one_character s)
  unfolding one_character decode_at
  character_more h = rw (← e, k, one_character, ne_eqb c.size (length s) h)

pub character_ascii : (s : List ℕ) → length s ≡ 1 → get_or s 0 0 < 0x80 → get_or s 0 0 + 1 ≡ place_code (one_character s)
character_ascii s l h = character_one s _ (record { value = get_or s 0 0; size = 1 }) (decode_ascii s 0 (get_or s 0 0) (omega arith) refl h) refl (sym l)

pub character_bad : (s : List ℕ) (d : CodeOption Char) → d ≡ decode_at s 0 → d ≡ None → 0 ≡ place_code (one_character s)
unfolding one_character decode_at
character_bad s d e k = rw (← e, k, one_character)

pub some_code : (o : Option ℕ) → not (eqb (place_code o) 0) ≡ is_some o
unfolding is_some
some_code none = refl
some_code (some c) = ap not (ne_eqb (suc c) 0 (λ e. omega arith))

-- ---- types
module _ (t : ℕ) (s : List ℕ) where
  pub type_short : (x : ℕ) → t ≡ 0 → x ≡ place_code (one_character s) → not (eqb x 0) ≡ type_good t s
  unfolding type_good
  type_short x e r = rw (e, r) (some_code (one_character s))

  pub type_long : (x : Bool) → t ≡ 1 → x ≡ well_formed s → x ≡ type_good t s
  unfolding type_good
  type_long x e r = rw e r

  pub type_text : (t ≡ 0 → ⊥) → (t ≡ 1 → ⊥) → eqb t 2 ≡ type_good t s
  unfolding type_good
  type_text e r = rw (ne_eqb t 0 e, ne_eqb t 1 r)

-- ---- the portable mark
module _ (area : List ℕ) (x : declared.Name) where
  pub portable_other : (x.kind ≡ 0 → ⊥) → true ≡ portable_name area (name_of x)
  unfolding portable_name
  portable_other e = rw (ne_eqb x.kind 0 e)

  module _ (e : x.kind ≡ 0) (s : List ℕ) (h : s ≡ name_bytes area (name_of x)) (c : ℕ) (r : c ≡ place_code (one_character s)) where
    by_character_lem :
        (o : Option ℕ)
        → one_character (name_bytes area (name_of x)) ≡ o
        → (c ≡ place_code o) × (portable_name area (name_of x) ≡ elim o [ none ↦ false | some v ↦ portable_character v ])
    unfolding portable_name
    by_character_lem none k = (rw (h, k) at r, rw (eq-eqb x.kind 0 e, k, portable_name))
    by_character_lem (some v) k = (rw (h, k) at r, rw (eq-eqb x.kind 0 e, k, portable_name))

    pub portable_none : c ≡ 0 → false ≡ portable_name area (name_of x)
    portable_none z = go (one_character (name_bytes area (name_of x))) (by_character_lem _ refl)
      where
        go :
            (o : Option ℕ)
            → (c ≡ place_code o) × (portable_name area (name_of x) ≡ elim o [ none ↦ false | some v ↦ portable_character v ])
            → false ≡ portable_name area (name_of x)
        go none p = sym p.1
        go (some v) p = absurd (omega (arith, p.0))

    pub portable_one : (c ≡ 0 → ⊥) → (g : Bool) → g ≡ portable_character (c - 1) → g ≡ portable_name area (name_of x)
    portable_one z g q = go (one_character (name_bytes area (name_of x))) (by_character_lem _ refl)
      where
        go :
            (o : Option ℕ)
            → (c ≡ place_code o) × (portable_name area (name_of x) ≡ elim o [ none ↦ false | some v ↦ portable_character v ])
            → g ≡ portable_name area (name_of x)
        go none p = absurd (z p.0)
        go (some v) p = let less : c - 1 ≡ v = omega (arith, p.0) in q ∙ ap portable_character less ∙ sym p.1

module _ (c : ℕ) where
  pub portable_vendors : c ≡ 87 → false ≡ portable_character c
  unfolding portable_character
  portable_vendors e = rw (eq-eqb c 87 e, and-false (is_alphanumeric c))

  module _ (w : c ≡ 87 → ⊥) where
    alphanumeric : is_alphanumeric c ≡ portable_character c
    unfolding portable_character
    alphanumeric = rw (ne_eqb c 87 w, and-true (is_alphanumeric c))

    pub portable_digit : c ≤ 57 → leb 48 c ≡ portable_character c
    unfolding is_alphanumeric
    portable_digit h =
        rw (← alphanumeric, le-leb c 57 h, lt-leb 65 c (omega arith), lt-leb 97 c (omega arith), and-true (leb 48 c), or-false (leb 48 c))

    pub portable_upper : 57 < c → c ≤ 90 → leb 65 c ≡ portable_character c
    unfolding is_alphanumeric
    portable_upper l h =
        rw (← alphanumeric, le-leb 48 c (omega arith), lt-leb c 57 l, le-leb c 90 h, lt-leb 97 c (omega arith), and-true (leb 65 c), or-false (leb 65 c))

    pub portable_between : 57 < c → 90 < c → c < 97 → false ≡ portable_character c
    unfolding is_alphanumeric
    portable_between d l h =
        rw (← alphanumeric, le-leb 48 c (omega arith), lt-leb c 57 d, le-leb 65 c (omega arith), lt-leb c 90 l, lt-leb 97 c h)

    pub portable_lower : 57 < c → 90 < c → 97 ≤ c → leb c 122 ≡ portable_character c
    unfolding is_alphanumeric
    portable_lower d l h =
        rw (← alphanumeric, le-leb 48 c (omega arith), lt-leb c 57 d, le-leb 65 c (omega arith), lt-leb c 90 l, le-leb 97 c h)

-- ---- records at fault
module _ (records area : List ℕ) (n : ℕ) where
  abbrev pub good_at : ℕ → Bool
  good_at k = name_good area (read_name records (6 * k))

  names_by : first_fault (name_good area) 0 (names_in records n) ≡ first_fault good_at 0 (numbers n 0)
  unfolding names_in
  names_by = fault_map (name_good area) (λ k. read_name records (6 * k)) 0 (numbers n 0)

  pub names_here :
      (k : ℕ) (x : declared.Name) (g : Bool)
      → k < n
      → ((j : ℕ) → j < k → good_at j ≡ true)
      → name_of x ≡ read_name records (6 * k)
      → g ≡ name_good area (name_of x)
      → not g ≡ true
      → k ≡ fault_or n (first_fault (name_good area) 0 (names_in records n))
  names_here k x g l h e r f =
      let bad : good_at k ≡ false = ap (name_good area) (sym e) ∙ sym r ∙ not-true g f in
      rw (names_by, fault_here good_at n k l h bad)

  pub names_next :
      (k : ℕ) (x : declared.Name) (g : Bool)
      → ((j : ℕ) → j < k → good_at j ≡ true)
      → name_of x ≡ read_name records (6 * k)
      → g ≡ name_good area (name_of x)
      → not g ≡ false
      → (j : ℕ) → j < k + 1 → good_at j ≡ true
  names_next k x g h e r f = below_more (λ (j : ℕ). good_at j ≡ true) k h (ap (name_good area) (sym e) ∙ sym r ∙ not-false g f)

  pub names_nowhere : (k : ℕ) → n ≤ k → ((j : ℕ) → j < k → good_at j ≡ true) → n ≡ fault_or n (first_fault (name_good area) 0 (names_in records n))
  names_nowhere k l h = rw (names_by, fault_nowhere good_at n k l h)

-- ---- one record
pub name_long : (area : List ℕ) (x : declared.Name) → length area < x.size → false ≡ name_good area (name_of x)
unfolding name_good
name_long area x h = rw (lt-leb (x.offset + x.size) (length area) (omega arith))

pub name_outside : (area : List ℕ) (x : declared.Name) → x.size ≤ length area → length area - x.size < x.offset → false ≡ name_good area (name_of x)
unfolding name_good
name_outside area x h l = rw (lt-leb (x.offset + x.size) (length area) (omega arith))

pub name_inside :
    (area : List ℕ) (x : declared.Name) (s : List ℕ) (g : Bool)
    → x.size ≤ length area
    → x.offset ≤ length area - x.size
    → s ≡ name_bytes area (name_of x)
    → g ≡ type_good x.kind s
    → g ≡ name_good area (name_of x)
unfolding name_good
name_inside area x s g h l e r = rw (le-leb (x.offset + x.size) (length area) (omega arith), ← e) r
