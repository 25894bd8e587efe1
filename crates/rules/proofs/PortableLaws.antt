-- The laws of the portable mark.
use mathlib.Core.Bool.{Bool, true, false, not, ◌&&◌, ◌||◌, or-true, false≢true, and_assoc}
use mathlib.Core.List.{List, [], ◌∷◌, ◌++◌}
use mathlib.Core.Logic.{◌⊎◌, inl, inr}
use mathlib.Core.Option.{Option, some, none}
use mathlib.Core.Path.{◌≡◌, refl, sym, ap, ◌∙◌}
use Prim.Native.Nat.{ℕ, ◌≤◌}
use lib.Dec.{leb, eqb}
use borrow.Author.Tests.{eq-eqb, ne_eqb, eqb-true, eqb-false, le-leb, leb-true, not-true}
use Rattle.rules.specs.Base.{all}
use Rattle.rules.specs.Outcome.{ok}
use Rattle.rules.specs.Form.{Name, name_bytes, one_character, is_alphanumeric, portable_character, portable_name, portable}
use Rattle.rules.specs.Calls.{form_in, call_portable}
use Rattle.rules.specs.Demands.{All}
use Rattle.rules.specs.Encode.{encode_form}
use Rattle.rules.specs.Portable.{InPortableSet, Passes, mark_of, wear, PortableMark}
use Rattle.rules.proofs.Acceptance.{and-true}
use Rattle.rules.proofs.Opened.{formats, forms, running}

-- ---- characters
abbrev within : ℕ → ℕ → ℕ → Bool
within lo c hi = leb lo c && leb c hi

within_true : (lo c hi : ℕ) → (lo ≤ c) × (c ≤ hi) → within lo c hi ≡ true
within_true lo c hi h = rw (le-leb lo c h.0, le-leb c hi h.1)

true_within : (lo c hi : ℕ) → within lo c hi ≡ true → (lo ≤ c) × (c ≤ hi)
true_within lo c hi e = let h = and-true (leb lo c) (leb c hi) e in (leb-true lo c h.0, leb-true c hi h.1)

one_of : (a b : Bool) → (a || b) ≡ true → (a ≡ true) ⊎ (b ≡ true)
one_of true b e = inl refl
one_of false b e = inr e

pub character_passes : (c : ℕ) → InPortableSet c → portable_character c ≡ true
unfolding portable_character is_alphanumeric
character_passes c h = rw (ne_eqb c 87 h.not_vendors) (go h.alphanumeric)
  where
    go :
        ((48 ≤ c) × (c ≤ 57)) ⊎ (((65 ≤ c) × (c ≤ 90)) ⊎ ((97 ≤ c) × (c ≤ 122)))
        → ((within 48 c 57 || (within 65 c 90 || within 97 c 122)) && true) ≡ true
    go (inl k) = rw (within_true 48 c 57 k)
    go (inr (inl k)) = rw (within_true 65 c 90 k, or-true (within 48 c 57))
    go (inr (inr k)) = rw (within_true 97 c 122 k, or-true (within 65 c 90), or-true (within 48 c 57))

pub passing_character : (c : ℕ) → portable_character c ≡ true → InPortableSet c
unfolding portable_character is_alphanumeric
passing_character c e =
    let h = and-true (is_alphanumeric c) (not (eqb c 87)) e in
    record { alphanumeric = go (one_of _ _ h.0); not_vendors = eqb-false c 87 (not-true (eqb c 87) h.1) }
  where
    go :
        (within 48 c 57 ≡ true) ⊎ ((within 65 c 90 || within 97 c 122) ≡ true)
        → ((48 ≤ c) × (c ≤ 57)) ⊎ (((65 ≤ c) × (c ≤ 90)) ⊎ ((97 ≤ c) × (c ≤ 122)))
    go (inl k) = inl (true_within 48 c 57 k)
    go (inr k) = inr (more (one_of _ _ k))
      where
        more : (within 65 c 90 ≡ true) ⊎ (within 97 c 122 ≡ true) → ((65 ≤ c) × (c ≤ 90)) ⊎ ((97 ≤ c) × (c ≤ 122))
        more (inl k) = inl (true_within 65 c 90 k)
        more (inr k) = inr (true_within 97 c 122 k)

-- ---- one name
module _ (area : List ℕ) (x : Name) where
  -- of another type
  pub other_passes : (x.type ≡ 0 → ⊥) → portable_name area x ≡ true
  unfolding portable_name
  other_passes e = rw (ne_eqb x.type 0 e)

  abbrev by_character : Option ℕ → Bool
  by_character o = elim o [ none ↦ false | some c ↦ portable_character c ]

  -- of type 0
  short_mark : x.type ≡ 0 → portable_name area x ≡ by_character (one_character (name_bytes area x))
  unfolding portable_name
  short_mark e = rw (eq-eqb x.type 0 e)

  pub name_passes : portable_name area x ≡ true → Passes area x
  name_passes p e = go (one_character (name_bytes area x)) refl (sym (short_mark e) ∙ p)
    where
      go :
          (o : Option ℕ)
          → one_character (name_bytes area x) ≡ o
          → by_character o ≡ true
          → (c : ℕ) × (one_character (name_bytes area x) ≡ some c) × InPortableSet c
      go none k b = absurd (false≢true b)
      go (some c) k b = (c, k, passing_character c b)

  pub passes_name : Passes area x → portable_name area x ≡ true
  passes_name h = go (eqb x.type 0) refl
    where
      go : (b : Bool) → eqb x.type 0 ≡ b → portable_name area x ≡ true
      go true e =
          let k = h (eqb-true x.type 0 e) in
          short_mark (eqb-true x.type 0 e) ∙ ap by_character k.1 ∙ character_passes k.0 k.2
      go false e = other_passes (eqb-false x.type 0 e)

-- ---- lists of names
module _ (area : List ℕ) where
  pub mark_passes : (xs : List Name) → mark_of area xs ≡ true → All (Passes area) xs
  unfolding all
  mark_passes [] e = tt
  mark_passes (x ∷ xs) e =
      let h = and-true (portable_name area x) (mark_of area xs) e in (name_passes area x h.0, mark_passes xs h.1)

  pub passes_mark : (xs : List Name) → All (Passes area) xs → mark_of area xs ≡ true
  unfolding all
  passes_mark [] h = refl
  passes_mark (x ∷ xs) h = rw (passes_name area x h.0) (passes_mark xs h.1)

  pub mark_others : (xs : List Name) (x : Name) (ys : List Name) → (x.type ≡ 0 → ⊥) → mark_of area (xs ++ (x ∷ ys)) ≡ mark_of area (xs ++ ys)
  unfolding all
  mark_others [] x ys e = rw (other_passes area x e)
  mark_others (w ∷ xs) x ys e = ap (λ (b : Bool). portable_name area w && b) (mark_others xs x ys e)

  pub mark_joined : (xs ys : List Name) → mark_of area (xs ++ ys) ≡ (mark_of area xs && mark_of area ys)
  unfolding all
  mark_joined [] ys = refl
  mark_joined (x ∷ xs) ys =
      ap (λ (b : Bool). portable_name area x && b) (mark_joined xs ys) ∙ sym (and_assoc (portable_name area x) (mark_of area xs) (mark_of area ys))

-- ---- all of them
wear_passes : call_portable (encode_form wear) ≡ ok true
unfolding formats forms running call_portable form_in
wear_passes = refl

pub portable_mark : PortableMark
unfolding portable
portable_mark = record {
  yes = λ f e. mark_passes f.area f.names e;
  only = λ f h. passes_mark f.area f.names h;
  others = mark_others;
  unused = λ f fields nodes. refl;
  joined = mark_joined;
  cradles = wear_passes;
}
