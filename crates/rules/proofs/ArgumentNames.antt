-- The name of an argument, and its letters.
use mathlib.Core.Bool.{Bool, true, false, not, ◌&&◌, and-eq-true_iff, false≢true}
use mathlib.Core.List.{List, [], ◌∷◌}
use mathlib.Core.Option.{Option, some, none}
use mathlib.Core.Path.{◌≡◌, refl, sym, ap, ◌∙◌}
use Prim.Native.Nat.{ℕ, zero, suc, ◌-◌, ◌≤◌}
use native.Mathlib.Numerals.{add-one}
use native.Mathlib.Omega.{arith}
use lib.Dec.{eqb}
use lib.ListN.{length, drop, length-drop, drop_of_length-le}
use lib.Seq.{drop-drop}
use borrow.Author.Tests.{eqb-true, eqb-false, eq-eqb, ne_eqb, not-true}
use Rattle.utf8.specs.Utf8.{decode, decode_at, well_formed, well_formed_after}
use Rattle.utf8.specs.Laws.{character}
use Rattle.std.specs.Prelude.{Some}
use Rattle.utf8.specs.declared.Char.{Char}
use Rattle.rules.specs.Base.{null, is_some}
use Rattle.rules.specs.Outcome.{Outcome, ok, ◌>>=◌}
use Rattle.rules.specs.Split.{dash, ArgType, short, long, Parts, before_equals, behind_equals, parts, split_long, split_short}
use Rattle.rules.specs.Split.{behind_dash, split_os_argument, Letter, cluster_from}
use Rattle.rules.specs.Demands.{All}
use Rattle.rules.specs.Why.{dashed_name}
use Rattle.rules.proofs.Places.{if_elim, left, right}
use Rattle.rules.proofs.SplitLaws.{letter_ok, cluster_step, cluster_ok, some≢none, short_body_lem, ok_injective}

-- ---- the letters of a name
-- the first one, and those behind it
record FirstLetter (k b : ℕ) (s : List ℕ) (ls : List Letter) : Type 0 where
  character : Char
  later : List Letter
  decoded : decode (b ∷ s) ≡ Some character
  good : well_formed_after (character.size - 1) s ≡ true
  further : cluster_from (character.size - 1) (suc k) s ≡ ok later
  these : ls ≡ record { character = character.value; place = k; rest = drop character.size (b ∷ s) } ∷ later

first_letter :
    (k b : ℕ) (s : List ℕ) (ls : List Letter)
    → well_formed_after 0 (b ∷ s) ≡ true
    → cluster_from 0 k (b ∷ s) ≡ ok ls
    → FirstLetter k b s ls
first_letter k b s ls w e =
    let x = letter_ok b s w in
    let more = cluster_ok (x.0.size - 1) (suc k) s x.3 in
    record {
      character = x.0;
      later = more.0;
      decoded = x.1;
      good = x.3;
      further = more.1;
      these = ok_injective (sym e ∙ cluster_step k b x.0 s more.0 x.1 x.2 more.1);
    }

-- a letter's character stands at its place, and its rest is a part of the name
pub record LetterOf (name : List ℕ) (x : Letter) : Type 0 where
  pub size : ℕ
  pub decoded : decode_at name x.place ≡ Some (record { value = x.character; size = size })
  pub fewer : length x.rest ≤ length name

module _ (name : List ℕ) where
  next : (k b : ℕ) (s : List ℕ) → drop k name ≡ b ∷ s → drop (suc k) name ≡ s
  next k b s d = rw (← add-one k, ← drop-drop 1 k name, d)

  letters_from_lem :
      (skip k : ℕ) (s : List ℕ) (ls : List Letter)
      → drop k name ≡ s
      → well_formed_after skip s ≡ true
      → cluster_from skip k s ≡ ok ls
      → All (LetterOf name) ls
  unfolding well_formed_after cluster_from decode_at
  letters_from_lem skip k [] ls d w e = rw (← ok_injective e) tt
  letters_from_lem (suc skip) k (b ∷ s) ls d w e = letters_from_lem skip (suc k) s ls (next k b s d) w e
  letters_from_lem zero k (b ∷ s) ls d w e =
      let x = first_letter k b s ls w e in
      let n = x.character.size in
      let few : length (drop n (b ∷ s)) ≤ length name = omega (arith, length-drop n (b ∷ s), ap length d, length-drop k name) in
      rw x.these (
        record { size = n; decoded = rw d x.decoded; fewer = few },
        letters_from_lem (n - 1) (suc k) s x.later (next k b s d) x.good x.further,
      )

  pub letters_of_lem : (ls : List Letter) → well_formed name ≡ true → cluster_from 0 0 name ≡ ok ls → All (LetterOf name) ls
  unfolding well_formed
  letters_of_lem ls w e = letters_from_lem 0 0 name ls refl w e

-- no letter is left only where all bytes belong to the last one
none_left : (skip k : ℕ) (s : List ℕ) → well_formed_after skip s ≡ true → cluster_from skip k s ≡ ok [] → length s ≤ skip
unfolding well_formed_after cluster_from
none_left skip k [] w e = omega arith
none_left (suc skip) k (b ∷ s) w e = let h = none_left skip (suc k) s w e in omega arith
none_left zero k (b ∷ s) w e = let x = (first_letter k b s [] w e).these in absurd (let z : ◌≡◌ {A = ℕ} 0 1 = cc in omega arith)

-- so a letter alone has no rest
pub alone : (b : ℕ) (s : List ℕ) (x : Letter) → well_formed (b ∷ s) ≡ true → cluster_from 0 0 (b ∷ s) ≡ ok (x ∷ []) → null x.rest ≡ true
unfolding well_formed null decode_at
alone b s x w e =
    let f = first_letter 0 b s (x ∷ []) w e in
    let n = f.character.size in
    let ended : f.later ≡ [] = cc f.these in
    let over = none_left (n - 1) 1 s f.good (rw ended at f.further) in
    let some = (character (b ∷ s) 0 f.character f.decoded).some in
    let past : length (b ∷ s) ≤ n = omega arith in
    let same : x ≡ record { character = f.character.value; place = 0; rest = drop n (b ∷ s) } = cc f.these in
    rw (same, drop_of_length-le (b ∷ s) past)

-- ---- the name of an argument
pub record NameShape (os name : List ℕ) : Type 0 where
  pub first : ℕ
  pub more : List ℕ
  pub bytes : os ≡ dash ∷ first ∷ more
  pub no_dash : first ≡ dash → ⊥
  pub utf8 : well_formed (first ∷ more) ≡ true
  pub no_equals : behind_equals more ≡ none
  pub all : name ≡ first ∷ more

-- a name behind one dash, and no value
abbrev pub short_parts : List ℕ → Parts
short_parts name = record { type = short; name = name; body = none }

module _ (os name : List ℕ) (h : NameShape os name) where
  pub shape_parts : split_os_argument os ≡ ok (some (short_parts name))
  unfolding split_os_argument behind_dash split_short parts
  shape_parts =
      rw (h.all, h.bytes, eq-eqb dash dash refl, ne_eqb h.first dash h.no_dash, h.no_equals, split_short, h.utf8)

  pub shape_name : dashed_name os ≡ some name
  unfolding dashed_name is_some
  shape_name =
      rw (h.all, h.bytes, dashed_name, eq-eqb dash dash refl, ne_eqb h.first dash h.no_dash, h.utf8, h.no_equals)

is_some_false : {A : Type 0} (o : Option A) → is_some o ≡ false → o ≡ none
unfolding is_some
is_some_false none e = refl
is_some_false (some a) e = absurd (false≢true (sym e))

pub name_shape : (os name : List ℕ) → dashed_name os ≡ some name → NameShape os name
unfolding dashed_name
name_shape [] name e = absurd (some≢none (sym e))
name_shape (d ∷ []) name e = absurd (some≢none (sym e))
name_shape (d ∷ b ∷ s) name e = if_elim Given (dashes && good) (some (b ∷ s)) none there (λ h f. absurd (some≢none (sym f))) e
  where
    dashes : Bool
    dashes = eqb d dash && not (eqb b dash)

    good : Bool
    good = well_formed (b ∷ s) && not (is_some (behind_equals s))

    Given : Option (List ℕ) → Type 0
    Given o = o ≡ some name → NameShape (d ∷ b ∷ s) name

    there : dashes && good ≡ true → Given (some (b ∷ s))
    there h f =
        let p = (and-eq-true_iff (eqb d dash) _).0 (left dashes good h) in
        let q = (and-eq-true_iff (well_formed (b ∷ s)) _).0 (right dashes good h) in
        record {
          first = b;
          more = s;
          bytes = rw (eqb-true d dash p.0);
          no_dash = eqb-false b dash (not-true _ p.1);
          utf8 = q.0;
          no_equals = is_some_false (behind_equals s) (not-true _ q.1);
          all = cc;
        }

parts_are :
    (t : ArgType) (n : List ℕ) (b : Option (List ℕ)) (p : Parts)
    → parts t n b ≡ some p
    → (p ≡ record { type = t; name = n; body = b }) × (well_formed n ≡ true)
unfolding parts
parts_are t n b p =
    if_elim (λ (o : Option Parts). o ≡ some p → (p ≡ record { type = t; name = n; body = b }) × (well_formed n ≡ true))
    (well_formed n) _ none (λ w e. (cc, w)) (λ w e. absurd (some≢none (sym e)))

-- two dashes have a long name behind them
long_type : (s : List ℕ) (p : Parts) → split_long s ≡ some p → p.type ≡ long
unfolding split_long
long_type s p e = go (behind_equals s) refl
  where
    go : (v : Option (List ℕ)) → behind_equals s ≡ v → p.type ≡ long
    go none h =
        if_elim (λ (o : Option Parts). o ≡ some p → p.type ≡ long) (null s) none (parts long s none)
        (λ z f. absurd (some≢none (sym f))) (λ z f. ap (λ (q : Parts). q.type) (parts_are long s none p f).0) (rw (h, split_long) at e)
    go (some v) h = ap (λ (q : Parts). q.type) (parts_are long (before_equals s) (some v) p (rw (h, split_long) at e)).0

module _ (b : ℕ) (s name : List ℕ) where
  short_shape : (b ≡ dash → ⊥) → split_short b s ≡ ok (some (short_parts name)) → NameShape (dash ∷ b ∷ s) name
  unfolding split_short ◌>>=◌
  short_shape apart e = go (behind_equals s) refl
    where
      go : (v : Option (List ℕ)) → behind_equals s ≡ v → NameShape (dash ∷ b ∷ s) name
      go none h =
          let x = parts_are short (b ∷ s) none (short_parts name) (ok_injective (rw (h, split_short) at e)) in
          record { first = b; more = s; bytes = refl; no_dash = apart; utf8 = x.1; no_equals = h; all = ap (λ (q : Parts). q.name) x.0 }
      go (some v) h =
          let x = parts_are short (b ∷ []) _ (short_parts name) (ok_injective (rw (h, split_short, short_body_lem b s v h) at e)) in
          absurd (some≢none (sym (ap (λ (q : Parts). q.body) x.0)))

  dashed_shape : behind_dash (b ∷ s) ≡ ok (some (short_parts name)) → NameShape (dash ∷ b ∷ s) name
  unfolding behind_dash
  dashed_shape =
      if_elim (λ (o : Outcome (Option Parts)). o ≡ ok (some (short_parts name)) → NameShape (dash ∷ b ∷ s) name)
      (eqb b dash) (ok (split_long s)) (split_short b s)
      (λ h e. let x = long_type s (short_parts name) (ok_injective e) in absurd (let z : ◌≡◌ {A = ℕ} 0 1 = cc in omega arith))
      (λ h e. short_shape (eqb-false b dash h) e)

pub parts_shape : (os name : List ℕ) → split_os_argument os ≡ ok (some (short_parts name)) → NameShape os name
unfolding split_os_argument behind_dash
parts_shape [] name e = absurd (some≢none (sym (ok_injective e)))
parts_shape (d ∷ s) name e =
    if_elim (λ (o : Outcome (Option Parts)). o ≡ ok (some (short_parts name)) → NameShape (d ∷ s) name) (eqb d dash) (behind_dash s) (ok none)
    (λ h f. rw (eqb-true d dash h) (go s f)) (λ h f. absurd (some≢none (sym (ok_injective f)))) e
  where
    go : (s : List ℕ) → behind_dash s ≡ ok (some (short_parts name)) → NameShape (dash ∷ s) name
    go [] f = absurd (some≢none (sym (ok_injective f)))
    go (b ∷ s) f = dashed_shape b s name f
