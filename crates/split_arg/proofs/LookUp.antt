-- The loop over a cluster's letters: a letter at a byte of the name, and each way out against the definition.
use mathlib.Core.Path.{◌≡◌, refl, sym, ◌∙◌, ap}
use mathlib.Core.Bool.{Bool, true, false, ◌||◌, false≢true}
use mathlib.Core.Logic.{⊎_elim}
use mathlib.Core.List.{List, [], ◌∷◌, ◌++◌, map, append_assoc}
use Prim.Native.Nat.{ℕ, zero, suc, ◌+◌, ◌-◌, ◌≤◌, ◌<◌}
use native.Mathlib.Nat.{add-zero, add-suc, suc-add, eq-or-lt_of_le}
use native.Mathlib.Numerals.{add-one}
use native.Mathlib.Omega.{arith}
use lib.Dec.{eqb}
use lib.ListN.{length, get_or, take, drop, drop_of_length-le, length-drop, length-append, length-map}
use lib.Seq.{drop-cons, drop-drop, take_at}
use borrow.Author.Tests.{le-leb}
use Rattle.std.specs.Prelude.{Option, Some, None}
use Rattle.utf8.specs.Utf8.{decode, decode_at, well_formed}
use Rattle.utf8.specs.Laws.{character, well_formed_bad, well_formed_char}
use Rattle.utf8.specs.declared.Char.{Char}
use Rattle.rules.specs.Base.{contains, slice_from}
use Rattle.rules.specs.Outcome.{Outcome, ok, ◌>>=◌, at}
use Rattle.rules.specs.Accept.{Letters}
use Rattle.rules.specs.Split.{Letter, cluster_from, argument_letter, withdrawn, ambiguous, pick_letter, look_up, disambiguate_short}
use Rattle.rules.proofs.SplitLaws.{cluster_ok}
use Rattle.split_arg.specs.declared.Outcome.{Outcome as Found}
use Rattle.split_arg.specs.declared.Outcome.TheVariants.{Single, AllFlags, Argument, Withdrawn, Ambiguous}
use Rattle.split_arg.specs.Clusters.{letters, characters, LooksUp, Disambiguates}
use Rattle.split_arg.proofs.Names.{null_false, null_true}

-- ---- `contains`
pub contains_end : (s : List ℕ) (b i : ℕ) → length s ≤ i → contains (drop i s) b ≡ false
unfolding contains
contains_end s b i h = rw (drop_of_length-le s h)

pub contains_step : (s : List ℕ) (b i : ℕ) → i < length s → contains (drop i s) b ≡ (eqb (get_or s i 0) b || contains (drop (i + 1) s) b)
unfolding contains
contains_step s b i h = rw (add-one, drop-cons s i 0)

-- ---- a letter of the name
skipped : (n k : ℕ) (s : List ℕ) → cluster_from n k s ≡ cluster_from 0 (k + n) (drop n s)
unfolding cluster_from
skipped zero k s = rw (add-zero k)
skipped (suc n) k [] = refl
skipped (suc n) k (b ∷ s) = skipped n (suc k) s ∙ rw (suc-add k n, ← add-suc k n)

-- the letters from byte k of the name on
abbrev pub letters_from : List ℕ → ℕ → Outcome (List Letter)
letters_from name k = cluster_from 0 k (drop k name)

letters_step :
    (name : List ℕ) (k : ℕ) (c : Char)
    → decode_at name k ≡ Some c
    → letters_from name k ≡ (letters_from name (k + c.size) >>= λ ls. ok (record { character = c.value; place = k; rest = drop (k + c.size) name } ∷ ls))
unfolding cluster_from decode_at slice_from at ◌>>=◌
letters_step name k c e =
    let w = character name k c e in
    let some = w.some in
    let within = w.within in
    let here : drop k name ≡ get_or name k 0 ∷ drop (suc k) name = drop-cons name k 0 (omega arith) in
    let d : decode (get_or name k 0 ∷ drop (suc k) name) ≡ Some c = rw here at e in
    let room : c.size ≤ length (drop k name) = omega (arith, length-drop k name) in
    let fits : c.size ≤ length (get_or name k 0 ∷ drop (suc k) name) = rw here at room in
    let past : suc k + (c.size - 1) ≡ k + c.size = omega arith in
    rw (
      here,
      cluster_from,
      d,
      le-leb c.size (length (get_or name k 0 ∷ drop (suc k) name)) fits,
      ← here,
      drop-drop c.size k name,
      skipped (c.size - 1) (suc k) (drop (suc k) name),
      drop-drop (c.size - 1) (suc k) name,
      past,
    )

-- ---- the loop
-- `before` letters of flags were passed, which end at byte `at`; the others are left
pub record Looked (l : Letters) (name : List ℕ) (at before : ℕ) : Type 0 where
  pub all : List Letter
  pub passed : List ℕ
  pub left : List Letter
  pub these : cluster_from 0 0 name ≡ ok all
  pub further : letters_from name at ≡ ok left
  pub good : well_formed (drop at name) ≡ true
  pub whole : characters all ≡ passed ++ characters left
  pub count : before ≡ length passed
  pub same : look_up l [] all ≡ look_up l passed left
  pub few : before ≤ at
  pub within : at ≤ length name

pub looked_first : (l : Letters) (name : List ℕ) → well_formed name ≡ true → Looked l name 0 0
unfolding well_formed
looked_first l name w =
    let x = cluster_ok 0 0 name w in
    record {
      all = x.0;
      passed = [];
      left = x.0;
      these = x.1;
      further = x.1;
      good = w;
      whole = refl;
      count = refl;
      same = refl;
      few = omega arith;
      within = omega arith;
    }

pub ok_same : {A : Type 0} {a b : A} → ok a ≡ ok b → a ≡ b
ok_same e = cc

-- the letter at byte `at` is the first of those left
pub record Next (name : List ℕ) (left : List Letter) (at : ℕ) (c : Char) : Type 0 where
  pub later : List Letter
  pub first : left ≡ record { character = c.value; place = at; rest = drop (at + c.size) name } ∷ later
  pub further : letters_from name (at + c.size) ≡ ok later
  pub good : well_formed (drop (at + c.size) name) ≡ true

module _ (name : List ℕ) (left : List Letter) (at : ℕ) (t : letters_from name at ≡ ok left) (w : well_formed (drop at name) ≡ true) where
  pub next : (c : Char) → decode_at name at ≡ Some c → Next name left at c
  unfolding well_formed ◌>>=◌
  next c e =
      let v : well_formed (drop (at + c.size) name) ≡ true = sym (well_formed_char name at c e) ∙ w in
      let x = cluster_ok 0 (at + c.size) (drop (at + c.size) name) v in
      record {
        later = x.0;
        first = ok_same (sym t ∙ letters_step name at c e ∙ rw x.1);
        further = x.1;
        good = v;
      }

  pub none_left : at ≤ length name → decode_at name at ≡ None → left ≡ []
  unfolding cluster_from
  none_left within e =
      ⊎_elim
      (λ h. let end : length name ≤ at = omega arith in ok_same (sym t ∙ rw (drop_of_length-le name end)))
      (λ h. absurd (false≢true (sym (well_formed_bad name at h e) ∙ w)))
      (eq-or-lt_of_le within)

module _ (fl ar name : List ℕ) (at before : ℕ) (z : Looked (letters fl ar) name at before) where
  counts : length z.all ≡ before + length z.left
  unfolding characters
  counts =
      let f : Letter → ℕ = λ x. x.character in
      let e = ap length z.whole in
      let n = z.count in
      omega (arith, length-map z.all f, length-append z.passed (map f z.left), length-map z.left f)

  taken : take before (characters z.all) ≡ z.passed
  taken = rw z.whole (take_at z.passed (characters z.left) before (sym z.count))

  pub all_flags_lem : decode_at name at ≡ None → LooksUp (letters fl ar) name (AllFlags before)
  unfolding look_up
  all_flags_lem e =
      let none = none_left name z.left at z.further z.good z.within e in
      record {
        all = z.all;
        these = z.these;
        same = rw taken (sym (z.same ∙ ap (look_up (letters fl ar) z.passed) none));
        counted = omega (arith, counts, ap length none);
      }

  module _ (c : Char) (e : decode_at name at ≡ Some c) where
    following : Next name z.left at c
    following = next name z.left at z.further z.good c e

    more : before < length z.all
    more = omega (arith, counts, ap length following.first)

    module _ (flag argument : Bool) (p : flag ≡ contains fl c.value) (q : argument ≡ contains ar c.value) where
      found : look_up (letters fl ar) [] z.all ≡ pick_letter flag argument
          (look_up (letters fl ar) (z.passed ++ (c.value ∷ [])) following.later)
          (argument_letter z.passed c.value (drop (at + c.size) name))
          (withdrawn at)
          (ambiguous z.passed)
      unfolding look_up
      found = z.same ∙ ap (look_up (letters fl ar) z.passed) following.first ∙ rw (p, q)

      pub both : flag ≡ true → argument ≡ true → LooksUp (letters fl ar) name (Ambiguous before)
      unfolding pick_letter
      both f a = record { all = z.all; these = z.these; same = rw taken (sym (found ∙ rw (f, a))); counted = more }

      pub an_argument : flag ≡ false → argument ≡ true → LooksUp (letters fl ar) name (Argument before c.value (at + c.size))
      unfolding pick_letter
      an_argument f a = record {
        all = z.all;
        these = z.these;
        same = rw taken (sym (found ∙ rw (f, a)));
        counted = (more, (character name at c e).within);
      }

      pub neither : flag ≡ false → argument ≡ false → LooksUp (letters fl ar) name (Withdrawn at)
      unfolding pick_letter
      neither f a =
          let w = character name at c e in
          record { all = z.all; these = z.these; same = sym (found ∙ rw (f, a)); counted = omega (arith, w.some, w.within) }

      pub a_flag : flag ≡ true → argument ≡ false → Looked (letters fl ar) name (at + c.size) (before + 1)
      unfolding pick_letter characters
      a_flag f a =
          let w = character name at c e in
          let some = w.some in
          let few = z.few in
          let x = following in
          record {
            all = z.all;
            passed = z.passed ++ (c.value ∷ []);
            left = x.later;
            these = z.these;
            further = x.further;
            good = x.good;
            whole =
                z.whole
                ∙ ap (λ (ls : List Letter). z.passed ++ characters ls) x.first
                ∙ sym (append_assoc z.passed (c.value ∷ []) (characters x.later));
            count = let n = z.count in omega (arith, length-append z.passed (c.value ∷ []));
            same = found ∙ rw (f, a);
            few = omega arith;
            within = w.within;
          }

-- ---- a letter alone
module _ (fl ar name : List ℕ) (w : well_formed name ≡ true) where
  pub alone : (c : Char) → decode_at name 0 ≡ Some c → c.size ≡ length name → Disambiguates (letters fl ar) name (Single c.value)
  unfolding disambiguate_short cluster_from well_formed
  alone c e h =
      let ls = cluster_ok 0 0 name w in
      let x = next name ls.0 0 ls.1 w c e in
      let long : length name ≤ 0 + c.size = omega arith in
      let end : drop (0 + c.size) name ≡ [] = drop_of_length-le name long in
      let last : x.later ≡ [] = ok_same (sym x.further ∙ rw end) in
      record {
        all = ls.0;
        these = ls.1;
        same = sym (ap (disambiguate_short (letters fl ar)) x.first ∙ rw (null_true (drop (0 + c.size) name) (ap length end)));
        counted = ap length x.first ∙ ap (λ (l : List Letter). suc (length l)) last;
      }

  several :
      (ls : List Letter)
      → cluster_from 0 0 name ≡ ok ls
      → ((c : Char) → decode_at name 0 ≡ Some c → c.size ≡ length name → ⊥)
      → look_up (letters fl ar) [] ls ≡ disambiguate_short (letters fl ar) ls
  unfolding disambiguate_short look_up
  several ls t h = go (decode_at name 0) refl
    where
      go : (d : Option Char) → decode_at name 0 ≡ d → look_up (letters fl ar) [] ls ≡ disambiguate_short (letters fl ar) ls
      go None e =
          let none = none_left name ls 0 t w (omega arith) e in
          ap (look_up (letters fl ar) []) none ∙ sym (ap (disambiguate_short (letters fl ar)) none)
      go (Some c) e =
          let x = next name ls 0 t w c e in
          let within = (character name 0 c e).within in
          let rest = null_false (drop (0 + c.size) name) (λ k. h c e (omega (arith, length-drop (0 + c.size) name))) in
          ap (look_up (letters fl ar) []) x.first
          ∙ sym (ap (disambiguate_short (letters fl ar)) x.first ∙ rw rest)

  pub looked_up :
      (r : Found)
      → ((c : Char) → decode_at name 0 ≡ Some c → c.size ≡ length name → ⊥)
      → LooksUp (letters fl ar) name r
      → Disambiguates (letters fl ar) name r
  looked_up r h z = record {
    all = z.all;
    these = z.these;
    same = z.same ∙ several z.all z.these h;
    counted = z.counted;
  }

  -- an empty name
  pub no_letter : decode_at name 0 ≡ None → Disambiguates (letters fl ar) name (AllFlags 0)
  no_letter e =
      looked_up (AllFlags 0)
      (λ c f k. absurd (let z : ◌≡◌ {A = ℕ} 0 1 = cc in omega arith))
      (all_flags_lem fl ar name 0 0 (looked_first (letters fl ar) name w) e)

  pub no_single :
      (r : Found) (c : Char)
      → decode_at name 0 ≡ Some c
      → (c.size ≡ length name → ⊥)
      → LooksUp (letters fl ar) name r
      → Disambiguates (letters fl ar) name r
  no_single r c e h z = looked_up r (λ d f k. h (let same : c ≡ d = cc in ap (λ (x : Char). x.size) same ∙ k)) z
