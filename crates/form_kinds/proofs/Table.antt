-- The table of codes: what a lookup, a child's code and a store say.
use mathlib.Core.Bool.{Bool, true, false}
use mathlib.Core.List.{List, []}
use mathlib.Core.Logic.{◌⊎◌, inl, inr, ⊎_elim, ◌≢◌}
use mathlib.Core.Option.{some}
use mathlib.Core.Path.{◌≡◌, refl, sym, ◌∙◌, ap}
use Prim.Native.Nat.{ℕ, zero, suc, ◌<◌, ◌≤◌}
use native.Mathlib.Nat.{eq-or-lt_of_le}
use native.Mathlib.Omega.{arith}
use lib.Dec.{eqb}
use lib.ListN.{length, get_or, get_elem?, set, replicate, length-append, length-set, length-replicate, get_or-append, get_or-eq_default}
use lib.Seq.{get_or_at, get_or-set_same, get_or-set_other}
use borrow.Author.Tests.{eq-eqb, ne_eqb, eqb-true, eqb-false, le-leb, lt-leb}
use Rattle.rules.specs.Form.{Node, Form}
use Rattle.form_kinds.specs.Kinds.{leaf_code, inner_code, child_q}
use Rattle.form_kinds.specs.Known.{ruled, code_by, codes, code_at, SoundCodes, CodesKept, Done, ChildKnown}

pub codes_length : (f : Form) (n : ℕ) → length (codes f n) ≡ n
unfolding codes
codes_length f zero = refl
codes_length f (suc n) = simp (length-append, codes_length f n) (omega arith)

-- a node below n has its own code in the list
pub codes_at : (f : Form) (n j : ℕ) → j < n → get_or (codes f n) j 0 ≡ code_at f j
unfolding codes code_at
codes_at f zero j h = omega arith
codes_at f (suc n) j h =
    ⊎_elim
    (λ e. get_or_at (codes f n) (code_by f (codes f n) n) [] 0 j (codes_length f n ∙ sym e) ∙ ap (λ (k : ℕ). code_by f (codes f k) k) (sym e))
    (λ l. get_or-append (codes f n) _ 0 j (omega (arith, codes_length f n, l)) ∙ codes_at f n j l)
    (last j n h)
  where
    last : (j n : ℕ) → j < suc n → (j ≡ n) ⊎ (j < n)
    last j n h = eq-or-lt_of_le (omega arith)

pub kept_same : (m : List ℕ) → CodesKept m m
kept_same m = record { known = λ j ne. refl }

-- a child whose code was worked out, or was known
pub worked : (f : Form) (p : ℕ) (m₀ m m' : List ℕ) → m ≡ m' → Done f p m₀ m' → Done f p m₀ m
worked f p m₀ m m' e d = rw e d

pub found : (f : Form) (p : ℕ) (m m' : List ℕ) → m ≡ m' → SoundCodes f m' → (get_or m' p 0 ≡ 0 → ⊥) → Done f p m' m
found f p m m' e s n = rw e (record { here = s.right p n; sound = s; kept = kept_same m' })

pub child : (f : Form) (i p : ℕ) (m₀ m m' : List ℕ) (k : ℕ) → m ≡ m' → p < i → Done f p m₀ m' → k ≡ get_or m' p 0 → ChildKnown f i p m₀ m k
child f i p m₀ m m' k em h d e = rw em (record { sound = d.sound; kept = d.kept; code = e ∙ d.here ∙ sym (codes_at f i p h) })

pub no_child : (f : Form) (i p : ℕ) (m m' : List ℕ) (k : ℕ) → m ≡ m' → i ≤ p → SoundCodes f m' → k ≡ 0 → ChildKnown f i p m' m k
no_child f i p m m' k em h s e = rw em (record {
  sound = s;
  kept = kept_same m';
  code = e ∙ sym (get_or-eq_default (codes f i) 0 (omega (arith, codes_length f i)));
})

-- only a choice has a second child
module _ (f : Form) (i : ℕ) (m m' : List ℕ) (k : ℕ) (x : Node) where
  pub second_child : x.kind ≡ 9 → ChildKnown f i x.q m m' k → ChildKnown f i (child_q x) m m' k
  unfolding child_q
  second_child h z = rw (eq-eqb x.kind 9 h) z

  pub no_second : (x.kind ≡ 9 → ⊥) → i ≤ 64 → m' ≡ m → SoundCodes f m → k ≡ 0 → ChildKnown f i (child_q x) m m' k
  unfolding child_q
  no_second h l e s z = rw (ne_eqb x.kind 9 h) (no_child f i 64 m' m k e l s z)

pub kept_twice : (l m n : List ℕ) → CodesKept l m → CodesKept m n → CodesKept l n
kept_twice l m n a b = record { known = λ j ne. b.known j (λ z. ne (sym (a.known j ne) ∙ z)) ∙ a.known j ne }

-- the code of a leaf, and that of any other node from its children's
module _ (f : Form) (i : ℕ) (x : Node) (e : get_elem? f.nodes i ≡ some x) where
  pub leaf_is : x.kind ≤ 3 → leaf_code f x ≡ code_at f i
  unfolding code_at code_by ruled
  leaf_is h = rw (e, code_by, le-leb x.kind 3 h)

  pub inner_is :
      (q c d : ℕ)
      → 3 < x.kind
      → q ≡ child_q x
      → c ≡ get_or (codes f i) x.p 0
      → d ≡ get_or (codes f i) q 0
      → inner_code f x c d ≡ code_at f i
  unfolding code_at code_by ruled
  inner_is q c d h eq ec ed = rw (e, code_by, lt-leb x.kind 3 h, ec, ed, eq)

pub same_or : (j i : ℕ) → (j ≡ i) ⊎ (j ≢ i)
same_or j i = by_test (eqb j i) refl
  where
    by_test : (b : Bool) → eqb j i ≡ b → (j ≡ i) ⊎ (j ≢ i)
    by_test true e = inl (eqb-true j i e)
    by_test false e = inr (eqb-false j i e)

pub stored : (f : Form) (m₀ m : List ℕ) (i k : ℕ) → i < 64 → SoundCodes f m₀ → CodesKept m₀ m → SoundCodes f m → k ≡ code_at f i → Done f i m₀ (set m i k)
stored f m₀ m i k h s₀ a s e = record {
  here = here;
  sound = record {
    long = length-set m i k ∙ s.long;
    right = λ j ne. ⊎_elim (λ s. own j s) (λ n. other j n ne) (same_or j i);
  };
  kept = record { known = λ j ne. ⊎_elim (λ s. own j s ∙ sym (s₀.right j ne)) (λ n. get_or-set_other m i j k 0 n ∙ a.known j ne) (same_or j i) };
}
  where
    here : get_or (set m i k) i 0 ≡ code_at f i
    here = get_or-set_same m i k 0 (omega (arith, s.long)) ∙ e

    own : (j : ℕ) → j ≡ i → get_or (set m i k) j 0 ≡ code_at f j
    own j s = ap (λ (j : ℕ). get_or (set m i k) j 0) s ∙ here ∙ ap (code_at f) (sym s)

    other : (j : ℕ) → j ≢ i → (get_or (set m i k) j 0 ≡ 0 → ⊥) → get_or (set m i k) j 0 ≡ code_at f j
    other j n ne = get_or-set_other m i j k 0 n ∙ s.right j (λ z. ne (get_or-set_other m i j k 0 n ∙ z))

-- an empty table is sound
pub all_zero : (n j : ℕ) → ◌≡◌ {A = ℕ} (get_or (replicate n 0) j 0) 0
all_zero zero j = refl
all_zero (suc n) zero = refl
all_zero (suc n) (suc j) = all_zero n j

pub empty_sound : (f : Form) → SoundCodes f (replicate 64 0)
empty_sound f = record { long = length-replicate {A = ℕ} 64 0; right = λ j ne. absurd (ne (all_zero 64 j)) }
