-- The answer words fix the values: two lists of values of their kinds with the same words are equal.
use mathlib.Core.Bool.{Bool, true, false, false≢true}
use mathlib.Core.List.{List, [], ◌∷◌, ◌++◌, append_assoc}
use mathlib.Core.Option.{Option, some, none}
use mathlib.Core.Path.{◌≡◌, refl, sym, ap, ap₂, ◌∙◌}
use Prim.Native.Nat.{ℕ, ◌+◌, ◌≤◌}
use native.Mathlib.Omega.{arith}
use lib.ListN.{length, get_or, drop}
use Rattle.std.specs.Prelude.{if◌then◌else◌}
use Rattle.rules.specs.Value.{Base, Kind, one, optional, list, list_of_optional, optional_list, item, name, BaseValue, is_yes, is_text, is_number, Value, base, absent}
use Rattle.rules.specs.Value.{present, nil, cons, base_number, base_of, is_base, is_optional, is_list, has_kind, word, size, words, elements, answer_words, of_kind, bases_of}
use Rattle.rules.specs.Form.{Name}
use Rattle.rules.specs.Tree.{Tree, kind_of}
use Rattle.rules.specs.Split.{Item}
use Rattle.rules.specs.Demands.{All, Means, OnePerField}
use Rattle.rules.proofs.Acceptance.{and-true, All-split, lookup_inside}
use Rattle.rules.proofs.KindLaws.{same_base_lem}

-- ---- the first of a list and the others
head_same : (x y : ℕ) (l m : List ℕ) → x ∷ l ≡ y ∷ m → x ≡ y
head_same x y l m e = ap (λ (k : List ℕ). get_or k 0 0) e

tail_same : (x y : ℕ) (l m : List ℕ) → x ∷ l ≡ y ∷ m → l ≡ m
tail_same x y l m e = ap (drop 1) e

-- ---- base values
yes_fix : (a b : Bool) → ◌≡◌ {A = ℕ} (if a then 1 else 0) (if b then 1 else 0) → a ≡ b
yes_fix true true e = refl
yes_fix true false e = absurd (omega arith)
yes_fix false true e = absurd (omega arith)
yes_fix false false e = refl

module _ (is : List Item) (ns : List Name) (few : length is ≤ 256) where
  abbrev M : BaseValue → Type 0
  M = Means is ns

  base_fix : (u v : BaseValue) → base_of u ≡ base_of v → M u → M v → word u ≡ word v → u ≡ v
  unfolding word base_of base_number
  base_fix (is_yes a) (is_yes b) k p q e = ap is_yes (yes_fix a b e)
  base_fix (is_yes a) (is_text t) k p q e = absurd (let h = ap base_number k in omega arith)
  base_fix (is_yes a) (is_number n) k p q e = absurd (let h = ap base_number k in omega arith)
  base_fix (is_text t) (is_yes b) k p q e = absurd (let h = ap base_number k in omega arith)
  base_fix (is_text (item i)) (is_text (item j)) k p q e = ap (λ (n : ℕ). is_text (item n)) e
  base_fix (is_text (item i)) (is_text (name j)) k p q e = absurd (omega (arith, e, lookup_inside is i p.0 p.1))
  base_fix (is_text (name i)) (is_text (item j)) k p q e = absurd (omega (arith, e, lookup_inside is j q.0 q.1))
  base_fix (is_text (name i)) (is_text (name j)) k p q e = let h : i ≡ j = omega (arith, e) in ap (λ (n : ℕ). is_text (name n)) h
  base_fix (is_text t) (is_number n) k p q e = absurd (let h = ap base_number k in omega arith)
  base_fix (is_number m) (is_yes b) k p q e = absurd (let h = ap base_number k in omega arith)
  base_fix (is_number m) (is_text t) k p q e = absurd (let h = ap base_number k in omega arith)
  base_fix (is_number m) (is_number n) k p q e = ap is_number e

  -- ---- the words of a value, with others behind them, fix it and them
  abbrev Fixed : Value → Value → List ℕ → List ℕ → Type 0
  Fixed v w r s = (v ≡ w) × (r ≡ s)

  abbrev Fixes : (Value → Bool) → Type 0
  Fixes p =
      (v w : Value) (r s : List ℕ)
      → p v ≡ true
      → p w ≡ true
      → All M (bases_of v)
      → All M (bases_of w)
      → words v ++ r ≡ words w ++ s
      → Fixed v w r s

  base_fixes : (b : Base) → Fixes (is_base b)
  unfolding is_base words bases_of
  base_fixes b (base u) (base v) r s h k p q e =
      let same = sym (same_base_lem b (base_of u) h) ∙ same_base_lem b (base_of v) k in
      (ap base (base_fix u v same p.0 q.0 (head_same (word u) (word v) r s e)), tail_same (word u) (word v) r s e)
  base_fixes b (base u) absent r s h k p q e = absurd (false≢true k)
  base_fixes b (base u) (present w) r s h k p q e = absurd (false≢true k)
  base_fixes b (base u) nil r s h k p q e = absurd (false≢true k)
  base_fixes b (base u) (cons w x) r s h k p q e = absurd (false≢true k)
  base_fixes b absent w r s h k p q e = absurd (false≢true h)
  base_fixes b (present v) w r s h k p q e = absurd (false≢true h)
  base_fixes b nil w r s h k p q e = absurd (false≢true h)
  base_fixes b (cons v x) w r s h k p q e = absurd (false≢true h)

  optional_fixes : (f : Value → Bool) → Fixes f → Fixes (is_optional f)
  unfolding is_optional words bases_of
  optional_fixes f c absent absent r s h k p q e = (refl, tail_same 0 0 r s e)
  optional_fixes f c absent (present w) r s h k p q e = absurd (let z = head_same 0 1 r (words w ++ s) e in omega arith)
  optional_fixes f c (present v) absent r s h k p q e = absurd (let z = head_same 1 0 (words v ++ r) s e in omega arith)
  optional_fixes f c (present v) (present w) r s h k p q e =
      let x = c v w r s h k p q (tail_same 1 1 (words v ++ r) (words w ++ s) e) in
      (ap present x.0, x.1)
  optional_fixes f c (base v) w r s h k p q e = absurd (false≢true h)
  optional_fixes f c nil w r s h k p q e = absurd (false≢true h)
  optional_fixes f c (cons v x) w r s h k p q e = absurd (false≢true h)
  optional_fixes f c absent (base v) r s h k p q e = absurd (false≢true k)
  optional_fixes f c absent nil r s h k p q e = absurd (false≢true k)
  optional_fixes f c absent (cons v x) r s h k p q e = absurd (false≢true k)
  optional_fixes f c (present v) (base w) r s h k p q e = absurd (false≢true k)
  optional_fixes f c (present v) nil r s h k p q e = absurd (false≢true k)
  optional_fixes f c (present v) (cons w x) r s h k p q e = absurd (false≢true k)

  -- a list's words are its length and its elements
  list_words_lem : (f : Value → Bool) (v : Value) → is_list f v ≡ true → words v ≡ size v ∷ elements v
  unfolding is_list words size elements
  list_words_lem f (base v) h = absurd (false≢true h)
  list_words_lem f absent h = absurd (false≢true h)
  list_words_lem f (present v) h = absurd (false≢true h)
  list_words_lem f nil h = refl
  list_words_lem f (cons v w) h = refl

  elements_fix :
      (f : Value → Bool)
      → Fixes f
      → (v w : Value) (r s : List ℕ)
      → is_list f v ≡ true
      → is_list f w ≡ true
      → All M (bases_of v)
      → All M (bases_of w)
      → size v ≡ size w
      → elements v ++ r ≡ elements w ++ s
      → Fixed v w r s
  unfolding is_list size elements bases_of
  elements_fix f c nil nil r s h k p q z e = (refl, e)
  elements_fix f c nil (cons w y) r s h k p q z e = absurd (omega (arith, z))
  elements_fix f c (cons v x) nil r s h k p q z e = absurd (omega (arith, z))
  elements_fix f c (cons v x) (cons w y) r s h k p q z e =
      let a = and-true (f v) (is_list f x) h in
      let b = and-true (f w) (is_list f y) k in
      let i = All-split M (bases_of v) (bases_of x) p in
      let j = All-split M (bases_of w) (bases_of y) q in
      let t = sym (append_assoc (words v) (elements x) r) ∙ e ∙ append_assoc (words w) (elements y) s in
      let one = c v w (elements x ++ r) (elements y ++ s) a.0 b.0 i.0 j.0 t in
      let more = elements_fix f c x y r s a.1 b.1 i.1 j.1 (omega (arith, z)) one.1 in
      (ap₂ cons one.0 more.0, more.1)
  elements_fix f c (base v) w r s h k p q z e = absurd (false≢true h)
  elements_fix f c absent w r s h k p q z e = absurd (false≢true h)
  elements_fix f c (present v) w r s h k p q z e = absurd (false≢true h)
  elements_fix f c nil (base w) r s h k p q z e = absurd (false≢true k)
  elements_fix f c nil absent r s h k p q z e = absurd (false≢true k)
  elements_fix f c nil (present w) r s h k p q z e = absurd (false≢true k)
  elements_fix f c (cons v x) (base w) r s h k p q z e = absurd (false≢true k)
  elements_fix f c (cons v x) absent r s h k p q z e = absurd (false≢true k)
  elements_fix f c (cons v x) (present w) r s h k p q z e = absurd (false≢true k)

  list_fixes : (f : Value → Bool) → Fixes f → Fixes (is_list f)
  list_fixes f c v w r s h k p q e =
      let t = ap (λ (l : List ℕ). l ++ r) (sym (list_words_lem f v h)) ∙ e ∙ ap (λ (l : List ℕ). l ++ s) (list_words_lem f w k) in
      elements_fix f c v w r s h k p q
      (head_same (size v) (size w) (elements v ++ r) (elements w ++ s) t)
      (tail_same (size v) (size w) (elements v ++ r) (elements w ++ s) t)

  kind_fixes : (k : Option Kind) → Fixes (of_kind k)
  unfolding of_kind has_kind
  kind_fixes none v w r s h = absurd (false≢true h)
  kind_fixes (some (one b)) v w r s h = base_fixes b v w r s h
  kind_fixes (some (optional b)) v w r s h = optional_fixes (is_base b) (base_fixes b) v w r s h
  kind_fixes (some (list b)) v w r s h = list_fixes (is_base b) (base_fixes b) v w r s h
  kind_fixes (some (list_of_optional b)) v w r s h =
      list_fixes (is_optional (is_base b)) (optional_fixes (is_base b) (base_fixes b)) v w r s h
  kind_fixes (some (optional_list b)) v w r s h =
      optional_fixes (is_list (is_base b)) (list_fixes (is_base b) (base_fixes b)) v w r s h

  -- ---- field values one after the other
  pub words_fix :
      (ts : List Tree) (vs ws : List Value)
      → OnePerField M ts vs
      → OnePerField M ts ws
      → answer_words vs ≡ answer_words ws
      → vs ≡ ws
  unfolding answer_words
  words_fix [] [] [] p q e = refl
  words_fix [] (v ∷ vs) ws p q e = absurd p
  words_fix [] [] (w ∷ ws) p q e = absurd q
  words_fix (t ∷ ts) [] ws p q e = absurd p
  words_fix (t ∷ ts) (v ∷ vs) [] p q e = absurd q
  words_fix (t ∷ ts) (v ∷ vs) (w ∷ ws) p q e =
      let x = kind_fixes (kind_of t) v w (answer_words vs) (answer_words ws) p.0.0 q.0.0 p.0.1 q.0.1 e in
      ap₂ (λ (a : Value) (l : List Value). a ∷ l) x.0 (words_fix ts vs ws p.1 q.1 x.1)
