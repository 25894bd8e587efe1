-- The nodes: the loop that works their codes out, and the lowest at fault against the rules' trees.
use mathlib.Core.Bool.{Bool, true, false, not}
use mathlib.Core.List.{List, [], ◌∷◌, ◌++◌, map}
use mathlib.Core.Logic.{⊎_elim, ◌≢◌}
use mathlib.Core.Option.{Option, some, none}
use mathlib.Core.Path.{◌≡◌, refl, sym, ◌∙◌, ap}
use Prim.Native.Nat.{ℕ, zero, suc, ◌+◌, ◌≤◌, ◌<◌, max}
use native.Mathlib.Numerals.{add-one}
use native.Mathlib.Omega.{arith}
use lib.Dec.{eqb}
use lib.ListN.{length, get_or, get_elem?, drop, replicate, length-map, drop_of_length-le}
use lib.Seq.{drop-cons, ext_get_or}
use borrow.Author.Tests.{ne_eqb, eqb-true, eqb-false}
use Rattle.rules.specs.Base.{is_some, numbers, first_fault}
use Rattle.rules.specs.Form.{Node, Form}
use Rattle.rules.specs.Codes.{check_code}
use Rattle.rules.specs.Tree.{Tree, kind_of, tree_of}
use Rattle.rules.specs.Accept.{refused_at, trees_from}
use Rattle.rules.specs.declared.Refused.{Refused}
use Rattle.rules.proofs.Acceptance.{Made, flag_made, argument_made, positional_made, optional_made, many_made, some_made, count_made, last_made, choice_made, fallback_made, guard_made}
use Rattle.rules.proofs.Acceptance.{inside_same}
use Rattle.rules.proofs.Acceptance.{tree_made, lookup_some}
use Rattle.form_kinds.specs.Known.{code_by, codes, code_at, SoundCodes, Done}
use Rattle.form_names.proofs.Faults.{fault_nowhere, fault_same}
use Rattle.form_kinds.proofs.Steps.{lookup_none, drop_there}
use Rattle.form_kinds.proofs.Table.{codes_length, codes_at, same_or, all_zero, empty_sound}
use Rattle.form_kinds.proofs.Trees.{tree_code, code_of, tree_code_lem, real_code}
use Rattle.form_check.specs.Uses.{greatest}

made_kind : (f : Form) (ts : List Tree) (k : ℕ) (x : Node) (t : Tree) → Made f ts k x t → is_some (kind_of t) ≡ true
unfolding is_some kind_of
made_kind f ts k x t (flag_made l z r u n) = refl
made_kind f ts k x t (argument_made l z r u n) = refl
made_kind f ts k x t (positional_made z p r u) = refl
made_kind f ts k x t (optional_made b c z r u h e) = e
made_kind f ts k x t (many_made b c z r u h a e) = e
made_kind f ts k x t (some_made b c z r u h a e) = e
made_kind f ts k x t (count_made c z u h a e) = e
made_kind f ts k x t (last_made c z u h a e) = e
made_kind f ts k x t (choice_made c d z u h g e) = e
made_kind f ts k x t (fallback_made c κ v z u h g w e) = e
made_kind f ts k x t (guard_made c z u h l e) = e

map-append : (l m : List Tree) → map tree_code (l ++ m) ≡ map tree_code l ++ map tree_code m
map-append [] m = refl
map-append (t ∷ l) m = ap (λ (r : List ℕ). tree_code t ∷ r) (map-append l m)

module _ (f : Form) (below : List Tree) (x : Node) where
  pub tree_some : (t : Tree) → tree_of f below x ≡ some t → code_of (tree_of f below x) ≡ tree_code t
  unfolding code_of
  tree_some t e = rw (e, code_of)

  -- code 32 is that of no tree
  no_tree : code_of (tree_of f below x) ≡ 32 → tree_of f below x ≡ none
  no_tree z = go (tree_of f below x) refl
    where
      go : (o : Option Tree) → tree_of f below x ≡ o → o ≡ none
      go none e = refl
      go (some t) e = absurd (real_code t (made_kind f below (length below) x t (tree_made f below below (inside_same below) x t e)) (sym (tree_some t e) ∙ z))

  good_tree : (code_of (tree_of f below x) ≡ 32 → ⊥) → (t : Tree) × (tree_of f below x ≡ some t)
  unfolding code_of
  good_tree z = go (tree_of f below x) refl
    where
      go : (o : Option Tree) → tree_of f below x ≡ o → (t : Tree) × (tree_of f below x ≡ some t)
      go none e = absurd (z (rw (e, code_of)))
      go (some t) e = (t, e)

  bad_tree : (xs : List Node) → code_of (tree_of f below x) ≡ 32 → trees_from f below (x ∷ xs) ≡ refused_at 3 (some (length below))
  unfolding trees_from
  bad_tree xs z = rw (no_tree z, trees_from)

  next_tree : (xs : List Node) (t : Tree) → tree_of f below x ≡ some t → trees_from f below (x ∷ xs) ≡ trees_from f (below ++ (t ∷ [])) xs
  unfolding trees_from
  next_tree xs t e = rw (e, trees_from)

pub grown : (f : Form) (k : ℕ) (ts : List Tree) (t : Tree) → codes f k ≡ map tree_code ts → tree_code t ≡ code_at f k → codes f (suc k) ≡ map tree_code (ts ++ (t ∷ []))
unfolding codes code_at
grown f k ts t b e = rw (map-append ts (t ∷ []), e, ← b)

-- the code of node k is that of its tree over the trees below
pub code_by_lem : (f : Form) (k : ℕ) (ts : List Tree) → codes f k ≡ map tree_code ts → (x : Node) → get_elem? f.nodes k ≡ some x → code_at f k ≡ code_of (tree_of f ts x)
unfolding code_at code_by
code_by_lem f k ts b x e = rw (e, code_by, b) (sym (tree_code_lem f ts x))

-- ---- the loop that fills the table: it is right, and has the codes of the nodes from k on
pub record Filled (f : Form) (k : ℕ) (m : List ℕ) : Type 0 where
  pub sound : SoundCodes f m
  pub all : (j : ℕ) → k ≤ j → get_or m j 0 ≡ code_at f j

pub filled_first : (f : Form) (n : ℕ) (m : List ℕ) → m ≡ replicate 64 0 → length f.nodes ≡ n → Filled f n m
unfolding code_at code_by
filled_first f n m e l = rw e (record {
  sound = empty_sound f;
  all = λ j h. all_zero 64 j ∙ rw (lookup_none f.nodes j (omega arith), code_by);
})

module _ (f : Form) (k n : ℕ) (e : k ≡ n + 1) (m : List ℕ) (c : Filled f k m) where
  -- node n has its code, and those above keep theirs
  down : (m' : List ℕ) → SoundCodes f m' → get_or m' n 0 ≡ code_at f n → ((j : ℕ) → k ≤ j → get_or m' j 0 ≡ code_at f j) → Filled f n m'
  down m' s here above = record {
    sound = s;
    all = λ j h. ⊎_elim (λ (z : j ≡ n). ap (λ (j : ℕ). get_or m' j 0) z ∙ here ∙ ap (code_at f) (sym z)) (λ (z : j ≢ n). above j (omega (arith, e, h, z))) (same_or j n);
  }

  pub filled_known : (m' : List ℕ) → m' ≡ m → (get_or m n 0 ≡ 0 → ⊥) → Filled f n m'
  filled_known m' z ne = rw z (down m c.sound (c.sound.right n ne) c.all)

  pub filled_asked : (m' m'' : List ℕ) → m'' ≡ m' → Done f n m m' → Filled f n m''
  filled_asked m' m'' z d = rw z (down m' d.sound d.here (λ j h. stays j (c.all j h)))
    where
      stays : (j : ℕ) → get_or m j 0 ≡ code_at f j → get_or m' j 0 ≡ code_at f j
      stays j h = ⊎_elim
          (λ (z : get_or m' j 0 ≡ 0). ⊎_elim (λ (y : get_or m j 0 ≡ 0). z ∙ sym y ∙ h) (λ (ne : get_or m j 0 ≢ 0). d.kept.known j ne ∙ h) (same_or (get_or m j 0) 0))
          (λ (ne : get_or m' j 0 ≢ 0). d.sound.right j ne)
          (same_or (get_or m' j 0) 0)

pub filled_last : (f : Form) (k : ℕ) (m : List ℕ) → Filled f k m → k ≤ 0 → m ≡ codes f 64
filled_last f k m c h =
    ext_get_or 0 m (codes f 64) (c.sound.long ∙ sym (codes_length f 64))
    (λ j l. c.all j (omega arith) ∙ sym (codes_at f 64 j (omega (arith, c.sound.long))))

-- ---- the loop that looks for the greatest code
pub greatest_step : (l : List ℕ) (k : ℕ) → k < length l → greatest (drop k l) ≡ max (get_or l k 0) (greatest (drop (k + 1) l))
unfolding greatest
greatest_step l k h = rw (drop-cons l k 0 h, add-one k)

pub greatest_end : (l : List ℕ) (k : ℕ) → length l ≤ k → greatest (drop k l) ≡ 0
unfolding greatest
greatest_end l k h = rw (drop_of_length-le l {i = k} h)

greatest_bounds : (l : List ℕ) (k : ℕ) → get_or l k 0 ≤ greatest l
unfolding greatest
greatest_bounds [] k = omega arith
greatest_bounds (x ∷ l) zero = omega arith
greatest_bounds (x ∷ l) (suc k) = let h = greatest_bounds l k in omega arith

-- ---- the loop that looks for the lowest node at fault
module _ (c : List ℕ) (n : ℕ) where
  abbrev pub good_in : ℕ → Bool
  good_in k = not (eqb (get_or c k 0) 32)

-- ---- the lowest node at fault is the first that has no tree
abbrev verdict : Option ℕ → Refused
verdict none = record { number = 0; place = 0 }
verdict (some i) = record { number = 3; place = suc i }

module _ (f : Form) where
  abbrev good : ℕ → Bool
  good k = not (eqb (code_at f k) 32)

  abbrev Climbs : ℕ → ℕ → List Tree → Type 0
  Climbs n k ts = codes f k ≡ map tree_code ts → check_code (trees_from f ts (drop k f.nodes)) ≡ verdict (first_fault good k (numbers n k))

  count : (k : ℕ) (ts : List Tree) → codes f k ≡ map tree_code ts → length ts ≡ k
  count k ts b = sym (length-map ts tree_code) ∙ sym (ap length b) ∙ codes_length f k

  climb_node : (n k : ℕ) (ts : List Tree) (x : Node) → get_elem? f.nodes k ≡ some x → ((us : List Tree) → Climbs n (suc k) us) → Climbs (suc n) k ts
  unfolding first_fault numbers
  climb_node n k ts x e later b = rw (drop_there f.nodes k x e) (go (eqb (code_at f k) 32) refl)
    where
      code : code_at f k ≡ code_of (tree_of f ts x)
      code = code_by_lem f k ts b x e

      go : (t : Bool) → eqb (code_at f k) 32 ≡ t → check_code (trees_from f ts (x ∷ drop (suc k) f.nodes)) ≡ verdict (first_fault good k (numbers (suc n) k))
      go true z = rw z (ap check_code (bad_tree f ts x (drop (suc k) f.nodes) (sym code ∙ eqb-true (code_at f k) 32 z)) ∙ rw (count k ts b))
      go false z =
          let (t, r) = good_tree f ts x (λ w. eqb-false (code_at f k) 32 z (code ∙ w)) in
          let tree : tree_code t ≡ code_at f k = sym (tree_some f ts x t r) ∙ sym code in
          rw (z, next_tree f ts x (drop (suc k) f.nodes) t r) (later (ts ++ (t ∷ [])) (grown f k ts t b tree))

  climb : (n k : ℕ) → k + n ≡ length f.nodes → (ts : List Tree) → Climbs n k ts
  unfolding trees_from first_fault numbers
  climb zero k l ts b = rw (drop_of_length-le f.nodes {i = k} (omega arith))
  climb (suc n) k l ts b =
      let (x, e) = lookup_some f.nodes k (omega arith) in
      climb_node n k ts x e (climb n (suc k) (omega arith)) b

  module _ (n : ℕ) (l : length f.nodes ≡ n) (few : n ≤ 64) (c : List ℕ) (e : c ≡ codes f 64) (r : Refused) where
    judged : (o : Option ℕ) → first_fault (good_in c n) 0 (numbers n 0) ≡ o → check_code (trees_from f [] f.nodes) ≡ verdict o
    unfolding codes
    judged o h =
        climb n 0 (omega arith) [] refl
        ∙ ap verdict (sym (fault_same (good_in c n) good n 0 (λ k a b. rw (e, codes_at f 64 k (omega arith)))) ∙ h)

    pub nodes_small : (m : ℕ) → m ≡ greatest c → m < 32 → r ≡ record { number = 0; place = 0 } → r ≡ check_code (trees_from f [] f.nodes)
    nodes_small m g h z = z ∙ sym (judged none (fault_nowhere (good_in c n) n n (omega arith) (λ k a. rw (ne_eqb (get_or c k 0) 32 (λ w. omega (arith, w, greatest_bounds c k))))))

    pub nodes_bad : (i : ℕ) → first_fault (good_in c n) 0 (numbers n 0) ≡ some i → r ≡ record { number = 3; place = i + 1 } → r ≡ check_code (trees_from f [] f.nodes)
    nodes_bad i s z = z ∙ rw (add-one i) (sym (judged (some i) s))

    pub nodes_good : first_fault (good_in c n) 0 (numbers n 0) ≡ none → r ≡ record { number = 0; place = 0 } → r ≡ check_code (trees_from f [] f.nodes)
    nodes_good s z = z ∙ sym (judged none s)
