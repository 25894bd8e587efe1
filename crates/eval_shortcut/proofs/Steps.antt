-- What a node makes of what its children answered: an optional, a guard, a choice, a fallback.
use mathlib.Core.Bool.{Bool, true, false, false≢true}
use mathlib.Core.List.{List, [], ◌∷◌}
use mathlib.Core.Option.{Option, some, none, some-injective, none-ne-some}
use mathlib.Core.Path.{◌≡◌, refl, sym, ◌∙◌, ap, subst}
use Prim.Native.Nat.{ℕ, ◌+◌, ◌*◌, ◌≤◌}
use native.Mathlib.Nat.{mul-le-mul, le_trans}
use native.Mathlib.Omega.{arith}
use lib.Dec.{eqb}
use lib.ListN.{length}
use borrow.Author.Tests.{eqb-true, eqb-false}
use Rattle.std.specs.Prelude.{if◌then◌else◌}
use Rattle.rules.specs.Outcome.{Outcome, ok, refused, fault, Refusal}
use Rattle.rules.specs.Value.{Base, number, Kind, one, optional, list, list_of_optional, optional_list, BaseValue, Value, base, absent, present, nil, cons, is_base, has_kind, word, words}
use Rattle.rules.specs.Value.{of_kind}
use Rattle.rules.specs.Sheet.{sheet_area}
use Rattle.rules.specs.Base.{is_some, ◌>>?◌}
use Rattle.rules.specs.Tree.{Tree, Optional, Choice, Fallback, Guard, optional_kind, shape_of, kind_of, has_repeat}
use Rattle.rules.specs.Split.{Item}
use Rattle.rules.specs.State.{State}
use Rattle.rules.specs.Calls.{from_raw}
use Rattle.rules.specs.Eval.{Ran as Run, ended, after, ◌then◌, swallowed, parse_option, eval_optional, eval_fallback, eval_guard, eval_choice, eval, visit}
use Rattle.rules.specs.Sound.{Good, Sound, leaves}
use Rattle.rules.proofs.EvalSound.{eval_sound}
use Rattle.rules.proofs.StepLaws.{remaining_within}
use Rattle.rules.proofs.KindLaws.{base_kind_lem}
use Rattle.rules.proofs.Steps.{most, EndsOne, Runs}
use Rattle.state_marks.specs.declared.Numbers.{Numbers}
use Rattle.state_marks.specs.Lent.{state_of, Fine}
use Rattle.take_search.specs.States.{CanTake, LeftState, Items}
use Rattle.eval_told.specs.declared.Ran.{Ran}
use Rattle.eval_told.specs.Told.{Told, told, Numbered, scalar_words, told_with, answered, Evaluates}
use Rattle.eval_told.specs.Nodes.{tree_at, is_scalar}
use Rattle.eval_shortcut.specs.Stands.{Scalar}
use Rattle.eval_told.proofs.Visits.{visit_told, runs_numbered}
use Rattle.eval_told.proofs.Repeats.{told_tries}
use Rattle.eval_combine.specs.Made.{ChildGiven, Returned, FallbackAt, optional_words, OptionalOf, FallbackOf, GuardOf, choice_words, Sides, ChoiceOf}
use Rattle.eval_combine.specs.declared.Optioned.{Optioned}
use Rattle.eval_combine.specs.declared.Chosen.{Chosen}
use Rattle.eval_shortcut.specs.Children.{Wraps, Wrapped, Falls, BothSides}
use Rattle.eval_shortcut.proofs.Trees.{sound_at}
use Rattle.eval_shortcut.proofs.Words.{scalar_short}
use Rattle.eval_shortcut.specs.Children.{NodeSays}

-- a run that ended so
abbrev ran : Run Value → Outcome Value → Run Value
ran r o = record { outcome = o; state = r.state; tries = r.tries; trace = r.trace }

-- ---- the words of a value that is no list
-- at most one word: as many as `len` says
short_len : (len word : ℕ) → length (scalar_words len word) ≤ 1 → len ≡ length (scalar_words len word)
unfolding scalar_words
short_len len word = go (eqb len 0) refl (eqb len 1) refl
  where
    go :
        (a : Bool) → eqb len 0 ≡ a → (b : Bool) → eqb len 1 ≡ b
        → length (if a then [] else (if b then word ∷ [] else 1 ∷ word ∷ [])) ≤ 1
        → len ≡ length (if a then [] else (if b then word ∷ [] else 1 ∷ word ∷ []))
    go true p b q h = eqb-true len 0 p
    go false p true q h = eqb-true len 1 q
    go false p false q h = absurd (omega arith)

-- a base value has one word, a refusal none
base_words : (n : ℕ) (b : Base) (r : Run Value) (x : Told) → EndsOne n (some (one b)) r.outcome → told r ≡ some x → length x.words ≤ 1
unfolding told of_kind has_kind is_base words
base_words n b r x = go r.outcome
  where
    same : {y : Told} → some y ≡ some x → length y.words ≤ 1 → length x.words ≤ 1
    same {y} e h = subst (λ (z : Told). length z.words ≤ 1) (some-injective y x e) h

    go : (o : Outcome Value) → EndsOne n (some (one b)) o → told (ran r o) ≡ some x → length x.words ≤ 1
    go (ok (base v)) k e = same e (omega arith)
    go (ok absent) k e = absurd (false≢true k.0)
    go (ok (present v)) k e = absurd (false≢true k.0)
    go (ok nil) k e = absurd (false≢true k.0)
    go (ok (cons v w)) k e = absurd (false≢true k.0)
    go (refused f) k e = same e (omega arith)
    go (fault f) k e = absurd k

base_word : (n : ℕ) (b : Base) (r : Run Value) (x : Told) → EndsOne n (some (one b)) r.outcome → told r ≡ some x → x.number ≡ 0 → length x.words ≡ 1
unfolding told of_kind has_kind is_base words
base_word n b r x = go r.outcome
  where
    go : (o : Outcome Value) → EndsOne n (some (one b)) o → told (ran r o) ≡ some x → x.number ≡ 0 → length x.words ≡ 1
    go (ok (base v)) k e q = sym (ap (λ (z : Told). length z.words) (some-injective _ x e))
    go (ok absent) k e q = absurd (false≢true k.0)
    go (ok (present v)) k e q = absurd (false≢true k.0)
    go (ok nil) k e q = absurd (false≢true k.0)
    go (ok (cons v w)) k e q = absurd (false≢true k.0)
    go (refused f) k e q = absurd (let y = ap (λ (z : Told). z.number) (some-injective _ x e) in omega (arith, k.0))
    go (fault f) k e q = absurd k

words_none : (len word : ℕ) → len ≡ 0 → [] ≡ scalar_words len word
unfolding scalar_words
words_none len word e = rw e

words_absent : (len word : ℕ) → len ≡ 1 → word ≡ 0 → 0 ∷ [] ≡ scalar_words len word
unfolding scalar_words
words_absent len word e q = rw (e, q)

words_present : (l w len word : ℕ) → l ≡ 1 → len ≡ l + 1 → word ≡ w → 1 ∷ scalar_words l w ≡ scalar_words len word
unfolding scalar_words
words_present l w len word e q k = rw (q, e, k)

words_same : (l w len word : ℕ) → len ≡ l → word ≡ w → scalar_words l w ≡ scalar_words len word
words_same l w len word e q = rw (e, q)

-- ---- evaluations of sound trees
module _ (mark : ℕ) (area words m : List ℕ) (p : Numbers) (z : CanTake area words m p mark) (t : Tree) (w : Sound t) (is : List Item) (i : Items area words p is) where
  pub good_runs : Runs (length is) t (state_of m p) (eval mark is t (state_of m p))
  good_runs = eval_sound mark z.told is t w (state_of m p) (subst (λ (k : ℕ). Good k (state_of m p)) (sym i.1) z.fine.good)

pub few_left : (m : List ℕ) (p : Numbers) → Fine m p → p.remaining ≤ 256
unfolding state_of from_raw
few_left m p f = let h = remaining_within p.count (state_of m p) f.good in omega (arith, f.small)

most_few : (t : Tree) (r : ℕ) → leaves t ≤ 64 → r ≤ 256 → most t r ≤ 16512
unfolding most
most_few t r l h = go (has_repeat t)
  where
    product : (r + 2) * leaves t ≤ 258 * 64
    product = let k : r + 2 ≤ 258 = omega arith in mul-le-mul k l

    go : (b : Bool) → (if b then (r + 2) * leaves t else leaves t) ≤ 16512
    go true = product
    go false = omega arith

-- ---- a child that was evaluated
module _
    (b known s words m : List ℕ)
    (p : Numbers)
    (mark n : ℕ)
    (z : Scalar b known s words m p mark n)
    (m₁ : List ℕ)
    (ran : Ran)
    (said : NodeSays b s words m p mark n m₁ ran)
  where
    abbrev pub tree : Tree
    tree = z.stands.tree

    abbrev pub items : List Item
    items = z.stands.state.items

    abbrev pub these : Items (sheet_area s) words p items
    these = (z.stands.state.table, z.stands.state.same)

    pub child_sound : Sound tree
    child_sound = sound_at b n tree z.stands.node

    pub child_runs : (is : List Item) → Items (sheet_area s) words p is → Runs (length is) tree (state_of m p) (eval mark is tree (state_of m p))
    child_runs is i = good_runs mark (sheet_area s) words m p z.stands.state tree child_sound is i

    pub child_told : (is : List Item) → Items (sheet_area s) words p is → told (eval mark is tree (state_of m p)) ≡ some (answered ran m₁)
    child_told is i = (said tree z.stands.node).same is i

    pub child_left : LeftState m p m₁ ran.numbers
    child_left = (said tree z.stands.node).left

    pub child_tries : ran.tries ≤ 16512
    unfolding state_of from_raw
    child_tries =
        let h = told_tries (eval mark items tree (state_of m p)) (answered ran m₁) (child_told items these) in
        let k = (child_runs items these).cost in
        let l = most_few tree p.remaining z.stands.light (few_left m p z.stands.state.fine) in
        le_trans (subst (λ (j : ℕ). j ≤ most tree p.remaining) h k) l

    -- a base value, or a refusal
    pub base_one : (k : Base) → kind_of tree ≡ some (one k) → ran.number ≡ 0 → length (scalar_words ran.len ran.word) ≡ 1
    base_one k e q =
        base_word _ k (eval mark items tree (state_of m p)) (answered ran m₁)
        (subst (λ (o : Option Kind). EndsOne ((state_of m p).remaining + 1) o (eval mark items tree (state_of m p)).outcome) e (child_runs items these).ends)
        (child_told items these)
        q

    pub base_len : (k : Base) → kind_of tree ≡ some (one k) → ran.len ≡ length (scalar_words ran.len ran.word)
    base_len k e =
        short_len ran.len ran.word
        (base_words _ k (eval mark items tree (state_of m p)) (answered ran m₁)
        (subst (λ (o : Option Kind). EndsOne ((state_of m p).remaining + 1) o (eval mark items tree (state_of m p)).outcome) e (child_runs items these).ends)
        (child_told items these))

-- ---- an optional
-- a value behind 1 comes from a value
optional_present :
    (catch : Bool) (s : State) (r : Run Value) (x y : Told) (w : List ℕ)
    → Numbered r.outcome
    → told r ≡ some x
    → told (eval_optional catch s r) ≡ some y
    → y.number ≡ 0
    → y.words ≡ 1 ∷ w
    → x.number ≡ 0
unfolding told eval_optional parse_option ◌then◌ after ended words
optional_present catch s r x y w = go r.outcome
  where
    swallows :
        (e : Refusal) (b : Bool)
        → (e.number ≡ 0 → ⊥)
        → told ((after (ran r (refused e)) (if b then ended {A = Option Value} (ok none) s else ended (refused e) r.state))
        then λ v t. ended (ok (elim v [ none ↦ absent | some x ↦ present x ])) t)
        ≡ some y
        → y.number ≡ 0
        → y.words ≡ 1 ∷ w
        → x.number ≡ 0
    swallows e true nb h z k = absurd (let q : 0 ∷ [] ≡ y.words = ap (λ (v : Told). v.words) (some-injective _ y h) in let j : ◌≡◌ {A = ℕ} 0 1 = cc in omega arith)
    swallows e false nb h z k = absurd (nb (ap (λ (v : Told). v.number) (some-injective _ y h) ∙ z))

    go :
        (o : Outcome Value)
        → Numbered o
        → told (ran r o) ≡ some x
        → told (eval_optional catch s (ran r o)) ≡ some y
        → y.number ≡ 0
        → y.words ≡ 1 ∷ w
        → x.number ≡ 0
    go (ok v) nb e h z k = sym (ap (λ (v : Told). v.number) (some-injective _ x e))
    go (refused f) nb e h z k = swallows f (swallowed catch f s r.state) nb h z k
    go (fault f) nb e h z k = absurd (none-ne-some x e)

told_words : (r : Ran) (m : List ℕ) {v w : List ℕ} → v ≡ w → some (told_with r m v) ≡ some (told_with r m w)
told_words r m e = ap (λ (u : List ℕ). some (told_with r m u)) e

-- the run inside a node's evaluation
module _ (mark : ℕ) (area words m : List ℕ) (p : Numbers) (z : CanTake area words m p mark) (t : Tree) (w : Sound t) (is : List Item) (i : Items area words p is) where
  pub inside : (r : Run Value) → eval mark is t (state_of m p) ≡ visit t (state_of m p) r → told (eval mark is t (state_of m p)) ≡ told r
  inside r e = ap told e ∙ visit_told t (state_of m p) r

-- a node has one tree
pub wrapped :
    (make : Tree → Tree) (b s words : List ℕ) (n : ℕ) (m : List ℕ) (p : Numbers) (mark : ℕ) (m' : List ℕ) (r : Ran) (c : Tree)
    → tree_at b n ≡ some c
    → Evaluates mark (sheet_area s) words (make c) m p m' r
    → Wrapped make mark b s words n m p m' r
wrapped make b s words n m p mark m' r c e h t q =
    subst (λ (u : Tree). Evaluates mark (sheet_area s) words (make u) m p m' r) (some-injective c t (sym e ∙ q)) h

under_optional : (k : Option Kind) → is_scalar k ≡ true → is_some (k >>? optional_kind) ≡ true → (b : Base) × (k ≡ some (one b))
unfolding is_scalar is_some ◌>>?◌ optional_kind shape_of
under_optional none s e = absurd (false≢true e)
under_optional (some (one b)) s e = (b, refl)
under_optional (some (optional b)) s e = absurd (false≢true e)
under_optional (some (list b)) s e = absurd (false≢true s)
under_optional (some (list_of_optional b)) s e = absurd (false≢true e)
under_optional (some (optional_list b)) s e = absurd (false≢true e)

module _
    (catch : Bool)
    (b known s words m : List ℕ)
    (p : Numbers)
    (mark n : ℕ)
    (z : Wraps (Optional catch) b known s words m p mark n)
    (m₁ : List ℕ)
    (ran : Ran)
    (said : NodeSays b s words m p mark n m₁ ran)
  where
    len : ran.len ≡ length (scalar_words ran.len ran.word)
    unfolding kind_of
    len =
        let k = under_optional (kind_of z.below.stands.tree) z.below.scalar z.sound.kind in
        base_len b known s words m p mark n z.below m₁ ran said k.0 k.1

    pub optional_given : ChildGiven m p m₁ ran
    optional_given =
        let h = scalar_short ran.len ran.word in
        record {
          fine = z.below.stands.state.fine;
          left = child_left b known s words m p mark n z.below m₁ ran said;
          short = omega (arith, len);
        }

    module _ (m' : List ℕ) (o : Optioned) (h : OptionalOf catch m p ran m₁ m' o) where
      -- the run of the optional, from that of its child
      module _ (is : List Item) (i : Items (sheet_area s) words p is) where
        child : Run Value
        child = eval mark is z.below.stands.tree (state_of m p)

        numbered : Numbered child.outcome
        unfolding child
        numbered = runs_numbered (length is) _ (state_of m p) _ (child_runs b known s words m p mark n z.below m₁ ran said is i)

        tells : told child ≡ some (answered ran m₁)
        unfolding child
        tells = child_told b known s words m p mark n z.below m₁ ran said is i

        optioned : told (eval_optional catch (state_of m p) child) ≡ some (told_with o.ran m' (optional_words o.ran.number o.present (scalar_words ran.len ran.word)))
        optioned = h.same child (scalar_words ran.len ran.word) numbered tells

        present_one : o.ran.number ≡ 0 → o.present ≡ true → ran.len ≡ 1
        unfolding kind_of optional_words
        present_one e q =
            let k = under_optional (kind_of z.below.stands.tree) z.below.scalar z.sound.kind in
            let w : optional_words o.ran.number o.present (scalar_words ran.len ran.word) ≡ 1 ∷ scalar_words ran.len ran.word = rw (e, q) in
            let zero = optional_present catch (state_of m p) child _ _ (scalar_words ran.len ran.word) numbered tells optioned e w in
            len ∙ base_one b known s words m p mark n z.below m₁ ran said k.0 k.1 zero

        same_words : optional_words o.ran.number o.present (scalar_words ran.len ran.word) ≡ scalar_words o.ran.len o.ran.word
        unfolding optional_words
        same_words = go (eqb o.ran.number 0) refl o.present refl
          where
            go :
                (c : Bool) → eqb o.ran.number 0 ≡ c → (d : Bool) → o.present ≡ d
                → (if c then (if d then 1 ∷ scalar_words ran.len ran.word else 0 ∷ []) else []) ≡ scalar_words o.ran.len o.ran.word
            go true e true q =
                let k = eqb-true o.ran.number 0 e in
                let l = h.present k q in
                words_present ran.len ran.word o.ran.len o.ran.word (present_one k q) l.0 l.1
            go true e false q =
                let l = h.absent (eqb-true o.ran.number 0 e) q in
                words_absent o.ran.len o.ran.word l.0 l.1
            go false e d q = words_none o.ran.len o.ran.word (h.refused (eqb-false o.ran.number 0 e)).0

        optional_same : told (eval mark is (Optional catch z.below.stands.tree) (state_of m p)) ≡ some (answered o.ran m')
        unfolding eval child
        optional_same =
            inside mark (sheet_area s) words m p z.below.stands.state (Optional catch z.below.stands.tree) z.sound is i
            (eval_optional catch (state_of m p) child) refl
            ∙ optioned
            ∙ told_words o.ran m' same_words

      pub optional_ends : Wrapped (Optional catch) mark b s words n m p m' o.ran
      optional_ends =
          wrapped (Optional catch) b s words n m p mark m' o.ran z.below.stands.tree z.below.stands.node
          (record { same = optional_same; left = h.left })

-- ---- a guard
module _
    (lo hi : ℕ)
    (b known s words m : List ℕ)
    (p : Numbers)
    (mark n : ℕ)
    (z : Wraps (Guard lo hi) b known s words m p mark n)
    (m₁ : List ℕ)
    (ran : Ran)
    (said : NodeSays b s words m p mark n m₁ ran)
    (r : Ran)
    (h : GuardOf lo hi ran r)
  where
    -- its child's value is a number
    number_kind : (k : ℕ) (o : Outcome Value) → EndsOne k (some (one number)) o → (v : Value) → o ≡ ok v → has_kind (one number) v ≡ true
    unfolding of_kind
    number_kind k o e v q = (subst (λ (u : Outcome Value). EndsOne k (some (one number)) u) q e).0

    module _ (is : List Item) (i : Items (sheet_area s) words p is) where
      guarded_child : Run Value
      guarded_child = eval mark is z.below.stands.tree (state_of m p)

      guard_numbers : (v : Value) → guarded_child.outcome ≡ ok v → has_kind (one number) v ≡ true
      unfolding guarded_child kind_of
      guard_numbers =
          let w = child_runs b known s words m p mark n z.below m₁ ran said is i in
          let k = (base_kind_lem number (kind_of z.below.stands.tree) z.sound.kind).1 in
          number_kind ((state_of m p).remaining + 1) (eval mark is z.below.stands.tree (state_of m p)).outcome
          (subst (λ (o : Option Kind). EndsOne ((state_of m p).remaining + 1) o (eval mark is z.below.stands.tree (state_of m p)).outcome) k w.ends)

      guard_same : told (eval mark is (Guard lo hi z.below.stands.tree) (state_of m p)) ≡ some (answered r m₁)
      unfolding eval guarded_child
      guard_same =
          inside mark (sheet_area s) words m p z.below.stands.state (Guard lo hi z.below.stands.tree) z.sound is i
          (eval_guard lo hi guarded_child) refl
          ∙ h.same m₁ guarded_child
          (runs_numbered (length is) _ (state_of m p) _ (child_runs b known s words m p mark n z.below m₁ ran said is i))
          (child_told b known s words m p mark n z.below m₁ ran said is i)
          guard_numbers

    pub guard_ends : Wrapped (Guard lo hi) mark b s words n m p m₁ r
    guard_ends =
        wrapped (Guard lo hi) b s words n m p mark m₁ r z.below.stands.tree z.below.stands.node
        (record {
          same = guard_same;
          left = subst (λ (q : Numbers). LeftState m p m₁ q) (sym h.numbers) (child_left b known s words m p mark n z.below m₁ ran said);
        })

-- ---- a choice
module _
    (b known s words m : List ℕ)
    (p : Numbers)
    (mark i j : ℕ)
    (z : BothSides b known s words m p mark i j)
    (m₁ : List ℕ)
    (x : Ran)
    (says₁ : NodeSays b s words m p mark i m₁ x)
    (m₂ : List ℕ)
    (y : Ran)
    (says₂ : NodeSays b s words m p mark j m₂ y)
  where
    pub choice_sides : Sides m p m₁ x m₂ y
    choice_sides =
        let k = child_tries b known s words m p mark i z.first m₁ x says₁ in
        let l = child_tries b known s words m p mark j z.second m₂ y says₂ in
        record {
          fine = z.first.stands.state.fine;
          one = child_left b known s words m p mark i z.first m₁ x says₁;
          other = child_left b known s words m p mark j z.second m₂ y says₂;
          few = omega arith;
        }

    module _ (m' : List ℕ) (o : Chosen) (h : ChoiceOf m p m₁ x m₂ y m' o) where
      chosen_words : choice_words o.ran.number o.first (scalar_words x.len x.word) (scalar_words y.len y.word) ≡ scalar_words o.ran.len o.ran.word
      unfolding choice_words
      chosen_words = go (eqb o.ran.number 0) refl o.first refl
        where
          go :
              (c : Bool) → eqb o.ran.number 0 ≡ c → (d : Bool) → o.first ≡ d
              → (if c then (if d then scalar_words x.len x.word else scalar_words y.len y.word) else []) ≡ scalar_words o.ran.len o.ran.word
          go true e true q =
              let l = h.one (eqb-true o.ran.number 0 e) q in
              words_same x.len x.word o.ran.len o.ran.word l.0 l.1
          go true e false q =
              let l = h.other (eqb-true o.ran.number 0 e) q in
              words_same y.len y.word o.ran.len o.ran.word l.0 l.1
          go false e d q = words_none o.ran.len o.ran.word (h.refused (eqb-false o.ran.number 0 e)).0

      choice_same :
          (is : List Item)
          → Items (sheet_area s) words p is
          → told (eval mark is (Choice z.first.stands.tree z.second.stands.tree) (state_of m p)) ≡ some (answered o.ran m')
      unfolding eval
      choice_same is a =
          let A = eval mark is z.first.stands.tree (state_of m p) in
          let B = eval mark is z.second.stands.tree (state_of m p) in
          inside mark (sheet_area s) words m p z.first.stands.state (Choice z.first.stands.tree z.second.stands.tree) z.sound is a
          (eval_choice (state_of m p) A B) refl
          ∙ h.same A B (scalar_words x.len x.word) (scalar_words y.len y.word)
          (runs_numbered (length is) _ (state_of m p) A (child_runs b known s words m p mark i z.first m₁ x says₁ is a))
          (runs_numbered (length is) _ (state_of m p) B (child_runs b known s words m p mark j z.second m₂ y says₂ is a))
          (child_told b known s words m p mark i z.first m₁ x says₁ is a)
          (child_told b known s words m p mark j z.second m₂ y says₂ is a)
          ∙ told_words o.ran m' chosen_words

      pub choice_ends :
          (t u : Tree)
          → tree_at b i ≡ some t
          → tree_at b j ≡ some u
          → Evaluates mark (sheet_area s) words (Choice t u) m p m' o.ran
      choice_ends t u e q =
          let l = some-injective z.first.stands.tree t (sym z.first.stands.node ∙ e) in
          let r = some-injective z.second.stands.tree u (sym z.second.stands.node ∙ q) in
          subst (λ (v : Tree). Evaluates mark (sheet_area s) words (Choice t v) m p m' o.ran) r
          (subst (λ (v : Tree). Evaluates mark (sheet_area s) words (Choice v z.second.stands.tree) m p m' o.ran) l
          (record { same = choice_same; left = h.left }))

-- ---- a fallback
-- the child's value is the fallback's
fallback_child :
    (v : BaseValue) (s : State) (r : Run Value) (x : Told)
    → Numbered r.outcome
    → told r ≡ some x
    → x.number ≡ 0
    → told (eval_fallback v s r) ≡ some x
unfolding told eval_fallback after ended
fallback_child v s r x = go r.outcome
  where
    go : (o : Outcome Value) → Numbered o → told (ran r o) ≡ some x → x.number ≡ 0 → told (eval_fallback v s (ran r o)) ≡ some x
    go (ok w) nb e q =
        let k : r.tries + 0 ≡ r.tries = omega arith in
        ap (λ (n : ℕ). some (record { number = 0; place = 0; tries = n; words = words w; state = r.state })) k ∙ e
    go (refused f) nb e q = absurd (nb (ap (λ (z : Told). z.number) (some-injective _ x e) ∙ q))
    go (fault f) nb e q = absurd (none-ne-some x e)

module _
    (b known s words m : List ℕ)
    (p : Numbers)
    (mark k n : ℕ)
    (z : Falls b known s words m p mark k n)
    (m₁ : List ℕ)
    (ran : Ran)
    (said : NodeSays b s words m p mark n m₁ ran)
  where
    pub fallback_there : FallbackAt b k
    fallback_there = record { value = z.own; child = z.below.stands.tree; node = z.stands }

    pub fallback_given : Returned m p m₁ ran
    fallback_given = record {
      fine = z.below.stands.state.fine;
      left = child_left b known s words m p mark n z.below m₁ ran said;
    }

    fallen : (m' : List ℕ) (r : Ran)
        → ((is : List Item) → Items (sheet_area s) words p is → told (eval_fallback z.own (state_of m p) (eval mark is z.below.stands.tree (state_of m p))) ≡ some (answered r m'))
        → LeftState m p m' r.numbers
        → NodeSays b s words m p mark k m' r
    unfolding eval
    fallen m' r f l =
        let T = Fallback z.own z.below.stands.tree in
        wrapped (λ t. t) b s words k m p mark m' r T z.stands
        (record {
          same = λ is i.
              inside mark (sheet_area s) words m p z.below.stands.state T (sound_at b k T z.stands) is i
              (eval_fallback z.own (state_of m p) (eval mark is z.below.stands.tree (state_of m p))) refl
              ∙ f is i;
          left = l;
        })

    pub fallback_value_lem : ran.number ≡ 0 → NodeSays b s words m p mark k m₁ ran
    fallback_value_lem e =
        fallen m₁ ran
        (λ is i. fallback_child z.own (state_of m p) (eval mark is z.below.stands.tree (state_of m p)) (answered ran m₁)
        (runs_numbered (length is) _ (state_of m p) _ (child_runs b known s words m p mark n z.below m₁ ran said is i))
        (child_told b known s words m p mark n z.below m₁ ran said is i) e)
        (child_left b known s words m p mark n z.below m₁ ran said)

    pub fallback_ends :
        (w : ℕ)
        → ((v : BaseValue) (c : Tree) → tree_at b k ≡ some (Fallback v c) → w ≡ word v)
        → (m' : List ℕ) (r : Ran)
        → FallbackOf w m p ran m₁ m' r
        → NodeSays b s words m p mark k m' r
    fallback_ends w q m' r h =
        fallen m' r
        (λ is i. h.same z.own (sym (q z.own z.below.stands.tree z.stands))
        (eval mark is z.below.stands.tree (state_of m p)) (scalar_words ran.len ran.word)
        (runs_numbered (length is) _ (state_of m p) _ (child_runs b known s words m p mark n z.below m₁ ran said is i))
        (child_told b known s words m p mark n z.below m₁ ran said is i)
        refl)
        h.left
