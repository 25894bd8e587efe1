-- An optional list, from what its child's run leaves.
use mathlib.Core.Bool.{Bool, true, false, false≢true}
use mathlib.Core.List.{List, [], ◌∷◌}
use mathlib.Core.Option.{some, some-injective}
use mathlib.Core.Path.{◌≡◌, refl, sym, ◌∙◌, ap, ap₂, subst}
use Prim.Native.Nat.{ℕ, zero, suc, ◌+◌, ◌≤◌, ◌<◌}
use native.Mathlib.Omega.{arith}
use lib.ListN.{length, take, drop}
use lib.Seq.{sets, length-sets}
use borrow.Author.Tests.{eq-eqb, ne_eqb}
use Rattle.rules.specs.Outcome.{Outcome, ok}
use Rattle.rules.specs.Value.{Value, words}
use Rattle.rules.specs.Sheet.{sheet_area}
use Rattle.rules.specs.Tree.{Tree, Optional}
use Rattle.rules.specs.Split.{Item}
use Rattle.rules.specs.State.{State}
use Rattle.rules.specs.Eval.{Ran as Run, ended, after, ◌then◌, fewer, parse_option, eval_optional, eval}
use Rattle.rules.specs.Sound.{Sound}
use Rattle.rules.proofs.EvalSound.{sound_optional}
use Rattle.state_marks.specs.declared.Numbers.{Numbers}
use Rattle.state_marks.specs.Lent.{state_of}
use Rattle.take_search.specs.States as states
use Rattle.eval_told.specs.declared.Ran.{Ran}
use Rattle.eval_told.specs.Told.{Told, told, Numbered, told_with}
use Rattle.eval_told.specs.Nodes.{tree_at}
use Rattle.eval_told.proofs.Visits.{visit_told, runs_numbered}
use Rattle.eval_told.proofs.Repeats.{told_value}
use Rattle.eval_combine.specs.declared.Optioned.{Optioned}
use Rattle.eval_combine.specs.Made.{ChildGiven, optional_words, OptionalOf}
use Rattle.eval_list.specs.Lists.{MarkedField}
use Rattle.eval_list.specs.Lists.{Writes, WritesField, OverList}
use Rattle.eval_words.proofs.Words.{set_zero, sets_over, sets_read}
use Rattle.eval_list.proofs.Runs.{told_none, node_runs, node_short}

-- ---- words
module _ (number : ℕ) (present : Bool) (w : List ℕ) where
  words_present : number ≡ 0 → present ≡ true → optional_words number present w ≡ 1 ∷ w
  unfolding optional_words
  words_present z e = rw (eq-eqb number 0 z, e)

  words_absent : number ≡ 0 → present ≡ false → optional_words number present w ≡ 0 ∷ []
  unfolding optional_words
  words_absent z e = rw (eq-eqb number 0 z, e)

  words_refused : (number ≡ 0 → ⊥) → optional_words number present w ≡ []
  unfolding optional_words
  words_refused z = rw (ne_eqb number 0 z)

-- a value is present
present_words :
    (catch : Bool) (s : State) (r : Run Value) (v : Value)
    → r.outcome ≡ ok v
    → (y : Told)
    → told (eval_optional catch s r) ≡ some y
    → y.words ≡ 1 ∷ words v
unfolding eval_optional parse_option ◌then◌ after ended fewer told words
present_words catch s r v q y e =
    let there : told (eval_optional catch s (record { outcome = ok v; state = r.state; tries = r.tries; trace = r.trace })) ≡ some y =
    subst (λ (o : Outcome Value). told (eval_optional catch s (record { outcome = o; state = r.state; tries = r.tries; trace = r.trace })) ≡ some y) q e in
    sym (ap (λ (x : Told). x.words) (some-injective _ y there))

-- where it is not present, the child was refused
absent_none :
    (catch : Bool) (s : State) (r : Run Value) (x y : Told)
    → Numbered r.outcome
    → told r ≡ some x
    → told (eval_optional catch s r) ≡ some y
    → ((w : List ℕ) → y.words ≡ 1 ∷ w → ⊥)
    → x.words ≡ []
absent_none catch s r x y nb h e other = go x.number refl
  where
    go : (n : ℕ) → x.number ≡ n → x.words ≡ []
    go zero z = let d = told_value r x h nb z in absurd (other (words d.value) (present_words catch s r d.value d.outcome y e))
    go (suc n) z = told_none r x h (λ u. omega arith)

zero_not_one : (w : List ℕ) → 0 ∷ [] ≡ 1 ∷ w → ⊥
zero_not_one w e = let z : ◌≡◌ {A = ℕ} 0 1 = cc in omega arith

empty_not_one : (w : List ℕ) → [] ≡ 1 ∷ w → ⊥
empty_not_one w e = let z : ◌≡◌ {A = ℕ} 0 (suc (length w)) = ap (λ (l : List ℕ). length l) e in omega arith

-- ---- the run
module _
    {catch : Bool}
    {b known s items m : List ℕ}
    {p : Numbers}
    {child : MarkedField}
    {o : List ℕ}
    (r : OverList (Optional catch) b known s items m p child o)
    {m' o' : List ℕ}
    {ran : Ran}
    (h : WritesField b s items child m p m' o o' ran)
  where
    abbrev mark : ℕ
    mark = child.mark

    abbrev at : ℕ
    at = child.at

    abbrev state : states.CanTake (sheet_area s) items m p mark
    state = r.below.stands.state

    abbrev own : Writes mark (sheet_area s) items r.below.stands.tree m p m' o at o' ran
    own = h r.below.stands.tree r.below.stands.node

    pub given : ChildGiven m p m' ran
    given = let w = own in record { fine = state.fine; left = w.left; short = omega (arith, w.len, w.fits) }

    module _ {m'' : List ℕ} {made : Optioned} (f : OptionalOf catch m p ran m' m'' made) where
      -- only a success is present
      present_success : made.present ≡ true → made.ran.number ≡ 0
      present_success e = go made.ran.number refl
        where
          go : (n : ℕ) → made.ran.number ≡ n → n ≡ 0
          go zero z = refl
          go (suc n) z = absurd (false≢true (sym (f.refused (λ u. omega arith)).1 ∙ e))

      module _ (t : Tree) (g : tree_at b child.node ≡ some t) where
        sound : Sound (Optional catch t)
        sound =
            subst (λ (u : Tree). Sound (Optional catch u))
            (some-injective r.below.stands.tree t (sym r.below.stands.node ∙ g)) r.sound

        abbrev value : List ℕ
        value = optional_words made.ran.number made.present (h t g).value

        -- of the optional, without the visit
        inner : (is : List Item) → states.Items (sheet_area s) items p is
            → told (eval_optional catch (state_of m p) (eval mark is t (state_of m p))) ≡ some (told_with made.ran m'' value)
        inner is k =
            f.same (eval mark is t (state_of m p)) (h t g).value
            (runs_numbered (length is) t (state_of m p) (eval mark is t (state_of m p)) (node_runs mark state.told m p state.fine is k.1 t (sound_optional catch t sound)))
            ((h t g).same is k)

        outer : (is : List Item) → states.Items (sheet_area s) items p is
            → told (eval mark is (Optional catch t) (state_of m p)) ≡ some (told_with made.ran m'' value)
        unfolding eval
        outer is k =
            visit_told (Optional catch t) (state_of m p) (eval_optional catch (state_of m p) (eval mark is t (state_of m p))) ∙ inner is k

        short : length value ≤ 515
        short =
            node_short mark state.told m p state.fine state.items state.same (Optional catch t) sound (told_with made.ran m'' value)
            (outer state.items (state.table, state.same))

        ends :
            (o'' v : List ℕ)
            → value ≡ v
            → o'' ≡ sets o at v
            → made.ran.len ≡ length v
            → Writes mark (sheet_area s) items (Optional catch t) m p m'' o at o'' made.ran
        ends o'' v e q l =
            record {
              value = value;
              same = outer;
              len = rw e l;
              put = rw e q;
              fits = short;
              left = f.left;
            }

        -- the child wrote nothing
        nothing : made.present ≡ false → (h t g).value ≡ []
        nothing e =
            absent_none catch (state_of m p) (eval mark state.items t (state_of m p)) (told_with ran m' (h t g).value) (told_with made.ran m'' value)
            (runs_numbered (length state.items) t (state_of m p) _ (node_runs mark state.told m p state.fine state.items state.same t (sound_optional catch t sound)))
            ((h t g).same state.items (state.table, state.same))
            (inner state.items (state.table, state.same))
            (go made.ran.number refl)
          where
            go : (n : ℕ) → made.ran.number ≡ n → (w : List ℕ) → value ≡ 1 ∷ w → ⊥
            go zero z w q = zero_not_one w (sym (words_absent made.ran.number made.present (h t g).value z e) ∙ q)
            go (suc n) z w q = empty_not_one w (sym (words_refused made.ran.number made.present (h t g).value (λ u. omega arith)) ∙ q)

        as_it_was : made.present ≡ false → o' ≡ o
        as_it_was e = (h t g).put ∙ ap (λ (w : List ℕ). sets o at w) (nothing e)

        pub absent_ends : made.present ≡ false → (o'' : List ℕ) → o'' ≡ o' → Writes mark (sheet_area s) items (Optional catch t) m p m'' o at o'' made.ran
        absent_ends e o'' k = go made.ran.number refl
          where
            go : (n : ℕ) → made.ran.number ≡ n → Writes mark (sheet_area s) items (Optional catch t) m p m'' o at o'' made.ran
            go zero z =
                ends o'' (0 ∷ []) (words_absent made.ran.number made.present (h t g).value z e)
                (k ∙ as_it_was e ∙ sym (set_zero o at (r.below.space.zeros at (omega arith)))) (f.absent z e).0
            go (suc n) z =
                let bad : made.ran.number ≡ 0 → ⊥ = λ u. omega arith in
                ends o'' [] (words_refused made.ran.number made.present (h t g).value bad) (k ∙ as_it_was e) (f.refused bad).0

        -- ---- a list that is present
        module _ (e : made.present ≡ true) where
          there : value ≡ 1 ∷ (h t g).value
          there = words_present made.ran.number made.present (h t g).value (present_success e) e

          fits_more : ran.len < 515
          fits_more =
              let l : length value ≡ suc (length (h t g).value) = ap (λ (w : List ℕ). length w) there in
              omega (arith, short, (h t g).len)

          long : length o' ≡ length o
          long = ap (λ (w : List ℕ). length w) (h t g).put ∙ length-sets o at (h t g).value

          pub present_ends :
              (n : ℕ)
              → n ≡ ran.len
              → (o'' : List ℕ)
              → o'' ≡ sets o' at (1 ∷ take n (drop at o'))
              → Writes mark (sheet_area s) items (Optional catch t) m p m'' o at o'' made.ran
          present_ends n q o'' k =
              ends o'' (1 ∷ w) there (k ∙ moved) (let l = (f.present (present_success e) e).0 in omega (arith, (h t g).len))
            where
              w : List ℕ
              w = (h t g).value

              part : take n (drop at o') ≡ w
              part = let f = short in let l = (h t g).fits in sets_read w o o' at n (h t g).put (q ∙ (h t g).len) (omega (arith, r.below.space.room))

              moved : sets o' at (1 ∷ take n (drop at o')) ≡ sets o at (1 ∷ w)
              moved = ap₂ (λ (l v : List ℕ). sets l at (1 ∷ v)) (h t g).put part ∙ sets_over w (1 ∷ w) o at (omega arith)

      -- so it can move by one
      pub shift_ready : made.present ≡ true → (n : ℕ) → n ≡ ran.len → (n < 515) × (at + n < length o')
      shift_ready e n q =
          let t = r.below.stands.tree in
          let g = r.below.stands.node in
          let a = fits_more t g e in
          let l = long t g e in
          let v = r.below.space.room in
          (omega arith, omega arith)
