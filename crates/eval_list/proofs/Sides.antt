-- A choice between lists, from what the runs of both sides leave.
use mathlib.Core.Bool.{Bool, true, false}
use mathlib.Core.List.{List, []}
use mathlib.Core.Option.{some, some-injective}
use mathlib.Core.Path.{◌≡◌, refl, sym, ◌∙◌, ap, ap₂, subst}
use Prim.Native.Nat.{ℕ, zero, suc, ◌+◌, ◌≤◌}
use native.Mathlib.Omega.{arith}
use lib.ListN.{length, take, replicate}
use lib.Seq.{sets}
use borrow.Author.Tests.{eq-eqb, ne_eqb}
use Rattle.rules.specs.Sheet.{sheet_area}
use Rattle.rules.specs.Tree.{Tree, Choice}
use Rattle.rules.specs.Split.{Item}
use Rattle.rules.specs.Eval.{eval_choice, eval}
use Rattle.rules.specs.Sound.{Sound, leaves}
use Rattle.rules.proofs.EvalSound.{sound_choice}
use Rattle.state_marks.specs.declared.Numbers.{Numbers}
use Rattle.state_marks.specs.Lent.{state_of}
use Rattle.take_search.specs.States as states
use Rattle.eval_told.specs.declared.Ran.{Ran}
use Rattle.eval_told.specs.Told.{told, Numbered, told_with}
use Rattle.eval_told.specs.Nodes.{tree_at}
use Rattle.eval_told.proofs.Visits.{visit_told, runs_numbered}
use Rattle.eval_combine.specs.declared.Chosen.{Chosen}
use Rattle.eval_combine.specs.Made.{Sides, choice_words, ChoiceOf}
use Rattle.eval_node.specs.Cycle.{Room}
use Rattle.eval_list.specs.Lists.{MarkedField}
use Rattle.eval_list.specs.Lists.{Listed, Writes, WritesField, in_place, EitherList}
use Rattle.eval_words.specs.Stored.{Aside, settled}
use Rattle.eval_words.proofs.Words.{sets_back, sets_read, settled_refused, settled_first, settled_second}
use Rattle.eval_list.proofs.Runs.{node_runs, node_short, node_tries, writes_long}

-- ---- words
module _ (number : ℕ) (first : Bool) (a b : List ℕ) where
  words_first : number ≡ 0 → first ≡ true → choice_words number first a b ≡ a
  unfolding choice_words
  words_first z e = rw (eq-eqb number 0 z, e)

  words_second : number ≡ 0 → first ≡ false → choice_words number first a b ≡ b
  unfolding choice_words
  words_second z e = rw (eq-eqb number 0 z, e)

  words_neither : (number ≡ 0 → ⊥) → choice_words number first a b ≡ []
  unfolding choice_words
  words_neither z = rw (ne_eqb number 0 z)

-- ---- the first side
module _
    {b known s items m : List ℕ}
    {p : Numbers}
    {left : MarkedField}
    {right : ℕ}
    {o : List ℕ}
    (r : EitherList b known s items m p left right o)
    {m₁ o₁ : List ℕ}
    {x : Ran}
    (h : WritesField b s items left m p m₁ o o₁ x)
    {n : ℕ}
    (en : n ≡ x.len)
  where
    abbrev mark : ℕ
    mark = left.mark

    abbrev at : ℕ
    at = left.at

    abbrev state : states.CanTake (sheet_area s) items m p mark
    state = r.first.stands.state

    abbrev one : Writes mark (sheet_area s) items r.first.stands.tree m p m₁ o at o₁ x
    one = h r.first.stands.tree r.first.stands.node

    pub aside_ready : (n ≤ 515) × (at + n ≤ length o₁)
    aside_ready =
        let w = one in
        let l = writes_long w in
        let f = w.fits in
        let e = w.len in
        let v = r.first.space.room in
        (omega arith, omega arith)

    -- ---- the second side, on words that are as they were
    module _ {o₂ kept : List ℕ} (a : Aside o₁ at n o₂ kept) where
      cleared : o₂ ≡ o
      cleared =
          let w = one in
          a.clear
          ∙ ap₂ (λ (l : List ℕ) (k : ℕ). sets l at (replicate k 0)) w.put (en ∙ w.len)
          ∙ sets_back w.value o at r.first.space.zeros

      pub second_ready : Listed b known s items m p (in_place left right) o₂
      second_ready =
          record {
            stands = r.second.stands;
            long = r.second.long;
            space = subst (λ (l : List ℕ). Room l at) (sym cleared) r.second.space;
          }

      module _ {m₂ o₃ : List ℕ} {y : Ran} (k : WritesField b s items (in_place left right) m p m₂ o₂ o₃ y) where
        abbrev other : Writes mark (sheet_area s) items r.second.stands.tree m p m₂ o₂ at o₃ y
        other = k r.second.stands.tree r.second.stands.node

        sounds : Sound r.first.stands.tree × Sound r.second.stands.tree
        sounds = sound_choice r.first.stands.tree r.second.stands.tree r.sound

        few : (t : Tree) → Sound t → leaves t ≤ 64 → {m' o' l : List ℕ} {q : Ran} → Writes mark (sheet_area s) items t m p m' l at o' q → q.tries ≤ 16512
        few t z l w =
            node_tries mark state.told m p state.fine state.items state.same t z l _
            (w.same state.items (state.table, state.same))

        pub sides_ready : Sides m p m₁ x m₂ y
        sides_ready =
            let c = few r.first.stands.tree sounds.0 r.first.stands.light one in
            let d = few r.second.stands.tree sounds.1 r.second.stands.light other in
            record { fine = state.fine; one = one.left; other = other.left; few = omega arith }

        -- ---- the side that won
        module _
            {m₃ : List ℕ}
            {made : Chosen}
            (f : ChoiceOf m p m₁ x m₂ y m₃ made)
            {j : ℕ}
            (ej : j ≡ y.len)
            {o₄ : List ℕ}
            (e : o₄ ≡ settled made.ran.number made.first o₃ at (take n kept) j)
            (t u : Tree)
            (g : tree_at b left.node ≡ some t)
            (v : tree_at b right ≡ some u)
          where
            sound : Sound (Choice t u)
            sound =
                subst (λ (c : Tree). Sound (Choice c u)) (some-injective r.first.stands.tree t (sym r.first.stands.node ∙ g))
                (subst (λ (d : Tree). Sound (Choice r.first.stands.tree d)) (some-injective r.second.stands.tree u (sym r.second.stands.node ∙ v))
                r.sound)

            abbrev value : List ℕ
            value = choice_words made.ran.number made.first (h t g).value (k u v).value

            numbered : (c : Tree) → Sound c → (is : List Item) → length is ≡ p.count → Numbered (eval mark is c (state_of m p)).outcome
            numbered c z is q =
                runs_numbered (length is) c (state_of m p) (eval mark is c (state_of m p)) (node_runs mark state.told m p state.fine is q c z)

            same : (is : List Item) → states.Items (sheet_area s) items p is
                → told (eval mark is (Choice t u) (state_of m p)) ≡ some (told_with made.ran m₃ value)
            unfolding eval
            same is q =
                visit_told (Choice t u) (state_of m p) (eval_choice (state_of m p) (eval mark is t (state_of m p)) (eval mark is u (state_of m p)))
                ∙ f.same (eval mark is t (state_of m p)) (eval mark is u (state_of m p)) (h t g).value (k u v).value
                (numbered t (sound_choice t u sound).0 is q.1) (numbered u (sound_choice t u sound).1 is q.1)
                ((h t g).same is q) ((k u v).same is q)

            ends : (w : List ℕ) → value ≡ w → o₄ ≡ sets o at w → made.ran.len ≡ length w → Writes mark (sheet_area s) items (Choice t u) m p m₃ o at o₄ made.ran
            ends w c q l =
                record {
                  value = value;
                  same = same;
                  len = rw c l;
                  put = rw c q;
                  fits =
                      node_short mark state.told m p state.fine state.items state.same (Choice t u) sound (told_with made.ran m₃ value)
                      (same state.items (state.table, state.same));
                  left = f.left;
                }

            -- the second side's words are 0 again
            undone : sets o₃ at (replicate j 0) ≡ o
            undone =
                ap₂ (λ (l : List ℕ) (i : ℕ). sets l at (replicate i 0)) ((k u v).put ∙ ap (λ (l : List ℕ). sets l at (k u v).value) cleared) (ej ∙ (k u v).len)
                ∙ sets_back (k u v).value o at r.first.space.zeros

            kept_there : take n kept ≡ (h t g).value
            kept_there =
                a.same
                ∙ sets_read (h t g).value o o₁ at n (h t g).put (en ∙ (h t g).len) (omega (arith, (h t g).fits, r.first.space.room))

            pub choice_ends : Writes mark (sheet_area s) items (Choice t u) m p m₃ o at o₄ made.ran
            choice_ends = go made.ran.number made.first refl refl
              where
                go : (i : ℕ) (c : Bool) → made.ran.number ≡ i → made.first ≡ c → Writes mark (sheet_area s) items (Choice t u) m p m₃ o at o₄ made.ran
                go zero true z c =
                    ends (h t g).value (words_first made.ran.number made.first (h t g).value (k u v).value z c)
                    (e ∙ settled_first o₃ at (take n kept) j made.ran.number made.first z c ∙ ap₂ (λ (l w : List ℕ). sets l at w) undone kept_there)
                    ((f.one z c).0 ∙ (h t g).len)
                go zero false z c =
                    ends (k u v).value (words_second made.ran.number made.first (h t g).value (k u v).value z c)
                    (e ∙ settled_second o₃ at (take n kept) j made.ran.number made.first z c ∙ (k u v).put ∙ ap (λ (l : List ℕ). sets l at (k u v).value) cleared)
                    ((f.other z c).0 ∙ (k u v).len)
                go (suc i) c z d =
                    let bad : made.ran.number ≡ 0 → ⊥ = λ w. omega arith in
                    ends [] (words_neither made.ran.number made.first (h t g).value (k u v).value bad)
                    (e ∙ settled_refused o₃ at (take n kept) j made.ran.number made.first bad ∙ undone)
                    (f.refused bad).0
