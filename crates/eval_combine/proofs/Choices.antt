-- A choice, by what `this_or_that_picks_first` and `pick_winner` decide.
use mathlib.Core.Bool.{Bool, true, false, ◌&&◌, false≢true}
use mathlib.Core.List.{List, [], ◌++◌, ◌∷◌}
use mathlib.Core.Logic.{⊎_elim}
use mathlib.Core.Option.{some, none, none-ne-some}
use mathlib.Core.Path.{◌≡◌, refl, sym, ap, ap₂, ◌∙◌}
use Prim.Native.Nat.{ℕ, ◌+◌, ◌-◌, ◌<◌}
use native.Mathlib.Omega.{arith}
use lib.Dec.{eqb}
use lib.ListN.{length, take, drop}
use borrow.Author.Tests.{ne_eqb, eqb-true, eqb-false}
use Rattle.std.specs.Prelude.{if◌then◌else◌, Option, Some, None, IfSome}
use Rattle.rules.specs.Outcome.{Outcome, ok, refused, fault, at, or_else305, or_else307, Refusal, is_missing, can_catch, wrong_input, combine_with}
use Rattle.rules.specs.Calls.{from_raw}
use Rattle.rules.specs.Value.{Value, absent, words}
use Rattle.rules.specs.State.{State, Picked, pick_from, pick_winner, conflicts, present_at}
use Rattle.rules.specs.Eval.{Ran as Run, Visit, ended, after, value_of, side, picks_first, picked, won, chosen, eval_choice}
use Rattle.rules.specs.declared.Refused.{Refused}
use Rattle.rules.proofs.Places.{if_elim}
use Rattle.state_marks.specs.declared.Numbers.{Numbers}
use Rattle.state_marks.specs.declared.Picked.{Picked as Pair}
use Rattle.state_marks.specs.Lent.{state_of, Fine, option_of, pick_of}
use Rattle.state_marks.proofs.Laws.{fine_long, marked_is, marked_whole, marked_fine}
use Rattle.take_search.specs.States.{LeftState}
use Rattle.take_search.proofs.States.{left_same}
use Rattle.eval_error.specs.Refusals.{refused_of, refusal_of, refused_refusal}
use Rattle.eval_structs.specs.declared.Pick.{Pick}
use Rattle.eval_structs.specs.declared.Pick.TheVariants.{First, Second, Winner, Neither}
use Rattle.eval_structs.specs.Decisions.{with_remaining, EndedBy, forgotten, pick_by}
use Rattle.eval_told.specs.declared.Ran.{Ran}
use Rattle.eval_told.specs.Told.{Told, told, Numbered, told_with}
use Rattle.eval_told.specs.Results.{refusal_ran}
use Rattle.eval_combine.specs.Made.{Sides, choice_words, ChoiceOf, ended_of, won_of, won_marks, Marked, Decided, WinnerOf}
use Rattle.eval_combine.specs.declared.Chosen.{Chosen}
use Rattle.eval_combine.proofs.Tells.{run_of, told_same, value_told, refusal_told, left_told}

-- ---- the winner's marks
module _ (place : Option ℕ) (n : ℕ) (m l : List ℕ) where
  pub marks_kept : place ≡ None → m ≡ won_marks place n m l
  unfolding won_marks
  marks_kept z = rw z

  pub marks_saved : (w : ℕ) → place ≡ Some w → (m' : List ℕ) → m' ≡ conflicts w (take n m) (take n l) ++ drop n m → m' ≡ won_marks place n m l
  unfolding won_marks
  marks_saved w z m' e = rw (e, z)

module _ (m l : List ℕ) (p q : Numbers) (f : Fine m p) (e : q.count ≡ p.count) where
  won_is : (place : Option ℕ) → won (state_of m p) (state_of l q) (option_of place) ≡ state_of (won_marks place p.count m l) p
  unfolding won won_marks
  won_is None = refl
  won_is (Some w) = marked_is m l p q w f e

  won_long : (place : Option ℕ) → length (won_marks place p.count m l) ≡ length m
  unfolding won_marks
  won_long None = refl
  won_long (Some w) = marked_whole m l p q w f e

  won_fine : (place : Option ℕ) → IfSome place (λ w. w < p.count) → Fine (won_marks place p.count m l) p
  unfolding won_marks
  won_fine None h = f
  won_fine (Some w) h = marked_fine m l p q w f e h

module _ (m l : List ℕ) (q q' : Numbers) (n : ℕ) (place : Option ℕ) (c : q.count ≡ n) (c' : q'.count ≡ n) where
  won_state : Fine m q → (t t' : State) → t ≡ state_of m q → t' ≡ state_of l q' → won t t' (option_of place) ≡ state_of (won_marks place n m l) q
  won_state f t t' e e' =
      ap₂ (λ (a b : State). won a b (option_of place)) e e'
      ∙ won_is m l q q' f (c' ∙ sym c) place
      ∙ ap (λ (k : ℕ). state_of (won_marks place k m l) q) c

  won_left : (before : List ℕ) (p : Numbers) → LeftState before p m q → n ≡ p.count → IfSome place (λ w. w < n) → LeftState before p (won_marks place n m l) q
  won_left before p h e i =
      let z : q'.count ≡ q.count = c' ∙ sym c in
      record {
        count = h.count;
        long = rw (← c) (won_long m l q q' h.fine z place) ∙ h.long;
        fine = rw (← c) (won_fine m l q q' h.fine z place (rw c i));
      }

-- ---- what was picked
-- what was forgotten of an outcome
forgot_ok : {A : Type 0} (o : Outcome A) (a : A) → forgotten o ≡ ok a → o ≡ ok a
unfolding forgotten
forgot_ok (ok b) a e = e
forgot_ok (refused x) a e = absurd (let z : ◌≡◌ {A = ℕ} 0 1 = cc in omega arith)
forgot_ok (fault x) a e = absurd (let z : ◌≡◌ {A = ℕ} 0 1 = cc in omega arith)

forgot_refused : {A : Type 0} (o : Outcome A) (c : Refused) → forgotten o ≡ refused (refusal_of c) → (e : Refusal) × (o ≡ refused e) × (refused_of e ≡ c)
unfolding forgotten
forgot_refused (ok b) c e = absurd (let z : ◌≡◌ {A = ℕ} 0 1 = cc in omega arith)
forgot_refused (refused x) c e =
    let z : refusal_of (refused_of x) ≡ refusal_of c = cc in
    (x, refl, sym (refused_refusal (refused_of x)) ∙ ap refused_of z ∙ refused_refusal c)
forgot_refused (fault x) c e = absurd (let z : ◌≡◌ {A = ℕ} 0 1 = cc in omega arith)

-- a refused side does not win
refused_first : (e : Refusal) (u : Outcome Value) (s a b : State) (k : Picked) → picks_first s a b (refused e) u ≡ ok k → k.first ≡ true → ⊥
unfolding picks_first side
refused_first e (ok w) s a b k h t = go (eqb s.remaining b.remaining && wrong_input e) h
  where
    go : (x : Bool) → (if x then refused e else ok (record { first = false; place = none })) ≡ ok k → ⊥
    go true h = let z : ◌≡◌ {A = ℕ} 0 1 = cc in omega arith
    go false h = let z : record { first = false; place = none } ≡ k = cc in false≢true (ap (λ (x : Picked). x.first) z ∙ t)
refused_first e (refused f) s a b k h t = let z : ◌≡◌ {A = ℕ} 0 1 = cc in omega arith
refused_first e (fault f) s a b k h t = let z : ◌≡◌ {A = ℕ} 0 1 = cc in omega arith

refused_second : (o : Outcome Value) (f : Refusal) (s a b : State) (k : Picked) → picks_first s a b o (refused f) ≡ ok k → k.first ≡ false → ⊥
unfolding picks_first side
refused_second (ok v) f s a b k h t = go (eqb s.remaining a.remaining && wrong_input f) h
  where
    go : (x : Bool) → (if x then refused f else ok (record { first = true; place = none })) ≡ ok k → ⊥
    go true h = let z : ◌≡◌ {A = ℕ} 0 1 = cc in omega arith
    go false h = let z : record { first = true; place = none } ≡ k = cc in false≢true (sym (ap (λ (x : Picked). x.first) z ∙ t))
refused_second (refused e) f s a b k h t = let z : ◌≡◌ {A = ℕ} 0 1 = cc in omega arith
refused_second (fault e) f s a b k h t = let z : ◌≡◌ {A = ℕ} 0 1 = cc in omega arith

-- a refusal of the choice has a number
combine_numbered : (e f : Refusal) → (e.number ≡ 0 → ⊥) → (f.number ≡ 0 → ⊥) → (combine_with e f).number ≡ 0 → ⊥
unfolding combine_with
combine_numbered e f i j =
    if_elim (λ (x : Refusal). x.number ≡ 0 → ⊥) (is_missing e) _ _
    (λ _. if_elim (λ (x : Refusal). x.number ≡ 0 → ⊥) (is_missing f) _ _ (λ _ z. omega arith) (λ _. j))
    (λ _. if_elim (λ (x : Refusal). x.number ≡ 0 → ⊥) (can_catch e) _ _ (λ _. j) (λ _. i))

picks_numbered : (o u : Outcome Value) (s a b : State) → Numbered o → Numbered u → Numbered (picks_first s a b o u)
unfolding picks_first side
picks_numbered (ok v) (ok w) s a b i j =
    if_elim (λ (o : Outcome Picked). Numbered o) (eqb s.remaining a.remaining && eqb s.remaining b.remaining) (side true none) (ok (pick_winner a b)) (λ _. tt) (λ _. tt)
picks_numbered (ok v) (refused f) s a b i j =
    if_elim (λ (o : Outcome Picked). Numbered o) (eqb s.remaining a.remaining && wrong_input f) (refused f) (side true none) (λ _. j) (λ _. tt)
picks_numbered (refused e) (ok w) s a b i j =
    if_elim (λ (o : Outcome Picked). Numbered o) (eqb s.remaining b.remaining && wrong_input e) (refused e) (side false none) (λ _. i) (λ _. tt)
picks_numbered (refused e) (refused f) s a b i j = combine_numbered e f i j
picks_numbered (fault x) u s a b i j = tt
picks_numbered (ok v) (fault x) s a b i j = tt
picks_numbered (refused e) (fault x) s a b i j = tt

-- how a side ended, by its number; which value it had does not matter here
ended_by : Refused → Outcome Value
ended_by x = if eqb x.number 0 then ok absent else refused (refusal_of x)

ended_by_lem : (x : Refused) → EndedBy (ended_by x) x × Numbered (ended_by x)
unfolding ended_by refusal_of
ended_by_lem x = go (eqb x.number 0) refl
  where
    go : (b : Bool) → eqb x.number 0 ≡ b
        → EndedBy (if b then ok absent else refused (refusal_of x)) x × Numbered {A = Value} (if b then ok absent else refused (refusal_of x))
    go true t = (eqb-true x.number 0 t, tt)
    go false t = ((refused_refusal x, eqb-false x.number 0 t), eqb-false x.number 0 t)

-- what the code's decision says
abbrev Picks : Refused → Refused → ℕ → ℕ → ℕ → Pick → Type 0
Picks x y given left-a left-b k =
    (o u : Outcome Value) (s a b : State)
    → EndedBy o x
    → EndedBy u y
    → s.remaining ≡ given
    → a.remaining ≡ left-a
    → b.remaining ≡ left-b
    → forgotten (picks_first s a b o u) ≡ pick_by k a b

neither_numbered : (x y : Refused) (g l h : ℕ) (c : Refused) → Picks x y g l h (Neither c) → c.number ≡ 0 → ⊥
unfolding pick_by with_remaining refused_of
neither_numbered x y g l h c d z =
    let a = ended_by_lem x in
    let b = ended_by_lem y in
    let o = picks_first (with_remaining g) (with_remaining l) (with_remaining h) (ended_by x) (ended_by y) in
    let r = forgot_refused o c (d _ _ (with_remaining g) (with_remaining l) (with_remaining h) a.0 b.0 refl refl refl) in
    let i : Numbered {A = Picked} (refused r.0) = rw r.1 at (picks_numbered (ended_by x) (ended_by y) (with_remaining g) (with_remaining l) (with_remaining h) a.1 b.1) in
    i (ap (λ (u : Refused). u.number) r.2 ∙ z)

-- ---- what is told
module _ (s : State) (A B : Run Value) where
  by : Outcome Picked → Run Value
  by o = elim o [
    | ok p ↦ if p.first
        then ended (at or_else305 (value_of A.outcome)) (won A.state B.state p.place)
        else ended (at or_else307 (value_of B.outcome)) (won B.state A.state p.place)
    | refused e ↦ ended (refused e) s
    | fault x ↦ ended (fault x) s
  ]

  abbrev picks : Outcome Picked
  picks = picks_first s A.state B.state A.outcome B.outcome

  by_picked : {o : Outcome Picked} → picks ≡ o → told (after A (after B (chosen s A B))) ≡ told (after A (after B (by o)))
  unfolding chosen picked by
  by_picked h = ap (λ (o : Outcome Picked). told (after A (after B (by o)))) h

  module _ (k : Picked) (h : picks ≡ ok k) where
    by_first : k.first ≡ true → told (after A (after B (chosen s A B)))
        ≡ told (after A (after B (ended (at or_else305 (value_of A.outcome)) (won A.state B.state k.place))))
    unfolding by
    by_first t = by_picked h ∙ ap (λ (u : Bool). told (after A (after B (if u
        then ended (at or_else305 (value_of A.outcome)) (won A.state B.state k.place)
        else ended (at or_else307 (value_of B.outcome)) (won B.state A.state k.place))))) t

    by_second : k.first ≡ false → told (after A (after B (chosen s A B)))
        ≡ told (after A (after B (ended (at or_else307 (value_of B.outcome)) (won B.state A.state k.place))))
    unfolding by
    by_second t = by_picked h ∙ ap (λ (u : Bool). told (after A (after B (if u
        then ended (at or_else305 (value_of A.outcome)) (won A.state B.state k.place)
        else ended (at or_else307 (value_of B.outcome)) (won B.state A.state k.place))))) t

-- how a side ended
side_ended : (r : Ran) (m w : List ℕ) (o : Outcome Value) (t : State) (n : ℕ) (l : List Visit) → Numbered o → told (run_of o t n l) ≡ some (told_with r m w)
    → EndedBy o (ended_of r)
unfolding told refused_of
side_ended r m w (ok v) t n l i h = sym (value_told r m w t n l v h).number
side_ended r m w (refused e) t n l i h =
    let c = refusal_told r m w t n l e h in
    ((λ j. record { number = c.number j; place = c.place j }), λ z. i (c.number ∙ z))
side_ended r m w (fault z) t n l i h = absurd (none-ne-some _ h)

module _ (s : State) (x y : Ran) (m₁ m₂ a b : List ℕ) where
  -- both sides, by their parts
  module _ (ta tb : State) (na nb : ℕ) (la lb : List Visit) where
    abbrev Tells : Outcome Value → Outcome Value → Told → Type 0
    Tells o u T =
        told (run_of o ta na la) ≡ some (told_with x m₁ a)
        → told (run_of u tb nb lb) ≡ some (told_with y m₂ b)
        → told (eval_choice s (run_of o ta na la) (run_of u tb nb lb)) ≡ some T

    abbrev decides : Outcome Value → Outcome Value → Outcome Picked
    decides o u = picks_first s ta tb o u

    abbrev one : List ℕ → State → Told
    one w t = record { number = 0; place = 0; tries = x.tries + y.tries; words = w; state = t }

    -- the tries of both
    both_told : (o u : Outcome Value) (T : Told)
        → (na ≡ x.tries → nb ≡ y.tries
        → told (after (run_of o ta na la) (after (run_of u tb nb lb) (chosen s (run_of o ta na la) (run_of u tb nb lb)))) ≡ some T)
        → Tells o u T
    unfolding told eval_choice
    both_told o u T f p q = f (left_told x m₁ a ta na la o p).tries (left_told y m₂ b tb nb lb u q).tries

    first_told : (k : Picked) (o u : Outcome Value) → decides o u ≡ ok k → k.first ≡ true → Tells o u (one a (won ta tb k.place))
    unfolding told value_of at after ended
    first_told k (ok v) u h t p =
        both_told (ok v) u (one a (won ta tb k.place)) (λ c d.
        by_first s (run_of (ok v) ta na la) (run_of u tb nb lb) k h t
        ∙ told_same refl refl (omega arith) (value_told x m₁ a ta na la v p).words refl) p
    first_told k (refused e) u h t p = absurd (refused_first e u s ta tb k h t)
    first_told k (fault z) u h t p = absurd (none-ne-some _ p)

    second_told : (k : Picked) (o u : Outcome Value) → decides o u ≡ ok k → k.first ≡ false → Tells o u (one b (won tb ta k.place))
    unfolding told value_of at after ended
    second_told k o (ok w) h t p q =
        both_told o (ok w) (one b (won tb ta k.place)) (λ c d.
        by_second s (run_of o ta na la) (run_of (ok w) tb nb lb) k h t
        ∙ told_same refl refl (omega arith) (value_told y m₂ b tb nb lb w q).words refl) p q
    second_told k o (refused e) h t p q = absurd (refused_second o e s ta tb k h t)
    second_told k o (fault z) h t p q = absurd (none-ne-some _ q)

    abbrev none_of : Refused → Told
    none_of c = record { number = c.number; place = c.place; tries = x.tries + y.tries; words = []; state = s }

    neither_told : (c : Refused) (o u : Outcome Value) → forgotten (decides o u) ≡ refused (refusal_of c) → Tells o u (none_of c)
    unfolding told after ended by refused_of
    neither_told c o u h =
        let r = forgot_refused (decides o u) c h in
        both_told o u (none_of c) (λ d f.
        by_picked s (run_of o ta na la) (run_of u tb nb lb) r.1
        ∙ told_same (ap (λ (z : Refused). z.number) r.2) (ap (λ (z : Refused). z.place) r.2) (omega arith) refl refl)

-- ---- as the code returns
module _ (before : List ℕ) (p : Numbers) (first : List ℕ) (x : Ran) (m : List ℕ) (y : Ran) (sides : Sides before p first x m y) (k : Pick) (u v : Refused)
    (eu : u ≡ ended_of x) (ev : v ≡ ended_of y) (d : Picks u v p.remaining x.numbers.remaining y.numbers.remaining k) where
  abbrev s : State
  s = state_of before p

  abbrev both : ℕ
  both = x.tries + y.tries

  module _ (A B : Run Value) (a b : List ℕ) (i : Numbered A.outcome) (j : Numbered B.outcome)
      (ha : told A ≡ some (told_with x first a)) (hb : told B ≡ some (told_with y m b)) where
    left_first : A.state ≡ state_of first x.numbers
    left_first = (left_told x first a A.state A.tries A.trace A.outcome ha).state

    left_second : B.state ≡ state_of m y.numbers
    left_second = (left_told y m b B.state B.tries B.trace B.outcome hb).state

    decision : forgotten (picks s A B) ≡ pick_by k A.state B.state
    unfolding state_of from_raw
    decision =
        let e = side_ended x first a A.outcome A.state A.tries A.trace i ha in
        let f = side_ended y m b B.outcome B.state B.tries B.trace j hb in
        d A.outcome B.outcome s A.state B.state (rw eu e) (rw ev f) refl
        (ap (λ (t : State). t.remaining) left_first) (ap (λ (t : State). t.remaining) left_second)

    decided : (q : Picked) → pick_by k A.state B.state ≡ ok q → picks s A B ≡ ok q
    decided q e = forgot_ok (picks s A B) q (decision ∙ e)

    -- the first side, or the second, with what the other used in conflict
    tells_first : (place : Option ℕ) → pick_by k A.state B.state ≡ ok (record { first = true; place = option_of place })
        → told (eval_choice s A B) ≡ some (told_with (won_of both x) (won_marks place p.count first m) a)
    tells_first place e =
        first_told s x y first m a b A.state B.state A.tries B.tries A.trace B.trace _ A.outcome B.outcome (decided _ e) refl ha hb
        ∙ told_same refl refl refl refl
        (won_state first m x.numbers y.numbers p.count place sides.one.count sides.other.count sides.one.fine A.state B.state left_first left_second)

    tells_second : (place : Option ℕ) → pick_by k A.state B.state ≡ ok (record { first = false; place = option_of place })
        → told (eval_choice s A B) ≡ some (told_with (won_of both y) (won_marks place p.count m first) b)
    tells_second place e =
        second_told s x y first m a b A.state B.state A.tries B.tries A.trace B.trace _ A.outcome B.outcome (decided _ e) refl ha hb
        ∙ told_same refl refl refl refl
        (won_state m first y.numbers x.numbers p.count place sides.other.count sides.one.count sides.other.fine B.state A.state left_second left_first)

  -- what is picked of the states that were left
  abbrev Pick·is : Bool → Option ℕ → Type 0
  Pick·is b place =
      (t t' : State)
      → t ≡ state_of first x.numbers
      → t' ≡ state_of m y.numbers
      → pick_by k t t' ≡ ok (record { first = b; place = option_of place })

  module _ (place : Option ℕ) (within : IfSome place (λ w. w < p.count)) where
    made_first : Pick·is true place
        → ChoiceOf before p first x m y (won_marks place p.count first m) (record { ran = won_of both x; first = true })
    unfolding choice_words
    made_first e = record {
      same = λ A B a b i j ha hb.
          tells_first A B a b i j ha hb place (e A.state B.state (left_first A B a b i j ha hb) (left_second A B a b i j ha hb));
      left = won_left first m x.numbers y.numbers p.count place sides.one.count sides.other.count before p sides.one refl within;
      one = λ _ _. (refl, refl);
      other = λ _ f. absurd (false≢true (sym f));
      refused = λ f. absurd (f refl);
    }

    made_second : Pick·is false place
        → ChoiceOf before p first x m y (won_marks place p.count m first) (record { ran = won_of both y; first = false })
    unfolding choice_words
    made_second e = record {
      same = λ A B a b i j ha hb.
          tells_second A B a b i j ha hb place (e A.state B.state (left_first A B a b i j ha hb) (left_second A B a b i j ha hb));
      left = won_left m first y.numbers x.numbers p.count place sides.other.count sides.one.count before p sides.other refl within;
      one = λ _ f. absurd (false≢true f);
      other = λ _ _. (refl, refl);
      refused = λ f. absurd (f refl);
    }

  module _ (r : Ran) where
    pub choice_first : k ≡ First → r ≡ won_of both x → ChoiceOf before p first x m y first (record { ran = r; first = true })
    unfolding pick_by side won_marks
    choice_first e w = rw w (made_first None _ (λ t t' _ _. rw e))

    pub choice_second : k ≡ Second → r ≡ won_of both y → ChoiceOf before p first x m y m (record { ran = r; first = false })
    unfolding pick_by side won_marks
    choice_second e w = rw w (made_second None _ (λ t t' _ _. rw e))

    pub choice_neither :
        (c : Refused)
        → k ≡ Neither c
        → r ≡ refusal_ran c.number c.place both p
        → ChoiceOf before p first x m y before (record { ran = r; first = false })
    unfolding pick_by choice_words
    choice_neither c e w =
        let z : c.number ≡ 0 → ⊥ = neither_numbered u v _ _ _ c (rw e at d) in
        rw w (record {
          same = λ A B a b i j ha hb.
              neither_told s x y first m a b A.state B.state A.tries B.tries A.trace B.trace c A.outcome B.outcome
              (decision A B a b i j ha hb ∙ rw e) ha hb
              ∙ told_same refl refl refl (rw (ne_eqb c.number 0 z)) refl;
          left = left_same before p sides.fine;
          one = λ f. absurd (z f);
          other = λ f. absurd (z f);
          refused = λ _. (refl, refl);
        })

  pub choice_winner : k ≡ Winner → (m' : List ℕ) (r : Chosen) → WinnerOf both p.count first x m y m' r → ChoiceOf before p first x m y m' r
  unfolding pick_by pick_winner pick_of state_of from_raw
  choice_winner e m' r w = go r.first refl
    where
      picked : (b : Bool) → r.first ≡ b → Pick·is b w.place
      picked b t q q' h h' =
          ap (λ (j : Pick). pick_by j q q') e
          ∙ ap ok
          (ap₂ pick_winner h h'
          ∙ ap₂ (λ (i j : ℕ). pick_from 0 (take i first) (take j m)) sides.one.count sides.other.count
          ∙ sym w.picked
          ∙ (λ i. record { first = t i; place = option_of w.place }))

      go : (b : Bool) → r.first ≡ b → ChoiceOf before p first x m y m' r
      go true t =
          let o = w.one t in
          let same : r ≡ record { ran = won_of both x; first = true } = λ i. record { ran = o.1 i; first = t i } in
          rw (o.0, same) (made_first w.place w.within (picked true t))
      go false t =
          let o = w.other t in
          let same : r ≡ record { ran = won_of both y; first = false } = λ i. record { ran = o.1 i; first = t i } in
          rw (o.0, same) (made_second w.place w.within (picked false t))

-- ---- what the calls ask for
pub sides_marked : (before : List ℕ) (p : Numbers) (first : List ℕ) (x : Ran) (m : List ℕ) (y : Ran) → Sides before p first x m y → Marked p.count first m
sides_marked before p first x m y h = record {
  small = h.fine.small;
  ours = rw (← h.one.count) (fine_long first x.numbers h.one.fine);
  theirs = rw (← h.other.count) (fine_long m y.numbers h.other.fine);
}

module _ (n c : ℕ) (first m : List ℕ) (marked : Marked n first m) (e : c ≡ n) (k : Pair) (h : pick_of k ≡ pick_from 0 (take c first) (take c m))
    (i : IfSome k.place (λ w. w < c)) where
  pub decided_first : Decided k.place n first m
  decided_first = record { within = rw (← e) i; marked = marked }

  pub decided_second : Decided k.place n m first
  decided_second = record {
    within = rw (← e) i;
    marked = record { small = marked.small; ours = marked.theirs; theirs = marked.ours };
  }

  module _ (tries : ℕ) (x y : Ran) (m' : List ℕ) (r : Ran) where
    pub winner_first : k.first ≡ true → m' ≡ won_marks k.place n first m → r ≡ won_of tries x
        → WinnerOf tries n first x m y m' (record { ran = r; first = true })
    unfolding pick_of
    winner_first t a b = record {
      place = k.place;
      within = decided_first.within;
      picked = (λ i. record { first = sym t i; place = option_of k.place }) ∙ rw e at h;
      one = λ _. (a, b);
      other = λ f. absurd (false≢true (sym f));
    }

    pub winner_second : k.first ≡ false → m' ≡ won_marks k.place n m first → r ≡ won_of tries y
        → WinnerOf tries n first x m y m' (record { ran = r; first = false })
    unfolding pick_of
    winner_second t a b = record {
      place = k.place;
      within = decided_first.within;
      picked = (λ i. record { first = sym t i; place = option_of k.place }) ∙ rw e at h;
      one = λ f. absurd (false≢true f);
      other = λ _. (a, b);
    }
