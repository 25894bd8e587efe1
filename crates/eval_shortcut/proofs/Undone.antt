-- A node that undoes its refusals: refused, it leaves the state as it was.
use mathlib.Core.Bool.{Bool, true, false, false≢true}
use mathlib.Core.List.{List, [], ◌∷◌, ◌++◌}
use mathlib.Core.Option.{Option, some, none, some-injective, none-ne-some}
use mathlib.Core.Path.{◌≡◌, refl, sym, ◌∙◌, ap, ap₂, subst}
use Prim.Native.Nat.{ℕ, suc, ◌-◌}
use native.Mathlib.Omega.{arith}
use lib.Dec.{leb, eqb, ltb}
use lib.ListN.{length, take, drop, get_elem?, length-drop, take-append-drop}
use borrow.Author.Tests.{lt-ltb, le-ltb, eqb-true, leb-true, leb-false}
use Rattle.std.specs.Prelude.{if◌then◌else◌}
use Rattle.rules.specs.Base.{all}
use Rattle.rules.specs.Outcome.{Outcome, ok, refused, fault, ◌>>=◌, at, can_catch, or_else305, or_else307}
use Rattle.rules.specs.Value.{yes_no, text, number, BaseValue, Value, base}
use Rattle.rules.specs.Form.{read_form}
use Rattle.rules.specs.Tree.{Named, Tree, Flag, Argument, Positional, Optional, Many, Some, Count, Last, Choice, Fallback, Guard, zeros}
use Rattle.rules.specs.Split.{Item}
use Rattle.rules.specs.State.{State, Found, Picked, get, find, remove, with_current}
use Rattle.rules.specs.Take.{took, matches_arg, take_flag, value_text, take_value, take_arg}
use Rattle.rules.specs.Calls.{from_raw}
use Rattle.rules.specs.Eval.{Ran as Run, ended, after, visit, leaf, flag_value, eval_flag, parse_text, argument_value, eval_argument, picks_first, value_of, picked, chosen, eval_choice}
use Rattle.rules.specs.Eval.{eval_fallback, eval}
use Rattle.rules.proofs.Places.{left, right}
use Rattle.rules.proofs.Went.{if_holds}
use Rattle.form_layout.specs.Layout.{node_of}
use Rattle.form_layout.specs.declared.Node.{Node}
use Rattle.state_marks.specs.declared.Numbers.{Numbers}
use Rattle.state_marks.specs.Lent.{state_of, Fine}
use Rattle.eval_told.specs.declared.Ran.{Ran}
use Rattle.eval_told.specs.Told.{Told, told, answered}
use Rattle.eval_told.specs.Nodes.{tree_at}
use Rattle.eval_shortcut.specs.Stands.{Scalar}
use Rattle.eval_told.proofs.Repeats.{told_state}
use Rattle.eval_shortcut.specs.Marks.{takes_text, undoes}
use Rattle.eval_shortcut.proofs.Trees.{kind_number, flag_tree, argument_tree, choice_tree, fallback_tree, tree_number}
use Rattle.eval_shortcut.specs.Children.{NodeSays}
use Rattle.eval_shortcut.proofs.Steps.{child_told, child_left}

-- ---- a refusal leaves the first state; of any other end nothing is said
abbrev Kept : State → State → Outcome Value → Type 0
Kept s u (ok v) = Unit {0}
Kept s u (refused e) = u ≡ s
Kept s u (fault x) = Unit {0}

abbrev Undone : State → Run Value → Type 0
Undone s r = Kept s r.state r.outcome

kept_same : (s : State) (o : Outcome Value) → Kept s s o
kept_same s (ok v) = tt
kept_same s (refused e) = refl
kept_same s (fault x) = tt

-- ---- a flag, and an argument of text
module _ (k : ℕ) (is : List Item) (s : State) where
  flag_undone : (n : ℕ) (names : Named) (switch : Bool) → Undone s (eval_flag k is n names switch s)
  unfolding eval_flag take_flag leaf flag_value took ◌>>=◌
  flag_undone n names switch = go (find is (matches_arg names false) s)
    where
      gone : (o : Outcome State) → Undone s (leaf s (o >>= λ t. took true t) (flag_value n names switch))
      gone (ok u) = tt
      gone (refused e) = refl
      gone (fault x) = tt

      go :
          (o : Outcome (Option Found))
          → Undone s (leaf s (o >>= λ x. elim x [ none ↦ took false s | some j ↦ remove k s j.place >>= λ t. took true t ]) (flag_value n names switch))
      go (ok none) = kept_same s (flag_value n names switch false s)
      go (ok (some x)) = gone (remove k s x.place)
      go (refused e) = refl
      go (fault x) = tt

  argument_undone : (n : ℕ) (names : Named) (adjacent : Bool) → Undone s (eval_argument k is n names text adjacent s)
  unfolding eval_argument take_arg take_value leaf argument_value parse_text took ◌>>=◌
  argument_undone n names adjacent = go (find is (matches_arg names adjacent) s)
    where
      second : (i : ℕ) (t : List ℕ) (o : Outcome State)
          → Undone s (leaf s (o >>= λ v. took (some (record { place = i; text = t })) v) (argument_value n names text))
      second i t (ok u) = tt
      second i t (refused e) = refl
      second i t (fault x) = tt

      first : (i : ℕ) (t : List ℕ) (o : Outcome State)
          → Undone s (leaf s (o >>= λ u. remove k u i >>= λ v. took (some (record { place = i; text = t })) v) (argument_value n names text))
      first i t (ok u) = second i t (remove k u i)
      first i t (refused e) = refl
      first i t (fault x) = tt

      value : (i : ℕ) (o : Option (List ℕ)) → Undone s (leaf s (take_value k s i o) (argument_value n names text))
      value i none = refl
      value i (some t) = first (suc i) t (remove k (with_current (some (suc i)) s) i)

      go :
          (o : Outcome (Option Found))
          → Undone s (leaf s (o >>= λ x. elim x [ none ↦ took none s | some j ↦ take_value k s j.place (value_text (get is s (suc j.place))) ])
          (argument_value n names text))
      go (ok none) = kept_same s (argument_value n names text none s)
      go (ok (some x)) = value x.place (value_text (get is s (suc x.place)))
      go (refused e) = refl
      go (fault x) = tt

-- ---- a choice, and a fallback
won_kept : (s : State) (o : Option Value) (spot : _) (u : State) → Kept s u (at spot o)
unfolding at
won_kept s none spot u = tt
won_kept s (some v) spot u = tt

picked_undone : (s : State) (a b : Run Value) (p : Picked) → Undone s (picked a b p)
unfolding picked ended
picked_undone s a b p =
    if_holds (Undone s) p.first _ _
    (λ _. won_kept s (value_of a.outcome) or_else305 _)
    (λ _. won_kept s (value_of b.outcome) or_else307 _)

choice_undone : (s : State) (a b : Run Value) → Undone s (eval_choice s a b)
unfolding eval_choice chosen after ended
choice_undone s a b = go (picks_first s a.state b.state a.outcome b.outcome)
  where
    go : (o : Outcome Picked) → Undone s (elim o [ ok p ↦ picked a b p | refused e ↦ ended (refused e) s | fault x ↦ ended (fault x) s ])
    go (ok p) = picked_undone s a b p
    go (refused e) = refl
    go (fault x) = tt

fallback_undone : (v : BaseValue) (s : State) (r : Run Value) → Undone s (eval_fallback v s r)
unfolding eval_fallback after ended
fallback_undone v s r = go r.outcome
  where
    go :
        (o : Outcome Value)
        → Undone s (after r (elim o [
          | ok w ↦ ended (ok w) r.state
          | refused e ↦ ended (if can_catch e then ok (base v) else refused e) s
          | fault x ↦ ended (fault x) s
        ]))
    go (ok w) = tt
    go (refused e) = kept_same s (if can_catch e then ok (base v) else refused e)
    go (fault x) = tt

-- ---- every node that undoes its refusals
eval_undone : (k : ℕ) (is : List Item) (t : Tree) (s : State) → undoes t ≡ true → Undone s (eval k is t s)
unfolding eval visit undoes takes_text
eval_undone k is (Flag n names switch) s e = flag_undone k is s n names switch
eval_undone k is (Argument n names yes_no adjacent) s e = absurd (false≢true e)
eval_undone k is (Argument n names text adjacent) s e = argument_undone k is s n names adjacent
eval_undone k is (Argument n names number adjacent) s e = absurd (false≢true e)
eval_undone k is (Positional n q b) s e = absurd (false≢true e)
eval_undone k is (Optional c t) s e = absurd (false≢true e)
eval_undone k is (Many c t) s e = absurd (false≢true e)
eval_undone k is (Some c t) s e = absurd (false≢true e)
eval_undone k is (Count t) s e = absurd (false≢true e)
eval_undone k is (Last t) s e = absurd (false≢true e)
eval_undone k is (Choice t u) s e = choice_undone s (eval k is t s) (eval k is u s)
eval_undone k is (Fallback v t) s e = fallback_undone v s (eval k is t s)
eval_undone k is (Guard l h t) s e = absurd (false≢true e)

undone_state : (s : State) (r : Run Value) (x : Told) → told r ≡ some x → (x.number ≡ 0 → ⊥) → Undone s r → r.state ≡ s
unfolding told
undone_state s r x = go r.outcome
  where
    go :
        (o : Outcome Value)
        → told (record { outcome = o; state = r.state; tries = r.tries; trace = r.trace }) ≡ some x
        → (x.number ≡ 0 → ⊥)
        → Kept s r.state o
        → r.state ≡ s
    go (ok v) e h k = absurd (h (sym (ap (λ (y : Told). y.number) (some-injective _ x e))))
    go (refused f) e h k = k
    go (fault y) e h k = absurd (none-ne-some x e)

-- ---- equal states have equal marks
zeros_same : (l k : List ℕ) → zeros l ≡ true → zeros k ≡ true → length l ≡ length k → l ≡ k
unfolding zeros all
zeros_same [] [] a b e = refl
zeros_same [] (y ∷ k) a b e = absurd (omega arith)
zeros_same (x ∷ l) [] a b e = absurd (omega arith)
zeros_same (x ∷ l) (y ∷ k) a b e =
    ap₂ (λ (v : ℕ) (r : List ℕ). v ∷ r)
    (sym (eqb-true 0 x (left (eqb 0 x) (zeros l) a)) ∙ eqb-true 0 y (left (eqb 0 y) (zeros k) b))
    (zeros_same l k (right (eqb 0 x) (zeros l) a) (right (eqb 0 y) (zeros k) b) (omega arith))

pub marks_same : (m m' : List ℕ) (p q : Numbers) → Fine m p → Fine m' q → q.count ≡ p.count → length m' ≡ length m → state_of m' q ≡ state_of m p → m' ≡ m
unfolding state_of from_raw
marks_same m m' p q f g c l e =
    let n : ℕ = p.count in
    let front : take n m' ≡ take n m = subst (λ (i : ℕ). take i m' ≡ take n m) c (ap (λ (u : State). u.marks) e) in
    let rest : zeros (drop n m') ≡ true = subst (λ (i : ℕ). zeros (drop i m') ≡ true) c g.rest in
    let back : drop n m' ≡ drop n m = zeros_same (drop n m') (drop n m) rest f.rest (length-drop n m' ∙ ap (λ (i : ℕ). i - n) l ∙ sym (length-drop n m)) in
    sym (take-append-drop n m') ∙ ap₂ (λ (a b : List ℕ). a ++ b) front back ∙ take-append-drop n m

-- ---- over what the code knows
module _
    (b known s words m : List ℕ)
    (p : Numbers)
    (mark n : ℕ)
    (z : Scalar b known s words m p mark n)
    (m' : List ℕ)
    (ran : Ran)
    (said : NodeSays b s words m p mark n m' ran)
  where
    abbrev run : Run Value
    run = eval mark z.stands.state.items z.stands.tree (state_of m p)

    run_told : told run ≡ some (answered ran m')
    run_told = child_told b known s words m p mark n z m' ran said z.stands.state.items (z.stands.state.table, z.stands.state.same)

    -- an evaluation that left the state left the marks
    pub state_kept : run.state ≡ state_of m p → m' ≡ m
    state_kept same =
        let u = told_state run (answered ran m') run_told in
        let l = child_left b known s words m p mark n z m' ran said in
        marks_same m m' p ran.numbers z.stands.state.fine l.fine l.count l.long (sym u ∙ same)

    pub undone_same : undoes z.stands.tree ≡ true → (ran.number ≡ 0 → ⊥) → m' ≡ m
    undone_same e h =
        state_kept
        (undone_state (state_of m p) run (answered ran m') run_told h
        (eval_undone mark z.stands.state.items z.stands.tree (state_of m p) e))

    -- by the test of the code
    pub undone_by : (r : Bool) → ((t : Tree) → tree_at b n ≡ some t → r ≡ undoes t) → r ≡ true → (ran.number ≡ 0 → ⊥) → m' ≡ m
    undone_by r f e = undone_same (sym (f z.stands.tree z.stands.node) ∙ e)

-- ---- who undoes, by the node as the code reads it
text_below : (r : ℕ) → ltb r 2 ≡ takes_text (if leb 2 r then number else text)
unfolding takes_text
text_below r = go (leb 2 r) refl
  where
    go : (c : Bool) → leb 2 r ≡ c → ltb r 2 ≡ takes_text (if c then number else text)
    go true e = le-ltb r 2 (leb-true 2 r e)
    go false e = lt-ltb r 2 (leb-false 2 r e)

no_other : (t : Tree) → (kind_number t ≡ 1 → ⊥) → (kind_number t ≡ 2 → ⊥) → (kind_number t ≡ 9 → ⊥) → (kind_number t ≡ 10 → ⊥) → false ≡ undoes t
unfolding kind_number undoes
no_other (Flag n names switch) a c d e = absurd (a refl)
no_other (Argument n names b adjacent) a c d e = absurd (c refl)
no_other (Positional n q b) a c d e = refl
no_other (Optional c t) a d e f = refl
no_other (Many c t) a d e f = refl
no_other (Some c t) a d e f = refl
no_other (Count t) a c d e = refl
no_other (Last t) a c d e = refl
no_other (Choice t u) a c d e = absurd (d refl)
no_other (Fallback v t) a c d e = absurd (e refl)
no_other (Guard l h t) a c d e = refl

module _ (b : List ℕ) (n : ℕ) (y : Node) (h : get_elem? (read_form b).nodes n ≡ some (node_of y)) where
  pub undoes_flag : (node_of y).kind ≡ 1 → (t : Tree) → tree_at b n ≡ some t → true ≡ undoes t
  unfolding undoes
  undoes_flag k t e = ap undoes (flag_tree b n t e (node_of y) h k).same

  pub undoes_argument : (node_of y).kind ≡ 2 → (t : Tree) → tree_at b n ≡ some t → ltb y.r 2 ≡ undoes t
  unfolding undoes
  undoes_argument k t e = text_below y.r ∙ ap undoes (argument_tree b n t e (node_of y) h k).same

  pub undoes_choice : (node_of y).kind ≡ 9 → (t : Tree) → tree_at b n ≡ some t → true ≡ undoes t
  unfolding undoes
  undoes_choice k t e = ap undoes (choice_tree b n t e (node_of y) h k).same

  pub undoes_fallback : (node_of y).kind ≡ 10 → (t : Tree) → tree_at b n ≡ some t → true ≡ undoes t
  unfolding undoes
  undoes_fallback k t e = ap undoes (fallback_tree b n t e (node_of y) h k).single.same

  pub undoes_other : ((node_of y).kind ≡ 1 → ⊥) → ((node_of y).kind ≡ 2 → ⊥) → ((node_of y).kind ≡ 9 → ⊥) → ((node_of y).kind ≡ 10 → ⊥)
      → (t : Tree) → tree_at b n ≡ some t → false ≡ undoes t
  undoes_other a c d f t e =
      let k = sym (tree_number b n t e (node_of y) h) in
      no_other t (λ q. a (k ∙ q)) (λ q. c (k ∙ q)) (λ q. d (k ∙ q)) (λ q. f (k ∙ q))
