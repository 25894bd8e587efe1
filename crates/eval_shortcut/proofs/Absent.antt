-- A leaf or a guard over a leaf that is absent used nothing, unless refusals are caught or it is a non-strict positional.
use mathlib.Core.Bool.{Bool, true, false, ◌&&◌, false≢true}
use mathlib.Core.List.{List}
use mathlib.Core.Logic.{⊎_elim}
use mathlib.Core.Option.{Option, some, none, some-injective, none-ne-some}
use mathlib.Core.Path.{◌≡◌, refl, sym, ◌∙◌, ap, subst}
use Prim.Native.Nat.{ℕ, ◌<◌}
use native.Mathlib.Omega.{arith}
use lib.Dec.{leb, eqb}
use lib.ListN.{length, get_elem?}
use borrow.Author.Tests.{ne_eqb, eqb-true, eqb-false, lt-leb, le-leb}
use Rattle.std.specs.Prelude.{if◌then◌else◌}
use Rattle.rules.specs.Base.{contains}
use Rattle.rules.specs.Outcome.{Spot, Outcome, ok, refused, fault, take_argument679, ◌>>=◌, refuse, is_missing, can_catch}
use Rattle.rules.specs.Value.{Base, yes_no, text, number, is_yes, is_text, is_number, Value, base, absent, present, nil, cons}
use Rattle.rules.specs.Form.{read_form}
use Rattle.rules.specs.Sheet.{sheet_area}
use Rattle.rules.specs.Tree.{Named, Position, unrestricted, strict, non_strict, Tree, Flag, Argument, Positional, Optional, Many, Some, Count, Last, Choice, Fallback, Guard, position_of}
use Rattle.rules.specs.Split.{Item}
use Rattle.rules.specs.State.{State, parsed}
use Rattle.rules.specs.Take.{Took, Taken, Operand, take_arg, take_positional_word}
use Rattle.rules.specs.Calls.{from_raw}
use Rattle.rules.specs.Eval.{Ran as Run, visit, leaf, refuse_missing, not_found, number_of, parse_text, argument_value, eval_argument, wrong_position, placed_value, positional_value}
use Rattle.rules.specs.Eval.{eval_positional}
use Rattle.rules.specs.Eval.{fewer, swallowed, ended, after, ◌then◌, guarded, eval_guard, eval}
use Rattle.rules.specs.Sound.{Good, is_named, is_read, well_built}
use Rattle.rules.proofs.Nodes.{named_shown}
use Rattle.rules.proofs.Places.{left}
use Rattle.rules.proofs.StepLaws.{arg_takes, positional_takes}
use Rattle.rules.proofs.Went.{if_holds}
use Rattle.eval_structs.specs.declared.Counting.TheVariants.{Counted, Uncounted, Absent, PassedOn}
use Rattle.eval_structs.specs.Decisions.{with_remaining, option_way}
use Rattle.form_layout.specs.Layout.{node_of}
use Rattle.form_layout.specs.declared.Node.{Node as LaidOut}
use Rattle.state_marks.specs.declared.Numbers.{Numbers}
use Rattle.state_marks.specs.Lent.{state_of}
use Rattle.eval_told.specs.declared.Ran.{Ran}
use Rattle.take_search.specs.States.{Items}
use Rattle.eval_told.specs.Told.{Told, told, answered}
use Rattle.eval_told.specs.Nodes.{tree_at}
use Rattle.eval_shortcut.specs.Stands.{Scalar}
use Rattle.eval_told.proofs.Repeats.{told_state}
use Rattle.eval_combine.specs.Made.{ChildGiven, Undone, OptionalOf}
use Rattle.eval_combine.specs.declared.Optioned.{Optioned}
use Rattle.eval_shortcut.specs.Children.{Wraps, Wrapped}
use Rattle.eval_shortcut.specs.Marks.{undoes, is_non_strict, keeps_leaf, keeps_under, keeps_marks, HasTree}
use Rattle.eval_shortcut.proofs.Trees.{kind_number, sound_at, argument_tree, positional_tree, guard_tree, tree_number}
use Rattle.eval_shortcut.specs.Children.{NodeSays}
use Rattle.eval_shortcut.proofs.Steps.{child_runs, child_told, optional_given, optional_ends}
use Rattle.eval_shortcut.proofs.Undone.{state_kept, undone_same}

-- ---- refusals that are swallowed though something was used: 21 and 24

abbrev Plain : Outcome Value → Type 0
Plain (ok v) = Unit {0}
Plain (refused e) = (e.number ≡ 21 → ⊥) × (e.number ≡ 24 → ⊥)
Plain (fault x) = Unit {0}

plain_missing : (unnamed : Spot) (n : ℕ) (names : Named) (s : State) → is_named names ≡ true → Plain (not_found unnamed n names s)
unfolding not_found refuse_missing ◌>>=◌
plain_missing unnamed n names s h = rw (named_shown names h) (λ e. omega arith, λ e. omega arith)

plain_text : (b : Base) (i : ℕ) (t : List ℕ) (s : State) → Plain (parse_text b i t s)
unfolding parse_text
plain_text yes_no i t s = tt
plain_text text i t s = tt
plain_text number i t s = go (number_of t)
  where
    go : (x : Option ℕ) → Plain (elim x [ none ↦ refused (refuse 25 s.current) | some n ↦ ok (base (is_number n)) ])
    go none = (λ e. omega arith, λ e. omega arith)
    go (some x) = tt

plain_argument_lem : (n : ℕ) (names : Named) (b : Base) (x : Option Taken) (s : State) → is_named names ≡ true → Plain (argument_value n names b x s)
unfolding argument_value
plain_argument_lem n names b none s h = plain_missing take_argument679 n names s h
plain_argument_lem n names b (some x) s h = plain_text b x.place x.text s

plain_placed : (q : Position) → (q ≡ non_strict → ⊥) → (b : Base) (x : Operand) (s : State) → Plain (placed_value q b x s)
unfolding placed_value wrong_position
plain_placed unrestricted h b x s = plain_text b x.place x.text s
plain_placed strict h b x s = go x.strict
  where
    go : (w : Bool)
        → Plain (elim (wrong_position strict w) [ none ↦ parse_text b x.place x.text s | some n ↦ refused (refuse n (some x.place)) ])
    go true = plain_text b x.place x.text s
    go false = (λ e. omega arith, λ e. omega arith)
plain_placed non_strict h b x s = absurd (h refl)

plain_positional : (n : ℕ) (q : Position) → (q ≡ non_strict → ⊥) → (b : Base) (x : Option Operand) (s : State) → Plain (positional_value n q b x s)
unfolding positional_value refuse_missing
plain_positional n q h b none s = (λ e. omega arith, λ e. omega arith)
plain_positional n q h b (some x) s = plain_placed q h b x s

plain_guarded : (lo hi : ℕ) (v : Value) (s : State) → Plain (guarded lo hi v s)
unfolding guarded
plain_guarded lo hi (base (is_yes b)) s = tt
plain_guarded lo hi (base (is_text t)) s = tt
plain_guarded lo hi (base (is_number n)) s =
    if_holds Plain (leb lo n && leb n hi) _ _ (λ _. tt) (λ _. (λ e. omega arith, λ e. omega arith))
plain_guarded lo hi absent s = tt
plain_guarded lo hi (present v) s = tt
plain_guarded lo hi nil s = tt
plain_guarded lo hi (cons v w) s = tt

-- a guard's own refusal is 26
plain_guard : (lo hi : ℕ) (r : Run Value) → Plain r.outcome → Plain (eval_guard lo hi r).outcome
unfolding eval_guard ◌then◌ after ended
plain_guard lo hi r = go r.outcome
  where
    go :
        (o : Outcome Value)
        → Plain o
        → Plain (after r (elim o [
          | ok v ↦ ended (guarded lo hi v r.state) r.state
          | refused e ↦ ended (refused e) r.state
          | fault x ↦ ended (fault x) r.state
        ])).outcome
    go (ok v) p = plain_guarded lo hi v r.state
    go (refused e) p = p
    go (fault x) p = tt

-- ---- the leaves

leaf_value_lem : {A : Type 0} (s : State) (o : Outcome (Took A)) (f : A → State → Outcome Value) (t : Took A) → o ≡ ok t
    → f t.answer t.state ≡ (leaf s o f).outcome
unfolding leaf
leaf_value_lem {A} s o f t e = sym (ap (λ (x : Outcome (Took A)). (leaf s x f).outcome) e)

module _ (k : ℕ) (told : parsed k ≡ true) (is : List Item) (s : State) (g : Good (length is) s) where
  argument_plain : (n : ℕ) (names : Named) (b : Base) (adjacent : Bool) → is_named names ≡ true
      → Plain (eval k is (Argument n names b adjacent) s).outcome
  unfolding eval visit eval_argument leaf
  argument_plain n names b adjacent h =
      ⊎_elim
      (λ x. subst Plain (leaf_value_lem s (take_arg k is names adjacent s) (argument_value n names b) x.0 x.1) (plain_argument_lem n names b x.0.answer x.0.state h))
      (λ x. rw x.1 (λ e. omega arith, λ e. omega arith))
      (arg_takes k told is names adjacent s g)

  positional_plain : (n : ℕ) (q : Position) → (q ≡ non_strict → ⊥) → (b : Base) → Plain (eval k is (Positional n q b) s).outcome
  unfolding eval visit eval_positional
  positional_plain n q h b =
      let x = positional_takes k told is s g in
      subst Plain (leaf_value_lem s (take_positional_word k is s) (positional_value n q b) x.0 x.1) (plain_positional n q h b x.0.answer x.0.state)

  leaf_plain : (t : Tree) → well_built t ≡ true → keeps_leaf t ≡ false → Plain (eval k is t s).outcome
  unfolding well_built keeps_leaf is_non_strict
  leaf_plain (Flag n names switch) w e = absurd (false≢true (sym e))
  leaf_plain (Argument n names b adjacent) w e = argument_plain n names b adjacent (left (is_named names) (is_read b) w)
  leaf_plain (Positional n q b) w e = positional_plain n q (λ x. false≢true (sym e ∙ ap is_non_strict x)) b
  leaf_plain (Optional c t) w e = absurd (false≢true (sym e))
  leaf_plain (Many c t) w e = absurd (false≢true (sym e))
  leaf_plain (Some c t) w e = absurd (false≢true (sym e))
  leaf_plain (Count t) w e = absurd (false≢true (sym e))
  leaf_plain (Last t) w e = absurd (false≢true (sym e))
  leaf_plain (Choice t u) w e = absurd (false≢true (sym e))
  leaf_plain (Fallback v t) w e = absurd (false≢true (sym e))
  leaf_plain (Guard l h t) w e = absurd (false≢true (sym e))

  under_plain : (t : Tree) → well_built t ≡ true → keeps_under t ≡ false → Plain (eval k is t s).outcome
  unfolding eval visit well_built keeps_under
  under_plain (Flag n names switch) w e = absurd (false≢true (sym e))
  under_plain (Argument n names b adjacent) w e = leaf_plain (Argument n names b adjacent) w e
  under_plain (Positional n q b) w e = leaf_plain (Positional n q b) w e
  under_plain (Optional c t) w e = absurd (false≢true (sym e))
  under_plain (Many c t) w e = absurd (false≢true (sym e))
  under_plain (Some c t) w e = absurd (false≢true (sym e))
  under_plain (Count t) w e = absurd (false≢true (sym e))
  under_plain (Last t) w e = absurd (false≢true (sym e))
  under_plain (Choice t u) w e = absurd (false≢true (sym e))
  under_plain (Fallback v t) w e = absurd (false≢true (sym e))
  under_plain (Guard l h t) w e = plain_guard l h (eval k is t s) (leaf_plain t w e)

-- ---- what is decided

absent_swallowed : (n : ℕ) (catch : Bool) (given left : ℕ) (len : Option ℕ) → option_way n catch given left len ≡ Absent
    → swallowed catch (refuse n none) (with_remaining given) (with_remaining left) ≡ true
unfolding option_way
absent_swallowed n catch given left len =
    go (eqb n 0) (fewer left len) (swallowed catch (refuse n none) (with_remaining given) (with_remaining left))
  where
    go : (a f c : Bool) → (if a then (if f then Counted else Uncounted) else (if c then Absent else PassedOn)) ≡ Absent → c ≡ true
    go true true c e = let z : ◌≡◌ {A = ℕ} 0 1 = cc in absurd (omega arith)
    go true false c e = let z : ◌≡◌ {A = ℕ} 0 1 = cc in absurd (omega arith)
    go false f true e = refl
    go false f false e = let z : ◌≡◌ {A = ℕ} 0 1 = cc in absurd (omega arith)

absent_refused : (n : ℕ) (catch : Bool) (given left : ℕ) (len : Option ℕ) → option_way n catch given left len ≡ Absent → n ≡ 0 → ⊥
unfolding option_way
absent_refused n catch given left len w z = go (fewer left len) (rw z at w)
  where
    go : (f : Bool) → (if f then Counted else Uncounted) ≡ Absent → ⊥
    go true e = let z : ◌≡◌ {A = ℕ} 0 1 = cc in omega arith
    go false e = let z : ◌≡◌ {A = ℕ} 0 1 = cc in omega arith

caught_not : (n : ℕ) → (n ≡ 20 → ⊥) → (n ≡ 21 → ⊥) → (n ≡ 24 → ⊥) → can_catch (refuse n none) ≡ false
unfolding can_catch contains
caught_not n a b c = rw (ne_eqb 20 n (λ e. a (sym e)), ne_eqb 21 n (λ e. b (sym e)), ne_eqb 24 n (λ e. c (sym e)))

-- where no refusal is caught, it was missing, and used nothing
missing_unused : (n given left : ℕ) → swallowed false (refuse n none) (with_remaining given) (with_remaining left) ≡ true
    → (n ≡ 21 → ⊥) → (n ≡ 24 → ⊥) → left ≡ given
unfolding swallowed with_remaining is_missing
missing_unused n given left e h k = go (eqb n 20) refl e
  where
    go : (t : Bool) → eqb n 20 ≡ t → (if t then eqb given left else can_catch (refuse n none)) ≡ true → left ≡ given
    go true q e = sym (eqb-true given left e)
    go false q e = absurd (false≢true (sym (caught_not n (eqb-false n 20 q) h k) ∙ e))

plain_number : (r : Run Value) (x : Told) → told r ≡ some x → Plain r.outcome → (x.number ≡ 21 → ⊥) × (x.number ≡ 24 → ⊥)
unfolding told
plain_number r x = go r.outcome
  where
    go : (o : Outcome Value) → told (record { outcome = o; state = r.state; tries = r.tries; trace = r.trace }) ≡ some x → Plain o
        → (x.number ≡ 21 → ⊥) × (x.number ≡ 24 → ⊥)
    go (ok v) e p =
        let z : 0 ≡ x.number = ap (λ (y : Told). y.number) (some-injective _ x e) in
        (λ q. omega arith, λ q. omega arith)
    go (refused f) e p =
        let z : f.number ≡ x.number = ap (λ (y : Told). y.number) (some-injective _ x e) in
        (λ q. p.0 (z ∙ q), λ q. p.1 (z ∙ q))
    go (fault y) e p = absurd (none-ne-some x e)

-- ---- an absent child whose marks are not kept
module _
    (b known s words m : List ℕ)
    (p : Numbers)
    (mark n : ℕ)
    (z : Scalar b known s words m p mark n)
    (m' : List ℕ)
    (ran : Ran)
    (said : NodeSays b s words m p mark n m' ran)
  where
    abbrev tree : Tree
    tree = z.stands.tree

    abbrev items : List Item
    items = z.stands.state.items

    abbrev run : Run Value
    run = eval mark items tree (state_of m p)

    good : Good (length items) (state_of m p)
    good = subst (λ (i : ℕ). Good i (state_of m p)) (sym z.stands.state.same) z.stands.state.fine.good

    -- nothing was used, so nothing changed
    plain_same : (len : Option ℕ) → option_way ran.number false p.remaining ran.numbers.remaining len ≡ Absent
        → Plain run.outcome → m' ≡ m
    unfolding state_of from_raw
    plain_same len w e =
        let these : Items (sheet_area s) words p items = (z.stands.state.table, z.stands.state.same) in
        let t = child_told b known s words m p mark n z m' ran said items these in
        let k = plain_number run (answered ran m') t e in
        let a = absent_swallowed ran.number false p.remaining ran.numbers.remaining len w in
        let v = missing_unused ran.number p.remaining ran.numbers.remaining a k.0 k.1 in
        let u = told_state run (answered ran m') t in
        state_kept b known s words m p mark n z m' ran said
        ((child_runs b known s words m p mark n z m' ran said items these).step.still (ap (λ (q : State). q.remaining) u ∙ v))

    pub absent_same : (catch : Bool) (len : Option ℕ) → option_way ran.number catch p.remaining ran.numbers.remaining len ≡ Absent
        → keeps_marks catch tree ≡ false → m' ≡ m
    unfolding keeps_marks
    absent_same catch len w e = go (undoes tree) refl catch w e
      where
        go :
            (d : Bool) → undoes tree ≡ d → (c : Bool)
            → option_way ran.number c p.remaining ran.numbers.remaining len ≡ Absent
            → (if d then false else (if c then true else keeps_under tree)) ≡ false
            → m' ≡ m
        go true q c w e =
            undone_same b known s words m p mark n z m' ran said q (absent_refused ran.number c p.remaining ran.numbers.remaining len w)
        go false q true w e = absurd (false≢true (sym e))
        go false q false w e =
            plain_same len w
            (under_plain mark z.stands.state.told items (state_of m p) good tree (sound_at b n tree z.stands.node).built e)

    -- by the test of the code
    pub absent_by : (catch r : Bool) → ((t : Tree) → tree_at b n ≡ some t → r ≡ keeps_marks catch t) → r ≡ false
        → (len : Option ℕ) → option_way ran.number catch p.remaining ran.numbers.remaining len ≡ Absent → m' ≡ m
    absent_by catch r f e len w = absent_same catch len w (sym (f tree z.stands.node) ∙ e)

pub has_tree : (b known s words m : List ℕ) (p : Numbers) (mark n : ℕ) → Scalar b known s words m p mark n → HasTree b n
has_tree b known s words m p mark n z = record { tree = z.stands.tree; node = z.stands.node }

-- ---- an optional whose child needs no marks put back
module _
    (catch : Bool)
    (b known s words m : List ℕ)
    (p : Numbers)
    (mark n : ℕ)
    (z : Wraps (Optional catch) b known s words m p mark n)
    (r : Bool)
    (f : (t : Tree) → tree_at b n ≡ some t → r ≡ keeps_marks catch t)
    (e : r ≡ false)
    (m' : List ℕ)
    (ran : Ran)
    (said : NodeSays b s words m p mark n m' ran)
  where
    pub optional_short : ran.len < 1000
    optional_short = (optional_given catch b known s words m p mark n z m' ran said).short

    pub optional_unchanged :
        (o : Optioned)
        → ((before m₁ : List ℕ) → ChildGiven before p m₁ ran → Undone catch before p m₁ ran → OptionalOf catch before p ran m₁ m₁ o)
        → Wrapped (Optional catch) mark b s words n m p m' o.ran
    optional_unchanged o h =
        optional_ends catch b known s words m p mark n z m' ran said m' o
        (h m m' (optional_given catch b known s words m p mark n z m' ran said)
        (absent_by b known s words m p mark n z.below m' ran said catch r f e none))

-- ---- whose marks are kept, by the node as the code reads it
leaf_place : (p : ℕ) → leb 2 p ≡ is_non_strict (position_of p)
unfolding position_of is_non_strict
leaf_place p = go (eqb p 0) refl (eqb p 1) refl
  where
    go : (c : Bool) → eqb p 0 ≡ c → (d : Bool) → eqb p 1 ≡ d → leb 2 p ≡ is_non_strict (if c then unrestricted else (if d then strict else non_strict))
    go true c d e = let i = eqb-true p 0 c in lt-leb 2 p (omega arith)
    go false c true e = let i = eqb-true p 1 e in lt-leb 2 p (omega arith)
    go false c false e = let i = eqb-false p 0 c in let j = eqb-false p 1 e in le-leb 2 p (omega arith)

no_leaf : (t : Tree) → (kind_number t ≡ 3 → ⊥) → (kind_number t ≡ 2 → ⊥) → true ≡ keeps_leaf t
unfolding kind_number keeps_leaf
no_leaf (Flag n names switch) a c = refl
no_leaf (Argument n names b adjacent) a c = absurd (c refl)
no_leaf (Positional n q b) a c = absurd (a refl)
no_leaf (Optional c t) a d = refl
no_leaf (Many c t) a d = refl
no_leaf (Some c t) a d = refl
no_leaf (Count t) a c = refl
no_leaf (Last t) a c = refl
no_leaf (Choice t u) a c = refl
no_leaf (Fallback v t) a c = refl
no_leaf (Guard l h t) a c = refl

no_guard : (t : Tree) → (kind_number t ≡ 11 → ⊥) → keeps_leaf t ≡ keeps_under t
unfolding kind_number keeps_leaf keeps_under
no_guard (Flag n names switch) a = refl
no_guard (Argument n names b adjacent) a = refl
no_guard (Positional n q b) a = refl
no_guard (Optional c t) a = refl
no_guard (Many c t) a = refl
no_guard (Some c t) a = refl
no_guard (Count t) a = refl
no_guard (Last t) a = refl
no_guard (Choice t u) a = refl
no_guard (Fallback v t) a = refl
no_guard (Guard l h t) a = absurd (a refl)

module _ (b : List ℕ) (n : ℕ) (y : LaidOut) (h : get_elem? (read_form b).nodes n ≡ some (node_of y)) where
  pub leaf_positional : (node_of y).kind ≡ 3 → (t : Tree) → tree_at b n ≡ some t → leb 2 y.p ≡ keeps_leaf t
  unfolding keeps_leaf
  leaf_positional k t e = leaf_place y.p ∙ ap keeps_leaf (positional_tree b n t e (node_of y) h k).1

  pub leaf_argument : (node_of y).kind ≡ 2 → (t : Tree) → tree_at b n ≡ some t → false ≡ keeps_leaf t
  unfolding keeps_leaf
  leaf_argument k t e = ap keeps_leaf (argument_tree b n t e (node_of y) h k).same

  pub leaf_other : ((node_of y).kind ≡ 3 → ⊥) → ((node_of y).kind ≡ 2 → ⊥) → (t : Tree) → tree_at b n ≡ some t → true ≡ keeps_leaf t
  leaf_other a c t e =
      let k = sym (tree_number b n t e (node_of y) h) in
      no_leaf t (λ q. a (k ∙ q)) (λ q. c (k ∙ q))

module _ (b : List ℕ) (n : ℕ) (u : Bool) (f : (t : Tree) → tree_at b n ≡ some t → u ≡ undoes t) (catch : Bool) where
  pub keeps_undone : u ≡ true → (t : Tree) → tree_at b n ≡ some t → false ≡ keeps_marks catch t
  unfolding keeps_marks
  keeps_undone e t q = rw (← f t q, e)

  pub keeps_caught : u ≡ false → catch ≡ true → (t : Tree) → tree_at b n ≡ some t → true ≡ keeps_marks catch t
  unfolding keeps_marks
  keeps_caught e c t q = rw (← f t q, e, c)

  module _ (e : u ≡ false) (c : catch ≡ false) where
    keeps_by : (t : Tree) → tree_at b n ≡ some t → keeps_under t ≡ keeps_marks catch t
    unfolding keeps_marks
    keeps_by t q = rw (← f t q, e, c)

    module _ (y : LaidOut) (h : get_elem? (read_form b).nodes n ≡ some (node_of y)) where
      pub keeps_guard : (node_of y).kind ≡ 11 → (r : Bool) → ((t : Tree) → tree_at b y.p ≡ some t → r ≡ keeps_leaf t)
          → (t : Tree) → tree_at b n ≡ some t → r ≡ keeps_marks catch t
      unfolding keeps_under
      keeps_guard k r g t q =
          let w = guard_tree b n t q (node_of y) h k in
          g w.child w.node ∙ ap keeps_under w.same ∙ keeps_by t q

      pub keeps_other : ((node_of y).kind ≡ 11 → ⊥) → (r : Bool) → ((t : Tree) → tree_at b n ≡ some t → r ≡ keeps_leaf t)
          → (t : Tree) → tree_at b n ≡ some t → r ≡ keeps_marks catch t
      keeps_other a r g t q =
          g t q ∙ no_guard t (λ w. a (sym (tree_number b n t q (node_of y) h) ∙ w)) ∙ keeps_by t q
