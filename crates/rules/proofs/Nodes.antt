-- Every kind of node but repeats and choices: from what holds of its child's run to what holds of its own.
use mathlib.Core.Bool.{Bool, true, false, not, ◌&&◌, false≢true}
use mathlib.Core.List.{List, [], ◌∷◌}
use mathlib.Core.Logic.{⊎_elim}
use mathlib.Core.Option.{Option, some, none, some-injective, none-ne-some}
use mathlib.Core.Path.{◌≡◌, refl, subst}
use Prim.Native.Nat.{ℕ, ◌+◌, ◌≤◌}
use native.Mathlib.Nat.{le_trans}
use native.Mathlib.Omega.{arith}
use lib.Dec.{leb, eqb}
use borrow.Author.Tests.{leb-true}
use lib.ListN.{length}
use Rattle.std.specs.Prelude.{if◌then◌else◌}
use Rattle.rules.specs.Base.{is_some, null, all, ◌>>?◌}
use Rattle.rules.specs.Outcome.{Spot, Outcome, ok, refused, fault, parse_flag559, take_argument679, ◌>>=◌, at, can_catch, refuse}
use Rattle.rules.specs.Value.{Base, yes_no, text, number, Kind, one, item, BaseValue, is_yes, is_text, is_number, Value, base, absent, present, nil, cons, base_number, same_base, base_of}
use Rattle.rules.specs.Value.{is_base, has_kind, size, of_kind, bases_of}
use Rattle.rules.specs.Tree.{Named, Position, unrestricted, strict, non_strict, Tree, Flag, Argument, Positional, Optional, Fallback, Guard, kind_of, has_repeat, optional_kind, base_kind}
use Rattle.rules.specs.Split.{Item}
use Rattle.rules.specs.State.{State, parsed}
use Rattle.rules.specs.Take.{Took, Taken, Operand}
use Rattle.rules.specs.Eval.{Ran, ended, after, ◌then◌, visit, leaf, refuse_missing, shown_name, not_found, flag_value, eval_flag, unsigned, number_of, digits, is_digit, parse_text}
use Rattle.rules.specs.Eval.{argument_value, eval_argument, wrong_position, placed_value, positional_value, eval_positional, fewer, swallowed, parse_option, eval_optional, eval_fallback}
use Rattle.rules.specs.Eval.{guarded, eval_guard}
use Rattle.rules.specs.Demands.{All, Faultless}
use Rattle.rules.specs.Sound.{Good, leaves, is_named, is_read}
use Rattle.rules.proofs.Acceptance.{All-append, if_some, and-true}
use Rattle.rules.proofs.Steps.{Step, inner, EndsOne, most, Visited, Runs}
use Rattle.rules.proofs.StepLaws.{step_refl, TextAt, TakenAt, OperandAt, flag_takes, arg_takes, positional_takes}
use Rattle.rules.proofs.Went.{if_holds, Fine, Went, after_ended, then_ended}
use Rattle.rules.proofs.KindLaws.{absent_kind, present_kind, base_kind_lem, base_own}

-- ---- a value of a kind, with lists of at most m elements, where M is what base values mean
abbrev pub Fits : (BaseValue → Type 0) → ℕ → Option Kind → Value → Type 0
Fits M m k v = (of_kind k v ≡ true) × (size v ≤ m) × (size (inner v) ≤ m) × All M (bases_of v)

pub fits_more : (M : BaseValue → Type 0) (m l : ℕ) (k : Option Kind) → m ≤ l → (v : Value) → Fits M m k v → Fits M l k v
fits_more M m l k e v f = (f.0, le_trans f.1 e, le_trans f.2 e, f.3)

-- an evaluation of a node
pub record Evaluated (M : BaseValue → Type 0) (n : ℕ) (t : Tree) (s : State) (r : Ran Value) : Type 0 where
  pub went : Went M n 26 (Fits M (s.remaining + 1) (kind_of t)) s (most t s.remaining) r

-- what base values mean holds of yes and no, of what is read from items, and of the lengths of lists
pub record Meaning (is : List Item) (M : BaseValue → Type 0) : Type 0 where
  pub yes : (b : Bool) → M (is_yes b)
  pub read : (n : ℕ) → n ≤ 4294967295 → M (is_number n)
  pub count : (n : ℕ) → n ≤ length is + 1 → M (is_number n)
  pub text : (i : ℕ) → TextAt is i → M (is_text (item i))

-- ---- the records that do not speak of what values mean
pub fine_ends : (M : BaseValue → Type 0) (m : ℕ) (k : Option Kind) (o : Outcome Value) → Fine 26 (Fits M m k) o → EndsOne m k o
fine_ends M m k (ok v) e = (e.0, e.1, e.2)
fine_ends M m k (refused x) e = e
fine_ends M m k (fault x) e = e

pub went_runs : {M : BaseValue → Type 0} {n : ℕ} {t : Tree} {s : State} {r : Ran Value} → Evaluated M n t s r → Runs n t s r
went_runs {M} {r} w = let x = w.went in record { step = x.step; ends = fine_ends M _ _ r.outcome x.ends; cost = x.cost }

-- ---- every evaluation is kept in the trace
fine_faultless : (M : BaseValue → Type 0) (m : ℕ) (k : Option Kind) (o : Outcome Value) → Fine 26 (Fits M m k) o → Faultless M k o
fine_faultless M m k (ok v) e = (e.0, e.3)
fine_faultless M m k (refused x) e = tt
fine_faultless M m k (fault x) e = e

pub visit_sound : {M : BaseValue → Type 0} {n : ℕ} (t : Tree) {s : State} {r : Ran Value} → Good n s → Evaluated M n t s r → Evaluated M n t s (visit t s r)
unfolding visit
visit_sound {M} {n} t {s} {r} g e =
    let w = e.went in
    let end = fine_faultless M (s.remaining + 1) (kind_of t) r.outcome w.ends in
    record {
      went = record {
        step = w.step;
        ends = w.ends;
        passed = All-append (Visited M n) r.trace _ w.passed (record { given = g; left = w.step.good; faultless = end }, tt);
        cost = w.cost;
      };
    }

-- ---- kinds 1 to 3
pub leaf_went :
    {A : Type 0} {M : BaseValue → Type 0} {n : ℕ} {P : Value → Type 0} {s : State} {o : Outcome (Took A)} {t : Took A}
    (follows : A → State → Outcome Value)
    → o ≡ ok t
    → Step n s t.state
    → Fine 26 P (follows t.answer t.state)
    → Went M n 26 P s 1 (leaf s o follows)
unfolding leaf
leaf_went follows e u p = rw e (record { step = u; ends = p; passed = tt; cost = omega arith })

pub named_shown : (m : Named) → is_named m ≡ true → shown_name m ≡ ok true
unfolding is_named shown_name null at ◌>>=◌
named_shown m h = go m.shorts m.longs h
  where
    go :
        (a : List ℕ) (b : List (List ℕ))
        → is_named (record { shorts = a; longs = b }) ≡ true
        → shown_name (record { shorts = a; longs = b }) ≡ ok true
    go [] [] h = absurd (false≢true h)
    go [] (y ∷ b) h = refl
    go (x ∷ a) [] h = refl
    go (x ∷ a) (y ∷ b) h = refl

-- a number that is read is below 2^32
unsigned_small : (s : List ℕ) (n : ℕ) → unsigned s ≡ some n → n ≤ 4294967295
unfolding unsigned
unsigned_small s n e =
    let p = if_some (not (null s) && all is_digit s && leb (digits 0 s) 4294967295) (some (digits 0 s)) e in
    let q = and-true (not (null s) && all is_digit s) (leb (digits 0 s) 4294967295) p.0 in
    subst (λ (k : ℕ). k ≤ 4294967295) (some-injective (digits 0 s) n p.1) (leb-true (digits 0 s) 4294967295 q.1)

number_small : (s : List ℕ) (n : ℕ) → number_of s ≡ some n → n ≤ 4294967295
unfolding number_of
number_small [] n e = absurd (none-ne-some n e)
number_small (b ∷ s) n e = go (eqb b 43) e
  where
    go : (p : Bool) → (if p then unsigned s else unsigned (b ∷ s)) ≡ some n → n ≤ 4294967295
    go true e = unsigned_small s n e
    go false e = unsigned_small (b ∷ s) n e

-- 23 and 24
position_number : (p : Position) (w : Bool) (n : ℕ) → wrong_position p w ≡ some n → (20 ≤ n) × (n ≤ 26)
unfolding wrong_position
position_number unrestricted w n h = absurd (none-ne-some n h)
position_number strict true n h = absurd (none-ne-some n h)
position_number strict false n h = let q = some-injective 23 n h in omega arith
position_number non_strict true n h = let q = some-injective 24 n h in omega arith
position_number non_strict false n h = absurd (none-ne-some n h)

module _ (is : List Item) (M : BaseValue → Type 0) (means : Meaning is M) (m : ℕ) where
  base_fits : (v : BaseValue) → M v → Fits M m (some (one (base_of v))) (base v)
  unfolding of_kind has_kind size bases_of
  base_fits v h = (base_own v, omega arith, omega arith, (h, tt))

  not_found_fine :
      (k : Option Kind) (spot : Spot) (n : ℕ) (names : Named) (s : State)
      → is_named names ≡ true
      → Fine 26 (Fits M m k) (not_found spot n names s)
  unfolding not_found refuse_missing ◌>>=◌
  not_found_fine k spot n names s h = rw (named_shown names h) (omega arith)

  flag_fine :
      (n : ℕ) (names : Named) (switch there : Bool) (s : State)
      → is_named names ≡ true
      → Fine 26 (Fits M m (some (one yes_no))) (flag_value n names switch there s)
  unfolding flag_value base_of
  flag_fine n names switch there s h =
      if_holds (Fine 26 (Fits M m (some (one yes_no)))) there _ _
      (λ _. base_fits (is_yes true) (means.yes true))
      (λ _. if_holds (Fine 26 (Fits M m (some (one yes_no)))) switch _ _
      (λ _. base_fits (is_yes false) (means.yes false))
      (λ _. not_found_fine (some (one yes_no)) parse_flag559 n names s h))

  text_fine :
      (b : Base) (i : ℕ) (t : List ℕ) (s : State)
      → is_read b ≡ true
      → TextAt is i
      → Fine 26 (Fits M m (some (one b))) (parse_text b i t s)
  unfolding parse_text is_read base_of
  text_fine yes_no i t s e h = absurd (false≢true e)
  text_fine text i t s e h = base_fits (is_text (item i)) (means.text i h)
  text_fine number i t s e h = go (number_of t) refl
    where
      go :
          (x : Option ℕ)
          → number_of t ≡ x
          → Fine 26 (Fits M m (some (one number))) (elim x [ none ↦ refused (refuse 25 s.current) | some n ↦ ok (base (is_number n)) ])
      go none z = omega arith
      go (some x) z = base_fits (is_number x) (means.read x (number_small t x z))

  argument_fine :
      (n : ℕ) (names : Named) (b : Base) (x : Option Taken) (s : State)
      → is_named names ≡ true
      → is_read b ≡ true
      → TakenAt is x
      → Fine 26 (Fits M m (some (one b))) (argument_value n names b x s)
  unfolding argument_value
  argument_fine n names b none s h e z = not_found_fine (some (one b)) take_argument679 n names s h
  argument_fine n names b (some x) s h e z = text_fine b x.place x.text s e z

  placed_fine :
      (p : Position) (b : Base) (x : Operand) (s : State)
      → is_read b ≡ true
      → TextAt is x.place
      → Fine 26 (Fits M m (some (one b))) (placed_value p b x s)
  unfolding placed_value
  placed_fine p b x s e z = go (wrong_position p x.strict) refl
    where
      go :
          (o : Option ℕ)
          → wrong_position p x.strict ≡ o
          → Fine 26 (Fits M m (some (one b))) (elim o [ none ↦ parse_text b x.place x.text s | some n ↦ refused (refuse n (some x.place)) ])
      go none h = text_fine b x.place x.text s e z
      go (some n) h = position_number p x.strict n h

  positional_fine :
      (n : ℕ) (p : Position) (b : Base) (x : Option Operand) (s : State)
      → is_read b ≡ true
      → OperandAt is x
      → Fine 26 (Fits M m (some (one b))) (positional_value n p b x s)
  unfolding positional_value refuse_missing
  positional_fine n p b none s e z = omega arith
  positional_fine n p b (some x) s e z = placed_fine p b x s e z

module _
    (k : ℕ) (p : parsed k ≡ true) (is : List Item) (M : BaseValue → Type 0) (means : Meaning is M) (s : State)
    (g : Good (length is) s)
  where
    pub flag_sound :
        (n : ℕ) (m : Named) (switch : Bool)
        → is_named m ≡ true
        → Evaluated M (length is) (Flag n m switch) s (eval_flag k is n m switch s)
    unfolding eval_flag kind_of most has_repeat leaves
    flag_sound n m switch h =
        let x = flag_takes k p is m s g in
        let f = flag_fine is M means _ n m switch x.0.answer x.0.state h in
        record { went = leaf_went (flag_value n m switch) x.1 x.2 f }

    pub argument_sound :
        (n : ℕ) (m : Named) (b : Base) (adjacent : Bool)
        → is_named m ≡ true
        → is_read b ≡ true
        → Evaluated M (length is) (Argument n m b adjacent) s (eval_argument k is n m b adjacent s)
    unfolding eval_argument kind_of most has_repeat leaves leaf
    argument_sound n m b adjacent h e =
        ⊎_elim
        (λ x. let f = argument_fine is M means _ n m b x.0.answer x.0.state h e x.3 in
        record { went = leaf_went (argument_value n m b) x.1 x.2 f })
        (λ x. rw x.1 (record { went = record { step = step_refl g; ends = omega arith; passed = tt; cost = omega arith } }))
        (arg_takes k p is m adjacent s g)

    pub positional_sound :
        (n : ℕ) (q : Position) (b : Base)
        → is_read b ≡ true
        → Evaluated M (length is) (Positional n q b) s (eval_positional k is n q b s)
    unfolding eval_positional kind_of most has_repeat leaves
    positional_sound n q b e =
        let x = positional_takes k p is s g in
        let f = positional_fine is M means _ n q b x.0.answer x.0.state e x.3 in
        record { went = leaf_went (positional_value n q b) x.1 x.2 f }

-- ---- `parse_option`: a value only where fewer places remain
abbrev pub Optioned : (Value → Type 0) → Option ℕ → State → Option Value → Type 0
Optioned P len u none = Unit {0}
Optioned P len u (some v) = P v × (fewer u.remaining len ≡ true)

module _
    {M : BaseValue → Type 0} {n : ℕ} {P : Value → Type 0} {s : State} {c : ℕ} (catch : Bool) (len : Option ℕ) (r : Ran Value)
    (g : Good n s)
    (w : Went M n 26 P s c r)
  where
    optioned : Outcome Value → Ran (Option Value)
    optioned o = elim o [
      | ok v ↦ ended (ok (if fewer r.state.remaining len then some v else none)) r.state
      | refused e ↦ if swallowed catch e s r.state then ended (ok none) s else ended (refused e) r.state
      | fault x ↦ ended (fault x) r.state
    ]

    Q : Ran (Option Value) → Type 0
    Q q = Went M n 26 (Optioned P len q.state) s c (after r q)

    counted : (v : Value) (b : Bool) → P v → fewer r.state.remaining len ≡ b → Q (ended (ok (if b then some v else none)) r.state)
    unfolding Q ended
    counted v true f e = after_ended r.state (ok (some v)) w w.step (f, e)
    counted v false f e = after_ended r.state (ok none) w w.step tt

    option_ends : (o : Outcome Value) → Fine 26 P o → Q (optioned o)
    unfolding Q optioned ended
    option_ends (ok v) f = counted v (fewer r.state.remaining len) f refl
    option_ends (refused e) f =
        if_holds Q (swallowed catch e s r.state) (ended (ok none) s) (ended (refused e) r.state)
        (λ _. after_ended s (ok none) w (step_refl g) tt)
        (λ _. after_ended r.state (refused e) w w.step f)
    option_ends (fault x) f = absurd f

    pub option_went : Went M n 26 (Optioned P len (parse_option catch len s r).state) s c (parse_option catch len s r)
    unfolding Q optioned parse_option after
    option_went = option_ends r.outcome w.ends

module _ {M : BaseValue → Type 0} {n : ℕ} {t : Tree} {s : State} {r : Ran Value} (g : Good n s) (child : Evaluated M n t s r) where
  pub optional_sound : (catch : Bool) → is_some (kind_of (Optional catch t)) ≡ true → Evaluated M n (Optional catch t) s (eval_optional catch s r)
  unfolding eval_optional kind_of most has_repeat leaves size bases_of
  optional_sound catch e = record { went = then_ended _ (option_went catch none r g child.went) fits }
    where
      m : ℕ
      m = s.remaining + 1

      fits :
          (v : Option Value)
          → Optioned (Fits M m (kind_of t)) none (parse_option catch none s r).state v
          → Fits M m (kind_of t >>? optional_kind) (elim v [ none ↦ absent | some x ↦ present x ])
      fits none p = (absent_kind (kind_of t) e, omega arith, omega arith, tt)
      fits (some v) p = (present_kind (kind_of t) v e p.0.0, omega arith, p.0.1, p.0.3)

  pub fallback_sound : (v : BaseValue) → M v → is_some (kind_of (Fallback v t)) ≡ true → Evaluated M n (Fallback v t) s (eval_fallback v s r)
  unfolding eval_fallback kind_of most has_repeat leaves of_kind has_kind size bases_of
  fallback_sound v h e = record { went = go r.outcome child.went.ends }
    where
      w : Went M n 26 (Fits M (s.remaining + 1) (kind_of t)) s (most t s.remaining) r
      w = child.went

      K : Option Kind
      K = kind_of t >>? base_kind (base_of v)

      P : Value → Type 0
      P = Fits M (s.remaining + 1) K

      caught : of_kind K (base v) ≡ true
      caught = let k = base_kind_lem (base_of v) (kind_of t) e in rw (k.0, k.1) (base_own v)

      rest : Outcome Value → Ran Value
      rest o = elim o [
        | ok w ↦ ended (ok w) r.state
        | refused e ↦ ended (if can_catch e then ok (base v) else refused e) s
        | fault x ↦ ended (fault x) s
      ]

      go : (o : Outcome Value) → Fine 26 (Fits M (s.remaining + 1) (kind_of t)) o → Went M n 26 P s (most t s.remaining) (after r (rest o))
      go (ok x) f = after_ended r.state (ok x) w w.step (rw (base_kind_lem (base_of v) (kind_of t) e).0 f)
      go (refused x) f =
          after_ended s _ w (step_refl g)
          (if_holds (Fine 26 P) (can_catch x) (ok (base v)) (refused x) (λ _. (caught, omega arith, omega arith, (h, tt))) (λ _. f))
      go (fault x) f = absurd f

-- only a number passes, and stays as it is
guarded_fine :
    (M : BaseValue → Type 0) (m lo hi : ℕ) (v : Value) (s : State)
    → Fits M m (some (one number)) v
    → Fine 26 (Fits M m (some (one number))) (guarded lo hi v s)
unfolding guarded of_kind has_kind is_base same_base base_of base_number
guarded_fine M m lo hi (base (is_yes b)) s f = absurd (false≢true f.0)
guarded_fine M m lo hi (base (is_text t)) s f = absurd (false≢true f.0)
guarded_fine M m lo hi (base (is_number n)) s f =
    if_holds (Fine 26 (Fits M m (some (one number)))) (leb lo n && leb n hi) (ok (base (is_number n))) (refused (refuse 26 s.current))
    (λ _. f)
    (λ _. omega arith)
guarded_fine M m lo hi absent s f = absurd (false≢true f.0)
guarded_fine M m lo hi (present v) s f = absurd (false≢true f.0)
guarded_fine M m lo hi nil s f = absurd (false≢true f.0)
guarded_fine M m lo hi (cons v w) s f = absurd (false≢true f.0)

pub guard_sound :
    {M : BaseValue → Type 0} {n : ℕ} {t : Tree} {s : State} {r : Ran Value} (lo hi : ℕ)
    → Evaluated M n t s r
    → is_some (kind_of (Guard lo hi t)) ≡ true
    → Evaluated M n (Guard lo hi t) s (eval_guard lo hi r)
unfolding eval_guard kind_of most has_repeat leaves
guard_sound {M} {t} {s} {r} lo hi w e =
    let k = base_kind_lem number (kind_of t) e in
    record {
      went = then_ended (guarded lo hi) w.went
          (λ v f. rw (k.0, k.1) (guarded_fine M (s.remaining + 1) lo hi v r.state (rw k.1 at f)));
    }
