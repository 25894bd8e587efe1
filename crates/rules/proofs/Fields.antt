-- The run of all fields: how it ends, its tries, and at most 515 words for each value.
use mathlib.Core.Bool.{true}
use mathlib.Core.List.{List, [], ◌∷◌}
use mathlib.Core.Option.{Option, some, none}
use mathlib.Core.Path.{◌≡◌, refl, ap}
use Prim.Native.Nat.{ℕ, suc, ◌+◌, ◌-◌, ◌*◌, ◌≤◌}
use native.Mathlib.Nat.{mul-le-mul_right, mul-add, le_trans, le_refl}
use native.Mathlib.Omega.{arith}
use lib.ListN.{length, length-append}
use borrow.Author.Tests.{le-leb}
use Rattle.rules.specs.Outcome.{Outcome, ok, refused, fault, ◌>>=◌}
use Rattle.rules.specs.Value.{BaseValue, Value, size, words, answer_words}
use Rattle.rules.specs.Tree.{Tree, kind_of, has_repeat}
use Rattle.rules.specs.Split.{Item}
use Rattle.rules.specs.State.{State, Found, marker_mark, field_mark, parsed, first}
use Rattle.rules.specs.Eval.{Ran, ended, ◌then◌, eval}
use Rattle.rules.specs.Run.{run_fields, left_over, run_all}
use Rattle.rules.specs.Demands.{All, OnePerField, Ends}
use Rattle.rules.specs.Sound.{Good, leaves, all_leaves, Sound}
use Rattle.rules.proofs.Steps.{Step, inner, most, Visited}
use Rattle.rules.proofs.StepLaws.{step_refl, first_found, remaining_within}
use Rattle.rules.proofs.Went.{if_holds, all_weaker, Fine, Went, went_weaker, went_cost, ended_went, then_went, then_ended}
use Rattle.rules.proofs.Nodes.{Fits, Meaning}
use Rattle.rules.proofs.EvalSound.{Any, any_meaning, all_any, fallbacks, eval_means}
use Rattle.rules.proofs.ValueWords.{words_515}

-- ---- values for fields
-- lists of at most m elements
abbrev pub Small : ℕ → Value → Type 0
Small m v = (size v ≤ m) × (size (inner v) ≤ m)

abbrev pub FieldsFit : (BaseValue → Type 0) → ℕ → List Tree → List Value → Type 0
FieldsFit M m ts vs = OnePerField M ts vs × All (Small m) vs

-- at most 515 words
abbrev pub Short : Value → Type 0
Short v = length (words v) ≤ 515

pub fields_short : (M : BaseValue → Type 0) (m : ℕ) (ts : List Tree) (vs : List Value) → m ≤ 257 → FieldsFit M m ts vs → All Short vs
fields_short M m [] [] h f = tt
fields_short M m [] (v ∷ vs) h f = absurd f.0
fields_short M m (t ∷ ts) [] h f = absurd f.0
fields_short M m (t ∷ ts) (v ∷ vs) h f =
    let small = f.1.0 in
    (words_515 (kind_of t) v f.0.0.0 (le_trans small.0 h) (le_trans small.1 h), fields_short M m ts vs h (f.0.1, f.1.1))

pub fields_count : (M : BaseValue → Type 0) (ts : List Tree) (vs : List Value) → OnePerField M ts vs → length vs ≡ length ts
fields_count M [] [] f = refl
fields_count M [] (v ∷ vs) f = absurd f
fields_count M (t ∷ ts) [] f = absurd f
fields_count M (t ∷ ts) (v ∷ vs) f = ap suc (fields_count M ts vs f.1)

pub short_answers : (vs : List Value) → All Short vs → length (answer_words vs) ≤ 515 * length vs
unfolding answer_words
short_answers [] p = omega arith
short_answers (v ∷ vs) p = omega (arith, length-append (words v) (answer_words vs), p.0, short_answers vs p.1)

-- ---- the fields in order
pub most_leaves : (t : Tree) (r : ℕ) → most t r ≤ (r + 2) * leaves t
unfolding most
most_leaves t r = if_holds (λ (x : ℕ). x ≤ (r + 2) * leaves t) (has_repeat t) _ _ (λ _. le_refl _) (λ _. omega arith)

-- the fallbacks of all fields mean something
abbrev pub AllMean : (BaseValue → Type 0) → List Tree → Type 0
AllMean M ts = All (λ (t : Tree). All M (fallbacks t)) ts

pub field_parsed : (k : ℕ) → parsed (field_mark k) ≡ true
unfolding parsed field_mark marker_mark
field_parsed k = le-leb 510 (512 + k) (omega arith)

-- by the number that the code has
pub mark_parsed : (k m : ℕ) → m ≡ field_mark k → parsed m ≡ true
mark_parsed k m e = rw e (field_parsed k)

module _ (is : List Item) (M : BaseValue → Type 0) (means : Meaning is M) where
  pub fields_sound :
      (k : ℕ) (ts : List Tree)
      → All Sound ts
      → AllMean M ts
      → (s : State)
      → Good (length is) s
      → Went M (length is) 26 (FieldsFit M (s.remaining + 1) ts) s ((s.remaining + 2) * all_leaves ts) (run_fields k is ts s)
  unfolding run_fields all_leaves
  fields_sound k [] z y s g = went_cost (omega arith) (ended_went s (ok []) (step_refl g) (tt, tt))
  fields_sound k (t ∷ ts) z y s g = first_field (λ u h. fields_sound (suc k) ts z.1 y.1 u h)
    where
      n : ℕ
      n = length is

      m : ℕ
      m = s.remaining + 1

      r : Ran Value
      r = eval (field_mark k) is t s

      w : Went M n 26 (Fits M m (kind_of t)) s (most t s.remaining) r
      w = (eval_means (field_mark k) (field_parsed k) is M means t z.0 y.0 s g).went

      small : (vs : List Value) → All (Small (r.state.remaining + 1)) vs → All (Small m) vs
      small vs = all_weaker _ (Small m) vs (λ v h. let f = w.step.fewer in omega (arith, h.0, h.1))

      first_field :
          ((u : State) → Good n u → Went M n 26 (FieldsFit M (u.remaining + 1) ts) u ((u.remaining + 2) * all_leaves ts) (run_fields (suc k) is ts u))
          → Went M n 26 (FieldsFit M m (t ∷ ts)) s ((s.remaining + 2) * (leaves t + all_leaves ts))
          (r then λ v u. run_fields (suc k) is ts u then λ vs w. ended (ok (v ∷ vs)) w)
      first_field rest =
          let f = w.step.fewer in
          went_cost (omega (arith, most_leaves t s.remaining, mul-add (s.remaining + 2) (leaves t) (all_leaves ts)))
          (then_went {d = (s.remaining + 2) * all_leaves ts} _ w
          (λ v x. went_cost (mul-le-mul_right (all_leaves ts) (omega arith))
          (then_ended (λ vs u. ok (v ∷ vs)) (rest r.state w.step.good) (λ vs q. (((x.0, x.3), q.0), ((x.1, x.2), small vs q.1))))))

-- ---- then 27 if a place is left
-- what holds of the run of all fields over n items
pub record RunsAll (M : BaseValue → Type 0) (n : ℕ) (ts : List Tree) (s : State) (r : Ran (List Value)) : Type 0 where
  pub step : Step n s r.state
  pub ends : Ends M ts r.outcome
  pub passed : All (Visited M n) r.trace
  pub cost : r.tries ≤ (s.remaining + 2) * all_leaves ts
  pub each : (vs : List Value) → r.outcome ≡ ok vs → n ≤ 256 → All Short vs
  pub words : (vs : List Value) → r.outcome ≡ ok vs → n ≤ 256 → length (answer_words vs) ≤ 515 * length ts

-- a run of fields, with refusals up to 27
pub went_all :
    (M : BaseValue → Type 0) (n : ℕ) (ts : List Tree) (s : State) (r : Ran (List Value))
    → Good n s
    → Went M n 27 (FieldsFit M (s.remaining + 1) ts) s ((s.remaining + 2) * all_leaves ts) r
    → RunsAll M n ts s r
went_all M n ts s r g w =
    record {
      step = w.step;
      ends = go r.outcome w.ends;
      passed = w.passed;
      cost = w.cost;
      each = each;
      words = λ vs e h. rw (fields_count M ts vs (fit vs e).0) at (short_answers vs (each vs e h));
    }
  where
    fit : (vs : List Value) → r.outcome ≡ ok vs → FieldsFit M (s.remaining + 1) ts vs
    fit vs e = rw e at w.ends

    each : (vs : List Value) → r.outcome ≡ ok vs → n ≤ 256 → All Short vs
    each vs e h = fields_short M (s.remaining + 1) ts vs (omega (arith, remaining_within n s g)) (fit vs e)

    go : (o : Outcome (List Value)) → Fine 27 (FieldsFit M (s.remaining + 1) ts) o → Ends M ts o
    go (ok vs) f = f.0
    go (refused e) f = f
    go (fault x) f = f

left_fine : (P : List Value → Type 0) (vs : List Value) (x : Option Found) → P vs → Fine 27 P (left_over vs x)
unfolding left_over
left_fine P vs none p = p
left_fine P vs (some x) p = omega arith

module _
    (k : ℕ) (is : List Item) (M : BaseValue → Type 0) (means : Meaning is M) (ts : List Tree)
    (z : All Sound ts) (y : AllMean M ts) (s : State) (g : Good (length is) s)
  where
    pub all_means : RunsAll M (length is) ts s (run_all k is ts s)
    unfolding run_all ◌>>=◌
    all_means =
        let w = fields_sound is M means k ts z y s g in
        let x = first_found is (run_fields k is ts s).state w.step.good in
        went_all M (length is) ts s _ g
        (then_ended (λ vs t. first is t >>= left_over vs) (went_weaker (omega arith) (λ v q. q) w)
        (λ vs f. rw x.1 (left_fine (FieldsFit M (s.remaining + 1) ts) vs x.0 f)))

-- ---- whatever base values mean
pub all_fallbacks : (ts : List Tree) → AllMean Any ts
all_fallbacks [] = tt
all_fallbacks (t ∷ ts) = (all_any (fallbacks t), all_fallbacks ts)

module _ (k : ℕ) (is : List Item) (ts : List Tree) (z : All Sound ts) (s : State) (g : Good (length is) s) where
  pub fields_run : RunsAll Any (length is) ts s (run_fields k is ts s)
  fields_run = went_all Any _ ts s _ g (went_weaker (omega arith) (λ v q. q) (fields_sound is Any (any_meaning is) k ts z (all_fallbacks ts) s g))

  pub all_sound : RunsAll Any (length is) ts s (run_all k is ts s)
  all_sound = all_means k is Any (any_meaning is) ts z (all_fallbacks ts) s g
