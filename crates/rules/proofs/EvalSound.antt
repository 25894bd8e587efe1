-- Every evaluation of a sound tree in a good state.
use mathlib.Core.Bool.{Bool, true, false, not, ◌&&◌, and-eq-true_iff}
use mathlib.Core.List.{List, [], ◌∷◌, ◌++◌}
use mathlib.Core.Option.{Option}
use mathlib.Core.Path.{◌≡◌}
use Prim.Native.Nat.{ℕ, ◌+◌, ◌≤◌}
use native.Mathlib.Omega.{arith}
use lib.ListN.{length}
use borrow.Author.Tests.{not-true}
use Rattle.rules.specs.Base.{is_some, ◌>>?◌}
use Rattle.rules.specs.Value.{Kind, BaseValue, is_number}
use Rattle.rules.specs.Tree.{Tree, Flag, Argument, Positional, Optional, Many, Some, Count, Last, Choice, Fallback, Guard, kind_of, has_repeat}
use Rattle.rules.specs.Split.{Item}
use Rattle.rules.specs.State.{State, parsed}
use Rattle.rules.specs.Eval.{eval}
use Rattle.rules.specs.Demands.{All}
use Rattle.rules.specs.Sound.{Good, is_named, is_read, well_built, Sound}
use Rattle.rules.proofs.Acceptance.{All-split}
use Rattle.rules.proofs.Steps.{Runs}
use Rattle.rules.proofs.StepLaws.{remaining_within}
use Rattle.rules.proofs.KindLaws.{bound_some, choice_kind_lem}
use Rattle.rules.proofs.Nodes.{Evaluated, Meaning, went_runs, visit_sound, flag_sound, argument_sound, positional_sound, optional_sound, fallback_sound, guard_sound}
use Rattle.rules.proofs.Choices.{choice_sound}
use Rattle.rules.proofs.Repeats.{many_sound, some_sound, count_sound, last_sound}

-- ---- the trees beneath a sound tree
-- the tree beneath a node with one child
child_of_lem : (t : Tree) (f : Kind → Option Kind) → is_some (kind_of t >>? f) ≡ true → well_built t ≡ true → Sound t
child_of_lem t f e b = record { kind = bound_some (kind_of t) f e; built = b }

-- the tree beneath a repeat has no repeat
pub record Flat (t : Tree) : Type 0 where
  pub sound : Sound t
  pub flat : has_repeat t ≡ false

flat_of : (t : Tree) (f : Kind → Option Kind) → is_some (kind_of t >>? f) ≡ true → (not (has_repeat t) && well_built t) ≡ true → Flat t
flat_of t f e b =
    let p = (and-eq-true_iff (not (has_repeat t)) (well_built t)).0 b in
    record { sound = child_of_lem t f e p.1; flat = not-true (has_repeat t) p.0 }

module _ (c : Bool) (t : Tree) where
  pub sound_optional : Sound (Optional c t) → Sound t
  unfolding kind_of well_built
  sound_optional z = child_of_lem t _ z.kind z.built

  pub sound_many : Sound (Many c t) → Flat t
  unfolding kind_of well_built
  sound_many z = flat_of t _ z.kind z.built

  pub sound_some : Sound (Some c t) → Flat t
  unfolding kind_of well_built
  sound_some z = flat_of t _ z.kind z.built

pub sound_count : (t : Tree) → Sound (Count t) → Flat t
unfolding kind_of well_built
sound_count t z = flat_of t _ z.kind z.built

pub sound_last : (t : Tree) → Sound (Last t) → Flat t
unfolding kind_of well_built
sound_last t z = flat_of t _ z.kind z.built

pub sound_choice : (t u : Tree) → Sound (Choice t u) → Sound t × Sound u
unfolding kind_of well_built
sound_choice t u z =
    let p = (and-eq-true_iff (well_built t) (well_built u)).0 z.built in
    let k = bound_some (kind_of t) _ z.kind in
    (record { kind = k; built = p.0 }, record { kind = rw (choice_kind_lem (kind_of t) (kind_of u) z.kind).1 k; built = p.1 })

pub sound_fallback : (v : BaseValue) (t : Tree) → Sound (Fallback v t) → Sound t
unfolding kind_of well_built
sound_fallback v t z = child_of_lem t _ z.kind z.built

pub sound_guard : (l h : ℕ) (t : Tree) → Sound (Guard l h t) → Sound t
unfolding kind_of well_built
sound_guard l h t z = child_of_lem t _ z.kind z.built

-- ---- by induction on the tree
-- the values of the fallbacks of a tree
unfoldable pub fallbacks : Tree → List BaseValue
fallbacks (Flag n m w) = []
fallbacks (Argument n m b a) = []
fallbacks (Positional n p b) = []
fallbacks (Optional c t) = fallbacks t
fallbacks (Many c t) = fallbacks t
fallbacks (Some c t) = fallbacks t
fallbacks (Count t) = fallbacks t
fallbacks (Last t) = fallbacks t
fallbacks (Choice t u) = fallbacks t ++ fallbacks u
fallbacks (Fallback v t) = v ∷ fallbacks t
fallbacks (Guard l h t) = fallbacks t

module _ (k : ℕ) (p : parsed k ≡ true) (is : List Item) (M : BaseValue → Type 0) (means : Meaning is M) where
  pub eval_means : (t : Tree) → Sound t → All M (fallbacks t) → (s : State) → Good (length is) s → Evaluated M (length is) t s (eval k is t s)
  unfolding eval well_built fallbacks
  eval_means (Flag n m w) z f s g = visit_sound (Flag n m w) g (flag_sound k p is M means s g n m w z.built)
  eval_means (Argument n m b a) z f s g =
      let q = (and-eq-true_iff (is_named m) (is_read b)).0 z.built in
      visit_sound (Argument n m b a) g (argument_sound k p is M means s g n m b a q.0 q.1)
  eval_means (Positional n q b) z f s g = visit_sound (Positional n q b) g (positional_sound k p is M means s g n q b z.built)
  eval_means (Optional c t) z f s g =
      visit_sound (Optional c t) g (optional_sound g (eval_means t (sound_optional c t z) f s g) c z.kind)
  eval_means (Many c t) z f s g =
      let x = sound_many c t z in
      visit_sound (Many c t) g (many_sound g x.flat (eval_means t x.sound f) c z.kind)
  eval_means (Some c t) z f s g =
      let x = sound_some c t z in
      visit_sound (Some c t) g (some_sound g x.flat (eval_means t x.sound f) c z.kind)
  eval_means (Count t) z f s g =
      let x = sound_count t z in
      let counts : (k : ℕ) → k ≤ s.remaining + 1 → M (is_number k) = λ k h. means.count k (omega (arith, h, remaining_within (length is) s g)) in
      visit_sound (Count t) g (count_sound g x.flat (eval_means t x.sound f) counts z.kind)
  eval_means (Last t) z f s g =
      let x = sound_last t z in
      visit_sound (Last t) g (last_sound g x.flat (eval_means t x.sound f) z.kind)
  eval_means (Choice t u) z f s g =
      let x = sound_choice t u z in
      let (a, b) = All-split M (fallbacks t) (fallbacks u) f in
      visit_sound (Choice t u) g (choice_sound t u g z.kind (eval_means t x.0 a s g) (eval_means u x.1 b s g))
  eval_means (Fallback v t) z f s g =
      visit_sound (Fallback v t) g (fallback_sound g (eval_means t (sound_fallback v t z) f.1 s g) v f.0 z.kind)
  eval_means (Guard l h t) z f s g =
      visit_sound (Guard l h t) g (guard_sound l h (eval_means t (sound_guard l h t z) f s g) z.kind)

-- ---- whatever base values mean
abbrev pub Any : BaseValue → Type 0
Any v = Unit {0}

pub any_meaning : (is : List Item) → Meaning is Any
any_meaning is = record { yes = λ b. tt; read = λ n h. tt; count = λ n h. tt; text = λ i h. tt }

pub all_any : (l : List BaseValue) → All Any l
all_any [] = tt
all_any (v ∷ l) = (tt, all_any l)

module _ (k : ℕ) (p : parsed k ≡ true) (is : List Item) where
  pub eval_went : (t : Tree) → Sound t → (s : State) → Good (length is) s → Evaluated Any (length is) t s (eval k is t s)
  eval_went t z s g = eval_means k p is Any (any_meaning is) t z (all_any (fallbacks t)) s g

  pub eval_sound : (t : Tree) → Sound t → (s : State) → Good (length is) s → Runs (length is) t s (eval k is t s)
  eval_sound t z s g = went_runs (eval_went t z s g)
