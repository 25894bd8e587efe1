-- What the rules say of every run of a node: how many words its value has, and how many tries it took.
use mathlib.Core.Bool.{Bool, true, false}
use mathlib.Core.List.{List, []}
use mathlib.Core.Option.{Option, some, some-injective, none-ne-some}
use mathlib.Core.Path.{◌≡◌, sym, ◌∙◌, ap, subst}
use Prim.Native.Nat.{ℕ, ◌+◌, ◌*◌, ◌≤◌}
use native.Mathlib.Nat.{le_trans, mul-le-mul}
use native.Mathlib.Omega.{arith}
use lib.ListN.{length}
use lib.Seq.{length-sets}
use Rattle.std.specs.Prelude.{if◌then◌else◌}
use Rattle.rules.specs.Outcome.{Outcome, ok, refused, fault}
use Rattle.rules.specs.Value.{Kind, Value}
use Rattle.rules.specs.Tree.{Tree, kind_of, has_repeat}
use Rattle.rules.specs.Split.{Item}
use Rattle.rules.specs.State.{parsed}
use Rattle.rules.specs.Eval.{Ran as Run, eval}
use Rattle.rules.specs.Sound.{Good, Sound, leaves}
use Rattle.rules.proofs.Steps.{EndsOne, most, Runs}
use Rattle.rules.proofs.StepLaws.{remaining_within}
use Rattle.rules.proofs.ValueWords.{words_515}
use Rattle.rules.proofs.EvalSound.{eval_sound}
use Rattle.state_marks.specs.declared.Numbers.{Numbers}
use Rattle.state_marks.specs.Lent.{state_of, Fine}
use Rattle.eval_told.specs.declared.Ran.{Ran}
use Rattle.eval_told.specs.Told.{Told, told}
use Rattle.eval_told.proofs.Repeats.{told_tries}
use Rattle.eval_list.specs.Lists.{Writes}

-- ---- from what is told
abbrev ran : Run Value → Outcome Value → Run Value
ran r o = record { outcome = o; state = r.state; tries = r.tries; trace = r.trace }

-- a refusal has no words
pub told_none : (r : Run Value) (x : Told) → told r ≡ some x → (x.number ≡ 0 → ⊥) → x.words ≡ []
unfolding told
told_none r x h z = go r.outcome h
  where
    go : (o : Outcome Value) → told (ran r o) ≡ some x → x.words ≡ []
    go (ok v) e = absurd (z (sym (ap (λ (y : Told). y.number) (some-injective _ x e))))
    go (refused v) e = sym (ap (λ (y : Told). y.words) (some-injective _ x e))
    go (fault v) e = absurd (none-ne-some x e)

told_short : (m : ℕ) (k : Option Kind) (r : Run Value) (x : Told) → m ≤ 257 → EndsOne m k r.outcome → told r ≡ some x → length x.words ≤ 515
unfolding told
told_short m k r x l w h = go r.outcome w h
  where
    go : (o : Outcome Value) → EndsOne m k o → told (ran r o) ≡ some x → length x.words ≤ 515
    go (ok v) w e =
        subst (λ (y : Told). length y.words ≤ 515) (some-injective _ x e)
        (words_515 k v w.0 (le_trans w.1 l) (le_trans w.2 l))
    go (refused v) w e = subst (λ (y : Told). length y.words ≤ 515) (some-injective _ x e) (omega arith)
    go (fault v) w e = absurd w

most_few : (t : Tree) (r : ℕ) → leaves t ≤ 64 → r ≤ 256 → most t r ≤ 16512
unfolding most
most_few t r l h = go (has_repeat t)
  where
    all : (r + 2) * leaves t ≤ 258 * 64
    all = let h : r + 2 ≤ 258 = omega arith in mul-le-mul h l

    go : (b : Bool) → (if b then (r + 2) * leaves t else leaves t) ≤ 16512
    go true = all
    go false = omega arith

-- ---- at a state over the items
module _ (mark : ℕ) (told-mark : parsed mark ≡ true) (m : List ℕ) (p : Numbers) (fine : Fine m p) (is : List Item) (same : length is ≡ p.count) where
  pub node_good : Good (length is) (state_of m p)
  node_good = subst (λ (n : ℕ). Good n (state_of m p)) (sym same) fine.good

  within : (state_of m p).remaining ≤ 256
  within = le_trans (remaining_within p.count (state_of m p) fine.good) fine.small

  pub node_runs : (t : Tree) → Sound t → Runs (length is) t (state_of m p) (eval mark is t (state_of m p))
  node_runs t z = eval_sound mark told-mark is t z (state_of m p) node_good

  pub node_short : (t : Tree) → Sound t → (x : Told) → told (eval mark is t (state_of m p)) ≡ some x → length x.words ≤ 515
  node_short t z x h =
      let w = within in
      told_short ((state_of m p).remaining + 1) (kind_of t) (eval mark is t (state_of m p)) x (omega arith) (node_runs t z).ends h

  pub node_tries : (t : Tree) → Sound t → leaves t ≤ 64 → (x : Told) → told (eval mark is t (state_of m p)) ≡ some x → x.tries ≤ 16512
  node_tries t z l x h =
      subst (λ (n : ℕ). n ≤ 16512) (told_tries (eval mark is t (state_of m p)) x h)
      (le_trans (node_runs t z).cost (most_few t (state_of m p).remaining l within))

-- ---- words that were written are within the slice
pub writes_long :
    {mark : ℕ} {area items : List ℕ} {t : Tree} {m : List ℕ} {p : Numbers} {m' o : List ℕ} {at : ℕ} {o' : List ℕ} {r : Ran}
    → Writes mark area items t m p m' o at o' r
    → length o' ≡ length o
writes_long {o} {at} w = ap (λ (l : List ℕ). length l) w.put ∙ length-sets o at w.value
