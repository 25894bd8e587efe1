-- What a run does to a state, and what is proved of every evaluation: the records that the proofs hand on.
use mathlib.Core.Bool.{true, false}
use mathlib.Core.Option.{Option}
use mathlib.Core.Path.{◌≡◌}
use Prim.Native.Nat.{ℕ, ◌+◌, ◌*◌, ◌≤◌, ◌<◌}
use Rattle.std.specs.Prelude.{if◌then◌else◌}
use Rattle.rules.specs.Outcome.{Outcome, ok, refused, fault}
use Rattle.rules.specs.Value.{Kind, BaseValue, Value, base, absent, present, nil, cons, size, of_kind}
use Rattle.rules.specs.Tree.{Tree, kind_of, has_repeat}
use Rattle.rules.specs.State.{State, present_at}
use Rattle.rules.specs.Eval.{Ran, Visit}
use Rattle.rules.specs.Demands.{Faultless}
use Rattle.rules.specs.Sound.{Good, leaves}

-- From a good state to another over the same items and in the same scope
pub record Step (n : ℕ) (s u : State) : Type 0 where
  pub good : Good n u
  pub start : u.start ≡ s.start
  pub end : u.end ≡ s.end
  pub fewer : u.remaining ≤ s.remaining
  -- nothing that was used comes back
  pub kept : (i : ℕ) → present_at u.marks i ≡ true → present_at s.marks i ≡ true
  -- what is used lowers `remaining`
  pub strict : (i : ℕ) → present_at s.marks i ≡ true → present_at u.marks i ≡ false → u.remaining < s.remaining
  -- where nothing was used, nothing changed
  pub still : u.remaining ≡ s.remaining → u ≡ s

-- the list inside a value
abbrev pub inner : Value → Value
inner (base v) = nil
inner absent = nil
inner (present v) = v
inner nil = nil
inner (cons v w) = nil

-- how an evaluation may end, where at most m successes were counted
abbrev pub EndsOne : ℕ → Option Kind → Outcome Value → Type 0
EndsOne m k (ok v) = (of_kind k v ≡ true) × (size v ≤ m) × (size (inner v) ≤ m)
EndsOne m k (refused e) = (20 ≤ e.number) × (e.number ≤ 26)
EndsOne m k (fault x) = ⊥

-- the most tries, where r places remain
unfoldable pub most : Tree → ℕ → ℕ
most t r = if has_repeat t then (r + 2) * leaves t else leaves t

-- an evaluation that was passed through, over n items, where M is what base values mean
pub record Visited (M : BaseValue → Type 0) (n : ℕ) (v : Visit) : Type 0 where
  pub given : Good n v.given
  pub left : Good n v.left
  pub faultless : Faultless M v.kind v.outcome

-- an evaluation of a node in a state over n items
pub record Runs (n : ℕ) (t : Tree) (s : State) (r : Ran Value) : Type 0 where
  pub step : Step n s r.state
  pub ends : EndsOne (s.remaining + 1) (kind_of t) r.outcome
  pub cost : r.tries ≤ most t s.remaining
