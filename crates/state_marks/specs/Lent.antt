-- A state whose marks are lent and whose numbers go by value.
use Rattle.std.specs.Prelude.{Bool, ◌≡◌, true, false, ◌&&◌, List, [], ◌∷◌, ℕ, ◌+◌, ◌≤◌, ◌<◌, length, drop, get_or}
use Rattle.std.specs.Prelude.{if◌then◌else◌, Some, None}
use Rattle.std.specs.Prelude.{Option as Coded}
use Rattle.std.proofs.Math.Option.{Option, some, none}
use Rattle.rules.specs.Outcome.{ok}
use Rattle.rules.specs.Tree.{zeros}
use Rattle.rules.specs.State.{State, parsed, present, present_at, remove, Picked as Pick}
use Rattle.rules.specs.Calls.{from_raw}
use Rattle.rules.specs.Sound.{Good}
use Rattle.rules.specs.declared.State.{State as Raw}
use Rattle.state_marks.specs.declared.Numbers.{Numbers}
use Rattle.state_marks.specs.declared.Picked.{Picked}

-- marks and numbers, joined as they are handed over
abbrev pub raw_of : List ℕ → Numbers → Raw
raw_of m p = record {
  marks = m;
  count = p.count;
  remaining = p.remaining;
  current = p.current;
  start = p.start;
  end = p.end;
}

abbrev pub numbers_of : Raw → Numbers
numbers_of x = record {
  count = x.count;
  remaining = x.remaining;
  current = x.current;
  start = x.start;
  end = x.end;
}

unfoldable pub state_of : List ℕ → Numbers → State
state_of m p = from_raw (raw_of m p)

-- what refusal 29 lets through
pub record Fine (m : List ℕ) (p : Numbers) : Type 0 where
  pub order : p.start ≤ p.end
  pub inside : p.end ≤ p.count
  pub small : p.count ≤ 256
  pub rest : zeros (drop p.count m) ≡ true
  pub good : Good p.count (state_of m p)

-- a whole state, whatever the number of fields
abbrev pub FineState : Raw → Type 0
FineState x = Fine x.marks (numbers_of x)

-- what `remove` leaves: the state that the rules say, and later marks 0 as before
pub record Removed (mark : ℕ) (m : List ℕ) (p : Numbers) (i : ℕ) (m' : List ℕ) (r : Numbers) : Type 0 where
  pub same : remove mark (state_of m p) i ≡ ok (state_of m' r)
  pub count : r.count ≡ p.count
  pub long : length m' ≡ length m
  pub fine : Fine m' r

-- the first of some places, if there is one
unfoldable pub first_or : ℕ → List ℕ → ℕ
first_or d [] = d
first_or d (x ∷ xs) = x

-- of each place from `from` on, below `i`, that is present, `false` is said
abbrev pub NoneWhere : List ℕ → (ℕ → Bool → Type 0) → ℕ → ℕ → Type 0
NoneWhere m says from i = (k : ℕ) → from ≤ k → k < i → present_at m k ≡ true → says k false

-- the first present place of which `true` is said, or the end
pub record FirstWhere (m : List ℕ) (says : ℕ → Bool → Type 0) (from end r : ℕ) : Type 0 where
  pub behind : from ≤ r
  pub within : r ≤ end
  pub before : NoneWhere m says from r
  pub here : r < end → (present_at m r ≡ true) × says r true

-- an `Option` of the code, as the rules have it
abbrev pub option_of : {A : Type 0} → Coded A → Option A
option_of (Some x) = some x
option_of None = none

unfoldable pub pick_of : Picked → Pick
pick_of r = record { first = r.first; place = option_of r.place }

-- one mark of `conflicts`
unfoldable pub conflict_mark : ℕ → ℕ → ℕ → ℕ
conflict_mark w m l = if present m && parsed l then 2 + w else m

-- marks that are the same from one place on, below another
abbrev pub Alike : List ℕ → List ℕ → ℕ → ℕ → Type 0
Alike a b from to = (k : ℕ) → from ≤ k → k < to → get_or a k 0 ≡ get_or b k 0
