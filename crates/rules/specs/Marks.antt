-- What marks tell: which field used a place. Of every node, on every state.
use Rattle.std.specs.Prelude.{Bool, true, List, map, ◌⊎◌, ◌≡◌, ℕ, ◌+◌, ◌<◌, length, get_or}
use Rattle.std.proofs.Math.Option.{some}
use Rattle.std.proofs.Math.ListN.{get_elem?}
use Rattle.rules.specs.Outcome.{Outcome, ok}
use Rattle.rules.specs.Value.{BaseValue}
use Rattle.rules.specs.Tree.{Tree, Optional, Many, Some, Count, Last, Choice, Fallback, Guard}
use Rattle.rules.specs.Accept.{Accepted, accepted, check_form, field_of}
use Rattle.rules.specs.Split.{Item}
use Rattle.rules.specs.State.{State, field_mark, parsed, present, pick_winner, save_conflicts}
use Rattle.rules.specs.Eval.{eval}
use Rattle.rules.specs.Run.{run_all, Report, run}
use Rattle.rules.specs.Calls.{to_raw, state_in, Called, Splitting, call_split, Evaluated, call_eval, call_take_flag, call_take_arg, call_take_cmd, call_take_positional}
use Rattle.rules.specs.Calls.{call_remove, call_save_conflicts, call_set_scope}
use Rattle.rules.specs.declared.State.{State as Raw}

-- ---- what becomes of marks
-- One mark, m before and u after, over n items: it stays; or its place was present, and now it is one of those written, or
-- a conflict
abbrev pub Turned : (ℕ → Type 0) → ℕ → ℕ → ℕ → Type 0
Turned Writes n m u = (u ≡ m) ⊎ ((present m ≡ true) × (Writes u ⊎ ((w : ℕ) × (u ≡ 2 + w) × (w < n))))

-- all marks, of the state that was given and of the one that is left
pub record Turns (Writes : ℕ → Type 0) (given left : List ℕ) : Type 0 where
  pub long : length left ≡ length given
  pub turned : (i : ℕ) → Turned Writes (length given) (get_or given i 0) (get_or left i 0)

-- the marks of so many fields, of which the first has number k
abbrev pub OfFields : (k fields : ℕ) → ℕ → Type 0
OfFields k fields m = (j : ℕ) × (m ≡ field_mark (k + j)) × (j < fields)

-- ---- the field of a node
-- a tree is another, or stands beneath it
pub data PartOf (t : Tree) : Tree → Type 0 where
  whole : PartOf t t
  of_optional : {c : Bool} {u : Tree} → PartOf t u → PartOf t (Optional c u)
  of_many : {c : Bool} {u : Tree} → PartOf t u → PartOf t (Many c u)
  of_some : {c : Bool} {u : Tree} → PartOf t u → PartOf t (Some c u)
  of_count : {u : Tree} → PartOf t u → PartOf t (Count u)
  of_last : {u : Tree} → PartOf t u → PartOf t (Last u)
  of_first : {u v : Tree} → PartOf t u → PartOf t (Choice u v)
  of_second : {u v : Tree} → PartOf t v → PartOf t (Choice u v)
  of_fallback : {v : BaseValue} {u : Tree} → PartOf t u → PartOf t (Fallback v u)
  of_guard : {lo hi : ℕ} {u : Tree} → PartOf t u → PartOf t (Guard lo hi u)

-- a form has the field whose number is worked out for a node, and the node's tree is part of that field's
pub record HasField (a : Accepted) (node : ℕ) (t : Tree) : Type 0 where
  pub tree : Tree
  pub stands : get_elem? a.fields (field_of a.form node) ≡ some tree
  pub part : PartOf t tree

-- ---- other numbers for the marks
abbrev pub renamed : (ℕ → ℕ) → State → State
renamed r s = record {
  marks = map r s.marks;
  remaining = s.remaining;
  current = s.current;
  start = s.start;
  end = s.end;
}

-- a parsed mark becomes a parsed one, and no other does
abbrev pub Keeps : (ℕ → ℕ) → Type 0
Keeps r = (m : ℕ) → parsed (r m) ≡ parsed m

-- the other marks stay
abbrev pub Fixes : (ℕ → ℕ) → Type 0
Fixes r = (m : ℕ) → present m ≡ true → r m ≡ m

pub record MarksTold : Type 0 where
  -- what a node uses has its mark
  pub node : (mark : ℕ) (is : List Item) (t : Tree) (s : State) → Turns (λ m. m ≡ mark) s.marks (eval mark is t s).state.marks
  -- what the fields use has theirs
  pub run :
      (k : ℕ) (is : List Item) (ts : List Tree) (s : State)
      → Turns (OfFields k (length ts)) s.marks (run_all k is ts s).state.marks
  -- each node of an accepted form has its field
  pub field :
      (b : List ℕ) (a : Accepted)
      → check_form b ≡ accepted a
      → (k : ℕ) (t : Tree)
      → get_elem? a.trees k ≡ some t
      → HasField a k t
  pub below :
      (b : List ℕ) (a : Accepted)
      → check_form b ≡ accepted a
      → (k : ℕ)
      → k < length a.form.nodes
      → field_of a.form k < length a.fields
  -- which field used a place does not count for the winner of two, nor for what the loser leaves in conflict
  pub pick : (r q : ℕ → ℕ) → Keeps r → Keeps q → (s t : State) → pick_winner (renamed r s) (renamed q t) ≡ pick_winner s t
  pub loser : (r : ℕ → ℕ) → Keeps r → (s t : State) (w : ℕ) → save_conflicts s (renamed r t) w ≡ save_conflicts s t w
  -- and the winner's marks stay its own
  pub winner :
      (r : ℕ → ℕ)
      → Keeps r
      → Fixes r
      → (s t : State) (w : ℕ)
      → w < 256
      → save_conflicts (renamed r s) t w ≡ renamed r (save_conflicts s t w)

-- ---- states that are handed out pass 29 again, under the form
-- as it stands, where the form has so many fields
abbrev pub Returns : (fields : ℕ) → State → Type 0
Returns fields s = state_in fields (length s.marks) (to_raw s) ≡ ok s

-- a state that is handed over
abbrev pub Passes : (fields : ℕ) → Raw → Type 0
Passes fields x = (s : State) × (state_in fields x.count x ≡ ok s)

-- what a call hands back passes if what it was given does
abbrev pub HandsOn : {A : Type 0} → (fields : ℕ) → Raw → Outcome (Called A) → Type 0
HandsOn {A} fields x o = (c : Called A) → o ≡ ok c → Passes fields x → Passes fields c.state

pub record StatesPass : Type 0 where
  -- what a run and a split leave, refused or not
  pub run :
      (b s : List ℕ) (a : Accepted)
      → check_form b ≡ accepted a
      → (ni na nl : ℕ) (r : Report)
      → run b s ni na nl ≡ ok r
      → Returns (length a.fields) r.state
  pub split :
      (b s : List ℕ) (a : Accepted)
      → check_form b ≡ accepted a
      → (n : ℕ) (r : Splitting)
      → call_split b s n ≡ ok r
      → Passes (length a.fields) r.state
  -- the calls with a form
  pub eval :
      (form sheet slice answers list : List ℕ) (a : Accepted)
      → check_form form ≡ accepted a
      → (x : Raw) (k : ℕ) (e : Evaluated)
      → call_eval form sheet slice answers list x k ≡ ok e
      → Passes (length a.fields) x
      → Passes (length a.fields) e.state
  pub take_flag :
      (form sheet slice : List ℕ) (a : Accepted)
      → check_form form ≡ accepted a
      → (x : Raw) (k j : ℕ)
      → HandsOn (length a.fields) x (call_take_flag form sheet slice x k j)
  pub take_arg :
      (form sheet slice : List ℕ) (a : Accepted)
      → check_form form ≡ accepted a
      → (x : Raw) (k j : ℕ)
      → HandsOn (length a.fields) x (call_take_arg form sheet slice x k j)
  pub take_cmd :
      (form sheet slice : List ℕ) (a : Accepted)
      → check_form form ≡ accepted a
      → (x : Raw) (k : ℕ)
      → HandsOn (length a.fields) x (call_take_cmd form sheet slice x k)
  -- and those without, under any number of fields that has the field told
  pub take_positional :
      (fields : ℕ) (sheet slice : List ℕ) (x : Raw) (k : ℕ)
      → k < fields
      → HandsOn fields x (call_take_positional sheet slice x k)
  pub remove : (fields : ℕ) (x : Raw) (i k : ℕ) → k < fields → HandsOn fields x (call_remove x i k)
  pub save_conflicts : (fields : ℕ) (x y : Raw) (w : ℕ) → HandsOn fields x (call_save_conflicts x y w)
  pub set_scope : (fields : ℕ) (x : Raw) (a b : ℕ) → HandsOn fields x (call_set_scope x a b)
