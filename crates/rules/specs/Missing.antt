-- What a refusal 20 tells: which leaves looked in vain, and in which scope. Of every node, on every state.
use Rattle.std.specs.Prelude.{Bool, true, false, List, [], ◌∷◌, ◌++◌, ◌≡◌, ℕ, ◌+◌, ◌*◌, ◌≤◌, length}
use Rattle.std.proofs.Math.Option.{some}
use Rattle.std.proofs.Math.ListN.{get_elem?}
use Rattle.std.specs.Prelude.{if◌then◌else◌}
use Rattle.rules.specs.Outcome.{Outcome, ok, refused, fault, MissingItem, list_words, Refusal, is_missing}
use Rattle.rules.specs.Value.{Value}
use Rattle.rules.specs.Tree.{Tree, Flag, Argument, Positional, Optional, Many, Some, Count, Last, Choice, Fallback, Guard}
use Rattle.rules.specs.Accept.{Accepted, accepted, check_form}
use Rattle.rules.specs.Split.{Item}
use Rattle.rules.specs.State.{State, field_mark}
use Rattle.rules.specs.Eval.{eval}
use Rattle.rules.specs.Run.{Line, Report, padded, split, run_all}
use Rattle.rules.specs.Demands.{All}
use Rattle.rules.specs.Sound.{leaves}

-- ---- the entries, by the form
-- a leaf that looked in the scope of a state
unfoldable pub entry : ℕ → State → MissingItem
entry n s = record { node = n; start = s.start; end = s.end }

unfoldable pub ends_missing : Outcome Value → Bool
ends_missing (ok v) = false
ends_missing (refused e) = is_missing e
ends_missing (fault x) = false

-- The entries of a node that is refused with 20: a leaf's own, those of the child of `last` and guard, and of a choice those of its
-- first side, if that ends in 20 too, and then those of its second. The others swallow 20.
unfoldable pub lacking : ℕ → List Item → Tree → State → List MissingItem
lacking mark is (Flag n m w) s = entry n s ∷ []
lacking mark is (Argument n m b a) s = entry n s ∷ []
lacking mark is (Positional n p b) s = entry n s ∷ []
lacking mark is (Optional c t) s = []
lacking mark is (Many c t) s = []
lacking mark is (Some c t) s = []
lacking mark is (Count t) s = []
lacking mark is (Last t) s = lacking mark is t s
lacking mark is (Choice t u) s =
    (if ends_missing (eval mark is t s).outcome then lacking mark is t s else []) ++ lacking mark is u s
lacking mark is (Fallback v t) s = []
lacking mark is (Guard lo hi t) s = lacking mark is t s

-- ---- what a refusal has of them
-- of a node that was given a state and left one
pub record Lacks (entries : List MissingItem) (s left : State) (e : Refusal) : Type 0 where
  -- only 20 has entries
  pub only : is_missing e ≡ false → e.missing ≡ []
  -- 20 leaves the state that was given
  pub unchanged : is_missing e ≡ true → left ≡ s
  pub listed : is_missing e ≡ true → e.missing ≡ entries

abbrev pub LookedIn : State → MissingItem → Type 0
LookedIn s x = (x.start ≡ s.start) × (x.end ≡ s.end)

-- the run of all fields, of which the first has number k: only 20 has entries, and they are what one of the fields lacks in the
-- state that is left
pub record OfField (k : ℕ) (is : List Item) (ts : List Tree) (left : State) (entries : List MissingItem) : Type 0 where
  pub field : ℕ
  pub tree : Tree
  pub here : get_elem? ts field ≡ some tree
  pub same : entries ≡ lacking (field_mark (k + field)) is tree left

pub record FieldLacks (k : ℕ) (is : List Item) (ts : List Tree) (left : State) (e : Refusal) : Type 0 where
  pub only : is_missing e ≡ false → e.missing ≡ []
  pub listed : is_missing e ≡ true → OfField k is ts left e.missing

pub record MissingTold : Type 0 where
  pub lacks :
      (mark : ℕ) (is : List Item) (t : Tree) (s : State) (e : Refusal)
      → (eval mark is t s).outcome ≡ refused e
      → Lacks (lacking mark is t s) s (eval mark is t s).state e
  -- the scope of each is that of the state, and there are no more than leaves
  pub scopes : (mark : ℕ) (is : List Item) (t : Tree) (s : State) → All (LookedIn s) (lacking mark is t s)
  pub few : (mark : ℕ) (is : List Item) (t : Tree) (s : State) → length (lacking mark is t s) ≤ leaves t
  pub run :
      (k : ℕ) (is : List Item) (ts : List Tree) (s : State) (e : Refusal)
      → (run_all k is ts s).outcome ≡ refused e
      → FieldLacks k is ts (run_all k is ts s).state e
  -- of an accepted form: three words an entry fit into 192
  pub fits :
      (b : List ℕ) (a : Accepted)
      → check_form b ≡ accepted a
      → (k : ℕ) (is : List Item) (s : State) (e : Refusal)
      → (run_all k is a.fields s).outcome ≡ refused e
      → 3 * length e.missing ≤ 192

-- ---- what a run reports with 20: the list is what one of the form's fields lacks in the state that is handed back
pub record ListReported (b s : List ℕ) (nl : ℕ) (r : Report) : Type 0 where
  pub form : Accepted
  pub accepts : check_form b ≡ accepted form
  pub line : Line
  pub splits : split form.form s ≡ ok line
  pub entries : List MissingItem
  pub of_field : OfField 0 line.items form.fields r.state entries
  pub list : r.list ≡ padded nl (list_words entries)
