-- What the theorems say: the words of the demands, as types.
use Rattle.std.specs.Prelude.{Bool, true, false, ◌||◌, List, [], ◌∷◌, ◌≡◌, ℕ, ◌+◌, ◌-◌, ◌*◌, ◌≤◌, ◌<◌, length, get_or}
use Rattle.std.proofs.Math.Option.{Option, some, none}
use Rattle.std.proofs.Math.ListN.{get_elem?}
use Rattle.std.specs.Prelude.{if◌then◌else◌}
use Rattle.rules.specs.Base.{same}
use Rattle.rules.specs.Outcome.{Outcome, ok, refused, fault}
use Rattle.rules.specs.Value.{Kind, item, name, BaseValue, is_yes, is_text, is_number, Value, of_kind, bases_of, answer_words}
use Rattle.rules.specs.Sheet.{arguments}
use Rattle.rules.specs.Form.{Name}
use Rattle.rules.specs.Tree.{Tree, kind_of}
use Rattle.rules.specs.Accept.{Accepted, leaf_count}
use Rattle.rules.specs.Split.{Item, Short, Long, ArgWord, Word, PosWord, dash}
use Rattle.rules.specs.State.{State, unused}
use Rattle.rules.specs.Eval.{Visit, states_of}
use Rattle.rules.specs.Run.{Line, split, run_line, report, run}

-- ---- states
-- every element is as told
abbrev pub All : {A : Type 0} → (A → Type 0) → List A → Type 0
All P [] = Unit {0}
All P (x ∷ xs) = P x × All P xs

-- "remaining" is the number of unused places in scope
abbrev pub Counted : State → Type 0
Counted s = s.remaining ≡ length (unused s)

-- ---- kinds that mean something
-- a list of bytes
abbrev pub Bytes : List ℕ → Type 0
Bytes b = (k : ℕ) → get_or b k 0 < 256

unfoldable pub has_text : Item → Bool
has_text (Short c a t) = false
has_text (Long n a t) = false
has_text (ArgWord t) = true
has_text (Word t) = true
has_text (PosWord t) = true

-- A number is below 2^32; a text is the place of an item that is a Word, an ArgWord or a PosWord, or the number of a name record of type 2
abbrev pub Means : List Item → List Name → BaseValue → Type 0
Means is ns (is_yes b) = Unit {0}
Means is ns (is_text (item i)) = (x : Item) × (get_elem? is i ≡ some x) × (has_text x ≡ true)
Means is ns (is_text (name k)) = (m : Name) × (get_elem? ns k ≡ some m) × (m.type ≡ 2)
Means is ns (is_number n) = n < 4294967296

-- a value of a kind, every base value in which means something
abbrev pub OfKind : (BaseValue → Type 0) → Option Kind → Value → Type 0
OfKind M k v = (of_kind k v ≡ true) × All M (bases_of v)

-- ---- demand 3
-- R: the item count, less one if an argument is `--`
unfoldable pub has_marker : List (List ℕ) → Bool
has_marker [] = false
has_marker (os ∷ rest) = same os (dash ∷ dash ∷ []) || has_marker rest

unfoldable pub places_left : List (List ℕ) → ℕ → ℕ
places_left args n = if has_marker args then n - 1 else n

-- an evaluation: no spot where the Rust would panic, no value of a wrong kind
abbrev pub Faultless : (BaseValue → Type 0) → Option Kind → Outcome Value → Type 0
Faultless M k (ok v) = OfKind M k v
Faultless M k (refused e) = Unit {0}
Faultless M k (fault x) = ⊥

-- one value per field, in field order, each of the kind worked out for it
abbrev pub OnePerField : (BaseValue → Type 0) → List Tree → List Value → Type 0
OnePerField M [] [] = Unit {0}
OnePerField M [] (v ∷ vs) = ⊥
OnePerField M (t ∷ ts) [] = ⊥
OnePerField M (t ∷ ts) (v ∷ vs) = OfKind M (kind_of t) v × OnePerField M ts vs

-- exactly one of refusals 20 to 27, or exactly one value per field
abbrev pub Ends : (BaseValue → Type 0) → List Tree → Outcome (List Value) → Type 0
Ends M ts (ok vs) = OnePerField M ts vs
Ends M ts (refused e) = (20 ≤ e.number) × (e.number ≤ 27)
Ends M ts (fault x) = ⊥

-- the one whole run of an accepted form on a line that splits without refusal, where M is what base values mean
pub record WholeRun (M : BaseValue → Type 0) (b s : List ℕ) (a : Accepted) (l : Line) : Type 0 where
  -- no evaluation of any node, refused, put back or dropped ones included, meets a panic or a value of a wrong kind
  pub faultless : All (λ (v : Visit). Faultless M v.kind v.outcome) (run_line a.fields l).trace
  pub ends : Ends M a.fields (run_line a.fields l).outcome
  pub counted : All Counted (states_of (run_line a.fields l).trace)
  -- R and L
  pub remaining : l.state.remaining ≡ places_left (arguments s) (length l.items)
  pub tries : (run_line a.fields l).tries ≤ (places_left (arguments s) (length l.items) + 2) * leaf_count a.form.nodes
  -- with buffers of at least the stated length, what is reported is this run's
  pub reported : (ni na nl : ℕ) → 1792 ≤ ni → 8240 ≤ na → 192 ≤ nl → run b s ni na nl ≡ report ni na nl l (run_line a.fields l)
  -- and the answer words fix the values
  pub values : (vs ws : List Value) → OnePerField M a.fields vs → OnePerField M a.fields ws → answer_words vs ≡ answer_words ws → vs ≡ ws

-- Splitting never panics, and a line that it does not refuse is run as demanded
pub record Demand3 (b s : List ℕ) (a : Accepted) : Type 0 where
  pub line : Line
  pub splits : split a.form s ≡ ok line
  pub whole : line.refusal ≡ none → WholeRun (Means line.items a.form.names) b s a line
