-- Document 02, request three: what is known of a cluster before its first item is written.
use Rattle.std.specs.Prelude.{true, false, List, [], ◌∷◌, ◌++◌, ◌≡◌, ℕ, ◌+◌, ◌≤◌, ◌<◌, length, replicate}
use Rattle.std.proofs.Math.Option.{none}
use Rattle.std.specs.Prelude.{if◌then◌else◌}
use Rattle.rules.specs.Base.{null, contains}
use Rattle.rules.specs.Outcome.{Outcome, ok, ◌>>=◌}
use Rattle.rules.specs.Sheet.{arguments}
use Rattle.rules.specs.Form.{Form}
use Rattle.rules.specs.Accept.{Letters, letters_of}
use Rattle.rules.specs.Split.{Item, Word, dash, equals, behind_equals, Letter, cluster_from}
use Rattle.rules.specs.Split.{Cluster, single, all_flags, argument_letter, withdrawn, ambiguous, disambiguate_short, cluster_items}
use Rattle.rules.specs.Split.{plain, cluster_group, short_group, split_argument, Split, split_from, items_of}
use Rattle.rules.specs.Run.{Line, split}
use Rattle.rules.specs.Demands.{All}

-- ---- the outcome, and how many items it gives
-- by the argument's name and the letters of flags and of arguments, and nothing else
unfoldable pub outcome_of : Letters → List ℕ → Outcome Cluster
outcome_of l name = cluster_from 0 0 name >>= λ ls. ok (disambiguate_short l ls)

-- by the outcome alone
unfoldable pub item_count : Cluster → ℕ
item_count (single c) = 1
item_count (all_flags cs) = length cs
item_count (argument_letter cs c rest) = length cs + (if null rest then 1 else 2)
item_count (withdrawn k) = 1
item_count (ambiguous cs) = length cs + 1

-- ---- known letters, and then an unknown one
pub record FlagsOnly (l : Letters) (c : ℕ) : Type 0 where
  pub flag : contains l.flags c ≡ true
  pub no_argument : contains l.arguments c ≡ false

pub record Unknown (l : Letters) (c : ℕ) : Type 0 where
  pub no_flag : contains l.flags c ≡ false
  pub no_argument : contains l.arguments c ≡ false

-- Behind the dash stand one letter or more that are flags' only, then an unknown one, then whatever it is. The first byte is no
-- dash, and no `=` stands behind it.
pub record EndsUnknown (l : Letters) (os : List ℕ) : Type 0 where
  pub first : ℕ
  pub more : List ℕ
  pub bytes : os ≡ dash ∷ first ∷ more
  pub no_dash : first ≡ dash → ⊥
  pub no_equals : behind_equals more ≡ none
  pub known : List Letter
  pub unknown : Letter
  pub rest : List Letter
  pub these : cluster_from 0 0 (first ∷ more) ≡ ok (known ++ (unknown ∷ rest))
  pub one : 1 ≤ length known
  pub flags : All (λ (x : Letter). FlagsOnly l x.character) known
  pub nobody : Unknown l unknown.character

-- a line that is not refused, and has one Word behind the items of its other arguments
pub record OneWordMore (f : Form) (s : List ℕ) (before : List Item) (os : List ℕ) : Type 0 where
  pub line : Line
  pub same : split f s ≡ ok line
  pub accepted : line.refusal ≡ none
  pub items : line.items ≡ before ++ (Word os ∷ [])

-- ---- what holds
pub record ClustersKnown : Type 0 where
  -- the items of a cluster are those of its outcome, and as many as the outcome says
  pub known : (l : Letters) (os name : List ℕ) → short_group l os name none ≡ (outcome_of l name >>= λ c. ok (cluster_group os c))
  pub counted : (os : List ℕ) (c : Cluster) → length (cluster_items os c) ≡ item_count c
  -- known letters and then an unknown one are one Word
  pub word : (l : Letters) (os : List ℕ) → EndsUnknown l os → split_argument l os ≡ ok (plain (Word os ∷ []))
  -- on a line, before any `--`, with one place left or more
  pub last_place :
      (f : Form) (s : List ℕ) (before : List (List ℕ)) (os : List ℕ) (x : Split)
      → arguments s ≡ before ++ (os ∷ [])
      → split_from (letters_of f) 0 before ≡ ok x
      → x.marker ≡ none
      → x.ambiguous ≡ none
      → length (items_of x) < 256
      → EndsUnknown (letters_of f) os
      → OneWordMore f s (items_of x) os
  -- n times the same letter, a thousand as well as one
  pub thousand :
      (l : Letters) (n v x : ℕ)
      → 1 ≤ n
      → (v < 128) × (x < 128)
      → (v ≡ dash → ⊥) × (v ≡ equals → ⊥) × (x ≡ equals → ⊥)
      → FlagsOnly l v
      → Unknown l x
      → EndsUnknown l (dash ∷ (replicate n v ++ (x ∷ [])))
