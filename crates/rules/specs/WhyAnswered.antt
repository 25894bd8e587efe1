-- What holds of a reason: every input is answered, the reason given holds and none before it does, and the sixth one's shape is that of
-- the arguments which splitting withdraws.
use Rattle.std.specs.Prelude.{Bool, true, false, not, List, [], ◌∷◌, ◌++◌, ◌⊎◌, ◌≡◌, ℕ, zero, suc, ◌+◌, ◌≤◌, ◌<◌, length, take}
use Rattle.std.proofs.Math.Option.{Option, some, none}
use Rattle.std.proofs.Math.ListN.{get_elem?}
use Rattle.utf8.specs.Utf8.{well_formed}
use Rattle.rules.specs.Base.{contains, same}
use Rattle.rules.specs.Outcome.{ok}
use Rattle.rules.specs.Form.{Node}
use Rattle.rules.specs.Tree.{Named, named_of}
use Rattle.rules.specs.Accept.{Letters, letters_of}
use Rattle.rules.specs.Split.{Item, Short, Long, ArgWord, Word, PosWord, dash, behind_equals, short, split_os_argument, Letter, cluster_from, withdrawn, Split, split_from, items_of}
use Rattle.rules.specs.State.{parsed, present_at, marker_mark, match_short, match_long}
use Rattle.rules.specs.Take.{matches_arg, is_operand}
use Rattle.rules.specs.Run.{run}
use Rattle.rules.specs.Demands.{All, has_marker}
use Rattle.rules.specs.Clusters.{outcome_of, FlagsOnly, Unknown}
use Rattle.rules.specs.Why.{Reason, lost_choice, given_earlier, key_used, unnamed, no_positional, unknown_letter, none_of_these, reason_code}
use Rattle.rules.specs.Why.{LeftPlace, line_items, is_name, argument_at, Explained, left_place, refused_before, why}

-- ---- what each reason says
-- 1: in conflict with a winner
pub record LostTo (x : LeftPlace) (w : ℕ) : Type 0 where
  pub mark : get_elem? x.marks x.place ≡ some (2 + w)
  pub conflict : 2 + w < marker_mark

-- 2: the nearest earlier place with the same name
pub data SameName : Item → Item → Type 0 where
  shorts : (c : ℕ) (a b : Bool) (t u : List ℕ) → SameName (Short c a t) (Short c b u)
  longs : (n : List ℕ) (a b : Bool) (t u : List ℕ) → SameName (Long n a t) (Long n b u)

-- the same as a test
unfoldable pub same_named : Item → Item → Bool
same_named (Short c a t) y = match_short c y
same_named (Long n a t) y = match_long n y
same_named (ArgWord t) y = false
same_named (Word t) y = false
same_named (PosWord t) y = false

pub record GivenBefore (is : List Item) (i j : ℕ) : Type 0 where
  pub before : j < i
  pub here : Item
  pub item : get_elem? is i ≡ some here
  pub other : Item
  pub there : get_elem? is j ≡ some other
  pub same : SameName here other
  pub nearest : (k : ℕ) (z : Item) → j < k → k < i → get_elem? is k ≡ some z → SameName here z → ⊥

-- 3: an ArgWord whose key is used
pub record KeyIsUsed (x : LeftPlace) : Type 0 where
  pub text : List ℕ
  pub item : get_elem? (line_items x) x.place ≡ some (ArgWord text)
  pub key : ℕ
  pub before : x.place ≡ suc key
  pub mark : ℕ
  pub marked : get_elem? x.marks key ≡ some mark
  pub used : parsed mark ≡ true

-- 4: no flag and no argument has the name
pub record NobodyNames (x : LeftPlace) : Type 0 where
  pub here : Item
  pub item : get_elem? (line_items x) x.place ≡ some here
  pub name : is_name here ≡ true
  pub nobody :
      (k : ℕ) (n : Node) (m : Named)
      → get_elem? x.form.nodes k ≡ some n
      → (n.kind ≡ 1) ⊎ (n.kind ≡ 2)
      → named_of x.form n ≡ some m
      → matches_arg m false here ≡ false

-- 5: a Word or PosWord, and no positional
pub record NobodyTakes (x : LeftPlace) : Type 0 where
  pub here : Item
  pub item : get_elem? (line_items x) x.place ≡ some here
  pub operand : is_operand here ≡ true
  pub nobody : (k : ℕ) (n : Node) → get_elem? x.form.nodes k ≡ some n → n.kind ≡ 3 → ⊥

-- 6: one dash, and a UTF-8 name of two letters or more with no `=` behind its first byte
pub record ClusterShape (os : List ℕ) (letters : List Letter) : Type 0 where
  pub first : ℕ
  pub more : List ℕ
  pub bytes : os ≡ dash ∷ first ∷ more
  pub no_dash : first ≡ dash → ⊥
  pub utf8 : well_formed (first ∷ more) ≡ true
  pub no_equals : behind_equals more ≡ none
  pub these : cluster_from 0 0 (first ∷ more) ≡ ok letters
  pub two : 2 ≤ length letters

-- a letter that is unknown, and before it letters as told
pub record UnknownBehind (l : Letters) (Before : Letter → Type 0) (letters : List Letter) (c : ℕ) : Type 0 where
  pub known : List Letter
  pub unknown : Letter
  pub rest : List Letter
  pub these : letters ≡ known ++ (unknown ∷ rest)
  pub before : All Before known
  pub nobody : Unknown l unknown.character
  pub letter : unknown.character ≡ c

-- a flag's or an argument's
abbrev pub KnownLetter : Letters → Letter → Type 0
KnownLetter l x = (contains l.flags x.character ≡ true) ⊎ (contains l.arguments x.character ≡ true)

-- the shape, and the first letter that is unknown
pub record HasUnknown (l : Letters) (os : List ℕ) (c : ℕ) : Type 0 where
  pub letters : List Letter
  pub shape : ClusterShape os letters
  pub unknown : UnknownBehind l (KnownLetter l) letters c

pub record WordUnknown (x : LeftPlace) (c : ℕ) : Type 0 where
  pub text : List ℕ
  pub item : get_elem? (line_items x) x.place ≡ some (Word text)
  pub whole : argument_at x.arguments x.groups x.place ≡ some text
  pub unknown : HasUnknown (letters_of x.form) text c

abbrev pub ReasonHolds : LeftPlace → Reason → Type 0
ReasonHolds x (lost_choice w) = LostTo x w
ReasonHolds x (given_earlier j) = GivenBefore (line_items x) x.place j
ReasonHolds x key_used = KeyIsUsed x
ReasonHolds x unnamed = NobodyNames x
ReasonHolds x no_positional = NobodyTakes x
ReasonHolds x (unknown_letter c) = WordUnknown x c
ReasonHolds x none_of_these = Unit {0}

-- ---- what splitting withdraws
-- the cluster of an argument ended in an unknown letter
pub record Withdrawn (l : Letters) (os : List ℕ) : Type 0 where
  pub name : List ℕ
  pub place : ℕ
  pub parts : split_os_argument os ≡ ok (some (record { type = short; name = name; body = none }))
  pub outcome : outcome_of l name ≡ ok (withdrawn place)

-- the shape, and every letter before the first unknown one is a flag's and no argument's
pub record FlagsThenUnknown (l : Letters) (os : List ℕ) : Type 0 where
  pub letters : List Letter
  pub shape : ClusterShape os letters
  pub character : ℕ
  pub unknown : UnknownBehind l (λ (x : Letter). FlagsOnly l x.character) letters character

-- whether an item is a Short that has its value in its own argument
unfoldable pub adjacent_short : Item → Bool
adjacent_short (Short c a t) = a
adjacent_short (Long n a t) = false
adjacent_short (ArgWord t) = false
adjacent_short (Word t) = false
adjacent_short (PosWord t) = false

-- whether the item before a place is one
unfoldable pub behind_adjacent : List Item → ℕ → Bool
behind_adjacent is zero = false
behind_adjacent is (suc k) = elim (get_elem? is k) [ none ↦ false | some y ↦ adjacent_short y ]

pub record Withdrawals : Type 0 where
  -- splitting withdraws an argument exactly if it is so, and then, before the first `--`, its one item is a Word
  pub withdraws : (l : Letters) (os : List ℕ) → FlagsThenUnknown l os → Withdrawn l os
  pub exactly : (l : Letters) (os : List ℕ) → Withdrawn l os → FlagsThenUnknown l os
  pub word :
      (l : Letters) (args : List (List ℕ)) (x : Split) (k : ℕ) (os : List ℕ)
      → split_from l 0 args ≡ ok x
      → x.ambiguous ≡ none
      → get_elem? args k ≡ some os
      → has_marker (take k args) ≡ false
      → Withdrawn l os
      → get_elem? x.groups k ≡ some (Word os ∷ [])
  -- of a Word that is a whole argument, shape and unknown letter hold exactly if it was withdrawn
  pub whole :
      (l : Letters) (args : List (List ℕ)) (x : Split) (i : ℕ) (os : List ℕ)
      → split_from l 0 args ≡ ok x
      → x.ambiguous ≡ none
      → get_elem? (items_of x) i ≡ some (Word os)
      → argument_at args x.groups i ≡ some os
      → ((c : ℕ) → HasUnknown l os c → Withdrawn l os) × (Withdrawn l os → (c : ℕ) × HasUnknown l os c)
  -- a Word is less than its argument exactly behind an adjacent Short
  pub part :
      (l : Letters) (args : List (List ℕ)) (x : Split) (i : ℕ) (t os : List ℕ)
      → split_from l 0 args ≡ ok x
      → x.ambiguous ≡ none
      → get_elem? (items_of x) i ≡ some (Word t)
      → argument_at args x.groups i ≡ some os
      → same t os ≡ not (behind_adjacent (items_of x) i)

-- ---- every input is answered
-- a reason that holds, and none before it does
pub record Reasoned (b s : List ℕ) (i : ℕ) (x : Explained) : Type 0 where
  pub number : x.number ≡ 0
  pub place : x.place ≡ none
  pub given : Reason
  pub told : x.reason ≡ some given
  pub spot : LeftPlace
  pub found : left_place b s x.ran i ≡ ok spot
  pub holds : ReasonHolds spot given
  pub first : (p : Reason) → reason_code p < reason_code given → ReasonHolds spot p → ⊥

pub record Unexplained (n : ℕ) (k : Option ℕ) (x : Explained) : Type 0 where
  pub number : x.number ≡ n
  pub place : x.place ≡ k
  pub reason : x.reason ≡ none

-- refused as the run with 1 to 9 and 14; then 28, but for a present place where the run ended in 27
pub record WhyAnswered (b s : List ℕ) (i ni na nl : ℕ) : Type 0 where
  pub answer : Explained
  pub answered : why b s i ni na nl ≡ ok answer
  pub ran : run b s ni na nl ≡ ok answer.ran
  pub as_run : refused_before answer.ran.number ≡ true → Unexplained answer.ran.number answer.ran.place answer
  pub not_left :
      refused_before answer.ran.number ≡ false
      → ((answer.ran.number ≡ 27) × (present_at answer.ran.state.marks i ≡ true) → ⊥)
      → Unexplained 28 none answer
  pub left : answer.ran.number ≡ 27 → present_at answer.ran.state.marks i ≡ true → Reasoned b s i answer
