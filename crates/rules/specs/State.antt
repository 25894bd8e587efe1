-- States, marks, and the calls on them.
use Rattle.std.specs.Prelude.{Bool, true, false, not, ◌&&◌, List, [], ◌∷◌, reverse, ℕ, zero, suc, ◌+◌, ◌-◌, leb, eqb, ltb, length, drop, replicate}
use Rattle.std.specs.Bool.{xor}
use Rattle.std.proofs.Math.Option.{Option, some, none}
use Rattle.std.proofs.Math.ListN.{get_elem?}
use Rattle.std.specs.Prelude.{if◌then◌else◌}
use Rattle.rules.specs.Base.{all, null, same, ◌>>?◌, minus, write, slice_from, slice}
use Rattle.rules.specs.Outcome.{Outcome, ok, ◌>>=◌, at}
use Rattle.rules.specs.Outcome.{construct390, construct391, remove431, remove433, remove434, adjacent_scope506, adjacent_scope508, set_scope561, args_iter635, only_once282, only_once288}
use Rattle.rules.specs.Split.{Item, Short, Long, ArgWord, Word, PosWord}

-- A state has a mark for each item; the length of the list is document 01's count. The scope is start..end.
pub record State : Type 0 where
  pub marks : List ℕ
  pub remaining : ℕ
  pub current : Option ℕ
  pub start : ℕ
  pub end : ℕ

-- Marks: 0 unparsed, 2 + w conflict with winner w (still present); parsed are 510, the opening `--`, 511, a command word, and
-- 512 + k, what field k used
unfoldable pub marker_mark : ℕ
marker_mark = 510

unfoldable pub command_mark : ℕ
command_mark = 511

unfoldable pub field_mark : ℕ → ℕ
field_mark k = 512 + k

unfoldable pub parsed : ℕ → Bool
parsed m = leb marker_mark m

unfoldable pub present : ℕ → Bool
present m = not (parsed m)

unfoldable pub winner : ℕ → Option ℕ
winner m = if parsed m then none else minus m 2

-- after `construct`: all unparsed but for the first `--`, whose mark is told
unfoldable pub construct : ℕ → ℕ → Option ℕ → Outcome State
construct mark n none = ok (record { marks = replicate n 0; remaining = n; current = none; start = 0; end = n })
construct mark n (some i) =
    at construct390 (write (replicate n 0) i mark) >>= λ marks.
    at construct391 (minus n 1) >>= λ left.
    ok (record { marks = marks; remaining = left; current = none; start = 0; end = n })

unfoldable pub empty_state : State
empty_state = record { marks = []; remaining = 0; current = none; start = 0; end = 0 }

-- ---- reading a state
unfoldable pub in_scope : State → ℕ → Bool
in_scope s i = leb s.start i && ltb i s.end

unfoldable pub present_at : List ℕ → ℕ → Bool
present_at marks i = elim (get_elem? marks i) [ none ↦ false | some m ↦ present m ]

-- the present ones of n places from i on
unfoldable pub present_from : List ℕ → ℕ → ℕ → List ℕ
present_from marks zero i = []
present_from marks (suc n) i =
    if present_at marks i then i ∷ present_from marks n (suc i) else present_from marks n (suc i)

-- The unused places in scope. "Remaining" is their number
unfoldable pub unused : State → List ℕ
unused s = present_from s.marks (s.end - s.start) s.start

-- `get`: the item at a place that is present and in scope
unfoldable pub get : List Item → State → ℕ → Option Item
get items s i = if in_scope s i && present_at s.marks i then get_elem? items i else none

-- `items_iter` and `find`: the first of these places whose item passes the test
pub record Found : Type 0 where
  pub place : ℕ
  pub item : Item

unfoldable pub find_in : List Item → (Item → Bool) → List ℕ → Outcome (Option Found)
find_in items test [] = ok none
find_in items test (i ∷ is) =
    at args_iter635 (get_elem? items i) >>= λ x.
    if test x then ok (some (record { place = i; item = x })) else find_in items test is

unfoldable pub find : List Item → (Item → Bool) → State → Outcome (Option Found)
find items test s = find_in items test (unused s)

unfoldable pub first : List Item → State → Outcome (Option Found)
first items s = find items (λ _. true) s

-- ---- `remove`: only a place in scope becomes parsed, by the mark told
unfoldable pub used : State → ℕ → List ℕ → ℕ → State
used s i marks left = record { marks = marks; remaining = left; current = some i; start = s.start; end = s.end }

unfoldable pub remove : ℕ → State → ℕ → Outcome State
remove mark s i =
    if in_scope s i
    then (at remove431 (get_elem? s.marks i) >>= λ m.
    if present m
    then (at remove433 (minus s.remaining 1) >>= λ left.
    at remove434 (write s.marks i mark) >>= λ marks. ok (used s i marks left))
    else ok s)
    else ok s

unfoldable pub with_current : Option ℕ → State → State
with_current c s = record { marks = s.marks; remaining = s.remaining; current = c; start = s.start; end = s.end }

-- ---- two states
pub record Picked : Type 0 where
  pub first : Bool
  pub place : Option ℕ

-- `pick_winner`: whether the first wins, and the first place where the two differ
unfoldable pub pick_from : ℕ → List ℕ → List ℕ → Picked
pick_from i [] theirs = record { first = true; place = none }
pick_from i (m ∷ ms) [] = record { first = true; place = none }
pick_from i (m ∷ ms) (o ∷ os) =
    if xor (parsed m) (parsed o) then record { first = parsed m; place = some i } else pick_from (suc i) ms os

unfoldable pub pick_winner : State → State → Picked
pick_winner s t = pick_from 0 s.marks t.marks

-- `save_conflicts`: what the loser used and the winner did not is in conflict with the winner's place
unfoldable pub conflicts : ℕ → List ℕ → List ℕ → List ℕ
conflicts w [] loser = []
conflicts w (m ∷ ms) [] = m ∷ ms
conflicts w (m ∷ ms) (l ∷ ls) = (if present m && parsed l then 2 + w else m) ∷ conflicts w ms ls

unfoldable pub save_conflicts : State → State → ℕ → State
save_conflicts s loser w = record {
  marks = conflicts w s.marks loser.marks;
  remaining = s.remaining;
  current = s.current;
  start = s.start;
  end = s.end;
}

-- `conflict`: the place and the winner, if the first present place in scope is in conflict
pub record Conflict : Type 0 where
  pub place : ℕ
  pub winner : ℕ

unfoldable pub conflict_at : State → Option Found → Option Conflict
conflict_at s none = none
conflict_at s (some x) =
    get_elem? s.marks x.place >>? λ m.
    winner m >>? λ w. some (record { place = x.place; winner = w })

unfoldable pub conflict : List Item → State → Outcome (Option Conflict)
conflict items s = first items s >>= λ x. ok (conflict_at s x)

-- ---- scopes
pub record Scope : Type 0 where
  pub start : ℕ
  pub end : ℕ

unfoldable pub count_present : List ℕ → ℕ
count_present [] = 0
count_present (m ∷ ms) = if present m then suc (count_present ms) else count_present ms

-- `set_scope`
unfoldable pub set_scope : State → ℕ → ℕ → Outcome State
set_scope s a b =
    at set_scope561 (slice a b s.marks) >>= λ part.
    ok (record { marks = s.marks; remaining = count_present part; current = s.current; start = a; end = b })

-- how many places from the front until one is present in both lists; none if there is no such
unfoldable pub until_present : ℕ → List ℕ → List ℕ → Option ℕ
until_present k [] theirs = none
until_present k (m ∷ ms) [] = none
until_present k (m ∷ ms) (o ∷ os) = if present m && present o then some k else until_present (suc k) ms os

unfoldable pub proposed : State → ℕ → Option Scope
proposed s k = if eqb k s.end then none else some (record { start = s.start; end = k })

-- `adjacent_scope`: from the scope's start up to the first place that is present here and in the original
unfoldable pub adjacent_scope : State → State → Outcome (Option Scope)
adjacent_scope s original =
    if null s.marks
    then ok none
    else (at adjacent_scope506 (slice_from s.start s.marks) >>= λ ours.
    at adjacent_scope508 (slice_from s.start original.marks) >>= λ theirs.
    ok (until_present s.start ours theirs >>? proposed s))

-- `adjacently_available_from`: the present places from one on, up to the first that is used
unfoldable pub span : List ℕ → ℕ
span [] = 0
span (m ∷ ms) = if present m then suc (span ms) else 0

unfoldable pub adjacently_available_from : State → ℕ → Scope
adjacently_available_from s a = record { start = a; end = a + span (drop a s.marks) }

-- ---- `only_once` (error.rs): the nearest earlier place with the same name
unfoldable pub match_short : ℕ → Item → Bool
match_short c (Short x a t) = eqb x c
match_short c (Long n a t) = false
match_short c (ArgWord t) = false
match_short c (Word t) = false
match_short c (PosWord t) = false

unfoldable pub match_long : List ℕ → Item → Bool
match_long l (Short x a t) = false
match_long l (Long n a t) = same n l
match_long l (ArgWord t) = false
match_long l (Word t) = false
match_long l (PosWord t) = false

unfoldable pub position : (Item → Bool) → ℕ → List Item → Option ℕ
position test k [] = none
position test k (x ∷ xs) = if test x then some k else position test (suc k) xs

unfoldable pub same_name : Item → List Item → Option ℕ
same_name (Short c a t) l = position (match_short c) 0 l
same_name (Long n a t) l = position (match_long n) 0 l
same_name (ArgWord t) l = none
same_name (Word t) l = none
same_name (PosWord t) l = none

-- the place that stands this far before another
unfoldable pub before : ℕ → Option ℕ → Outcome (Option ℕ)
before i none = ok none
before i (some k) = at only_once288 (minus i k >>? λ j. minus j 1) >>= λ j. ok (some j)

unfoldable pub only_once : List Item → ℕ → Outcome (Option ℕ)
only_once items i =
    if eqb i 0
    then ok none
    else (at only_once282 (slice 0 i items) >>= λ earlier.
    before i (get_elem? items i >>? λ x. same_name x (reverse earlier)))

-- ---- 29: what a state must keep. Of the parsed marks there are 510, 511, and 512 plus a field below their number
unfoldable pub used_below : ℕ → ℕ → Bool
used_below fields m = parsed m && ltb m (field_mark fields)

-- `used` are the marks that count as parsed
unfoldable pub mark_good : (ℕ → Bool) → ℕ → ℕ → Bool
mark_good used n m = if eqb m 0 then true else (if used m then true else (leb 2 m && ltb (m - 2) n))

unfoldable pub current_good : ℕ → Option ℕ → Bool
current_good n none = true
current_good n (some i) = ltb i n

unfoldable pub state_good : (fields n : ℕ) → State → Bool
state_good fields n s =
    eqb (length s.marks) n
    && leb n 256
    && (leb s.start s.end && leb s.end n)
    && all (mark_good (used_below fields) n) s.marks
    && current_good n s.current
    && eqb s.remaining (length (unused s))
