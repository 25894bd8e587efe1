-- What the definitions give where the Rust would panic, and which states a run passes through: computed.
use mathlib.Core.Bool.{true, false}
use mathlib.Core.List.{List, [], ◌∷◌}
use mathlib.Core.Option.{some, none}
use mathlib.Core.Path.{◌≡◌, refl}
use Prim.Native.Nat.{ℕ}
use Rattle.rules.specs.Outcome.{Outcome, ok, refused, fault, panic, wrong_kind, endless, disambiguate_short207, construct361, construct390, remove431, remove433}
use Rattle.rules.specs.Outcome.{adjacent_scope506, adjacent_scope508, set_scope561, args_iter635, only_once282, only_once288}
use Rattle.rules.specs.Outcome.{parse_flag559, take_argument679}
use Rattle.rules.specs.Value.{Base, yes_no, text, number, one, optional, is_yes, is_number, Value, base, absent, present as there}
use Rattle.rules.specs.Tree.{Named, unrestricted, Flag, Argument, Positional, Optional, Last, Choice, Fallback, Guard}
use Rattle.rules.specs.Accept.{Letters}
use Rattle.rules.specs.Split.{Item, Short, Word}
use Rattle.rules.specs.State.{State}
use Rattle.rules.specs.Eval.{Visit}
use Rattle.rules.specs.Outcome.{refuse}
use Rattle.rules.specs.Value.{of_kind}
use Rattle.rules.specs.Tree.{kind_of}
use Rattle.rules.specs.Split.{cluster_from}
use Rattle.rules.specs.Split.{short_group}
use Rattle.rules.specs.State.{construct}
use Rattle.rules.specs.State.{first, remove}
use Rattle.rules.specs.State.{set_scope}
use Rattle.rules.specs.State.{adjacent_scope}
use Rattle.rules.specs.State.{before, only_once}
use Rattle.rules.specs.Eval.{repeat}
use Rattle.rules.specs.Eval.{eval}
use Rattle.rules.proofs.Opened.{formats, forms, splitting, states, evaluation}

-- ---- what the lines below run on
unfoldable named_v : Named
named_v = record { shorts = 118 ∷ []; longs = [] }

unfoldable named_q : Named
named_q = record { shorts = 113 ∷ []; longs = [] }

-- `-v`; `-q` `-v`; `a`
unfoldable flag_item : List Item
flag_item = Short 118 false (45 ∷ 118 ∷ []) ∷ []

unfoldable two_items : List Item
two_items = Short 113 false (45 ∷ 113 ∷ []) ∷ Short 118 false (45 ∷ 118 ∷ []) ∷ []

-- `-v` `a`
unfoldable value_items : List Item
value_items = Short 118 false (45 ∷ 118 ∷ []) ∷ Word (97 ∷ []) ∷ []

unfoldable word_item : List Item
word_item = Word (97 ∷ []) ∷ []

unfoldable fresh : State
fresh = record { marks = 0 ∷ 0 ∷ []; remaining = 2; current = none; start = 0; end = 2 }

unfoldable after_one : State
after_one = record { marks = 0 ∷ 512 ∷ []; remaining = 1; current = some 1; start = 0; end = 2 }

unfoldable after_zero : State
after_zero = record { marks = 512 ∷ 0 ∷ []; remaining = 1; current = some 0; start = 0; end = 2 }

-- place 1 is in conflict with place 0
unfoldable after_choice : State
after_choice = record { marks = 512 ∷ 2 ∷ []; remaining = 1; current = some 0; start = 0; end = 2 }

unfoldable one_word : State
one_word = record { marks = 0 ∷ []; remaining = 1; current = none; start = 0; end = 1 }

unfoldable word_used : State
word_used = record { marks = 512 ∷ []; remaining = 0; current = some 0; start = 0; end = 1 }

unfoldable nothing : State
nothing = record { marks = []; remaining = 0; current = none; start = 0; end = 0 }

-- states that no run gives: marks, remaining and a scope that do not fit one another
unfoldable forged : List ℕ → ℕ → ℕ → ℕ → State
forged marks left a b = record { marks = marks; remaining = left; current = none; start = a; end = b }

unfoldable no_names : Named
no_names = record { shorts = []; longs = [] }

unfoldable no_letters : Letters
no_letters = record { flags = []; arguments = [] }

unfoldable visited : Base → State → Outcome Value → State → Visit
visited b s o t = record { kind = some (one b); given = s; outcome = o; left = t }

unfoldable gave_yes : Outcome Value
gave_yes = ok (base (is_yes true))

-- node 0 looked in vain in an empty scope
unfoldable missing_v : Outcome Value
missing_v = refused (record { number = 20; place = none; missing = record { node = 0; start = 0; end = 0 } ∷ [] })

-- ---- spots where the Rust would panic: an ill-made tree or a forged state on which the definition gives that outcome.
-- 185 takes what is behind the first byte of a name that was found to have more; 391 and 434 come right after a write at the same
-- place has succeeded, so there is an item and the place is there; 125 to 127 look up the first of a list that was found not empty;
-- 305 and 307 unwrap the value of a side that was found to have no error. Neither the Rust nor the definition can reach these.
-- The last three are the other faults
spots :
    -- a cluster that is not UTF-8
    (cluster_from 0 0 (0xFF ∷ []) ≡ fault (panic disambiguate_short207))
    -- a short name of no byte
    × (short_group no_letters [] [] (some []) ≡ fault (panic construct361))
    -- a `--` at a place that is not there
    × (construct 510 0 (some 0) ≡ fault (panic construct390))
    -- a scope past the marks; a present place with nothing remaining
    × (remove 512 (forged [] 0 0 1) 0 ≡ fault (panic remove431))
    × (remove 512 (forged (0 ∷ []) 0 0 1) 0 ≡ fault (panic remove433))
    -- a scope that starts past the marks of the one state, and of the other
    × (adjacent_scope (forged (0 ∷ []) 0 2 2) (forged (0 ∷ 0 ∷ []) 0 0 2) ≡ fault (panic adjacent_scope506))
    × (adjacent_scope (forged (0 ∷ []) 0 1 1) (forged [] 0 0 0) ≡ fault (panic adjacent_scope508))
    -- a scope that falls
    × (set_scope (forged (0 ∷ []) 1 0 1) 1 0 ≡ fault (panic set_scope561))
    -- more marks than items
    × (first [] (forged (0 ∷ []) 1 0 1) ≡ fault (panic args_iter635))
    -- a place past the items; an earlier place that is not earlier
    × (only_once [] 1 ≡ fault (panic only_once282))
    × (before 0 (some 0) ≡ fault (panic only_once288))
    -- a required flag, and an argument, that have no name
    × ((eval 512 [] (Flag 0 no_names false) (forged [] 0 0 0)).outcome ≡ fault (panic parse_flag559))
    × ((eval 512 [] (Argument 0 no_names text false) (forged [] 0 0 0)).outcome ≡ fault (panic take_argument679))
    -- a guard on a flag
    × ((eval 512 flag_item (Guard 1 5 (Flag 0 named_v false)) (forged (0 ∷ []) 1 0 1)).outcome ≡ fault wrong_kind)
    -- an argument that is to be read as a yes/no
    × ((eval 512 value_items (Argument 0 named_v yes_no false) fresh).outcome ≡ fault wrong_kind)
    -- an optional of an optional: its value is of no kind
    × ((eval 512 [] (Optional false (Optional false (Flag 0 named_v false))) nothing).outcome ≡ ok (there absent))
    × (kind_of (Optional false (Optional false (Flag 0 named_v false))) ≡ none)
    × (of_kind none (there absent) ≡ false)
    -- a repeat with one turn's fuel
    × ((repeat false false 1 none (eval 512 flag_item (Flag 0 named_v true)) (forged (0 ∷ []) 1 0 1)).outcome ≡ fault endless)
unfolding formats forms splitting states evaluation named_v named_q flag_item two_items value_items word_item fresh after_one
    after_zero after_choice one_word word_used nothing forged no_names no_letters visited gave_yes missing_v
spots = (refl, refl, refl, refl, refl, refl, refl, refl, refl, refl, refl, refl, refl, refl, refl, refl, refl, refl, refl)

-- ---- states passed through
passed_through :
    -- the loser of a choice: v, q on `-q` `-v`; the first evaluation is v's, which loses
    ((eval 512 two_items (Choice (Flag 0 named_v false) (Flag 1 named_q false)) fresh).trace
    ≡ (visited yes_no fresh gave_yes after_one ∷ visited yes_no fresh gave_yes after_zero ∷ visited yes_no fresh gave_yes after_choice ∷ []))
    -- an optional that is put back: its child has used the word
    × ((eval 512 word_item (Optional true (Positional 0 unrestricted number)) one_word).trace
    ≡ (visited number one_word (refused (refuse 25 (some 0))) word_used
    ∷ record { kind = some (optional number); given = one_word; outcome = ok absent; left = one_word }
    ∷ []))
    -- a fallback that refuses: its child has used the word, on the copy
    × ((eval 512 word_item (Fallback (is_number 9) (Positional 0 unrestricted number)) one_word).trace
    ≡ (visited number one_word (refused (refuse 25 (some 0))) word_used ∷ visited number one_word (refused (refuse 25 (some 0))) one_word ∷ []))
    -- `last` with no value tries its child once more: two evaluations of the child, one of its own
    × ((eval 512 [] (Last (Flag 0 named_v false)) nothing).trace
    ≡ (visited yes_no nothing missing_v nothing ∷ visited yes_no nothing missing_v nothing ∷ visited yes_no nothing missing_v nothing ∷ []))
    -- a fault is in the trace: a guard on a flag
    × ((eval 512 flag_item (Guard 1 5 (Flag 0 named_v false)) one_word).trace
    ≡ (visited yes_no one_word gave_yes word_used
    ∷ record { kind = none; given = one_word; outcome = fault wrong_kind; left = word_used }
    ∷ []))
unfolding formats forms splitting states evaluation named_v named_q flag_item two_items value_items word_item fresh after_one
    after_zero after_choice one_word word_used nothing forged no_names no_letters visited gave_yes missing_v
passed_through = (refl, refl, refl, refl, refl)

-- ---- decisions that are easily made otherwise
decided :
    -- `last` with no value: both tries count
    ((eval 512 [] (Last (Flag 0 named_v false)) nothing).tries ≡ 2)
    -- a success that used nothing gives way to 22: argument v, or 9 where q is missing, on `-v`
    × ((eval 512 flag_item (Choice (Argument 0 named_v number false) (Fallback (is_number 9) (Argument 1 named_q number false))) one_word).outcome
    ≡ refused (refuse 22 (some 0)))
    -- and so does one on the other side
    × ((eval 512 flag_item (Choice (Fallback (is_number 9) (Argument 1 named_q number false)) (Argument 0 named_v number false)) one_word).outcome
    ≡ refused (refuse 22 (some 0)))
unfolding formats forms splitting states evaluation named_v named_q flag_item two_items value_items word_item fresh after_one
    after_zero after_choice one_word word_used nothing forged no_names no_letters visited gave_yes missing_v
decided = (refl, refl, refl)
