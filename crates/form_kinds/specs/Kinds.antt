-- Codes of nodes, by numbers alone. A code is the number of a node's kind (1 to 15), 16 more if there is a repeat here or
-- beneath, and 32 if the node is at fault. A child that is not there has 0. (proofs/Trees.antt: they are those of the trees.)
use Rattle.std.specs.Prelude.{Bool, false, ◌&&◌, [], ◌∷◌, ℕ, ◌+◌, ◌%◌, leb, ltb, eqb}
use Rattle.std.proofs.Math.Option.{some, none}
use Rattle.std.proofs.Math.ListN.{get_elem?}
use Rattle.std.specs.Prelude.{if◌then◌else◌}
use Rattle.rules.specs.Base.{is_some}
use Rattle.rules.specs.Form.{Node, Form}
use Rattle.rules.specs.Tree.{zeros, names_of}

-- ---- kinds 1 to 3
unfoldable pub named_good : Form → Node → ℕ → Bool
named_good f x most = leb x.r most && (zeros (x.lo ∷ x.hi ∷ []) && is_some (names_of f x))

unfoldable pub flag_code : Form → Node → ℕ
flag_code f x = if named_good f x 1 then 1 else 32

unfoldable pub argument_code : Form → Node → ℕ
argument_code f x = if named_good f x 3 then (if ltb x.r 2 then 2 else 3) else 32

unfoldable pub positional_code : Node → ℕ
positional_code x =
    if leb x.p 2 && zeros (x.q ∷ x.lo ∷ x.hi ∷ [])
    then (if eqb x.r 0 then 2 else (if eqb x.r 2 then 3 else 32))
    else 32

unfoldable pub leaf_code : Form → Node → ℕ
leaf_code f x =
    if eqb x.kind 1 then flag_code f x else
    (if eqb x.kind 2 then argument_code f x else
    (if eqb x.kind 3 then positional_code x else 32))

-- ---- kinds 4 to 8
unfoldable pub child_good : Node → Bool
child_good x =
    if ltb 6 x.kind
    then zeros (x.q ∷ x.r ∷ x.lo ∷ x.hi ∷ [])
    else leb x.r 1 && zeros (x.q ∷ x.lo ∷ x.hi ∷ [])

unfoldable pub optional_code : ℕ → ℕ
optional_code c =
    if eqb (c % 16) 0 then 32 else
    (if leb (c % 16) 3 then c + 3 else
    (if ltb (c % 16) 7 then 32 else
    (if leb (c % 16) 9 then c + 6 else 32)))

unfoldable pub repeat_code : ℕ → ℕ → ℕ
repeat_code kind c =
    if eqb c 0 then 32 else
    (if ltb 6 c then 32 else
    (if leb kind 6 then c + 22 else
    (if eqb kind 7 then 19 else c + 16)))

unfoldable pub wrap_code : Node → ℕ → ℕ
wrap_code x c = if child_good x then (if eqb x.kind 4 then optional_code c else repeat_code x.kind c) else 32

-- ---- kinds 9 to 11
unfoldable pub both_code : ℕ → ℕ → ℕ
both_code c d =
    if eqb (c % 16) 0 then 32 else
    (if eqb (c % 16) (d % 16) then (if leb 16 c then c else d) else 32)

unfoldable pub choice_code : Node → ℕ → ℕ → ℕ
choice_code x c d = if zeros (x.r ∷ x.lo ∷ x.hi ∷ []) then both_code c d else 32

unfoldable pub text_name : Form → ℕ → Bool
text_name f k = elim (get_elem? f.names k) [ none ↦ false | some m ↦ eqb m.type 2 ]

-- by the child's kind: text, yes/no, number
unfoldable pub fallback_by : Form → Node → ℕ → ℕ
fallback_by f x c =
    if eqb (c % 16) 2 then (if zeros (x.lo ∷ x.hi ∷ []) && text_name f x.r then c else 32) else
    (if zeros (x.r ∷ x.hi ∷ []) then
    (if eqb (c % 16) 1 then (if ltb 1 x.lo then 32 else c) else
    (if eqb (c % 16) 3 then c else 32)) else 32)

unfoldable pub fallback_code : Form → Node → ℕ → ℕ
fallback_code f x c = if eqb x.q 0 then fallback_by f x c else 32

unfoldable pub guard_by : ℕ → ℕ → ℕ → ℕ
guard_by lo hi c = if ltb hi lo then 32 else (if eqb (c % 16) 3 then c else 32)

unfoldable pub guard_code : Node → ℕ → ℕ
guard_code x c = if zeros (x.q ∷ x.r ∷ []) then guard_by x.lo x.hi c else 32

-- ---- kinds 4 and above
unfoldable pub inner_code : Form → Node → ℕ → ℕ → ℕ
inner_code f x c d =
    if leb x.kind 8 then wrap_code x c else
    (if eqb x.kind 9 then choice_code x c d else
    (if eqb x.kind 10 then fallback_code f x c else
    (if eqb x.kind 11 then guard_code x c else 32)))

-- the number of the second child, and 64, which no node has
unfoldable pub child_q : Node → ℕ
child_q x = if eqb x.kind 9 then x.q else 64
