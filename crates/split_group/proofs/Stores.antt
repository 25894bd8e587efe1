-- Records stored one after the other, where there is room.
use mathlib.Core.Path.{◌≡◌, refl, sym, ◌∙◌, ap}
use mathlib.Core.Bool.{false}
use mathlib.Core.List.{List, [], ◌∷◌, ◌++◌, append_assoc}
use Prim.Native.Nat.{ℕ, suc, ◌+◌, ◌*◌, ◌≤◌, ◌<◌}
use native.Mathlib.Nat.{add-zero, add-suc, suc-add}
use native.Mathlib.Omega.{arith}
use lib.ListN.{length, set, length-append}
use lib.Seq.{sets}
use borrow.Author.Tests.{le-leb, lt-leb}
use Rattle.std.specs.Prelude.{Option as CodeOption}
use Rattle.split_arg.specs.declared.Item.{Item}
use Rattle.split_arg.specs.declared.Item.TheVariants.{Short, Long, ArgWord, Word, PosWord}
use Rattle.split_arg.specs.Items.{record_of}
use Rattle.split_group.specs.declared.Group.{Group}
use Rattle.split_group.specs.Groups.{stored, Puts}

pub sets_append : (v w o : List ℕ) (i : ℕ) → sets o i (v ++ w) ≡ sets (sets o i v) (i + length v) w
sets_append [] w o i = rw add-zero
sets_append (x ∷ v) w o i = sets_append v w (set o i x) (suc i) ∙ rw (suc-add, ← add-suc)

-- the records behind k others
pub sets_behind :
    (o p q v w : List ℕ) (at k : ℕ)
    → p ≡ sets o (7 * at) v
    → length v ≡ 7 * k
    → q ≡ sets p (7 * (at + k)) w
    → q ≡ sets o (7 * at) (v ++ w)
sets_behind o p q v w at k e h f =
    let i : 7 * (at + k) ≡ 7 * at + length v = omega arith in
    f ∙ rw (i, e) (sym (sets_append v w o (7 * at)))

pub record_size : (x : Item) → length (record_of x) ≡ 7 * 1
record_size (Short c a t) = refl
record_size (Long n a t) = refl
record_size (ArgWord t) = refl
record_size (Word t) = refl
record_size (PosWord t) = refl

-- two more records
pub sets_two_behind :
    (o p q s v : List ℕ) (x y : Item) (at k : ℕ)
    → p ≡ sets o (7 * at) v
    → length v ≡ 7 * k
    → q ≡ sets p (7 * (at + k)) (record_of x)
    → s ≡ sets q (7 * (at + k + 1)) (record_of y)
    → s ≡ sets o (7 * at) (v ++ (record_of x ++ record_of y))
sets_two_behind o p q s v x y at k e h f g =
    let size : length (v ++ record_of x) ≡ 7 * (k + 1) = omega (arith, length-append v (record_of x), record_size x) in
    let place : 7 * (at + k + 1) ≡ 7 * (at + (k + 1)) = omega arith in
    sets_behind o q s (v ++ record_of x) (record_of y) at (k + 1) (sets_behind o p q v (record_of x) at k e h f) size (rw place at g)
    ∙ ap (λ (w : List ℕ). sets o (7 * at) w) (append_assoc v (record_of x) (record_of y))

pub no_room : (o : List ℕ) (at n : ℕ) (w : List ℕ) → 256 < at + n → o ≡ stored o at n w
unfolding stored
no_room o at n w h = rw (lt-leb (at + n) 256 h)

pub has_room : (o : List ℕ) (at n : ℕ) (w : List ℕ) → at + n ≤ 256 → sets o (7 * at) w ≡ stored o at n w
unfolding stored
has_room o at n w h = rw (le-leb (at + n) 256 h)

pub puts_nothing :
    (o : List ℕ) (at : ℕ) (r : Group) (n : ℕ) (a : CodeOption ℕ) (w : List ℕ)
    → r ≡ record { count = n; ambiguous = a; marker = false }
    → 256 < at + n
    → Puts o at o r n a w
puts_nothing o at r n a w e h = record { group = e; words≡ = no_room o at n w h }

pub puts_all :
    (o : List ℕ) (at : ℕ) (p : List ℕ) (r : Group) (n : ℕ) (a : CodeOption ℕ) (w : List ℕ)
    → r ≡ record { count = n; ambiguous = a; marker = false }
    → p ≡ sets o (7 * at) w
    → at + n ≤ 256
    → Puts o at p r n a w
puts_all o at p r n a w e f h = record { group = e; words≡ = f ∙ has_room o at n w h }
