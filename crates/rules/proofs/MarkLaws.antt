-- What marks tell: they turn as told, and other numbers for the parsed ones change nothing else.
use mathlib.Core.Bool.{Bool, true, false, ◌&&◌}
use mathlib.Core.List.{List, [], ◌∷◌, map}
use mathlib.Core.Path.{◌≡◌, refl}
use Prim.Native.Nat.{ℕ, suc, ◌+◌}
use Rattle.std.specs.Prelude.{if◌then◌else◌}
use Rattle.rules.specs.State.{parsed, present, pick_from, pick_winner, conflicts, save_conflicts}
use Rattle.rules.specs.Marks.{Keeps, MarksTold}
use Rattle.rules.proofs.Places.{conflict_present}
use Rattle.rules.proofs.NodeFields.{node_field, field_below}
use Rattle.rules.proofs.Turning.{eval_turns, run_turns}

-- ---- other numbers
pick_renamed :
    (r q : ℕ → ℕ)
    → Keeps r
    → Keeps q
    → (i : ℕ) (ms os : List ℕ)
    → pick_from i (map r ms) (map q os) ≡ pick_from i ms os
unfolding pick_from
pick_renamed r q h g i [] os = refl
pick_renamed r q h g i (m ∷ ms) [] = refl
pick_renamed r q h g i (m ∷ ms) (o ∷ os) = rw (h m, g o, pick_renamed r q h g (suc i) ms os)

loser_renamed : (r : ℕ → ℕ) → Keeps r → (w : ℕ) (ms ls : List ℕ) → conflicts w ms (map r ls) ≡ conflicts w ms ls
unfolding conflicts
loser_renamed r h w [] ls = refl
loser_renamed r h w (m ∷ ms) [] = refl
loser_renamed r h w (m ∷ ms) (l ∷ ls) = rw (h l, loser_renamed r h w ms ls)

-- a function of what is picked
if_map : (r : ℕ → ℕ) (b : Bool) (x y : ℕ) → r (if b then x else y) ≡ (if b then r x else r y)
if_map r true x y = refl
if_map r false x y = refl

winner_renamed : (r : ℕ → ℕ) → Keeps r → (w : ℕ) → r (2 + w) ≡ 2 + w → (ms ls : List ℕ) → conflicts w (map r ms) ls ≡ map r (conflicts w ms ls)
unfolding conflicts present
winner_renamed r h w e [] ls = refl
winner_renamed r h w e (m ∷ ms) [] = refl
winner_renamed r h w e (m ∷ ms) (l ∷ ls) = rw (h m, if_map r (present m && parsed l) (2 + w) m, e, winner_renamed r h w e ms ls)

pub marks_told : MarksTold
unfolding pick_winner save_conflicts
marks_told = record {
  node = eval_turns;
  run = run_turns;
  field = node_field;
  below = field_below;
  pick = λ r q h g s t. pick_renamed r q h g 0 s.marks t.marks;
  loser = λ r h s t w. rw (loser_renamed r h w s.marks t.marks);
  winner = λ r h f s t w l. rw (winner_renamed r h w (f (2 + w) (conflict_present w l)) s.marks t.marks);
}
