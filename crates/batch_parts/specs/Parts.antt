-- Parts of w words each, one after the other in a slice.
use Rattle.std.specs.Prelude.{List, [], ◌∷◌, ◌++◌, ◌≡◌, ℕ, ◌+◌, ◌-◌, ◌*◌, ◌≤◌, ◌<◌, length, take, drop, replicate}
use Rattle.run_fields.specs.declared.Reached.{Reached}

pub record PartFits (w k : ℕ) (o : List ℕ) : Type 0 where
  pub below : k < 32
  pub room : w * k + w ≤ length o

-- part k became q; all else is as it was
pub record Replaced (w k : ℕ) (q o o' : List ℕ) : Type 0 where
  pub long : length q ≡ w
  pub words : o' ≡ take (w * k) o ++ (q ++ drop (w * k + w) o)

-- the words from n on are 0
abbrev pub cleared_past : ℕ → List ℕ → List ℕ
cleared_past n o = take n o ++ replicate (length o - n) 0

-- the words of a record
abbrev pub reached_words : Reached → List ℕ
reached_words r = r.number ∷ r.place ∷ r.tries ∷ r.words ∷ []
