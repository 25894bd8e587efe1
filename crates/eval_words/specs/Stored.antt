-- The words of values in the answer slice.
use Rattle.std.specs.Prelude.{Bool, List, [], ◌∷◌, ◌≡◌, ℕ, ◌+◌, eqb, length, take, drop, replicate}
use Rattle.std.proofs.lemmas.List.Edits.{sets}
use Rattle.std.specs.Prelude.{if◌then◌else◌}
use Rattle.eval_told.specs.Told.{scalar_words}
use Rattle.eval_told.specs.declared.Ran.{Ran}
use Rattle.eval_told.specs.Results.{value_ran}
use Rattle.eval_words.specs.declared.Repeated.{Repeated}

-- a value's words are written
pub record Put (o : List ℕ) (at len word : ℕ) (o' : List ℕ) (r : ℕ) : Type 0 where
  pub width : r ≡ length (scalar_words len word)
  pub same : o' ≡ sets o at (scalar_words len word)

-- if it is to be written
pub record WroteValue (writes : Bool) (o : List ℕ) (at len word : ℕ) (o' : List ℕ) (r : ℕ) : Type 0 where
  pub width : r ≡ (if writes then length (scalar_words len word) else 0)
  pub same : o' ≡ (if writes then sets o at (scalar_words len word) else o)

-- a list, and its count before its words
pub record CountedList (all : Repeated) (o : List ℕ) (at : ℕ) (o' : List ℕ) (r : Ran) : Type 0 where
  pub same : r ≡ value_ran all.tries (all.size + 1) 0 all.numbers
  pub put : o' ≡ sets o at (all.count ∷ [])

-- words that are set aside, and are 0 then
pub record Aside (o : List ℕ) (at n : ℕ) (o' kept : List ℕ) : Type 0 where
  pub same : take n kept ≡ take n (drop at o)
  pub clear : o' ≡ sets o at (replicate n 0)

-- The words of a choice stand: those of the first side, which were set aside, or the second's, of which there are n. Refused, none stand
unfoldable pub settled : ℕ → Bool → List ℕ → ℕ → List ℕ → ℕ → List ℕ
settled number first o at kept n =
    if eqb number 0
    then (if first then sets (sets o at (replicate n 0)) at kept else o)
    else sets o at (replicate n 0)
