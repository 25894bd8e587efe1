-- Text written behind text.
use Rattle.std.specs.Prelude.{List, [], ◌∷◌, ◌++◌, ◌≡◌, ℕ, ◌+◌, ◌≤◌, length, take, drop}
use Rattle.std.proofs.Math.Option.{Option}
use Rattle.rules.specs.Bench.{decimal, place_text}

-- the text in o up to at, and behind it part, which ends at end; what stands behind that is as it was
pub record Appends (o : List ℕ) (at : ℕ) (o' : List ℕ) (end : ℕ) (part : List ℕ) : Type 0 where
  pub text : take end o' ≡ take at o ++ part
  pub rest : drop end o' ≡ drop end o
  pub size : end ≡ at + length part
  pub inside : end ≤ length o'

-- `answer N place P tries T words W`
unfoldable pub line_text : ℕ → Option ℕ → ℕ → ℕ → List ℕ
line_text number place tries count =
    (97 ∷ 110 ∷ 115 ∷ 119 ∷ 101 ∷ 114 ∷ 32 ∷ decimal number)
    ++ (32 ∷ 112 ∷ 108 ∷ 97 ∷ 99 ∷ 101 ∷ 32 ∷ place_text place)
    ++ (32 ∷ 116 ∷ 114 ∷ 105 ∷ 101 ∷ 115 ∷ 32 ∷ decimal tries)
    ++ (32 ∷ 119 ∷ 111 ∷ 114 ∷ 100 ∷ 115 ∷ 32 ∷ decimal count)
    ++ (10 ∷ [])
