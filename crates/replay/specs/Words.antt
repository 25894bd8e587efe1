-- What stands in a part of a case.
use Rattle.std.specs.Prelude.{◌≡◌, List, [], ◌∷◌, ℕ, ◌+◌, ◌*◌, ◌/◌, ◌<◌, ltb, length, get_or}
use Rattle.std.specs.Prelude.{if◌then◌else◌}
use Rattle.wire.specs.Wire.{number_at}
use Rattle.rules.specs.declared.State.{State}
use Rattle.replay.specs.declared.words.Head.{Head}

-- word k of the part, and 0 behind the last
unfoldable pub word_at : List ℕ → ℕ → ℕ
word_at b k = if ltb k (length b / 4) then number_at 4 b (4 * k) else 0

-- the first words of the first part: the call, and what it is told
unfoldable pub head_of : List ℕ → Head
head_of b = record { call = word_at b 0; word = word_at b 1; m = word_at b 1; n = word_at b 2 }

-- the numbers stand there from word `at` on
abbrev pub Stands : List ℕ → ℕ → List ℕ → Type 0
Stands b at xs = (k : ℕ) → k < length xs → get_or xs k 0 ≡ word_at b (at + k)

pub record StateAt (b : List ℕ) (at : ℕ) (s : State) : Type 0 where
  pub numbers : Stands b at (s.count ∷ s.remaining ∷ s.current ∷ s.start ∷ s.end ∷ [])
  pub marks : Stands b (at + 5) s.marks

-- the numbers of an answer, and the state that is left
pub record AnswerAt (b told : List ℕ) (s : State) : Type 0 where
  pub numbers : Stands b 0 told
  pub state : StateAt b 7 s
