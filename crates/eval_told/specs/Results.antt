-- The results that the code makes.
use Rattle.std.specs.Prelude.{ℕ, ◌+◌}
use Rattle.state_marks.specs.declared.Numbers.{Numbers}
use Rattle.eval_told.specs.declared.Ran.{Ran}

abbrev pub value_ran : ℕ → ℕ → ℕ → Numbers → Ran
value_ran tries len word p = record { number = 0; place = 0; tries = tries; len = len; word = word; numbers = p }

abbrev pub refusal_ran : ℕ → ℕ → ℕ → Numbers → Ran
refusal_ran number place tries p = record { number = number; place = place; tries = tries; len = 0; word = 0; numbers = p }

abbrev pub more_tries : Ran → ℕ → Ran
more_tries ran tries = record {
  number = ran.number;
  place = ran.place;
  tries = tries + ran.tries;
  len = ran.len;
  word = ran.word;
  numbers = ran.numbers;
}

-- a result whose words are written, so many of them
abbrev pub written : Ran → ℕ → Ran
written r len = record {
  number = r.number;
  place = r.place;
  tries = r.tries;
  len = len;
  word = 0;
  numbers = r.numbers;
}
