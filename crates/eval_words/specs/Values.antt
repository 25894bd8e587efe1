-- What the small functions of a repeat make.
use Rattle.std.specs.Prelude.{ℕ, ◌+◌, ◌≤◌, ltb}
use Rattle.std.specs.Prelude.{if◌then◌else◌}
use Rattle.state_marks.specs.declared.Numbers.{Numbers}
use Rattle.eval_told.specs.declared.Ran.{Ran}
use Rattle.eval_told.specs.Results.{value_ran, refusal_ran}
use Rattle.eval_words.specs.declared.Repeated.{Repeated}

-- where the next turn of a repeat over a leaf searches from: behind what was used, if anything was
unfoldable pub next_from : ℕ → ℕ → Numbers → ℕ
next_from from given after = if ltb after.remaining given then after.current else from

abbrev pub no_value : Numbers → Repeated
no_value p = record {
  number = 0;
  place = 0;
  tries = 0;
  count = 0;
  size = 0;
  len = 0;
  word = 0;
  numbers = p;
}

-- sums that fit
pub record OneMoreFits (all : Repeated) (ran : Ran) (w : ℕ) : Type 0 where
  pub tries : all.tries + ran.tries ≤ 16512
  pub count : all.count ≤ 257
  pub size : all.size ≤ 514
  pub width : w ≤ 2

abbrev pub one_more : Repeated → Ran → ℕ → Repeated
one_more all ran width = record {
  number = 0;
  place = 0;
  tries = all.tries + ran.tries;
  count = all.count + 1;
  size = all.size + width;
  len = ran.len;
  word = ran.word;
  numbers = ran.numbers;
}

abbrev pub ended_with : Repeated → ℕ → Numbers → Repeated
ended_with all tries p = record {
  number = 0;
  place = 0;
  tries = all.tries + tries;
  count = all.count;
  size = all.size;
  len = all.len;
  word = all.word;
  numbers = p;
}

abbrev pub passed_on : Repeated → Ran → Repeated
passed_on all ran = record {
  number = ran.number;
  place = ran.place;
  tries = all.tries + ran.tries;
  count = 0;
  size = 0;
  len = 0;
  word = 0;
  numbers = ran.numbers;
}

abbrev pub denied_list : Repeated → Ran
denied_list all = refusal_ran all.number all.place all.tries all.numbers

abbrev pub counted_values : Repeated → Ran
counted_values all = value_ran all.tries 1 all.count all.numbers

abbrev pub last_value : Repeated → Ran
last_value all = value_ran all.tries all.len all.word all.numbers
