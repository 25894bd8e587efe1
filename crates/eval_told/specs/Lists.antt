-- What the run of a repeat tells: the words of each value that was counted.
use Rattle.std.specs.Prelude.{List, [], ◌∷◌, ◌++◌, map, ℕ, ◌+◌}
use Rattle.std.proofs.Math.Option.{Option, some, none}
use Rattle.rules.specs.Outcome.{ok, refused, fault}
use Rattle.rules.specs.Value.{Value, words}
use Rattle.rules.specs.Codes.{place_code}
use Rattle.rules.specs.State.{State}
use Rattle.rules.specs.Eval.{Ran as Run, Visit}

pub record ToldList : Type 0 where
  pub number : ℕ
  pub place : ℕ
  pub tries : ℕ
  pub values : List (List ℕ)
  pub state : State

unfoldable pub told_list : Run (List Value) → Option ToldList
told_list r = elim r.outcome [
  | ok vs ↦ some (record { number = 0; place = 0; tries = r.tries; values = map words vs; state = r.state })
  | refused e ↦ some (record
      { number = e.number; place = place_code e.place; tries = r.tries; values = []; state = r.state })
  | fault x ↦ none
]

-- the last of some values; none is no words
unfoldable pub last_words : List (List ℕ) → List ℕ
last_words [] = []
last_words (w ∷ ws) = elim ws [ [] ↦ w | v ∷ vs ↦ last_words ws ]

-- a run, behind what came before it: tries, trace and values
unfoldable pub prefixed : ℕ → List Visit → List Value → Run (List Value) → Run (List Value)
prefixed n trace vs r = record {
  outcome = elim r.outcome [ ok ws ↦ ok (vs ++ ws) | refused e ↦ refused e | fault x ↦ fault x ];
  state = r.state;
  tries = n + r.tries;
  trace = trace ++ r.trace;
}
