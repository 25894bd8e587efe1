-- What the rules say of a single call is what the case says. The state that is given is s, the second one t; b has the numbers of the
-- answer and the state that is left.
use Rattle.std.specs.Prelude.{◌≡◌, List, [], ◌∷◌, ℕ, length}
use Rattle.std.proofs.Math.Option.{Option, some}
use Rattle.rules.specs.Calls.{call_remove, call_pick_winner, call_save_conflicts, call_set_scope, call_adjacent_scope, call_available_from}
use Rattle.rules.specs.Calls.{call_conflict, call_take_positional, call_only_once, call_matches, call_take_flag, call_take_arg, call_take_cmd, call_eval}
use Rattle.rules.specs.declared.State.{State}
use Rattle.call_answers.specs.Answers.{yes_code, pick_code, scope_code, scope_or_none, conflict_code, taken_code, operand_code, place_or_none, answer_of, plain_answer, state_answer_of}
use Rattle.call_answers.specs.declared.Answer.{Answer}
use Rattle.call_answers.specs.declared.StateAnswer.{StateAnswer}
use Rattle.call_item.specs.Calls.{Gets}
use Rattle.call_item.specs.declared.Got.{Got}
use Rattle.call_node.specs.Node.{evaluated_answer}
use Rattle.run_fields.specs.declared.RunAnswer.{RunAnswer}
use Rattle.call_text.specs.Text.{TextOf}
use Rattle.replay.specs.Words.{Stands, AnswerAt}
use Rattle.replay.specs.declared.words.Head.{Head}

pub record Leaves (b : List ℕ) (s : State) (o : Option Answer) : Type 0 where
  pub answer : Answer
  pub says : o ≡ some answer
  pub same : AnswerAt b (answer.number ∷ answer.place ∷ 0 ∷ 0 ∷ answer.found ∷ answer.first ∷ answer.second ∷ []) s

pub record Changes (b : List ℕ) (o : Option StateAnswer) : Type 0 where
  pub answer : StateAnswer
  pub says : o ≡ some answer
  pub same : AnswerAt b (answer.number ∷ answer.place ∷ 0 ∷ 0 ∷ answer.found ∷ answer.first ∷ answer.second ∷ []) answer.state

-- the words are those of the item's record
pub record GetTold (sheet items : List ℕ) (s : State) (m : ℕ) (b words : List ℕ) : Type 0 where
  pub got : Got
  pub says : Gets sheet items s m got
  pub same : AnswerAt b (got.number ∷ got.place ∷ 0 ∷ 0 ∷ 0 ∷ 0 ∷ 0 ∷ []) s
  pub item : Stands words 0 got.item

-- the words are those of the answer slice
pub record EvalTold (form sheet items : List ℕ) (s : State) (m : ℕ) (b words : List ℕ) : Type 0 where
  pub before : List ℕ
  pub long : 8240 ≡ length before
  pub unlisted : List ℕ
  pub wide : 192 ≡ length unlisted
  pub answer : RunAnswer
  pub answers : List ℕ
  pub list : List ℕ
  pub says : evaluated_answer (call_eval form sheet items before unlisted s m) ≡ some (record { answer = answer; answers = answers; list = list })
  pub same : AnswerAt b (answer.number ∷ answer.place ∷ answer.tries ∷ answer.words ∷ 0 ∷ 0 ∷ 0 ∷ []) answer.state
  pub written : Stands words 0 answers

-- by the number of the call
pub data CallTold (h : Head) (form sheet items : List ℕ) (s t : State) (b words : List ℕ) : Type 0 where
  eval : h.call ≡ 5 → EvalTold form sheet items s h.m b words → CallTold h form sheet items s t b words
  get : h.call ≡ 6 → GetTold sheet items s h.m b words → CallTold h form sheet items s t b words
  remove : h.call ≡ 7 → Changes b (state_answer_of yes_code (call_remove s h.m h.n)) → CallTold h form sheet items s t b words
  pick_winner_lem : h.call ≡ 8 → Leaves b s (answer_of pick_code (call_pick_winner s t)) → CallTold h form sheet items s t b words
  save_conflicts_lem : h.call ≡ 9 → Changes b (state_answer_of yes_code (call_save_conflicts s t h.m)) → CallTold h form sheet items s t b words
  set_scope_lem : h.call ≡ 10 → Changes b (state_answer_of yes_code (call_set_scope s h.m h.n)) → CallTold h form sheet items s t b words
  adjacent_scope_lem : h.call ≡ 11 → Leaves b s (answer_of scope_or_none (call_adjacent_scope s t)) → CallTold h form sheet items s t b words
  available_from_lem : h.call ≡ 12 → Leaves b s (answer_of scope_code (call_available_from s h.m)) → CallTold h form sheet items s t b words
  conflict : h.call ≡ 13 → Leaves b s (answer_of conflict_code (call_conflict sheet items s)) → CallTold h form sheet items s t b words
  take_positional_lem : h.call ≡ 14 → Changes b (state_answer_of operand_code (call_take_positional sheet items s h.m)) → CallTold h form sheet items s t b words
  only_once_lem : h.call ≡ 15 → Leaves b s (plain_answer place_or_none (call_only_once sheet items h.m)) → CallTold h form sheet items s t b words
  matches : h.call ≡ 16 → Leaves b s (answer_of yes_code (call_matches form sheet items s h.m h.n)) → CallTold h form sheet items s t b words
  take_flag_lem : h.call ≡ 17 → Changes b (state_answer_of yes_code (call_take_flag form sheet items s h.m h.n)) → CallTold h form sheet items s t b words
  take_arg_lem : h.call ≡ 18 → Changes b (state_answer_of taken_code (call_take_arg form sheet items s h.m h.n)) → CallTold h form sheet items s t b words
  take_cmd_lem : h.call ≡ 19 → Changes b (state_answer_of yes_code (call_take_cmd form sheet items s h.m)) → CallTold h form sheet items s t b words

-- the bytes are those of the text
pub record TextTold (form sheet items : List ℕ) (m : ℕ) (b bytes : List ℕ) : Type 0 where
  pub number : ℕ
  pub place : ℕ
  pub says : TextOf form sheet items m number place bytes
  pub same : Stands b 0 (number ∷ place ∷ [])
