-- An answer, and the state that is left beside it.
use Rattle.rules.specs.declared.State.{State as Raw}
use Rattle.call_answers.specs.declared.Answer.{Answer}
use Rattle.call_answers.specs.declared.StateAnswer.{StateAnswer}

abbrev pub answer_part : StateAnswer → Answer
answer_part a = record
    { number = a.number; place = a.place; found = a.found; first = a.first; second = a.second }

abbrev pub joined : Answer → Raw → StateAnswer
joined r x = record {
  number = r.number;
  place = r.place;
  found = r.found;
  first = r.first;
  second = r.second;
  state = x;
}
