-- The numbers, then the marks, each widened to a word. Assumes nothing.
use Rattle.std.proofs.Common.{rules, of_calls, ◌≡◌, arith, sym, ◌∙◌, length, get_or}
use Rattle.replay.proofs.words.state_same.Goals as goal

pub returns-then-words_same : goal.returns-then-words_same
returns-then-words_same c e =
    let marks = c.map.ensures.items in
    let long : length c.args.s.marks ≡ 256 = search (rules, c.well_formed) in
    record {
      numbers = c.words_same.ensures c.if-words_same.true;
      marks = λ k l.
          let (p, q, called) = marks.at k 0 0 (omega (arith, long)) in
          let same : get_or c.map.result k 0 ≡ get_or c.args.s.marks k 0 = search (rules, of_calls) in
          sym same ∙ c.words_same-then-words_same.ensures e k (omega (arith, long, marks.long));
    }
