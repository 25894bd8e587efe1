-- The words of the run stand first in the answer slice; their text follows the first line. Assumes nothing.
use native.Mathlib.Omega.{arith}
use borrow.Author.Rules.{rules}
use mathlib.Core.Path.{refl}
use Rattle.bench.proofs.Reported.{few_words, share_length, words_most, bench_appends}
use Rattle.bench.proofs.answer.Goals as goal

pub slice_bounds-answers-end : goal.slice_bounds-answers-end
slice_bounds-answers-end c =
    few_words _ _ _ _ _ _ c.form_part-form.ensures c.sheet_part-sheet.ensures (search rules) (search rules) (search rules) _ _ _ _ c.run-ran.ensures
    (search rules) _ refl

pub slice_bounds-append_words-end : goal.slice_bounds-append_words-end
slice_bounds-append_words-end c =
    share_length _ _ _ _ _ _ c.form_part-form.ensures c.sheet_part-sheet.ensures (search rules) (search rules) (search rules) _ _ _ _ c.run-ran.ensures
    (search rules) _ refl

pub append_words-requires : goal.append_words-requires
append_words-requires c =
    omega (
      arith,
      c.first_line-end.ensures.1,
      words_most _ _ _ _ _ _ c.form_part-form.ensures c.sheet_part-sheet.ensures (search rules) (search rules)
          (search rules) _ _ _ _ c.run-ran.ensures (search rules) _ refl,
    )

pub returns : goal.returns
returns c =
    let said = bench_appends _ _ _ _ _ _ c.form_part-form.ensures c.sheet_part-sheet.ensures (search rules) (search rules) (search rules) _ _ _ _ c.run-ran.ensures _ _ _
    c.first_line-end.ensures.0 _ refl _ _ c.append_words.ensures in
    record { prefix_len = said.0; input_value = said.1 }
