-- By the kind (`Records`). Assumes nothing.
use borrow.Author.Rules.{rules}
use Rattle.split_arg.proofs.Records.{read_short, read_long, read_arg_word, read_word, read_pos_word}
use Rattle.split_arg.proofs.read_item.Goals as goal

pub returns-in-1 : goal.returns-in-1
returns-in-1 c =
    read_short c.args.items.now c.args.at _ _ _ _ c.word-adjacent.ensures c.word.ensures c.word-2.ensures c.word-3.ensures _ c.word-in-1.ensures
    c.in-1.is

pub returns-in-2 : goal.returns-in-2
returns-in-2 c =
    read_long c.args.items.now c.args.at _ _ _ _ c.word-adjacent.ensures c.word.ensures c.word-2.ensures c.word-3.ensures _ _ c.word-in-2.ensures
    c.word-in-2-2.ensures c.in-2.is

pub returns-in-3 : goal.returns-in-3
returns-in-3 c = read_arg_word c.args.items.now c.args.at _ _ _ _ c.word-adjacent.ensures c.word.ensures c.word-2.ensures c.word-3.ensures c.in-3.is

pub returns-in-4 : goal.returns-in-4
returns-in-4 c = read_word c.args.items.now c.args.at _ _ _ _ c.word-adjacent.ensures c.word.ensures c.word-2.ensures c.word-3.ensures c.in-4.is

pub returns-in_default : goal.returns-in_default
returns-in_default c =
    read_pos_word c.args.items.now c.args.at _ _ _ _ c.word-adjacent.ensures c.word.ensures c.word-2.ensures c.word-3.ensures
    (search rules) (search rules) (search rules) (search rules)
