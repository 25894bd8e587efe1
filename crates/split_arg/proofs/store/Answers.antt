use borrow.Author.Rules.{rules}
use mathlib.Core.Path.{ap, ◌∙◌}
use lib.ListN.{length, get_or}
use lib.Seq.{length-sets}
use Rattle.split_arg.proofs.Records.{in_room, sixth_inside, seventh_inside, words_stored}
use Rattle.split_arg.proofs.store.Goals as goal

pub bounds-items-i-2 : goal.bounds-items-i-2
bounds-items-i-2 c = search (in_room, rules)

pub bounds-items-i-3 : goal.bounds-items-i-3
bounds-items-i-3 c = search (in_room, rules)

pub bounds-items-i-4 : goal.bounds-items-i-4
bounds-items-i-4 c = search (in_room, rules)

pub bounds-items-i-5 : goal.bounds-items-i-5
bounds-items-i-5 c = search (in_room, rules)

pub bounds-items-i-6 : goal.bounds-items-i-6
bounds-items-i-6 c = let w = c.args.words in sixth_inside c.args.items.now c.args.i (get_or w 0 0) (get_or w 1 0) (get_or w 2 0) (get_or w 3 0) (get_or w 4 0) c.requires

pub bounds-items-i-7 : goal.bounds-items-i-7
bounds-items-i-7 c =
    let w = c.args.words in
    seventh_inside c.args.items.now c.args.i (get_or w 0 0) (get_or w 1 0) (get_or w 2 0) (get_or w 3 0) (get_or w 4 0) (get_or w 5 0) c.requires

pub shape_of-items : goal.shape_of-items
shape_of-items c = ap length (words_stored c.args.items.now c.args.i c.args.words (search rules)) ∙ length-sets c.args.items.now c.args.i c.args.words

pub returns : goal.returns
returns c = words_stored c.args.items.now c.args.i c.args.words (search rules)
