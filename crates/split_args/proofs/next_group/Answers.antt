-- By whether `--` was seen. Assumes nothing.
use Rattle.split_arg.specs.Clusters.{meaning}
use Rattle.split_group.proofs.Groups.{makes_same}
use Rattle.split_args.proofs.Lines.{group_first, group_later}
use Rattle.split_args.proofs.next_group.Goals as goal

pub returns-then-marker-eq0 : goal.returns-then-marker-eq0
returns-then-marker-eq0 c =
    makes_same c.args.os.now c.args.begin c.args.at c.args.items.now _ _ _ _ c.split_argument.ensures
    (group_first (meaning c.args.letters.now) c.args.marker c.args.os.now c.if-marker-eq0.true)

pub returns : goal.returns
returns c =
    makes_same c.args.os.now c.args.begin c.args.at c.args.items.now _ _ _ _ c.split_positional.ensures
    (group_later (meaning c.args.letters.now) c.args.marker c.args.os.now c.if-marker-eq0.false)
