-- Both states are those of the case. Assumes nothing.
use Rattle.replay.proofs.cases.on_states.Goals as goal

pub returns : goal.returns
returns c e =
    record {
      s = _;
      t = _;
      first = c.state_same.ensures c.if-not-state_same.false;
      other = c.state_same-2.ensures c.if-not-state_same-2.false;
      told = c.call.ensures e;
    }
