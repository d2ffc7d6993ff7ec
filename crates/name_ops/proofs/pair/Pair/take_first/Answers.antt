use Rattle.std.proofs.Common.{refl}
use Rattle.name_ops.proofs.pair.Pair.take_first.Goals as goal

pub returns : goal.returns
returns c = record {
  step = c.took-step.result;
  walked = record c.args.self.now { first = c.took-step.new.self };
  heard = c.took-step.new.shelf;
  takes = c.took-step.ensures;
  walked_is = refl;
  next_is = c.follow_first.ensures.next;
  pair_is = c.follow_first.ensures.machine;
  shelf_is = c.follow_first.ensures.shelf;
}
