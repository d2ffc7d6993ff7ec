use Rattle.std.proofs.Common.{refl}
use Rattle.name_ops.proofs.pair.Pair.take_second.Goals as goal

pub returns : goal.returns
returns c = record {
  step = c.took-step.result;
  walked = record c.args.self.now { second = c.took-step.new.self };
  takes = c.took-step.ensures;
  walked_is = refl;
  next_is = c.follow_second.ensures.next;
  pair_is = c.follow_second.ensures.machine;
}
