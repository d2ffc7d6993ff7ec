use Rattle.std.proofs.Common.{refl}
use Rattle.name_ops.proofs.visit.Visit.took.Goals as goal

pub returns : goal.returns
returns c = record {
  step = c.took-step.result;
  walked = record c.args.self.now { walk = c.took-step.new.self };
  takes = c.took-step.ensures;
  walked_is = refl;
  next_is = c.follow.ensures.next;
  visit_is = c.follow.ensures.machine;
}
