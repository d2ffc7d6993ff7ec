use Rattle.std.proofs.Common.{refl, subst, sym}
use Rattle.client_shelf.specs.Coming.{reply_of}
use Rattle.name_ops.specs.Stat.{StatTakes}
use Rattle.name_ops.proofs.stat.Stat.took.Goals as goal

pub returns : goal.returns
returns c =
    let m = c.args.self.now in
    let came = reply_of c.args.came.now in
    subst (λ b. StatTakes b m c.args.sent c.args.turn came c.args.shelf.now c.follow.result c.follow.new.self c.took-step.new.shelf) (sym c.if-self.false) (record {
      step = c.took-step.result;
      walked = record m { walk = c.took-step.new.self };
      takes = c.took-step.ensures;
      walked_is = refl;
      next_is = c.follow.ensures.next;
      machine_is = c.follow.ensures.machine;
    })
