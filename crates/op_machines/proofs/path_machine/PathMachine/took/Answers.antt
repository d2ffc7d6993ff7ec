use Rattle.std.proofs.Common.{refl, subst, sym}
use Rattle.client_shelf.specs.Coming.{reply_of}
use Rattle.name_ops.specs.Walking.{waiting_name}
use Rattle.name_ops.proofs.Keeps.{walk-takes-kept}
use Rattle.op_machines.specs.PathSteps.{PathTakes}
use Rattle.op_machines.proofs.May.{may-kept}
use Rattle.op_machines.proofs.path_machine.PathMachine.took.Goals as goal

pub follow-requires : goal.follow-requires
follow-requires c =
    let walk = c.args.self.now.walk in
    let old = c.args.shelf.now in
    record {
      may = may-kept c.args.wsize c.args.turn old c.took-step.new.shelf c.requires.may
          (walk-takes-kept (waiting_name walk) walk c.args.sent c.args.turn (reply_of c.args.came.now) old c.took-step.result c.took-step.new.self c.took-step.new.shelf c.took-step.ensures);
    }

pub returns : goal.returns
returns c =
    let m = c.args.self.now in
    let came = reply_of c.args.came.now in
    subst (λ b. PathTakes b c.args.wsize m c.args.sent c.args.turn came c.args.shelf.now c.follow.result c.follow.new.self c.follow.new.shelf) (sym c.if-self.false) (record {
      step = c.took-step.result;
      walked = record m { walk = c.took-step.new.self };
      heard = c.took-step.new.shelf;
      takes = c.took-step.ensures;
      walked_is = refl;
      follows = c.follow.ensures;
    })
