use Rattle.std.proofs.Common.{refl, subst, sym}
use Rattle.client_shelf.specs.Coming.{reply_of}
use Rattle.name_ops.specs.ListDir.{TakesList}
use Rattle.name_ops.proofs.list_dir.ListDir.took.Goals as goal

pub returns : goal.returns
returns c =
    let m = c.args.self.now in
    let came = reply_of c.args.came.now in
    subst (λ b. TakesList b m c.args.sent c.args.turn came c.args.shelf.now c.next_of.result (record m { visit = c.took-step.new.self }) c.took-step.new.shelf) (sym c.if-self.false) (record {
      visit = c.took-step.new.self;
      walks = record {
        step = c.took-step.result;
        takes = c.took-step.ensures;
        next_is = c.next_of.ensures;
      };
      machine_is = refl;
    })
