use Rattle.std.proofs.Common.{subst, sym}
use Rattle.client_shelf.specs.Coming.{reply_of}
use Rattle.name_ops.specs.SymLink.{TakesSymLink}
use Rattle.name_ops.proofs.sym_link.SymLink.took.Goals as goal

pub returns-clause-step : goal.returns-clause-step
returns-clause-step c =
    let m = c.args.self.now in
    let came = reply_of c.args.came.now in
    subst (λ b. TakesSymLink b m c.args.sent c.args.turn came c.args.shelf.now c.next_of.result c.took-step.new.self c.took-step.new.shelf) (sym c.if-self.false) (record {
      step = c.took-step.result;
      takes = c.took-step.ensures;
      next_is = c.next_of.ensures;
    })
