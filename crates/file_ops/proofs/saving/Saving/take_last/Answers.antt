use Rattle.std.proofs.Common.{arith}
use Rattle.file_ops.proofs.Again.{few-commits}
use Rattle.file_ops.proofs.saving.Saving.take_last.Goals as goal

pub overflow_add-self : goal.overflow_add-self
overflow_add-self c =
    let few = few-commits c.args.told c.args.self.now c.args.sent c.args.turn c.args.repeats.now _ _ c.may_commit.ensures c.again.ensures.told c.if-again.true in
    omega (arith, few)
