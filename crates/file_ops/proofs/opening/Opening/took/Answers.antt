use Rattle.file_ops.proofs.Again.{few-looks}
use Rattle.file_ops.proofs.opening.Opening.took.Goals as goal

pub count-requires : goal.count-requires
count-requires c = record {
  few = few-looks c.args.self.now c.led-told.result c.args.sent c.args.turn c.args.shelf.now.repeats _ _ c.may_again.ensures c.again.ensures.told c.if-again.true;
}
