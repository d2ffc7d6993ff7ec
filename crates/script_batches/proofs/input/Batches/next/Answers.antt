use Rattle.script_batches.proofs.Batching.{batch-counted, batch-less}
use Rattle.script_batches.proofs.input.Batches.next.Goals as goal

pub returns-in-Ok-clause-counted : goal.returns-in-Ok-clause-counted
returns-in-Ok-clause-counted g c =
    batch-counted c.in-Ok.ended c.self.inside.lines c.take_lines.new.self.lines c.take_lines.new.text.items c.batch_of.result c.batch_of.ensures c.self.invariant c.in-Ok.ensures.took.counted_is

pub returns-in-Ok-clause-less : goal.returns-in-Ok-clause-less
returns-in-Ok-clause-less g c =
    batch-less c.in-Ok.ended c.self.inside.lines c.take_lines.new.self.lines c.take_lines.new.text.items c.args.self.now.held c.take_lines.new.self.held c.batch_of.result c.batch_of.ensures
    c.in-Ok.ensures.took.used c.in-Ok.ensures.took.less
