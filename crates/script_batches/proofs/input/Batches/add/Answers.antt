use Rattle.std.proofs.Common.{◌++◌}
use Rattle.script_batches.proofs.Kept.{front-few}
use Rattle.script_batches.proofs.input.Batches.add.Goals as goal

pub returns-clause-kept : goal.returns-clause-kept
returns-clause-kept c = front-few c.extend_front.new.text.items (c.args.text.now.items ++ c.args.line.now) c.in_ok-extend_front.ensures
