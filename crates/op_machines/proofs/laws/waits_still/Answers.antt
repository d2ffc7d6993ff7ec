use Rattle.op_machines.proofs.AllLaws.{all-still}
use Rattle.op_machines.proofs.laws.waits_still.Goals as goal

pub returns : goal.returns
returns c = all-still
