use Rattle.op_machines.proofs.AllLaws.{refusals-number}
use Rattle.op_machines.proofs.laws.refusals_number_nothing.Goals as goal

pub returns : goal.returns
returns c = refusals-number
