use Rattle.op_machines.proofs.AllEnds.{refusals-end, few-left}
use Rattle.op_machines.proofs.laws.refusals_end.Goals as goal

pub returns-clause-less : goal.returns-clause-less
returns-clause-less c = refusals-end

pub returns-clause-few : goal.returns-clause-few
returns-clause-few c = few-left
