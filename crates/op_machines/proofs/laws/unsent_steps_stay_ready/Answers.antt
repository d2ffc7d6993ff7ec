use Rattle.op_machines.proofs.AllLaws.{starts-unsent, resumes-unsent, takes-unsent}
use Rattle.op_machines.proofs.laws.unsent_steps_stay_ready.Goals as goal

pub returns-clause-start : goal.returns-clause-start
returns-clause-start c = λ wsize machine turn old next new after s xid none r. starts-unsent xid wsize machine turn old next new after s none r

pub returns-clause-resume : goal.returns-clause-resume
returns-clause-resume c = λ wsize machine turn old next new after s xid none r. resumes-unsent xid wsize machine turn old next new after s none r

pub returns-clause-took : goal.returns-clause-took
returns-clause-took c = λ wsize machine sent turn came old next new after s xid none r. takes-unsent xid wsize machine sent turn came old next new after s none r
