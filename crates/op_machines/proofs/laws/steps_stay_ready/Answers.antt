use Rattle.op_machines.proofs.AllLaws.{starts-ready, resumes-ready, takes-ready}
use Rattle.op_machines.proofs.laws.steps_stay_ready.Goals as goal

pub returns-clause-start : goal.returns-clause-start
returns-clause-start c = starts-ready

pub returns-clause-resume : goal.returns-clause-resume
returns-clause-resume c = resumes-ready

pub returns-clause-took : goal.returns-clause-took
returns-clause-took c = takes-ready
