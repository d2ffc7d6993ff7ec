use Rattle.op_machines.proofs.AllLaws.{starts-fit, resumes-fit, takes-fit}
use Rattle.op_machines.proofs.laws.steps_stay_fit.Goals as goal

pub returns-clause-start : goal.returns-clause-start
returns-clause-start c = starts-fit

pub returns-clause-resume : goal.returns-clause-resume
returns-clause-resume c = resumes-fit

pub returns-clause-took : goal.returns-clause-took
returns-clause-took c = takes-fit
