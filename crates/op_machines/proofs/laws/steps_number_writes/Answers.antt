use Rattle.op_machines.proofs.AllLaws.{starts-number, resumes-number, takes-number}
use Rattle.op_machines.proofs.laws.steps_number_writes.Goals as goal

pub returns-clause-start : goal.returns-clause-start
returns-clause-start c = starts-number

pub returns-clause-resume : goal.returns-clause-resume
returns-clause-resume c = resumes-number

pub returns-clause-took : goal.returns-clause-took
returns-clause-took c = takes-number
