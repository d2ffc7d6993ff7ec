use Rattle.op_machines.proofs.AllLaws.{starts-unmade, resumes-unmade, takes-unmade}
use Rattle.op_machines.proofs.laws.unmade_calls_leave_nothing.Goals as goal

pub returns-clause-start : goal.returns-clause-start
returns-clause-start c = starts-unmade

pub returns-clause-resume : goal.returns-clause-resume
returns-clause-resume c = resumes-unmade

pub returns-clause-took : goal.returns-clause-took
returns-clause-took c = takes-unmade
