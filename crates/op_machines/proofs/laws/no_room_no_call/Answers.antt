use Rattle.op_machines.proofs.AllLaws.{starts-quiet, resumes-quiet, takes-quiet}
use Rattle.op_machines.proofs.laws.no_room_no_call.Goals as goal

pub returns-clause-start : goal.returns-clause-start
returns-clause-start c = starts-quiet

pub returns-clause-resume : goal.returns-clause-resume
returns-clause-resume c = resumes-quiet

pub returns-clause-took : goal.returns-clause-took
returns-clause-took c = takes-quiet
