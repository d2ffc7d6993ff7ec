use Rattle.file_ops.proofs.PutSteps.{put-resumes-ready, put-takes-ready}
use Rattle.file_ops.proofs.laws.put_stays_ready.Goals as goal

pub returns-clause-resume : goal.returns-clause-resume
returns-clause-resume c = put-resumes-ready

pub returns-clause-took : goal.returns-clause-took
returns-clause-took c = put-takes-ready
