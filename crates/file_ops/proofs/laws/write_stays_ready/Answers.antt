use Rattle.file_ops.proofs.Steps.{write-starts-ready, write-resumes-ready, write-takes-ready}
use Rattle.file_ops.proofs.laws.write_stays_ready.Goals as goal

pub returns-clause-start : goal.returns-clause-start
returns-clause-start c = write-starts-ready

pub returns-clause-resume : goal.returns-clause-resume
returns-clause-resume c = write-resumes-ready

pub returns-clause-took : goal.returns-clause-took
returns-clause-took c = write-takes-ready
