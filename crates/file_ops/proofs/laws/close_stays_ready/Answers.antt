use Rattle.file_ops.proofs.Steps.{close-starts-ready, close-resumes-ready, close-takes-ready}
use Rattle.file_ops.proofs.laws.close_stays_ready.Goals as goal

pub returns-clause-start : goal.returns-clause-start
returns-clause-start c = close-starts-ready

pub returns-clause-resume : goal.returns-clause-resume
returns-clause-resume c = close-resumes-ready

pub returns-clause-took : goal.returns-clause-took
returns-clause-took c = close-takes-ready
