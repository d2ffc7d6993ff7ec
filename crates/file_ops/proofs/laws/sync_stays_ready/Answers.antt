use Rattle.file_ops.proofs.Steps.{sync-starts-ready, sync-resumes-ready, sync-takes-ready}
use Rattle.file_ops.proofs.laws.sync_stays_ready.Goals as goal

pub returns-clause-start : goal.returns-clause-start
returns-clause-start c = sync-starts-ready

pub returns-clause-resume : goal.returns-clause-resume
returns-clause-resume c = sync-resumes-ready

pub returns-clause-took : goal.returns-clause-took
returns-clause-took c = sync-takes-ready
