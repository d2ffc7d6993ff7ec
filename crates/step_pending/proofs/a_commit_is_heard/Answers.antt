use Rattle.step_pending.proofs.Hearing.{heard-leads, sound-heard}
use Rattle.step_pending.proofs.a_commit_is_heard.Goals as goal

pub returns-clause-sound : goal.returns-clause-sound
returns-clause-sound c = sound-heard

pub returns-clause-steps : goal.returns-clause-steps
returns-clause-steps c = heard-leads
