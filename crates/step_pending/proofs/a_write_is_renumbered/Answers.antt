use Rattle.step_pending.proofs.Renaming.{renamed-leads, sound-renamed}
use Rattle.step_pending.proofs.a_write_is_renumbered.Goals as goal

pub returns-clause-sound : goal.returns-clause-sound
returns-clause-sound c = sound-renamed

pub returns-clause-steps : goal.returns-clause-steps
returns-clause-steps c = renamed-leads
