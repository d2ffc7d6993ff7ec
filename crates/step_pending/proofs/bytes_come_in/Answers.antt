use Rattle.step_pending.proofs.ComingIn.{comes-in, sound-in}
use Rattle.step_pending.proofs.bytes_come_in.Goals as goal

pub returns-clause-sound : goal.returns-clause-sound
returns-clause-sound c = sound-in

pub returns-clause-steps : goal.returns-clause-steps
returns-clause-steps c = comes-in
