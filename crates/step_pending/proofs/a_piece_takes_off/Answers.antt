use Rattle.step_pending.proofs.TakingOff.{sent-leads, sound-sends}
use Rattle.step_pending.proofs.a_piece_takes_off.Goals as goal

pub returns-clause-sound : goal.returns-clause-sound
returns-clause-sound c = sound-sends

pub returns-clause-steps : goal.returns-clause-steps
returns-clause-steps c = sent-leads
