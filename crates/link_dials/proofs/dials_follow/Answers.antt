use Rattle.link_dials.proofs.Dialing.{dials_then}
use Rattle.link_dials.proofs.dials_follow.Goals as goal

pub returns : goal.returns
returns c = dials_then
