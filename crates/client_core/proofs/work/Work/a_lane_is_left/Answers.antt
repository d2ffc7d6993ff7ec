use Rattle.client_core.proofs.Numbers.{idle-few}
use Rattle.client_core.proofs.work.Work.a_lane_is_left.Goals as goal

pub returns : goal.returns
returns c = idle-few c.args.number c.args.self.now.lanes c.requires.idle c.requires.lanes
