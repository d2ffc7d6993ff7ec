use Rattle.lane_session.proofs.Asking.{may-begin}
use Rattle.lane_session.proofs.running.Session.machine.Goals as goal

pub new-requires : goal.new-requires
new-requires c = may-begin c.args.op.now c.requires
