use Rattle.world_link.specs.Orders.{pair_read_view}
use Rattle.world_link.proofs.NextPairLine.{none_of, reads_other}
use Rattle.world_link.proofs.pair_schedule.PairSchedule.read_line.Goals as goal

pub returns-in-None : goal.returns-in-None
returns-in-None c = reads_other (pair_read_view c.args.self.now) c.args.line.now _ c.read_line.result (none_of _ _ _ c.order_of.ensures c.in-None.is) c.read_line.ensures
