use Rattle.std.proofs.Common.{◌/◌}
use Rattle.file_ops.proofs.Offers.{offered-on}
use Rattle.file_ops.proofs.offer.offer_all.Goals as goal

pub loop-next-preserved : goal.loop-next-preserved
loop-next-preserved c =
    offered-on c.args.file.now c.args.stamp.now c.args.sent c.args.place c.args.bytes.now c.args.ends (c.args.place / 4096) c.loop-next.next _ _ _ c.loop-next.invariant c.offer.ensures
