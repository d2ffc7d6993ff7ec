use Rattle.write_back.specs.Landing.{acked_by}
use Rattle.write_back.proofs.Numbers.{upto_answered}
use Rattle.slow_bodies.proofs.kept_back.KeptBack.acked.Goals as goal

pub invariant_of-self : goal.invariant_of-self
invariant_of-self c =
    upto_answered c.self.inside.number c.args.xid c.args.count (acked_by c.args.committed c.args.verf) _ _ c.args.file.now c.acked.result c.acked.ensures.ok c.acked.ensures.err c.self.invariant
