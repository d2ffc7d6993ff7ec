use Rattle.write_back.proofs.Numbers.{upto-renumbered}
use Rattle.slow_bodies.proofs.kept_back.KeptBack.renumber.Goals as goal

pub invariant_of-self : goal.invariant_of-self
invariant_of-self c =
    upto-renumbered c.self.inside.number c.args.xid c.args.to _ _ c.args.file.now c.renumber.ensures.pieces c.self.invariant
