use Rattle.write_back.proofs.Numbers.{upto-cut}
use Rattle.slow_bodies.proofs.kept_back.KeptBack.cut.Goals as goal

pub invariant_of-self : goal.invariant_of-self
invariant_of-self c = upto-cut c.self.inside.number c.args.size c.args.upto _ _ c.args.file.now c.cut.ensures.segments c.self.invariant
