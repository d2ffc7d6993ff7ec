use Rattle.commit_verf.proofs.Numbers.{upto-decided}
use Rattle.slow_bodies.proofs.kept_back.KeptBack.decide.Goals as goal

pub invariant_of-self : goal.invariant_of-self
invariant_of-self c = upto-decided c.self.inside.number c.args.upto c.args.verf _ _ c.args.file.now c.decide.ensures.segments c.self.invariant
