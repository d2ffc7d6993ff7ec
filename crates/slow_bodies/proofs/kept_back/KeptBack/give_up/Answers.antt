use Rattle.write_back.proofs.Numbers.{upto-given-up}
use Rattle.slow_bodies.proofs.kept_back.KeptBack.give_up.Goals as goal

pub invariant_of-self : goal.invariant_of-self
invariant_of-self c = upto-given-up c.self.inside.number _ _ c.args.file.now c.give_up.ensures.bytes c.self.invariant
