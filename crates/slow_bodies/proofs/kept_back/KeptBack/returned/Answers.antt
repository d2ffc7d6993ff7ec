use Rattle.write_back.specs.declared.change.Change.TheVariants as by
use Rattle.write_back.proofs.Numbers.{upto-ended}
use Rattle.slow_bodies.proofs.kept_back.KeptBack.returned.Goals as goal

pub invariant_of-self : goal.invariant_of-self
invariant_of-self c = upto-ended c.self.inside.number c.args.xid by.Return _ _ c.args.file.now c.returned.ensures.segments c.self.invariant
