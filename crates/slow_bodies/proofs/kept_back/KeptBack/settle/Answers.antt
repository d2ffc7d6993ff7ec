use Rattle.write_back.specs.declared.change.Change.TheVariants as by
use Rattle.write_back.proofs.Numbers.{upto-changed}
use Rattle.slow_bodies.proofs.kept_back.KeptBack.settle.Goals as goal

pub invariant_of-self : goal.invariant_of-self
invariant_of-self c = upto-changed c.self.inside.number (by.Settle c.args.verf c.args.upto) _ _ c.args.file.now c.settle.ensures.segments c.self.invariant
