use Rattle.write_back.specs.declared.change.Change.TheVariants as by
use Rattle.write_back.proofs.Numbers.{upto-changed}
use Rattle.slow_bodies.proofs.kept_back.KeptBack.mark_again.Goals as goal

pub invariant_of-self : goal.invariant_of-self
invariant_of-self c = upto-changed c.self.inside.number (by.MarkAgain c.args.upto) _ _ c.args.file.now c.mark_again.ensures.segments c.self.invariant
