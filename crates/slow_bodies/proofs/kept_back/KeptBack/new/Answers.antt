use Rattle.write_back.proofs.Numbers.{upto-nothing}
use Rattle.slow_bodies.proofs.kept_back.KeptBack.new.Goals as goal

pub invariant_of-result : goal.invariant_of-result
invariant_of-result c = rw c.new.ensures (upto-nothing 0)
