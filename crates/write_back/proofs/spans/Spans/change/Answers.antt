use Rattle.write_back.proofs.Apart.{apart-changed}
use Rattle.write_back.proofs.spans.Spans.change.Goals as goal

pub invariant_of-self : goal.invariant_of-self
invariant_of-self c = rw (c.change.ensures.after) (apart-changed c.args.change c.args.low c.args.high 0 c.self.inside.map c.self.invariant)
