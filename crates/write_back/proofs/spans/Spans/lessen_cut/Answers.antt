use Rattle.std.proofs.Common.{arith}
use Rattle.write_back.proofs.Going.{cut-both}
use Rattle.write_back.proofs.spans.Spans.lessen_cut.Goals as goal

pub returns : goal.returns
returns c =
    let told = rw (← c.self.view_is) at c.passing.ensures.told in
    rw (← c.self.view_is) (cut-both c.args.size c.args.upto 18446744073709551615 c.self.inside.map _ _ _ _ c.self.invariant (omega arith) told c.lessen_tail.ensures c.lessen_gone.ensures)
