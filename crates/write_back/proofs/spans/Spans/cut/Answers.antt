use Rattle.std.proofs.Common.{arith}
use Rattle.write_back.proofs.Apart.{apart-ended, apart-cut}
use Rattle.write_back.proofs.Splitting.{cut-is}
use Rattle.write_back.proofs.spans.Spans.cut.Goals as goal

pub change-requires : goal.change-requires
change-requires c =
    let cut = rw (← c.self.view_is) at c.passing_upto-cut.ensures.told in
    record {
      forward = omega arith;
      apart = rw (c.end_at.ensures, cut) (apart-ended c.args.size c.args.upto c.self.inside.map c.self.invariant);
    }

pub invariant_of-self : goal.invariant_of-self
invariant_of-self c =
    let cut = rw (← c.self.view_is) at c.passing_upto-cut.ensures.told in
    rw (c.change.ensures.after, c.end_at.ensures, cut, cut-is c.args.size c.args.upto 18446744073709551615 0 c.self.inside.map c.self.invariant (omega arith)) (apart-cut c.args.size c.args.upto 0 c.self.inside.map c.self.invariant)

pub returns : goal.returns
returns c =
    let cut = rw (← c.self.view_is) at c.passing_upto-cut.ensures.told in
    rw (c.change.ensures.after, c.end_at.ensures, cut, ← c.self.view_is) (cut-is c.args.size c.args.upto 18446744073709551615 0 c.self.inside.map c.self.invariant (omega arith))
