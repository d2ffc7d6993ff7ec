use Rattle.std.proofs.Common.{sym, arith}
use Rattle.write_back.proofs.Splitting.{last-range, passing-last-none, passing-long, passing-short}
use Rattle.write_back.proofs.spans.Spans.passing.Goals as goal

pub returns-in_err-at-clause-told : goal.returns-in_err-at-clause-told
returns-in_err-at-clause-told c = rw c.from_residual.ensures (rw (← c.self.view_is) (sym (passing-last-none c.args.place c.self.inside.map (sym c.in_err-at.ensures))))

pub overflow_sub-into : goal.overflow_sub-into
overflow_sub-into c = omega (arith, (last-range c.args.place 0 c.self.inside.map (c.in_ok-at.at, c.in_ok-at.segment.now) c.self.invariant (sym c.in_ok-at.ensures)).1)

pub returns-then-size-into-clause-told : goal.returns-then-size-into-clause-told
returns-then-size-into-clause-told c =
    let range = last-range c.args.place 0 c.self.inside.map (c.in_ok-at.at, c.in_ok-at.segment.now) c.self.invariant (sym c.in_ok-at.ensures) in
    rw (← c.self.view_is) (sym (passing-short c.args.place 0 c.self.inside.map (c.in_ok-at.at, c.in_ok-at.segment.now) c.self.invariant (sym c.in_ok-at.ensures) (omega (arith, range.1, c.len-size.ensures.len, c.if-size-into.true))))

pub returns-clause-told : goal.returns-clause-told
returns-clause-told c =
    let range = last-range c.args.place 0 c.self.inside.map (c.in_ok-at.at, c.in_ok-at.segment.now) c.self.invariant (sym c.in_ok-at.ensures) in
    rw (← c.self.view_is) (sym (passing-long c.args.place 0 c.self.inside.map (c.in_ok-at.at, c.in_ok-at.segment.now) c.self.invariant (sym c.in_ok-at.ensures) (omega (arith, range.1, c.len-size.ensures.len, c.if-size-into.false))))

pub returns-clause-inside : goal.returns-clause-inside
returns-clause-inside c =
    let range = last-range c.args.place 0 c.self.inside.map (c.in_ok-at.at, c.in_ok-at.segment.now) c.self.invariant (sym c.in_ok-at.ensures) in
    (range.1, omega (arith, range.1, c.len-size.ensures.len, c.if-size-into.false))
