-- The first of three.
use Rattle.std.proofs.Common.{sym, subst}
use Rattle.trace_lawful.proofs.Firsts.{IsFirst, first-of, late-of}
use Rattle.trace_lawful.proofs.server.first_of_server.Goals as goal

pub returns : goal.returns
returns c =
    let e = rw (c.earlier-first.ensures, c.with_rule.ensures, c.with_rule-2.ensures, c.with_rule-3.ensures) at c.earlier.ensures in
    let late = rw c.as_slice.ensures.value at c.first_late-late.ensures in
    subst (λ z. IsFirst c.args.trace.now z) (sym e)
    (first-of c.args.trace.now c.in_ok-unlawful.unlawful c.first_late-late.result c.first_stale-stale.result c.in_ok-unlawful.ensures
    (late-of c.args.trace.now c.first_late-late.result late) c.first_stale-stale.ensures)
