-- One place more.
use Rattle.std.proofs.Common.{arith, sym, ◌∙◌}
use Rattle.trace_claims.proofs.Clocking.{young-decides, below-more, below-all}
use Rattle.trace_claims.proofs.readings.first_young.Goals as goal

pub loop-at-init : goal.loop-at-init
loop-at-init c = λ i y. omega arith

pub loop-at-preserved : goal.loop-at-preserved
loop-at-preserved c = below-more c.args.entries.now c.args.opened c.args.longest c.loop-at.at c.latest_clock-latest.result c.latest_clock-latest.ensures c.loop-at.invariant (sym c.is_young.ensures ∙ c.if-is_young.false)

pub returns-then-is_young : goal.returns-then-is_young
returns-then-is_young c = record {
  is = (young-decides c.args.entries.now c.args.opened c.args.longest c.loop-at.at c.latest_clock-latest.result c.latest_clock-latest.ensures).0 (sym c.is_young.ensures ∙ c.if-is_young.true);
  first = c.loop-at.invariant;
}

pub returns : goal.returns
returns c = below-all c.args.entries.now c.args.opened c.args.longest c.loop-at.at (omega (arith, c.loop-at-test.false)) c.loop-at.invariant
