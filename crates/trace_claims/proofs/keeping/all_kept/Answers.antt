-- One place or one piece more.
use Rattle.std.proofs.Common.{arith, sym}
use Rattle.trace_claims.specs.Keeping.{is_kept}
use Rattle.trace_claims.proofs.Placing.{places-none, places-fail, places-done}
use Rattle.trace_claims.proofs.Kept.{until-more}
use Rattle.trace_claims.proofs.keeping.all_kept.Goals as goal

pub loop-at-init : goal.loop-at-init
loop-at-init c = record {
  low = omega arith;
  kept = places-none (is_kept c.args.entries.now c.args.digest.now c.args.written.now c.args.question.now c.args.now.now c.args.stable.now c.args.span.offset) c.args.span.from;
}

pub loop-at-preserved : goal.loop-at-preserved
loop-at-preserved c =
    let kept = rw c.in-Some.is at c.kept_until.ensures in
    let some = kept.some in
    record {
      low = omega (arith, c.loop-at.invariant.low, some);
      kept = until-more (is_kept c.args.entries.now c.args.digest.now c.args.written.now c.args.question.now c.args.now.now c.args.stable.now c.args.span.offset) c.args.span.from c.loop-at.at c.args.span.to c.in-Some.next c.loop-at.invariant.kept kept;
    }

pub returns-in-None : goal.returns-in-None
returns-in-None c = sym (places-fail (is_kept c.args.entries.now c.args.digest.now c.args.written.now c.args.question.now c.args.now.now c.args.stable.now c.args.span.offset) c.args.span.from c.loop-at.at c.args.span.to c.loop-at.invariant.low c.loop-at-test.true (rw c.in-None.is at c.kept_until.ensures))

pub returns : goal.returns
returns c = sym (places-done (is_kept c.args.entries.now c.args.digest.now c.args.written.now c.args.question.now c.args.now.now c.args.stable.now c.args.span.offset) c.args.span.from c.loop-at.at c.args.span.to (omega (arith, c.loop-at-test.false)) c.loop-at.invariant.kept)
