-- One place or one piece more.
use Rattle.std.proofs.Common.{arith, sym}
use Rattle.trace_claims.specs.Pendings.{is_free}
use Rattle.trace_claims.proofs.Placing.{places-none, places-fail, places-done}
use Rattle.trace_claims.proofs.Kept.{until-more}
use Rattle.trace_claims.proofs.pending.none_pending.Goals as goal

pub loop-at-init : goal.loop-at-init
loop-at-init c = record { low = omega arith; free = places-none (is_free c.args.digest.now c.args.length c.args.written.now c.args.file.now c.args.moment c.args.past) c.args.from }

pub loop-at-preserved : goal.loop-at-preserved
loop-at-preserved c =
    let free = rw c.in-Some.is at c.free_until.ensures in
    let some = free.some in
    record {
      low = omega (arith, c.loop-at.invariant.low, some);
      free = until-more (is_free c.args.digest.now c.args.length c.args.written.now c.args.file.now c.args.moment c.args.past) c.args.from c.loop-at.at c.args.to c.in-Some.next c.loop-at.invariant.free free;
    }

pub returns-in-None : goal.returns-in-None
returns-in-None c = sym (places-fail (is_free c.args.digest.now c.args.length c.args.written.now c.args.file.now c.args.moment c.args.past) c.args.from c.loop-at.at c.args.to c.loop-at.invariant.low c.loop-at-test.true (rw c.in-None.is at c.free_until.ensures))

pub returns : goal.returns
returns c = sym (places-done (is_free c.args.digest.now c.args.length c.args.written.now c.args.file.now c.args.moment c.args.past) c.args.from c.loop-at.at c.args.to (omega (arith, c.loop-at-test.false)) c.loop-at.invariant.free)
