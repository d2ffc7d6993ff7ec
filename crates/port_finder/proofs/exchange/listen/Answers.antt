use Rattle.std.proofs.Common.{arith}
use Rattle.port_finder.proofs.Doing.{does_none, does_then, does_so}
use Rattle.port_finder.proofs.Steps.{none_dropped, listen_more, listen_got, listen_missed, listen_full, has_xid, lacks_xid}
use Rattle.port_finder.proofs.exchange.listen.Goals as goal

pub loop-dropped-init : goal.loop-dropped-init
loop-dropped-init g c = record { few = omega arith; does = does_none _ _ _ (none_dropped c.args.xid); stays = λ first s. s; honest = λ h. h }

pub returns-in-Err : goal.returns-in-Err
returns-in-Err g c =
    let r = c.in-Err.ensures in
    record {
      does = does_then _ _ _ _ _ _ _ _ _ (λ es fs p q. listen_missed c.args.xid c.loop-dropped.dropped c.in-Err.miss es fs p q) c.loop-dropped.invariant.does r.does;
      stays = λ first s. r.stays first (c.loop-dropped.invariant.stays first s);
      honest = λ h. r.honest (c.loop-dropped.invariant.honest h);
    }

pub returns-then-eq : goal.returns-then-eq
returns-then-eq g c =
    let r = c.in-Ok.ensures in
    let has = has_xid c.in-Ok.record c.xid_of.result c.args.xid (rw c.bytes.ensures at c.xid_of.ensures) c.if-eq.ensures in
    record {
      does = does_then _ _ _ _ _ _ _ _ _ (λ es fs p q. listen_got c.args.xid c.loop-dropped.dropped c.in-Ok.record es fs has p q) c.loop-dropped.invariant.does r.does;
      stays = λ first s. r.stays first (c.loop-dropped.invariant.stays first s);
      honest = λ h. r.honest (c.loop-dropped.invariant.honest h);
    }

pub loop-dropped-preserved : goal.loop-dropped-preserved
loop-dropped-preserved g c =
    let r = c.in-Ok.ensures in
    let lacks = lacks_xid c.in-Ok.record c.xid_of.result c.args.xid (rw c.bytes.ensures at c.xid_of.ensures) c.if-eq.ensures in
    record {
      few = omega (arith, c.loop-dropped-test.true);
      does = does_then _ _ _ _ _ _ _ _ _ (λ es fs p q. listen_more c.args.xid c.loop-dropped.dropped c.in-Ok.record es fs lacks p q) c.loop-dropped.invariant.does r.does;
      stays = λ first s. r.stays first (c.loop-dropped.invariant.stays first s);
      honest = λ h. r.honest (c.loop-dropped.invariant.honest h);
    }

pub returns : goal.returns
returns g c = record {
  does = does_so _ _ _ _ _ _ (λ es p. listen_full c.args.xid c.loop-dropped.dropped es (omega (arith, c.loop-dropped-test.false, c.loop-dropped.invariant.few)) p) c.loop-dropped.invariant.does;
  stays = c.loop-dropped.invariant.stays;
  honest = c.loop-dropped.invariant.honest;
}
