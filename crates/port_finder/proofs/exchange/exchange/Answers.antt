use Rattle.std.proofs.Common.{arith}
use Rattle.port_finder.proofs.Doing.{does_none, does_then}
use Rattle.port_finder.proofs.Steps.{not_retried, retried_more, exchange_got, exchange_halts, exchange_given_up, exchange_flooded, exchange_wants}
use Rattle.port_finder.proofs.exchange.exchange.Goals as goal

pub loop-failed-init : goal.loop-failed-init
loop-failed-init g c = record { few = omega arith; does = does_none _ _ _ (not_retried c.args.port c.args.xid c.args.call.now); stays = λ first s. s; honest = λ h. h }

pub returns-in-Ok-Some : goal.returns-in-Ok-Some
returns-in-Ok-Some g c =
    let r = rw c.in-Ok-Some.field-0-is at c.in-Ok-Some.ensures in
    record {
      does = does_then _ _ _ _ _ _ _ _ _ (λ es fs p q. exchange_got c.args.port c.args.xid c.args.call.now c.in-Ok-Some.reply c.loop-failed.failed es fs (omega (arith, c.loop-failed-test.true)) p q) c.loop-failed.invariant.does r.does;
      stays = λ first s. r.stays first (c.loop-failed.invariant.stays first s);
      honest = λ h. r.honest (c.loop-failed.invariant.honest h);
    }

pub loop-failed-preserved : goal.loop-failed-preserved
loop-failed-preserved g c =
    let r = rw c.in-Ok-None.field-0-is at c.in-Ok-None.ensures in
    record {
      few = omega (arith, c.loop-failed-test.true);
      does = does_then _ _ _ _ _ _ _ _ _ (λ es fs p q. retried_more c.args.port c.args.xid c.args.call.now c.loop-failed.failed es fs p q) c.loop-failed.invariant.does r.does;
      stays = λ first s. r.stays first (c.loop-failed.invariant.stays first s);
      honest = λ h. r.honest (c.loop-failed.invariant.honest h);
    }

pub returns-in-Err : goal.returns-in-Err
returns-in-Err g c =
    let r = c.in-Err.ensures in
    record {
      does = does_then _ _ _ _ _ _ _ _ _ (λ es fs p q. exchange_halts c.args.port c.args.xid c.args.call.now c.in-Err.halt c.loop-failed.failed es fs (omega (arith, c.loop-failed-test.true)) p q) c.loop-failed.invariant.does r.does;
      stays = λ first s. r.stays first (c.loop-failed.invariant.stays first s);
      honest = λ h. r.honest (c.loop-failed.invariant.honest h);
    }

pub returns-in-Ok : goal.returns-in-Ok
returns-in-Ok g c =
    let r = c.in-Ok.ensures in
    record {
      does = does_then _ _ _ _ _ _ _ _ _ (λ es fs p q. exchange_got c.args.port c.args.xid c.args.call.now c.in-Ok.reply c.loop-failed.failed es fs (omega (arith, c.loop-failed.invariant.few)) p q) c.loop-failed.invariant.does r.does;
      stays = λ first s. r.stays first (c.loop-failed.invariant.stays first s);
      honest = λ h. r.honest (c.loop-failed.invariant.honest h);
    }

pub returns-in-Err-Failed : goal.returns-in-Err-Failed
returns-in-Err-Failed g c =
    let r = rw c.in-Err-Failed.field-0-is at c.in-Err-Failed.ensures in
    record {
      does = does_then _ _ _ _ _ _ _ _ _ (λ es fs p q. exchange_given_up c.args.port c.args.xid c.args.call.now c.loop-failed.failed es fs (omega (arith, c.loop-failed-test.false, c.loop-failed.invariant.few)) p q) c.loop-failed.invariant.does r.does;
      stays = λ first s. r.stays first (c.loop-failed.invariant.stays first s);
      honest = λ h. r.honest (c.loop-failed.invariant.honest h);
    }

pub returns-in-Err-Silent : goal.returns-in-Err-Silent
returns-in-Err-Silent g c =
    let r = rw c.in-Err-Silent.field-0-is at c.in-Err-Silent.ensures in
    record {
      does = does_then _ _ _ _ _ _ _ _ _ (λ es fs p q. exchange_given_up c.args.port c.args.xid c.args.call.now c.loop-failed.failed es fs (omega (arith, c.loop-failed-test.false, c.loop-failed.invariant.few)) p q) c.loop-failed.invariant.does r.does;
      stays = λ first s. r.stays first (c.loop-failed.invariant.stays first s);
      honest = λ h. r.honest (c.loop-failed.invariant.honest h);
    }

pub returns-in-Err-Flooded : goal.returns-in-Err-Flooded
returns-in-Err-Flooded g c =
    let r = rw c.in-Err-Flooded.field-0-is at c.in-Err-Flooded.ensures in
    record {
      does = does_then _ _ _ _ _ _ _ _ _ (λ es fs p q. exchange_flooded c.args.port c.args.xid c.args.call.now c.loop-failed.failed es fs (omega (arith, c.loop-failed.invariant.few)) p q) c.loop-failed.invariant.does r.does;
      stays = λ first s. r.stays first (c.loop-failed.invariant.stays first s);
      honest = λ h. r.honest (c.loop-failed.invariant.honest h);
    }

pub returns-in-Err-Memory : goal.returns-in-Err-Memory
returns-in-Err-Memory g c =
    let r = rw c.in-Err-Memory.field-0-is at c.in-Err-Memory.ensures in
    record {
      does = does_then _ _ _ _ _ _ _ _ _ (λ es fs p q. exchange_wants c.args.port c.args.xid c.args.call.now c.loop-failed.failed es fs (omega (arith, c.loop-failed.invariant.few)) p q) c.loop-failed.invariant.does r.does;
      stays = λ first s. r.stays first (c.loop-failed.invariant.stays first s);
      honest = λ h. r.honest (c.loop-failed.invariant.honest h);
    }
