use Rattle.std.proofs.Common.{List, ℕ, Ok, Err, subst, arith}
use Rattle.outside.specs.Sink.{WritesTo}
use Rattle.script_runs.proofs.StreamLaws.{appends_none, appends_more, appends_all, appends_front, cause_on}
use Rattle.run_made.proofs.output.write_all.Goals as goal

pub loop-done-init : goal.loop-done-init
loop-done-init g c = record { within = omega arith; added = appends_none _; later = omega arith }

pub returns-in-Err-clause-err : goal.returns-in-Err-clause-err
returns-in-Err-clause-err g c =
    appends_front _ _ _ c.args.bytes.now c.loop-done.done c.in-Err.fault c.loop-done.invariant.added
    (subst (λ (t : List ℕ). WritesTo (g.K.Sink.written c.loop-done.out) (g.K.Sink.written c.write.new.self) t (Err c.in-Err.fault)) c.split_at.ensures.back c.in-Err.ensures.told)

pub returns-in-Err-clause-cause : goal.returns-in-Err-clause-cause
returns-in-Err-clause-cause g c = cause_on _ _ _ c.in-Err.fault c.loop-done.invariant.later c.in-Err.ensures.cause

pub loop-done-preserved : goal.loop-done-preserved
loop-done-preserved g c = record {
  within = let t = c.in-Ok.ensures.takes in omega (arith, t.fits, c.split_at.ensures.back_len);
  added = appends_more _ _ _ c.args.bytes.now c.loop-done.done c.in-Ok.count c.loop-done.invariant.added
      (subst (λ (t : List ℕ). WritesTo (g.K.Sink.written c.loop-done.out) (g.K.Sink.written c.write.new.self) t (Ok c.in-Ok.count)) c.split_at.ensures.back c.in-Ok.ensures.told);
  later = omega (arith, c.loop-done.invariant.later, c.in-Ok.ensures.cause.later);
}

pub returns-clause-ok : goal.returns-clause-ok
returns-clause-ok g c = appends_all _ _ c.args.bytes.now c.loop-done.done (omega (arith, c.loop-done-test.false)) c.loop-done.invariant.added

pub returns-clause-cause : goal.returns-clause-cause
returns-clause-cause g c = record { later = c.loop-done.invariant.later; failed = tt }
