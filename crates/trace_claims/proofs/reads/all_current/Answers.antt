-- One byte more.
use Rattle.std.proofs.Common.{arith, sym, ◌∙◌, length}
use Rattle.std.proofs.lemmas.Grind.{common_steps}
use Rattle.trace_claims.specs.Reading.{is_current_at}
use Rattle.trace_claims.proofs.Placing.{places-none, places-one, places-fail, places-done}
use Rattle.trace_claims.proofs.reads.all_current.Goals as goal

pub loop-at-init : goal.loop-at-init
loop-at-init c = record { within = omega arith; current = places-none (is_current_at c.args.trace.now c.args.digest.now c.args.total c.args.read.now c.args.bytes.now) 0 }

pub loop-at-preserved : goal.loop-at-preserved
loop-at-preserved c = record {
  within = grind (arith, common_steps);
  current = places-one (is_current_at c.args.trace.now c.args.digest.now c.args.total c.args.read.now c.args.bytes.now) 0 c.loop-at.at c.loop-at.invariant.current (sym c.is_current_at.ensures ∙ c.if-not-is_current_at.false);
}

pub returns-then-not-is_current_at : goal.returns-then-not-is_current_at
returns-then-not-is_current_at c = sym (places-fail (is_current_at c.args.trace.now c.args.digest.now c.args.total c.args.read.now c.args.bytes.now) 0 c.loop-at.at (length c.args.bytes.now) (omega arith) c.loop-at-test.true (sym c.is_current_at.ensures ∙ c.if-not-is_current_at.true))

pub returns : goal.returns
returns c = sym (places-done (is_current_at c.args.trace.now c.args.digest.now c.args.total c.args.read.now c.args.bytes.now) 0 c.loop-at.at (length c.args.bytes.now) (omega (arith, c.loop-at-test.false)) c.loop-at.invariant.current)
