-- How the loop goes on and ends.
use Rattle.std.proofs.Common.{◌≤◌, arith}
use Rattle.std.proofs.lemmas.Grind.{common_steps}
use Rattle.trace_calls.proofs.Calls.{none-more, sent-nowhere}
use Rattle.trace_calls.proofs.sending.was_sent.Goals as goal

pub loop-place-preserved : goal.loop-place-preserved
loop-place-preserved c = record {
  within = grind (arith, common_steps);
  inside = c.loop-place.invariant.inside;
  none = none-more c.args.entries.now c.loop-place.place c.args.xid c.args.call.now c.in_ok-sends.field-0 c.loop-place.invariant.none c.in_ok-sends.ensures (grind (arith, common_steps));
}

pub returns : goal.returns
returns c =
    let le : c.args.entry ≤ c.loop-place.place = grind (arith, common_steps) in
    sent-nowhere c.args.entries.now c.args.entry c.args.xid c.args.call.now (λ m lt. c.loop-place.invariant.none m (omega (arith, lt, le)))
