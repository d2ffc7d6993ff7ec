-- How the loop goes on and ends.
use Rattle.std.proofs.Common.{◌≤◌, arith}
use Rattle.std.proofs.lemmas.Grind.{common_steps}
use Rattle.trace_calls.proofs.Calls.{so}
use Rattle.trace_calls.proofs.Replies.{none-more, replied-there, replied-nowhere}
use Rattle.trace_calls.proofs.coming.is_replied.Goals as goal

pub returns-then-branch : goal.returns-then-branch
returns-then-branch c =
    replied-there c.args.entries.now c.args.entry c.loop-place.place c.args.rec.now (grind (arith, common_steps)) (so _ _ c.in_ok-is_answered_by.ensures (grind (arith, common_steps)))

pub loop-place-preserved : goal.loop-place-preserved
loop-place-preserved c = record {
  within = grind (arith, common_steps);
  inside = c.loop-place.invariant.inside;
  none = none-more c.args.entries.now c.loop-place.place c.args.rec.now c.in_ok-is_answered_by.field-0 c.loop-place.invariant.none c.in_ok-is_answered_by.ensures (grind (arith, common_steps));
}

pub returns : goal.returns
returns c =
    let le : c.args.entry ≤ c.loop-place.place = grind (arith, common_steps) in
    replied-nowhere c.args.entries.now c.args.entry c.args.rec.now (λ m lt. c.loop-place.invariant.none m (omega (arith, lt, le)))
