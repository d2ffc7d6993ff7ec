-- An object that isn't spared.
use Rattle.std.proofs.Common.{length, arith}
use Rattle.std.proofs.lemmas.Grind.{common_steps}
use Rattle.trace_data.specs.Histories.{objects_after}
use Rattle.trace_rules.specs.Decided.{all_below}
use Rattle.trace_rules.specs.Keeping.{keeps_verf}
use Rattle.trace_rules.proofs.Below.{all_below-fails}
use Rattle.trace_steps.specs.MomentTests.{spares_at, only}
use Rattle.trace_steps.specs.MoveTests.{is_touched}
use Rattle.trace_steps.proofs.Listing.{and-later}
use Rattle.trace_steps.proofs.renaming.only_these.Goals as goal

pub returns-then-not-spares_at : goal.returns-then-not-spares_at
unfolding only
returns-then-not-spares_at c =
    and-later (keeps_verf c.args.trace.now.start.verf c.args.trace.now.updates.items c.args.entry) (all_below (λ k. spares_at (is_touched c.args.from_dir.now c.args.to_dir.now c.args.object.now c.args.to.now c.args.target.now) c.args.trace.now c.args.entry k) (length (objects_after c.args.trace.now.updates.items c.args.entry)))
    (all_below-fails (λ k. spares_at (is_touched c.args.from_dir.now c.args.to_dir.now c.args.object.now c.args.to.now c.args.target.now) c.args.trace.now c.args.entry k) c.loop-place.place (length (objects_after c.args.trace.now.updates.items c.args.entry)) (grind (arith, common_steps)) (grind (arith, common_steps)))
