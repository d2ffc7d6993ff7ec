-- The parts of what is cut.
use Rattle.std.proofs.Common.{◌∙◌}
use Rattle.trace_steps.proofs.Ranging.{resized-is}
use Rattle.trace_steps.proofs.ranges.is_resized.Goals as goal

pub returns : goal.returns
returns c =
    let e = rw (c.up_to.ensures, c.gap.ensures) at c.is_joined.ensures in
    e ∙ resized-is c.args.size c.args.old.now c.args.later.now
