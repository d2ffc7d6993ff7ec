-- The parts of what is put.
use Rattle.std.proofs.Common.{◌∙◌, arith}
use Rattle.std.proofs.lemmas.Grind.{common_steps}
use Rattle.trace_steps.proofs.Ranging.{put-none, put-is}
use Rattle.trace_steps.proofs.ranges.is_put.Goals as goal

pub returns-then-is_empty : goal.returns-then-is_empty
returns-then-is_empty c = c.same_bytes.ensures ∙ put-none c.args.offset c.args.bytes.now c.args.old.now c.args.later.now (grind (arith, common_steps))

pub returns : goal.returns
returns c =
    let e = rw (c.up_to.ensures, c.gap.ensures, c.behind.ensures) at c.is_joined.ensures in
    e ∙ put-is c.args.offset c.args.bytes.now c.args.old.now c.args.later.now (λ none. (grind (arith, common_steps)))
