-- Past the end of a list there is nothing to leave out.
use Rattle.std.proofs.Common.{◌∙◌, arith}
use Rattle.std.proofs.lemmas.Grind.{common_steps}
use Rattle.trace_steps.proofs.Listing.{past-is}
use Rattle.trace_steps.proofs.renaming.is_left.Goals as goal

pub returns-else-place-long : goal.returns-else-place-long
returns-else-place-long c = c.same_entries.ensures ∙ past-is c.args.place c.args.long.now c.args.short.now (grind (arith, common_steps))
