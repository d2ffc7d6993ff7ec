-- So many, and each a zero.
use Rattle.std.proofs.Common.{◌∙◌, arith}
use Rattle.std.proofs.lemmas.Grind.{common_steps}
use Rattle.trace_steps.proofs.Ranging.{so-many}
use Rattle.trace_steps.proofs.ranges.are_so_many_zeros.Goals as goal

pub returns : goal.returns
returns c = c.are_zeros.ensures ∙ so-many c.args.count c.args.bytes.now (grind (arith, common_steps))
