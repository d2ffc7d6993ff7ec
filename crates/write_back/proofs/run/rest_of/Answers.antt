use Rattle.std.proofs.Common.{◌∙◌}
use Rattle.write_back.proofs.Shared.{part-rest}
use Rattle.write_back.proofs.run.rest_of.Goals as goal

pub returns-in-Some : goal.returns-in-Some
returns-in-Some c = c.in-Some.ensures ∙ part-rest c.args.from c.len.result c.args.bytes.now c.len.ensures.len
