use Rattle.std.proofs.Common.{rules, sym, ◌∙◌}
use Rattle.script_batches.proofs.TextLines.{skipped-all}
use Rattle.script_batches.proofs.lines.all_skipped.Goals as goal

pub returns : goal.returns
returns c = sym (c.loop-rest.invariant.same ∙ skipped-all c.loop-rest.rest.now (search rules))
