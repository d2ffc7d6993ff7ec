-- The tests decide whether a range becomes stable.
use Rattle.std.proofs.Common.{sym, ◌∙◌}
use Rattle.trace_steps.proofs.StepDone.{flushes-decides}
use Rattle.trace_steps.proofs.service.is_flush.Goals as goal

pub returns : goal.returns
returns c = let d = flushes-decides c.args.trace.now c.args.entry c.args.file.now c.args.from c.args.count in (λ t. d.0 (sym c.flushes.ensures ∙ t), λ o. c.flushes.ensures ∙ d.1 o)
