-- The test decides the rule.
use Rattle.std.proofs.Common.{sym, ◌∙◌}
use Rattle.trace_rules.proofs.Deciding.{once-decides}
use Rattle.trace_rules.proofs.late.is_once.Goals as goal

pub returns : goal.returns
returns c = let d = once-decides c.args.history.now in (λ t. d.0 (sym c.once.ensures ∙ t), λ o. c.once.ensures ∙ d.1 o)
