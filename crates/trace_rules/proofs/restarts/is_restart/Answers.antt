-- The tests decide whether the server restarts.
use Rattle.std.proofs.Common.{sym, ◌∙◌}
use Rattle.trace_rules.proofs.Restarted.{restarts-decides}
use Rattle.trace_rules.proofs.restarts.is_restart.Goals as goal

pub returns : goal.returns
returns c =
    let e = rw (c.as_slice.ensures.value, c.as_slice-2.ensures.value) at c.restarts.ensures in
    let d = restarts-decides c.args.trace.now c.args.entry c.args.verf in (λ t. d.0 (sym e ∙ t), λ o. e ∙ d.1 o)
