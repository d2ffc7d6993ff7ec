-- The tests decide whether the server stays as it was.
use Rattle.std.proofs.Common.{sym, ◌∙◌}
use Rattle.trace_rules.proofs.Unchanged.{same-decides}
use Rattle.trace_rules.proofs.keeping.changes_nothing.Goals as goal

pub returns : goal.returns
returns c =
    let e = rw (c.as_slice.ensures.value, c.as_slice-2.ensures.value) at c.keeps_server.ensures in
    let d = same-decides c.args.trace.now c.args.entry in (λ t. d.0 (sym e ∙ t), λ o. e ∙ d.1 o)
