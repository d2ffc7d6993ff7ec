-- The test decides the rule.
use Rattle.std.proofs.Common.{◌≡◌, length, sym, ◌∙◌, arith}
use Rattle.trace_rules.proofs.Renewing.{fresh-decides}
use Rattle.trace_rules.proofs.stamps.is_fresh.Goals as goal

pub returns : goal.returns
returns c =
    let count : c.len.result ≡ length c.args.trace.now.entries.items = omega (arith, c.len.ensures, c.args.trace.now.entries.ok.0) in
    let e = rw (c.as_slice.ensures.value, c.as_slice-2.ensures.value, count) at c.fresh.ensures in
    let d = fresh-decides c.args.trace.now in (λ t. d.0 (sym e ∙ t), λ o. e ∙ d.1 o)
