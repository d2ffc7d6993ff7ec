-- The tests decide whether each moment is a server.
use Rattle.std.proofs.Common.{◌≡◌, length, sym, ◌∙◌, arith}
use Rattle.trace_rules.proofs.Sound.{servers-decides}
use Rattle.trace_rules.proofs.servers.are_servers.Goals as goal

pub returns : goal.returns
returns c =
    let count : c.len.result ≡ length c.args.trace.now.entries.items = omega (arith, c.len.ensures, c.args.trace.now.entries.ok.0) in
    let e = rw (c.as_slice.ensures.value, c.as_slice-2.ensures.value, count) at c.sound_server.ensures in
    let d = servers-decides c.args.trace.now in (λ t. d.0 (sym e ∙ t), λ o. e ∙ d.1 o)
