use Rattle.port_finder.proofs.Doing.{does_none, does_so}
use Rattle.port_finder.proofs.Steps.{asks_nothing, asks_halts, asks_told, asks_refused}
use Rattle.port_finder.specs.Found.{port_call}
use Rattle.port_finder.proofs.finder.ask.Goals as goal

pub returns-in_default-clause-asks : goal.returns-in_default-clause-asks
returns-in_default-clause-asks g c = does_none _ _ _ (asks_nothing c.args.port c.args.xid (port_call c.args.xid c.args.prog c.args.prot))

pub returns-in-Err-clause-asks : goal.returns-in-Err-clause-asks
returns-in-Err-clause-asks g c =
    let r = rw c.in-Ok.ensures at c.in-Err.ensures.does in
    rw c.fault_of.ensures (does_so _ _ _ _ _ _ (λ es p. asks_halts c.args.port c.args.xid c.args.prog c.args.prot c.in-Err.halt es p) r)

pub returns-in-Ok-told_port-clause-asks : goal.returns-in-Ok-told_port-clause-asks
returns-in-Ok-told_port-clause-asks g c =
    let r = rw c.in-Ok.ensures at c.in-Ok-exchange.ensures.does in
    does_so _ _ _ _ _ _ (λ es p. asks_told c.args.port c.args.xid c.args.prog c.args.prot c.in-Ok-told_port.port c.in-Ok-exchange.reply es (rw c.bytes.ensures at c.in-Ok-told_port.ensures.means) p) r
