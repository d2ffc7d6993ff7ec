use Rattle.std.proofs.Common.{Ok, Err}
use Rattle.port_finder.proofs.Doing.{does_then, does_so}
use Rattle.port_finder.proofs.Finding.{undialed_found, first_found, finds_first, finds_second}
use Rattle.port_finder.proofs.finder.find_ports.Goals as goal

pub returns-in-Err-clause-ported : goal.returns-in-Err-clause-ported
returns-in-Err-clause-ported g c = rw c.fault_of.ensures (does_so _ _ _ _ _ _ (λ es p. undialed_found c.args.port c.args.xid c.args.prot c.in-Err.halt es p) c.in-Err.ensures.does)

pub returns-in-Err-ask-clause-ported : goal.returns-in-Err-ask-clause-ported
returns-in-Err-ask-clause-ported g c =
    does_then _ _ _ _ _ _ _ _ _ (λ es fs p q. first_found c.args.port c.args.xid c.args.prot c.in-Err-ask.fault es fs c.requires p q) c.in-Ok.ensures.does c.in-Err-ask.ensures.asks

pub returns-in-Ok-ask-2-clause-ported : goal.returns-in-Ok-ask-2-clause-ported
returns-in-Ok-ask-2-clause-ported g c =
    does_then _ _ _ _ _ _ _ _ _ (λ es fs p q. finds_second c.args.port c.args.xid c.args.prot c.in-Ok-ask.mount (Ok c.in-Ok-ask-2.nfs) es fs c.requires p q)
    (does_then _ _ _ _ _ _ _ _ _ (λ es fs p q. finds_first c.args.port c.args.xid c.args.prot c.in-Ok-ask.mount es fs p q) c.in-Ok.ensures.does c.in-Ok-ask.ensures.asks) c.in-Ok-ask-2.ensures.asks

pub returns-in-Err-ask-2-clause-ported : goal.returns-in-Err-ask-2-clause-ported
returns-in-Err-ask-2-clause-ported g c =
    does_then _ _ _ _ _ _ _ _ _ (λ es fs p q. finds_second c.args.port c.args.xid c.args.prot c.in-Ok-ask.mount (Err c.in-Err-ask-2.fault) es fs c.requires p q)
    (does_then _ _ _ _ _ _ _ _ _ (λ es fs p q. finds_first c.args.port c.args.xid c.args.prot c.in-Ok-ask.mount es fs p q) c.in-Ok.ensures.does c.in-Ok-ask.ensures.asks) c.in-Err-ask-2.ensures.asks
