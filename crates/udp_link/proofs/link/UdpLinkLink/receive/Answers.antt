use Rattle.udp_link.proofs.WaitTurns.{waited_tells, waited_cause}
use Rattle.udp_link.proofs.link.UdpLinkLink.receive.Goals as goal

pub returns-clause-told : goal.returns-clause-told
returns-clause-told g c = waited_tells _ _ _ _ _ c.wait.ensures.waited

pub returns-clause-cause : goal.returns-clause-cause
returns-clause-cause g c = waited_cause g.D.Datagrams.told _ _ _ _ c.wait.ensures.waited
