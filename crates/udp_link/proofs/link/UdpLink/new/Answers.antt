use Rattle.udp_link.proofs.Begins.{begins_told}
use Rattle.udp_link.proofs.AfterCalls.{begins_honest}
use Rattle.udp_link.proofs.link.UdpLink.new.Goals as goal

pub returns-clause-begun : goal.returns-clause-begun
returns-clause-begun g c = begins_told (g.D.Datagrams.told c.args.over) _ _ c.forget_places.ensures.told c.forget_places.ensures.placed

pub returns-clause-honest : goal.returns-clause-honest
returns-clause-honest g c = begins_honest g.D.Datagrams.told g.D.Datagrams.honest g.met.D.Datagrams.lawful c.args.over _ _ c.forget_places.ensures.told c.forget_places.ensures.placed c.forget_places.ensures.honest
