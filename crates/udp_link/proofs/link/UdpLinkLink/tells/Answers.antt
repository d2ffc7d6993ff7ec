use Rattle.udp_link.proofs.Untold.{untold}
use Rattle.udp_link.proofs.link.UdpLinkLink.tells.Goals as goal

pub returns : goal.returns
returns g c = rw (← c.self.view_is) (untold c.tells.result _ (g.D.Datagrams.placed c.self.inside.over) c.tells.ensures)
