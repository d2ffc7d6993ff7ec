use Rattle.rpc_record.proofs.Untold.{untold}
use Rattle.rpc_record.proofs.stream_link.StreamLinkLink.tells.Goals as goal

pub returns : goal.returns
returns g c = rw (← c.self.view_is) (untold c.tells.result _ c.tells.ensures)
