use Rattle.rpc_record.proofs.Untold.{unstreamed}
use Rattle.rpc_record.proofs.line.Line.tells.Goals as goal

pub returns : goal.returns
returns g c = rw (← c.self.view_is) (unstreamed c.tells.result _ (g.W.Wire.placed c.self.inside.wire) c.tells.ensures)
