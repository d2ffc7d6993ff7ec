use Rattle.write_back.proofs.Numbers.{free_is}
use Rattle.slow_bodies.proofs.kept_back.KeptBack.is_free.Goals as goal

pub returns : goal.returns
returns c = rw (← c.self.view_is) (free_is _ c.in_flight.result c.is_none.result c.in_flight.ensures c.is_none.ensures)
