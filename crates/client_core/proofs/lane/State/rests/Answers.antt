use Rattle.client_core.proofs.lane.State.rests.Goals as goal

pub returns-in-Busy : goal.returns-in-Busy
returns-in-Busy c = rw c.in-Busy.is c.rests.ensures

pub returns-in-Over : goal.returns-in-Over
returns-in-Over c = rw c.in-Over.is tt
