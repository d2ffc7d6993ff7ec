use Rattle.core_facts.proofs.LaneMarks.{reached-lanes, lanes-under-way}
use Rattle.core_facts.proofs.lanes_are_under_way.Goals as goal

pub returns : goal.returns
returns c machine_of setup h v r = lanes-under-way h v (reached-lanes machine_of setup h v r)
