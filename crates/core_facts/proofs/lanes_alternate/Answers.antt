use Rattle.core_facts.proofs.LaneMarks.{reached-lanes, marks-alternate}
use Rattle.core_facts.proofs.lanes_alternate.Goals as goal

pub returns : goal.returns
returns c machine_of setup h v r = marks-alternate h v (reached-lanes machine_of setup h v r)
