use Rattle.core_counts.proofs.coarse.Along.{writes-were-long}
use Rattle.core_counts.proofs.writes_were_long.Goals as goal

pub returns : goal.returns
returns c = writes-were-long
