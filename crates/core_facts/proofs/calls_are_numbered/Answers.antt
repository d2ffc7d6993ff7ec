use Rattle.core_facts.proofs.Rows.{reached-rows}
use Rattle.core_facts.proofs.calls_are_numbered.Goals as goal

pub returns : goal.returns
returns c machine_of setup h v r = (reached-rows machine_of setup h v r).numbered
