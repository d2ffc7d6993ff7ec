use Rattle.core_facts.proofs.Rows.{reached-rows}
use Rattle.core_facts.proofs.waiting_calls_were_sent.Goals as goal

pub returns : goal.returns
returns c machine_of setup h v r = (reached-rows machine_of setup h v r).rows
