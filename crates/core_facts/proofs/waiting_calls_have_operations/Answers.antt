use Rattle.op_machines.specs.Begun.{machine_of}
use Rattle.core_facts.proofs.AllCounts.{begins-unbegun}
use Rattle.core_facts.proofs.Owning.{reached-owned}
use Rattle.core_facts.proofs.waiting_calls_have_operations.Goals as goal

pub returns : goal.returns
returns c m setup h v r found = reached-owned (machine_of m) (begins-unbegun m) setup h v r found
