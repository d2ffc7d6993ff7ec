use Rattle.op_machines.specs.Begun.{machine_of}
use Rattle.core_facts.proofs.AllCounts.{begins-unbegun}
use Rattle.core_facts.proofs.Hearing.{reached-heard}
use Rattle.core_facts.proofs.replies_are_heard.Goals as goal

pub returns : goal.returns
returns c m setup h old r found rec new t xid call named waits =
    reached-heard (machine_of m) (begins-unbegun m) setup h old r found rec new t xid call named waits
