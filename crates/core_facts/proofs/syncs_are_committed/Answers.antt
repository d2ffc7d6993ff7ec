use Rattle.core_facts.proofs.Syncing.{syncs-committed}
use Rattle.core_facts.proofs.syncs_are_committed.Goals as goal

pub returns : goal.returns
returns c = syncs-committed
