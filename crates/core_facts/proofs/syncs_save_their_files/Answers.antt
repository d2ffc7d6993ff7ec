use Rattle.core_facts.proofs.syncs_save_their_files.Goals as goal
use Rattle.core_facts.proofs.SlotTheorems.{syncs-ok}

pub returns : goal.returns
returns c = syncs-ok
