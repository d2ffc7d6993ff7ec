use Rattle.core_facts.proofs.slots_hold_opens.Goals as goal
use Rattle.core_facts.proofs.SlotTheorems.{slots-hold-opens}

pub returns : goal.returns
returns c = slots-hold-opens
