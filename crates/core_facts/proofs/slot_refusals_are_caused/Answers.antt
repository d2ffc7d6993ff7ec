use Rattle.core_facts.proofs.SlotTheorems.{places-caused}
use Rattle.core_facts.proofs.slot_refusals_are_caused.Goals as goal

pub returns : goal.returns
returns c = places-caused
