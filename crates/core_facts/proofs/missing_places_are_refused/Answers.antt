use Rattle.core_facts.proofs.SlotTheorems.{places-exact}
use Rattle.core_facts.proofs.missing_places_are_refused.Goals as goal

pub returns : goal.returns
returns c = places-exact
