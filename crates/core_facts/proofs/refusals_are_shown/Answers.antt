use Rattle.core_facts.proofs.Refusals.{refusals-shown}
use Rattle.core_facts.proofs.refusals_are_shown.Goals as goal

pub returns : goal.returns
returns c = refusals-shown
