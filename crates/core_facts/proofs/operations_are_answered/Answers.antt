use Rattle.core_facts.proofs.Coming.{none-unanswered}
use Rattle.core_facts.proofs.operations_are_answered.Goals as goal

pub returns : goal.returns
returns c = none-unanswered
