use Rattle.core_facts.proofs.Noting.{answers-first}
use Rattle.core_facts.proofs.answers_come_first.Goals as goal

pub returns : goal.returns
returns c = answers-first
