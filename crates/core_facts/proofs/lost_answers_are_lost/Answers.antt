use Rattle.core_facts.proofs.LostAnswers.{lost-answers}
use Rattle.core_facts.proofs.lost_answers_are_lost.Goals as goal

pub returns : goal.returns
returns c = lost-answers
