use Rattle.core_answers.proofs.rows.ListStory.{lists-ask}
use Rattle.core_answers.proofs.lists_calls_are_asked.Goals as goal

pub returns : goal.returns
returns c = lists-ask
