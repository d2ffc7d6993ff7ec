use Rattle.core_answers.proofs.rows.ListStory.{lists-shown}
use Rattle.core_answers.proofs.lists_are_shown.Goals as goal

pub returns : goal.returns
returns c = lists-shown
