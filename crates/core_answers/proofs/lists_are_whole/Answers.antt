use Rattle.core_answers.proofs.paths.ListsWhole.{lists-whole}
use Rattle.core_answers.proofs.lists_are_whole.Goals as goal

pub returns : goal.returns
returns c = lists-whole
