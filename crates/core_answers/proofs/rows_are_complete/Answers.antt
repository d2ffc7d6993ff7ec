use Rattle.core_answers.proofs.completes.Completing.{rows-complete}
use Rattle.core_answers.proofs.rows_are_complete.Goals as goal

pub returns : goal.returns
returns c = rows-complete
