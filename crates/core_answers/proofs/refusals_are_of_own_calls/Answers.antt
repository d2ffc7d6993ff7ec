use Rattle.core_answers.proofs.refusals.OwnRows.{refusals-owned}
use Rattle.core_answers.proofs.refusals_are_of_own_calls.Goals as goal

pub returns : goal.returns
returns c = refusals-owned
