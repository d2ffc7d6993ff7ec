use Rattle.core_answers.proofs.refusals.OwnRows.{refusals-rowed}
use Rattle.core_answers.proofs.refusals_have_their_rows.Goals as goal

pub returns : goal.returns
returns c = refusals-rowed
