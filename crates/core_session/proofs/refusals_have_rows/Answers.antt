use Rattle.core_session.proofs.outcomes.Refusals.{refusal-rows}
use Rattle.core_session.proofs.refusals_have_rows.Goals as goal

pub returns : goal.returns
returns c = refusal-rows
