use Rattle.core_session.proofs.delays.Rows.{busy-rows}
use Rattle.core_session.proofs.busy_refusals_have_rows.Goals as goal

pub returns : goal.returns
returns c = busy-rows
