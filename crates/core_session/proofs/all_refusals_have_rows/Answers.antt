use Rattle.core_session.proofs.endings.Endings.{refusals-all-rowed}
use Rattle.core_session.proofs.all_refusals_have_rows.Goals as goal

pub returns : goal.returns
returns c = refusals-all-rowed
