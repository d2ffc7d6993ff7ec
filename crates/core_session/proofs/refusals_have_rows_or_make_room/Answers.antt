use Rattle.core_session.proofs.outcomes.AllRows.{refusals-roomed}
use Rattle.core_session.proofs.refusals_have_rows_or_make_room.Goals as goal

pub returns : goal.returns
returns c = refusals-roomed
