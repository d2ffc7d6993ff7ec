use Rattle.core_session.proofs.delays.Rows.{busy-rows-roomed}
use Rattle.core_session.proofs.busy_refusals_have_rows_or_make_room.Goals as goal

pub returns : goal.returns
returns c = busy-rows-roomed
