use Rattle.core_session.proofs.calls.Whole.{calls-asked-but}
use Rattle.core_session.proofs.calls_are_asked_but_for_room_and_removals.Goals as goal

pub returns : goal.returns
returns c = calls-asked-but
