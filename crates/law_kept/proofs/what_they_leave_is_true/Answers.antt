use Rattle.law_kept.proofs.Sessions.{leave-true}
use Rattle.law_kept.proofs.what_they_leave_is_true.Goals as goal

pub returns : goal.returns
returns c = leave-true
