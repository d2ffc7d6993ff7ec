use Rattle.law_kept.proofs.Sessions.{begin-true}
use Rattle.law_kept.proofs.later_sessions_begin_true.Goals as goal

pub returns : goal.returns
returns g c = begin-true g.D.Disk.tells g.D.Disk.may_leave
