use Rattle.std.proofs.Common.{arith}
use Rattle.batch_runs.proofs.LostRuns.{status-none, status-some}
use Rattle.batch_runs.proofs.lost.lost_status.Goals as goal

pub returns-then-count-eq0-clause-is : goal.returns-then-count-eq0-clause-is
returns-then-count-eq0-clause-is c = status-none c.args.script.now (omega (arith, c.count.ensures, c.if-count-eq0.true))

pub returns-else-count-eq0-clause-is : goal.returns-else-count-eq0-clause-is
returns-else-count-eq0-clause-is c = status-some c.args.script.now (λ e. c.if-count-eq0.false (omega (arith, c.count.ensures, e)))
