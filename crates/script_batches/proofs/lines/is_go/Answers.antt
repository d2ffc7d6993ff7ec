use Rattle.std.proofs.Common.{arith}
use Rattle.script_batches.proofs.Kept.{go-long, go-short}
use Rattle.script_batches.proofs.lines.is_go.Goals as goal

pub returns-then-line-lt-KEPT : goal.returns-then-line-lt-KEPT
returns-then-line-lt-KEPT c = go-short c.args.line.now _ (let short = c.if-line-lt-KEPT.true in omega (arith, short)) c.begins_go.ensures

pub returns-else-line-lt-KEPT : goal.returns-else-line-lt-KEPT
returns-else-line-lt-KEPT c = go-long c.args.line.now (let long = c.if-line-lt-KEPT.false in omega (arith, long))
