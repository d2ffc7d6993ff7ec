use Rattle.std.proofs.Common.{arith}
use Rattle.script_batches.proofs.Kept.{idle-long, idle-short}
use Rattle.script_batches.proofs.lines.is_idle.Goals as goal

pub returns-then-text-lt-KEPT : goal.returns-then-text-lt-KEPT
returns-then-text-lt-KEPT c = idle-short c.args.text.now _ (let short = c.if-text-lt-KEPT.true in omega (arith, short)) c.all_skipped.ensures

pub returns-else-text-lt-KEPT : goal.returns-else-text-lt-KEPT
returns-else-text-lt-KEPT c = idle-long c.args.text.now (let long = c.if-text-lt-KEPT.false in omega (arith, long))
