use Rattle.std.proofs.Common.{arith}
use Rattle.mount_calls.proofs.Laws.{failure_written}
use Rattle.mount_calls.proofs.reply.write_mnt_fail.Goals as goal

pub returns-clause-spelled : goal.returns-clause-spelled
returns-clause-spelled c = failure_written c.args.stat c.requires (omega (arith, c.ranges.stat))
