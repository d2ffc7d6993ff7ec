use Rattle.std.proofs.Common.{arith}
use Rattle.rpc_message.proofs.Written.{denied_written}
use Rattle.rpc_message.proofs.reply.write_denied.Goals as goal

pub returns-clause-spelled : goal.returns-clause-spelled
returns-clause-spelled c = denied_written c.args.xid c.args.stat c.args.first c.args.second (omega (arith, c.ranges.xid)) (omega (arith, c.ranges.first)) (omega (arith, c.ranges.second)) c.requires.known c.requires.plain
