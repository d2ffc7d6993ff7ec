use Rattle.std.proofs.Common.{arith}
use Rattle.rpc_message.proofs.Written.{accepted_written}
use Rattle.rpc_message.proofs.reply.write_accepted.Goals as goal

pub returns-clause-spelled : goal.returns-clause-spelled
returns-clause-spelled c = accepted_written c.args.xid (omega (arith, c.ranges.xid))
