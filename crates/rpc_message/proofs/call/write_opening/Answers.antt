use Rattle.std.proofs.Common.{arith}
use Rattle.rpc_message.proofs.Written.{opening_written}
use Rattle.rpc_message.proofs.call.write_opening.Goals as goal

pub returns-clause-spelled : goal.returns-clause-spelled
returns-clause-spelled c = opening_written c.args.xid (omega (arith, c.ranges.xid))
