use Rattle.std.proofs.Common.{arith}
use Rattle.rpc_message.proofs.Written.{refused_written}
use Rattle.rpc_message.proofs.reply.write_refused.Goals as goal

pub returns-clause-spelled : goal.returns-clause-spelled
returns-clause-spelled c = refused_written c.args.xid c.args.stat c.args.low c.args.high (omega (arith, c.ranges.xid)) (omega (arith, c.ranges.low)) (omega (arith, c.ranges.high)) c.requires.refused c.requires.known c.requires.plain
