use Rattle.std.proofs.Common.{arith}
use Rattle.rpc_message.proofs.Written.{program_written}
use Rattle.rpc_message.proofs.call.write_program.Goals as goal

pub returns-clause-spelled : goal.returns-clause-spelled
returns-clause-spelled c = program_written c.args.prog c.args.vers c.args.proc (omega (arith, c.ranges.prog)) (omega (arith, c.ranges.vers)) (omega (arith, c.ranges.proc))
