-- How many of its calls an operation on a file may still ask for in vain, and then go on.
use Rattle.std.specs.Prelude.{ℕ}
use Rattle.file_ops.specs.Endings.{sync_left, write_left, close_left, put_left}
use Rattle.op_machines.specs.declared.file_machine.FileMachine.{FileMachine}
use Rattle.op_machines.specs.declared.file_machine.FileMachine.TheVariants as machines

abbrev pub calls_left : FileMachine → ℕ
calls_left (machines.Write write) = write_left write.state
calls_left (machines.Sync sync) = sync_left sync.state
calls_left (machines.Close close) = close_left close.state
calls_left (machines.Put put) = put_left put.state put.write.state
calls_left machine = 0
