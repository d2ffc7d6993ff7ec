-- What holds of an operation on a file as long as it is under way.
use Rattle.std.specs.Prelude.{◌≤◌, ◌+◌, ◌-◌, ◌^◌, length}
use Rattle.file_ops.specs.declared.write_file.WriteFile.{WriteFile}
use Rattle.file_ops.specs.WriteFile.{text_bytes}
use Rattle.op_machines.specs.declared.file_machine.FileMachine.{FileMachine}
use Rattle.op_machines.specs.declared.file_machine.FileMachine.TheVariants as machines

-- its bytes end within all places of a file (RFC 1813, section 2.5: offsets have 64 bits)
abbrev pub FitsIn : WriteFile → Type 0
FitsIn write = write.offset + length (text_bytes write.text) ≤ 2 ^ 63 - 1

abbrev pub FileFits : FileMachine → Type 0
FileFits (machines.Write write) = FitsIn write
FileFits (machines.Put put) = FitsIn put.write
FileFits machine = Unit {0}
