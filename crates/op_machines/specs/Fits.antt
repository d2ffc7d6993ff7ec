-- What holds of an operation as long as it is under way.
use Rattle.std.specs.Prelude.{◌≤◌, length}
use Rattle.op_machines.specs.declared.machine.Machine.{Machine}
use Rattle.op_machines.specs.declared.machine.Machine.TheVariants as machines
use Rattle.op_machines.specs.declared.name_machine.NameMachine.{NameMachine}
use Rattle.op_machines.specs.declared.name_machine.NameMachine.TheVariants as names
use Rattle.op_machines.specs.FileFits.{FileFits}
use Rattle.op_machines.specs.Openers.{file_of}

-- SYMLINK can carry the target (RFC 1813, section 2.4: a path has a bound of the implementation's own)
abbrev pub NameFits : NameMachine → Type 0
NameFits (names.SymLink m) = length m.target ≤ 1024
NameFits machine = Unit {0}

-- The bytes that are to be written end within all places of a file.
abbrev pub Fits : Machine → Type 0
Fits (machines.File m) = FileFits m
Fits (machines.Path m) = FileFits (file_of m.opener)
Fits (machines.Name m) = NameFits m
